-- Promise strength: any two outcomes that the promise of `decimal` allows are equal.
use mathlib.Core.Path.{◌≡◌, sym, ◌∙◌}
use Rattle.programs.proofs.decimal.Reads as decimal

pub decimal_determined : (κs : _) (args : _) (r r' : _) (s s' : _) → decimal.Post κs args r s → decimal.Post κs args r' s' → r ≡ r'
decimal_determined κs args r r' s s' p q = p ∙ sym q
