-- Promise strength: any two outcomes that one promise allows are equal. `Post` is the promise itself, as it stands in src/: of what is lent (κs, args),
-- what is returned (r) and what is left behind each reference (s).
use mathlib.Core.Path.{◌≡◌, sym, ◌∙◌}
use Rattle.code.proofs.one.roll_back.Reads as roll_back

pub roll_back_determined : (κs : _) (args : _) (r r' : _) (s s' : _) → roll_back.Post κs args r s → roll_back.Post κs args r' s' → r ≡ r'
roll_back_determined κs args r r' s s' p q = p ∙ sym q
