-- Promise strength: any two outcomes that one promise allows are equal. `Post` is the promise itself, as it stands in src/: of what is lent (κs, args),
-- what is returned (r) and what is left behind each reference (s).
use mathlib.Core.Path.{◌≡◌, sym, ◌∙◌}
use Rattle.walk.proofs.walk.Reads as walk

-- the answer, and the lent bytes
pub walk_determined : (κs : _) (args : _) (r r' : _) (s s' : _) → walk.Post κs args r s → walk.Post κs args r' s' → (r ≡ r') × (s.1.1.1.1.1.0.now ≡ s'.1.1.1.1.1.0.now)
walk_determined κs args r r' s s' p q = (p.0 ∙ sym q.0, p.1.0 ∙ sym q.1.0)
