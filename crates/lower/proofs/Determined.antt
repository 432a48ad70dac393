-- Promise strength: any two outcomes that one promise allows are equal. `Post` is the promise itself, as it stands in src/: of what is lent (κs, args),
-- what is returned (r) and what is left behind each reference (s).
use mathlib.Core.Path.{◌≡◌, sym, ◌∙◌}
use Rattle.lower.proofs.lower.Reads as lower

-- the answer, the work area, the output
pub lower_determined : (κs : _) (args : _) (r r' : _) (s s' : _) → lower.Post κs args r s → lower.Post κs args r' s'
    → (r ≡ r') × (s.1.0.now ≡ s'.1.0.now) × (s.1.1.0.now ≡ s'.1.1.0.now)
lower_determined κs args r r' s s' p q = (p.0 ∙ sym q.0, p.1.0 ∙ sym q.1.0, p.1.1 ∙ sym q.1.1)
