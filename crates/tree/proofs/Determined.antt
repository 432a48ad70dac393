-- Promise strength: any two outcomes that one promise allows are equal. `Post` is the promise itself, as it stands in src/: of what is lent (κs, args),
-- what is returned (r) and what is left behind each reference (s).
use mathlib.Core.Path.{◌≡◌, sym, ◌∙◌}
use Rattle.tree.proofs.check_in.Reads as check-in
use Rattle.tree.proofs.check.Reads as check

-- the outcome, the scratch
pub check_in_determined : (κs : _) (args : _) (r r' : _) (s s' : _) → check-in.Post κs args r s → check-in.Post κs args r' s' → (r ≡ r') × (s.1.0.now ≡ s'.1.0.now)
check_in_determined κs args r r' s s' p q = (p.0 ∙ sym q.0, p.1 ∙ sym q.1)

pub check_determined : (κs : _) (args : _) (r r' : _) (s s' : _) → check.Post κs args r s → check.Post κs args r' s' → r ≡ r'
check_determined κs args r r' s s' p q = p ∙ sym q
