-- Promise strength: any two outcomes that one promise allows are equal. `Post` is the promise itself, as it stands in src/: of what is lent (κs, args),
-- what is returned (r) and what is left behind each reference (s).
use mathlib.Core.Path.{◌≡◌, sym, ◌∙◌}
use Rattle.yengrazul.proofs.yengrazul_lower.Reads as yengrazul-lower
use Rattle.yengrazul.proofs.yengrazul_check.Reads as yengrazul-check
use Rattle.yengrazul.proofs.yengrazul_read.Reads as yengrazul-read
use Rattle.yengrazul.proofs.yengrazul_walk.Reads as yengrazul-walk
use Rattle.yengrazul.proofs.yengrazul_mend.Reads as yengrazul-mend

-- the four numbers, the work area, the output
pub yengrazul_lower_determined : (κs : _) (args : _) (r r' : _) (s s' : _) → yengrazul-lower.Post κs args r s → yengrazul-lower.Post κs args r' s'
    → (s.1.1.1.1.0.now ≡ s'.1.1.1.1.0.now) × (s.1.0.now ≡ s'.1.0.now) × (s.1.1.0.now ≡ s'.1.1.0.now)
yengrazul_lower_determined κs args r r' s s' p q = (p.0 ∙ sym q.0, p.1.0 ∙ sym q.1.0, p.1.1 ∙ sym q.1.1)

-- the three numbers
pub yengrazul_check_determined : (κs : _) (args : _) (r r' : _) (s s' : _) → yengrazul-check.Post κs args r s → yengrazul-check.Post κs args r' s' → s.1.1.1.0.now ≡ s'.1.1.1.0.now
yengrazul_check_determined κs args r r' s s' p q = p ∙ sym q

-- the two numbers
pub yengrazul_read_determined : (κs : _) (args : _) (r r' : _) (s s' : _) → yengrazul-read.Post κs args r s → yengrazul-read.Post κs args r' s' → s.1.0.now ≡ s'.1.0.now
yengrazul_read_determined κs args r r' s s' p q = p ∙ sym q

-- the five numbers, the lent bytes
pub yengrazul_walk_determined : (κs : _) (args : _) (r r' : _) (s s' : _) → yengrazul-walk.Post κs args r s → yengrazul-walk.Post κs args r' s'
    → (s.1.1.1.1.1.1.0.now ≡ s'.1.1.1.1.1.1.0.now) × (s.1.1.1.1.1.0.now ≡ s'.1.1.1.1.1.0.now)
yengrazul_walk_determined κs args r r' s s' p q = (p.0 ∙ sym q.0, p.1 ∙ sym q.1)

-- the four numbers, the output, the list
pub yengrazul_mend_determined : (κs : _) (args : _) (r r' : _) (s s' : _) → yengrazul-mend.Post κs args r s → yengrazul-mend.Post κs args r' s'
    → (s.1.1.1.0.now ≡ s'.1.1.1.0.now) × (s.1.0.now ≡ s'.1.0.now) × (s.1.1.0.now ≡ s'.1.1.0.now)
yengrazul_mend_determined κs args r r' s s' p q = (p.0 ∙ sym q.0, p.1.0 ∙ sym q.1.0, p.1.1 ∙ sym q.1.1)
