-- 01, "Outcome", and 02: refusals 21, 1 to 3, 27, 4 to 6, checked over the whole input in that order.
use Rattle.std.specs.Prelude.{ℕ, ◌+◌, ◌-◌, ◌*◌, Bool, not, ◌&&◌, cond, List, length, leb, ltb, eqb, Ok, Err}
use Rattle.meaning.specs.Base.{lowest}
use Rattle.meaning.specs.Fields.{Field, field_at, fields, left}
use Rattle.meaning.specs.Grammar.{shape_at}
use Rattle.meaning.specs.Tree.{tree_at, depth_at}
use Rattle.meaning.specs.declared.Cause.{Cause}
use Rattle.meaning.specs.declared.Cause.TheVariants.{Frame, Many, Shape, Tree, Depth, Work, Mode, Retired}
use Rattle.meaning.specs.Outcome.{Outcome, refusal}

-- there is a field, and nothing stands after the last whole one
unfoldable pub framed : List ℕ → Bool
framed s = ltb 0 (length (fields s)) && eqb (length (left s)) 0

-- refused where a number below n fails the test, at the lowest such number; else what is answered otherwise
unfoldable pub unless : Cause → (ℕ → Bool) → (n : ℕ) → Outcome → Outcome
unless cause p n other = cond (ltb (lowest p n) n) (Err (refusal cause (lowest p n))) other

-- the words of a work area that n nodes ask
unfoldable pub work_for : ℕ → ℕ
work_for n = 12288 + 16 * n

-- 6 Work
unfoldable pub checked_work : (n work : ℕ) → Outcome
checked_work n work = cond (ltb work (work_for n)) (Err (refusal Work 0)) (Ok n)

-- 02, E11: nodes of this tag are lowered in this mode; in mode 1 a class, tag 1D, is not
unfoldable pub current : (mode tag : ℕ) → Bool
current mode tag = not (eqb mode 1 && eqb tag 0x1D)

-- the same of node i
unfoldable pub current_at : (mode : ℕ) → List Field → ℕ → Bool
current_at mode fs i = current mode (field_at fs i).tag

-- 3 Shape, 27 Retired, 4 Tree, 5 Depth
unfoldable pub checked_fields : (mode : ℕ) → List Field → (work : ℕ) → Outcome
checked_fields mode fs work =
    unless Shape (shape_at fs) (length fs)
    (unless Retired (current_at mode fs) (length fs)
    (unless Tree (tree_at fs) (length fs - 1)
    (unless Depth (depth_at fs) (length fs)
    (checked_work (length fs) work))))

-- 1 Frame, 2 Many; accepted with the number of nodes
unfoldable pub checked_tree : (mode : ℕ) (tree : List ℕ) (work : ℕ) → Outcome
checked_tree mode tree work =
    cond (framed tree)
    (cond (ltb 32768 (length (fields tree))) (Err (refusal Many 32768)) (checked_fields mode (fields tree) work))
    (Err (refusal Frame (length (fields tree))))

-- 02, E2: 21 Mode, before Frame
unfoldable pub checked : (mode : ℕ) (tree : List ℕ) (work : ℕ) → Outcome
checked mode tree work = cond (leb mode 1) (checked_tree mode tree work) (Err (refusal Mode 0))
