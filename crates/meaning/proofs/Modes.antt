-- What a mode changes in the check (document 02, E11). A refusal whose test no node fails hands on to the next (`unless_no`), so where no node is retired
-- the check is 01's, as it stood before there was a 27: in mode 0 (`mode_0`), and in either mode of a tree without a class (`no_class`).
use Prim.Native.Nat.{ℕ, ◌-◌, ◌<◌, ◌≤◌}
use mathlib.Core.Path.{◌≡◌, refl, sym, ap, ◌∙◌}
use mathlib.Core.Bool.{Bool, true, false, not, ◌&&◌, cond}
use mathlib.Core.List.{List}
use native.Mathlib.Omega.{arith}
use lib.ListN.{length}
use lib.Dec.{eqb, ltb}
use borrow.Author.Tests.{lt-ltb, le-ltb, lt-leb, le-leb, ne_eqb}
use Rattle.meaning.specs.Base.{lowest}
use Rattle.meaning.specs.Fields.{Field, field_at, fields}
use Rattle.meaning.specs.Grammar.{shape_at}
use Rattle.meaning.specs.Tree.{tree_at, depth_at}
use Rattle.meaning.specs.Check.{framed, unless, checked_work, current, current_at, checked_fields, checked_tree, checked}
use Rattle.meaning.specs.Answer.{Finished, finished_after, finished}
use Rattle.meaning.specs.declared.Cause.{Cause}
use Rattle.meaning.specs.declared.Cause.TheVariants.{Frame, Many, Shape, Tree, Depth, Mode, Retired}
use Rattle.std.specs.Prelude.{Err}
use Rattle.meaning.specs.Outcome.{Outcome, refusal}
use Rattle.meaning.proofs.Lists.{lowest_none}

module _ (cause : Cause) (p : ℕ → Bool) (n k : ℕ) (other : Outcome) (e : k ≡ lowest p n) where
  pub unless_yes : k < n → Err (refusal cause k) ≡ unless cause p n other
  unfolding unless
  unless_yes h = simp (← e, lt-ltb k n h)

  pub unless_no : n ≤ k → other ≡ unless cause p n other
  unfolding unless
  unless_no h = simp (← e, le-ltb k n h)

-- 21, and no 21
module _ (mode : ℕ) (tree : List ℕ) (work : ℕ) where
  pub no_mode : 1 < mode → Err (refusal Mode 0) ≡ checked mode tree work
  unfolding checked
  no_mode h = rw (lt-leb mode 1 h) refl

  pub in_mode : mode ≤ 1 → checked_tree mode tree work ≡ checked mode tree work
  unfolding checked
  in_mode h = rw (le-leb mode 1 h) refl

-- the tests of fields in 01
abbrev pub fields_01 : List Field → (work : ℕ) → Outcome
fields_01 fs work =
    unless Shape (shape_at fs) (length fs)
    (unless Tree (tree_at fs) (length fs - 1)
    (unless Depth (depth_at fs) (length fs)
    (checked_work (length fs) work)))

-- 01's refusals 1 to 6, with no word of a mode
abbrev pub checked_01 : (tree : List ℕ) (work : ℕ) → Outcome
checked_01 tree work =
    cond (framed tree)
    (cond (ltb 32768 (length (fields tree))) (Err (refusal Many 32768)) (fields_01 (fields tree) work))
    (Err (refusal Frame (length (fields tree))))

-- where no node is retired
none_retired : (mode : ℕ) (fs : List Field) (work : ℕ) → ((i : ℕ) → i < length fs → current_at mode fs i ≡ true) → checked_fields mode fs work ≡ fields_01 fs work
unfolding checked_fields
none_retired mode fs work all = let n = length fs in
    rw (← unless_no Retired (current_at mode fs) n n _ (sym (lowest_none (current_at mode fs) n all)) (omega arith)) refl

pub fields_0 : (fs : List Field) (work : ℕ) → checked_fields 0 fs work ≡ fields_01 fs work
unfolding current_at current
fields_0 fs work = none_retired 0 fs work (λ i h. refl)

module _ (mode : ℕ) (known : mode ≤ 1) (tree : List ℕ) (work : ℕ) where
  as_01 : checked_fields mode (fields tree) work ≡ fields_01 (fields tree) work → checked mode tree work ≡ checked_01 tree work
  unfolding checked_tree
  as_01 e = sym (in_mode mode tree work known) ∙ rw e refl

  -- "a tree without 1D"
  module _ (none : (i : ℕ) → i < length (fields tree) → (field_at (fields tree) i).tag ≡ 0x1D → ⊥) where
    pub no_class : checked mode tree work ≡ checked_01 tree work
    unfolding current_at current
    no_class = as_01 (none_retired mode (fields tree) work (λ i h. rw (ne_eqb (field_at (fields tree) i).tag 0x1D (none i h)) (both (eqb mode 1))))
      where
        both : (b : Bool) → not (b && false) ≡ true
        both true = refl
        both false = refl

    -- so the whole answer is as before
    pub no_class_finished : (room : ℕ) → finished mode tree work room ≡ finished_after mode (checked_01 tree work) tree room
    unfolding finished
    no_class_finished room = ap (λ (o : Outcome). finished_after mode o tree room) no_class

pub mode_0 : (tree : List ℕ) (work : ℕ) → checked 0 tree work ≡ checked_01 tree work
mode_0 tree work = as_01 0 (omega arith) tree work (fields_0 (fields tree) work)
