-- Mode 0's answer is the check in mode 0, and what 27 makes of it (`retired_over`) the check in mode 1: where it is 1, 2 or 3 the tests before 27
-- decide in both modes alike; else these were passed, and what is left, 4, 5, 6 or the nodes, is not early (`late`). A walk over the fields finds the
-- lowest class (`Sought`).
use mathlib.Core.Path.{◌≡◌, refl, sym, ap, ◌∙◌}
use mathlib.Core.Bool.{Bool, true, false, ◌&&◌, cond}
use mathlib.Core.List.{List}
use Prim.Native.Nat.{ℕ, ◌+◌, ◌-◌, ◌≤◌, ◌<◌}
use native.Mathlib.Nat.{not-suc-le-zero}
use native.Mathlib.Omega.{arith}
use lib.ListN.{length, get_or}
use lib.Dec.{ltb}
use borrow.Author.Count.{below_more}
use borrow.Author.Tests.{ne_eqb}
use Rattle.meaning.specs.Base.{lowest}
use Rattle.meaning.specs.Fields.{Field, no_field, span, whole, fields}
use Rattle.meaning.specs.Grammar.{shape_at}
use Rattle.meaning.specs.Tree.{tree_at, depth_at}
use Rattle.meaning.specs.Check.{framed, unless, work_for, checked_work, current, current_at, checked_fields, checked_tree, checked}
use Rattle.meaning.specs.declared.Cause.TheVariants.{Frame, Many, Shape, Tree, Depth, Work, Retired}
use Rattle.std.specs.Prelude.{Ok, Err}
use Rattle.meaning.specs.Outcome.{Outcome, refusal}
use Rattle.meaning.specs.Answer.{answer}
use Rattle.meaning.specs.declared.Answer.{Answer}
use Rattle.meaning.proofs.Lists.{lowest_found, lowest_none}
use Rattle.meaning.proofs.FieldLaws.{FieldWalk, from, walk_start, walk_part, walk_end, walk_at, walk_below}
use Rattle.meaning.proofs.Modes.{unless_yes, unless_no, fields_0, in_mode}
use Rattle.tree.specs.Retired.{early, retired_over}

-- 4, 5, 6 or the number of nodes
abbrev owners : List Field → (work : ℕ) → Outcome
owners fs work = unless Tree (tree_at fs) (length fs - 1) (unless Depth (depth_at fs) (length fs) (checked_work (length fs) work))

late : (fs : List Field) (work : ℕ) → early (owners fs work) ≡ false
unfolding early unless checked_work
late fs work = go (ltb (lowest (tree_at fs) (length fs - 1)) (length fs - 1)) (ltb (lowest (depth_at fs) (length fs)) (length fs)) (ltb work (work_for (length fs)))
  where
    go : (a b c : Bool) → early (cond a (Err (refusal Tree (lowest (tree_at fs) (length fs - 1)))) (cond b (Err (refusal Depth (lowest (depth_at fs) (length fs)))) (cond c (Err (refusal Work 0)) (Ok (length fs))))) ≡ false
    go true b c = refl
    go false true c = refl
    go false false true = refl
    go false false false = refl

over_fields : (fs : List Field) (work : ℕ) → retired_over fs (checked_fields 0 fs work) ≡ checked_fields 1 fs work
unfolding retired_over checked_fields unless early
over_fields fs work = ap (retired_over fs) (fields_0 fs work) ∙ go (ltb (lowest (shape_at fs) (length fs)) (length fs))
  where
    go : (b : Bool) → retired_over fs (cond b (Err (refusal Shape (lowest (shape_at fs) (length fs)))) (owners fs work))
        ≡ cond b (Err (refusal Shape (lowest (shape_at fs) (length fs)))) (unless Retired (current_at 1 fs) (length fs) (owners fs work))
    go true = refl
    go false = rw (late fs work) refl

over_tree : (s : List ℕ) (work : ℕ) → retired_over (fields s) (checked_tree 0 s work) ≡ checked_tree 1 s work
unfolding checked_tree retired_over early
over_tree s work = go (framed s) (ltb 32768 (length (fields s)))
  where
    go : (a b : Bool) → retired_over (fields s) (cond a (cond b (Err (refusal Many 32768)) (checked_fields 0 (fields s) work)) (Err (refusal Frame (length (fields s)))))
        ≡ cond a (cond b (Err (refusal Many 32768)) (checked_fields 1 (fields s) work)) (Err (refusal Frame (length (fields s))))
    go false b = refl
    go true true = refl
    go true false = over_fields (fields s) work

module _ (mode : ℕ) (s : List ℕ) (work : ℕ) (o : Outcome) (e : o ≡ checked_tree 0 s work) where
  pub checked_0 : mode ≡ 0 → o ≡ checked mode s work
  checked_0 m = e ∙ rw m (in_mode 0 s work (omega arith))

  pub checked_1 : mode ≤ 1 → (mode ≡ 0 → ⊥) → (r : Outcome) → r ≡ retired_over (fields s) o → r ≡ checked mode s work
  checked_1 h m r f = let one : mode ≡ 1 = omega (arith, m) in
      f ∙ ap (retired_over (fields s)) e ∙ over_tree s work ∙ rw one (in_mode 1 s work (omega arith))

-- ---- the walk

-- the test of the number
pub number_early : (o : Outcome) (a : Answer) (b : Bool) → a ≡ answer o → (ltb 0 a.number && ltb a.number 4) ≡ b → early o ≡ b
unfolding early
number_early o a b e h = ap (λ (x : Answer). ltb 0 x.number && ltb x.number 4) (sym e) ∙ h

pub over_early : (fs : List Field) (o : Outcome) → early o ≡ true → o ≡ retired_over fs o
unfolding retired_over
over_early fs o e = rw e refl

-- t is the file s from field i on, and no field before it is a class
pub record Sought (s t : List ℕ) (i : ℕ) : Type 0 where
  pub walk : FieldWalk s i t
  pub none : (k : ℕ) → k < i → current_at 1 (fields s) k ≡ true

pub sought_start : (s : List ℕ) → Sought s s 0
sought_start s = record { walk = walk_start s; none = λ k h. absurd (not-suc-le-zero h) }

module _ (s t : List ℕ) (i : ℕ) (v : Sought s t i) where
  module _ (w : whole t ≡ true) where
    here : current_at 1 (fields s) i ≡ current 1 (get_or t 0 0)
    unfolding current_at
    here = ap (λ (f : Field). current 1 f.tag) (walk_at s i t no_field v.walk w)

    pub sought_more : (get_or t 0 0 ≡ 0x1D → ⊥) → (k : ℕ) → k ≡ span t → Sought s (from k t) (i + 1)
    unfolding current
    sought_more q k e = record {
      walk = walk_part s i t k v.walk w e;
      none = below_more (λ (j : ℕ). current_at 1 (fields s) j ≡ true) i v.none (here ∙ rw (ne_eqb (get_or t 0 0) 0x1D q) refl);
    }

    pub sought_found : (o : Outcome) → early o ≡ false → get_or t 0 0 ≡ 0x1D → Err (refusal Retired i) ≡ retired_over (fields s) o
    unfolding retired_over current
    sought_found o e q = let below = walk_below s i t v.walk w in
        rw e (unless_yes Retired (current_at 1 (fields s)) (length (fields s)) i o (sym (lowest_found _ _ i below v.none (here ∙ rw q refl))) below)

  pub sought_none : whole t ≡ false → (o : Outcome) → early o ≡ false → o ≡ retired_over (fields s) o
  unfolding retired_over
  sought_none w o e = let end = (walk_end s i t v.walk w).0 in let n = length (fields s) in
      rw e (unless_no Retired (current_at 1 (fields s)) n n o (sym (lowest_none _ _ (λ j h. v.none j (omega (arith, end))))) (omega arith))
