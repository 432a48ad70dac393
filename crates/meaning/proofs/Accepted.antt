-- What may be concluded from `Ok n`: all that the readers and the lowering go by. Each test that refuses was passed, so the answer is
-- taken apart from the outside in, and `tree_size` adds the size of the unfolded tree.
use mathlib.Core.Path.{◌≡◌, refl, sym}
use mathlib.Core.Bool.{Bool, true, false, ◌&&◌, cond}
use mathlib.Core.List.{List}
use Prim.Native.Nat.{ℕ, ◌+◌, ◌-◌, ◌*◌, ◌<◌, ◌≤◌}
use native.Mathlib.Omega.{arith}
use lib.ListN.{length}
use lib.Dec.{leb, ltb, eqb}
use borrow.Author.Tests.{ltb-true, ltb-false, leb-true, eqb-true}
use Rattle.meaning.specs.Base.{count, lowest}
use Rattle.meaning.specs.Fields.{fields, left}
use Rattle.meaning.specs.Grammar.{wide_marks, shape_at}
use Rattle.meaning.specs.Tree.{all_kids, tree_at, depth_of, depth_at}
use Rattle.meaning.specs.Check.{framed, unless, work_for, checked_work, checked_fields, checked_tree, checked}
use Rattle.meaning.specs.declared.Cause.{Cause}
use Rattle.meaning.specs.declared.Cause.TheVariants.{Frame, Many, Work}
use Rattle.std.specs.Prelude.{Ok, Err}
use Rattle.meaning.specs.Outcome.{Outcome, refusal}
use Rattle.meaning.proofs.Lists.{and_left, and_right, lowest_all}
use Rattle.meaning.proofs.Counting.{size_by, tree_size}

-- s is a lawful tree of n nodes, and the work area is long enough
pub record Sound (s : List ℕ) (work n : ℕ) : Type 0 where
  pub nodes : n ≡ length (fields s)
  pub some : 1 ≤ length (fields s)
  pub few : length (fields s) ≤ 32768
  pub ended : length (left s) ≡ 0
  pub shapes : (j : ℕ) → j < length (fields s) → shape_at (fields s) j ≡ true
  pub once : (c : ℕ) → c < length (fields s) - 1 → count c (all_kids (wide_marks (fields s)) (fields s)) ≡ 1
  pub depths : (c : ℕ) → c < length (fields s) → depth_of (fields s) c ≤ 128
  pub room : 12288 + 16 * length (fields s) ≤ work
  pub size : size_by (fields s) (length (fields s)) (length (fields s) - 1) ≡ length (fields s)

refused_not : {c : Cause} {p n : ℕ} → Err (refusal c p) ≡ Ok n → ⊥
refused_not e = let z : ◌≡◌ {A = ℕ} 0 1 = cc in omega arith

-- a choice with a refusal on one side
unless_so : (b : Bool) (c : Cause) (p n : ℕ) (o : Outcome) → cond b (Err (refusal c p)) o ≡ Ok n → (b ≡ false) × (o ≡ Ok n)
unless_so true c p n o e = absurd (refused_not e)
unless_so false c p n o e = (refl, e)

if_so : (b : Bool) (c : Cause) (p n : ℕ) (o : Outcome) → cond b o (Err (refusal c p)) ≡ Ok n → (b ≡ true) × (o ≡ Ok n)
if_so true c p n o e = (refl, e)
if_so false c p n o e = absurd (refused_not e)

none_fails : (c : Cause) (p : ℕ → Bool) (m n : ℕ) (o : Outcome) → unless c p m o ≡ Ok n → ((j : ℕ) → j < m → p j ≡ true) × (o ≡ Ok n)
unfolding unless
none_fails c p m n o e =
    let r = unless_so (ltb (lowest p m) m) c (lowest p m) n o e in
    (lowest_all p m (ltb-false (lowest p m) m r.0), r.1)

number_is : {m n : ℕ} → ◌≡◌ {A = Outcome} (Ok m) (Ok n) → m ≡ n
number_is e = cc

pub accepted : (mode : ℕ) (s : List ℕ) (work n : ℕ) → checked mode s work ≡ Ok n → Sound s work n
unfolding checked checked_tree framed checked_fields checked_work work_for tree_at depth_at
accepted mode s work n e =
    let m = if_so (leb mode 1) _ _ n (checked_tree mode s work) e in
    let a = if_so (ltb 0 (length (fields s)) && eqb (length (left s)) 0) Frame (length (fields s)) n
    (cond (ltb 32768 (length (fields s))) (Err (refusal Many 32768)) (checked_fields mode (fields s) work)) m.1 in
    let b = unless_so (ltb 32768 (length (fields s))) Many 32768 n (checked_fields mode (fields s) work) a.1 in
    let d = none_fails _ (shape_at (fields s)) (length (fields s)) n _ b.1 in
    let r = none_fails _ _ (length (fields s)) n _ d.1 in
    let f = none_fails _ (tree_at (fields s)) (length (fields s) - 1) n _ r.1 in
    let g = none_fails _ (depth_at (fields s)) (length (fields s)) n _ f.1 in
    let h = unless_so (ltb work (12288 + 16 * length (fields s))) Work 0 n (Ok (length (fields s))) g.1 in
    let p : 1 ≤ length (fields s) = ltb-true 0 (length (fields s)) (and_left (ltb 0 (length (fields s))) (eqb (length (left s)) 0) a.0) in
    let o : (c : ℕ) → c < length (fields s) - 1 → count c (all_kids (wide_marks (fields s)) (fields s)) ≡ 1 = λ c l. eqb-true _ 1 (f.0 c l) in
    record {
      nodes = sym (number_is h.1);
      some = p;
      few = ltb-false 32768 (length (fields s)) b.0;
      ended = eqb-true _ 0 (and_right (ltb 0 (length (fields s))) (eqb (length (left s)) 0) a.0);
      shapes = d.0;
      once = o;
      depths = λ c l. leb-true (depth_of (fields s) c) 128 (g.0 c l);
      room = ltb-false work (12288 + 16 * length (fields s)) h.0;
      size = tree_size (fields s) d.0 p o;
    }
