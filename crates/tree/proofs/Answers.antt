-- The answer, a refusal at a time: what the code finds in the scratch is what the definition of refusals 3 to 6 says.
use mathlib.Core.Path.{◌≡◌, refl, sym, ap, ◌∙◌}
use mathlib.Core.Bool.{Bool, true, false, ◌&&◌, cond}
use mathlib.Core.List.{List, ◌++◌}
use Prim.Native.Nat.{ℕ, zero, suc, min, ◌+◌, ◌-◌, ◌*◌, ◌/◌, ◌<◌, ◌≤◌}
use native.Mathlib.Omega.{arith}
use lib.ListN.{length, get_or, replicate, length-drop}
use lib.Dec.{leb, ltb}
use borrow.Author.Tests.{eqb-true, eq-eqb, ne_eqb, lt-ltb, le-ltb, lt-leb, le-leb}
use Rattle.meaning.specs.Base.{count, lowest}
use Rattle.meaning.specs.Fields.{Field, field_at, span, whole, rest, fields, left}
use Rattle.meaning.specs.Grammar.{wide_marks, shape_at}
use Rattle.meaning.specs.Tree.{kids_of, all_kids, tree_at, parent_of, depth_of, depth_at}
use Rattle.meaning.specs.Check.{framed, unless, work_for, checked_work, checked_fields, checked_tree}
use Rattle.meaning.specs.declared.Cause.TheVariants.{Frame, Many, Shape, Tree, Depth, Work}
use Rattle.std.specs.Prelude.{Ok, Err}
use Rattle.meaning.specs.Outcome.{Outcome, refusal}
use Rattle.meaning.proofs.Lists.{lowest_all, lowest_same}
use Rattle.meaning.proofs.Modes.{fields_0}
use Rattle.meaning.proofs.FieldLaws.{whole_true, whole_false, fields_whole, fields_cut}
use Rattle.meaning.proofs.Kids.{shape_tag, shape_kids, parent_above, depth_same}
use Rattle.tree.specs.Used.{few, used, zeroed, with_offsets, scratch_after}
use Rattle.tree.specs.Scratch.{once, parent_in, Owned, depth_in, Entered, shape_by, Beyond}
use Rattle.tree.proofs.Parents.{owner_is, once_is}

-- a shape by the tree's own width is its shape
pub own_shape : (fs : List Field) (n : ℕ) → lowest (shape_by (wide_marks fs) fs) n ≡ lowest (shape_at fs) n
unfolding shape_by shape_at
own_shape fs n = refl

-- ---- the words after all nodes, where every shape is right

pub record Shapely (fs : List Field) (l : List ℕ) (n : ℕ) : Type 0 where
  pub all : n ≡ length fs
  pub some : 1 ≤ n
  pub most : n ≤ 32768
  pub room : n ≤ length l
  pub shapes : n ≡ lowest (shape_at fs) n
  pub entered : Entered (wide_marks fs) fs l

module _ (fs : List Field) (l : List ℕ) (n : ℕ) (v : Shapely fs l n) where
  abbrev l₀ : List ℕ
  l₀ = v.entered.before

  good : (j : ℕ) → j < n → shape_at fs j ≡ true
  good = lowest_all (shape_at fs) n (omega (arith, v.shapes))

  good' : (j : ℕ) → j < length fs → shape_at fs j ≡ true
  good' j h = good j (omega arith)

  tag : (c : ℕ) → c < n → (field_at fs c).tag < 256
  tag c h = omega (arith, shape_tag fs c (good c h))

  none : (c : ℕ) → c < n → (j : ℕ) → j < suc c → count c (kids_of (wide_marks fs) (field_at fs j)) ≡ 0
  none c h j q = shape_kids fs j c (good j (omega arith)) (omega arith)

  -- 4: the lowest node that is not a child exactly once
  pub free_is : (k : ℕ) → k ≡ lowest (λ (c : ℕ). once (get_or l c 0)) (n - 1) → k ≡ lowest (tree_at fs) (n - 1)
  free_is k e = e ∙ lowest_same _ _ (n - 1) (λ c h. ap once (v.entered.each c (omega arith))
      ∙ once_is l₀ fs c (omega arith) (omega arith) (omega arith) (tag c (omega arith)) (none c (omega arith)))

  module _ (trees : n - 1 ≤ lowest (tree_at fs) (n - 1)) where
    is_child : (c : ℕ) → c < n - 1 → count c (all_kids (wide_marks fs) fs) ≡ 1
    unfolding tree_at
    is_child c h = eqb-true _ 1 (lowest_all (tree_at fs) (n - 1) trees c h)

    above : (c : ℕ) → c < n - 1 → (c < parent_of fs c) × (parent_of fs c < length fs)
    above c h = parent_above fs c good' (omega (arith, is_child c h))

    owner : (c : ℕ) → c < n - 1 → (256 ≤ get_or l c 0) × (parent_in l c ≡ parent_of fs c)
    owner c h = rw (v.entered.each c (omega arith)) (owner_is l₀ fs c (omega arith) (omega arith) (omega arith) (tag c (omega arith)) (none c (omega arith)) (is_child c h))

    pub owned_is : Owned l n
    owned_is = record {
      some = v.some;
      few = v.most;
      room = omega arith;
      above = λ c h. ((owner c (omega arith)).0, omega (arith, (owner c (omega arith)).1, (above c (omega arith)).0), omega (arith, (owner c (omega arith)).1, (above c (omega arith)).1));
    }

    -- 5: the lowest node that is deeper than 128
    same_depth : (c : ℕ) → c < n → depth_in l n c ≡ depth_of fs c
    unfolding depth_of depth_in
    same_depth c h = rw v.all (sym (depth_same (parent_of fs) (length fs - 1) (λ c q. ((above c (omega arith)).0, omega (arith, (above c (omega arith)).1)))
        (parent_in l) (λ c q. (owner c (omega arith)).1) (length fs) c (omega arith)))

    pub deep_is : (k : ℕ) → k ≡ lowest (λ (c : ℕ). leb (depth_in l n c) 128) n → k ≡ lowest (depth_at fs) n
    unfolding depth_at
    deep_is k e = e ∙ lowest_same _ _ n (λ c h. ap (λ (d : ℕ). leb d 128) (same_depth c h))

-- ---- refusals 1 and 2

module _ (s : List ℕ) (work n after : ℕ) (en : n ≡ length (fields s)) (ea : after ≡ length (left s)) where
  pub no_fields : n ≡ 0 → Err (refusal Frame n) ≡ checked_tree 0 s work
  unfolding checked_tree framed
  no_fields e = simp (← en, e)

  pub cut_off : (after ≡ 0 → ⊥) → Err (refusal Frame n) ≡ checked_tree 0 s work
  unfolding checked_tree framed
  cut_off h = simp (← en, ← ea, ne_eqb after 0 h) (go (ltb 0 n))
    where
      go : (b : Bool) → Err (refusal Frame n) ≡ cond (b && false) (cond (ltb 32768 n) (Err (refusal Many 32768)) (checked_fields 0 (fields s) work)) (Err (refusal Frame n))
      go true = refl
      go false = refl

  module _ (h : n ≡ 0 → ⊥) (e : after ≡ 0) where
    pub too_many : 32768 < n → Err (refusal Many 32768) ≡ checked_tree 0 s work
    unfolding checked_tree framed
    too_many l = simp (← en, ← ea, lt-ltb 0 n (omega arith), eq-eqb after 0 e, lt-ltb 32768 n l)

    pub not_many : n ≤ 32768 → checked_fields 0 (fields s) work ≡ checked_tree 0 s work
    unfolding checked_tree framed
    not_many l = simp (← en, ← ea, lt-ltb 0 n (omega arith), eq-eqb after 0 e, le-ltb 32768 n l)

-- ---- refusals 3 to 6

-- with n for the number of nodes
module _ (fs : List Field) (work n : ℕ) (en : n ≡ length fs) where
  abbrev pub after_depth : Outcome
  after_depth = checked_work n work

  abbrev pub after_tree : Outcome
  after_tree = unless Depth (depth_at fs) n after_depth

  abbrev pub after_shape : Outcome
  after_shape = unless Tree (tree_at fs) (n - 1) after_tree

  pub checked_at : unless Shape (shape_at fs) n after_shape ≡ checked_fields 0 fs work
  checked_at = rw en (sym (fields_0 fs work))

module _ (n work : ℕ) where
  pub no_work : work < 12288 + 16 * n → Err (refusal Work 0) ≡ checked_work n work
  unfolding checked_work work_for
  no_work h = simp (lt-ltb work (12288 + 16 * n) h)

  pub all_well : 12288 + 16 * n ≤ work → Ok n ≡ checked_work n work
  unfolding checked_work work_for
  all_well h = simp (le-ltb work (12288 + 16 * n) h)

-- ---- the scratch that was lent

-- a field takes three bytes at least
thirds : (f : ℕ) (s : List ℕ) → length s ≤ f → 3 * length (fields s) ≤ length s
thirds zero s h = omega (arith, ap length (fields_cut s (whole_false s (omega arith))))
thirds (suc f) s h = go (whole s) refl (thirds f (rest s))
  where
    go : (b : Bool) → whole s ≡ b → (length (rest s) ≤ f → 3 * length (fields (rest s)) ≤ length (rest s)) → 3 * length (fields s) ≤ length s
    go false w more = omega (arith, ap length (fields_cut s w))
    go true w more =
        let size = length-drop (span s) s in
        omega (arith, whole_true s w, ap length (fields_whole s w), size, more (omega (arith, whole_true s w, size)))

module _ (s : List ℕ) where
  pub room_enough : (room : ℕ) → few (length s / 3) ≤ room → few (length (fields s)) ≤ room
  room_enough room h = omega (arith, thirds (length s) s (omega arith))

  module _ (mode : ℕ) (l : List ℕ) where
    -- no mode: it was not used
    pub kept_mode : 1 < mode → l ≡ scratch_after mode s l
    unfolding scratch_after used with_offsets
    kept_mode h = simp (lt-leb mode 1 h)

    -- either mode uses it in the same way
    pub either_mode : mode ≤ 1 → (l' : List ℕ) → l' ≡ scratch_after 0 s l → l' ≡ scratch_after mode s l
    unfolding scratch_after used
    either_mode h l' e = simp (le-leb mode 1 h) e

  -- n words were used and cleared, and n offsets noted
  pub used_after : (l : List ℕ) (n : ℕ) → n ≡ min (few (length (fields s))) (length l / 2) → (l₁ l' : List ℕ) → Beyond n (with_offsets s n l) l₁ → l' ≡ zeroed n l₁ → l' ≡ scratch_after 0 s l
  unfolding scratch_after used
  used_after l n en l₁ l' b e = e ∙ ap (λ (m : List ℕ). replicate n 0 ++ m) b.rest ∙ ap (λ (k : ℕ). zeroed k (with_offsets s k l)) en
