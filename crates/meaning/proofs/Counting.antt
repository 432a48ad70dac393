-- Where every node but the last is a child exactly once, and children stand below their parents, the tree that unfolds from the last node
-- weighs as much as the file's nodes together. This bounds what a walk over the tree, as the lowering, keeps pending.
--     total-by own fs f i    what the tree under node i weighs, f deep: `own i` and what its children's trees weigh
--     tree-total             at enough fuel the last node's is the sum of `own` over all nodes, by double counting
--     tree-size              where each node weighs 1, that is the number of nodes
use mathlib.Core.Path.{◌≡◌, refl, ap, ◌∙◌, subst}
use mathlib.Core.Bool.{Bool, true}
use mathlib.Core.Logic.{⊎_elim}
use mathlib.Core.List.{List, [], ◌∷◌}
use Prim.Native.Nat.{ℕ, zero, suc, ◌+◌, ◌-◌, ◌<◌, ◌≤◌}
use native.Mathlib.Nat.{eq-zero-or-pos}
use native.Mathlib.Omega.{arith}
use lib.ListN.{length}
use Rattle.meaning.specs.Base.{count}
use Rattle.meaning.specs.Fields.{Field, field_at}
use Rattle.meaning.specs.Grammar.{wide_marks, shape_at}
use Rattle.meaning.specs.Tree.{kids_of, all_kids}
use Rattle.meaning.proofs.Lists.{sum_of, sum_to, sum_of_append, sum_to_same, sum_to_first, sum_to_nil, sum_to_plus, sum_to_ones, sum_of_once, sum_of_same}
use Rattle.meaning.proofs.Kids.{parent_is, child_below}

-- ---- the sum over the nodes of the sums over their children

kids_sum : (wide : Bool) → (ℕ → ℕ) → List Field → ℕ
kids_sum wide g [] = 0
kids_sum wide g (f ∷ fs) = sum_of g (kids_of wide f) + kids_sum wide g fs

kids_sum_all : (wide : Bool) (g : ℕ → ℕ) (fs : List Field) → kids_sum wide g fs ≡ sum_of g (all_kids wide fs)
unfolding kids_sum all_kids sum_of
kids_sum_all wide g [] = refl
kids_sum_all wide g (f ∷ fs) = let r = kids_sum_all wide g fs in omega (arith, sum_of_append g (kids_of wide f) (all_kids wide fs))

kids_sum_at : (wide : Bool) (g : ℕ → ℕ) (fs : List Field) → sum_to (λ i. sum_of g (kids_of wide (field_at fs i))) (length fs) ≡ kids_sum wide g fs
unfolding kids_sum
kids_sum_at wide g [] = sum_to_nil (λ i. sum_of g (kids_of wide (field_at [] i)))
kids_sum_at wide g (f ∷ fs) = sum_to_first (λ i. sum_of g (kids_of wide (field_at (f ∷ fs) i))) (length fs) ∙ ap (λ (k : ℕ). sum_of g (kids_of wide f) + k) (kids_sum_at wide g fs)

-- ---- the tree under a node

pub total_by : (own : ℕ → ℕ) → List Field → ℕ → ℕ → ℕ
total_by own fs zero i = 0
total_by own fs (suc f) i = own i + sum_of (total_by own fs f) (kids_of (wide_marks fs) (field_at fs i))

abbrev pub size_by : List Field → ℕ → ℕ → ℕ
size_by fs f i = total_by (λ j. 1) fs f i

module _ (fs : List Field) (good : (j : ℕ) → j < length fs → shape_at fs j ≡ true) where
  total_fuel : (own : ℕ → ℕ) (f g i : ℕ) → i < length fs → i < f → i < g → total_by own fs f i ≡ total_by own fs g i
  unfolding total_by
  total_fuel own zero g i l p q = absurd (omega arith)
  total_fuel own (suc f) zero i l p q = absurd (omega arith)
  total_fuel own (suc f) (suc g) i l p q =
      ap (λ (k : ℕ). own i + k) (sum_of_same (total_by own fs f) (total_by own fs g) (kids_of (wide_marks fs) (field_at fs i))
      (λ c h. let z = child_below fs i c (good i l) h in total_fuel own f g c (omega arith) (omega arith) (omega arith)))

  -- at as much fuel as there are nodes
  pub total_step : (own : ℕ → ℕ) (i : ℕ) → i < length fs → total_by own fs (length fs) i ≡ own i + sum_of (total_by own fs (length fs)) (kids_of (wide_marks fs) (field_at fs i))
  unfolding total_by
  total_step own i l = total_fuel own (length fs) (suc (length fs)) i l l (omega arith)

  -- no child at or above the last node
  none_above : (c : ℕ) → length fs - 1 ≤ c → count c (all_kids (wide_marks fs) fs) ≡ 0
  none_above c h =
      ⊎_elim (λ (q : count c (all_kids (wide_marks fs) fs) ≡ 0). q)
      (λ (q : 0 < count c (all_kids (wide_marks fs) fs)). let r = parent_is (wide_marks fs) c 0 fs q in absurd (omega (arith, r.2, child_below fs r.0 c (good r.0 r.2) r.3)))
      (eq-zero-or-pos (count c (all_kids (wide_marks fs) fs)))

  module _ (some : 1 ≤ length fs) (once : (c : ℕ) → c < length fs - 1 → count c (all_kids (wide_marks fs) fs) ≡ 1) where
    pub tree_total : (own : ℕ → ℕ) → total_by own fs (length fs) (length fs - 1) ≡ sum_to own (length fs)
    unfolding sum_to
    tree_total own =
        let S : ℕ → ℕ = total_by own fs (length fs) in
        let K : ℕ → ℕ = λ i. sum_of S (kids_of (wide_marks fs) (field_at fs i)) in
        let a : sum_to S (length fs) ≡ sum_to (λ i. own i + K i) (length fs) = sum_to_same S (λ i. own i + K i) (length fs) (total_step own) in
        let b : sum_to (λ i. own i + K i) (length fs) ≡ sum_to own (length fs) + sum_to K (length fs) = sum_to_plus own K (length fs) in
        let d : sum_to K (length fs) ≡ sum_to S (length fs - 1) = kids_sum_at (wide_marks fs) S fs ∙ kids_sum_all (wide_marks fs) S fs ∙ sum_of_once S (length fs - 1) (all_kids (wide_marks fs) fs) none_above once in
        let e : sum_to S (suc (length fs - 1)) ≡ sum_to S (length fs - 1) + S (length fs - 1) = refl in
        let f : suc (length fs - 1) ≡ length fs = omega arith in
        let g : sum_to S (length fs) ≡ sum_to S (length fs - 1) + S (length fs - 1) = subst (λ (m : ℕ). sum_to S m ≡ sum_to S (length fs - 1) + S (length fs - 1)) f e in
        omega arith

    pub tree_size : size_by fs (length fs) (length fs - 1) ≡ length fs
    tree_size = tree_total (λ j. 1) ∙ sum_to_ones (length fs)
