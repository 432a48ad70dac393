-- The pass from the last node down: from node c on every word is its node's depth, below c the words are as they were, and `deep` is the
-- lowest node from c on that is too deep.
use mathlib.Core.Path.{◌≡◌, refl, sym, ap, subst, ◌∙◌}
use mathlib.Core.Bool.{Bool, true, false, cond}
use mathlib.Core.Logic.{⊎_elim}
use mathlib.Core.List.{List}
use Prim.Native.Nat.{ℕ, zero, suc, ◌+◌, ◌-◌, ◌/◌, ◌<◌, ◌≤◌}
use native.Mathlib.Nat.{eq-or-lt_of_le}
use native.Mathlib.Omega.{arith}
use lib.ListN.{get_or, set}
use lib.Seq.{get_or-set_same, get_or-set_other}
use lib.Dec.{leb, eqb}
use borrow.Author.Tests.{eqb-true, eqb-false}
use Rattle.meaning.specs.Base.{lowest_by, lowest}
use Rattle.meaning.specs.Tree.{depth_by}
use Rattle.meaning.proofs.Kids.{depth_last, depth_step}
use Rattle.std.specs.Prelude.{Option, None, Some}
use Rattle.tree.specs.Scratch.{some_below, first, Beyond, Owned, Linked, parent_in, next_depth, depth_in}
use Rattle.tree.proofs.First.{below_yes, below_no}
use Rattle.tree.proofs.Words.{beyond_refl, beyond_then, beyond_set}

-- no node is deeper than the fuel
depth_fuel : (parent : ℕ → ℕ) (last f c : ℕ) → depth_by parent last f c ≤ f
unfolding depth_by
depth_fuel parent last zero c = omega arith
depth_fuel parent last (suc f) c = go (eqb c last) (depth_fuel parent last f (parent c))
  where
    go : (b : Bool) → depth_by parent last f (parent c) ≤ f → cond b 1 (suc (depth_by parent last f (parent c))) ≤ suc f
    go true h = omega arith
    go false h = omega arith

abbrev shallow : List ℕ → ℕ → ℕ → Bool
shallow l n k = leb (depth_in l n k) 128

pub record Deep (l₀ l : List ℕ) (n c : ℕ) (deep : Option ℕ) : Type 0 where
  pub within : c ≤ n
  pub beyond : Beyond n l₀ l
  pub below : (k : ℕ) → k < c → get_or l k 0 ≡ get_or l₀ k 0
  pub known : (k : ℕ) → c ≤ k → k < n → get_or l k 0 ≡ depth_in l₀ n k
  pub found : deep ≡ some_below n (lowest_by (shallow l₀ n) (n - c) c)

module _ (l₀ : List ℕ) (n : ℕ) (o : Owned l₀ n) where
  up : (c : ℕ) → c < n - 1 → (c < parent_in l₀ c) × (parent_in l₀ c ≤ n - 1)
  up c h = let a = o.above c (omega arith) in (a.1, omega (arith, a.2))

  full : suc (n - 1) ≡ n
  full = omega (arith, o.some)

  in_last : depth_in l₀ n (n - 1) ≡ 1
  unfolding depth_in
  in_last = subst (λ (m : ℕ). depth_by (parent_in l₀) (n - 1) m (n - 1) ≡ 1) full (depth_last (parent_in l₀) (n - 1) up (n - 1))

  in_step : (c : ℕ) → c < n - 1 → depth_in l₀ n c ≡ suc (depth_in l₀ n (parent_in l₀ c))
  unfolding depth_in
  in_step c h = subst (λ (m : ℕ). depth_by (parent_in l₀) (n - 1) m c ≡ suc (depth_by (parent_in l₀) (n - 1) m (parent_in l₀ c))) full (depth_step (parent_in l₀) (n - 1) up c h)

  in_few : (c : ℕ) → depth_in l₀ n c ≤ n
  unfolding depth_in
  in_few c = depth_fuel (parent_in l₀) (n - 1) n c

  pub deep_start : Deep l₀ l₀ n n None
  unfolding lowest_by
  deep_start = record {
    within = omega arith;
    beyond = beyond_refl n l₀;
    below = λ k h. refl;
    known = λ k a b. absurd (omega arith);
    found = rw none_left (below_no n n (omega arith));
  }
    where
      none_left : n - n ≡ 0
      none_left = omega arith

  module _ (l : List ℕ) (c : ℕ) (deep : Option ℕ) (v : Deep l₀ l n c deep) where
    -- the parent of node c - 1, whose word is its depth
    module _ (h : suc (c - 1) < n) (some : 0 < c) where
      word : get_or l (c - 1) 0 ≡ get_or l₀ (c - 1) 0
      word = v.below (c - 1) (omega arith)

      parent : parent_in l (c - 1) ≡ parent_in l₀ (c - 1)
      parent = ap (λ (x : ℕ). x / 256 - 1) word

      above : get_or l (parent_in l (c - 1)) 0 ≡ depth_in l₀ n (parent_in l₀ (c - 1))
      above = let u = up (c - 1) (omega arith) in
          ap (λ (x : ℕ). get_or l x 0) parent ∙ v.known (parent_in l₀ (c - 1)) (omega (arith, u.0)) (omega (arith, u.1))

    pub deep_linked : 0 < c → Linked l n (c - 1)
    deep_linked some h =
        let a = o.above (c - 1) h in (
          omega (arith, v.within, v.beyond.size, o.room),
          omega (arith, a.0, word h some),
          omega (arith, a.2, parent h some, v.beyond.size, o.room),
          omega (arith, above h some, in_few (parent_in l₀ (c - 1)), o.few),
        )

    value : 0 < c → next_depth l n (c - 1) ≡ depth_in l₀ n (c - 1)
    unfolding next_depth
    value some = go (eqb (c - 1 + 1) n) refl
      where
        go : (b : Bool) → eqb (c - 1 + 1) n ≡ b → cond b 1 (get_or l (parent_in l (c - 1)) 0 + 1) ≡ depth_in l₀ n (c - 1)
        go true e = let q : c - 1 ≡ n - 1 = omega (arith, eqb-true (c - 1 + 1) n e) in rw (q, in_last)
        go false e =
            let h : suc (c - 1) < n = omega (arith, eqb-false (c - 1 + 1) n e, v.within) in
            omega (arith, above h some, in_step (c - 1) (omega arith))

    -- one node further down
    pub deep_more : 0 < c → (d : ℕ) (deep' : Option ℕ) → d ≡ next_depth l n (c - 1) → deep' ≡ cond (leb d 128) deep (Some (c - 1)) → Deep l₀ (set l (c - 1) d) n (c - 1) deep'
    unfolding lowest_by
    deep_more some d deep' ed e = record {
      within = omega (arith, v.within);
      beyond = beyond_then n l₀ l (set l (c - 1) d) v.beyond (beyond_set n l (c - 1) d (omega (arith, v.within)));
      below = λ k a. get_or-set_other l (c - 1) k d 0 (λ q. omega arith) ∙ v.below k (omega arith);
      known = λ k a b. ⊎_elim
          (λ (q : c - 1 ≡ k). rw (← q) (get_or-set_same l (c - 1) d 0 (omega (arith, v.within, v.beyond.size, o.room)) ∙ depth))
          (λ (q : c - 1 < k). get_or-set_other l (c - 1) k d 0 (λ r. omega arith) ∙ v.known k (omega arith) b)
          (eq-or-lt_of_le a);
      found = e ∙ ap (λ (x : ℕ). cond (leb x 128) deep (Some (c - 1))) depth ∙ step (shallow l₀ n (c - 1))
          ∙ rw one_more (ap (λ (k : ℕ). some_below n (cond (shallow l₀ n (c - 1)) (lowest_by (shallow l₀ n) (n - c) k) (c - 1))) (sym again));
    }
      where
        depth : d ≡ depth_in l₀ n (c - 1)
        depth = ed ∙ value some

        one_more : n - (c - 1) ≡ suc (n - c)
        one_more = omega (arith, v.within)

        again : suc (c - 1) ≡ c
        again = omega arith

        step : (b : Bool) → cond b deep (Some (c - 1)) ≡ some_below n (cond b (lowest_by (shallow l₀ n) (n - c) c) (c - 1))
        step true = v.found
        step false = below_yes n (c - 1) (omega (arith, v.within))

    -- at node 0
    pub deep_end : c ≤ 0 → deep ≡ first (shallow l₀ n) n
    unfolding first lowest
    deep_end h = let q : c ≡ 0 = omega arith in v.found ∙ rw q (ap (λ (k : ℕ). some_below n (lowest_by (shallow l₀ n) k 0)) (all n))
      where
        all : (m : ℕ) → m - 0 ≡ m
        all m = omega arith
