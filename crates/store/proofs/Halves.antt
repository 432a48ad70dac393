-- The laws of halves: what is written is read again, and neither the other halves nor the other words change.
use Rattle.std.proofs.Common.{◌≡◌, ℕ, ◌+◌, ◌*◌, ◌/◌, ◌%◌, ◌<◌, cond, eqb, List, length, get_or, set, sym, arith, length-set, get_or-set_other, get_or-set_same, eq-eqb, ne_eqb}
use native.Mathlib.Decide.{ℕ_discrete}
use Rattle.store.specs.Half.{half, with_half}

-- the two halves of a word
pub half_even : (w : List ℕ) (k : ℕ) → k % 2 ≡ 0 → half w k ≡ get_or w (k / 2) 0 % 65536
unfolding half
half_even w k e = rw (eq-eqb (k % 2) 0 e)

pub half_odd : (w : List ℕ) (k : ℕ) → ¬ (k % 2 ≡ 0) → half w k ≡ get_or w (k / 2) 0 / 65536 % 65536
unfolding half
half_odd w k e = rw (ne_eqb (k % 2) 0 e)

pub with_even : (w : List ℕ) (k v : ℕ) → k % 2 ≡ 0 → with_half w k v ≡ set w (k / 2) (get_or w (k / 2) 0 / 65536 * 65536 + v)
unfolding with_half
with_even w k v e = rw (eq-eqb (k % 2) 0 e)

pub with_odd : (w : List ℕ) (k v : ℕ) → ¬ (k % 2 ≡ 0) → with_half w k v ≡ set w (k / 2) (v * 65536 + get_or w (k / 2) 0 % 65536)
unfolding with_half
with_odd w k v e = rw (ne_eqb (k % 2) 0 e)

-- a half depends on its word alone
pub half_word : (w w' : List ℕ) (k : ℕ) → get_or w' (k / 2) 0 ≡ get_or w (k / 2) 0 → half w' k ≡ half w k
unfolding half
half_word w w' k e = rw e

pub half_small : (w : List ℕ) (k : ℕ) → half w k < 65536
half_small w k = cases (ℕ_discrete (k % 2) 0)
  where
    cases : Dec (k % 2 ≡ 0) → half w k < 65536
    cases (yes e) = omega (arith, half_even w k e)
    cases (no e) = omega (arith, half_odd w k e)

pub length_half : (w : List ℕ) (k v : ℕ) → length (with_half w k v) ≡ length w
unfolding with_half
length_half w k v = simp length-set

pub word_other : (w : List ℕ) (k i v : ℕ) → ¬ (i ≡ k / 2) → get_or (with_half w k v) i 0 ≡ get_or w i 0
unfolding with_half
word_other w k i v h = get_or-set_other w (k / 2) i (cond (eqb (k % 2) 0) (get_or w (k / 2) 0 / 65536 * 65536 + v) (v * 65536 + get_or w (k / 2) 0 % 65536)) 0 h

module _ (w : List ℕ) (k v : ℕ) (fits : k / 2 < length w) (small : v < 65536) where
  word_even : k % 2 ≡ 0 → get_or (with_half w k v) (k / 2) 0 ≡ get_or w (k / 2) 0 / 65536 * 65536 + v
  word_even e = rw (with_even w k v e) (get_or-set_same w (k / 2) (get_or w (k / 2) 0 / 65536 * 65536 + v) 0 fits)

  word_odd : ¬ (k % 2 ≡ 0) → get_or (with_half w k v) (k / 2) 0 ≡ v * 65536 + get_or w (k / 2) 0 % 65536
  word_odd e = rw (with_odd w k v e) (get_or-set_same w (k / 2) (v * 65536 + get_or w (k / 2) 0 % 65536) 0 fits)

  pub half_same : half (with_half w k v) k ≡ v
  half_same = cases (ℕ_discrete (k % 2) 0)
    where
      cases : Dec (k % 2 ≡ 0) → half (with_half w k v) k ≡ v
      cases (yes e) = omega (arith, half_even (with_half w k v) k e, word_even e)
      cases (no e) = omega (arith, half_odd (with_half w k v) k e, word_odd e)

  -- the other half of the same word
  beside : (j : ℕ) → ¬ (j ≡ k) → j / 2 ≡ k / 2 → half (with_half w k v) j ≡ half w j
  beside j ne e = cases (ℕ_discrete (k % 2) 0)
    where
      cases : Dec (k % 2 ≡ 0) → half (with_half w k v) j ≡ half w j
      cases (yes z) =
          let o : ¬ (j % 2 ≡ 0) = omega arith in
          let a : get_or (with_half w k v) (j / 2) 0 ≡ get_or w (j / 2) 0 / 65536 * 65536 + v = rw e (word_even z) in
          omega (arith, half_odd (with_half w k v) j o, half_odd w j o, a)
      cases (no z) =
          let o : j % 2 ≡ 0 = omega arith in
          let a : get_or (with_half w k v) (j / 2) 0 ≡ v * 65536 + get_or w (j / 2) 0 % 65536 = rw e (word_odd z) in
          omega (arith, half_even (with_half w k v) j o, half_even w j o, a)

  pub half_other : (j : ℕ) → ¬ (j ≡ k) → half (with_half w k v) j ≡ half w j
  half_other j ne = cases (ℕ_discrete (j / 2) (k / 2))
    where
      cases : Dec (j / 2 ≡ k / 2) → half (with_half w k v) j ≡ half w j
      cases (yes e) = beside j ne e
      cases (no e) = half_word w (with_half w k v) j (word_other w k (j / 2) v e)

-- a store to another word
pub half_apart : (w : List ℕ) (i x k : ℕ) → ¬ (i ≡ k / 2) → half (set w i x) k ≡ half w k
half_apart w i x k h = half_word w (set w i x) k (get_or-set_other w i (k / 2) x 0 (λ e. h (sym e)))
