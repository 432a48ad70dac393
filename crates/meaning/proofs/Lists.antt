-- Laws that the library lacks: of lists and their parts, of the lowest number at which a test fails, of tests that antt computes, of how
-- often a number stands in a list, and of sums.
use mathlib.Core.Path.{◌≡◌, refl, sym, ap, ap₂, ◌∙◌, subst}
use mathlib.Core.List.{List, [], ◌∷◌, ◌++◌}
use Prim.Native.Nat.{ℕ, zero, suc, ◌+◌, ◌-◌, ◌*◌, ◌<◌, ◌≤◌}
use native.Mathlib.Nat.{le_refl, not-suc-le-zero, eq-or-lt_of_le}
use native.Mathlib.Omega.{arith}
use mathlib.Core.Bool.{Bool, true, false, not, ◌&&◌, cond}
use mathlib.Core.Logic.{◌⊎◌, inl, inr, ⊎_elim}
use lib.Dec.{ltb, eqb}
use borrow.Author.Tests.{ltb-true, ltb-false, eqb-true, eqb-false, eq-eqb, ne_eqb}
use lib.ListN.{length, get_or, take, drop, length-drop}
use Rattle.meaning.specs.Base.{lowest_by, lowest, count}
use lib.Seq.{take_all, drop-drop}

module _ {A : Type 0} where
  -- the part `&t[k..]` as the borrow checker gives it
  pub tail_part : (k : ℕ) (l : List A) → take (length l - k) (drop k l) ≡ drop k l
  tail_part k l = take_all (length l - k) (drop k l) (simp length-drop (le_refl _))

  -- what stands at the front of what is left after n elements
  pub at_drop : (l : List A) (n : ℕ) (d a : A) (r : List A) → drop n l ≡ a ∷ r → get_or l n d ≡ a
  at_drop [] zero d a r e = absurd (clash e)
    where
      clash : ◌≡◌ {A = List A} [] (a ∷ r) → ⊥
      clash p = let z : ◌≡◌ {A = ℕ} 0 1 = cc in omega arith
  at_drop [] (suc n) d a r e = absurd (clash e)
    where
      clash : ◌≡◌ {A = List A} [] (a ∷ r) → ⊥
      clash p = let z : ◌≡◌ {A = ℕ} 0 1 = cc in omega arith
  at_drop (x ∷ l) zero d a r e = cc
  at_drop (x ∷ l) (suc n) d a r e = at_drop l n d a r e

  pub drop_more : (l : List A) (n : ℕ) (a : A) (r : List A) → drop n l ≡ a ∷ r → drop (n + 1) l ≡ r
  drop_more l n a r e = sym (drop-drop 1 n l) ∙ ap (drop 1) e

module _ {A : Type 0} where
  pub empty : (l : List A) → length l ≤ 0 → l ≡ []
  empty [] h = refl
  empty (x ∷ l) h = absurd (not-suc-le-zero h)

pub lt_or_le : (a b : ℕ) → (a < b) ⊎ (b ≤ a)
lt_or_le a b = go (ltb a b) refl
  where
    go : (t : Bool) → ltb a b ≡ t → (a < b) ⊎ (b ≤ a)
    go true e = inl (ltb-true a b e)
    go false e = inr (ltb-false a b e)

-- ---- the lowest number at which a test fails
module _ (p : ℕ → Bool) where
  by_found : (f k i : ℕ) → k ≤ i → i < k + f → ((j : ℕ) → k ≤ j → j < i → p j ≡ true) → p i ≡ false → lowest_by p f k ≡ i
  unfolding lowest_by
  by_found zero k i l h all e = absurd (omega arith)
  by_found (suc f) k i l h all e =
      ⊎_elim (λ (q : k ≡ i). simp (q, e)) (λ (q : k < i). simp (all k (le_refl k) q) (by_found f (suc k) i q (omega arith) (λ j a b. all j (omega arith) b) e)) (eq-or-lt_of_le l)

  by_none : (f k : ℕ) → ((j : ℕ) → k ≤ j → j < k + f → p j ≡ true) → lowest_by p f k ≡ k + f
  unfolding lowest_by
  by_none zero k all = omega arith
  by_none (suc f) k all = simp (all k (le_refl k) (omega arith)) (by_none f (suc k) (λ j a b. all j (omega arith) (omega arith)) ∙ omega arith)

  pub lowest_found : (n i : ℕ) → i < n → ((j : ℕ) → j < i → p j ≡ true) → p i ≡ false → lowest p n ≡ i
  unfolding lowest
  lowest_found n i h all e = by_found n 0 i (omega arith) (omega arith) (λ j a b. all j b) e

  pub lowest_none : (n : ℕ) → ((j : ℕ) → j < n → p j ≡ true) → lowest p n ≡ n
  unfolding lowest
  lowest_none n all = by_none n 0 (λ j a b. all j (omega arith)) ∙ omega arith

  by_all : (f k : ℕ) → k + f ≤ lowest_by p f k → (j : ℕ) → k ≤ j → j < k + f → p j ≡ true
  unfolding lowest_by
  by_all zero k h j a b = absurd (omega arith)
  by_all (suc f) k h j a b = go (p k) refl h (λ r. by_all f (suc k) r j)
    where
      go : (t : Bool) → p k ≡ t → k + suc f ≤ cond t (lowest_by p f (suc k)) k → (suc k + f ≤ lowest_by p f (suc k) → suc k ≤ j → j < suc k + f → p j ≡ true) → p j ≡ true
      go true e l rec = ⊎_elim (λ (q : k ≡ j). ap p (sym q) ∙ e) (λ (q : k < j). rec (omega arith) q (omega arith)) (eq-or-lt_of_le a)
      go false e l rec = absurd (omega arith)

  -- where the lowest number is not below n, none fails
  pub lowest_all : (n : ℕ) → n ≤ lowest p n → (j : ℕ) → j < n → p j ≡ true
  unfolding lowest
  lowest_all n h j l = by_all n 0 (omega arith) j (omega arith) (omega arith)

by_same : (p q : ℕ → Bool) (f k : ℕ) → ((j : ℕ) → k ≤ j → j < k + f → p j ≡ q j) → lowest_by p f k ≡ lowest_by q f k
unfolding lowest_by
by_same p q zero k same = refl
by_same p q (suc f) k same =
    rw (same k (le_refl k) (omega arith), by_same p q f (suc k) (λ j a b. same j (omega arith) (omega arith)))

-- two tests that agree below n
pub lowest_same : (p q : ℕ → Bool) (n : ℕ) → ((j : ℕ) → j < n → p j ≡ q j) → lowest p n ≡ lowest q n
unfolding lowest
lowest_same p q n same = by_same p q n 0 (λ j a b. same j (omega arith))

-- ---- tests

pub and_left : (a b : Bool) → a && b ≡ true → a ≡ true
and_left true b e = refl
and_left false b e = e

pub and_right : (a b : Bool) → a && b ≡ true → b ≡ true
and_right true b e = e
and_right false b e = absurd (let z : ◌≡◌ {A = ℕ} 0 1 = cc in omega arith)

pub false_true : false ≡ true → ⊥
false_true e = let z : ◌≡◌ {A = ℕ} 0 1 = cc in omega arith

pub zeros : {x y : ℕ} → x ≡ 0 → y ≡ 0 → x + y ≡ 0
zeros p q = omega arith

-- ---- tests of lists, of many parts and of many numbers, that antt computes

unfoldable pub eq_list : List ℕ → List ℕ → Bool
eq_list [] [] = true
eq_list [] (y ∷ ys) = false
eq_list (x ∷ xs) [] = false
eq_list (x ∷ xs) (y ∷ ys) = eqb x y && eq_list xs ys

pub list_is : (xs ys : List ℕ) → eq_list xs ys ≡ true → xs ≡ ys
unfolding eq_list
list_is [] [] e = refl
list_is [] (y ∷ ys) e = absurd (false_true e)
list_is (x ∷ xs) [] e = absurd (false_true e)
list_is (x ∷ xs) (y ∷ ys) e = ap₂ ◌∷◌ (eqb-true x y (and_left _ _ e)) (list_is xs ys (and_right (eqb x y) _ e))

unfoldable pub all_true : List Bool → Bool
all_true [] = true
all_true (b ∷ bs) = b && all_true bs

pub nth_true : (bs : List Bool) → all_true bs ≡ true → (k : ℕ) → get_or bs k true ≡ true
unfolding all_true
nth_true [] e k = refl
nth_true (b ∷ bs) e zero = and_left b (all_true bs) e
nth_true (b ∷ bs) e (suc k) = nth_true bs (and_right b (all_true bs) e) k

unfoldable pub same : Bool → Bool → Bool
same true b = b
same false b = not b

pub same_is : (a b : Bool) → same a b ≡ true → a ≡ b
unfolding same
same_is true true e = refl
same_is true false e = absurd (false_true e)
same_is false true e = absurd (false_true e)
same_is false false e = refl

-- a test at every number below n
unfoldable pub all_to : (ℕ → Bool) → ℕ → Bool
all_to f zero = true
all_to f (suc n) = f n && all_to f n

pub all_below : (f : ℕ → Bool) (n r : ℕ) → all_to f n ≡ true → r < n → f r ≡ true
unfolding all_to
all_below f zero r e h = absurd (omega arith)
all_below f (suc n) r e h =
    ⊎_elim (λ (q : r ≡ n). ap f q ∙ and_left (f n) _ e) (λ (q : r < n). all_below f n r (and_right (f n) _ e) q) (eq-or-lt_of_le (let z : r ≤ n = omega arith in z))

-- ---- counts

pub count_append : (c : ℕ) (a b : List ℕ) → count c (a ++ b) ≡ count c a + count c b
unfolding count
count_append c [] b = omega arith
count_append c (x ∷ a) b = go (eqb x c) (count_append c a b)
  where
    go : (t : Bool) → count c (a ++ b) ≡ count c a + count c b
        → cond t (suc (count c (a ++ b))) (count c (a ++ b)) ≡ cond t (suc (count c a)) (count c a) + count c b
    go true rec = omega arith
    go false rec = rec

-- ---- sums

-- over a list, and over the numbers below m
unfoldable pub sum_of : (ℕ → ℕ) → List ℕ → ℕ
sum_of g [] = 0
sum_of g (x ∷ xs) = g x + sum_of g xs

unfoldable pub sum_to : (ℕ → ℕ) → ℕ → ℕ
sum_to h zero = 0
sum_to h (suc m) = sum_to h m + h m

pub sum_of_append : (g : ℕ → ℕ) (a b : List ℕ) → sum_of g (a ++ b) ≡ sum_of g a + sum_of g b
unfolding sum_of
sum_of_append g [] b = omega arith
sum_of_append g (x ∷ a) b = let r = sum_of_append g a b in omega arith

pub sum_to_same : (h k : ℕ → ℕ) (m : ℕ) → ((c : ℕ) → c < m → h c ≡ k c) → sum_to h m ≡ sum_to k m
unfolding sum_to
sum_to_same h k zero same = refl
sum_to_same h k (suc m) same = let r = sum_to_same h k m (λ c l. same c (omega arith)) in omega (arith, same m (omega arith))

-- one of the numbers counts x more
pub sum_to_bump : (h k : ℕ → ℕ) (w x m : ℕ) → w < m → k w ≡ h w + x → ((c : ℕ) → (c ≡ w → ⊥) → k c ≡ h c) → sum_to k m ≡ sum_to h m + x
unfolding sum_to
sum_to_bump h k w x zero l at other = absurd (omega arith)
sum_to_bump h k w x (suc m) l at other =
    ⊎_elim
    (λ (q : w ≡ m). let r = sum_to_same k h m (λ c p. other c (λ e. omega arith)) in
    let s : k m ≡ h m + x = subst (λ (z : ℕ). k z ≡ h z + x) q at in omega arith)
    (λ (q : w < m). let r = sum_to_bump h k w x m q at other in omega (arith, other m (λ e. omega arith)))
    (eq-or-lt_of_le (let z : w ≤ m = omega arith in z))

pub sum_to_nil : (h : ℕ → ℕ) → sum_to h 0 ≡ 0
unfolding sum_to
sum_to_nil h = refl

pub sum_to_zero : (h : ℕ → ℕ) (m : ℕ) → ((c : ℕ) → h c ≡ 0) → sum_to h m ≡ 0
unfolding sum_to
sum_to_zero h zero z = refl
sum_to_zero h (suc m) z = let r = sum_to_zero h m z in omega (arith, z m)

-- the first of the numbers apart
pub sum_to_first : (h : ℕ → ℕ) (m : ℕ) → sum_to h (suc m) ≡ h 0 + sum_to (λ c. h (suc c)) m
unfolding sum_to
sum_to_first h zero = omega arith
sum_to_first h (suc m) = let r = sum_to_first h m in omega arith

pub sum_to_plus : (h k : ℕ → ℕ) (m : ℕ) → sum_to (λ c. h c + k c) m ≡ sum_to h m + sum_to k m
unfolding sum_to
sum_to_plus h k zero = refl
sum_to_plus h k (suc m) = let r = sum_to_plus h k m in omega arith

pub sum_to_ones : (m : ℕ) → sum_to (λ c. 1) m ≡ m
unfolding sum_to
sum_to_ones zero = refl
sum_to_ones (suc m) = let r = sum_to_ones m in omega arith

-- ---- a list, by how often each number stands in it

pub count_here : (w : ℕ) (ws : List ℕ) → count w (w ∷ ws) ≡ suc (count w ws)
unfolding count
count_here w ws = simp (eq-eqb w w refl)

pub count_there : (c w : ℕ) (ws : List ℕ) → (c ≡ w → ⊥) → count c (w ∷ ws) ≡ count c ws
unfolding count
count_there c w ws h = simp (ne_eqb w c (λ e. h (sym e)))

pub count_nil : (c x : ℕ) → count c [] * x ≡ 0
unfolding count
count_nil c x = omega arith

pub sum_of_counts : (g : ℕ → ℕ) (m : ℕ) (ws : List ℕ) → ((c : ℕ) → m ≤ c → count c ws ≡ 0) → sum_of g ws ≡ sum_to (λ c. count c ws * g c) m
unfolding sum_of
sum_of_counts g m [] below = sym (sum_to_zero (λ c. count c [] * g c) m (λ c. count_nil c (g c)))
sum_of_counts g m (w ∷ ws) below =
    let low : w < m = ⊎_elim (λ (q : w < m). q) (λ (q : m ≤ w). absurd (omega (arith, below w q, count_here w ws))) (lt_or_le w m) in
    let rec = sum_of_counts g m ws (λ c l. sym (count_there c w ws (λ e. omega arith)) ∙ below c l) in
    let sum = sum_to_bump (λ c. count c ws * g c) (λ c. count c (w ∷ ws) * g c) w (g w) m low
    (ap (λ (k : ℕ). k * g w) (count_here w ws) ∙ omega arith)
    (λ c ne. ap (λ (k : ℕ). k * g c) (count_there c w ws ne)) in
    omega arith

-- a list in which each number below m stands once, and no other
pub sum_of_once : (g : ℕ → ℕ) (m : ℕ) (ws : List ℕ) → ((c : ℕ) → m ≤ c → count c ws ≡ 0) → ((c : ℕ) → c < m → count c ws ≡ 1) → sum_of g ws ≡ sum_to g m
sum_of_once g m ws below once =
    sum_of_counts g m ws below ∙ sum_to_same (λ c. count c ws * g c) g m (λ c l. ap (λ (k : ℕ). k * g c) (once c l) ∙ omega arith)

-- two functions that agree on what stands in a list
pub sum_of_same : (g h : ℕ → ℕ) (ws : List ℕ) → ((c : ℕ) → 1 ≤ count c ws → g c ≡ h c) → sum_of g ws ≡ sum_of h ws
unfolding sum_of
sum_of_same g h [] same = refl
sum_of_same g h (w ∷ ws) same =
    let head = same w (omega (arith, count_here w ws)) in
    let rec = sum_of_same g h ws (λ c l. same c (more c l)) in
    omega arith
  where
    more : (c : ℕ) → 1 ≤ count c ws → 1 ≤ count c (w ∷ ws)
    more c l = go (eqb c w) refl
      where
        go : (b : Bool) → eqb c w ≡ b → 1 ≤ count c (w ∷ ws)
        go true e = rw (eqb-true c w e) (omega (arith, count_here w ws))
        go false e = omega (arith, count_there c w ws (eqb-false c w e))
