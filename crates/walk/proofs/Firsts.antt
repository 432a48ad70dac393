-- The first decision and the first strike that are refused, as the library's searches give them, are the lowest that the definition asks for.
use mathlib.Core.Path.{◌≡◌, refl, sym, ap, ◌∙◌}
use mathlib.Core.Bool.{Bool, true, false, not, cond}
use mathlib.Core.Logic.{⊎_elim}
use mathlib.Core.List.{List}
use Prim.Native.Nat.{ℕ, zero, suc, ◌+◌, ◌-◌, ◌<◌, ◌≤◌}
use native.Mathlib.Numerals.{add-one}
use native.Mathlib.Omega.{arith}
use lib.ListN.{length, get_or}
use lib.Dec.{ltb, leb}
use borrow.Author.Tests.{ltb-true, ltb-false, lt-ltb, le-ltb, le-leb, lt-leb, ne_eqb}
use Rattle.std.specs.declared.option.Option.{Option}
use Rattle.std.specs.declared.option.Option.TheVariants.{Some, None}
use Rattle.std.specs.Option.{is_some, unwrap_or}
use Rattle.std.specs.List.{find, position, position_or_len, range_with_len}
use Rattle.std.proofs.lemmas.List.Sums.{prefix_len-le-length, prefix_len_passes, prefix_len_stops}
use Rattle.meaning.specs.Base.{lowest_by, lowest}
use Rattle.meaning.specs.Walker.{fair, rises}
use Rattle.meaning.proofs.Lists.{false_true, lowest_found, lowest_none, lt_or_le}

-- k, where it is below n
abbrev below : (k n : ℕ) → Option ℕ
below k n = cond (ltb k n) (Some k) None

some_below : (k n i : ℕ) → below k n ≡ Some i → (k ≡ i) × (i < n)
some_below k n i e = go (ltb k n) refl e
  where
    go : (b : Bool) → ltb k n ≡ b → (let o : Option ℕ = cond b (Some k) None in o) ≡ Some i → (k ≡ i) × (i < n)
    go true q r = let s : k ≡ i = ap (λ (o : Option ℕ). unwrap_or o 0) r in (s, omega (arith, ltb-true k n q))
    go false q r = absurd (false_true (ap is_some r))

none_below : (k n : ℕ) → below k n ≡ None → n ≤ k
none_below k n e = go (ltb k n) refl e
  where
    go : (b : Bool) → ltb k n ≡ b → (let o : Option ℕ = cond b (Some k) None in o) ≡ None → n ≤ k
    go true q r = absurd (false_true (sym (ap is_some r)))
    go false q r = ltb-false k n q

-- ---- decisions

pub not_below : (x y : ℕ) → leb x y ≡ not (ltb y x)
not_below x y = ⊎_elim (λ (h : y < x). rw (lt-leb x y h, lt-ltb y x h) refl) (λ (h : x ≤ y). rw (le-leb x y h, le-ltb y x h) refl) (lt_or_le y x)

module _ (ds : List ℕ) where
  abbrev over : ℕ
  over = position_or_len (λ d. ltb 1 d) ds

  over_before : (j : ℕ) → j < over → fair ds j ≡ true
  over_before j h = not_below (get_or ds j 0) 1 ∙ prefix_len_passes (λ d. not (ltb 1 d)) ds j 0 h

  over_is : over ≡ lowest (fair ds) (length ds)
  over_is = sym (⊎_elim
      (λ (h : over < length ds). lowest_found (fair ds) (length ds) over h over_before (not_below (get_or ds over 0) 1 ∙ prefix_len_stops (λ d. not (ltb 1 d)) ds 0 h))
      (λ (h : length ds ≤ over). let e : length ds ≡ over = omega (arith, h, prefix_len-le-length (λ d. not (ltb 1 d)) ds) in lowest_none (fair ds) (length ds) (λ j l. over_before j (omega arith)) ∙ e)
      (lt_or_le over (length ds)))

  pub some_over : (i : ℕ) → position (λ d. ltb 1 d) ds ≡ Some i → (lowest (fair ds) (length ds) ≡ i) × (i < length ds)
  some_over i e = let s = some_below over (length ds) i e in (sym over_is ∙ s.0, s.1)

  pub none_over : position (λ d. ltb 1 d) ds ≡ None → length ds ≤ lowest (fair ds) (length ds)
  none_over e = omega (arith, over_is, none_below over (length ds) e)

-- ---- strikes

not_above : (x y : ℕ) → ltb x y ≡ not (leb y x)
not_above x y = ⊎_elim (λ (h : x < y). rw (lt-ltb x y h, lt-leb y x h) refl) (λ (h : y ≤ x). rw (le-ltb x y h, le-leb y x h) refl) (lt_or_le x y)

-- what is found along a range is the lowest number from its start on at which the other test fails
found_lowest : (p q : ℕ → Bool) → ((j : ℕ) → 0 < j → q j ≡ not (p j)) → (n a : ℕ) → 0 < a → find p (range_with_len a n) ≡ below (lowest_by q n a) (a + n)
unfolding lowest_by
found_lowest p q same zero a l = rw (le-ltb a (a + 0) (omega arith)) refl
found_lowest p q same (suc n) a l = rw (same a l) (go (p a) (found_lowest p q same n (suc a) (omega arith)))
  where
    go : (b : Bool) → find p (range_with_len (suc a) n) ≡ below (lowest_by q n (suc a)) (suc a + n) → (let o : Option ℕ = cond b (Some a) (find p (range_with_len (a + 1) n)) in o) ≡ below (cond (not b) (lowest_by q n (suc a)) a) (a + suc n)
    go true r = rw (lt-ltb a (a + suc n) (omega arith)) refl
    go false r =
        ap (λ (m : ℕ). find p (range_with_len m n)) (add-one a) ∙ r
        ∙ ap (below (lowest_by q n (suc a))) (let z : suc a + n ≡ a + suc n = omega arith in z)

module _ (ss : List ℕ) where
  abbrev falls : ℕ → Bool
  falls i = leb (get_or ss i 0) (get_or ss (i - 1) 0)

  fallen_is : (n : ℕ) → find falls (range_with_len 1 (n - 1)) ≡ below (lowest (rises ss) n) n
  unfolding lowest lowest_by
  fallen_is zero = refl
  fallen_is (suc n) =
      ap (λ (m : ℕ). find falls (range_with_len 1 m)) (let z : suc n - 1 ≡ n = omega arith in z)
      ∙ found_lowest falls (rises ss) (λ j h. rw (ne_eqb j 0 (λ e. omega arith)) (not_above (get_or ss (j - 1) 0) (get_or ss j 0))) n 1 (omega arith)
      ∙ ap (below (lowest_by (rises ss) n 1)) (let z : 1 + n ≡ suc n = omega arith in z)

  pub some_fallen : (i : ℕ) → find falls (range_with_len 1 (length ss - 1)) ≡ Some i → (lowest (rises ss) (length ss) ≡ i) × (i < length ss)
  some_fallen i e = some_below _ _ i (sym (fallen_is (length ss)) ∙ e)

  pub none_fallen : find falls (range_with_len 1 (length ss - 1)) ≡ None → length ss ≤ lowest (rises ss) (length ss)
  none_fallen e = none_below _ _ (sym (fallen_is (length ss)) ∙ e)
