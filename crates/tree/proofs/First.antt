-- The lowest number below n at which a test fails, or none.
use mathlib.Core.Path.{◌≡◌, refl, sym, ap, ◌∙◌}
use mathlib.Core.Bool.{Bool, true, false, not, cond}
use mathlib.Core.List.{List}
use mathlib.Core.Logic.{⊎_elim}
use Prim.Native.Nat.{ℕ, suc, ◌<◌, ◌≤◌}
use native.Mathlib.Nat.{eq-or-lt_of_le}
use native.Mathlib.Omega.{arith}
use lib.ListN.{length, get_or, take, length-take}
use lib.Seq.{get_or-take}
use lib.Dec.{ltb}
use borrow.Author.Tests.{ltb-true, ltb-false, lt-ltb, le-ltb}
use Rattle.std.specs.Prelude.{Option, None, Some, position}
use Rattle.std.specs.List.{prefix_len}
use Rattle.std.proofs.lemmas.List.Sums.{prefix_len_passes, prefix_len_stops, prefix_len-le-length}
use Rattle.meaning.specs.Base.{lowest}
use Rattle.meaning.proofs.Lists.{lowest_all, lowest_found, lowest_none}
use Rattle.tree.specs.Scratch.{some_below, first}

number_or : ℕ → Option ℕ → ℕ
number_or d None = d
number_or d (Some k) = k

pub none_some : (k : ℕ) → None ≡ Some k → ⊥
unfolding number_or
none_some k e = let a : k ≡ suc k = sym (ap (number_or (suc k)) e) in omega (arith, a)

some_is : (j k : ℕ) → Some j ≡ Some k → j ≡ k
unfolding number_or
some_is j k e = ap (number_or 0) e

pub below_yes : (n k : ℕ) → k < n → Some k ≡ some_below n k
below_yes n k h = rw (lt-ltb k n h) refl

pub below_no : (n k : ℕ) → n ≤ k → None ≡ some_below n k
below_no n k h = rw (le-ltb k n h) refl

module _ (p : ℕ → Bool) (n : ℕ) where
  pub first_yes : (k : ℕ) → Some k ≡ first p n → (k ≡ lowest p n) × (k < n)
  unfolding first
  first_yes k e = go (ltb (lowest p n) n) refl e
    where
      go : (b : Bool) → ltb (lowest p n) n ≡ b → Some k ≡ cond b (Some (lowest p n)) None → (k ≡ lowest p n) × (k < n)
      go true q f = let s = some_is k (lowest p n) f in (s, omega (arith, s, ltb-true _ _ q))
      go false q f = absurd (none_some k (sym f))

  pub first_no : None ≡ first p n → n ≡ lowest p n
  unfolding first
  first_no e = go (ltb (lowest p n) n) refl e
    where
      go : (b : Bool) → ltb (lowest p n) n ≡ b → None ≡ cond b (Some (lowest p n)) None → n ≡ lowest p n
      go true q f = absurd (none_some _ f)
      go false q f = sym (lowest_none p n (lowest_all p n (ltb-false _ _ q)))

  pub first_some : (k : ℕ) → k < n → k ≡ lowest p n → Some k ≡ first p n
  unfolding first
  first_some k h e = below_yes n k h ∙ ap (some_below n) e

  pub first_none : n ≡ lowest p n → None ≡ first p n
  unfolding first
  first_none e = below_no n n (omega arith) ∙ ap (some_below n) e

-- the place of the first element at which a test fails is the lowest such number
module _ (q : ℕ → Bool) (l : List ℕ) (n : ℕ) (h : n ≤ length l) where
  abbrev at : ℕ → Bool
  at c = q (get_or l c 0)

  abbrev twice : ℕ → Bool
  twice x = not (not (q x))

  abbrev place : ℕ
  place = prefix_len twice (take n l)

  size : length (take n l) ≡ n
  size = omega (arith, length-take n l)

  twice_is : (b c : Bool) → not (not b) ≡ c → b ≡ c
  twice_is true c e = e
  twice_is false c e = e

  at_is : (k : ℕ) → k < n → (c : Bool) → twice (get_or (take n l) k 0) ≡ c → at k ≡ c
  at_is k less c e = ap q (sym (get_or-take n l k 0 less)) ∙ twice_is _ c e

  place_le : place ≤ n
  place_le = omega (arith, size, prefix_len-le-length twice (take n l))

  before : (k : ℕ) → k < place → at k ≡ true
  before k less = at_is k (omega (arith, place_le)) true (prefix_len_passes twice (take n l) k 0 less)

  place_is : place ≡ lowest at n
  place_is = ⊎_elim
      (λ (e : place ≡ n). e ∙ sym (lowest_none at n (λ k less. before k (omega arith))))
      (λ (less : place < n). sym (lowest_found at n place less before (at_is place less false (prefix_len_stops twice (take n l) 0 (omega (arith, size))))))
      (eq-or-lt_of_le place_le)

  pub position_first : position (λ (x : ℕ). not (q x)) (take n l) ≡ first at n
  unfolding first
  position_first = ap (λ (m : ℕ). some_below m place) size ∙ ap (some_below n) place_is
