-- Which steps a failure strikes at. The strikes rise and the steps are counted up, so the next strike alone has to be looked at.
use mathlib.Core.Path.{◌≡◌, refl, sym, ◌∙◌, subst}
use mathlib.Core.Bool.{Bool, true, false, ◌&&◌, ◌||◌, cond}
use mathlib.Core.Logic.{⊎_elim}
use mathlib.Core.List.{List, [], ◌∷◌}
use Prim.Native.Nat.{ℕ, zero, suc, ◌+◌, ◌<◌, ◌≤◌}
use native.Mathlib.Omega.{arith}
use lib.ListN.{length, get_or}
use lib.Dec.{eqb, ltb}
use borrow.Author.Tests.{eqb-true, eqb-false, eq-eqb, ne_eqb, ltb-true, lt-ltb}
use Rattle.meaning.specs.State.{among}
use Rattle.meaning.proofs.Lists.{and_left, and_right, lt_or_le}
use Rattle.walk.specs.Code.{Rising}

-- the test of the code: m strikes are behind
abbrev pub next_is : List ℕ → (m steps : ℕ) → Bool
next_is ss m steps = ltb m (length ss) && eqb (get_or ss m 0) steps

pub record Ahead (ss : List ℕ) (m steps : ℕ) : Type 0 where
  pub most : m ≤ length ss
  pub behind : (j : ℕ) → j < m → get_or ss j 0 < steps
  pub ahead : (j : ℕ) → m ≤ j → j < length ss → steps ≤ get_or ss j 0

pub ahead_start : (ss : List ℕ) → Ahead ss 0 0
ahead_start ss = record { most = omega arith; behind = λ j h. absurd (omega arith); ahead = λ j h l. omega arith }

among_at : (x : ℕ) (l : List ℕ) (j : ℕ) → j < length l → get_or l j 0 ≡ x → among x l ≡ true
among_at x [] j h e = absurd (omega arith)
among_at x (y ∷ l) zero h e = rw (eq-eqb x y (sym e)) refl
among_at x (y ∷ l) (suc j) h e = go (eqb x y) (among_at x l j (omega arith) e)
  where
    go : (b : Bool) → among x l ≡ true → (b || among x l) ≡ true
    go true q = refl
    go false q = q

among_none : (x : ℕ) (l : List ℕ) → ((j : ℕ) → j < length l → get_or l j 0 ≡ x → ⊥) → among x l ≡ false
among_none x [] h = refl
among_none x (y ∷ l) h = rw (ne_eqb x y (λ e. h 0 (omega arith) (sym e))) (among_none x l (λ j k. h (suc j) (omega arith)))

module _ (ss : List ℕ) (rising : Rising ss) where
  rises_to : (k j : ℕ) → j < k → k < length ss → get_or ss j 0 < get_or ss k 0
  rises_to zero j h l = absurd (omega arith)
  rises_to (suc k) j h l = ⊎_elim
      (λ (q : j < k). let r = rises_to k j q (omega arith) in let t = rising k l in omega arith)
      (λ (q : k ≤ j). subst (λ (y : ℕ). get_or ss y 0 < get_or ss (suc k) 0) (let z : k ≡ j = omega arith in z) (rising k l))
      (lt_or_le j k)

  module _ (m steps : ℕ) (a : Ahead ss m steps) where
    is_next : next_is ss m steps ≡ true → (m < length ss) × (get_or ss m 0 ≡ steps)
    is_next e = (ltb-true m (length ss) (and_left _ _ e), eqb-true (get_or ss m 0) steps (and_right (ltb m (length ss)) _ e))

    -- where the next is another, none of those ahead is this step
    later : next_is ss m steps ≡ false → (j : ℕ) → m ≤ j → j < length ss → steps < get_or ss j 0
    later e j h l = ⊎_elim
        (λ (q : m < j). let r = rises_to j m q l in let t = a.ahead m (omega arith) (omega arith) in omega arith)
        (λ (q : j ≤ m). subst (λ (y : ℕ). steps < get_or ss y 0) (let z : m ≡ j = omega arith in z) (let t = a.ahead m (omega arith) (omega arith) in let u = other (omega arith) in omega arith))
        (lt_or_le m j)
      where
        other : m < length ss → get_or ss m 0 ≡ steps → ⊥
        other k = eqb-false (get_or ss m 0) steps (rw (lt-ltb m (length ss) k) at e)

    pub among_is : among steps ss ≡ next_is ss m steps
    among_is = go (next_is ss m steps) refl
      where
        apart : next_is ss m steps ≡ false → (j : ℕ) → j < length ss → get_or ss j 0 ≡ steps → ⊥
        apart e j l q = ⊎_elim (λ (r : j < m). let t = a.behind j r in omega arith) (λ (r : m ≤ j). let t = later e j r l in omega arith) (lt_or_le j m)

        go : (b : Bool) → next_is ss m steps ≡ b → among steps ss ≡ next_is ss m steps
        go true e = among_at steps ss m (is_next e).0 (is_next e).1 ∙ sym e
        go false e = among_none steps ss (apart e) ∙ sym e

    pub ahead_more : (b : Bool) → next_is ss m steps ≡ b → Ahead ss (cond b (m + 1) m) (steps + 1)
    ahead_more true e = record {
      most = omega (arith, (is_next e).0);
      behind = λ j h. ⊎_elim
          (λ (q : j < m). let t = a.behind j q in omega arith)
          (λ (q : m ≤ j). subst (λ (y : ℕ). get_or ss y 0 < steps + 1) (let z : m ≡ j = omega arith in z) (omega (arith, (is_next e).1)))
          (lt_or_le j m);
      ahead = λ j h l. let r = rises_to j m (omega arith) l in omega (arith, (is_next e).1);
    }
    ahead_more false e = record {
      most = a.most;
      behind = λ j h. let t = a.behind j h in omega arith;
      ahead = λ j h l. let t = later e j h l in omega arith;
    }
