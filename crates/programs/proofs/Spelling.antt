-- A word is spelled from its front: what is left of it after i digits goes on from the value that they make.
use Prim.Native.Nat.{ℕ, suc, ◌+◌, ◌<◌, ◌≤◌}
use mathlib.Core.Path.{◌≡◌, refl, sym, ap, ◌∙◌}
use mathlib.Core.Bool.{Bool, true, false, ◌&&◌, cond}
use mathlib.Core.List.{List, [], ◌∷◌}
use native.Mathlib.Omega.{arith}
use lib.ListN.{length, get_or, drop, drop_of_length-le}
use lib.Seq.{drop-cons}
use lib.Dec.{leb}
use Rattle.std.specs.Prelude.{Option, Some, None}
use Rattle.std.proofs.lemmas.Option.{none-some, same_Some}
use Rattle.programs.specs.Words.{is_digit, and_digit, spelled_on, spelled}

pub of_none : (l : List ℕ) → length l ≡ 0 → None ≡ spelled l
unfolding spelled
of_none [] e = refl
of_none (d ∷ ds) e = absurd (omega (arith, e))

pub of_some : (l : List ℕ) → (length l ≡ 0 → ⊥) → spelled l ≡ spelled_on 0 l
unfolding spelled
of_some [] e = absurd (e refl)
of_some (d ∷ ds) e = refl

-- a number that is none stays none, and one that is there goes on
stops : (b : Bool) (x : ℕ) (rest : Option ℕ) → cond b (Some x) None ≡ None → cond b rest None ≡ None
stops true x rest e = absurd (none-some x (sym e))
stops false x rest e = refl

goes_on : (b : Bool) (x z : ℕ) (rest : ℕ → Option ℕ) → cond b (Some x) None ≡ Some z → cond b (rest x) None ≡ rest z
goes_on true x z rest e = ap rest (same_Some x z e)
goes_on false x z rest e = absurd (none-some z e)

-- the number with one digit more, where it is one
abbrev pub with_digit : (value digit : ℕ) → Option ℕ
with_digit v d = cond (is_digit d && leb (and_digit v d) 18446744073709551615) (Some (and_digit v d)) None

module _ (l : List ℕ) (v i : ℕ) (e : spelled l ≡ spelled_on v (drop i l)) where
  -- nothing is left
  pub of_all : length l ≤ i → Some v ≡ spelled l
  unfolding spelled_on
  of_all h = sym (e ∙ ap (spelled_on v) (drop_of_length-le l h))

  module _ (h : i < length l) where
    rest : get_or l i 0 ∷ drop (suc i) l ≡ get_or l i 0 ∷ drop (i + 1) l
    rest = ap (λ k. get_or l i 0 ∷ drop k l) {x = suc i} {y = i + 1} (omega arith)

    by_first : spelled l ≡ cond (is_digit (get_or l i 0) && leb (and_digit v (get_or l i 0)) 18446744073709551615) (spelled_on (and_digit v (get_or l i 0)) (drop (i + 1) l)) None
    unfolding spelled_on
    by_first = e ∙ ap (spelled_on v) (drop-cons l i 0 h ∙ rest)

    pub no_more : with_digit v (get_or l i 0) ≡ None → None ≡ spelled l
    no_more d = sym (by_first ∙ stops (is_digit (get_or l i 0) && leb (and_digit v (get_or l i 0)) 18446744073709551615) (and_digit v (get_or l i 0)) (spelled_on (and_digit v (get_or l i 0)) (drop (i + 1) l)) d)

    pub one_more : (z : ℕ) → with_digit v (get_or l i 0) ≡ Some z → spelled l ≡ spelled_on z (drop (i + 1) l)
    one_more z d = by_first ∙ goes_on (is_digit (get_or l i 0) && leb (and_digit v (get_or l i 0)) 18446744073709551615) (and_digit v (get_or l i 0)) z (λ x. spelled_on x (drop (i + 1) l)) d
