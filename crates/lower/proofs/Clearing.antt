-- A list cleared from a place on, one element a turn: after the turns up to i the front is as it was, then there are zeros, then what is left. The
-- areas of a call are cleared by the library's `fill`, whose contract says the same of all turns at once.
use mathlib.Core.Path.{◌≡◌, sym, ap, ◌∙◌}
use mathlib.Core.List.{List, [], ◌∷◌, ◌++◌, append_assoc}
use Prim.Native.Nat.{ℕ, suc, ◌+◌, ◌-◌, ◌<◌, ◌≤◌}
use native.Mathlib.Omega.{arith}
use native.Mathlib.Numerals.{add-one}
use lib.ListN.{length, take, drop, replicate, set, length-append, length-replicate, replicate-append-replicate}
use lib.Seq.{length-take-le, drop-cons, set_at}

abbrev front : (o : List ℕ) (from i : ℕ) → List ℕ
front o from i = take from o ++ replicate (i - from) 0

abbrev pub cleared_to : (o : List ℕ) (from i : ℕ) → List ℕ
cleared_to o from i = front o from i ++ drop i o

module _ (o : List ℕ) (from : ℕ) where
  front_length : (i : ℕ) → from ≤ i → i ≤ length o → length (front o from i) ≡ i
  front_length i f h = omega (arith, length-append (take from o) (replicate (i - from) 0), length-take-le from o (omega arith), length-replicate {A = ℕ} (i - from) 0)

  front_more : (i : ℕ) → from ≤ i → front o from i ++ (0 ∷ []) ≡ front o from (i + 1)
  front_more i f =
      let e : i - from + 1 ≡ i + 1 - from = omega arith in
      append_assoc (take from o) (replicate (i - from) 0) (0 ∷ [])
      ∙ ap (λ l. take from o ++ l) (replicate-append-replicate (i - from) 1 0 ∙ ap (λ k. replicate k 0) e)

  pub cleared_more : (i : ℕ) → from ≤ i → i < length o → set (cleared_to o from i) i 0 ≡ cleared_to o from (i + 1)
  cleared_more i f h =
      ap (λ l. set (front o from i ++ l) i 0) (drop-cons o i 0 h)
      ∙ set_at (front o from i) _ (drop (suc i) o) 0 i (front_length i f (omega arith))
      ∙ sym (append_assoc (front o from i) (0 ∷ []) (drop (suc i) o))
      ∙ ap (λ l. l ++ drop (suc i) o) (front_more i f)
      ∙ ap (λ k. front o from (i + 1) ++ drop k o) (sym (add-one i))
