-- Bytes written one after the other stand together at the place of the first. Assumes nothing.
use mathlib.Core.Path.{◌≡◌, refl, sym, ap, ap₂, ◌∙◌}
use mathlib.Core.List.{List, [], ◌∷◌, ◌++◌, append_assoc}
use Prim.Native.Nat.{ℕ, ◌+◌, ◌<◌, ◌≤◌}
use native.Mathlib.Omega.{arith}
use native.Mathlib.Numerals.{add-one}
use lib.ListN.{length, set, take, drop, length-append, length-drop, take-append-drop}
use lib.Seq.{take_at, drop_at, set_split, length-take-le, drop-drop, drop-append-add}
use borrow.Rule.Slice.PartMut.{put_mid}
use Rattle.writers.specs.Spliced.{Spliced}

front : (o bytes : List ℕ) (at : ℕ) → at + length bytes ≤ length o → length (take at o ++ bytes) ≡ at + length bytes
front o bytes at h = omega (arith, length-append (take at o) bytes, length-take-le at o (omega arith))

pub spliced_length : {o o' bytes : List ℕ} {at : ℕ} → Spliced o at bytes o' → length o' ≡ length o
spliced_length {o} {o'} {bytes} {at} s =
    let f = s.fits in
    ap length s.is ∙ omega (arith, length-append (take at o) (bytes ++ drop (at + length bytes) o), length-append bytes (drop (at + length bytes) o), length-take-le at o (omega arith), length-drop (at + length bytes) o)

pub spliced_none : (o : List ℕ) (at : ℕ) → at ≤ length o → Spliced o at [] o
spliced_none o at h =
    let e : at + 0 ≡ at = omega arith in
    record { fits = omega arith; is = sym (ap (λ k. take at o ++ drop k o) e ∙ take-append-drop at o) }

-- what comes before the end of the bytes, what after
module _ {o o' bytes : List ℕ} {at : ℕ} (s : Spliced o at bytes o') where
  parts : o' ≡ (take at o ++ bytes) ++ drop (at + length bytes) o
  parts = s.is ∙ sym (append_assoc (take at o) bytes (drop (at + length bytes) o))

  pub spliced_take : take (at + length bytes) o' ≡ take at o ++ bytes
  spliced_take = ap (take (at + length bytes)) parts ∙ take_at (take at o ++ bytes) (drop (at + length bytes) o) (at + length bytes) (front o bytes at s.fits)

  spliced_drop : (k : ℕ) → drop (at + length bytes + k) o' ≡ drop (at + length bytes + k) o
  spliced_drop k =
      let n = front o bytes at s.fits in
      ap (drop (at + length bytes + k)) parts
      ∙ ap (λ m. drop (m + k) ((take at o ++ bytes) ++ drop (at + length bytes) o)) (sym n)
      ∙ drop-append-add (take at o ++ bytes) (drop (at + length bytes) o) k
      ∙ drop-drop k (at + length bytes) o

-- what is read there is what was written
pub spliced_at : {o o' bytes : List ℕ} {at : ℕ} → Spliced o at bytes o' → take (length bytes) (drop at o') ≡ bytes
spliced_at {o} {o'} {bytes} {at} s =
    ap (λ l. take (length bytes) (drop at l)) s.is
    ∙ ap (take (length bytes)) (drop_at (take at o) (bytes ++ drop (at + length bytes) o) at (length-take-le at o (omega (arith, s.fits))))
    ∙ take_at bytes (drop (at + length bytes) o) (length bytes) refl

pub spliced_then : {o o1 o2 a b : List ℕ} {at n : ℕ} → Spliced o at a o1 → Spliced o1 n b o2 → n ≡ at + length a → Spliced o at (a ++ b) o2
spliced_then {o} {o1} {o2} {a} {b} {at} {n} s t e =
    let size : length (a ++ b) ≡ length a + length b = length-append a b in
    let end : at + length a + length b ≡ at + length (a ++ b) = omega arith in
    record {
      fits = omega (arith, s.fits, t.fits, spliced_length s);
      is = t.is
          ∙ ap (λ k. take k o1 ++ (b ++ drop (k + length b) o1)) e
          ∙ ap₂ (λ x y. x ++ (b ++ y)) (spliced_take s) (spliced_drop s (length b) ∙ ap (λ k. drop k o) end)
          ∙ append_assoc (take at o) a (b ++ drop (at + length (a ++ b)) o)
          ∙ ap (λ x. take at o ++ x) (sym (append_assoc a b (drop (at + length (a ++ b)) o)));
    }

-- a part of the output is written
pub spliced_part : (o : List ℕ) {s bytes : List ℕ} (at k : ℕ) → s ≡ bytes → k ≡ length bytes → at + k ≤ length o → Spliced o at bytes (put_mid at k o s)
spliced_part o {bytes = bytes} at k q e h =
    record { fits = omega arith; is = ap₂ (λ a b. take at o ++ (a ++ b)) q (drop-drop k at o ∙ ap (λ m. drop (at + m) o) e) }

one_byte : (o : List ℕ) (k b : ℕ) → k < length o → Spliced o k (b ∷ []) (set o k b)
one_byte o k b h = record { fits = omega arith; is = set_split o k b h ∙ ap (λ m. take k o ++ b ∷ drop m o) (sym (add-one k)) }

-- one byte more
pub spliced_byte : {o o' bytes : List ℕ} {at : ℕ} (k b : ℕ) → Spliced o at bytes o' → k ≡ at + length bytes → k < length o → Spliced o at (bytes ++ b ∷ []) (set o' k b)
spliced_byte {o' = o'} k b s e h = spliced_then s (one_byte o' k b (omega (arith, spliced_length s))) e

-- the same bytes, said otherwise
pub spliced_as : {o o' a b : List ℕ} {at : ℕ} → a ≡ b → Spliced o at a o' → Spliced o at b o'
spliced_as e s = rw e at s
