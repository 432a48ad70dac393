-- The words of a payload by its bytes: word k is bytes 2 k and 2 k + 1, and an odd last byte makes no word.
use mathlib.Core.Path.{◌≡◌, refl}
use mathlib.Core.List.{List, [], ◌∷◌}
use Prim.Native.Nat.{ℕ, zero, suc, ◌+◌, ◌*◌, ◌/◌, ◌<◌}
use native.Mathlib.Omega.{arith}
use lib.ListN.{length}
use Rattle.meaning.specs.Fields.{word_at, words}
use Rattle.meaning.specs.Read.{at}

pub words_count : (p : List ℕ) → length (words p) ≡ length p / 2
unfolding words
words_count [] = refl
words_count (a ∷ []) = refl
words_count (a ∷ b ∷ p) = omega (arith, words_count p)

-- the bytes of a word are there
pub word_inside : (p : List ℕ) (k : ℕ) → k < length (words p) → 2 * k + 1 < length p
word_inside p k h = omega (arith, words_count p)

pub word_bytes : (p : List ℕ) (k : ℕ) → k < length (words p) → at (words p) k ≡ word_at p (2 * k)
unfolding words
word_bytes [] k h = absurd (omega arith)
word_bytes (a ∷ []) k h = absurd (omega arith)
word_bytes (a ∷ b ∷ p) zero h = refl
word_bytes (a ∷ b ∷ p) (suc k) h =
    let n : 2 * suc k ≡ suc (suc (2 * k)) = omega arith in
    let m : suc (suc (2 * k)) + 1 ≡ suc (suc (2 * k + 1)) = omega arith in
    rw (n, m) (word_bytes p k (omega arith))
