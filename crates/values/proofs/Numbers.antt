-- Numbers: which bit patterns are a NaN's, and that what is read is written as it was.
use mathlib.Core.Path.{◌≡◌, refl, sym, ap, ◌∙◌}
use mathlib.Core.Bool.{Bool, true, false, not, cond}
use mathlib.Core.List.{List, [], ◌∷◌}
use Prim.Native.Nat.{ℕ, zero, suc, ◌+◌, ◌*◌, ◌%◌, ◌^◌, ◌<◌, ◌≤◌}
use native.Mathlib.Omega.{arith}
use lib.ListN.{length, get_or}
use lib.Dec.{T}
use lib.Ieee.{binary64, nan_bits, of_bits, is_nan}
use lib.Ieee.Bits.{nan_bits_above, nan_bits_is, to_bits-of_bits}
use borrow.Author.Tests.{lt-ltb, le-ltb}
use Rattle.meaning.specs.Fields.{word_at, words}
use Rattle.meaning.specs.Constant.{number, constant_of, Proper}
use Rattle.meaning.specs.declared.Literal.TheVariants.{Number, NotANumber}
use Rattle.values.specs.Literals.{number_of}

-- ---- NaN patterns

pub nan_above : (n : ℕ) → 0x7FF0000000000000 < n % 0x8000000000000000 → nan_bits binary64 n ≡ true
nan_above n h = nan_bits_above binary64 n ∙ lt-ltb 0x7FF0000000000000 (n % 0x8000000000000000) h

pub no_nan : (n : ℕ) → n % 0x8000000000000000 ≤ 0x7FF0000000000000 → nan_bits binary64 n ≡ false
no_nan n h = nan_bits_above binary64 n ∙ le-ltb 0x7FF0000000000000 (n % 0x8000000000000000) h

proper : (n : ℕ) → nan_bits binary64 n ≡ false → T (not (is_nan (of_bits binary64 n)))
proper n e = rw (sym (nan_bits_is binary64 n) ∙ e) tt

-- what is read stands for its bits, and is a literal that `f64::to_bits` takes
pub number_constant : (n : ℕ) → n < 2 ^ 64 → constant_of (number_of n) ≡ number n
unfolding number_of
number_constant n h = go (nan_bits binary64 n) refl
  where
    go : (b : Bool) → nan_bits binary64 n ≡ b → constant_of (cond b (NotANumber n) (Number (of_bits binary64 n))) ≡ number n
    go true e = refl
    go false e = ap number (to_bits-of_bits binary64 n h (proper n e))

pub number_proper : (n : ℕ) → Proper (number_of n)
unfolding number_of
number_proper n = go (nan_bits binary64 n) refl
  where
    go : (b : Bool) → nan_bits binary64 n ≡ b → Proper (cond b (NotANumber n) (Number (of_bits binary64 n)))
    go true e = tt
    go false e = proper n e

-- ---- words of a payload, and the literal of a node

pub word_there : (p : List ℕ) (k : ℕ) → 2 * k + 2 ≤ length p → word_at p (2 * k) ≡ get_or (words p) k 0
unfolding words
word_there [] k h = absurd (omega arith)
word_there (a ∷ []) k h = absurd (omega arith)
word_there (a ∷ b ∷ p) zero h = refl
word_there (a ∷ b ∷ p) (suc k) h =
    let q : 2 * suc k ≡ suc (suc (2 * k)) = omega arith in
    let r : suc (suc (2 * k)) + 1 ≡ suc (suc (2 * k + 1)) = omega arith in
    rw q (rw r (word_there p k (omega arith)))

pub word_none : (p : List ℕ) (k : ℕ) → length p < 2 * k + 2 → 0 ≡ get_or (words p) k 0
unfolding words
word_none [] k h = refl
word_none (a ∷ []) k h = refl
word_none (a ∷ b ∷ p) zero h = absurd (omega arith)
word_none (a ∷ b ∷ p) (suc k) h = word_none p k (omega arith)
