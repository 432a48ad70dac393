-- The test for Addi from the bits, for all 64-bit patterns. A number is q * 2 ^ x / 2 ^ 1074 with its sign (`odd_sign`), q being its 53 digits; so it is
-- a number k from 0 to 255 exactly where q * 2 ^ x is k * 2 ^ 1074. Below the field 1023 that is too small for 1, above 1030 too large for 255, and
-- between q is a multiple of 2 ^ (1075 - field) or not.
use mathlib.Core.Path.{◌≡◌, refl, sym, ap, ◌∙◌}
use mathlib.Core.Bool.{Bool, true, false, cond, true≢false}
use mathlib.Core.Option.{none, some}
use Prim.Native.Nat.{ℕ, zero, suc, ◌+◌, ◌-◌, ◌*◌, ◌/◌, ◌%◌, ◌^◌, min, ◌<◌, ◌≤◌}
use native.Mathlib.Nat.{div-add-mod', div-lt_iff_lt-mul, lt_of_lt_of_le, suc-mul, mul-le-mul_left, mul-le-mul_right, mul-lt-mul_of_pos_right, mul_right_comm, mul_assoc, mul-div_cancel, mul-mod_left, mul-le-mul, mul-pos, mul-one, eq_of_mul-eq-mul_right}
use native.Mathlib.Decide.{ℕ_discrete, dec_lt}
use native.Mathlib.Omega.{arith}
use lib.Dec.{eqb, leb}
use lib.IntN.{ℤ, pos, negsuc}
use lib.Pow.{pow_pos, pow_mono, pow-add}
use lib.Ieee.{Float, nan, inf, fin, binary64, up, down, odd, of_fields, of_bits, eq, to_unsigned}
use lib.Ieee.Casts.{to_unsigned-lt}
use lib.Ieee.Exact.{HasValue, odd_sign}
use borrow.Author.Tests.{eq-eqb, ne_eqb, le-leb, lt-leb}
use Rattle.meaning.specs.Constant.{small_value, small}

down_pos : (e : ℤ) → 0 < down e
down_pos (pos k) = omega arith
down_pos (negsuc k) = pow_pos (suc k)

-- ---- a number of a known size

-- it is k
small_is : (x : Float) (k : ℕ) → k < 256 → HasValue x false k 1 → small_value x ≡ some k
unfolding small_value to_unsigned eq
small_is nan k h v = elim v [ ]
small_is (inf _) k h v = elim v [ ]
small_is (fin true m e) k h v = absurd (true≢false v.0)
small_is (fin false m e) k h v =
    let p : m * up e ≡ k * down e = omega (arith, v.1) in
    let q : m * up e / down e ≡ k = ap (λ z. z / down e) p ∙ mul-div_cancel k (down_pos e) in
    let r : min (m * up e / down e) 255 ≡ k = omega arith in
    rw r (rw (eq-eqb (m * up e * 1) (k * 1 * down e) (omega (arith, v.1))))

-- a / c is not k
unequal : (x : Float) (k a c : ℕ) → HasValue x false a c → (a ≡ k * c → ⊥) → eq x (fin false k (pos 0)) ≡ false
unfolding eq
unequal nan k a c v nk = elim v [ ]
unequal (inf _) k a c v nk = elim v [ ]
unequal (fin true m e) k a c v nk = absurd (true≢false v.0)
unequal (fin false m e) k a c v nk =
    rw (ne_eqb (m * up e * 1) (k * 1 * down e) λ r.
    let p : m * up e ≡ k * down e = omega (arith, r) in
    nk (eq_of_mul-eq-mul_right (down e) (down_pos e) a (k * c) (sym v.1 ∙ ap (λ z. z * c) p ∙ mul_right_comm k (down e) c)))

small_not : (x : Float) (a c : ℕ) → HasValue x false a c → ((k : ℕ) → k < 256 → a ≡ k * c → ⊥) → small_value x ≡ none
unfolding small_value
small_not x a c v nk = rw (unequal x (to_unsigned 8 x) a c v (nk (to_unsigned 8 x) (to_unsigned-lt 8 x)))

-- below 0
negative_not : (x : Float) (a c : ℕ) → 0 < a → HasValue x true a c → small_value x ≡ none
unfolding small_value to_unsigned eq
negative_not nan a c h v = elim v [ ]
negative_not (inf _) a c h v = elim v [ ]
negative_not (fin false m e) a c h v = absurd (true≢false (sym v.0))
negative_not (fin true m e) a c h v =
    rw (ne_eqb (m * up e * 1) (0 * 1 * down e) λ r. let p : m * up e ≡ 0 = omega arith in nothing (ap (λ z. z * c) p))
  where
    nothing : m * up e * c ≡ 0 * c → ⊥
    nothing z = let q = down_pos e in let y : a * down e ≡ 0 * c = sym v.1 ∙ z in let w : 1 ≤ a * down e = mul-pos h q in omega arith

-- ---- the fields of the bits

-- the weight of the exponent's field, and of the sign
abbrev H : ℕ
H = 0x0010000000000000

abbrev S : ℕ
S = 0x8000000000000000

-- the smallest value is 1 / P
abbrev P : ℕ
P = 2 ^ 1074

bits_are : (n : ℕ) (s : Bool) (x : ℕ) → leb S n ≡ s → n % S / H ≡ x → of_bits binary64 n ≡ of_fields binary64 s x (n % H)
unfolding of_bits
bits_are n s x e f = rw (e, f)

-- with the leading digit
exact : (s : Bool) (x t : ℕ) → x < 2046 → HasValue (of_fields binary64 s (suc x) t) s ((H + t) * 2 ^ x) P
unfolding of_fields
exact s x t h = rw (ne_eqb (suc x) 2047 (omega arith)) (odd_sign 53 s (H + t) x 1074)

-- without
tiny : (s : Bool) (t : ℕ) → HasValue (of_fields binary64 s 0 t) s (t * 2 ^ 0) P
unfolding of_fields
tiny s t = odd_sign 53 s t 0 1074

-- an infinity or a NaN
endless : (s : Bool) (t : ℕ) → small_value (of_fields binary64 s 2047 t) ≡ none
unfolding of_fields small_value eq
endless s t = by (eqb t 0)
  where
    by : (b : Bool) → small_value (cond b (inf s) nan) ≡ none
    by true = refl
    by false = refl

-- ---- the test, return by return

pub zero_is : (n : ℕ) → n < 2 * S → n % S ≡ 0 → small n ≡ some 0
unfolding small small_value of_bits of_fields odd to_unsigned eq
zero_is n h e = by (ℕ_discrete n 0)
  where
    by : Dec (n ≡ 0) → small n ≡ some 0
    by (yes z) = rw z
    by (no z) = let y : n ≡ S = omega arith in rw y

-- a number without sign, by its digits and its field, is k
module _ (x t : ℕ) (small-field : x < 2046) where
  abbrev q : ℕ
  q = H + t

  number_is : (k u : ℕ) → k < 256 → P ≡ u * 2 ^ x → q ≡ k * u → small_value (of_fields binary64 false (suc x) t) ≡ some k
  number_is k u h p e = small_is _ k h (rescaled (of_fields binary64 false (suc x) t) (q * 2 ^ x) P k (pow_pos 1074) (ap (λ z. k * z) p ∙ sym (mul_assoc k u (2 ^ x)) ∙ ap (λ z. z * 2 ^ x) (sym e)) (exact false x t small-field))
    where
      rescaled : (y : Float) (a c k : ℕ) → 0 < c → k * c ≡ a → HasValue y false a c → HasValue y false k 1
      rescaled nan a c k h r v = elim v [ ]
      rescaled (inf _) a c k h r v = elim v [ ]
      rescaled (fin s m e) a c k h r v =
          (v.0, eq_of_mul-eq-mul_right c h (m * up e * 1) (k * down e) (ap (λ z. z * c) (mul-one (m * up e)) ∙ v.1 ∙ ap (λ z. z * down e) (sym r) ∙ mul_right_comm k c (down e)))

  number_not : ((k : ℕ) → k < 256 → q * 2 ^ x ≡ k * P → ⊥) → small_value (of_fields binary64 false (suc x) t) ≡ none
  number_not nk = small_not _ (q * 2 ^ x) P (exact false x t small-field) nk

-- no multiple k of p lies strictly between 0 and p, and none below 256 is 256 times p or more
too_small : (z k p : ℕ) → 0 < z → z < p → z ≡ k * p → ⊥
too_small z zero p a b e = omega (arith, e)
too_small z (suc k) p a b e = omega (arith, e, suc-mul k p)

too_large : (z k p : ℕ) → k < 256 → 0 < p → 256 * p ≤ z → z ≡ k * p → ⊥
too_large z k p a c b e = let m : k * p ≤ 255 * p = mul-le-mul_right p (omega arith) in omega (arith, b, e, m)

-- too small for 1
pub low_not : (n : ℕ) → ¬ (n % S ≡ 0) → n / H < 1023 → small n ≡ none
unfolding small
low_not n z h = by (n / H) refl
  where
    by : (f : ℕ) → n / H ≡ f → small_value (of_bits binary64 n) ≡ none
    by zero e =
        let a : 0 < (n % H) * 2 ^ 0 = omega arith in
        let b : (n % H) * 2 ^ 0 < 2 ^ 52 = omega arith in
        let c : 2 ^ 52 ≤ 2 ^ 1074 = pow_mono {i = 52} {j = 1074} (omega arith) in
        rw (bits_are n false 0 (lt-leb S n (omega arith)) (omega arith)) (small_not _ ((n % H) * 2 ^ 0) P (tiny false (n % H)) (λ k l r. too_small ((n % H) * 2 ^ 0) k P a (lt_of_lt_of_le b c) r))
    by (suc x) e =
        rw (bits_are n false (suc x) (lt-leb S n (omega arith)) (omega arith))
        (number_not x (n % H) (omega arith) (λ k l r.
        let b : (H + n % H) * 2 ^ x < 2 ^ 53 * 2 ^ x = mul-lt-mul_of_pos_right (omega arith) (pow_pos x) in
        let c : 2 ^ 53 * 2 ^ x ≤ 2 ^ 53 * 2 ^ 1021 = mul-le-mul_left (2 ^ 53) (pow_mono {i = x} {j = 1021} (omega arith)) in
        too_small _ k P (mul-pos (omega arith) (pow_pos x)) (lt_of_lt_of_le b c) r))

-- too large for 255, endless, or below 0
pub high_not : (n : ℕ) → n < 2 * S → ¬ (n % S ≡ 0) → 1030 < n / H → small n ≡ none
unfolding small
high_not n l z h = signed (dec_lt n S)
  where
    above : (x : ℕ) → n < S → suc x ≡ n / H → Dec (x ≡ 2046) → small_value (of_fields binary64 false (suc x) (n % H)) ≡ none
    above x m e (yes w) = rw w (endless false (n % H))
    above x m e (no w) =
        let a : H ≤ H + n % H = omega arith in
        let b : 2 ^ 1030 ≤ 2 ^ x = pow_mono {i = 1030} {j = x} (omega arith) in
        number_not x (n % H) (omega arith) (λ k c r. too_large ((H + n % H) * 2 ^ x) k P c (pow_pos 1074) (mul-le-mul a b) r)

    below : (f : ℕ) → S ≤ n → n % S / H ≡ f → Dec (f ≡ 2047) → small_value (of_fields binary64 true f (n % H)) ≡ none
    below f m e (yes w) = rw w (endless true (n % H))
    below zero m e (no w) = negative_not _ ((n % H) * 2 ^ 0) P (omega arith) (tiny true (n % H))
    below (suc x) m e (no w) = negative_not _ ((H + n % H) * 2 ^ x) P (mul-pos (omega arith) (pow_pos x)) (exact true x (n % H) (omega arith))

    signed : Dec (n < S) → small_value (of_bits binary64 n) ≡ none
    signed (yes m) = let e : suc (n / H - 1) ≡ n / H = omega arith in rw (bits_are n false (suc (n / H - 1)) (lt-leb S n m) (omega arith)) (above (n / H - 1) m e (ℕ_discrete (n / H - 1) 2046))
    signed (no m) = rw (bits_are n true (n % S / H) (le-leb S n (omega arith)) refl) (below (n % S / H) (omega arith) refl (ℕ_discrete (n % S / H) 2047))

-- up to the field 1030 the digits are fewer than 256 units
pub quotient_small : (n : ℕ) → n / H ≤ 1030 → (H + n % H) / 2 ^ (1075 - n / H) < 256
quotient_small n high =
    let m : 2 ^ 45 ≤ 2 ^ (1075 - n / H) = pow_mono {i = 45} {j = 1075 - n / H} (omega arith) in
    (div-lt_iff_lt-mul (pow_pos (1075 - n / H))).1 (omega (arith, m))

-- between: a multiple of the unit, or not
module _ (n : ℕ) (low : 1023 ≤ n / H) (high : n / H ≤ 1030) where
  abbrev x : ℕ
  x = n / H - 1

  abbrev u : ℕ
  u = 2 ^ (1075 - n / H)

  abbrev d : ℕ
  d = H + n % H

  unit_is : P ≡ u * 2 ^ x
  unit_is = let e : 1074 ≡ 1075 - n / H + (n / H - 1) = omega arith in ap (λ k. 2 ^ k) e ∙ pow-add 2 (1075 - n / H) (n / H - 1)

  is_bits : of_bits binary64 n ≡ of_fields binary64 false (suc x) (n % H)
  is_bits = bits_are n false (suc (n / H - 1)) (lt-leb S n (omega arith)) (omega arith)

  pub whole_is : d % u ≡ 0 → small n ≡ some (d / u)
  unfolding small
  whole_is e = rw is_bits (number_is x (n % H) (omega arith) (d / u) u (quotient_small n high) unit_is (omega (arith, div-add-mod' d u, e)))

  pub part_not : ¬ (d % u ≡ 0) → small n ≡ none
  unfolding small
  part_not z =
      rw is_bits (number_not x (n % H) (omega arith) (λ k l r.
      z (ap (λ y. y % u) (eq_of_mul-eq-mul_right (2 ^ x) (pow_pos x) d (k * u) (r ∙ ap (λ y. k * y) unit_is ∙ sym (mul_assoc k u (2 ^ x)))) ∙ mul-mod_left k u)))
