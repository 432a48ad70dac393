-- From the bits: the law of each return stands in Bytes.
use mathlib.Core.Path.{◌≡◌, sym, ap}
use Prim.Native.Nat.{ℕ, ◌-◌, ◌*◌, ◌/◌, ◌%◌, ◌^◌, ◌<◌}
use native.Mathlib.Nat.{mod-eq_of_lt}
use native.Mathlib.Omega.{arith}
use lib.Pow.{pow_pos, pow-lt}
use Rattle.values.specs.Literals.{small_as}
use Rattle.values.proofs.Bytes.{zero_is, low_not, high_not, quotient_small, whole_is, part_not}
use Rattle.values.proofs.literal.small_bits.Goals as goal

-- `1 << n` is 2 ^ n
shifted : (n : ℕ) → n < 64 → 1 * 2 ^ n % 2 ^ 64 ≡ 2 ^ n
shifted n h = let e : 1 * 2 ^ n ≡ 2 ^ n = omega arith in rw e (mod-eq_of_lt (pow-lt h))

pub returns-then-bits-eq0 : goal.returns-then-bits-eq0
returns-then-bits-eq0 c = sym (ap small_as (zero_is _ (omega arith) c.if-bits-eq0.true))

pub returns-then-field-lt1023 : goal.returns-then-field-lt1023
returns-then-field-lt1023 c = sym (ap small_as (low_not _ c.if-bits-eq0.false (omega (arith, c.if-field-lt1023.true))))

pub returns-then-field-gt1030 : goal.returns-then-field-gt1030
returns-then-field-gt1030 c = sym (ap small_as (high_not _ (omega arith) c.if-bits-eq0.false (omega (arith, c.if-field-gt1030.true))))

pub nonzero_rem-digits-2 : goal.nonzero_rem-digits-2
nonzero_rem-digits-2 c = rw (shifted (1075 - c.args.bits / 4503599627370496) (omega (arith, c.if-field-lt1023.false))) (pow_pos _)

pub nonzero_div-result : goal.nonzero_div-result
nonzero_div-result c = rw (shifted (1075 - c.args.bits / 4503599627370496) (omega (arith, c.if-field-lt1023.false))) (pow_pos _)

pub overflow_cast-result : goal.overflow_cast-result
overflow_cast-result c = record { fits = rw (shifted (1075 - c.args.bits / 4503599627370496) (omega (arith, c.if-field-lt1023.false))) (quotient_small c.args.bits (omega (arith, c.if-field-gt1030.false))) }

pub returns-then-digits-unit-eq0 : goal.returns-then-digits-unit-eq0
returns-then-digits-unit-eq0 c = let low = c.if-field-lt1023.false in
    let high = c.if-field-gt1030.false in
    let e = shifted (1075 - c.args.bits / 4503599627370496) (omega (arith, low)) in
    rw e (sym (ap small_as (whole_is c.args.bits (omega (arith, low)) (omega (arith, high)) (rw e at c.if-digits-unit-eq0.true))))

pub returns : goal.returns
returns c = let low = c.if-field-lt1023.false in
    let high = c.if-field-gt1030.false in
    let e = shifted (1075 - c.args.bits / 4503599627370496) (omega (arith, low)) in
    sym (ap small_as (part_not c.args.bits (omega (arith, low)) (omega (arith, high)) (rw e at c.if-digits-unit-eq0.false)))
