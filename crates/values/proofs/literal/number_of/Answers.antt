-- The comparison tells the patterns of NaNs (`nan_bits_above`).
use mathlib.Core.Path.{◌≡◌}
use Prim.Native.Nat.{ℕ, ◌^◌, ◌<◌}
use Rattle.meaning.specs.Constant.{number, constant_of, Proper}
use Rattle.meaning.specs.declared.Literal.{Literal}
use Rattle.values.specs.Literals.{number_of}
use Rattle.values.proofs.Numbers.{nan_above, no_nan, number_constant, number_proper}
use Rattle.values.proofs.literal.number_of.Goals as goal

both : (n : ℕ) (r : Literal) → n < 2 ^ 64 → r ≡ number_of n → record { case : r ≡ number_of n; constant : (constant_of r ≡ number n) × Proper r }
both n r h e = record { case = e; constant = rw e (number_constant n h, number_proper n) }

pub returns-then-bits-gt9218868437227405312 : goal.returns-then-bits-gt9218868437227405312
unfolding number_of
returns-then-bits-gt9218868437227405312 c = both c.args.bits _ c.ranges.bits.fits (rw (nan_above c.args.bits c.if-bits-gt9218868437227405312.true))

pub returns : goal.returns
unfolding number_of
returns c = both c.args.bits _ c.ranges.bits.fits (rw (no_nan c.args.bits c.if-bits-gt9218868437227405312.false))

pub float_from_bits-result : goal.float_from_bits-result
float_from_bits-result c = rw (no_nan c.args.bits c.if-bits-gt9218868437227405312.false) tt
