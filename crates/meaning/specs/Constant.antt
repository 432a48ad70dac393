-- 01, "A constant is a binary64 number, a text or another literal; numbers keep their bits"; and the numbers that Addi takes.
use Rattle.std.specs.Prelude.{ℕ, zero, Bool, true, false, not, cond, T, pos, Float}
use Rattle.std.proofs.Math.Option.{Option, none, some}
use Rattle.std.specs.Float.{fin, binary64}
use Rattle.std.specs.Float.Ieee.{of_bits, to_bits, to_unsigned, eq, is_nan}
use Rattle.meaning.specs.declared.Literal.{Literal}
use Rattle.meaning.specs.declared.Literal.TheVariants.{Number, NotANumber, Text, Other}

-- a number by its 64 bits, a text by its name, another literal by its word
pub data Constant : Type 0 where
  number text other : ℕ → Constant

-- what each case of the enum stands for
abbrev pub constant_of : Literal → Constant
constant_of (Number x) = number (to_bits binary64 x)
constant_of (NotANumber bits) = number bits
constant_of (Text name) = text name
constant_of (Other word) = other word

-- a number is no NaN: a NaN has a case of its own, since `f64::to_bits` is undefined there
abbrev pub Proper : Literal → Type 0
Proper (Number x) = T (not (is_nan x))
Proper (NotANumber bits) = Unit {0}
Proper (Text name) = Unit {0}
Proper (Other word) = Unit {0}

-- `n as u8` where the number equals it by IEEE 754's comparison (n.fract() == 0.0 && n >= 0.0 && n < 256.0)
unfoldable pub small_value : Float → Option ℕ
small_value x = let k = to_unsigned 8 x in cond (eq x (fin false k (pos zero))) (some k) none

-- "equals one of 0 to 255 by IEEE comparison (negative zero counts as 0)"
unfoldable pub small : (bits : ℕ) → Option ℕ
small bits = small_value (of_bits binary64 bits)
