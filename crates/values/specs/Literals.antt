-- Literals as the enum has them. Beside `constant_of` (meaning/specs/Constant), which says what each case stands for, these fix the case.
use Rattle.std.specs.Prelude.{ℕ, cond, List, eqb, Option, None, Some}
use Rattle.std.proofs.Math.Option as maybe
use Rattle.std.specs.Float.{binary64}
use Rattle.std.specs.Float.Ieee.{nan_bits, of_bits}
use Rattle.meaning.specs.Read.{at, bits}
use Rattle.meaning.specs.Constant.{Constant, number, text, other, constant_of, small}
use Rattle.meaning.specs.declared.Literal.{Literal}
use Rattle.meaning.specs.declared.Literal.TheVariants.{Number, NotANumber, Text, Other}

-- 64 bits: a number, but for a NaN's, which have a case of their own
unfoldable pub number_of : (bits : ℕ) → Literal
number_of bits = cond (nan_bits binary64 bits) (NotANumber bits) (Number (of_bits binary64 bits))

-- the literal of a node: tag 01 a number, tag 02 a text, else another
unfoldable pub literal_of : (tag : ℕ) → (words : List ℕ) → Literal
literal_of tag ws = cond (eqb tag 0x01) (number_of (bits ws)) (cond (eqb tag 0x02) (Text (at ws 0)) (Other (at ws 0)))

-- the constant that it stands for, as the readers of meaning/specs/Read have it
unfoldable pub constant_at : (tag : ℕ) → (words : List ℕ) → Constant
constant_at tag ws = cond (eqb tag 0x01) (number (bits ws)) (cond (eqb tag 0x02) (text (at ws 0)) (other (at ws 0)))

-- a number from 0 to 255 or none, as the code has it
abbrev pub small_as : maybe.Option ℕ → Option ℕ
small_as maybe.none = None
small_as (maybe.some k) = Some k

-- the number from 0 to 255 that a constant equals by IEEE 754's comparison, if any
abbrev pub small_constant : Constant → Option ℕ
small_constant (number bits) = small_as (small bits)
small_constant (text name) = None
small_constant (other word) = None

-- the same of a literal, by what it stands for
abbrev pub small_of : Literal → Option ℕ
small_of l = small_constant (constant_of l)
