-- src/instruction.rs: the signed reading of an instruction's 16-bit number, and its two bytes.
use Rattle.std.specs.Prelude.{ℕ, suc, ◌-◌, ◌/◌, ◌%◌, Bool, true, false, ℤ, pos, negsuc, neg_ℤ, nat_lt}
use Rattle.meaning.specs.Opcode.{bx, back}
use Rattle.meaning.specs.declared.Instruction.{Instruction}
use Rattle.instruction.specs.declared.Halves.{Halves}

-- one of two numbers
abbrev pub either : Bool → ℤ → ℤ → ℤ
either true x y = x
either false x y = y

-- `n as i16`: from 32,768 on the number stands for itself less 65,536
abbrev pub signed : ℕ → ℤ
signed n = either (nat_lt n 32768) (pos n) (neg_ℤ (pos (65536 - n)))

-- fn sbx
abbrev pub sbx : Instruction → ℤ
sbx x = signed (bx x)

-- the bytes b and c of `wide`
abbrev pub halves_of : ℕ → Halves
halves_of n = record { b = n / 256 % 256; c = n % 256 }

-- an offset as it is stored: forward n as n, backward n as 65,536 minus n
abbrev pub stored : ℤ → ℕ
stored (pos n) = n
stored (negsuc n) = back (suc n)
