-- 01, "Allowed steps", and E8's amendment: where control may go within a prototype.
use Rattle.std.specs.Prelude.{ℕ, ◌+◌, ◌-◌, ◌<◌, ◌≡◌, cond, List, length, get_or, leb, ltb}
use Rattle.std.proofs.Math.Option.{Option, none, some}
use Rattle.meaning.specs.Opcode.{inst, bx, no_mark, Jmp, Test, Return, RegisterTryCatch}
use Rattle.meaning.specs.declared.Instruction.{Instruction}

-- the instruction at index i, which is asked for only where i is below the length
abbrev pub inst_at : List Instruction → (i : ℕ) → Instruction
inst_at code i = get_or code i (inst Return 0 0 0 no_mark)

-- the opcode of the instruction at index i
abbrev pub opcode_at : List Instruction → (i : ℕ) → ℕ
opcode_at code i = (inst_at code i).opcode

-- index i plus an offset of 16 bits with sign (fn sbx); none is a place before the first instruction
abbrev pub target : (i offset : ℕ) → Option ℕ
target i w = cond (ltb w 32768) (some (i + w)) (cond (leb 65536 (i + w)) (some (i + w - 65536)) none)

-- a step of 01 from instruction i, and where it leads
pub data StepOf01 (code : List Instruction) (i : ℕ) : Option ℕ → Type 0 where
  -- "to the next instruction", but from Jmp, and "none after Return"
  next : i < length code → (opcode_at code i ≡ Jmp → ⊥) → (opcode_at code i ≡ Return → ⊥) → StepOf01 code i (some (i + 1))
  -- "Jmp to its index plus offset only"
  jump : i < length code → opcode_at code i ≡ Jmp → StepOf01 code i (target i (bx (inst_at code i)))
  -- "Test to the next or the one after"
  skip : i < length code → opcode_at code i ≡ Test → StepOf01 code i (some (i + 2))
  -- "RegisterTryCatch to the next or to its index plus bx"
  handler : i < length code → opcode_at code i ≡ RegisterTryCatch → StepOf01 code i (some (i + bx (inst_at code i)))

-- the steps as E8 amends them
pub data Amended (code : List Instruction) (i : ℕ) : Option ℕ → Type 0 where
  -- those of 01
  ordinary : {o : Option ℕ} → StepOf01 code i o → Amended code i o
  -- "from any instruction other than Return, control may also go to the handler of any RegisterTryCatch in the same prototype"
  struck : (k : ℕ) → i < length code → (opcode_at code i ≡ Return → ⊥) → k < length code → opcode_at code k ≡ RegisterTryCatch → Amended code i (some (k + bx (inst_at code k)))

-- any number of steps from instruction i, and where they lead
pub data Walk (step : ℕ → Option ℕ → Type 0) (i : ℕ) : Option ℕ → Type 0 where
  here : Walk step i (some i)
  and_on : {j : ℕ} {o : Option ℕ} → Walk step i (some j) → step j o → Walk step i o
