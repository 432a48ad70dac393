-- struct Chunk: code that is joined, and jumps that are patched when the code around them is known.
use Rattle.std.specs.Prelude.{ℕ, zero, suc, ◌+◌, ◌-◌, cond, List, [], ◌∷◌, ◌++◌, length, eqb, leb}
use Rattle.meaning.specs.Opcode.{inst, inst_bx, back, no_mark, is_continue, is_break, is_end_jump, Jmp, Test, RegisterTryCatch, DeregisterTryCatch}
use Rattle.meaning.specs.State.{Chunk}
use Rattle.meaning.specs.declared.Instruction.{Instruction}

-- a chunk by its code and its result register
abbrev pub chunk : List Instruction → ℕ → Chunk
chunk code result = record { code = code; result = result }

-- the code of a row of chunks
abbrev pub joined : List Chunk → List Instruction
joined [] = []
joined (c ∷ cs) = c.code ++ joined cs

-- instructions.iter_mut().enumerate(), from index i on
abbrev pub each_at : (ℕ → Instruction → Instruction) → ℕ → List Instruction → List Instruction
each_at f i [] = []
each_at f i (x ∷ xs) = f i x ∷ each_at f (suc i) xs

-- the same jump, finished
abbrev pub jump_by : Instruction → ℕ → Instruction
jump_by x offset = inst_bx x.opcode 0 offset x.mark

-- ---- loops: visit_while_stmt, visit_classic_for_stmt, visit_enhanced_for_stmt end alike

-- the offset of a continue at index i, which goes to index `goal` of its loop's code
abbrev pub continue_offset : (goal i : ℕ) → ℕ
continue_offset goal i = cond (leb i goal) (goal - i) (back (i - goal))

-- where continue goes: in mode 1 to the increment, else to the first instruction of its loop's code
abbrev pub continue_goal : (mode increment : ℕ) → ℕ
continue_goal mode increment = cond (eqb mode 1) increment 0

-- "Patch continue and break": break goes past the loop's last instruction
abbrev pub patch_jump : (goal size i : ℕ) → Instruction → Instruction
patch_jump goal size i x = cond (is_continue x) (jump_by x (continue_offset goal i)) (cond (is_break x) (jump_by x (size - i)) x)

-- every instruction of a loop's code in turn: the jumps of loops inside are set already
abbrev pub patch_loop : (goal : ℕ) → List Instruction → List Instruction
patch_loop goal code = each_at (patch_jump goal (length code)) 0 code

-- a loop's code, its breaks and continues not patched yet
abbrev pub open_loop : (mark : ℕ) → (before condition : List Instruction) → (register : ℕ) → (body : List Instruction) → List Instruction
open_loop mark before condition register body =
    before
    ++ (condition
    ++ (inst Test register register 0 mark
    ∷ inst_bx Jmp 0 (length body + 2) mark
    ∷ (body ++ inst_bx Jmp 0 (back (length body + length condition + 2)) mark ∷ [])))

-- where the body of such a loop begins
abbrev pub body_place : (before condition : List Instruction) → ℕ
body_place before condition = length before + length condition + 2

-- a loop's code, finished: `before`, the condition with its Test, the body and the jump back to the condition
abbrev pub loop_code : (goal mark : ℕ) → (before condition : List Instruction) → (register : ℕ) → (body : List Instruction) → List Instruction
loop_code goal mark before condition register body = patch_loop goal (open_loop mark before condition register body)

-- ---- visit_if_stmt

-- one condition and its body: Test, the jump past the body, the body, the jump to the end
abbrev pub branch_code : ℕ → Chunk → List Instruction → List Instruction
branch_code mark c body =
    c.code ++ (inst Test c.result c.result 0 mark ∷ inst_bx Jmp 0 (length body + 2) mark ∷ (body ++ inst Jmp 0 0 0 mark ∷ []))

-- "Jump to the next instruction after this chunk"
abbrev pub patch_end : ℕ → ℕ → Instruction → Instruction
patch_end size i x = cond (is_end_jump x) (jump_by x (size - i)) x

-- every instruction of an if's code in turn
abbrev pub patch_ends : List Instruction → List Instruction
patch_ends code = each_at (patch_end (length code)) 0 code

-- ---- visit_try_catch_stmt

-- the first jump to the end is patched
abbrev pub patch_first : ℕ → List Instruction → List Instruction
patch_first offset [] = []
patch_first offset (x ∷ xs) = cond (is_end_jump x) (jump_by x offset ∷ xs) (x ∷ patch_first offset xs)

-- RegisterTryCatch with the distance to the catch part, the body, DeregisterTryCatch, a jump to be patched, the catch part
abbrev pub open_try : List Instruction → List Instruction → List Instruction
open_try body catch =
    inst_bx RegisterTryCatch 0 (length body + 3) no_mark
    ∷ (body ++ (inst DeregisterTryCatch 0 0 0 no_mark ∷ inst Jmp 0 0 0 no_mark ∷ catch))

-- a try's code, finished: the jump after the body goes past the catch part
abbrev pub try_code : List Instruction → List Instruction → List Instruction
try_code body catch = patch_first (length catch + 1) (open_try body catch)
