-- src/instruction.rs: opcodes, instructions with their marks, the 16-bit offset. An opcode is its number, from 0 (Move) to 50 (GetExcept), in the order of `OpCode`.
use Rattle.std.specs.Prelude.{ℕ, ◌+◌, ◌-◌, ◌*◌, ◌/◌, ◌%◌, Bool, ◌&&◌, cond, [], ◌∷◌, get_or, eqb}
use mathlib.Core.List as Core
use Rattle.meaning.specs.declared.Instruction.{Instruction}

-- ---- enum OpCode: a number by its name

abbrev pub Move : ℕ
Move = 0

abbrev pub LoadK : ℕ
LoadK = 1

abbrev pub LoadNil : ℕ
LoadNil = 2

abbrev pub Jmp : ℕ
Jmp = 3

abbrev pub Test : ℕ
Test = 4

abbrev pub Add : ℕ
Add = 5

abbrev pub Sub : ℕ
Sub = 6

abbrev pub Div : ℕ
Div = 7

abbrev pub Mod : ℕ
Mod = 8

abbrev pub Mul : ℕ
Mul = 9

abbrev pub Pow : ℕ
Pow = 10

abbrev pub Lt : ℕ
Lt = 11

abbrev pub Gt : ℕ
Gt = 12

abbrev pub Lte : ℕ
Lte = 13

abbrev pub Gte : ℕ
Gte = 14

abbrev pub Eq : ℕ
Eq = 15

abbrev pub Neq : ℕ
Neq = 16

abbrev pub Not : ℕ
Not = 17

abbrev pub Neg : ℕ
Neg = 18

abbrev pub Call : ℕ
Call = 19

abbrev pub Return : ℕ
Return = 20

abbrev pub SetUpval : ℕ
SetUpval = 21

abbrev pub GetUpval : ℕ
GetUpval = 22

abbrev pub Closure : ℕ
Closure = 23

abbrev pub List : ℕ
List = 24

abbrev pub PushList : ℕ
PushList = 25

abbrev pub Dict : ℕ
Dict = 26

abbrev pub PushDict : ℕ
PushDict = 27

abbrev pub Slice : ℕ
Slice = 28

abbrev pub Access : ℕ
Access = 29

abbrev pub Set : ℕ
Set = 30

abbrev pub Class : ℕ
Class = 31

abbrev pub ClassMeth : ℕ
ClassMeth = 32

abbrev pub ClassStMeth : ℕ
ClassStMeth = 33

abbrev pub GetObj : ℕ
GetObj = 34

abbrev pub SetObj : ℕ
SetObj = 35

abbrev pub Addi : ℕ
Addi = 36

abbrev pub Subi : ℕ
Subi = 37

abbrev pub GetIter : ℕ
GetIter = 38

abbrev pub GetIterk : ℕ
GetIterk = 39

abbrev pub GetIteri : ℕ
GetIteri = 40

abbrev pub Length : ℕ
Length = 41

abbrev pub Super : ℕ
Super = 42

abbrev pub This : ℕ
This = 43

abbrev pub GetGlobal : ℕ
GetGlobal = 44

abbrev pub SetGlobal : ℕ
SetGlobal = 45

abbrev pub GetCurrentFunc : ℕ
GetCurrentFunc = 46

abbrev pub GetBuiltin : ℕ
GetBuiltin = 47

abbrev pub RegisterTryCatch : ℕ
RegisterTryCatch = 48

abbrev pub DeregisterTryCatch : ℕ
DeregisterTryCatch = 49

abbrev pub GetExcept : ℕ
GetExcept = 50

-- ---- the table of opcodes

-- 01, "Registers met": which of an instruction's operands are registers; Return and Call have a rule of their own
pub data Meets : Type 0 where
  of_none of_a of_ab of_abc of_return of_call : Meets

-- a row: an opcode that this lowering writes, and what it meets; or one that it does not write
pub data Row : Type 0 where
  is_written : (opcode : ℕ) → Meets → Row
  not_written : (opcode : ℕ) → Row

-- the one table, in the order of `OpCode`; proofs/Table proves that its rows are numbered from 0 to 50
abbrev pub opcode_table : Core.List Row
opcode_table =
    is_written Move of_ab ∷
    is_written LoadK of_a ∷
    is_written LoadNil of_a ∷
    is_written Jmp of_none ∷
    is_written Test of_ab ∷
    is_written Add of_abc ∷
    is_written Sub of_abc ∷
    is_written Div of_abc ∷
    is_written Mod of_abc ∷
    is_written Mul of_abc ∷
    is_written Pow of_abc ∷
    is_written Lt of_abc ∷
    is_written Gt of_abc ∷
    is_written Lte of_abc ∷
    is_written Gte of_abc ∷
    is_written Eq of_abc ∷
    is_written Neq of_abc ∷
    is_written Not of_ab ∷
    is_written Neg of_ab ∷
    is_written Call of_call ∷
    is_written Return of_return ∷
    not_written SetUpval ∷
    is_written GetUpval of_a ∷
    is_written Closure of_a ∷
    not_written List ∷
    not_written PushList ∷
    not_written Dict ∷
    not_written PushDict ∷
    not_written Slice ∷
    not_written Access ∷
    not_written Set ∷
    is_written Class of_abc ∷
    is_written ClassMeth of_abc ∷
    is_written ClassStMeth of_abc ∷
    not_written GetObj ∷
    not_written SetObj ∷
    is_written Addi of_ab ∷
    not_written Subi ∷
    is_written GetIter of_abc ∷
    is_written GetIterk of_abc ∷
    is_written GetIteri of_ab ∷
    is_written Length of_ab ∷
    not_written Super ∷
    not_written This ∷
    is_written GetGlobal of_a ∷
    is_written SetGlobal of_a ∷
    is_written GetCurrentFunc of_a ∷
    is_written GetBuiltin of_a ∷
    is_written RegisterTryCatch of_none ∷
    is_written DeregisterTryCatch of_none ∷
    is_written GetExcept of_a ∷
    []

-- the opcode of a row
abbrev pub opcode_of : Row → ℕ
opcode_of (is_written o m) = o
opcode_of (not_written o) = o

-- the opcodes that rows say are written
abbrev pub written_in : Core.List Row → Core.List ℕ
written_in [] = []
written_in (is_written o m ∷ rows) = o ∷ written_in rows
written_in (not_written o ∷ rows) = written_in rows

-- "opcodes that this lowering writes" (E1)
abbrev pub opcodes_written : Core.List ℕ
opcodes_written = written_in opcode_table

-- what rows say that an opcode meets; "of the rest a"
abbrev pub meets_in : Core.List Row → (opcode : ℕ) → Meets
meets_in [] n = of_a
meets_in (is_written o m ∷ rows) n = cond (eqb n o) m (meets_in rows n)
meets_in (not_written o ∷ rows) n = meets_in rows n

-- what an opcode meets
abbrev pub meets : (opcode : ℕ) → Meets
meets n = meets_in opcode_table n

-- ---- struct Instruction, with its mark (struct InstSrc)

-- an instruction by its opcode, its operands and its mark
abbrev pub inst : (opcode a b c mark : ℕ) → Instruction
inst opcode a b c mark = record { opcode = opcode; a = a; b = b; c = c; mark = mark }

-- the mark that stands for `None`, at either width (E5, "Absent is 4,294,967,295"); its two low bytes are 01's 65,535
abbrev pub no_mark : ℕ
no_mark = 4294967295

-- an instruction whose b and c hold a 16-bit number, high byte first
abbrev pub inst_bx : (opcode a n mark : ℕ) → Instruction
inst_bx opcode a n mark = inst opcode a (n / 256 % 256) (n % 256) mark

-- fn bx: the number that b and c hold
abbrev pub bx : Instruction → ℕ
bx x = x.b * 256 + x.c

-- "A backward offset of n is stored as 65,536 minus n", wrapping
abbrev pub back : ℕ → ℕ
back n = (65536 - n % 65536) % 65536

-- const JMP_CONTINUE: what a holds in a continue's jump until it is patched
abbrev pub jmp_continue : ℕ
jmp_continue = 1

-- const JMP_BREAK: the same of a break's jump
abbrev pub jmp_break : ℕ
jmp_break = 2

-- fn is_continue
abbrev pub is_continue : Instruction → Bool
is_continue x = eqb x.opcode Jmp && eqb x.a jmp_continue

-- fn is_break
abbrev pub is_break : Instruction → Bool
is_break x = eqb x.opcode Jmp && eqb x.a jmp_break

-- the jump to the end of an if or a try, before it is patched: Jmp 0 0 0
abbrev pub is_end_jump : Instruction → Bool
is_end_jump x = eqb x.opcode Jmp && eqb x.a 0 && eqb x.b 0 && eqb x.c 0

-- ---- the operators, as numbered in the tree file

-- 1 Not, 2 Minus
abbrev pub unary_opcode : ℕ → ℕ
unary_opcode op = get_or (0 ∷ Not ∷ Neg ∷ []) op 0

-- 1 Plus, 2 Less, 3 EqualEqual, 4 BangEqual, 5 Greater, 6 GreaterEqual, 7 LessEqual, 8 Minus, 9 Slash, 10 Mod, 11 Star, 12 Power
abbrev pub binary_opcode : ℕ → ℕ
binary_opcode op = get_or (0 ∷ Add ∷ Lt ∷ Eq ∷ Neq ∷ Gt ∷ Gte ∷ Lte ∷ Sub ∷ Div ∷ Mod ∷ Mul ∷ Pow ∷ []) op 0

-- the three operators that are asked for by name: Plus and Minus by `visit_binary_expr`, Or by `visit_logical_expr`
abbrev pub plus : ℕ
plus = 1

abbrev pub minus : ℕ
minus = 8

abbrev pub or : ℕ
or = 1
