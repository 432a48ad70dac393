-- The facts of an instruction as the code asks them: numbers, and tests of numbers. Only contracts of inner functions cite this; proofs/Tested proves that they say what Rules says.
use Rattle.std.specs.Prelude.{ℕ, max, ◌+◌, ◌<◌, ◌≡◌, Bool, not, ◌&&◌, ◌||◌, cond, eqb, leb, ltb, get_or, List, [], ◌∷◌}
use Rattle.meaning.specs.State.{Capture, among}
use Rattle.meaning.specs.Opcode.{Meets, of_none, of_a, of_ab, of_abc, of_return, of_call, meets, opcodes_written, bx, Jmp, LoadK, Call, GetUpval, Closure, RegisterTryCatch}
use Rattle.meaning.specs.Safety.{name_due}
use Rattle.meaning.specs.declared.Instruction.{Instruction}

-- ---- the kind of an opcode, by its row in the table of meaning/specs/Opcode

-- the opcodes whose facts ask more than registers and the next two instructions
abbrev pub asking : List ℕ
asking = Jmp ∷ LoadK ∷ Call ∷ GetUpval ∷ Closure ∷ RegisterTryCatch ∷ name_due

-- of the others, which registers are enough: a (0), a and b (1), a, b and c (2)
abbrev pub enough : Meets → ℕ
enough of_none = 0
enough of_a = 0
enough of_ab = 1
enough of_abc = 2
enough of_return = 0
enough of_call = 0

-- that, or 3 where more is asked, or 4 where the opcode is not written
unfoldable pub kind_seen : ℕ → ℕ
kind_seen o = cond (among o opcodes_written) (cond (among o asking) 3 (enough (meets o))) 4

-- a table of the kinds
pub record Kinds (m : List ℕ) : Type 0 where
  pub each : (o : ℕ) → o < 51 → get_or m o 0 ≡ kind_seen o

-- ---- the facts, by the kind

-- no step of an instruction at index i, with w in b and c, leads out of n instructions
abbrev pub steps_seen : (o w i n : ℕ) → Bool
steps_seen o w i n =
    (eqb o 3 && ((ltb w 32768 && ltb (i + w) n) || (leb 32768 w && (leb 65536 (i + w) && ltb (i + w) (n + 65536)))))
    || (not (eqb o 3) && (eqb o 20 || (ltb (i + 1) n && ((not (eqb o 4) || ltb (i + 2) n) && (not (eqb o 48) || ltb (i + w) n)))))

-- E9: a Jmp whose a is 1 or 2, or whose target leaves n instructions
abbrev pub replaced_seen : (o a w i n : ℕ) → Bool
replaced_seen o a w i n = eqb o 3 && ((eqb a 1 || eqb a 2) || not (steps_seen o w i n))

-- "none of Jmp and both TryCatch opcodes"
abbrev pub none_seen : ℕ → Bool
none_seen o = eqb o 3 || (eqb o 48 || eqb o 49)

-- every register met is below n; of a Call the last argument's is a + b - 1
abbrev pub registers_seen : (kind o a b c n : ℕ) → Bool
registers_seen k o a b c n =
    none_seen o || ((eqb o 20 && eqb b 0)
    || (ltb a n && ((not (eqb k 1 || eqb k 2) || ltb b n) && ((not (eqb k 2) || ltb c n) && (not (eqb o 19) || (leb (a + b) n && leb c n))))))

-- what an opcode asks of its operands: a of Jmp; b and c of Call; of GetUpval b among the captures; of Closure the prototype and what its captures need; of LoadK and of a name a constant
abbrev pub operands_seen : (o a b c w captures : ℕ) → (closure text : Bool) → (constants : ℕ) → Bool
operands_seen o a b c w captures closure text constants =
    (not (eqb o 3) || eqb a 0)
    && ((not (eqb o 19) || (ltb 0 b && ltb 0 c))
    && ((not (eqb o 22) || ltb b captures)
    && ((not (eqb o 23) || closure)
    && ((not (eqb o 1) || ltb w constants)
    && (not (eqb o 44 || (eqb o 45 || eqb o 47)) || text)))))

-- ---- with the tables

-- what is around an instruction: the registers and captures of its prototype, how many prototypes stand before it, how many constants there are
pub record Bounds : Type 0 where
  pub registers : ℕ
  pub captures : ℕ
  pub prototypes : ℕ
  pub constants : ℕ

-- one of the prototypes, whose captures need no more registers and captures than its creator has
abbrev pub closure_seen : (around : Bounds) → (locals outers : List ℕ) → (w : ℕ) → Bool
closure_seen v locals outers w = ltb w v.prototypes && (leb (get_or locals w 0) v.registers && leb (get_or outers w 0) v.captures)

-- one of the constants, and a text
abbrev pub text_seen : (around : Bounds) → (texts : List ℕ) → (w : ℕ) → Bool
text_seen v texts w = ltb w v.constants && eqb (get_or texts w 0) 1

-- of an instruction at index i of n, whose opcode is of this kind; `entered` says whether a step enters it
abbrev pub lawful_by : (kind : ℕ) → (around : Bounds) → (i n o a b c w : ℕ) → (closure text entered : Bool) → Bool
lawful_by k v i n o a b c w closure text entered =
    ltb k 4
    && (steps_seen o w i n
    && ((registers_seen k o a b c v.registers || ((eqb o 20 && eqb a 0) && (eqb v.registers 0 && (ltb 0 i && not entered))))
    && operands_seen o a b c w v.captures closure text v.constants))

abbrev pub lawful_seen : (around : Bounds) → (i n o a b c w : ℕ) → (closure text entered : Bool) → Bool
lawful_seen v i n o a b c w closure text entered = lawful_by (kind_seen o) v i n o a b c w closure text entered

-- the same of an instruction, by the tables
unfoldable pub seen_test : (around : Bounds) → (locals outers texts marks : List ℕ) → (n i : ℕ) → Instruction → Bool
seen_test v locals outers texts marks n i x =
    lawful_seen v i n x.opcode x.a x.b x.c (bx x) (closure_seen v locals outers (bx x)) (text_seen v texts (bx x)) (eqb (get_or marks i 0) 1)

-- ---- at once

-- what is enough, with two more instructions behind it
abbrev pub plain_seen : (kind i n a b c registers : ℕ) → Bool
plain_seen k i n a b c r = ltb (i + 2) n && (ltb a r && ((eqb k 0 || ltb b r) && (leb k 1 || ltb c r)))

-- as the code asks it: the same of a kind below 3
abbrev pub enough_seen : (kind i n a b c registers : ℕ) → Bool
enough_seen k i n a b c r = ltb (i + 2) n && (ltb a r && ((not (eqb k 1 || eqb k 2) || ltb b r) && (not (eqb k 2) || ltb c r)))

-- ---- what captures need

-- how many registers their creator must have
unfoldable pub local_need : List Capture → ℕ
local_need [] = 0
local_need (c ∷ cs) = cond c.is_local (max (c.index + 1) (local_need cs)) (local_need cs)

-- and how many captures
unfoldable pub outer_need : List Capture → ℕ
outer_need [] = 0
outer_need (c ∷ cs) = cond c.is_local (outer_need cs) (max (c.index + 1) (outer_need cs))
