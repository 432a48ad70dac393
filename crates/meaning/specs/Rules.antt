-- E1, "all facts of demand 3 at every instruction, reached or not", as tests. They are those of `Facts` in Safety, and proofs/Images/Lawful proves so.
use Rattle.std.specs.Prelude.{ℕ, zero, suc, ◌+◌, Bool, true, false, not, ◌&&◌, ◌||◌, cond, List, [], ◌∷◌, ◌++◌, length, replicate, eqb, ltb}
use Rattle.std.proofs.Math.Option.{Option, none, some}
use Rattle.meaning.specs.Opcode.{bx, opcodes_written, LoadK, Jmp, Test, Call, Return, GetUpval, Closure, RegisterTryCatch}
use Rattle.meaning.specs.Constant.{Constant, number, text, other}
use Rattle.meaning.specs.State.{Capture, Proto, among}
use Rattle.meaning.specs.Steps.{target}
use Rattle.meaning.specs.Safety.{met, name_due}
use Rattle.meaning.specs.declared.Instruction.{Instruction}
use Rattle.meaning.specs.Follow.{further}

-- a test of every element
unfoldable pub all : {A : Type 0} → (A → Bool) → List A → Bool
all p [] = true
all p (x ∷ xs) = p x && all p xs

-- of some element
unfoldable pub some_of : {A : Type 0} → (A → Bool) → List A → Bool
some_of p [] = false
some_of p (x ∷ xs) = p x || some_of p xs

-- the i-th element is there, and passes
unfoldable pub passes_at : {A : Type 0} → (A → Bool) → List A → ℕ → Bool
passes_at p [] i = false
passes_at p (x ∷ xs) zero = p x
passes_at p (x ∷ xs) (suc i) = passes_at p xs i

-- ---- 01, "Allowed steps"

-- beside the next instruction: of Test the one after, of RegisterTryCatch its index plus bx
abbrev pub more_steps : (i : ℕ) → Instruction → List (Option ℕ)
more_steps i x = cond (eqb x.opcode Test) (some (i + 2) ∷ []) (cond (eqb x.opcode RegisterTryCatch) (some (i + bx x) ∷ []) [])

-- where the steps of instruction x at index i lead
unfoldable pub leads : (i : ℕ) → Instruction → List (Option ℕ)
leads i x = cond (eqb x.opcode Jmp) (target i (bx x) ∷ []) (cond (eqb x.opcode Return) [] (some (i + 1) ∷ more_steps i x))

-- a place within n instructions
abbrev pub inside : (n : ℕ) → Option ℕ → Bool
inside n none = false
inside n (some i) = ltb i n

-- this place
abbrev pub is : (j : ℕ) → Option ℕ → Bool
is j none = false
is j (some i) = eqb i j

-- a step of one of the instructions, the first being at index i, leads to j
unfoldable pub entered_from : (i : ℕ) → List Instruction → (j : ℕ) → Bool
entered_from i [] j = false
entered_from i (x ∷ xs) j = some_of (is j) (leads i x) || entered_from (i + 1) xs j

-- "no instruction's steps enter it" is the contrary
abbrev pub entered : List Instruction → (j : ℕ) → Bool
entered code j = entered_from 0 code j

-- ---- an instruction

-- "a Return of register 0 in a prototype without registers, when it is not the first instruction and no instruction's steps enter it"
unfoldable pub let_pass : Proto → (i : ℕ) → Instruction → Bool
let_pass p i x = (eqb x.opcode Return && eqb x.a 0) && (eqb p.registers 0 && (ltb 0 i && not (entered p.code i)))

-- where the opcode is o, the test
abbrev pub if_opcode : Instruction → (o : ℕ) → Bool → Bool
if_opcode x o b = cond (eqb x.opcode o) b true

-- a capture fits its creator's counts
abbrev pub capture_fits : (registers captures : ℕ) → Capture → Bool
capture_fits rs cs c = ltb c.index (cond c.is_local rs cs)

-- a constant that can be a name
abbrev pub is_text : Constant → Bool
is_text (number b) = false
is_text (text n) = true
is_text (other w) = false

-- of instruction x, at index i of the prototype p, which stands behind the prototypes `earlier`: "Every Closure names an earlier prototype"
unfoldable pub lawful : List Constant → (earlier : List Proto) → Proto → (i : ℕ) → Instruction → Bool
lawful constants earlier p i x =
    among x.opcode opcodes_written
    && (all (inside (length p.code)) (leads i x)
    && (if_opcode x Jmp (eqb x.a 0)
    && ((all (λ r. ltb r p.registers) (met x) || let_pass p i x)
    && (if_opcode x Call (ltb 0 x.b && ltb 0 x.c)
    && (if_opcode x GetUpval (ltb x.b (length p.captures))
    && (if_opcode x Closure (passes_at (λ q. all (capture_fits p.registers (length p.captures)) q.captures) earlier (bx x))
    && (if_opcode x LoadK (ltb (bx x) (length constants))
    && cond (among x.opcode name_due) (passes_at is_text constants (bx x)) true)))))))

-- ---- an image: a test for each field

-- of instructions from index i on
unfoldable pub code_tests : List Constant → (earlier : List Proto) → Proto → (i : ℕ) → List Instruction → List Bool
code_tests ks earlier p i [] = []
code_tests ks earlier p i (x ∷ xs) = lawful ks earlier p i x ∷ code_tests ks earlier p (i + 1) xs

-- of prototypes behind `earlier`: a header and a capture pass
unfoldable pub proto_tests : List Constant → (earlier : List Proto) → List Proto → List Bool
proto_tests ks earlier [] = []
proto_tests ks earlier (p ∷ ps) = true ∷ (replicate (length p.captures) true ++ (code_tests ks earlier p 0 p.code ++ proto_tests ks (earlier ++ p ∷ []) ps))

-- the first that fails; none where all pass
unfoldable pub first_false : List Bool → Option ℕ
first_false [] = none
first_false (b ∷ bs) = cond b (further (first_false bs)) (some 0)
