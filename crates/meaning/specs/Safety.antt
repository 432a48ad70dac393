-- Demand 3: no walk leaves its prototype, and everything that it meets exists.
use Rattle.std.specs.Prelude.{ℕ, zero, suc, ◌+◌, ◌-◌, ◌≤◌, ◌<◌, ◌≡◌, true, cond, List, [], ◌∷◌, ◌++◌, length, eqb, Ok}
use Rattle.std.proofs.Math.Option.{Option, none, some}
use Rattle.meaning.specs.Fields.{fields}
use Rattle.meaning.specs.Grammar.{wide_marks}
use Rattle.meaning.specs.Check.{checked}
use Rattle.meaning.specs.Opcode.{inst, bx, no_mark, Meets, of_none, of_a, of_ab, of_abc, of_return, of_call, meets, LoadK, Jmp, Call, Return, GetUpval, Closure, GetGlobal, SetGlobal, GetBuiltin}
use Rattle.meaning.specs.Constant.{Constant, number, text, other}
use Rattle.meaning.specs.Read.{read_program}
use Rattle.meaning.specs.State.{Capture, Proto, State, done, among}
use Rattle.meaning.specs.Lower.{lower_program}
use Rattle.meaning.specs.Image.{image}
use Rattle.meaning.specs.Steps.{inst_at, opcode_at, StepOf01, Amended, Walk}
use Rattle.meaning.specs.declared.Instruction.{Instruction}

-- n registers, from r on
abbrev pub from : (r n : ℕ) → List ℕ
from r zero = []
from r (suc n) = r ∷ from (suc r) n

-- "Registers met", by what an opcode's row says of it
abbrev pub met_by : Meets → Instruction → List ℕ
met_by of_none x = []
met_by of_a x = x.a ∷ []
met_by of_ab x = x.a ∷ x.b ∷ []
met_by of_abc x = x.a ∷ x.b ∷ x.c ∷ []
-- "of Return a, only when b is not 0"
met_by of_return x = cond (eqb x.b 0) [] (x.a ∷ [])
-- "of Call .. a, as many after it as arguments (one less than b), and the one before c"
met_by of_call x = x.a ∷ (from (x.a + 1) (x.b - 1) ++ (x.c - 1) ∷ [])

-- the registers that an instruction meets
abbrev pub met : Instruction → List ℕ
met x = met_by (meets x.opcode) x

-- "A name is due in GetGlobal, SetGlobal and GetBuiltin"
abbrev pub name_due : List ℕ
name_due = GetGlobal ∷ SetGlobal ∷ GetBuiltin ∷ []

-- a constant that can be a name: a text
abbrev pub IsText : Constant → Type 0
IsText (number bits) = ⊥
IsText (text name) = Unit {0}
IsText (other word) = ⊥

-- P holds of every element
abbrev pub All : {A : Type 0} → (A → Type 0) → List A → Type 0
All P [] = Unit {0}
All P (x ∷ xs) = P x × All P xs

-- the i-th element is there, and P holds of it
abbrev pub Holds : {A : Type 0} → (A → Type 0) → List A → (i : ℕ) → Type 0
Holds P [] i = ⊥
Holds P (x ∷ xs) zero = P x
Holds P (x ∷ xs) (suc i) = Holds P xs i

-- a capture names a register of its creator where it is local, else a capture of its creator
abbrev pub Fits : (registers captures : ℕ) → Capture → Type 0
Fits registers captures c = c.index < cond c.is_local registers captures

-- a place within n instructions
abbrev pub Inside : (n : ℕ) → Option ℕ → Type 0
Inside n none = ⊥
Inside n (some i) = i < n

-- of instruction x, at index i of the prototype p, which stands behind the prototypes `earlier`
pub record Facts (constants : List Constant) (earlier : List Proto) (p : Proto) (i : ℕ) (x : Instruction) : Type 0 where
  -- "Allowed steps": none of 01's leads out of the prototype
  pub steps : (o : Option ℕ) → StepOf01 p.code i o → Inside (length p.code) o
  -- a is 1 or 2 in a continue or break that was not patched: none is left
  pub jump : x.opcode ≡ Jmp → x.a ≡ 0
  -- "A prototype has the registers and captures below its counts"
  pub registers : All (λ r. r < p.registers) (met x)
  -- "Call, whose b and c are not 0"
  pub call : x.opcode ≡ Call → (0 < x.b) × (0 < x.c)
  -- "GetUpval's b is a capture"
  pub capture : x.opcode ≡ GetUpval → x.b < length p.captures
  -- Closure's bx is an earlier prototype, whose captures name registers and captures of p, its creator
  pub closure : x.opcode ≡ Closure → Holds (λ q. All (Fits p.registers (length p.captures)) q.captures) earlier (bx x)
  -- LoadK's bx is a constant
  pub constant : x.opcode ≡ LoadK → bx x < length constants
  -- where a name is due, bx is a constant that is a text
  pub name : among x.opcode name_due ≡ true → Holds IsText constants (bx x)

-- of a prototype: 16 bits hold every distance in it, its last instruction is a Return, and the facts hold at every instruction, reached or not
pub record Safe (constants : List Constant) (earlier : List Proto) (p : Proto) : Type 0 where
  pub short : length p.code ≤ 32767
  pub last : (body : List Instruction) × (p.code ≡ body ++ inst Return 0 0 0 no_mark ∷ [])
  pub facts : (i : ℕ) → i < length p.code → Facts constants earlier p i (inst_at p.code i)

-- a walk led to an instruction of p, the facts hold there, and the walk can end there only if it is a Return
pub record Stands (constants : List Constant) (earlier : List Proto) (p : Proto) (step : ℕ → Option ℕ → Type 0) (o : Option ℕ) : Type 0 where
  pub place : ℕ
  pub there : o ≡ some place
  pub inside : place < length p.code
  pub facts : Facts constants earlier p place (inst_at p.code place)
  pub goes_on : (opcode_at p.code place ≡ Return → ⊥) → (further : Option ℕ) × step place further

-- a tree whose lowering was done, `main` being the main prototype's index, and the image of the state in which it ended
pub record Lowered (mode : ℕ) (tree : List ℕ) (work : ℕ) (bytes : List ℕ) : Type 0 where
  pub nodes : ℕ
  pub accepted : checked mode tree work ≡ Ok nodes
  pub main : ℕ
  pub state : State
  pub lowering : lower_program mode (nodes - 1) (read_program (fields tree)) ≡ done main state
  pub image_of : bytes ≡ image (wide_marks (fields tree)) state

-- every prototype is safe, no step from any of its instructions leads out of it, and every walk from its first instruction stands within it
pub record Demand3Over (step : List Instruction → ℕ → Option ℕ → Type 0) (s : State) : Type 0 where
  pub safe : (before : List Proto) (p : Proto) (after : List Proto) → s.prototypes ≡ before ++ p ∷ after → Safe s.constants before p
  pub stays : (before : List Proto) (p : Proto) (after : List Proto) → s.prototypes ≡ before ++ p ∷ after
      → (i : ℕ) (o : Option ℕ) → step p.code i o → Inside (length p.code) o
  pub walks : (before : List Proto) (p : Proto) (after : List Proto) → s.prototypes ≡ before ++ p ∷ after
      → (o : Option ℕ) → Walk (step p.code) 0 o → Stands s.constants before p (step p.code) o

-- demand 3: "Demand 3 reads over these steps from now on" (E8)
abbrev pub Demand3 : State → Type 0
Demand3 s = Demand3Over Amended s

-- the older one, over the steps of 01 alone
abbrev pub Demand3Of01 : State → Type 0
Demand3Of01 s = Demand3Over StepOf01 s
