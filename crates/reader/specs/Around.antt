-- The tests of specs/Tests as the code asks them: of an instruction as it is met, and of what is around it.
use Rattle.std.specs.Prelude.{ℕ, ◌+◌, ◌*◌, Bool, List, map, length, get_or, eqb}
use Rattle.meaning.specs.declared.Instruction.{Instruction}
use Rattle.reader.specs.declared.facts.Around.{Around}
use Rattle.reader.specs.declared.facts.Kind.{Kind}
use Rattle.reader.specs.declared.facts.Kind.TheVariants.{A, Ab, Abc, Asking, Unwritten}
use Rattle.reader.specs.declared.facts.Met.{Met}
use Rattle.reader.specs.declared.facts.Needs.{Needs}
use Rattle.reader.specs.Tests.{Bounds, replaced_seen, closure_seen, text_seen, lawful_by, lawful_seen, seen_test}

-- the kinds as numbers
abbrev pub number : Kind → ℕ
number A = 0
number Ab = 1
number Abc = 2
number Asking = 3
number Unwritten = 4

-- b and c as one number
abbrev pub wide : Met → ℕ
wide x = x.b * 256 + x.c

-- so many prototypes and constants as the tables have entries
abbrev pub bounds : Around → Bounds
bounds v = record { registers = v.registers; captures = v.captures; prototypes = length v.needs.now; constants = length v.texts.now }

-- how many registers each prototype's captures need
abbrev pub local_needs : List Needs → List ℕ
local_needs needs = map (λ x. x.locals) needs

-- and how many captures
abbrev pub outer_needs : List Needs → List ℕ
outer_needs needs = map (λ x. x.outers) needs

-- the tests
abbrev pub replaced_met : Met → Bool
replaced_met x = replaced_seen x.opcode x.a (wide x) x.index x.count

abbrev pub closure_met : Around → (w : ℕ) → Bool
closure_met v w = closure_seen (bounds v) (local_needs v.needs.now) (outer_needs v.needs.now) w

abbrev pub text_met : Around → (w : ℕ) → Bool
text_met v w = text_seen (bounds v) v.texts.now w

abbrev pub lawful_kind : Around → Kind → Met → (closure text entered : Bool) → Bool
lawful_kind v kind x closure text entered = lawful_by (number kind) (bounds v) x.index x.count x.opcode x.a x.b x.c (wide x) closure text entered

abbrev pub lawful_met : Around → Met → (closure text entered : Bool) → Bool
lawful_met v x closure text entered = lawful_seen (bounds v) x.index x.count x.opcode x.a x.b x.c (wide x) closure text entered

-- by all that is around, and the marks
abbrev pub fact_met : Around → Met → (marks : List ℕ) → Bool
fact_met v x marks = lawful_met v x (closure_met v (wide x)) (text_met v (wide x)) (eqb (get_or marks x.index 0) 1)

abbrev pub test_met : Around → (marks : List ℕ) → (i : ℕ) → Instruction → Bool
test_met v marks i x = seen_test (bounds v) (local_needs v.needs.now) (outer_needs v.needs.now) v.texts.now marks (length marks) i x
