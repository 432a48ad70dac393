-- A byte for each instruction that a step enters.
use Rattle.std.specs.Prelude.{ℕ, zero, suc, ◌+◌, ◌<◌, ◌≡◌, Bool, false, ◌&&◌, ◌||◌, cond, List, length, get_or, set, eqb, ltb}
use Rattle.std.proofs.Math.Option.{Option, none, some}
use Rattle.meaning.specs.Steps.{inst_at, target}
use Rattle.meaning.specs.declared.Instruction.{Instruction}
use Rattle.meaning.specs.Rules.{some_of, is, leads, entered}

-- the opcode that is asked for its steps: where the image is mended, Return for a break or continue that was not patched
abbrev pub seen_opcode : (mend : Bool) → (o a : ℕ) → ℕ
seen_opcode mend o a = cond (mend && (eqb o 3 && (eqb a 1 || eqb a 2))) 20 o

-- where the first step of an opcode at index i leads, with w in b and c
abbrev pub first_lead : (o w i : ℕ) → Option ℕ
first_lead o w i = cond (eqb o 3) (target i w) (cond (eqb o 20) none (some (i + 1)))

-- the second
abbrev pub second_lead : (o w i : ℕ) → Option ℕ
second_lead o w i = cond (eqb o 4) (some (i + 2)) (cond (eqb o 48) (some (i + w)) none)

-- the place that a step leads to is marked, where it is one of them
abbrev pub mark : List ℕ → Option ℕ → List ℕ
mark m none = m
mark m (some j) = cond (ltb j (length m)) (set m j 1) m

-- a step of one of the first k instructions leads to j
unfoldable pub entered_by : List Instruction → (k j : ℕ) → Bool
entered_by code zero j = false
entered_by code (suc k) j = entered_by code k j || some_of (is j) (leads k (inst_at code k))

-- the bytes say which of n instructions are entered
pub record Entered (code : List Instruction) (n : ℕ) (m : List ℕ) : Type 0 where
  pub each : (j : ℕ) → j < n → get_or m j 0 ≡ cond (entered code j) 1 0
