-- Demand 3 of every accepted tree. The statement stands in specs (Steps, Safety), the argument in the modules below, in their order.
-- The idea: one induction over the lowering gives that every prototype is finished (Program); what is finished is safe, and a walk stays
-- where each of its steps does (Walk).
use Prim.Native.Nat.{ℕ, ◌-◌}
use mathlib.Core.Path.{◌≡◌, subst}
use mathlib.Core.List.{List, [], ◌∷◌, ◌++◌}
use Rattle.meaning.specs.Syntax.{Stmts}
use Rattle.meaning.specs.State.{Proto, State, done}
use Rattle.meaning.specs.Steps.{ordinary}
use Rattle.meaning.specs.Lower.{lower_program}
use Rattle.meaning.specs.Answer.{finished, imaged, outcome, answer}
use Rattle.meaning.specs.Safety.{Safe, Lowered, Demand3, Demand3Of01}
use Rattle.meaning.proofs.Imaged.{number_zero, finished_lowered}
use Rattle.meaning.proofs.Safe.Sound.{Protos}
use Rattle.meaning.proofs.Safe.Program.{program_whole}
use Rattle.meaning.proofs.Safe.Walk.{protos_safe, amended_inside, safe_inside, amended_stand, stands_01}
pub mod Obeys
pub mod Patches
pub mod Sound
pub mod Lookup
pub mod Brackets
pub mod Expressions
pub mod Functions
pub mod Statements
pub mod Program
pub mod Walk

-- of a lowering that is done
pub lowering_safe : (mode node : ℕ) (ss : Stmts) (i : ℕ) (t : State) → lower_program mode node ss ≡ done i t
    → (before : List Proto) (p : Proto) (after : List Proto) → t.prototypes ≡ before ++ p ∷ after → Safe t.constants before p
lowering_safe mode node ss i t e before p after q = protos_safe t.constants [] before p after (subst (Protos t.constants []) q (program_whole mode node ss i t e).pools.protos)

-- for all trees, work lengths and output lengths: where there is an image, it is that of a lowering that was done, and demand 3 holds of it
pub demand_3 : (mode : ℕ) (tree : List ℕ) (work room : ℕ) (bytes : List ℕ) → finished mode tree work room ≡ imaged bytes → (l : Lowered mode tree work bytes) × Demand3 l.state
demand_3 mode tree work room bytes e =
    let l = finished_lowered mode tree work room bytes e in
    let safe = lowering_safe mode (l.nodes - 1) _ l.main l.state l.lowering in (
      l,
      record {
        safe = safe;
        stays = λ before p after q. amended_inside p.code (safe_inside l.state.constants before p (safe before p after q));
        walks = λ before p after q. amended_stand l.state.constants before p (safe before p after q);
      },
    )

-- the steps of 01 alone: what was demanded before E8 follows
pub demand_3_01 : (s : State) → Demand3 s → Demand3Of01 s
demand_3_01 s d = record {
  safe = d.safe;
  stays = λ before p after q i o w. d.stays before p after q i o (ordinary w);
  walks = λ before p after q. stands_01 s.constants before p (d.walks before p after q);
}

-- the same of an answer with number 0
pub accepted_demand_3 : (mode : ℕ) (tree : List ℕ) (work room : ℕ) → (answer (outcome (finished mode tree work room))).number ≡ 0
    → (bytes : List ℕ) × (finished mode tree work room ≡ imaged bytes) × ((l : Lowered mode tree work bytes) × Demand3 l.state)
accepted_demand_3 mode tree work room e =
    let f = (number_zero (finished mode tree work room)).0 e in
    (f.0, f.1, demand_3 mode tree work room f.0 f.1)
