-- E4 and E8: the path that the rules define: 01's steps, "taking RegisterTryCatch as going on", by recorded decisions, with the failures that struck, and
-- within a budget.
use Rattle.std.specs.Prelude.{ℕ, zero, suc, ◌+◌, Bool, ◌||◌, cond, List, [], ◌∷◌, length, eqb, ltb}
use Rattle.std.proofs.Math.Option.{Option, none, some}
use Rattle.meaning.specs.Opcode.{bx, Jmp, Test, Return, RegisterTryCatch, DeregisterTryCatch}
use Rattle.meaning.specs.State.{among}
use Rattle.meaning.specs.Steps.{target, inst_at}
use Rattle.meaning.specs.declared.Instruction.{Instruction}
use Rattle.meaning.specs.declared.Ending.{Ending}
use Rattle.meaning.specs.declared.Ending.TheVariants.{AtReturn, NoDecision, NoBudget, Failed, Handlers}

-- where a walk stands before a step: the decisions that it has left, how many steps it has taken, and the handlers registered, the last first
pub record Point : Type 0 where
  pub place : ℕ
  pub decisions : List ℕ
  pub taken : ℕ
  pub handlers : List ℕ

-- at the first instruction
abbrev pub start : (decisions : List ℕ) → Point
start ds = record { place = 0; decisions = ds; taken = 0; handlers = [] }

-- one step further, at instruction j
abbrev pub onto : (j : ℕ) → (decisions handlers : List ℕ) → Point → Point
onto j ds hs p = record { place = j; decisions = ds; taken = p.taken + 1; handlers = hs }

-- a walk: the instructions that a step was taken from, in order, the one where it stood last, and how it ended
pub record Path : Type 0 where
  pub left : List ℕ
  pub stood : ℕ
  pub ended : Ending

-- "the steps taken": "The steps equal the length of the path"
abbrev pub steps_of : Path → ℕ
steps_of p = length p.left

-- what is asked before a step: the walk ends, or the step would end it and is then not counted, or the walk goes on
pub data Move : Type 0 where
  ends : Ending → Move
  fails : Ending → Move
  goes : Point → Move

-- where a jump leads; none would be a place before the first instruction, and no image that is taken has such a jump
abbrev pub landing : Option ℕ → ℕ
landing none = 0
landing (some i) = i

-- a Test: "whether it went to the next instruction (0) or skipped one (1)"
abbrev pub decide : Point → (decisions : List ℕ) → Move
decide p [] = ends NoDecision
decide p (d ∷ ds) = goes (onto (p.place + 1 + d) ds p.handlers p)

-- a RegisterTryCatch, whose handler stands h further on: "Over 256 registered ends as Handlers"
abbrev pub register : (h : ℕ) → Point → Move
register h p = cond (ltb (length p.handlers) 256) (goes (onto (p.place + 1) p.decisions ((p.place + h) ∷ p.handlers) p)) (fails Handlers)

-- "DeregisterTryCatch with none registered does nothing"
abbrev pub without_last : List ℕ → List ℕ
without_last [] = []
without_last (h ∷ hs) = hs

-- "at which a failure strikes in place of the ordinary step": "it enters the handler registered last, or ends as Failed when none is"; "A handler stays
-- registered until a DeregisterTryCatch"
abbrev pub strike : Point → (handlers : List ℕ) → Move
strike p [] = fails Failed
strike p (h ∷ hs) = goes (onto h p.decisions p.handlers p)

-- the ordinary step of instruction x, which is no Return
abbrev pub ordinary : Instruction → Point → Move
ordinary x p =
    cond (eqb x.opcode Test) (decide p p.decisions)
    (cond (eqb x.opcode Jmp) (goes (onto (landing (target p.place (bx x))) p.decisions p.handlers p))
    (cond (eqb x.opcode RegisterTryCatch) (register (bx x) p)
    (cond (eqb x.opcode DeregisterTryCatch) (goes (onto (p.place + 1) p.decisions (without_last p.handlers) p))
    (goes (onto (p.place + 1) p.decisions p.handlers p)))))

-- the step of instruction x, `strikes` being the "step numbers from 0 .. at which a failure strikes"
abbrev pub move : (strikes : List ℕ) → Instruction → Point → Move
move strikes x p = cond (eqb x.opcode Return) (ends AtReturn) (cond (among p.taken strikes) (strike p p.handlers) (ordinary x p))

-- a path that ends where it stands
abbrev pub stop : Point → Ending → Path
stop p e = record { left = []; stood = p.place; ended = e }

-- a step, and the rest of the path
abbrev pub step_from : Point → Path → Path
step_from p q = record { left = p.place ∷ q.left; stood = q.stood; ended = q.ended }

-- what a move makes of a path: `not` is what follows where the step would end it, `on` where it goes on
abbrev pub after_move : Point → Move → (not : Ending → Path) → (on : Point → Path) → Path
after_move p (ends e) not on = stop p e
after_move p (fails e) not on = not e
after_move p (goes q) not on = on q

-- the path from a point on. "at a Return, out of decisions, or out of budget, judged in that order before each step", and then whether the step ends it
unfoldable pub path : (budget : ℕ) → List Instruction → (strikes : List ℕ) → Point → Path
path zero code ss p = after_move p (move ss (inst_at code p.place) p) (λ e. stop p NoBudget) (λ q. stop p NoBudget)
path (suc b) code ss p = after_move p (move ss (inst_at code p.place) p) (λ e. stop p e) (λ q. step_from p (path b code ss q))

-- "every instruction visited, the last included"
abbrev pub visited : Path → (i : ℕ) → Bool
visited p i = among i p.left || eqb i p.stood

-- of n instructions from i on
unfoldable pub visits_from : Path → (i n : ℕ) → List ℕ
visits_from p i zero = []
visits_from p i (suc n) = cond (visited p i) 1 0 ∷ visits_from p (suc i) n

-- "the lent bytes are 1 exactly on that path, else 0"
abbrev pub visits : Path → (n : ℕ) → List ℕ
visits p n = visits_from p 0 n
