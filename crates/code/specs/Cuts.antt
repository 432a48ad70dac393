-- Pending code that is cut off.
use Rattle.std.specs.Prelude.{ℕ, ◌<◌, ◌≤◌, ◌≡◌, List, length, drop, Ok, Err}
use Rattle.store.specs.declared.Step.{Step}
use Rattle.store.specs.declared.Scope.{Scope}
use Rattle.store.specs.Layout.{edge}
use Rattle.store.specs.Store.{nodes_of, block_of, outcome_of, pc_of, constants_of, globals_of, result_of, run, advanced, goes_on, while_going, inner, Image, Fine, Kept}
use Rattle.store.specs.Promise.{Cost, Used, After}
use Rattle.meaning.specs.State.{Proto, add_prototype}
use Rattle.meaning.specs.Outcome.{Outcome}
use Rattle.forward.specs.Forward.{Config, Run, bind, fwd_number, cut, end_program}

-- the code back to a length
abbrev pub cut_step : Step → ℕ → Step
cut_step s first = advanced s first (result_of s)

-- binary_literal at Minus, the dropped pass: a refused step stays
abbrev pub rolled_by : Outcome → Step → ℕ → Step
rolled_by (Ok written) s first = advanced s first 0
rolled_by (Err why) s first = s

-- the same by the step's own outcome
abbrev pub rolled_step : Step → ℕ → Step
rolled_step s first = rolled_by (outcome_of s) s first

-- leave_function up to the pop of the context: the code from `first` on becomes a prototype, whose index is the result
abbrev pub adding : (first node params : ℕ) → Config → Run
adding first node params c = fwd_number (add_prototype node params (drop first c.code)) (cut first c)

-- the prototype is there, in the output where it fits, and its code is cut off; or it is refused
pub record Adds (first : ℕ) (w o : List ℕ) (p : Scope) (s : Step) (o' : List ℕ) (r : Step) (node params : ℕ) : Type 0 where
  pub fine : Fine w p r
  pub same : length o' ≡ length o
  pub back : goes_on (outcome_of r) → goes_on (outcome_of s)
  pub code : while_going (outcome_of r) (pc_of r ≡ first)
  pub longer : first ≤ pc_of s → first ≤ pc_of r
  pub constants : constants_of r ≡ constants_of s
  pub globals : globals_of r ≡ globals_of s
  pub index : result_of r < 256
  pub does : (ps : List Proto) → Image p o s ps → After w o' p r (bind (run w p s ps) (adding first node params))

-- ---- the end of a function: the step before is in the function inside p, the step after in p, and the function's words are given back

-- what holds of the words and the step then; the cost is counted from the code's length at the function's start
pub record Leaves (first : ℕ) (w : List ℕ) (p : Scope) (s : Step) (w' : List ℕ) (r : Step) (u : Cost) : Type 0 where
  pub fine : Fine w' p r
  pub kept : Kept w p w'
  pub back : goes_on (outcome_of r) → goes_on (outcome_of s)
  pub used : while_going (outcome_of r) (Used w p (cut_step s first) w' p r u)
  pub longer : first ≤ pc_of s → first ≤ pc_of r
  pub still : u.locals ≡ 0 → edge w' (nodes_of p) (block_of p) ≡ edge w (nodes_of p) (block_of p)

-- the same, and what was done: `op`, from the run inside the function
pub record Ends (first : ℕ) (w o : List ℕ) (p : Scope) (s : Step) (w' o' : List ℕ) (r : Step) (u : Cost) (op : Config → Run) : Type 0 where
  pub leaves : Leaves first w p s w' r u
  pub same : length o' ≡ length o
  pub does : (ps : List Proto) → Image p o s ps → After w' o' p r (bind (run w (inner p) s ps) op)

-- the end of everything that is lowered
pub record EndsProgram (w o : List ℕ) (p : Scope) (s : Step) (o' : List ℕ) (r : Step) (node : ℕ) : Type 0 where
  pub fine : Fine w p r
  pub same : length o' ≡ length o
  pub does : (ps : List Proto) → Image p o s ps → After w o' p r (bind (run w p s ps) (end_program node))
