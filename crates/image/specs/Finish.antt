-- The end of a call, once the main function is left: refused, or the image of the state, for which there is room or not.
use Rattle.std.specs.Prelude.{ℕ, ◌<◌, ◌≤◌, ◌≡◌, Bool, List, [], length, take, Ok, Err}
use Rattle.meaning.specs.State.{Proto}
use Rattle.meaning.specs.Image.{image}
use Rattle.meaning.specs.Answer.{Finished, imaged, stopped, fitted, outcome}
use Rattle.meaning.specs.Outcome.{Outcome}
use Rattle.store.specs.declared.Step.{Step}
use Rattle.store.specs.declared.Scope.{Scope}
use Rattle.store.specs.Store.{outcome_of, constants_of, run, is_wide, written_by, Image}
use Rattle.forward.specs.Forward as forward

-- what a run ends with, by the width of the marks
abbrev pub ended : (wide : Bool) (room last : ℕ) → forward.Run → Finished
ended wide room last (forward.stopped cause node) = stopped cause node
ended wide room last (forward.going c) = fitted room last (image wide c.state)

-- the image, none where it is refused
abbrev pub image_of : Finished → List ℕ
image_of (imaged bytes) = bytes
image_of (stopped cause node) = []

-- an outcome's length
abbrev pub length_of : Outcome → ℕ
length_of (Ok n) = n
length_of (Err why) = 0

-- the outcome r of what a call ends with, and the output o, at whose front the image stands
pub record Ending (x : Finished) (o : List ℕ) (r : Outcome) : Type 0 where
  pub told : r ≡ outcome x
  pub fits : length_of r ≤ length o
  pub front : take (length_of r) o ≡ image_of x

-- what `finish` goes by: the constants are there, and no sum is too large; every fine step has it
pub record Finishable (w : List ℕ) (s : Step) : Type 0 where
  pub long : 3072 ≤ length w
  pub constants : constants_of s ≤ 1024
  pub written : written_by (outcome_of s) < 4294967296

-- whatever prototypes the output holds, and in every scope
pub record Finishes (w o : List ℕ) (s : Step) (last : ℕ) (o' : List ℕ) (r : Outcome) : Type 0 where
  pub same : length o' ≡ length o
  pub ends : (p : Scope) (ps : List Proto) → Image p o s ps → Ending (ended (is_wide p) (length o) last (run w p s ps)) o' r
