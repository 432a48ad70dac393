-- 01, "Outcome": what a call answers, and what it leaves in the output and the work area.
use Rattle.std.specs.Prelude.{ℕ, ◌-◌, Bool, cond, List, ◌++◌, length, replicate, ltb, Ok, Err}
use Rattle.meaning.specs.Fields.{fields}
use Rattle.meaning.specs.Grammar.{wide_marks}
use Rattle.meaning.specs.Check.{checked}
use Rattle.meaning.specs.Read.{read_program}
use Rattle.meaning.specs.State.{Res, refused, done}
use Rattle.meaning.specs.Lower.{lower_program}
use Rattle.meaning.specs.Image.{image}
use Rattle.meaning.specs.Visits.{visits_program}
use Rattle.meaning.specs.declared.Answer.{Answer}
use Rattle.meaning.specs.declared.Reply.{Reply}
use Rattle.meaning.specs.declared.Cause.{Cause}
use Rattle.meaning.specs.declared.Cause.TheVariants.{Frame, Many, Shape, Tree, Depth, Work, Registers, Captures, Undefined, Redefined, Stray, Empty, Returned, Constants, Prototypes, Nesting, Long, Room, ImageFrame, ImageRule, Mode, Prototype, Decision, Order, ListRoom, Retired, Visits}
use Rattle.meaning.specs.Outcome.{Outcome, refusal}

-- the numbers of the table of causes
abbrev pub cause_number : Cause → ℕ
cause_number Frame = 1
cause_number Many = 2
cause_number Shape = 3
cause_number Tree = 4
cause_number Depth = 5
cause_number Work = 6
cause_number Registers = 7
cause_number Captures = 8
cause_number Undefined = 9
cause_number Redefined = 10
cause_number Stray = 11
cause_number Empty = 12
cause_number Returned = 13
cause_number Constants = 14
cause_number Prototypes = 15
cause_number Nesting = 16
cause_number Long = 17
cause_number Room = 18
cause_number ImageFrame = 19
cause_number ImageRule = 20
cause_number Mode = 21
cause_number Prototype = 22
cause_number Decision = 23
cause_number Order = 25
cause_number ListRoom = 26
cause_number Retired = 27
cause_number Visits = 29

-- what a lowering ends with: an image, or a cause with its place
pub data Finished : Type 0 where
  imaged : List ℕ → Finished
  stopped : Cause → ℕ → Finished

-- 18 Room, at the last node
abbrev pub fitted : (room last : ℕ) → List ℕ → Finished
fitted room last bytes = cond (ltb room (length bytes)) (stopped Room last) (imaged bytes)

-- a refusal stays; else the image of the state in which the lowering ended, if there is room
abbrev pub lowered : (wide : Bool) → (room last : ℕ) → Res ℕ → Finished
lowered wide room last (refused c place) = stopped c place
lowered wide room last (done index s) = fitted room last (image wide s)

-- after the check
abbrev pub finished_after : (mode : ℕ) → Outcome → (tree : List ℕ) (room : ℕ) → Finished
finished_after mode (Err why) tree room = stopped why.cause why.place
finished_after mode (Ok n) tree room = lowered (wide_marks (fields tree)) room (n - 1) (lower_program mode (n - 1) (read_program (fields tree)))

-- the mode, the tree's bytes, the work area's length in words, the output's length in bytes
unfoldable pub finished : (mode : ℕ) (tree : List ℕ) (work room : ℕ) → Finished
finished mode tree work room = finished_after mode (checked mode tree work) tree room

-- "the outcome is either an image length or a cause with its node"
abbrev pub outcome : Finished → Outcome
outcome (imaged bytes) = Ok (length bytes)
outcome (stopped c place) = Err (refusal c place)

-- "The answer holds number, place and length": accepted is 0 with place 0, a refusal has length 0
abbrev pub answer : Outcome → Answer
answer (Ok n) = record { number = 0; place = 0; length = n }
answer (Err why) = record { number = cause_number why.cause; place = why.place; length = 0 }

-- 02, E6, "Report the count beside the length": what a lowering answers; "a refusal has .. 0 for every number that later answers add"
abbrev pub reply : (tree : List ℕ) → Finished → Reply
reply tree (imaged bytes) = record { number = 0; place = 0; length = length bytes; visits = visits_program (read_program (fields tree)) }
reply tree (stopped c place) = record { number = cause_number c; place = place; length = 0; visits = 0 }

-- "the output is the image then zeros, or all zeros when refused"
abbrev pub output : (room : ℕ) → Finished → List ℕ
output room (imaged bytes) = bytes ++ replicate (room - length bytes) 0
output room (stopped c place) = replicate room 0

-- "After every call the work area is all zero"
abbrev pub work_area : (work : ℕ) → List ℕ
work_area work = replicate work 0
