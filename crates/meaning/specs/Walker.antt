-- E4 and E8: what the walk of a prototype answers, and the bytes that it leaves.
use Rattle.std.specs.Prelude.{ℕ, zero, suc, ◌-◌, Bool, ◌||◌, cond, List, [], ◌∷◌, length, get_or, replicate, eqb, leb, ltb}
use Rattle.meaning.specs.Base.{lowest}
use Rattle.meaning.specs.State.{Proto}
use Rattle.meaning.specs.Images.{Image}
use Rattle.meaning.specs.Reader.{Read, refused, taken, read_as}
use Rattle.meaning.specs.Answer.{cause_number}
use Rattle.meaning.specs.Paths.{start, Path, steps_of, path, visits}
use Rattle.meaning.specs.declared.Instruction.{Instruction}
use Rattle.meaning.specs.declared.Cause.{Cause}
use Rattle.meaning.specs.declared.Cause.TheVariants.{Prototype, Decision, Order, Visits}
use Rattle.meaning.specs.declared.Ending.{Ending}
use Rattle.meaning.specs.declared.Ending.TheVariants.{AtReturn, NoDecision, NoBudget, Failed, Handlers}
use Rattle.meaning.specs.declared.WalkAnswer.{WalkAnswer}

-- refused with a cause and its place, or a path
pub data Walking : Type 0 where
  stopped : Cause → (place : ℕ) → Walking
  walked : Path → Walking

-- the instructions of prototype q
abbrev pub code_of : List Proto → (q : ℕ) → List Instruction
code_of [] q = []
code_of (p ∷ ps) zero = p.code
code_of (p ∷ ps) (suc q) = code_of ps q

-- decision j is 0 or 1
abbrev pub fair : List ℕ → (j : ℕ) → Bool
fair ds j = leb (get_or ds j 0) 1

-- entry j of the strikes is the first, or above the one before it
abbrev pub rises : List ℕ → (j : ℕ) → Bool
rises ss j = eqb j 0 || ltb (get_or ss (j - 1) 0) (get_or ss j 0)

-- what a walk is asked with
pub record Asked : Type 0 where
  pub decisions : List ℕ
  pub strikes : List ℕ
  pub budget : ℕ
  pub lent : ℕ

abbrev pub asked : (decisions strikes : List ℕ) → (budget lent : ℕ) → Asked
asked ds ss budget lent = record { decisions = ds; strikes = ss; budget = budget; lent = lent }

-- 29 Visits "when the lent bytes are fewer than the instructions, place 0"; else the path from the first instruction on
abbrev pub with_room : List Instruction → Asked → Walking
with_room code a = cond (ltb a.lent (length code)) (stopped Visits 0) (walked (path a.budget code a.strikes (start a.decisions)))

-- 25 Order "at the first entry not above the one before it", `fallen`, where it is below their number
abbrev pub with_strikes : (fallen : ℕ) → List Instruction → Asked → Walking
with_strikes fallen code a = cond (ltb fallen (length a.strikes)) (stopped Order fallen) (with_room code a)

-- 23 Decision "for a byte above 1, at its offset": the first, `over`, where it is below their number
abbrev pub with_decisions : (over : ℕ) → List Instruction → Asked → Walking
with_decisions over code a = cond (ltb over (length a.decisions)) (stopped Decision over) (with_strikes (lowest (rises a.strikes) (length a.strikes)) code a)

-- 22 Prototype "for an unknown number, place 0"
unfoldable pub walk_in : Image → (q : ℕ) → Asked → Walking
walk_in im q a = cond (ltb q (length im.prototypes)) (with_decisions (lowest (fair a.decisions) (length a.decisions)) (code_of im.prototypes q) a) (stopped Prototype 0)

-- "Refusals: E1's", then these
abbrev pub walk_read : Read → (q : ℕ) → Asked → Walking
walk_read (refused c place) q a = stopped c place
walk_read (taken im) q a = walk_in im q a

-- the walk of prototype q of an image, `lent` being how many bytes are lent
abbrev pub walk_image : (tag : ℕ) → (image : List ℕ) → (q : ℕ) → (decisions strikes : List ℕ) → (budget lent : ℕ) → Walking
walk_image tag s q ds ss budget lent = walk_read (read_as tag s) q (asked ds ss budget lent)

-- "how it ended: at a Return, out of decisions, or out of budget", and E8's two
abbrev pub ending_number : Ending → ℕ
ending_number AtReturn = 0
ending_number NoDecision = 1
ending_number NoBudget = 2
ending_number Failed = 3
ending_number Handlers = 4

-- "the steps taken, the index where it stood, and how it ended"; 0 where it is refused
abbrev pub walk_answer : Walking → WalkAnswer
walk_answer (stopped c place) = record { number = cause_number c; place = place; steps = 0; index = 0; ending = 0 }
walk_answer (walked p) = record { number = 0; place = 0; steps = steps_of p; index = p.stood; ending = ending_number p.ended }

-- "the bytes are then zero"; a byte beyond the instructions is 0 in any case
abbrev pub lent_bytes : Walking → (lent : ℕ) → List ℕ
lent_bytes (stopped c place) lent = replicate lent 0
lent_bytes (walked p) lent = visits p lent
