-- Walks with the answer and the bytes that are due: the image, prototype, decisions, strikes, budget and number of lent bytes go in.
use Prim.Native.Nat.{ℕ}
use mathlib.Core.Path.{◌≡◌, refl}
use mathlib.Core.List.{List, [], ◌∷◌, ◌++◌, map}
use lib.ListN.{replicate}
use Rattle.meaning.specs.Base.{lowest_by, lowest}
use Rattle.meaning.specs.Opcode.{LoadK, Jmp, Test, Return, RegisterTryCatch, DeregisterTryCatch, GetExcept}
use Rattle.meaning.specs.Paths.{path, visits_from}
use Rattle.meaning.specs.Walker.{Walking, walk_in, walk_image, walk_answer, lent_bytes}
use Rattle.meaning.specs.declared.WalkAnswer.{WalkAnswer}
use Rattle.meaning.proofs.ImageRows.{reading}

unfoldable walking : Unit {0}
unfolding reading lowest_by lowest path visits_from walk_in
walking = tt

pub record Case : Type 0 where
  pub image : List ℕ
  pub prototype : ℕ
  pub decisions : List ℕ
  pub strikes : List ℕ
  pub budget : ℕ
  pub lent : ℕ
  pub answer : List ℕ
  pub bytes : List ℕ

abbrev struck : (image : List ℕ) → (prototype : ℕ) → (decisions strikes : List ℕ) → (budget lent : ℕ) → (answer bytes : List ℕ) → Case
struck i q ds ss b n a v = record { image = i; prototype = q; decisions = ds; strikes = ss; budget = b; lent = n; answer = a; bytes = v }

-- without a failure
abbrev case : (image : List ℕ) → (prototype : ℕ) → (decisions : List ℕ) → (budget lent : ℕ) → (answer bytes : List ℕ) → Case
case i q ds b n a v = struck i q ds [] b n a v

-- five numbers
abbrev numbers : WalkAnswer → List ℕ
numbers a = a.number ∷ a.place ∷ a.steps ∷ a.index ∷ a.ending ∷ []

abbrev told : Walking → (lent : ℕ) → List ℕ × List ℕ
told w n = (numbers (walk_answer w), lent_bytes w n)

abbrev given : Case → List ℕ × List ℕ
given c = told (walk_image 0x43 c.image c.prototype c.decisions c.strikes c.budget c.lent) c.lent

abbrev due : Case → List ℕ × List ℕ
due c = (c.answer, c.bytes)

-- ---- an image of four prototypes

abbrev header : (registers code : ℕ) → List ℕ
header r n = 0x41 ∷ 0x00 ∷ 0x0A ∷ 0xFF ∷ 0xFF ∷ 0x00 ∷ 0x00 ∷ 0x00 ∷ r ∷ 0x00 ∷ 0x00 ∷ 0x00 ∷ n ∷ []

abbrev op : (o a b c : ℕ) → List ℕ
op o a b c = 0x43 ∷ 0x00 ∷ 0x06 ∷ o ∷ a ∷ b ∷ c ∷ 0xFF ∷ 0xFF ∷ []

abbrev join : List (List ℕ) → List ℕ
join [] = []
join (f ∷ fs) = f ++ join fs

abbrev four : List ℕ
four = join (
    -- 0: while 1 with body break (reference program 7)
    header 1 6 ∷ op LoadK 0 0 0 ∷ op Test 0 0 0 ∷ op Jmp 0 0 3 ∷ op Jmp 0 0 2 ∷ op Jmp 0 255 252 ∷ op Return 0 0 0 ∷
    -- 1: the same with continue
    header 1 6 ∷ op LoadK 0 0 0 ∷ op Test 0 0 0 ∷ op Jmp 0 0 3 ∷ op Jmp 0 255 253 ∷ op Jmp 0 255 252 ∷ op Return 0 0 0 ∷
    -- 2: try and catch (8)
    header 1 6 ∷ op RegisterTryCatch 0 0 3 ∷ op DeregisterTryCatch 0 0 0 ∷ op Jmp 0 0 3 ∷ op GetExcept 0 0 0 ∷ op DeregisterTryCatch 0 0 0 ∷ op Return 0 0 0 ∷
    -- 3: a jump to itself
    header 0 1 ∷ op Jmp 0 0 0 ∷
    (0x46 ∷ 0x00 ∷ 0x02 ∷ 0x00 ∷ 0x01 ∷ []) ∷ [])

abbrev rows : List Case
rows =
    -- the Test goes to the next instruction; bytes beyond the instructions are 0
    case four 0 (0 ∷ []) 100 8 (0 ∷ 0 ∷ 3 ∷ 5 ∷ 0 ∷ []) (1 ∷ 1 ∷ 1 ∷ 0 ∷ 0 ∷ 1 ∷ 0 ∷ 0 ∷ []) ∷
    -- it skips one; a decision is left over
    case four 0 (1 ∷ 0 ∷ []) 100 6 (0 ∷ 0 ∷ 3 ∷ 5 ∷ 0 ∷ []) (1 ∷ 1 ∷ 0 ∷ 1 ∷ 0 ∷ 1 ∷ []) ∷
    -- a round of the loop, and out
    case four 1 (1 ∷ 0 ∷ []) 100 6 (0 ∷ 0 ∷ 6 ∷ 5 ∷ 0 ∷ []) (1 ∷ 1 ∷ 1 ∷ 1 ∷ 0 ∷ 1 ∷ []) ∷
    -- out of decisions is told before out of budget
    case four 0 [] 1 6 (0 ∷ 0 ∷ 1 ∷ 1 ∷ 1 ∷ []) (1 ∷ 1 ∷ 0 ∷ 0 ∷ 0 ∷ 0 ∷ []) ∷
    case four 0 (0 ∷ []) 1 6 (0 ∷ 0 ∷ 1 ∷ 1 ∷ 2 ∷ []) (1 ∷ 1 ∷ 0 ∷ 0 ∷ 0 ∷ 0 ∷ []) ∷
    -- a Return is told before both
    case four 0 (0 ∷ []) 3 6 (0 ∷ 0 ∷ 3 ∷ 5 ∷ 0 ∷ []) (1 ∷ 1 ∷ 1 ∷ 0 ∷ 0 ∷ 1 ∷ []) ∷
    case four 0 (0 ∷ []) 2 6 (0 ∷ 0 ∷ 2 ∷ 2 ∷ 2 ∷ []) (1 ∷ 1 ∷ 1 ∷ 0 ∷ 0 ∷ 0 ∷ []) ∷
    -- no budget at all: the first instruction is visited
    case four 0 [] 0 6 (0 ∷ 0 ∷ 0 ∷ 0 ∷ 2 ∷ []) (1 ∷ 0 ∷ 0 ∷ 0 ∷ 0 ∷ 0 ∷ []) ∷
    -- RegisterTryCatch goes on
    case four 2 [] 9 6 (0 ∷ 0 ∷ 3 ∷ 5 ∷ 0 ∷ []) (1 ∷ 1 ∷ 1 ∷ 0 ∷ 0 ∷ 1 ∷ []) ∷
    -- an endless loop
    case four 3 [] 4 1 (0 ∷ 0 ∷ 4 ∷ 0 ∷ 2 ∷ []) (1 ∷ []) ∷
    -- 19 and 20 with their places, before all others
    case [] 9 (2 ∷ []) 1 2 (19 ∷ 0 ∷ 0 ∷ 0 ∷ 0 ∷ []) (0 ∷ 0 ∷ []) ∷
    case (header 0 1 ++ op Jmp 0 0 1) 9 (2 ∷ []) 1 0 (20 ∷ 1 ∷ 0 ∷ 0 ∷ 0 ∷ []) [] ∷
    -- 22, 23 at its offset, 29, in that order
    case four 4 (2 ∷ []) 1 2 (22 ∷ 0 ∷ 0 ∷ 0 ∷ 0 ∷ []) (0 ∷ 0 ∷ []) ∷
    case four 0 (0 ∷ 2 ∷ 3 ∷ []) 1 5 (23 ∷ 1 ∷ 0 ∷ 0 ∷ 0 ∷ []) (replicate 5 0) ∷
    case four 0 (0 ∷ []) 1 5 (29 ∷ 0 ∷ 0 ∷ 0 ∷ 0 ∷ []) (replicate 5 0) ∷
    []

pub walk_rows : map given rows ≡ map due rows
unfolding walking
walk_rows = refl

-- ---- failures

abbrev tries : List ℕ
tries = join (
    -- 0: a try around a try, whose handlers stand at 7 and 5; each takes its own off
    header 1 10 ∷ op RegisterTryCatch 0 0 7 ∷ op RegisterTryCatch 0 0 4 ∷ op Test 0 0 0 ∷ op DeregisterTryCatch 0 0 0 ∷ op Jmp 0 0 2 ∷ op GetExcept 0 0 0 ∷
    op DeregisterTryCatch 0 0 0 ∷ op GetExcept 0 0 0 ∷ op DeregisterTryCatch 0 0 0 ∷ op Return 0 0 0 ∷
    -- 1: a handler registered in every round
    header 0 2 ∷ op RegisterTryCatch 0 0 0 ∷ op Jmp 0 255 255 ∷
    -- 2: one taken off where none is registered
    header 0 2 ∷ op DeregisterTryCatch 0 0 0 ∷ op Return 0 0 0 ∷
    -- 3: a handler that asks once more
    header 1 5 ∷ op RegisterTryCatch 0 0 1 ∷ op Test 0 0 0 ∷ op Jmp 0 0 2 ∷ op Jmp 0 255 254 ∷ op Return 0 0 0 ∷ [])

abbrev failures : List Case
failures =
    -- the handler registered last is entered, and asks for no decision at the Test; it stays, so that the first DeregisterTryCatch takes it off
    struck tries 0 [] (2 ∷ []) 100 10 (0 ∷ 0 ∷ 7 ∷ 9 ∷ 0 ∷ []) (1 ∷ 1 ∷ 1 ∷ 0 ∷ 0 ∷ 1 ∷ 1 ∷ 1 ∷ 1 ∷ 1 ∷ []) ∷
    -- the decision is there for the next Test
    struck tries 3 (0 ∷ []) (1 ∷ []) 100 5 (0 ∷ 0 ∷ 4 ∷ 4 ∷ 0 ∷ []) (1 ∷ 1 ∷ 1 ∷ 0 ∷ 1 ∷ []) ∷
    -- a second failure in the handler enters it once more
    struck tries 0 [] (2 ∷ 3 ∷ []) 100 10 (0 ∷ 0 ∷ 8 ∷ 9 ∷ 0 ∷ []) (1 ∷ 1 ∷ 1 ∷ 0 ∷ 0 ∷ 1 ∷ 1 ∷ 1 ∷ 1 ∷ 1 ∷ []) ∷
    -- behind the DeregisterTryCatch the other handler is the last; a struck one takes nothing off
    struck tries 0 [] (2 ∷ 5 ∷ []) 100 10 (0 ∷ 0 ∷ 8 ∷ 9 ∷ 0 ∷ []) (1 ∷ 1 ∷ 1 ∷ 0 ∷ 0 ∷ 1 ∷ 1 ∷ 1 ∷ 1 ∷ 1 ∷ []) ∷
    struck tries 0 [] (2 ∷ 4 ∷ []) 5 10 (0 ∷ 0 ∷ 5 ∷ 5 ∷ 2 ∷ []) (1 ∷ 1 ∷ 1 ∷ 0 ∷ 0 ∷ 1 ∷ 1 ∷ 0 ∷ 0 ∷ 0 ∷ []) ∷
    -- a struck RegisterTryCatch: the failure enters the handler that was registered before
    struck tries 0 [] (1 ∷ []) 2 10 (0 ∷ 0 ∷ 2 ∷ 7 ∷ 2 ∷ []) (1 ∷ 1 ∷ 0 ∷ 0 ∷ 0 ∷ 0 ∷ 0 ∷ 1 ∷ 0 ∷ 0 ∷ []) ∷
    -- it registers nothing itself, so that none is registered here; Failed is not counted, and is told behind the budget
    struck tries 0 [] (0 ∷ []) 1 10 (0 ∷ 0 ∷ 0 ∷ 0 ∷ 3 ∷ []) (1 ∷ replicate 9 0) ∷
    struck tries 0 [] (0 ∷ []) 0 10 (0 ∷ 0 ∷ 0 ∷ 0 ∷ 2 ∷ []) (1 ∷ replicate 9 0) ∷
    -- without a strike the Test asks, before the budget
    struck tries 0 [] (3 ∷ []) 2 10 (0 ∷ 0 ∷ 2 ∷ 2 ∷ 1 ∷ []) (1 ∷ 1 ∷ 1 ∷ replicate 7 0) ∷
    -- a Return ends it, struck or not
    struck tries 2 [] (1 ∷ []) 1 2 (0 ∷ 0 ∷ 1 ∷ 1 ∷ 0 ∷ []) (1 ∷ 1 ∷ []) ∷
    -- 256 handlers and no more, told behind the budget
    struck tries 1 [] [] 600 2 (0 ∷ 0 ∷ 512 ∷ 0 ∷ 4 ∷ []) (1 ∷ 1 ∷ []) ∷
    struck tries 1 [] [] 512 2 (0 ∷ 0 ∷ 512 ∷ 0 ∷ 2 ∷ []) (1 ∷ 1 ∷ []) ∷
    -- 25 at the entry's number, behind 23 and before 29; the first may be 0
    struck tries 0 (0 ∷ 2 ∷ []) (3 ∷ 3 ∷ []) 1 0 (23 ∷ 1 ∷ 0 ∷ 0 ∷ 0 ∷ []) [] ∷
    struck tries 0 [] (0 ∷ 3 ∷ 3 ∷ 1 ∷ []) 1 2 (25 ∷ 2 ∷ 0 ∷ 0 ∷ 0 ∷ []) (0 ∷ 0 ∷ []) ∷
    struck tries 0 [] (0 ∷ 3 ∷ []) 1 2 (29 ∷ 0 ∷ 0 ∷ 0 ∷ 0 ∷ []) (0 ∷ 0 ∷ []) ∷
    []

pub failure_rows : map given failures ≡ map due failures
unfolding walking
failure_rows = refl
