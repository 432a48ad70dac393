-- Reference programs 11, 12 and 15, and the refusals that a small file shows, each with its place. Every theorem but the last computes.
-- 11 and 12 start from the bytes after the checks 1 to 6, whose computing takes a time that grows with the square of the nodes.
-- Refusal 2 asks for more fields than can be computed: `many` proves it by induction, for every file of more than 32,768 empty blocks.
use Prim.Native.Nat.{ℕ, zero, suc, ◌+◌, ◌*◌, ◌<◌, ◌≤◌}
use mathlib.Core.Path.{◌≡◌, refl, ap}
use mathlib.Core.Bool.{true}
use mathlib.Core.List.{List, [], ◌∷◌, ◌++◌, map}
use native.Mathlib.Omega.{arith}
use lib.ListN.{length}
use borrow.Author.Tests.{lt-ltb, le-leb}
use Rattle.meaning.specs.Fields.{whole, fields, fields_by, left, left_by}
use Rattle.meaning.specs.Tree.{depth_at}
use Rattle.meaning.specs.Check.{framed, checked_tree, checked}
use Rattle.meaning.specs.Image.{word, field}
use Rattle.meaning.specs.Answer.{finished, finished_after, outcome, answer}
use Rattle.meaning.specs.declared.Answer.{Answer}
use Rattle.meaning.specs.declared.Cause.TheVariants.{Many}
use Rattle.std.specs.Prelude.{Ok, Err}
use Rattle.meaning.specs.Outcome.{refusal}
use Rattle.meaning.proofs.Computing.{computing}
use Rattle.meaning.proofs.Starred.{case, given, due, bytes, Case}

-- ---- files that are built

-- a field of words
abbrev words : List ℕ → List ℕ
words [] = []
words (w ∷ ws) = word w ++ words ws

abbrev node : ℕ → List ℕ → List ℕ
node tag ws = field tag (words ws)

-- the number 1
abbrev one : List ℕ
one = node 0x01 (0x3FF0 ∷ 0 ∷ 0 ∷ 0 ∷ [])

-- n numbers from i on, each `step` after the one before
abbrev from_by : (n i step : ℕ) → List ℕ → List ℕ
from_by zero i step more = more
from_by (suc n) i step more = i ∷ from_by n (i + step) step more

-- n literal statements from node i on
abbrev literals : (n i : ℕ) → List (List ℕ) → List (List ℕ)
literals zero i more = more
literals (suc n) i more = one ∷ node 0x10 (i ∷ []) ∷ literals n (i + 2) more

-- n unary nodes from node i + 1 on, each over the node before it
abbrev minuses : (n i : ℕ) → List (List ℕ) → List (List ℕ)
minuses zero i more = more
minuses (suc n) i more = node 0x05 (2 ∷ 3 ∷ i ∷ []) ∷ minuses n (i + 1) more

-- n functions from node i + 1 on, the body of each one statement over the node before it
abbrev functions : (n i : ℕ) → List (List ℕ) → List (List ℕ)
functions zero i more = more
functions (suc n) i more = node 0x10 (i ∷ []) ∷ node 0x09 (0 ∷ (i + 1) ∷ []) ∷ functions n (i + 2) more

-- ---- 11 and 12

-- n literal statements; n of them and a return of a literal
abbrev eleven : ℕ → List ℕ
eleven n = bytes (literals n 0 (node 0x1E (from_by n 1 2 []) ∷ []))

abbrev twelve : ℕ → List ℕ
twelve n = bytes (literals n 0 (one ∷ node 0x18 (9 ∷ (2 * n) ∷ []) ∷ node 0x1E (from_by n 1 2 ((2 * n + 1) ∷ [])) ∷ []))

-- number, place and length, the file having passed the checks with n nodes
abbrev after_checks : (n : ℕ) → List ℕ → Answer
after_checks n tree = answer (outcome (finished_after 0 (Ok n) tree 6000))

abbrev told : (number place length : ℕ) → Answer
told number place length = record { number = number; place = place; length = length }

pub eleven_accepted : after_checks 511 (eleven 255) ≡ told 0 0 5122
unfolding computing
eleven_accepted = refl

pub eleven_refused : after_checks 513 (eleven 256) ≡ told 7 510 0
unfolding computing
eleven_refused = refl

pub twelve_accepted : after_checks 509 (twelve 253) ≡ told 0 0 5111
unfolding computing
twelve_accepted = refl

pub twelve_refused : after_checks 511 (twelve 254) ≡ told 13 509 0
unfolding computing
twelve_refused = refl

-- ---- 15

abbrev fifteens : List Case
fifteens =
    -- a top-level for-in variable in a function that stands after the loop
    case (
    one ∷
    node 0x12 [] ∷
    node 0x15 (5 ∷ 0 ∷ 1 ∷ 20 ∷ 6 ∷ []) ∷
    node 0x04 (20 ∷ 9 ∷ []) ∷
    node 0x10 (3 ∷ []) ∷
    node 0x1C (22 ∷ 11 ∷ 0 ∷ 4 ∷ []) ∷
    node 0x1E (2 ∷ 5 ∷ []) ∷
    []) 9 3
    [] ∷
    -- in a function within the loop's block body: a capture
    case (
    one ∷
    node 0x04 (20 ∷ 9 ∷ []) ∷
    node 0x10 (1 ∷ []) ∷
    node 0x1C (22 ∷ 11 ∷ 0 ∷ 2 ∷ []) ∷
    node 0x12 (3 ∷ []) ∷
    node 0x15 (5 ∷ 0 ∷ 4 ∷ 20 ∷ 6 ∷ []) ∷
    node 0x1E (5 ∷ []) ∷
    []) 0 0
    (
    (0x41 ∷ 0x00 ∷ 0x0A ∷ 0x00 ∷ 0x16 ∷ 0x00 ∷ 0x00 ∷ 0x00 ∷ 0x02 ∷ 0x00 ∷ 0x01 ∷ 0x00 ∷ 0x04 ∷ []) ∷
    (0x42 ∷ 0x00 ∷ 0x02 ∷ 0x01 ∷ 0x03 ∷ []) ∷
    (0x43 ∷ 0x00 ∷ 0x06 ∷ 0x2E ∷ 0x00 ∷ 0x00 ∷ 0x00 ∷ 0x00 ∷ 0x0B ∷ []) ∷
    (0x43 ∷ 0x00 ∷ 0x06 ∷ 0x16 ∷ 0x01 ∷ 0x00 ∷ 0x00 ∷ 0x00 ∷ 0x09 ∷ []) ∷
    (0x43 ∷ 0x00 ∷ 0x06 ∷ 0x14 ∷ 0x01 ∷ 0x03 ∷ 0x00 ∷ 0x00 ∷ 0x09 ∷ []) ∷
    (0x43 ∷ 0x00 ∷ 0x06 ∷ 0x14 ∷ 0x00 ∷ 0x00 ∷ 0x00 ∷ 0xFF ∷ 0xFF ∷ []) ∷
    (0x41 ∷ 0x00 ∷ 0x0A ∷ 0xFF ∷ 0xFF ∷ 0x00 ∷ 0x00 ∷ 0x00 ∷ 0x06 ∷ 0x00 ∷ 0x00 ∷ 0x00 ∷ 0x0B ∷ []) ∷
    (0x43 ∷ 0x00 ∷ 0x06 ∷ 0x01 ∷ 0x00 ∷ 0x00 ∷ 0x00 ∷ 0x00 ∷ 0x05 ∷ []) ∷
    (0x43 ∷ 0x00 ∷ 0x06 ∷ 0x01 ∷ 0x04 ∷ 0x00 ∷ 0x01 ∷ 0xFF ∷ 0xFF ∷ []) ∷
    (0x43 ∷ 0x00 ∷ 0x06 ∷ 0x29 ∷ 0x01 ∷ 0x04 ∷ 0x00 ∷ 0x00 ∷ 0x05 ∷ []) ∷
    (0x43 ∷ 0x00 ∷ 0x06 ∷ 0x0B ∷ 0x02 ∷ 0x00 ∷ 0x01 ∷ 0x00 ∷ 0x05 ∷ []) ∷
    (0x43 ∷ 0x00 ∷ 0x06 ∷ 0x04 ∷ 0x02 ∷ 0x02 ∷ 0x00 ∷ 0x00 ∷ 0x05 ∷ []) ∷
    (0x43 ∷ 0x00 ∷ 0x06 ∷ 0x03 ∷ 0x00 ∷ 0x00 ∷ 0x05 ∷ 0x00 ∷ 0x05 ∷ []) ∷
    (0x43 ∷ 0x00 ∷ 0x06 ∷ 0x27 ∷ 0x03 ∷ 0x04 ∷ 0x00 ∷ 0x00 ∷ 0x05 ∷ []) ∷
    (0x43 ∷ 0x00 ∷ 0x06 ∷ 0x17 ∷ 0x05 ∷ 0x00 ∷ 0x00 ∷ 0x00 ∷ 0x0B ∷ []) ∷
    (0x43 ∷ 0x00 ∷ 0x06 ∷ 0x24 ∷ 0x00 ∷ 0x00 ∷ 0x01 ∷ 0x00 ∷ 0x05 ∷ []) ∷
    (0x43 ∷ 0x00 ∷ 0x06 ∷ 0x03 ∷ 0x00 ∷ 0xFF ∷ 0xF9 ∷ 0x00 ∷ 0x05 ∷ []) ∷
    (0x43 ∷ 0x00 ∷ 0x06 ∷ 0x14 ∷ 0x00 ∷ 0x00 ∷ 0x00 ∷ 0xFF ∷ 0xFF ∷ []) ∷
    (0x44 ∷ 0x00 ∷ 0x08 ∷ 0x00 ∷ 0x00 ∷ 0x00 ∷ 0x00 ∷ 0x00 ∷ 0x00 ∷ 0x00 ∷ 0x00 ∷ []) ∷
    (0x44 ∷ 0x00 ∷ 0x08 ∷ 0x3F ∷ 0xF0 ∷ 0x00 ∷ 0x00 ∷ 0x00 ∷ 0x00 ∷ 0x00 ∷ 0x00 ∷ []) ∷
    []) ∷
    []

pub fifteen : map given fifteens ≡ map due fifteens
unfolding computing
fifteen = refl

-- ---- refusals with their places, and what is just accepted

-- a file, the words of its work area, the bytes of its output, and what is told
pub record Row : Type 0 where
  pub tree : List (List ℕ)
  pub work : ℕ
  pub room : ℕ
  pub answer : Answer

abbrev row : List (List ℕ) → (work room number place length : ℕ) → Row
row tree work room number place length = record { tree = tree; work = work; room = room; answer = told number place length }

-- one over n unary nodes; a function without statements within n others
abbrev deep : ℕ → List (List ℕ)
deep n = one ∷ minuses n 0 (node 0x10 (n ∷ []) ∷ node 0x1E ((n + 1) ∷ []) ∷ [])

abbrev nested : ℕ → List (List ℕ)
nested n = node 0x09 (0 ∷ []) ∷ functions n 0 (node 0x10 ((2 * n) ∷ []) ∷ node 0x1E ((2 * n + 1) ∷ []) ∷ [])

abbrev let_one : ℕ → List ℕ
let_one child = node 0x11 (20 ∷ 7 ∷ child ∷ [])

abbrev rows : List Row
rows =
    -- 1 Frame: a header, then a payload, that runs past the end
    row (node 0x12 [] ∷ (0x1E ∷ 0x00 ∷ []) ∷ []) 20000 200 1 1 0 ∷
    row ((0x1E ∷ 0x00 ∷ 0x02 ∷ 0x00 ∷ []) ∷ []) 20000 200 1 0 0 ∷
    -- 3 Shape: an odd payload, a unary operator 3, the empty name in a variable
    row ((0x1E ∷ 0x00 ∷ 0x01 ∷ 0x00 ∷ []) ∷ []) 20000 200 3 0 0 ∷
    row (one ∷ node 0x05 (3 ∷ 3 ∷ 0 ∷ []) ∷ node 0x10 (1 ∷ []) ∷ node 0x1E (2 ∷ []) ∷ []) 20000 200 3 1 0 ∷
    row (node 0x04 (65535 ∷ 3 ∷ []) ∷ node 0x10 (0 ∷ []) ∷ node 0x1E (1 ∷ []) ∷ []) 20000 200 3 0 0 ∷
    -- a last node that is no program, a program that is not last, an expression as a statement, a child that does not stand below
    row (one ∷ node 0x10 (0 ∷ []) ∷ []) 20000 200 3 1 0 ∷
    row (node 0x1E [] ∷ node 0x1E [] ∷ []) 20000 200 3 0 0 ∷
    row (one ∷ node 0x1E (0 ∷ []) ∷ []) 20000 200 3 1 0 ∷
    row (node 0x12 (0 ∷ []) ∷ node 0x1E (0 ∷ []) ∷ []) 20000 200 3 0 0 ∷
    -- 4 Tree: a child twice, a child of nothing
    row (one ∷ node 0x10 (0 ∷ []) ∷ node 0x1E (1 ∷ 1 ∷ []) ∷ []) 20000 200 4 1 0 ∷
    row (one ∷ node 0x1E [] ∷ []) 20000 200 4 0 0 ∷
    -- 5 Depth: a node at 129
    row (deep 126) 20000 2000 5 0 0 ∷
    -- 6 Work
    row (node 0x1E [] ∷ []) 12303 200 6 0 0 ∷
    -- 10 Redefined: the second let of a name
    row (one ∷ let_one 0 ∷ one ∷ let_one 2 ∷ node 0x1E (1 ∷ 3 ∷ []) ∷ []) 20000 200 10 3 0 ∷
    -- 16 Nesting: eight open functions, the ninth
    row (nested 6) 20000 2000 0 0 293 ∷
    row (nested 7) 20000 2000 16 0 0 ∷
    -- 18 Room
    row (node 0x1E [] ∷ []) 12304 22 0 0 22 ∷
    row (node 0x1E [] ∷ []) 12304 21 18 0 0 ∷
    []

pub refusals : map (λ r. answer (outcome (finished 0 (bytes r.tree) r.work r.room))) rows ≡ map (λ r. r.answer) rows
unfolding computing
refusals = refl

-- a node at 128 is not too deep
pub at_128 : depth_at (fields (bytes (deep 125))) 0 ≡ true
unfolding computing
at_128 = refl

-- ---- 2 Many

-- n empty blocks, each a field by itself
abbrev blocks : ℕ → List ℕ
blocks zero = []
blocks (suc n) = 0x12 ∷ 0x00 ∷ 0x00 ∷ blocks n

fuel_enough : (n : ℕ) → n ≤ length (blocks n)
fuel_enough zero = omega arith
fuel_enough (suc n) = omega (arith, fuel_enough n)

-- n fields, and nothing after them
counted : (f n : ℕ) → n ≤ f → length (fields_by f (blocks n)) ≡ n
unfolding fields_by whole
counted zero zero h = refl
counted zero (suc n) h = absurd (omega arith)
counted (suc f) zero h = refl
counted (suc f) (suc n) h = rw (le-leb 3 (length (blocks (suc n))) (omega arith)) (ap suc (counted f n (omega arith)))

consumed : (f n : ℕ) → n ≤ f → left_by f (blocks n) ≡ []
unfolding left_by whole
consumed zero zero h = refl
consumed zero (suc n) h = absurd (omega arith)
consumed (suc f) zero h = refl
consumed (suc f) (suc n) h = rw (le-leb 3 (length (blocks (suc n))) (omega arith)) (consumed f n (omega arith))

pub many : (mode n work : ℕ) → mode ≤ 1 → 32768 < n → checked mode (blocks n) work ≡ Err (refusal Many 32768)
unfolding checked checked_tree framed fields left
many mode n work known h =
    rw (le-leb mode 1 known, counted (length (blocks n)) n (fuel_enough n), consumed (length (blocks n)) n (fuel_enough n), lt-ltb 0 n (omega arith), lt-ltb 32768 n h)
