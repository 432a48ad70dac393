-- The grammar as the code has it: the table of src/rows.rt, a row for each place in the payload of each tag, and further ones for the places that only
-- wide marks make. Only contracts of inner functions cite this; proofs/Table.antt proves that the rows say what the grammar says.
use Rattle.std.specs.Prelude.{ℕ, ◌+◌, ◌-◌, ◌*◌, Bool, true, false, ◌&&◌, cond, List, [], ◌∷◌, ◌++◌, get_or, eqb}
use Rattle.meaning.specs.Grammar.{none, any, name, op, op12, count, expr, stmt, elif, method, super, init, names, is_program}
use Rattle.tree.specs.declared.rows.Kind.{Kind}
use Rattle.tree.specs.declared.rows.Kind.TheVariants.{Nothing, Any, Name, Op, Op12, Count, Expr, Stmt, Elif, Method, Super, Init}
use Rattle.tree.specs.declared.rows.Run.{Run}
use Rattle.tree.specs.declared.rows.Run.TheVariants.{Outside, Counts, Closes}
use Rattle.tree.specs.declared.rows.Row.{Row}
use Rattle.tree.specs.declared.rows.TheConstants.{ROWS}

-- the kinds of the grammar
unfoldable pub number : Kind → ℕ
number Nothing = none
number Any = any
number Name = name
number Op = op
number Op12 = op12
number Count = count
number Expr = expr
number Stmt = stmt
number Elif = elif
number Method = method
number Super = super
number Init = init

-- the first row of each tag but a program's, from 00 on, and 0 for a number that is no tag; what has no mark shares its rows in a wide tree
unfoldable pub first_rows : (wide : Bool) → List ℕ
first_rows false = 0 ∷ 2 ∷ 6 ∷ 7 ∷ 8 ∷ 10 ∷ 13 ∷ 17 ∷ 21 ∷ 24 ∷ 0 ∷ 0 ∷ 0 ∷ 0 ∷ 0 ∷ 0 ∷ 28 ∷ 29 ∷ 32 ∷ 33 ∷ 36 ∷ 41 ∷ 48 ∷ 49 ∷ 50 ∷ 52 ∷ 59 ∷ 61 ∷ 65 ∷ 71 ∷ []
first_rows true = 0 ∷ 2 ∷ 6 ∷ 7 ∷ 78 ∷ 80 ∷ 82 ∷ 84 ∷ 86 ∷ 88 ∷ 0 ∷ 0 ∷ 0 ∷ 0 ∷ 0 ∷ 0 ∷ 28 ∷ 92 ∷ 32 ∷ 94 ∷ 95 ∷ 96 ∷ 106 ∷ 107 ∷ 108 ∷ 109 ∷ 59 ∷ 110 ∷ 113 ∷ 120 ∷ []

-- ---- what a row says

-- beyond the table one at which nothing fits
abbrev pub no_row : Row
no_row = record { kind = Nothing; next = 0; run = Outside; ends = false }

-- row r
abbrev pub row_at : ℕ → Row
row_at r = get_or ROWS r no_row

-- what the word is, as the kinds of the grammar
abbrev pub kind_in : Row → ℕ
kind_in row = number row.kind

-- the number of the row after it
abbrev pub next_in : Row → ℕ
next_in row = row.next

-- where no group of a counted run is left, the number of the row after it
unfoldable pub end_of : Run → ℕ
end_of Outside = 0
end_of (Counts r) = r
end_of (Closes r) = r

abbrev pub done_in : Row → ℕ
done_in row = end_of row.run

-- 1 a count, 2 the last word of a group, 0 any other
unfoldable pub flow_of : Run → ℕ
flow_of Outside = 0
flow_of (Counts r) = 1
flow_of (Closes r) = 2

abbrev pub flow_in : Row → ℕ
flow_in row = flow_of row.run

-- the payload may end before it
abbrev pub ends_in : Row → Bool
ends_in row = row.ends

-- how many groups of a counted run are left after the word w of a row, where `left` were before it
unfoldable pub next_left : Row → (left w : ℕ) → ℕ
next_left row left w = cond (eqb (flow_in row) 0) left (cond (eqb (flow_in row) 1) w (left - 1))

-- the number of the row after it, where `left` are left then
unfoldable pub next_row : Row → (left : ℕ) → ℕ
next_row row left = cond (eqb (flow_in row) 0) (next_in row) (cond (eqb left 0) (done_in row) (next_in row))

-- ---- payloads by rows, as `fits` and `kids` have them by items

-- a payload's bytes fit from row r on, `left` groups of a counted run being left
unfoldable pub fits_row : (ok : ℕ → ℕ → Bool) → (r left : ℕ) → List ℕ → Bool
fits_row ok r left [] = ends_in (row_at r)
fits_row ok r left (a ∷ []) = false
fits_row ok r left (a ∷ b ∷ p) =
    let w = a * 256 + b in
    let left' = next_left (row_at r) left w in
    ok (kind_in (row_at r)) w && fits_row ok (next_row (row_at r) left') left' p

-- the children that they name, in order
unfoldable pub kids_row : (r left : ℕ) → List ℕ → List ℕ
kids_row r left [] = []
kids_row r left (a ∷ []) = []
kids_row r left (a ∷ b ∷ p) =
    let w = a * 256 + b in
    let left' = next_left (row_at r) left w in
    cond (names (kind_in (row_at r)) w) (w ∷ []) [] ++ kids_row (next_row (row_at r) left') left' p

-- the first row of a node: the last node is a program, whose row is 77, and no other is
unfoldable pub start_of : (wide : Bool) → (tag : ℕ) → (last : Bool) → ℕ
start_of wide tag true = cond (is_program tag) 77 0
start_of wide tag false = cond (is_program tag) 0 (get_or (first_rows wide) tag 0)
