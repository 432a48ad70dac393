-- Reference program 13 and refusals 7, 8, 13, 14, 15 and 17 at their limits, each with its place. Every theorem computes, from the syntax
-- tree on, since the lowering takes a time that grows with the nodes alone. What is told is the cause's number and its place, or 0 and the
-- prototypes' lengths.
use Prim.Native.Nat.{ℕ, zero, suc, ◌+◌}
use mathlib.Core.Path.{◌≡◌, refl}
use mathlib.Core.List.{List, [], ◌∷◌, map}
use lib.ListN.{length}
use Rattle.meaning.specs.Constant.{number}
use Rattle.meaning.specs.declared.Token.{Token}
use Rattle.meaning.specs.Syntax.{Stmts, no_stmt, and_stmt, expression, literal, variable, function, let_only, let_as, block, if, no_elif, return_none, define, fun}
use Rattle.meaning.specs.State.{Res, refused, done}
use Rattle.meaning.specs.Lower.{lower_program}
use Rattle.meaning.specs.Answer.{cause_number}
use Rattle.meaning.proofs.Computing.{computing}

abbrev told : Res ℕ → List ℕ
told (refused c place) = cause_number c ∷ place ∷ []
told (done index s) = 0 ∷ map (λ p. length p.code) s.prototypes

-- the program is node 9,999
abbrev lowered : Stmts → List ℕ
lowered ss = told (lower_program 0 9999 ss)

abbrev named : ℕ → Token
named n = record { name = n; mark = 5 }

-- ---- 13 and 17

abbrev ifs : ℕ → Stmts → Stmts
ifs zero more = more
ifs (suc n) more = and_stmt (if 3 6 (variable 2 (named 20)) no_stmt no_elif no_stmt) (ifs n more)

abbrev returns : ℕ → Stmts
returns zero = no_stmt
returns (suc n) = and_stmt (return_none 8 7) (returns n)

-- a block with `let a = 1`, n empty ifs on a and k bare returns
abbrev program_13 : (n k : ℕ) → Stmts
program_13 n k = and_stmt (block 7 (and_stmt (let_as 1 (named 20) (literal 0 (number 0x3FF0000000000000))) (ifs n (returns k)))) no_stmt

pub thirteen : lowered (program_13 10921 2) ≡ 0 ∷ 32767 ∷ []
unfolding computing
thirteen = refl

pub thirteen_refused : lowered (program_13 10921 3) ≡ 17 ∷ 9999 ∷ []
unfolding computing
thirteen_refused = refl

-- ---- 14, 15 and 8: statements whose nodes and names count on from i

abbrev literals : (n i : ℕ) → Stmts
literals zero i = no_stmt
literals (suc n) i = and_stmt (expression 1 (literal i (number 7))) (literals n (i + 1))

abbrev uses : (n i : ℕ) → Stmts
uses zero i = no_stmt
uses (suc n) i = and_stmt (expression 1 (variable i (named i))) (uses n (i + 1))

abbrev lets : (n i : ℕ) → Stmts → Stmts
lets zero i more = more
lets (suc n) i more = and_stmt (let_only i (named i)) (lets n (i + 1) more)

abbrev functions : (n i : ℕ) → Stmts
functions zero i = no_stmt
functions (suc n) i = and_stmt (define (fun i (named i) [] no_stmt)) (functions n (i + 1))

-- a function statement at node i, then more
abbrev fn : (i : ℕ) (body more : Stmts) → Stmts
fn i body more = and_stmt (define (fun i (named i) [] body)) more

-- each global function's name is a constant too: 211 and 211 and .. and 180
pub constants_refused : lowered (fn 20 (literals 210 1000) (fn 21 (literals 210 2000) (fn 22 (literals 210 3000) (fn 23 (literals 210 4000) (fn 24 (literals 210 5000) no_stmt))))) ≡ 14 ∷ 5180 ∷ []
unfolding computing
constants_refused = refl

pub prototypes_refused : lowered (fn 20 (functions 128 1000) (fn 21 (functions 128 2000) no_stmt)) ≡ 15 ∷ 2127 ∷ []
unfolding computing
prototypes_refused = refl

-- a block with ten locals around a function with 250, around one whose own functions use them all: it passes on more captures than it uses
abbrev capturing : Stmts
capturing =
    and_stmt (block 9 (lets 10 1000 (fn 20 (lets 250 2000 (fn 21 (fn 22 (uses 130 2000) (fn 23 (uses 120 2130) (fn 24 (uses 10 1000) no_stmt))) no_stmt)) no_stmt))) no_stmt

pub captures_refused : lowered capturing ≡ 8 ∷ 1005 ∷ []
unfolding computing
captures_refused = refl

-- ---- 7 and 13 at a function

abbrev parameters : (n i : ℕ) → List Token
parameters zero i = []
parameters (suc n) i = named i ∷ parameters n (i + 1)

-- a function expression with n parameters whose body is the last of them: it gives no instruction
abbrev last_parameter : ℕ → Stmts
last_parameter n = and_stmt (expression 6 (function 5 (parameters n 1) (and_stmt (expression 4 (variable 3 (named n))) no_stmt))) no_stmt

pub parameters_refused : lowered (last_parameter 255) ≡ 7 ∷ 5 ∷ []
unfolding computing
parameters_refused = refl

-- register 254 would be returned: 13 comes before 12
pub return_before_empty : lowered (last_parameter 254) ≡ 13 ∷ 5 ∷ []
unfolding computing
return_before_empty = refl

pub empty_refused : lowered (last_parameter 253) ≡ 12 ∷ 5 ∷ []
unfolding computing
empty_refused = refl
