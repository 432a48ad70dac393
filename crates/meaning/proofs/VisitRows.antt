-- 02, E6, computed on syntax: a Minus with a small number on its left counts its right side twice, a folded number counts nothing; elifs, methods, a
-- superclass and an initializer are nodes and count.
use mathlib.Core.Path.{◌≡◌, refl}
use mathlib.Core.List.{List, [], ◌∷◌, map}
use Prim.Native.Nat.{ℕ}
use Rattle.meaning.specs.Constant.{number}
use Rattle.meaning.specs.Opcode.{plus, minus}
use Rattle.meaning.specs.declared.Token.{Token}
use Rattle.meaning.specs.Syntax.{Expr, literal, variable, binary, no_expr, Stmt, expression, let_as, block, classic_for, if, define, class, Stmts, no_stmt, and_stmt, no_elif, and_elif, Fun, fun, no_fun, and_fun, no_super, super}
use Rattle.meaning.specs.Visits.{visits_expr, visits_stmt}
use Rattle.meaning.proofs.Computing.{computing}

abbrev x : Token
x = record { name = 20; mark = 1 }

abbrev var : Expr
var = variable 0 x

abbrev two : Expr
two = literal 0 (number 0x4000000000000000)

abbrev three : Expr
three = literal 0 (number 0x4008000000000000)

abbrev large : Expr
large = literal 0 (number 0x4070000000000000)

abbrev sum : Expr → Expr → Expr
sum a b = binary 0 plus 1 a b

abbrev less : Expr → Expr → Expr
less a b = binary 0 minus 1 a b

-- 3 - (3 - x), 3 - 2, 2 + 3, x - 3, x + 256, 3 - (x + 3); -0 is small on the left of Minus
abbrev expressions : List Expr
expressions =
    less three (less three var) ∷ less three two ∷ sum two three ∷ less var three ∷ sum var large ∷ less three (sum var three)
    ∷ less (literal 0 (number 0x8000000000000000)) var ∷ []

pub expression_rows : map visits_expr expressions ≡ 10 ∷ 4 ∷ 2 ∷ 3 ∷ 3 ∷ 6 ∷ 4 ∷ []
unfolding computing
expression_rows = refl

abbrev one : Stmts
one = and_stmt (expression 0 var) no_stmt

abbrev method : Fun
method = fun 0 x [] one

-- if x { x } elif x { x } elif x {}; class with a superclass, a method and a static one; without superclass; for with and without an initializer
abbrev statements : List Stmt
statements =
    if 0 1 var one (and_elif var one (and_elif var no_stmt no_elif)) no_stmt
    ∷ class 0 x (super 0 x) (and_fun method no_fun) (and_fun method no_fun) ∷ class 0 x no_super no_fun no_fun
    ∷ classic_for 0 1 (and_stmt (let_as 0 x two) no_stmt) var var (block 0 no_stmt) ∷ classic_for 0 1 no_stmt var var (block 0 no_stmt)
    ∷ define method ∷ []

pub statement_rows : map visits_stmt statements ≡ 10 ∷ 8 ∷ 1 ∷ 6 ∷ 4 ∷ 3 ∷ []
unfolding computing
statement_rows = refl
