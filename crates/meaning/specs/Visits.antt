-- 02, E6, "How much work is one script?": "a node counts one plus its lowered children, the right side of a numeral-left Minus with the
-- small-number test counts twice, a right-hand number folded into Addi counts nothing".
use Rattle.std.specs.Prelude.{ℕ, ◌+◌, eqb}
use Rattle.std.proofs.Math.Option.{Option, none, some}
use Rattle.meaning.specs.Opcode.{plus, minus}
use Rattle.meaning.specs.Syntax.{Expr, literal, variable, unary, binary, logical, call, function, Exprs, no_expr, and_expr, Stmt, expression, let_only, let_as, block, while, classic_for, for_in, break, continue, return_none, return, if, try, define, class, Stmts, no_stmt, and_stmt, Elifs, no_elif, and_elif, Fun, fun, Funs, no_fun, and_fun, Super, no_super, super, small_if}

-- the right operand of a binary, whose visits are n: a small number on the right of Plus, on the left of Minus, or neither
abbrev pub right_visits : (right-of-plus left-of-minus : Option ℕ) → (n : ℕ) → ℕ
right_visits (some k) j n = 0
right_visits none (some j) n = n + n
right_visits none none n = n

-- a superclass: a variable's node, or none
unfoldable pub visits_super : Super → ℕ
visits_super no_super = 0
visits_super (super node x) = 1

unfoldable mutual
  -- what is visited under an expression: each child that is lowered, and what is under it
  pub under_expr : Expr → ℕ
  under_expr (literal node value) = 0
  under_expr (variable node x) = 0
  under_expr (unary node op mark x) = 1 + under_expr x
  under_expr (binary node op mark x y) = (1 + under_expr x) + right_visits (small_if (eqb op plus) y) (small_if (eqb op minus) x) (1 + under_expr y)
  under_expr (logical node op mark x y) = (1 + under_expr x) + (1 + under_expr y)
  under_expr (call node f mark xs) = (1 + under_expr f) + visits_exprs xs
  under_expr (function node params body) = visits_stmts body

  -- the arguments of a call
  pub visits_exprs : Exprs → ℕ
  visits_exprs no_expr = 0
  visits_exprs (and_expr e es) = (1 + under_expr e) + visits_exprs es

  -- under a statement
  pub under_stmt : Stmt → ℕ
  under_stmt (expression node e) = 1 + under_expr e
  under_stmt (let_only node x) = 0
  under_stmt (let_as node x e) = 1 + under_expr e
  under_stmt (block node ss) = visits_stmts ss
  under_stmt (while node mark e s) = (1 + under_expr e) + (1 + under_stmt s)
  under_stmt (classic_for node mark i c n s) = visits_stmts i + ((1 + under_expr c) + ((1 + under_expr n) + (1 + under_stmt s)))
  under_stmt (for_in node mark e s xs) = (1 + under_expr e) + (1 + under_stmt s)
  under_stmt (break node mark) = 0
  under_stmt (continue node mark) = 0
  under_stmt (return_none node mark) = 0
  under_stmt (return node mark e) = 1 + under_expr e
  under_stmt (if node mark e ss es ts) = (1 + under_expr e) + (visits_stmts ss + (visits_elifs es + visits_stmts ts))
  under_stmt (try node s x t) = (1 + under_stmt s) + (1 + under_stmt t)
  under_stmt (define f) = under_fun f
  under_stmt (class node x p ms ts) = visits_super p + (visits_funs ms + visits_funs ts)

  -- statements one after the other
  pub visits_stmts : Stmts → ℕ
  visits_stmts no_stmt = 0
  visits_stmts (and_stmt s ss) = (1 + under_stmt s) + visits_stmts ss

  -- the elifs of an if, each a node of its own
  pub visits_elifs : Elifs → ℕ
  visits_elifs no_elif = 0
  visits_elifs (and_elif e ss es) = (1 + ((1 + under_expr e) + visits_stmts ss)) + visits_elifs es

  -- under a function statement
  pub under_fun : Fun → ℕ
  under_fun (fun node x params body) = visits_stmts body

  -- the methods of a class, each a function statement
  pub visits_funs : Funs → ℕ
  visits_funs no_fun = 0
  visits_funs (and_fun f fs) = (1 + under_fun f) + visits_funs fs

-- "a node counts one plus its lowered children": an expression, a statement, a function statement, and the whole program
abbrev pub visits_expr : Expr → ℕ
visits_expr e = 1 + under_expr e

-- a statement
abbrev pub visits_stmt : Stmt → ℕ
visits_stmt s = 1 + under_stmt s

-- a function statement
abbrev pub visits_fun : Fun → ℕ
visits_fun f = 1 + under_fun f

-- the program, by its statements
abbrev pub visits_program : Stmts → ℕ
visits_program ss = 1 + visits_stmts ss
