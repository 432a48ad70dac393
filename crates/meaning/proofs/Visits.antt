-- 02, E6: "at most the number of nodes when no such Minus occurs". `drops-..` counts the Minuses that have a small number on their left; where there is
-- none, each node is visited once, but for the numbers that Addi holds. By induction over the syntax.
use Prim.Native.Nat.{ℕ, ◌+◌, ◌≤◌}
use mathlib.Core.Path.{◌≡◌}
use mathlib.Core.List.{List}
use mathlib.Core.Option.{Option, none, some}
use native.Mathlib.Omega.{arith}
use lib.Dec.{eqb}
use Rattle.meaning.specs.Fields.{fields}
use Rattle.meaning.specs.Check.{checked}
use Rattle.meaning.specs.Read.{read_program}
use Rattle.std.specs.Prelude.{Ok}
use Rattle.meaning.specs.Opcode.{plus, minus}
use Rattle.meaning.specs.Syntax.{Expr, literal, variable, unary, binary, logical, call, function, Exprs, no_expr, and_expr, Stmt, expression, let_only, let_as, block, while, classic_for, for_in, break, continue, return_none, return, if, try, define, class, Stmts, no_stmt, and_stmt, Elifs, no_elif, and_elif, Fun, fun, Funs, no_fun, and_fun, Super, no_super, super, small_if}
use Rattle.meaning.specs.Weight.{each_one, weight_super, weight_expr, weight_exprs, weight_stmt, weight_stmts, weight_elifs, weight_fun, weight_funs}
use Rattle.meaning.proofs.Weights.{accepted_size}
use Rattle.meaning.specs.Visits.{right_visits, visits_super, under_expr, visits_expr, visits_exprs, visits_stmt, visits_stmts, visits_elifs, visits_fun, visits_funs, visits_program}

-- 1 for such a Minus
abbrev pub drop_here : (right-of-plus left-of-minus : Option ℕ) → ℕ
drop_here (some k) j = 0
drop_here none (some j) = 1
drop_here none none = 0

unfoldable mutual
  -- how many such Minuses stand in the syntax
  pub drops_expr : Expr → ℕ
  drops_expr (literal node value) = 0
  drops_expr (variable node x) = 0
  drops_expr (unary node op mark x) = drops_expr x
  drops_expr (binary node op mark x y) = drop_here (small_if (eqb op plus) y) (small_if (eqb op minus) x) + (drops_expr x + drops_expr y)
  drops_expr (logical node op mark x y) = drops_expr x + drops_expr y
  drops_expr (call node f mark xs) = drops_expr f + drops_exprs xs
  drops_expr (function node params body) = drops_stmts body

  pub drops_exprs : Exprs → ℕ
  drops_exprs no_expr = 0
  drops_exprs (and_expr e es) = drops_expr e + drops_exprs es

  pub drops_stmt : Stmt → ℕ
  drops_stmt (expression node e) = drops_expr e
  drops_stmt (let_only node x) = 0
  drops_stmt (let_as node x e) = drops_expr e
  drops_stmt (block node ss) = drops_stmts ss
  drops_stmt (while node mark e s) = drops_expr e + drops_stmt s
  drops_stmt (classic_for node mark i c n s) = drops_stmts i + (drops_expr c + (drops_expr n + drops_stmt s))
  drops_stmt (for_in node mark e s xs) = drops_expr e + drops_stmt s
  drops_stmt (break node mark) = 0
  drops_stmt (continue node mark) = 0
  drops_stmt (return_none node mark) = 0
  drops_stmt (return node mark e) = drops_expr e
  drops_stmt (if node mark e ss es ts) = drops_expr e + (drops_stmts ss + (drops_elifs es + drops_stmts ts))
  drops_stmt (try node s x t) = drops_stmt s + drops_stmt t
  drops_stmt (define f) = drops_fun f
  drops_stmt (class node x p ms ts) = drops_funs ms + drops_funs ts

  pub drops_stmts : Stmts → ℕ
  drops_stmts no_stmt = 0
  drops_stmts (and_stmt s ss) = drops_stmt s + drops_stmts ss

  pub drops_elifs : Elifs → ℕ
  drops_elifs no_elif = 0
  drops_elifs (and_elif e ss es) = drops_expr e + drops_stmts ss + drops_elifs es

  pub drops_fun : Fun → ℕ
  drops_fun (fun node x params body) = drops_stmts body

  pub drops_funs : Funs → ℕ
  drops_funs no_fun = 0
  drops_funs (and_fun f fs) = drops_fun f + drops_funs fs

right_few : (i j : Option ℕ) (n m : ℕ) → drop_here i j ≡ 0 → n ≤ m → right_visits i j n ≤ m
right_few (some k) j n m e h = omega arith
right_few none (some j) n m e h = absurd (omega arith)
right_few none none n m e h = h

super_few : (p : Super) → visits_super p ≤ weight_super each_one p
unfolding visits_super weight_super
super_few no_super = omega arith
super_few (super node x) = omega arith

mutual
  unfolding under_expr drops_expr weight_expr

  pub expr_few : (e : Expr) → drops_expr e ≡ 0 → visits_expr e ≤ weight_expr each_one e
  expr_few (literal node value) d = omega arith
  expr_few (variable node x) d = omega arith
  expr_few (unary node op mark x) d = omega (arith, expr_few x (omega (arith, d)))
  expr_few (binary node op mark x y) d =
      omega (arith, expr_few x (omega (arith, d)), right_few (small_if (eqb op plus) y) (small_if (eqb op minus) x) (visits_expr y) (weight_expr each_one y) (omega (arith, d)) (expr_few y (omega (arith, d))))
  expr_few (logical node op mark x y) d = omega (arith, expr_few x (omega (arith, d)), expr_few y (omega (arith, d)))
  expr_few (call node f mark xs) d = omega (arith, expr_few f (omega (arith, d)), exprs_few xs (omega (arith, d)))
  expr_few (function node ps b) d = omega (arith, stmts_few b (omega (arith, d)))

  pub exprs_few : (es : Exprs) → drops_exprs es ≡ 0 → visits_exprs es ≤ weight_exprs each_one es
  exprs_few no_expr d = omega arith
  exprs_few (and_expr e es) d = omega (arith, expr_few e (omega (arith, d)), exprs_few es (omega (arith, d)))

  pub stmt_few : (s : Stmt) → drops_stmt s ≡ 0 → visits_stmt s ≤ weight_stmt each_one s
  stmt_few (expression node e) d = omega (arith, expr_few e (omega (arith, d)))
  stmt_few (let_only node x) d = omega arith
  stmt_few (let_as node x e) d = omega (arith, expr_few e (omega (arith, d)))
  stmt_few (block node ss) d = omega (arith, stmts_few ss (omega (arith, d)))
  stmt_few (while node mark e s) d = omega (arith, expr_few e (omega (arith, d)), stmt_few s (omega (arith, d)))
  stmt_few (classic_for node mark i c n s) d = omega (arith, stmts_few i (omega (arith, d)), expr_few c (omega (arith, d)), expr_few n (omega (arith, d)), stmt_few s (omega (arith, d)))
  stmt_few (for_in node mark e s xs) d = omega (arith, expr_few e (omega (arith, d)), stmt_few s (omega (arith, d)))
  stmt_few (break node mark) d = omega arith
  stmt_few (continue node mark) d = omega arith
  stmt_few (return_none node mark) d = omega arith
  stmt_few (return node mark e) d = omega (arith, expr_few e (omega (arith, d)))
  stmt_few (if node mark e ss es ts) d = omega (arith, expr_few e (omega (arith, d)), stmts_few ss (omega (arith, d)), elifs_few es (omega (arith, d)), stmts_few ts (omega (arith, d)))
  stmt_few (try node s x t) d = omega (arith, stmt_few s (omega (arith, d)), stmt_few t (omega (arith, d)))
  stmt_few (define f) d = fun_few f d
  stmt_few (class node x p ms ts) d = omega (arith, super_few p, funs_few ms (omega (arith, d)), funs_few ts (omega (arith, d)))

  pub stmts_few : (ss : Stmts) → drops_stmts ss ≡ 0 → visits_stmts ss ≤ weight_stmts each_one ss
  stmts_few no_stmt d = omega arith
  stmts_few (and_stmt s ss) d = omega (arith, stmt_few s (omega (arith, d)), stmts_few ss (omega (arith, d)))

  pub elifs_few : (es : Elifs) → drops_elifs es ≡ 0 → visits_elifs es ≤ weight_elifs each_one es
  elifs_few no_elif d = omega arith
  elifs_few (and_elif e ss es) d = omega (arith, expr_few e (omega (arith, d)), stmts_few ss (omega (arith, d)), elifs_few es (omega (arith, d)))

  pub fun_few : (f : Fun) → drops_fun f ≡ 0 → visits_fun f ≤ weight_fun each_one f
  fun_few (fun node x ps b) d = omega (arith, stmts_few b (omega (arith, d)))

  pub funs_few : (fs : Funs) → drops_funs fs ≡ 0 → visits_funs fs ≤ weight_funs each_one fs
  funs_few no_fun d = omega arith
  funs_few (and_fun f fs) d = omega (arith, fun_few f (omega (arith, d)), funs_few fs (omega (arith, d)))

-- THE BOUND BY NODES: of a tree whose checks 1 to 6 are passed
pub visits_few : (mode : ℕ) (tree : List ℕ) (work n : ℕ) → checked mode tree work ≡ Ok n → drops_stmts (read_program (fields tree)) ≡ 0 → visits_program (read_program (fields tree)) ≤ n
visits_few mode tree work n e d = omega (arith, accepted_size mode tree work n e, stmts_few (read_program (fields tree)) d)
