-- The lowering of a changed syntax tree: that of the tree, changed. The recursion is the definition's own, and so is that of the visits (E6).
use Prim.Native.Nat.{ℕ, suc, ◌+◌}
use mathlib.Core.Path.{◌≡◌, refl, ap}
use mathlib.Core.Bool.{Bool, true, false}
use mathlib.Core.List.{[], ◌∷◌}
use lib.Dec.{eqb}
use Rattle.meaning.specs.Constant.{number, text, other}
use Rattle.meaning.specs.Opcode.{plus, minus}
use Rattle.meaning.specs.Syntax.{Expr, literal, variable, unary, binary, logical, call, function, Exprs, no_expr, and_expr, Stmt, expression, let_only, let_as, block, while, classic_for, for_in, break, continue, return_none, return, if, try, define, class, Stmts, no_stmt, and_stmt, Elifs, no_elif, and_elif, Fun, fun, Funs, no_fun, and_fun, Super, no_super, super, small_operand, small_if}
use Rattle.meaning.specs.Chunk.{joined}
use Rattle.meaning.specs.Lower.{arguments, fun_name, lower_expr, lower_arguments, lower_stmt, lower_stmts, lower_elifs, lower_fun, lower_methods, lower_program, start}
use Rattle.meaning.specs.Visits.{visits_super, under_expr, under_stmt, under_fun, visits_exprs, visits_stmts, visits_elifs, visits_funs}
use Rattle.names.specs.Rename.{Rule}
use Rattle.names.proofs.Changed.{super_by, expr_by, exprs_by, stmt_by, stmts_by, elifs_by, fun_by, funs_by, state_by, res_by}
use Rattle.names.proofs.Steps.{bind, by_pure, by_prototype}
use Rattle.names.proofs.Visitors.{F, literal_follows, variable_follows, unary_follows, binary_follows, logical_follows, call_follows, argument_follows, function_follows, fun_follows, let_as_follows, let_only_follows, block_follows, while_follows, for_follows, for_in_follows, jump_follows, return_value_follows, return_none_follows, if_follows, elif_follows, try_follows, method_follows, class_follows, row_follows}

module _ (f : ℕ → ℕ) where
  small_same : (e : Expr) → small_operand (expr_by f e) ≡ small_operand e
  unfolding small_operand expr_by
  small_same (literal n (number b)) = refl
  small_same (literal n (text x)) = refl
  small_same (literal n (other x)) = refl
  small_same (variable n x) = refl
  small_same (unary n o m x) = refl
  small_same (binary n o m x y) = refl
  small_same (logical n o m x y) = refl
  small_same (call n g m xs) = refl
  small_same (function n ps b) = refl

  if_small : (b : Bool) (e : Expr) → small_if b (expr_by f e) ≡ small_if b e
  unfolding small_if
  if_small true e = small_same e
  if_small false e = refl

  arguments_same : (es : Exprs) → arguments (exprs_by f es) ≡ arguments es
  unfolding expr_by
  arguments_same no_expr = refl
  arguments_same (and_expr e es) = ap suc (arguments_same es)

  name_same : (g : Fun) → fun_name (fun_by f g) ≡ f (fun_name g)
  unfolding fun_name expr_by
  name_same (fun node x ps b) = refl

  module _ (rule : Rule f) (mode : ℕ) where
    mutual
      unfolding lower_expr expr_by

      pub expr_follows : (e : Expr) → F f rule (lower_expr mode e) (lower_expr mode (expr_by f e))
      expr_follows (literal node v) = literal_follows f rule node v
      expr_follows (variable node x) = variable_follows f rule node x
      expr_follows (unary node op mark x) = unary_follows f rule node op mark (expr_follows x)
      expr_follows (binary node op mark x y) = rw (if_small (eqb op plus) y, if_small (eqb op minus) x) (binary_follows f rule node op mark _ _ (expr_follows x) (expr_follows y))
      expr_follows (logical node op mark x y) = logical_follows f rule node op mark (expr_follows x) (expr_follows y)
      expr_follows (call node g mark xs) = rw (arguments_same xs) (call_follows f rule node mark _ (expr_follows g) (λ r. arguments_follow xs r))
      expr_follows (function node ps b) = function_follows f rule node ps (stmts_follow b)

      arguments_follow : (es : Exprs) (r : ℕ) → F f rule (lower_arguments mode es r) (lower_arguments mode (exprs_by f es) r)
      arguments_follow no_expr r = by_pure f _
      arguments_follow (and_expr e es) r = argument_follows f rule r (expr_follows e) (arguments_follow es _)

      pub stmt_follows : (s : Stmt) → F f rule (lower_stmt mode s) (lower_stmt mode (stmt_by f s))
      stmt_follows (expression node e) = expr_follows e
      stmt_follows (let_only node x) = let_only_follows f rule node x
      stmt_follows (let_as node x e) = let_as_follows f rule node x (expr_follows e)
      stmt_follows (block node ss) = block_follows f rule (stmts_follow ss)
      stmt_follows (while node mark e s) = while_follows f rule node mark (expr_follows e) (stmt_follows s)
      stmt_follows (classic_for node mark i c n s) = for_follows f rule mode node mark (stmts_follow i) (expr_follows c) (expr_follows n) (stmt_follows s)
      stmt_follows (for_in node mark e s xs) = for_in_follows f rule mode node mark xs (expr_follows e) (stmt_follows s)
      stmt_follows (break node mark) = jump_follows f rule node _ mark
      stmt_follows (continue node mark) = jump_follows f rule node _ mark
      stmt_follows (return_none node mark) = return_none_follows f rule mark
      stmt_follows (return node mark e) = return_value_follows f rule node mark (expr_follows e)
      stmt_follows (if node mark e ss es ts) = if_follows f rule node mark (expr_follows e) (stmts_follow ss) (elifs_follow es) (stmts_follow ts)
      stmt_follows (try node s x t) = try_follows f rule node x (stmt_follows s) (stmt_follows t)
      stmt_follows (define g) = fun_stmt_follows g
      stmt_follows (class node x p ms ts) = class_follows f rule node x p (λ op r tmp. methods_follow ms node x.mark op r tmp) (λ op r tmp. methods_follow ts node x.mark op r tmp)

      pub stmts_follow : (ss : Stmts) → F f rule (lower_stmts mode ss) (lower_stmts mode (stmts_by f ss))
      stmts_follow no_stmt = by_pure f _
      stmts_follow (and_stmt s ss) = row_follows f rule (stmt_follows s) (stmts_follow ss)

      elifs_follow : (es : Elifs) → F f rule (lower_elifs mode es) (lower_elifs mode (elifs_by f es))
      elifs_follow no_elif = by_pure f _
      elifs_follow (and_elif e ss es) = elif_follows f rule (expr_follows e) (stmts_follow ss) (elifs_follow es)

      fun_stmt_follows : (g : Fun) → F f rule (lower_fun mode g) (lower_fun mode (fun_by f g))
      fun_stmt_follows (fun node x ps b) = fun_follows f rule node x ps (stmts_follow b)

      methods_follow : (gs : Funs) (node mark op result tmp : ℕ) → F f rule (lower_methods mode gs node mark op result tmp) (lower_methods mode (funs_by f gs) node mark op result tmp)
      methods_follow no_fun node mark op result tmp = by_pure f _
      methods_follow (and_fun g gs) node mark op result tmp = rw (name_same g) (method_follows f rule node mark op result tmp _ (fun_stmt_follows g) (methods_follow gs node mark op result tmp))

    start_same : state_by f start ≡ start
    start_same = ap (λ n. record { constants = []; prototypes = []; globals = []; current = record { name = n; registers = 0; blocks = [] ∷ []; captures = []; loops = 0 }; outer = [] }) rule.kept.empty

    -- THE LAW on syntax: a refusal stays as it is, and an image's parts get the rule
    pub program_follows : (node : ℕ) (ss : Stmts) → lower_program mode node (stmts_by f ss) ≡ res_by f (lower_program mode node ss)
    unfolding lower_program
    program_follows node ss =
        rw start_same at ((bind f (stmts_follow ss) (λ cs. by_prototype f node 0 (joined cs))).at start)

  -- ---- visits (E6)

  mutual
    unfolding under_expr expr_by visits_super

    under_expr_same : (e : Expr) → under_expr (expr_by f e) ≡ under_expr e
    under_expr_same (literal node v) = refl
    under_expr_same (variable node x) = refl
    under_expr_same (unary node op mark x) = ap (λ k. 1 + k) (under_expr_same x)
    under_expr_same (binary node op mark x y) = rw (if_small (eqb op plus) y, if_small (eqb op minus) x, under_expr_same x, under_expr_same y) refl
    under_expr_same (logical node op mark x y) = rw (under_expr_same x, under_expr_same y) refl
    under_expr_same (call node g mark xs) = rw (under_expr_same g, exprs_same xs) refl
    under_expr_same (function node ps b) = stmts_same b

    exprs_same : (es : Exprs) → visits_exprs (exprs_by f es) ≡ visits_exprs es
    exprs_same no_expr = refl
    exprs_same (and_expr e es) = rw (under_expr_same e, exprs_same es) refl

    under_stmt_same : (s : Stmt) → under_stmt (stmt_by f s) ≡ under_stmt s
    under_stmt_same (expression node e) = ap (λ k. 1 + k) (under_expr_same e)
    under_stmt_same (let_only node x) = refl
    under_stmt_same (let_as node x e) = ap (λ k. 1 + k) (under_expr_same e)
    under_stmt_same (block node ss) = stmts_same ss
    under_stmt_same (while node mark e s) = rw (under_expr_same e, under_stmt_same s) refl
    under_stmt_same (classic_for node mark i c n s) = rw (stmts_same i, under_expr_same c, under_expr_same n, under_stmt_same s) refl
    under_stmt_same (for_in node mark e s xs) = rw (under_expr_same e, under_stmt_same s) refl
    under_stmt_same (break node mark) = refl
    under_stmt_same (continue node mark) = refl
    under_stmt_same (return_none node mark) = refl
    under_stmt_same (return node mark e) = ap (λ k. 1 + k) (under_expr_same e)
    under_stmt_same (if node mark e ss es ts) = rw (under_expr_same e, stmts_same ss, elifs_same es, stmts_same ts) refl
    under_stmt_same (try node s x t) = rw (under_stmt_same s, under_stmt_same t) refl
    under_stmt_same (define g) = under_fun_same g
    under_stmt_same (class node x p ms ts) = rw (super_same p, funs_same ms, funs_same ts) refl

    super_same : (p : Super) → visits_super (super_by f p) ≡ visits_super p
    super_same no_super = refl
    super_same (super node x) = refl

    pub stmts_same : (ss : Stmts) → visits_stmts (stmts_by f ss) ≡ visits_stmts ss
    stmts_same no_stmt = refl
    stmts_same (and_stmt s ss) = rw (under_stmt_same s, stmts_same ss) refl

    elifs_same : (es : Elifs) → visits_elifs (elifs_by f es) ≡ visits_elifs es
    elifs_same no_elif = refl
    elifs_same (and_elif e ss es) = rw (under_expr_same e, stmts_same ss, elifs_same es) refl

    under_fun_same : (g : Fun) → under_fun (fun_by f g) ≡ under_fun g
    under_fun_same (fun node x ps b) = stmts_same b

    funs_same : (gs : Funs) → visits_funs (funs_by f gs) ≡ visits_funs gs
    funs_same no_fun = refl
    funs_same (and_fun g gs) = rw (under_fun_same g, funs_same gs) refl
