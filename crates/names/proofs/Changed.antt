-- What a rule makes of a syntax tree and of the lowering's state: names are changed, and nothing else.
use Prim.Native.Nat.{ℕ}
use mathlib.Core.List.{map}
use Rattle.meaning.specs.Constant.{Constant, number, text, other}
use Rattle.meaning.specs.declared.Token.{Token}
use Rattle.meaning.specs.Syntax.{Expr, literal, variable, unary, binary, logical, call, function, Exprs, no_expr, and_expr, Stmt, expression, let_only, let_as, block, while, classic_for, for_in, break, continue, return_none, return, if, try, define, class, Stmts, no_stmt, and_stmt, Elifs, no_elif, and_elif, Fun, fun, Funs, no_fun, and_fun, Super, no_super, super}
use Rattle.meaning.specs.State.{Local, Open, Proto, State, Res, refused, done, Search, not_found, full, found}

module _ (f : ℕ → ℕ) where
  -- ---- syntax

  abbrev pub token_by : Token → Token
  token_by x = record { name = f x.name; mark = x.mark }

  abbrev pub constant_by : Constant → Constant
  constant_by (number b) = number b
  constant_by (text n) = text (f n)
  constant_by (other w) = other w

  abbrev pub super_by : Super → Super
  super_by no_super = no_super
  super_by (super node x) = super node (token_by x)

  unfoldable mutual
    pub expr_by : Expr → Expr
    expr_by (literal node v) = literal node (constant_by v)
    expr_by (variable node x) = variable node (token_by x)
    expr_by (unary node op mark x) = unary node op mark (expr_by x)
    expr_by (binary node op mark x y) = binary node op mark (expr_by x) (expr_by y)
    expr_by (logical node op mark x y) = logical node op mark (expr_by x) (expr_by y)
    expr_by (call node g mark xs) = call node (expr_by g) mark (exprs_by xs)
    expr_by (function node ps b) = function node (map token_by ps) (stmts_by b)

    pub exprs_by : Exprs → Exprs
    exprs_by no_expr = no_expr
    exprs_by (and_expr e es) = and_expr (expr_by e) (exprs_by es)

    pub stmt_by : Stmt → Stmt
    stmt_by (expression node e) = expression node (expr_by e)
    stmt_by (let_only node x) = let_only node (token_by x)
    stmt_by (let_as node x e) = let_as node (token_by x) (expr_by e)
    stmt_by (block node ss) = block node (stmts_by ss)
    stmt_by (while node mark e s) = while node mark (expr_by e) (stmt_by s)
    stmt_by (classic_for node mark i c n s) = classic_for node mark (stmts_by i) (expr_by c) (expr_by n) (stmt_by s)
    stmt_by (for_in node mark e s xs) = for_in node mark (expr_by e) (stmt_by s) (map token_by xs)
    stmt_by (break node mark) = break node mark
    stmt_by (continue node mark) = continue node mark
    stmt_by (return_none node mark) = return_none node mark
    stmt_by (return node mark e) = return node mark (expr_by e)
    stmt_by (if node mark e ss es ts) = if node mark (expr_by e) (stmts_by ss) (elifs_by es) (stmts_by ts)
    stmt_by (try node s x t) = try node (stmt_by s) (token_by x) (stmt_by t)
    stmt_by (define g) = define (fun_by g)
    stmt_by (class node x p ms ts) = class node (token_by x) (super_by p) (funs_by ms) (funs_by ts)

    pub stmts_by : Stmts → Stmts
    stmts_by no_stmt = no_stmt
    stmts_by (and_stmt s ss) = and_stmt (stmt_by s) (stmts_by ss)

    pub elifs_by : Elifs → Elifs
    elifs_by no_elif = no_elif
    elifs_by (and_elif e ss es) = and_elif (expr_by e) (stmts_by ss) (elifs_by es)

    pub fun_by : Fun → Fun
    fun_by (fun node x ps b) = fun node (token_by x) (map token_by ps) (stmts_by b)

    pub funs_by : Funs → Funs
    funs_by no_fun = no_fun
    funs_by (and_fun g gs) = and_fun (fun_by g) (funs_by gs)

  -- ---- the state

  abbrev pub local_by : Local → Local
  local_by l = record { name = f l.name; register = l.register }

  abbrev pub open_by : Open → Open
  open_by g = record { name = f g.name; registers = g.registers; blocks = map (map local_by) g.blocks; captures = g.captures; loops = g.loops }

  abbrev pub proto_by : Proto → Proto
  proto_by p = record { name = f p.name; params = p.params; registers = p.registers; captures = p.captures; code = p.code }

  abbrev pub state_by : State → State
  state_by s = record { constants = map constant_by s.constants; prototypes = map proto_by s.prototypes; globals = map f s.globals; current = open_by s.current; outer = map open_by s.outer }

  -- answers hold no names
  abbrev pub res_by : {A : Type 0} → Res A → Res A
  res_by (refused c p) = refused c p
  res_by (done a s) = done a (state_by s)

  abbrev pub search_by : Search → Search
  search_by not_found = not_found
  search_by full = full
  search_by (found i g gs) = found i (open_by g) (map open_by gs)
