-- How much a syntax tree weighs, where a node of tag t weighs `own t`: its number of nodes, where each weighs 1. It bounds what the lowering
-- keeps pending; no answer depends on it.
use Rattle.std.specs.Prelude.{ℕ, ◌+◌}
use Rattle.meaning.specs.Constant.{Constant, number, text, other}
use Rattle.meaning.specs.Syntax.{Expr, literal, variable, unary, binary, logical, call, function, Exprs, no_expr, and_expr, Stmt, expression, let_only, let_as, block, while, classic_for, for_in, break, continue, return_none, return, if, try, define, class, Stmts, no_stmt, and_stmt, Elifs, no_elif, and_elif, Fun, fun, Funs, no_fun, and_fun, Super, no_super, super}

-- the tag of a literal's node
abbrev pub literal_tag : Constant → ℕ
literal_tag (number bits) = 0x01
literal_tag (text x) = 0x02
literal_tag (other x) = 0x03

module _ (own : ℕ → ℕ) where
  -- a superclass: a variable's node, or none
  unfoldable pub weight_super : Super → ℕ
  weight_super no_super = 0
  weight_super (super node x) = own 0x04

  unfoldable mutual
    -- an expression, with all that stands under it
    pub weight_expr : Expr → ℕ
    weight_expr (literal node value) = own (literal_tag value)
    weight_expr (variable node x) = own 0x04
    weight_expr (unary node op mark x) = own 0x05 + weight_expr x
    weight_expr (binary node op mark x y) = own 0x06 + (weight_expr x + weight_expr y)
    weight_expr (logical node op mark x y) = own 0x07 + (weight_expr x + weight_expr y)
    weight_expr (call node f mark xs) = own 0x08 + (weight_expr f + weight_exprs xs)
    weight_expr (function node params body) = own 0x09 + weight_stmts body

    -- the arguments of a call
    pub weight_exprs : Exprs → ℕ
    weight_exprs no_expr = 0
    weight_exprs (and_expr e es) = weight_expr e + weight_exprs es

    -- a statement, with all that stands under it
    pub weight_stmt : Stmt → ℕ
    weight_stmt (expression node e) = own 0x10 + weight_expr e
    weight_stmt (let_only node x) = own 0x11
    weight_stmt (let_as node x e) = own 0x11 + weight_expr e
    weight_stmt (block node ss) = own 0x12 + weight_stmts ss
    weight_stmt (while node mark e s) = own 0x13 + (weight_expr e + weight_stmt s)
    weight_stmt (classic_for node mark i c n s) = own 0x14 + (weight_stmts i + (weight_expr c + (weight_expr n + weight_stmt s)))
    weight_stmt (for_in node mark e s xs) = own 0x15 + (weight_expr e + weight_stmt s)
    weight_stmt (break node mark) = own 0x16
    weight_stmt (continue node mark) = own 0x17
    weight_stmt (return_none node mark) = own 0x18
    weight_stmt (return node mark e) = own 0x18 + weight_expr e
    weight_stmt (if node mark e ss es ts) = own 0x19 + (weight_expr e + (weight_stmts ss + (weight_elifs es + weight_stmts ts)))
    weight_stmt (try node s x t) = own 0x1B + (weight_stmt s + weight_stmt t)
    weight_stmt (define f) = weight_fun f
    weight_stmt (class node x p ms ts) = own 0x1D + (weight_super p + (weight_funs ms + weight_funs ts))

    -- statements one after the other
    pub weight_stmts : Stmts → ℕ
    weight_stmts no_stmt = 0
    weight_stmts (and_stmt s ss) = weight_stmt s + weight_stmts ss

    -- the elifs of an if, each a node of its own
    pub weight_elifs : Elifs → ℕ
    weight_elifs no_elif = 0
    weight_elifs (and_elif e ss es) = own 0x1A + (weight_expr e + weight_stmts ss) + weight_elifs es

    -- a function statement; parameters are no nodes
    pub weight_fun : Fun → ℕ
    weight_fun (fun node x params body) = own 0x1C + weight_stmts body

    -- the methods of a class
    pub weight_funs : Funs → ℕ
    weight_funs no_fun = 0
    weight_funs (and_fun f fs) = weight_fun f + weight_funs fs

-- ---- the number of nodes

-- every tag weighs 1
abbrev pub each_one : ℕ → ℕ
each_one t = 1

-- the nodes of an expression, itself counted
abbrev pub size_expr : Expr → ℕ
size_expr e = weight_expr each_one e

-- of the arguments of a call
abbrev pub size_exprs : Exprs → ℕ
size_exprs es = weight_exprs each_one es

-- of a statement, itself counted
abbrev pub size_stmt : Stmt → ℕ
size_stmt s = weight_stmt each_one s

-- of statements one after the other
abbrev pub size_stmts : Stmts → ℕ
size_stmts ss = weight_stmts each_one ss

-- of the elifs of an if
abbrev pub size_elifs : Elifs → ℕ
size_elifs es = weight_elifs each_one es

-- of a function statement, itself counted
abbrev pub size_fun : Fun → ℕ
size_fun f = weight_fun each_one f

-- of the methods of a class
abbrev pub size_funs : Funs → ℕ
size_funs fs = weight_funs each_one fs

-- of a superclass: 1, or 0 where there is none
abbrev pub size_super : Super → ℕ
size_super p = weight_super each_one p
