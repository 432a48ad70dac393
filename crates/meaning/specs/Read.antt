-- From checked fields to the syntax tree, tag by tag as 01's table has them.
use Rattle.std.specs.Prelude.{ℕ, zero, suc, ◌+◌, ◌-◌, ◌*◌, cond, List, [], ◌∷◌, get_or, take, drop, length, eqb}
use Rattle.meaning.specs.Fields.{Field, field_at}
use Rattle.meaning.specs.Grammar.{absent, wide_marks, words_of}
use Rattle.meaning.specs.Constant.{number, text, other}
use Rattle.meaning.specs.declared.Token.{Token}
use Rattle.meaning.specs.Syntax.{Expr, literal, variable, unary, binary, logical, call, function, Exprs, no_expr, and_expr, Stmt, expression, let_only, let_as, block, while, classic_for, for_in, break, continue, return_none, return, if, try, define, class, Stmts, no_stmt, and_stmt, Elifs, no_elif, and_elif, Fun, fun, Funs, no_fun, and_fun, Super, no_super, super}

-- word i of a payload
abbrev pub at : List ℕ → ℕ → ℕ
at ws i = get_or ws i 0

-- a pair n m: a name with its mark
abbrev pub token : ℕ → ℕ → Token
token n m = record { name = n; mark = m }

-- pairs n m
abbrev pub tokens : List ℕ → List Token
tokens [] = []
tokens (n ∷ []) = []
tokens (n ∷ m ∷ ws) = token n m ∷ tokens ws

-- what reads a node's children, by node number
pub record Readers : Type 0 where
  pub expr : ℕ → Expr
  pub stmt : ℕ → Stmt
  pub fun : ℕ → Fun
  -- a superclass
  pub variable : ℕ → Super
  -- an elif, put before those that follow it
  pub elif : ℕ → Elifs → Elifs

-- a row of children that are expressions
abbrev pub exprs : Readers → List ℕ → Exprs
exprs r [] = no_expr
exprs r (c ∷ cs) = and_expr (r.expr c) (exprs r cs)

-- the same of statements
abbrev pub stmts : Readers → List ℕ → Stmts
stmts r [] = no_stmt
stmts r (c ∷ cs) = and_stmt (r.stmt c) (stmts r cs)

-- the same of function statements, as methods
abbrev pub funs : Readers → List ℕ → Funs
funs r [] = no_fun
funs r (c ∷ cs) = and_fun (r.fun c) (funs r cs)

-- the same of elifs, each put before those that follow it
abbrev pub elifs : Readers → List ℕ → Elifs
elifs r [] = no_elif
elifs r (c ∷ cs) = r.elif c (elifs r cs)

-- the 64 bits of a number
abbrev pub bits : List ℕ → ℕ
bits ws = ((at ws 0 * 65536 + at ws 1) * 65536 + at ws 2) * 65536 + at ws 3

-- what stands where no node is
abbrev pub no_expression : Expr
no_expression = literal 0 (other 0)

-- a reader of one tag's payload, given the node's number
abbrev pub Reader : Type 0 → Type 0
Reader A = Readers → (node : ℕ) → List ℕ → A

-- tags 00 to 09
abbrev pub expr_readers : List (Reader Expr)
expr_readers =
    (λ r i ws. no_expression)
    ∷ (λ r i ws. literal i (number (bits ws)))
    ∷ (λ r i ws. literal i (text (at ws 0)))
    ∷ (λ r i ws. literal i (other (at ws 0)))
    ∷ (λ r i ws. variable i (token (at ws 0) (at ws 1)))
    ∷ (λ r i ws. unary i (at ws 0) (at ws 1) (r.expr (at ws 2)))
    ∷ (λ r i ws. binary i (at ws 0) (at ws 1) (r.expr (at ws 2)) (r.expr (at ws 3)))
    ∷ (λ r i ws. logical i (at ws 0) (at ws 1) (r.expr (at ws 2)) (r.expr (at ws 3)))
    ∷ (λ r i ws. call i (r.expr (at ws 0)) (at ws 1) (exprs r (drop 2 ws)))
    ∷ (λ r i ws. function i (tokens (take (2 * at ws 0) (drop 1 ws))) (stmts r (drop (1 + 2 * at ws 0) ws)))
    ∷ []

-- an expression by its tag
abbrev pub read_expr : Readers → (node tag : ℕ) → List ℕ → Expr
read_expr r i tag ws = get_or expr_readers tag (λ r i ws. no_expression) r i ws

-- a for's initializer: none or one
abbrev pub initializer : Readers → ℕ → Stmts
initializer r c = cond (absent c) no_stmt (and_stmt (r.stmt c) no_stmt)

-- a superclass: none or a variable
abbrev pub superclass : Readers → ℕ → Super
superclass r c = cond (absent c) no_super (r.variable c)

-- a let, by how many words it has
abbrev pub read_let : Readers → (node : ℕ) → List ℕ → Stmt
read_let r i ws = cond (eqb (length ws) 2) (let_only i (token (at ws 0) (at ws 1))) (let_as i (token (at ws 0) (at ws 1)) (r.expr (at ws 2)))

-- a return, by how many words it has
abbrev pub read_return : Readers → (node : ℕ) → List ℕ → Stmt
read_return r i ws = cond (eqb (length ws) 1) (return_none i (at ws 0)) (return i (at ws 0) (r.expr (at ws 1)))

-- an if with t statements and e elifs
abbrev pub read_if : (t e : ℕ) → Readers → (node : ℕ) → List ℕ → Stmt
read_if t e r i ws = if i (at ws 0) (r.expr (at ws 1)) (stmts r (take t (drop 3 ws))) (elifs r (take e (drop (4 + t) ws))) (stmts r (drop (4 + t + e) ws))

-- tag 1C
abbrev pub read_fun : Readers → (node : ℕ) → List ℕ → Fun
read_fun r i ws = fun i (token (at ws 0) (at ws 1)) (tokens (take (2 * at ws 2) (drop 3 ws))) (stmts r (drop (3 + 2 * at ws 2) ws))

-- the same as a statement, also for tag 1A: an elif is no statement
abbrev pub no_statement : Stmt
no_statement = expression 0 no_expression

-- tags 10 to 1D
abbrev pub stmt_readers : List (Reader Stmt)
stmt_readers =
    (λ r i ws. expression i (r.expr (at ws 0)))
    ∷ read_let
    ∷ (λ r i ws. block i (stmts r ws))
    ∷ (λ r i ws. while i (at ws 0) (r.expr (at ws 1)) (r.stmt (at ws 2)))
    ∷ (λ r i ws. classic_for i (at ws 0) (initializer r (at ws 1)) (r.expr (at ws 2)) (r.expr (at ws 3)) (r.stmt (at ws 4)))
    ∷ (λ r i ws. for_in i (at ws 0) (r.expr (at ws 1)) (r.stmt (at ws 2)) (tokens (drop 3 ws)))
    ∷ (λ r i ws. break i (at ws 0))
    ∷ (λ r i ws. continue i (at ws 0))
    ∷ read_return
    ∷ (λ r i ws. read_if (at ws 2) (at ws (3 + at ws 2)) r i ws)
    ∷ (λ r i ws. no_statement)
    ∷ (λ r i ws. try i (r.stmt (at ws 0)) (token (at ws 1) (at ws 2)) (r.stmt (at ws 3)))
    ∷ (λ r i ws. define (read_fun r i ws))
    ∷ (λ r i ws. class i (token (at ws 0) (at ws 1)) (superclass r (at ws 2)) (funs r (take (at ws 3) (drop 4 ws))) (funs r (drop (4 + at ws 3) ws)))
    ∷ []

-- a statement by its tag
abbrev pub read_stmt : Readers → (node tag : ℕ) → List ℕ → Stmt
read_stmt r i tag ws = get_or stmt_readers (tag - 0x10) (λ r i ws. no_statement) r i ws

-- the words of node i
abbrev pub words_at : List Field → ℕ → List ℕ
words_at fs i = words_of (wide_marks fs) (field_at fs i)

-- the readers of nodes below `fuel`: children stand below their node, so a node's number is fuel enough for its children
unfoldable pub readers : List Field → (fuel : ℕ) → Readers
readers fs zero = record { expr = λ i. no_expression; stmt = λ i. no_statement; fun = λ i. fun i (token 0 0) [] no_stmt; variable = λ i. no_super; elif = λ i es. es }
readers fs (suc f) =
    let r = readers fs f in
    record {
      expr = λ i. read_expr r i (field_at fs i).tag (words_at fs i);
      stmt = λ i. read_stmt r i (field_at fs i).tag (words_at fs i);
      fun = λ i. read_fun r i (words_at fs i);
      variable = λ i. super i (token (at (words_at fs i) 0) (at (words_at fs i) 1));
      elif = λ i es. and_elif (r.expr (at (words_at fs i) 0)) (stmts r (drop 1 (words_at fs i))) es;
    }

-- the statements of the program, which is the last node
unfoldable pub read_program : List Field → Stmts
read_program fs = stmts (readers fs (length fs - 1)) (words_at fs (length fs - 1))
