-- The syntax tree (src/expr.rs, src/stmt.rs), for the tags that are kept. Each node carries its node number first, which a refusal names.
-- A list of nodes is a type of its own: antt takes no `List Stmt` inside `Stmt`.
use Rattle.std.specs.Prelude.{ℕ, Bool, true, false, List}
use Rattle.std.proofs.Math.Option.{Option, none, some}
use Rattle.meaning.specs.Constant.{Constant, number, text, other, small}
use Rattle.meaning.specs.declared.Token.{Token}

mutual
  -- enum Expr
  pub data Expr : Type 0 where
    literal : (node : ℕ) → Constant → Expr
    variable : (node : ℕ) → Token → Expr
    unary : (node op mark : ℕ) → Expr → Expr
    binary : (node op mark : ℕ) → Expr → Expr → Expr
    logical : (node op mark : ℕ) → Expr → Expr → Expr
    call : (node : ℕ) → Expr → (mark : ℕ) → Exprs → Expr
    function : (node : ℕ) → List Token → Stmts → Expr

  -- Vec<Expr>
  pub data Exprs : Type 0 where
    no_expr : Exprs
    and_expr : Expr → Exprs → Exprs

  -- enum Stmt
  pub data Stmt : Type 0 where
    expression : (node : ℕ) → Expr → Stmt
    let_only : (node : ℕ) → Token → Stmt
    let_as : (node : ℕ) → Token → Expr → Stmt
    block : (node : ℕ) → Stmts → Stmt
    while : (node mark : ℕ) → Expr → Stmt → Stmt
    classic_for : (node mark : ℕ) → Stmts → Expr → Expr → Stmt → Stmt
    for_in : (node mark : ℕ) → Expr → Stmt → List Token → Stmt
    break : (node mark : ℕ) → Stmt
    continue : (node mark : ℕ) → Stmt
    return_none : (node mark : ℕ) → Stmt
    return : (node mark : ℕ) → Expr → Stmt
    if : (node mark : ℕ) → Expr → Stmts → Elifs → Stmts → Stmt
    try : (node : ℕ) → Stmt → Token → Stmt → Stmt
    define : Fun → Stmt
    class : (node : ℕ) → Token → Super → Funs → Funs → Stmt

  -- Vec<Stmt>; also the initializer of a for: none or one
  pub data Stmts : Type 0 where
    no_stmt : Stmts
    and_stmt : Stmt → Stmts → Stmts

  -- Vec<ElifBranch>
  pub data Elifs : Type 0 where
    no_elif : Elifs
    and_elif : Expr → Stmts → Elifs → Elifs

  -- struct FnStmt
  pub data Fun : Type 0 where
    fun : (node : ℕ) → Token → List Token → Stmts → Fun

  -- Vec<FnStmt>
  pub data Funs : Type 0 where
    no_fun : Funs
    and_fun : Fun → Funs → Funs

  -- Option<VarExpr>
  pub data Super : Type 0 where
    no_super : Super
    super : (node : ℕ) → Token → Super

-- "Number on the right of Plus", "on the left of Minus": which small number an operand is
unfoldable pub small_operand : Expr → Option ℕ
small_operand (literal n (number bits)) = small bits
small_operand (literal n (text x)) = none
small_operand (literal n (other x)) = none
small_operand (variable n x) = none
small_operand (unary n o m x) = none
small_operand (binary n o m x y) = none
small_operand (logical n o m x y) = none
small_operand (call n f m xs) = none
small_operand (function n ps b) = none

-- the same, where the operator has an immediate form
unfoldable pub small_if : Bool → Expr → Option ℕ
small_if true e = small_operand e
small_if false e = none
