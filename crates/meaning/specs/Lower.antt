-- The lowering: `accept` of every node, and a whole program.
use Rattle.std.specs.Prelude.{ℕ, zero, suc, ◌+◌, List, [], ◌∷◌, eqb}
use Rattle.meaning.specs.Opcode.{plus, minus, jmp_break, jmp_continue}
use Rattle.meaning.specs.Syntax.{Expr, literal, variable, unary, binary, logical, call, function, Exprs, no_expr, and_expr, Stmt, expression, let_only, let_as, block, while, classic_for, for_in, break, continue, return_none, return, if, try, define, class, Stmts, no_stmt, and_stmt, Elifs, no_elif, and_elif, Fun, fun, Funs, no_fun, and_fun, small_if}
use Rattle.meaning.specs.State.{State, Chunk, M, Res, ◌>>=◌, ◌>>◌, pure, add_prototype, fresh}
use Rattle.meaning.specs.Chunk.{joined}
use Rattle.meaning.specs.Expressions.{visit_literal, visit_variable, visit_unary, visit_binary, visit_logical, visit_call, visit_argument}
use Rattle.meaning.specs.Functions.{visit_function, visit_fun, no_name}
use Rattle.meaning.specs.Statements.{visit_let_as, visit_let_only, visit_block, visit_while, visit_classic_for, visit_for_in, visit_jump, visit_return, visit_return_none, visit_if, visit_elif, visit_try, visit_method, visit_class}
use Rattle.meaning.specs.declared.Instruction.{Instruction}

-- expr.arguments.len()
abbrev pub arguments : Exprs → ℕ
arguments no_expr = zero
arguments (and_expr e es) = suc (arguments es)

-- the name of a method, which visit_class_stmt stores as a constant
unfoldable pub fun_name : Fun → ℕ
fun_name (fun node x params body) = x.name

-- two steps, one row
unfoldable pub row : M Chunk → M (List Chunk) → M (List Chunk)
row first others = do
  c ← first
  cs ← others
  pure (c ∷ cs)

module _ (mode : ℕ) where
  unfoldable mutual
    -- impl ExprAcceptor for Expr
    pub lower_expr : Expr → M Chunk
    lower_expr (literal node value) = visit_literal node value
    lower_expr (variable node x) = visit_variable node x
    lower_expr (unary node op mark x) = visit_unary node op mark (lower_expr x)
    lower_expr (binary node op mark x y) = visit_binary node op mark (small_if (eqb op plus) y) (small_if (eqb op minus) x) (lower_expr x) (lower_expr y)
    lower_expr (logical node op mark x y) = visit_logical node op mark (lower_expr x) (lower_expr y)
    lower_expr (call node f mark xs) = visit_call node mark (arguments xs) (lower_expr f) (λ start. lower_arguments xs start)
    lower_expr (function node params body) = visit_function node params (lower_stmts body)

    -- the arguments of a call, each moved to its register: the first to `register`, the next to the one after
    pub lower_arguments : Exprs → ℕ → M (List Instruction)
    lower_arguments no_expr register = pure []
    lower_arguments (and_expr e es) register = visit_argument register (lower_expr e) (lower_arguments es (register + 1))

    -- impl StmtAcceptor for Stmt
    pub lower_stmt : Stmt → M Chunk
    lower_stmt (expression node e) = lower_expr e
    lower_stmt (let_only node x) = visit_let_only node x
    lower_stmt (let_as node x e) = visit_let_as node x (lower_expr e)
    lower_stmt (block node ss) = visit_block (lower_stmts ss)
    lower_stmt (while node mark e s) = visit_while node mark (lower_expr e) (lower_stmt s)
    lower_stmt (classic_for node mark i c n s) = visit_classic_for mode node mark (lower_stmts i) (lower_expr c) (lower_expr n) (lower_stmt s)
    lower_stmt (for_in node mark e s xs) = visit_for_in mode node mark xs (lower_expr e) (lower_stmt s)
    lower_stmt (break node mark) = visit_jump node jmp_break mark
    lower_stmt (continue node mark) = visit_jump node jmp_continue mark
    lower_stmt (return_none node mark) = visit_return_none mark
    lower_stmt (return node mark e) = visit_return node mark (lower_expr e)
    lower_stmt (if node mark e ss es ts) = visit_if node mark (lower_expr e) (lower_stmts ss) (lower_elifs es) (lower_stmts ts)
    lower_stmt (try node s x t) = visit_try node x (lower_stmt s) (lower_stmt t)
    lower_stmt (define f) = lower_fun f
    lower_stmt (class node x p ms ts) = visit_class node x p (λ op result tmp. lower_methods ms node x.mark op result tmp) (λ op result tmp. lower_methods ts node x.mark op result tmp)

    -- statements one after the other: a chunk of each
    pub lower_stmts : Stmts → M (List Chunk)
    lower_stmts no_stmt = pure []
    lower_stmts (and_stmt s ss) = row (lower_stmt s) (lower_stmts ss)

    -- the elifs of an if, one after the other
    pub lower_elifs : Elifs → M (List Instruction)
    lower_elifs no_elif = pure []
    lower_elifs (and_elif e ss es) = visit_elif (lower_expr e) (lower_stmts ss) (lower_elifs es)

    -- a function statement, as a statement or as a method
    pub lower_fun : Fun → M Chunk
    lower_fun (fun node x params body) = visit_fun node x params (lower_stmts body)

    -- the methods of the class at `node`: the class is in register `result`, each name passes through `tmp`
    pub lower_methods : Funs → (node mark op result tmp : ℕ) → M (List Instruction)
    lower_methods no_fun node mark op result tmp = pure []
    lower_methods (and_fun f fs) node mark op result tmp = visit_method node mark op result tmp (fun_name f) (lower_fun f) (lower_methods fs node mark op result tmp)

-- ---- a whole program: `compile` on a fresh compiler, then `leave_function` with 0 parameters

-- a fresh compiler in which `compile` has pushed the main function's context
abbrev pub start : State
start = record { constants = []; prototypes = []; globals = []; current = fresh no_name; outer = [] }

-- the statements of the program at `node`: the main prototype's index, or a refusal
unfoldable pub lower_program : (mode node : ℕ) → Stmts → Res ℕ
lower_program mode node stmts = (do
  cs ← lower_stmts mode stmts
  add_prototype node 0 (joined cs)) start
