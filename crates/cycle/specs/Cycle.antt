-- The functions of the cycle, in which statements and expressions are lowered: what each is given and what it promises. A promise is `Does` of the
-- definition's own step, with what it uses: eight words and a local for each node of the syntax tree that is lowered, and the visits as document 02 counts them.
use Rattle.std.specs.Prelude.{ℕ, ◌+◌, ◌-◌, ◌*◌, ◌<◌, ◌≤◌, ◌≡◌, List}
use Rattle.std.proofs.Math.Option.{none, some}
use Rattle.meaning.specs.Fields.{fields}
use Rattle.meaning.specs.At.{Behind, tag_of, word_of, count_of, expr_at, stmt_at, fun_at, exprs_at, stmts_at, funs_at, elifs_at, ExprBelow, StmtBelow, TagBelow}
use Rattle.meaning.specs.Weight.{size_expr, size_exprs, size_stmt, size_stmts, size_elifs, size_fun, size_funs}
use Rattle.meaning.specs.Visits.{under_expr, under_stmt, under_fun, visits_expr, visits_exprs, visits_stmt, visits_stmts, visits_elifs, visits_funs}
use Rattle.meaning.specs.State.{M, Chunk}
use Rattle.meaning.specs.Expressions.{visit_addi, visit_both, visit_binary}
use Rattle.meaning.specs.Functions.{visit_body}
use Rattle.meaning.specs.Lower.{lower_expr, lower_arguments, lower_stmt, lower_stmts, lower_elifs, lower_fun, lower_methods}
use Rattle.forward.specs.Forward.{Config, Run, fwd, fwd_code, fwd_row}
use Rattle.store.specs.declared.Step.{Step}
use Rattle.store.specs.declared.Scope.{Scope}
use Rattle.store.specs.Store.{nodes_of, depth_of, block_of, loops_of, mode_of, wide_of, outcome_of, while_going, Fine}
use Rattle.store.specs.Promise.{Cost, takes, Space, Does}
use Rattle.routines.specs.Pieces.{Small}
use Rattle.nodes.specs.Nodes.{Width}
use Rattle.routines.specs.Node.{Lawful}

-- ---- what is given

-- a lawful tree, and room for k nodes that are still to be lowered, and for a words and b locals beside; a node opens a block and a loop at most
pub record Ready (t w : List ℕ) (p : Scope) (s : Step) (k a b : ℕ) : Type 0 where
  pub lawful : Lawful t w (nodes_of p)
  pub width : Width t (wide_of p)
  pub fine : Fine w p s
  pub room : Space w p s k a b
  pub blocks : block_of p + k ≤ nodes_of p + 1 + depth_of p
  pub loops : loops_of p + k ≤ nodes_of p + 1

-- node i of the tree, under which k nodes stand
pub record Given (t w : List ℕ) (p : Scope) (s : Step) (i k : ℕ) : Type 0 where
  pub ready : Ready t w p s k 0 0
  pub known : i < nodes_of p

-- the same, where node i is an expression: k is the number of its nodes
abbrev pub GivenExpr : (t w : List ℕ) → Scope → Step → (i : ℕ) → Type 0
GivenExpr t w p s i = Given t w p s i (size_expr (expr_at (fields t) i))

-- the same, where node i is a statement
abbrev pub GivenStmt : (t w : List ℕ) → Scope → Step → (i : ℕ) → Type 0
GivenStmt t w p s i = Given t w p s i (size_stmt (stmt_at (fields t) i))

-- any expression: tags 01 to 09
abbrev pub AskExpr : (t w : List ℕ) → Scope → Step → (i : ℕ) → Type 0
AskExpr t w p s i = GivenExpr t w p s i × (0x01 ≤ tag_of (fields t) i) × (tag_of (fields t) i ≤ 0x09)

-- any statement: tags 10 to 1D without 1A
abbrev pub AskStmt : (t w : List ℕ) → Scope → Step → (i : ℕ) → Type 0
AskStmt t w p s i = GivenStmt t w p s i × (0x10 ≤ tag_of (fields t) i) × (tag_of (fields t) i ≤ 0x1D) × (tag_of (fields t) i ≡ 0x1A → ⊥)

-- a function statement, as a statement or a method; eight functions are open at most
abbrev pub AskFun : (t w : List ℕ) → Scope → Step → (i : ℕ) → Type 0
AskFun t w p s i = Given t w p s i (size_fun (fun_at (fields t) i)) × (tag_of (fields t) i ≡ 0x1C) × (depth_of p ≤ 7)

-- the children in the words `from` up to `to` of node i, which stand `skew` places further in the file, and under which k nodes stand
pub record Children (t w : List ℕ) (p : Scope) (s : Step) (i from to skew k a : ℕ) (Below : ℕ → Type 0) : Type 0 where
  pub ready : Ready t w p s k a 0
  pub known : i < nodes_of p
  pub ends : to ≤ count_of (fields t) i
  pub each : (j : ℕ) → from ≤ j → j < to → Below (word_of (fields t) i j)
  pub behind : Behind (fields t) i from skew

-- children that are statements
abbrev pub AskRow : (t w : List ℕ) → Scope → Step → (i from to skew : ℕ) → Type 0
AskRow t w p s i from to skew = Children t w p s i from to skew (size_stmts (stmts_at (fields t) i from to)) 0 (StmtBelow (fields t) i)

-- the elifs of an if
abbrev pub AskElifs : (t w : List ℕ) → Scope → Step → (i from to skew : ℕ) → Type 0
AskElifs t w p s i from to skew = Children t w p s i from to skew (size_elifs (elifs_at (fields t) i from to)) 0 (TagBelow (fields t) 0x1A i)

-- the methods of a class in register `class`
abbrev pub AskMethods : (t w : List ℕ) → Scope → Step → (i from to skew op class : ℕ) → Type 0
AskMethods t w p s i from to skew op class =
    Children t w p s i from to skew (size_funs (funs_at (fields t) i from to)) 0 (TagBelow (fields t) 0x1C i) × (depth_of p ≤ 7) × (op < 256) × (class < 1024) × while_going (outcome_of s) (class + 1 < 255)

-- the arguments of a call, for which registers from `register` on are taken: each is moved to its own, which takes two words
abbrev pub AskArguments : (t w : List ℕ) → Scope → Step → (i register : ℕ) → Type 0
AskArguments t w p s i register =
    Children t w p s i 2 (count_of (fields t) i) (wide_of p) (size_exprs (exprs_at (fields t) i 2 (count_of (fields t) i))) (2 * (count_of (fields t) i - 2)) (ExprBelow (fields t) i)
    × (register ≤ 1024) × while_going (outcome_of s) (register + (count_of (fields t) i - 2) ≤ 255)

-- the body of a function, from word `from` on to the end; it opens a block, and its Return takes two words
abbrev pub AskBody : (t w : List ℕ) → Scope → Step → (i from to skew : ℕ) → Type 0
AskBody t w p s i from to skew =
    Children t w p s i from (count_of (fields t) i) skew (size_stmts (stmts_at (fields t) i from (count_of (fields t) i))) 2 (StmtBelow (fields t) i)
    × (block_of p + 1 + size_stmts (stmts_at (fields t) i from (count_of (fields t) i)) ≤ nodes_of p + 1 + depth_of p) × (from ≤ count_of (fields t) i) × Small s × (to ≡ count_of (fields t) i)

-- ---- what is promised

-- a step that gives a register
pub record Lowers (w o : List ℕ) (p : Scope) (s : Step) (w' o' : List ℕ) (r : Step) (u : Cost) (op : Config → Run) : Type 0 where
  pub does : Does w o p s w' o' p r u op
  pub small : Small r

-- an expression leaves no local behind; the dispatcher counts its visit, so each `visit_` routine promises the same with what is visited under it
abbrev pub UnderExpr : (t : List ℕ) (i : ℕ) (w o : List ℕ) → Scope → Step → (w' o' : List ℕ) → Step → Type 0
UnderExpr t i w o p s w' o' r = Lowers w o p s w' o' r (takes (8 * size_expr (expr_at (fields t) i)) 0 (under_expr (expr_at (fields t) i))) (fwd (lower_expr (mode_of p) (expr_at (fields t) i)))

-- with its own visit
abbrev pub LowersExpr : (t : List ℕ) (i : ℕ) (w o : List ℕ) → Scope → Step → (w' o' : List ℕ) → Step → Type 0
LowersExpr t i w o p s w' o' r = Lowers w o p s w' o' r (takes (8 * size_expr (expr_at (fields t) i)) 0 (visits_expr (expr_at (fields t) i))) (fwd (lower_expr (mode_of p) (expr_at (fields t) i)))

-- a statement, whose locals stay to the end of its block, in the same way
abbrev pub UnderStmt : (t : List ℕ) (i : ℕ) (w o : List ℕ) → Scope → Step → (w' o' : List ℕ) → Step → Type 0
UnderStmt t i w o p s w' o' r =
    Lowers w o p s w' o' r (takes (8 * size_stmt (stmt_at (fields t) i)) (size_stmt (stmt_at (fields t) i)) (under_stmt (stmt_at (fields t) i))) (fwd (lower_stmt (mode_of p) (stmt_at (fields t) i)))

-- with its own visit
abbrev pub LowersStmt : (t : List ℕ) (i : ℕ) (w o : List ℕ) → Scope → Step → (w' o' : List ℕ) → Step → Type 0
LowersStmt t i w o p s w' o' r =
    Lowers w o p s w' o' r (takes (8 * size_stmt (stmt_at (fields t) i)) (size_stmt (stmt_at (fields t) i)) (visits_stmt (stmt_at (fields t) i))) (fwd (lower_stmt (mode_of p) (stmt_at (fields t) i)))

-- a function statement leaves a Closure and its name, whatever its body is; its own visit is counted where it is called
abbrev pub LowersFun : (t : List ℕ) (i : ℕ) (w o : List ℕ) → Scope → Step → (w' o' : List ℕ) → Step → Type 0
LowersFun t i w o p s w' o' r = Lowers w o p s w' o' r (takes 4 1 (under_fun (fun_at (fields t) i))) (fwd (lower_fun (mode_of p) (fun_at (fields t) i)))

-- statements one after the other: the result is the last one's
pub record LowersRow (t : List ℕ) (i from to : ℕ) (w o : List ℕ) (p : Scope) (s : Step) (w' o' : List ℕ) (r : Step) : Type 0 where
  pub does : Does w o p s w' o' p r (takes (8 * size_stmts (stmts_at (fields t) i from to)) (size_stmts (stmts_at (fields t) i from to)) (visits_stmts (stmts_at (fields t) i from to))) (fwd_row (lower_stmts (mode_of p) (stmts_at (fields t) i from to)))
  pub small : Small s → Small r

-- the elifs of an if, which give code alone
abbrev pub LowersElifs : (t : List ℕ) (i from to : ℕ) (w o : List ℕ) → Scope → Step → (w' o' : List ℕ) → Step → Type 0
LowersElifs t i from to w o p s w' o' r =
    Lowers w o p s w' o' r (takes (8 * size_elifs (elifs_at (fields t) i from to)) (size_elifs (elifs_at (fields t) i from to)) (visits_elifs (elifs_at (fields t) i from to))) (fwd_code (lower_elifs (mode_of p) (elifs_at (fields t) i from to)))

-- the methods of a class, whose names pass through the register after `class`
abbrev pub LowersMethods : (t : List ℕ) (i from to mark op class : ℕ) (w o : List ℕ) → Scope → Step → (w' o' : List ℕ) → Step → Type 0
LowersMethods t i from to mark op class w o p s w' o' r =
    Lowers w o p s w' o' r (takes (8 * size_funs (funs_at (fields t) i from to)) (size_funs (funs_at (fields t) i from to)) (visits_funs (funs_at (fields t) i from to))) (fwd_code (lower_methods (mode_of p) (funs_at (fields t) i from to) i mark op class (class + 1)))

-- the arguments of a call, with two words more for each one's Move
abbrev pub LowersArguments : (t : List ℕ) (i register : ℕ) (w o : List ℕ) → Scope → Step → (w' o' : List ℕ) → Step → Type 0
LowersArguments t i register w o p s w' o' r =
    Lowers w o p s w' o' r (takes (8 * size_exprs (exprs_at (fields t) i 2 (count_of (fields t) i)) + 2 * (count_of (fields t) i - 2)) 0 (visits_exprs (exprs_at (fields t) i 2 (count_of (fields t) i)))) (fwd_code (lower_arguments (mode_of p) (exprs_at (fields t) i 2 (count_of (fields t) i)) register))

-- a function's body, with two words more for its Return; its block gives the locals back
abbrev pub LowersBody : (t : List ℕ) (i from : ℕ) (w o : List ℕ) → Scope → Step → (w' o' : List ℕ) → Step → Type 0
LowersBody t i from w o p s w' o' r =
    Does w o p s w' o' p r (takes (8 * size_stmts (stmts_at (fields t) i from (count_of (fields t) i)) + 2) 0 (visits_stmts (stmts_at (fields t) i from (count_of (fields t) i)))) (fwd_code (visit_body i (lower_stmts (mode_of p) (stmts_at (fields t) i from (count_of (fields t) i)))))

-- the binary at node i, lowered by m with v visits under it: one of the three forms below
abbrev pub LowersBinary : (t : List ℕ) (i v : ℕ) (w o : List ℕ) → Scope → Step → (w' o' : List ℕ) → Step → M Chunk → Type 0
LowersBinary t i v w o p s w' o' r m = Lowers w o p s w' o' r (takes (8 * size_expr (expr_at (fields t) i)) 0 v) (fwd m)

-- the visits of the operand that word k of node i names
abbrev pub seen : (t : List ℕ) (i k : ℕ) → ℕ
seen t i k = visits_expr (expr_at (fields t) (word_of (fields t) i k))

-- the lowering of the operand that word k of node i names
abbrev pub operand : Scope → (t : List ℕ) (i k : ℕ) → M Chunk
operand p t i k = lower_expr (mode_of p) (expr_at (fields t) (word_of (fields t) i k))

-- a small number k on the right of Plus, which is not visited
abbrev pub LowersAddi : (t : List ℕ) (i k : ℕ) (w o : List ℕ) → Scope → Step → (w' o' : List ℕ) → Step → Type 0
LowersAddi t i k w o p s w' o' r = LowersBinary t i (seen t i 2) w o p s w' o' r (visit_addi i (word_of (fields t) i 1) k (operand p t i 2))

-- a small number on the left of Minus, whose right side is visited twice; which number it is does not matter, so 0 stands for it
abbrev pub LowersMinus : (t : List ℕ) (i : ℕ) (w o : List ℕ) → Scope → Step → (w' o' : List ℕ) → Step → Type 0
LowersMinus t i w o p s w' o' r =
    LowersBinary t i (seen t i 2 + (seen t i 3 + seen t i 3)) w o p s w' o' r (visit_binary i (word_of (fields t) i 0) (word_of (fields t) i 1) none (some 0) (operand p t i 2) (operand p t i 3))

-- neither
abbrev pub LowersBoth : (t : List ℕ) (i : ℕ) (w o : List ℕ) → Scope → Step → (w' o' : List ℕ) → Step → Type 0
LowersBoth t i w o p s w' o' r = LowersBinary t i (seen t i 2 + seen t i 3) w o p s w' o' r (visit_both i (word_of (fields t) i 0) (word_of (fields t) i 1) (operand p t i 2) (operand p t i 3))
