-- The one induction over the lowering, and a whole program: every prototype is finished.
-- The idea: the clauses of `lower_expr` and its siblings (Lower.antt) again, each answered by its visitor's law.
use Prim.Native.Nat.{ℕ, ◌+◌, ◌≤◌, ◌<◌}
use mathlib.Core.Path.{◌≡◌, ap, ◌∙◌, subst}
use mathlib.Core.List.{List, [], ◌∷◌}
use native.Mathlib.Omega.{arith}
use lib.ListN.{length, length-append}
use Rattle.meaning.specs.Syntax.{Expr, literal, variable, unary, binary, logical, call, function, Exprs, no_expr, and_expr, Stmt, expression, let_only, let_as, block, while, classic_for, for_in, break, continue, return_none, return, if, try, define, class, Stmts, no_stmt, and_stmt, Elifs, no_elif, and_elif, Fun, fun, Funs, no_fun, and_fun}
use Rattle.meaning.specs.State.{State, Proto, Chunk, M, done, ◌>>=◌, add_prototype}
use Rattle.meaning.specs.Chunk.{joined}
use Rattle.meaning.specs.Lower.{arguments, row, lower_expr, lower_arguments, lower_stmt, lower_stmts, lower_elifs, lower_fun, lower_methods, start, lower_program}
use Rattle.meaning.proofs.Safe.Sound.{Pools, Sound, OnDone, Gives, Always, then_done, on_done, bind, by_pure, weaken, Code, Good, Loose, Row, loose, loose_more, row_sane}
use Rattle.meaning.proofs.Safe.Brackets.{Added, prototype_done}
use Rattle.meaning.proofs.Safe.Expressions.{literal_good, variable_good, unary_good, binary_good, logical_good, call_good, argument_good}
use Rattle.meaning.proofs.Safe.Functions.{function_good, fun_good}
use Rattle.meaning.proofs.Safe.Statements.{let_as_good, let_only_good, block_good, while_good, for_good, for_in_good, break_good, continue_good, return_good, return_none_good, if_good, elif_good, try_good, Three, method_good, class_good}

-- an expression as a statement
expr_loose : {m : M Chunk} → Always m Good → Always m Loose
expr_loose h s σ = weaken (h s σ) (λ c t g p. loose c _ p)

row_good : {x : M Chunk} {xs : M (List Chunk)} → Always x Loose → Always xs Row → Always (row x xs) Row
unfolding row
row_good hx hxs s σ = bind (hx s σ) λ c t τ g p. bind (hxs t τ) λ cs u υ g' q. by_pure _ υ (loose_more c t u g' p, q)

module _ (mode : ℕ) where
  mutual
    unfolding lower_expr

    pub expr_good : (e : Expr) → Always (lower_expr mode e) Good
    expr_good (literal node v) = literal_good node v
    expr_good (variable node x) = variable_good node x
    expr_good (unary node op mark x) = unary_good node op mark (expr_good x)
    expr_good (binary node op mark x y) = binary_good node op mark _ _ (expr_good x) (expr_good y)
    expr_good (logical node op mark x y) = logical_good node op mark (expr_good x) (expr_good y)
    expr_good (call node f mark xs) = call_good node mark (arguments xs) (expr_good f) (λ r t τ h. arguments_good xs r t τ h)
    expr_good (function node ps b) = function_good node ps (stmts_good b)

    pub arguments_good : (es : Exprs) (r : ℕ) (s : State) → Sound s → r + arguments es ≤ s.current.registers → Gives (lower_arguments mode es r) s Code
    arguments_good no_expr r s σ h = by_pure _ σ tt
    arguments_good (and_expr e es) r s σ h = argument_good r s σ (omega arith) (expr_good e) (λ t τ g. arguments_good es (r + 1) t τ (omega (arith, g.wider.registers)))

    pub stmt_good : (st : Stmt) → Always (lower_stmt mode st) Loose
    stmt_good (expression node e) = expr_loose (expr_good e)
    stmt_good (let_only node x) = let_only_good node x
    stmt_good (let_as node x e) = let_as_good node x (expr_good e)
    stmt_good (block node ss) = block_good (stmts_good ss)
    stmt_good (while node mark e b) = while_good node mark (expr_good e) (stmt_good b)
    stmt_good (classic_for node mark i c n b) = for_good mode node mark (stmts_good i) (expr_good c) (expr_good n) (stmt_good b)
    stmt_good (for_in node mark e b xs) = for_in_good mode node mark xs (expr_good e) (stmt_good b)
    stmt_good (break node mark) = break_good node mark
    stmt_good (continue node mark) = continue_good node mark
    stmt_good (return_none node mark) = return_none_good mark
    stmt_good (return node mark e) = return_good node mark (expr_good e)
    stmt_good (if node mark e ss es ts) = if_good node mark (expr_good e) (stmts_good ss) (elifs_good es) (stmts_good ts)
    stmt_good (try node b x c) = try_good node x (stmt_good b) (stmt_good c)
    stmt_good (define f) = expr_loose (fun_stmt_good f)
    stmt_good (class node x p ms ts) =
        expr_loose
        (class_good node x p (λ op r tmp e t τ h k. funs_good ms node x.mark op r tmp e t τ h k) (λ op r tmp e t τ h k. funs_good ts node x.mark op r tmp e t τ h k))

    pub stmts_good : (ss : Stmts) → Always (lower_stmts mode ss) Row
    stmts_good no_stmt = λ s σ. by_pure _ σ tt
    stmts_good (and_stmt st ss) = row_good (stmt_good st) (stmts_good ss)

    pub elifs_good : (es : Elifs) → Always (lower_elifs mode es) Code
    elifs_good no_elif = λ s σ. by_pure _ σ tt
    elifs_good (and_elif e ss es) = elif_good (expr_good e) (stmts_good ss) (elifs_good es)

    pub fun_stmt_good : (f : Fun) → Always (lower_fun mode f) Good
    fun_stmt_good (fun node x ps b) = fun_good node x ps (stmts_good b)

    pub funs_good : (fs : Funs) (node mark op result tmp : ℕ) → Three op → (s : State) → Sound s → result < s.current.registers → tmp < s.current.registers
        → Gives (lower_methods mode fs node mark op result tmp) s Code
    funs_good no_fun node mark op result tmp e s σ h k = by_pure _ σ tt
    funs_good (and_fun f fs) node mark op result tmp e s σ h k =
        method_good node mark op result tmp _ e s σ h k (fun_stmt_good f)
        (λ t τ g. funs_good fs node mark op result tmp e t τ (omega (arith, g.wider.registers)) (omega (arith, g.wider.registers)))

-- ---- a whole program

start_sound : Sound start
start_sound = record { locals = (tt, tt); chain = tt; pools = record { few_constants = omega arith; few_prototypes = omega arith; protos = tt } }

-- the last prototype is the program's own; at most 1,024 constants, at most 256 prototypes, and every one is finished
pub record Whole (main : ℕ) (t : State) : Type 0 where
  pub last : length t.prototypes ≡ main + 1
  pub pools : Pools t.constants t.prototypes

added_whole : (u v : State) (i : ℕ) → Added u v i → Whole i v
added_whole u v i w =
    let n = ap (λ (l : List Proto). length l) w.prototypes ∙ length-append u.prototypes (w.proto ∷ []) in
    let index = w.index in
    record { last = omega (arith, n, index); pools = w.pools }

program_done : (mode node : ℕ) (ss : Stmts) → OnDone Whole (lower_program mode node ss)
unfolding lower_program ◌>>=◌
program_done mode node ss =
    then_done _ _ (lower_stmts mode ss start) _ (stmts_good mode ss start start_sound).at λ cs t k.
    on_done _ _ (add_prototype node 0 (joined cs) t) (prototype_done node 0 (joined cs) t k.0 k.1.loops (row_sane cs _ k.2)) (λ i v w. added_whole t v i w)

pub program_whole : (mode node : ℕ) (ss : Stmts) (i : ℕ) (t : State) → lower_program mode node ss ≡ done i t → Whole i t
program_whole mode node ss i t e = subst (OnDone Whole) e (program_done mode node ss)
