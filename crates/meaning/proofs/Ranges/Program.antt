-- The one induction over the lowering, and a whole program: what is lowered from a tree that fits, fits.
-- The idea: the clauses of `lower_expr` and its siblings (Lower.antt) again, each answered by its visitor's law.
use Prim.Native.Nat.{ℕ, ◌+◌, ◌≤◌, ◌<◌}
use mathlib.Core.Path.{◌≡◌, subst}
use mathlib.Core.Bool.{Bool, true, false}
use mathlib.Core.Option.{some}
use native.Mathlib.Omega.{arith}
use lib.Dec.{eqb}
use lib.IntN.{pos}
use lib.Ieee.{Float, fin, eq, to_unsigned}
use lib.Ieee.Casts.{to_unsigned-lt}
use Rattle.meaning.specs.Opcode.{no_mark, plus, jmp_break, jmp_continue}
use Rattle.meaning.specs.Constant.{number, text, other, small_value, small}
use Rattle.meaning.specs.Syntax.{Expr, literal, variable, unary, binary, logical, call, function, Exprs, no_expr, and_expr, Stmt, expression, let_only, let_as, block, while, classic_for, for_in, break, continue, return_none, return, if, try, define, class, Stmts, no_stmt, and_stmt, Elifs, no_elif, and_elif, Fun, fun, Funs, no_fun, and_fun, small_operand, small_if}
use Rattle.meaning.specs.State.{State, done, ◌>>=◌, add_prototype}
use Rattle.meaning.specs.Chunk.{joined}
use Rattle.meaning.specs.Lower.{arguments, fun_name, lower_expr, lower_arguments, lower_stmt, lower_stmts, lower_elifs, lower_fun, lower_methods, start, lower_program}
use Rattle.meaning.proofs.Grows.{cond_either}
use Rattle.meaning.proofs.Safe.Lookup.{Maybe}
use Rattle.meaning.proofs.Safe.Sound.{OnDone, then_done, on_done}
use Rattle.meaning.proofs.Ranges.Fits.{Written, Ranged, ExprFits, ExprsFit, StmtFits, StmtsFit, ElifsFit, FunFits, FunsFit}
use Rattle.meaning.proofs.Ranges.Steps.{Held, by_pure, prototype_held}
use Rattle.meaning.proofs.Ranges.Code.{joined_fits}
use Rattle.meaning.proofs.Ranges.Visitors.{Chunks, Codes, Rows, literal_fits, variable_fits, unary_fits, binary_fits, logical_fits, call_fits, argument_fits, function_fits, fun_fits, let_as_fits, let_only_fits, block_fits, while_fits, for_fits, for_in_fits, jump_fits, return_fits, return_none_fits, if_fits, elif_fits, try_stmt_fits, method_fits, class_fits, row_fits}

-- ---- a small number is a byte

value_below : (x : Float) → Maybe 256 (small_value x)
unfolding small_value
value_below x = cond_either (Maybe 256) (eq x (fin false (to_unsigned 8 x) (pos 0))) {x = some (to_unsigned 8 x)} (let h = to_unsigned-lt 8 x in omega (arith, h)) tt

operand_below : (e : Expr) → Maybe 256 (small_operand e)
unfolding small_operand small
operand_below (literal n (number bits)) = value_below _
operand_below (literal n (text x)) = tt
operand_below (literal n (other x)) = tt
operand_below (variable n x) = tt
operand_below (unary n o m x) = tt
operand_below (binary n o m x y) = tt
operand_below (logical n o m x y) = tt
operand_below (call n f m xs) = tt
operand_below (function n ps b) = tt

small_below : (b : Bool) (e : Expr) → Maybe 256 (small_if b e)
unfolding small_if
small_below true e = operand_below e
small_below false e = tt

-- ---- the recursion

module _ (Marks : ℕ → Type 0) (absent : Marks no_mark) (mode : ℕ) where
  name_fits : (f : Fun) → FunFits Marks f → fun_name f < 65536
  unfolding fun_name ExprFits
  name_fits (fun node x ps b) h = h.0.name

  mutual
    unfolding lower_expr ExprFits

    pub expr_fits : (e : Expr) → ExprFits Marks e → Chunks Marks absent (lower_expr mode e)
    expr_fits (literal node v) h = literal_fits Marks absent node v h
    expr_fits (variable node x) h = variable_fits Marks absent node x h
    expr_fits (unary node op mark x) h = unary_fits Marks absent node op mark h.0 (expr_fits x h.1)
    expr_fits (binary node op mark x y) h = binary_fits Marks absent node op mark _ _ h.0 (small_below (eqb op plus) y) (expr_fits x h.1) (expr_fits y h.2)
    expr_fits (logical node op mark x y) h = logical_fits Marks absent node op mark h.0 (expr_fits x h.1) (expr_fits y h.2)
    expr_fits (call node f mark xs) h = call_fits Marks absent node mark (arguments xs) h.0 (expr_fits f h.1) (λ r l. arguments_fit xs r h.2 l)
    expr_fits (function node ps b) h = function_fits Marks absent node ps h.0 (stmts_fit b h.1)

    pub arguments_fit : (es : Exprs) (r : ℕ) → ExprsFit Marks es → r + arguments es ≤ 255 → Codes Marks absent (lower_arguments mode es r)
    arguments_fit no_expr r h l = λ s σ. by_pure _ σ tt
    arguments_fit (and_expr e es) r h l = argument_fits Marks absent r (omega arith) (expr_fits e h.0) (arguments_fit es (r + 1) h.1 (omega arith))

    pub stmt_fits : (st : Stmt) → StmtFits Marks st → Chunks Marks absent (lower_stmt mode st)
    stmt_fits (expression node e) h = expr_fits e h
    stmt_fits (let_only node x) h = let_only_fits Marks absent node x h
    stmt_fits (let_as node x e) h = let_as_fits Marks absent node x h.0 (expr_fits e h.1)
    stmt_fits (block node ss) h = block_fits Marks absent (stmts_fit ss h)
    stmt_fits (while node mark e b) h = while_fits Marks absent node mark h.0 (expr_fits e h.1) (stmt_fits b h.2)
    stmt_fits (classic_for node mark i c n b) h = for_fits Marks absent mode node mark h.0 (stmts_fit i h.1) (expr_fits c h.2) (expr_fits n h.3) (stmt_fits b h.4)
    stmt_fits (for_in node mark e b xs) h = for_in_fits Marks absent mode node mark xs h.0 (expr_fits e h.1) (stmt_fits b h.2)
    stmt_fits (break node mark) h = jump_fits Marks absent node jmp_break mark h (omega arith)
    stmt_fits (continue node mark) h = jump_fits Marks absent node jmp_continue mark h (omega arith)
    stmt_fits (return_none node mark) h = return_none_fits Marks absent mark h
    stmt_fits (return node mark e) h = return_fits Marks absent node mark h.0 (expr_fits e h.1)
    stmt_fits (if node mark e ss es ts) h = if_fits Marks absent node mark h.0 (expr_fits e h.1) (stmts_fit ss h.2) (elifs_fit es h.3) (stmts_fit ts h.4)
    stmt_fits (try node b x c) h = try_stmt_fits Marks absent node x h.1 (stmt_fits b h.0) (stmt_fits c h.2)
    stmt_fits (define f) h = fun_stmt_fits f h
    stmt_fits (class node x p ms ts) h =
        class_fits Marks absent node x p h.0 h.1
        (λ op r tmp w l k. funs_fit ms node x.mark op r tmp h.2 h.0.mark w l k) (λ op r tmp w l k. funs_fit ts node x.mark op r tmp h.3 h.0.mark w l k)

    pub stmts_fit : (ss : Stmts) → StmtsFit Marks ss → Rows Marks absent (lower_stmts mode ss)
    stmts_fit no_stmt h = λ s σ. by_pure _ σ tt
    stmts_fit (and_stmt st ss) h = row_fits Marks absent (stmt_fits st h.0) (stmts_fit ss h.1)

    pub elifs_fit : (es : Elifs) → ElifsFit Marks es → Codes Marks absent (lower_elifs mode es)
    elifs_fit no_elif h = λ s σ. by_pure _ σ tt
    elifs_fit (and_elif e ss es) h = elif_fits Marks absent (expr_fits e h.0) (stmts_fit ss h.1) (elifs_fit es h.2)

    pub fun_stmt_fits : (f : Fun) → FunFits Marks f → Chunks Marks absent (lower_fun mode f)
    fun_stmt_fits (fun node x ps b) h = fun_fits Marks absent node x ps h.0 (stmts_fit b h.2)

    pub funs_fit : (fs : Funs) (node mark op result tmp : ℕ) → FunsFit Marks fs → Marks mark → Written op → result < 255 → tmp < 255 → Codes Marks absent (lower_methods mode fs node mark op result tmp)
    funs_fit no_fun node mark op result tmp h hm w l k = λ s σ. by_pure _ σ tt
    funs_fit (and_fun f fs) node mark op result tmp h hm w l k =
        method_fits Marks absent node mark op result tmp _ hm w l k (name_fits f h.0) (fun_stmt_fits f h.0) (funs_fit fs node mark op result tmp h.1 hm w l k)

  -- ---- a whole program

  start_held : Held Marks start
  start_held =
      record {
        inner = record { name = omega arith; registers = omega arith; locals = (tt, tt); captures = tt; few = omega arith };
        around_it = tt;
        pools = record { few_constants = omega arith; fitting = tt; few_prototypes = omega arith; finished = tt };
      }

  program_done : (node : ℕ) (ss : Stmts) → StmtsFit Marks ss → OnDone (λ i t. Ranged Marks t) (lower_program mode node ss)
  unfolding lower_program ◌>>=◌
  program_done node ss h =
      then_done _ _ (lower_stmts mode ss start) _ (stmts_fit ss h start start_held).at λ cs t k.
      on_done _ _ (add_prototype node 0 (joined cs) t) (prototype_held absent node 0 (joined cs) (joined_fits Marks cs k.1, omega arith) t k.0) λ i v w.
      let n = w.1 in
      let p = w.0.pools in
      record { some_prototypes = omega (arith, n); few_prototypes = p.few_prototypes; prototypes = p.finished; few_constants = p.few_constants; constants = p.fitting }

  pub program_ranged : (node : ℕ) (ss : Stmts) → StmtsFit Marks ss → (i : ℕ) (t : State) → lower_program mode node ss ≡ done i t → Ranged Marks t
  program_ranged node ss h i t e = subst (OnDone (λ i t. Ranged Marks t)) e (program_done node ss h)
