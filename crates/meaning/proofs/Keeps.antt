-- What every step of the lowering keeps. A relation between the state before and the state after, reflexive and transitive,
-- that the primitive steps keep (`Kept`) is kept by the lowering of every node: a visitor is a row of steps, so its lemma repeats
-- its `do` block with `bind` for `>>=`, and the recursion is the definition's own (`expr_keeps` and its siblings).
use Prim.Native.Nat.{ℕ, zero, suc}
use mathlib.Core.Bool.{Bool, true, false}
use mathlib.Core.List.{List, [], ◌∷◌}
use mathlib.Core.Option.{Option, none, some}
use Rattle.meaning.specs.Constant.{Constant}
use Rattle.meaning.specs.declared.Token.{Token}
use Rattle.meaning.specs.Syntax.{Expr, literal, variable, unary, binary, logical, call, function, Exprs, no_expr, and_expr, Stmt, expression, let_only, let_as, block, while, classic_for, for_in, break, continue, return_none, return, if, try, define, class, Stmts, no_stmt, and_stmt, Elifs, no_elif, and_elif, Fun, fun, Funs, no_fun, and_fun, Super, no_super, super}
use Rattle.meaning.specs.State.{State, Chunk, M, Res, refused, done, and_then, ◌>>=◌, ◌>>◌, pure, refuse, if_then, only_if, get, next_register, allocate_register, in_block, in_loop, add_constant, is_global_context, is_global_var, add_global, get_var_register, get_upvalue, in_function}
use Rattle.meaning.specs.Expressions.{visit_literal, named, visit_outside, visit_captured, visit_local, visit_variable, visit_unary, visit_addi, visit_both, visit_dropped, visit_binary, visit_logical, next_registers, visit_call, visit_argument}
use Rattle.meaning.specs.Functions.{parameters, return_of_code, close_body, visit_body, function_code, visit_function, fun_code, define_name, declare_name, visit_fun}
use Rattle.meaning.specs.Statements.{new_global, visit_let_as, visit_let_only, visit_block, visit_while, visit_classic_for, iterate_each, iterate, visit_for_in, visit_jump, visit_return, visit_return_none, visit_if, visit_elif, visit_catch, visit_try, visit_super, visit_method, visit_methods, visit_class}
use Rattle.meaning.specs.Lower.{row, lower_expr, lower_arguments, lower_stmt, lower_stmts, lower_elifs, lower_fun, lower_methods}
use Rattle.meaning.specs.declared.Cause.{Cause}
use Rattle.meaning.specs.declared.Instruction.{Instruction}

-- where a step is done, R holds from the state before to the state after
abbrev pub Along : (State → State → Type 0) → {A : Type 0} → State → Res A → Type 0
Along R s (refused c p) = Unit {0}
Along R s (done a t) = R s t

pub record Keeps (R : State → State → Type 0) {A : Type 0} (m : M A) : Type 0 where
  pub at : (s : State) → Along R s (m s)

-- a relation that every primitive step keeps
pub record Kept (R : State → State → Type 0) : Type 1 where
  pub same : (s : State) → R s s
  pub chain : {s t u : State} → R s t → R t u → R s u
  pub by_register : (node : ℕ) → Keeps R (next_register node)
  pub by_allocate : (name r : ℕ) → Keeps R (allocate_register name r)
  pub by_constant : (node : ℕ) (c : Constant) → Keeps R (add_constant node c)
  pub by_global : (name : ℕ) → Keeps R (add_global name)
  pub by_capture : (node name : ℕ) → Keeps R (get_upvalue node name)
  pub by_block : {A : Type 0} {m : M A} → Keeps R m → Keeps R (in_block m)
  pub by_loop : {A : Type 0} {m : M A} → Keeps R m → Keeps R (in_loop m)
  pub by_function : (node name params : ℕ) {m : M (List Instruction)} → Keeps R m → Keeps R (in_function node name params m)

module _ (R : State → State → Type 0) (K : Kept R) where
  after : {A : Type 0} {s t : State} (r : Res A) → R s t → Along R t r → Along R s r
  after (refused c p) h k = tt
  after (done a u) h k = K.chain h k

  and_then_keeps : {A B : Type 0} (s : State) (r : Res A) (f : A → M B) → Along R s r → ((a : A) → Keeps R (f a)) → Along R s (and_then r f)
  unfolding and_then
  and_then_keeps s (refused c p) f h k = tt
  and_then_keeps s (done a t) f h k = after (f a t) h ((k a).at t)

  pub bind : {A B : Type 0} {m : M A} {f : A → M B} → Keeps R m → ((a : A) → Keeps R (f a)) → Keeps R (m >>= f)
  unfolding ◌>>=◌
  bind {m} {f} h k = record { at = λ s. and_then_keeps s (m s) f (h.at s) k }

  pub next : {A B : Type 0} {m : M A} {n : M B} → Keeps R m → Keeps R n → Keeps R (m >> n)
  unfolding ◌>>◌
  next {m} {n} h k = record { at = λ s. and_then_keeps s (m s) (λ a. n) (h.at s) (λ a. k) }

  pub by_pure : {A : Type 0} (a : A) → Keeps R (pure a)
  unfolding pure
  by_pure a = record { at = λ s. K.same s }

  by_refuse : {A : Type 0} (c : Cause) (node : ℕ) → Keeps R (refuse {A = A} c node)
  unfolding refuse
  by_refuse c node = record { at = λ s. tt }

  by_get : {A : Type 0} (f : State → A) → Keeps R (get f)
  unfolding get
  by_get f = record { at = λ s. K.same s }

  either : {A : Type 0} (b : Bool) {m n : M A} → Keeps R m → Keeps R n → Keeps R (if_then b m n)
  unfolding if_then
  either true h k = h
  either false h k = k

  -- ---- expressions

  pub literal_keeps : (node : ℕ) (v : Constant) → Keeps R (visit_literal node v)
  unfolding visit_literal
  literal_keeps node v = bind (K.by_register node) λ r. bind (K.by_constant node v) λ k. by_pure _

  named_keeps : (op node : ℕ) (x : Token) → Keeps R (named op node x)
  unfolding named
  named_keeps op node x = bind (K.by_register node) λ r. bind (K.by_constant node _) λ k. by_pure _

  outside_keeps : (node : ℕ) (x : Token) → Keeps R (visit_outside node x)
  unfolding visit_outside is_global_var
  outside_keeps node x = either _ (named_keeps _ node x) (bind (by_get _) λ known. either known (named_keeps _ node x) (by_refuse _ node))

  captured_keeps : (node : ℕ) (x : Token) (i : Option ℕ) → Keeps R (visit_captured node x i)
  unfolding visit_captured
  captured_keeps node x none = outside_keeps node x
  captured_keeps node x (some i) = bind (K.by_register node) λ r. by_pure _

  local_keeps : (node : ℕ) (x : Token) (r : Option ℕ) → Keeps R (visit_local node x r)
  unfolding visit_local
  local_keeps node x (some r) = by_pure _
  local_keeps node x none = bind (K.by_capture node _) λ i. captured_keeps node x i

  pub variable_keeps : (node : ℕ) (x : Token) → Keeps R (visit_variable node x)
  unfolding visit_variable get_var_register
  variable_keeps node x = bind (by_get _) λ r. local_keeps node x r

  unary_keeps : (node op mark : ℕ) {x : M Chunk} → Keeps R x → Keeps R (visit_unary node op mark x)
  unfolding visit_unary
  unary_keeps node op mark h = bind h λ c. by_pure _

  both_keeps : (node op mark : ℕ) {x y : M Chunk} → Keeps R x → Keeps R y → Keeps R (visit_both node op mark x y)
  unfolding visit_both
  both_keeps node op mark h k = bind h λ l. bind k λ r. bind (K.by_register node) λ t. by_pure _

  binary_keeps : (node op mark : ℕ) (i j : Option ℕ) {x y : M Chunk} → Keeps R x → Keeps R y → Keeps R (visit_binary node op mark i j x y)
  unfolding visit_binary visit_addi visit_dropped
  binary_keeps node op mark (some i) j h k = bind h λ l. bind (K.by_register node) λ r. by_pure _
  binary_keeps node op mark none (some j) h k = next (bind k λ c. bind (K.by_register node) λ r. by_pure _) (both_keeps node op mark h k)
  binary_keeps node op mark none none h k = both_keeps node op mark h k

  logical_keeps : (node op mark : ℕ) {x y : M Chunk} → Keeps R x → Keeps R y → Keeps R (visit_logical node op mark x y)
  unfolding visit_logical
  logical_keeps node op mark h k = bind h λ l. bind k λ r. by_pure _

  pub registers_keep : (node n : ℕ) → Keeps R (next_registers node n)
  unfolding next_registers
  registers_keep node zero = by_pure tt
  registers_keep node (suc n) = bind (K.by_register node) λ r. registers_keep node n

  call_keeps : (node mark n : ℕ) {f : M Chunk} {xs : ℕ → M (List Instruction)} → Keeps R f → ((r : ℕ) → Keeps R (xs r)) → Keeps R (visit_call node mark n f xs)
  unfolding visit_call
  call_keeps node mark n h k =
      bind h λ c. bind (K.by_register node) λ f. bind (K.by_register node) λ r. next (registers_keep node _) (bind (k r) λ code. bind (K.by_register node) λ x. by_pure _)

  argument_keeps : (register : ℕ) {x : M Chunk} {xs : M (List Instruction)} → Keeps R x → Keeps R xs → Keeps R (visit_argument register x xs)
  unfolding visit_argument
  argument_keeps register h k = bind h λ c. bind k λ more. by_pure _

  -- ---- functions

  pub parameters_keep : (node : ℕ) (ps : List Token) → Keeps R (parameters node ps)
  unfolding parameters
  parameters_keep node [] = by_pure tt
  parameters_keep node (p ∷ ps) = bind (K.by_register node) λ r. next (K.by_allocate _ r) (parameters_keep node ps)

  return_keeps : (node r : ℕ) (code : List Instruction) → Keeps R (return_of_code node r code)
  unfolding return_of_code
  return_keeps node r [] = by_refuse _ node
  return_keeps node r (x ∷ xs) = by_pure _

  pub close_keeps : (node : ℕ) (cs : List Chunk) → Keeps R (close_body node cs)
  unfolding close_body
  close_keeps node [] = by_pure _
  close_keeps node (c ∷ []) = either _ (by_refuse _ node) (return_keeps node _ _)
  close_keeps node (c ∷ d ∷ cs) = by_pure _

  body_keeps : (node : ℕ) {b : M (List Chunk)} → Keeps R b → Keeps R (visit_body node b)
  unfolding visit_body
  body_keeps node h = K.by_block (bind h λ cs. close_keeps node cs)

  function_keeps : (node : ℕ) (ps : List Token) {b : M (List Chunk)} → Keeps R b → Keeps R (visit_function node ps b)
  unfolding visit_function function_code
  function_keeps node ps h =
      bind (K.by_register node) λ r. bind (K.by_function node _ _ (bind (K.by_register node) λ t. next (parameters_keep node ps) (body_keeps node h))) λ i. by_pure _

  pub define_keeps : (node : ℕ) (x : Token) (c : Chunk) → Keeps R (define_name node x c)
  unfolding define_name is_global_context
  define_keeps node x c = bind (by_get _) λ g. either g (bind (K.by_constant node _) λ k. by_pure _) (next (K.by_allocate _ _) (by_pure c))

  pub declare_keeps : (x : Token) → Keeps R (declare_name x)
  unfolding declare_name is_global_context only_if
  declare_keeps x = bind (by_get _) λ g. either g (K.by_global _) (by_pure tt)

  fun_keeps : (node : ℕ) (x : Token) (ps : List Token) {b : M (List Chunk)} → Keeps R b → Keeps R (visit_fun node x ps b)
  unfolding visit_fun fun_code
  fun_keeps node x ps h =
      bind (K.by_register node) λ r.
      next (declare_keeps x)
      (bind
      (K.by_function node _ _
      (bind (K.by_register node) λ self. next (K.by_allocate _ self) (next (parameters_keep node ps) (bind (body_keeps node h) λ code. by_pure _))))
      λ i. define_keeps node x _)

  -- ---- statements

  pub new_global_keeps : (node : ℕ) (x : Token) → Keeps R (new_global node x)
  unfolding new_global is_global_var
  new_global_keeps node x = bind (by_get _) λ known. either known (by_refuse _ node) (next (K.by_global _) (K.by_constant node _))

  let_as_keeps : (node : ℕ) (x : Token) {i : M Chunk} → Keeps R i → Keeps R (visit_let_as node x i)
  unfolding visit_let_as is_global_context
  let_as_keeps node x h =
      bind (by_get _) λ g. either g (bind (new_global_keeps node x) λ k. bind h λ c. by_pure _) (bind h λ c. next (K.by_allocate _ _) (by_pure c))

  pub let_only_keeps : (node : ℕ) (x : Token) → Keeps R (visit_let_only node x)
  unfolding visit_let_only is_global_context
  let_only_keeps node x =
      bind (by_get _) λ g. either g (bind (new_global_keeps node x) λ k. bind (K.by_register node) λ r. by_pure _) (bind (K.by_register node) λ r. next (K.by_allocate _ _) (by_pure _))

  block_keeps : {b : M (List Chunk)} → Keeps R b → Keeps R (visit_block b)
  unfolding visit_block
  block_keeps h = K.by_block (bind h λ cs. by_pure _)

  while_keeps : (node mark : ℕ) {c b : M Chunk} → Keeps R c → Keeps R b → Keeps R (visit_while node mark c b)
  unfolding visit_while
  while_keeps node mark h k = bind h λ c. bind (K.by_loop k) λ b. by_pure _

  for_keeps : (mode node mark : ℕ) {i : M (List Chunk)} {c n b : M Chunk} → Keeps R i → Keeps R c → Keeps R n → Keeps R b → Keeps R (visit_classic_for mode node mark i c n b)
  unfolding visit_classic_for
  for_keeps mode node mark hi hc hn hb = bind hi λ i. bind hc λ c. bind (K.by_loop hb) λ b. bind hn λ n. by_pure _

  each_keeps : (node mark element i : ℕ) (xs : List Token) → Keeps R (iterate_each node mark element i xs)
  unfolding iterate_each
  each_keeps node mark element i [] = by_pure _
  each_keeps node mark element i (x ∷ xs) = bind (K.by_register node) λ r. next (K.by_allocate _ r) (bind (each_keeps node mark element (suc i) xs) λ more. by_pure _)

  pub iterate_keeps : (node mark element collection counter : ℕ) (xs : List Token) → Keeps R (iterate node mark element collection counter xs)
  unfolding iterate
  iterate_keeps node mark element collection counter [] = by_pure _
  iterate_keeps node mark element collection counter (x ∷ []) = next (K.by_allocate _ _) (by_pure _)
  iterate_keeps node mark element collection counter (x ∷ y ∷ xs) = bind (each_keeps node mark element 0 (x ∷ y ∷ xs)) λ parts. by_pure _

  for_in_keeps : (mode node mark : ℕ) (xs : List Token) {c b : M Chunk} → Keeps R c → Keeps R b → Keeps R (visit_for_in mode node mark xs c b)
  unfolding visit_for_in
  for_in_keeps mode node mark xs h k =
      bind (K.by_register node) λ counter. bind (K.by_register node) λ size. bind (K.by_register node) λ condition. bind (K.by_register node) λ element.
      bind (K.by_constant node _) λ i. bind h λ c. bind (iterate_keeps node mark element _ counter xs) λ heads. bind (K.by_loop k) λ b. by_pure _

  pub jump_keeps : (node kind mark : ℕ) → Keeps R (visit_jump node kind mark)
  unfolding visit_jump
  jump_keeps node kind mark = bind (by_get _) λ l. either _ (by_refuse _ node) (by_pure _)

  return_value_keeps : (node mark : ℕ) {x : M Chunk} → Keeps R x → Keeps R (visit_return node mark x)
  unfolding visit_return
  return_value_keeps node mark h = bind h λ c. either _ (by_refuse _ node) (by_pure _)

  pub return_none_keeps : (mark : ℕ) → Keeps R (visit_return_none mark)
  unfolding visit_return_none
  return_none_keeps mark = by_pure _

  if_keeps : (node mark : ℕ) {c : M Chunk} {t e : M (List Chunk)} {es : M (List Instruction)} → Keeps R c → Keeps R t → Keeps R es → Keeps R e → Keeps R (visit_if node mark c t es e)
  unfolding visit_if
  if_keeps node mark hc ht hs he = bind hc λ c. bind ht λ t. bind hs λ es. bind he λ e. by_pure _

  elif_keeps : {c : M Chunk} {b : M (List Chunk)} {es : M (List Instruction)} → Keeps R c → Keeps R b → Keeps R es → Keeps R (visit_elif c b es)
  unfolding visit_elif
  elif_keeps hc hb hs = bind hc λ c. bind hb λ b. bind hs λ more. by_pure _

  try_keeps : (node : ℕ) (x : Token) {b c : M Chunk} → Keeps R b → Keeps R c → Keeps R (visit_try node x b c)
  unfolding visit_try visit_catch
  try_keeps node x hb hc = bind hb λ b. bind (K.by_block (bind (K.by_register node) λ r. next (K.by_allocate _ r) (bind hc λ c. by_pure _))) λ code. by_pure _

  pub super_keeps : (node : ℕ) (x : Token) (p : Super) → Keeps R (visit_super node x p)
  unfolding visit_super
  super_keeps node x no_super = bind (K.by_register node) λ r. by_pure _
  super_keeps node x (super n y) = variable_keeps n y

  method_keeps : (node mark op result tmp name : ℕ) {f : M Chunk} {fs : M (List Instruction)} → Keeps R f → Keeps R fs → Keeps R (visit_method node mark op result tmp name f fs)
  unfolding visit_method
  method_keeps node mark op result tmp name hf hs = bind hf λ c. bind (K.by_constant node _) λ k. bind hs λ more. by_pure _

  class_keeps : (node : ℕ) (x : Token) (p : Super) {ms ts : (op result tmp : ℕ) → M (List Instruction)} → ((op result tmp : ℕ) → Keeps R (ms op result tmp)) → ((op result tmp : ℕ) → Keeps R (ts op result tmp)) → Keeps R (visit_class node x p ms ts)
  unfolding visit_class visit_methods
  class_keeps node x p hm ht =
      bind (K.by_register node) λ r.
      next (declare_keeps x)
      (bind (K.by_register node) λ tmp. bind (K.by_constant node _) λ k. bind (super_keeps node x p) λ s.
      bind (K.by_block (bind (hm _ r tmp) λ m. bind (ht _ r tmp) λ t. by_pure _)) λ ms. define_keeps node x _)

  row_keeps : {x : M Chunk} {xs : M (List Chunk)} → Keeps R x → Keeps R xs → Keeps R (row x xs)
  unfolding row
  row_keeps h k = bind h λ c. bind k λ cs. by_pure _

  -- ---- the recursion

  module _ (mode : ℕ) where
    mutual
      unfolding lower_expr

      pub expr_keeps : (e : Expr) → Keeps R (lower_expr mode e)
      expr_keeps (literal node v) = literal_keeps node v
      expr_keeps (variable node x) = variable_keeps node x
      expr_keeps (unary node op mark x) = unary_keeps node op mark (expr_keeps x)
      expr_keeps (binary node op mark x y) = binary_keeps node op mark _ _ (expr_keeps x) (expr_keeps y)
      expr_keeps (logical node op mark x y) = logical_keeps node op mark (expr_keeps x) (expr_keeps y)
      expr_keeps (call node f mark xs) = call_keeps node mark _ (expr_keeps f) (λ r. arguments_keep xs r)
      expr_keeps (function node ps b) = function_keeps node ps (stmts_keep b)

      pub arguments_keep : (es : Exprs) (r : ℕ) → Keeps R (lower_arguments mode es r)
      arguments_keep no_expr r = by_pure _
      arguments_keep (and_expr e es) r = argument_keeps r (expr_keeps e) (arguments_keep es _)

      pub stmt_keeps : (s : Stmt) → Keeps R (lower_stmt mode s)
      stmt_keeps (expression node e) = expr_keeps e
      stmt_keeps (let_only node x) = let_only_keeps node x
      stmt_keeps (let_as node x e) = let_as_keeps node x (expr_keeps e)
      stmt_keeps (block node ss) = block_keeps (stmts_keep ss)
      stmt_keeps (while node mark e s) = while_keeps node mark (expr_keeps e) (stmt_keeps s)
      stmt_keeps (classic_for node mark i c n s) = for_keeps mode node mark (stmts_keep i) (expr_keeps c) (expr_keeps n) (stmt_keeps s)
      stmt_keeps (for_in node mark e s xs) = for_in_keeps mode node mark xs (expr_keeps e) (stmt_keeps s)
      stmt_keeps (break node mark) = jump_keeps node _ mark
      stmt_keeps (continue node mark) = jump_keeps node _ mark
      stmt_keeps (return_none node mark) = return_none_keeps mark
      stmt_keeps (return node mark e) = return_value_keeps node mark (expr_keeps e)
      stmt_keeps (if node mark e ss es ts) = if_keeps node mark (expr_keeps e) (stmts_keep ss) (elifs_keep es) (stmts_keep ts)
      stmt_keeps (try node s x t) = try_keeps node x (stmt_keeps s) (stmt_keeps t)
      stmt_keeps (define f) = fun_stmt_keeps f
      stmt_keeps (class node x p ms ts) = class_keeps node x p (λ op r tmp. methods_keep ms node x.mark op r tmp) (λ op r tmp. methods_keep ts node x.mark op r tmp)

      pub stmts_keep : (ss : Stmts) → Keeps R (lower_stmts mode ss)
      stmts_keep no_stmt = by_pure _
      stmts_keep (and_stmt s ss) = row_keeps (stmt_keeps s) (stmts_keep ss)

      pub elifs_keep : (es : Elifs) → Keeps R (lower_elifs mode es)
      elifs_keep no_elif = by_pure _
      elifs_keep (and_elif e ss es) = elif_keeps (expr_keeps e) (stmts_keep ss) (elifs_keep es)

      pub fun_stmt_keeps : (f : Fun) → Keeps R (lower_fun mode f)
      fun_stmt_keeps (fun node x ps b) = fun_keeps node x ps (stmts_keep b)

      pub methods_keep : (fs : Funs) (node mark op result tmp : ℕ) → Keeps R (lower_methods mode fs node mark op result tmp)
      methods_keep no_fun node mark op result tmp = by_pure _
      methods_keep (and_fun f fs) node mark op result tmp = method_keeps node mark op result tmp _ (fun_stmt_keeps f) (methods_keep fs node mark op result tmp)
