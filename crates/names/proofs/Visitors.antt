-- Every visitor follows where its children's lowering does: a line repeats the visitor's `do` block with `bind` for `>>=`, as in meaning's Keeps.
use Prim.Native.Nat.{ℕ, zero, suc}
use mathlib.Core.Path.{◌≡◌, refl}
use mathlib.Core.List.{List, [], ◌∷◌, map}
use mathlib.Core.Option.{Option, none, some}
use lib.ListN.{length, length-map}
use Rattle.meaning.specs.Constant.{Constant, text}
use Rattle.meaning.specs.declared.Token.{Token}
use Rattle.meaning.specs.Syntax.{Super, no_super, super}
use Rattle.meaning.specs.State.{Chunk, M, in_function}
use Rattle.meaning.specs.Expressions.{visit_literal, named, visit_outside, visit_captured, visit_local, visit_variable, visit_unary, visit_addi, visit_both, visit_dropped, visit_binary, visit_logical, next_registers, visit_call, visit_argument}
use Rattle.meaning.specs.Functions.{parameters, return_of_code, close_body, visit_body, first_mark, no_name, function_code, visit_function, fun_code, define_name, declare_name, visit_fun}
use Rattle.meaning.specs.Statements.{new_global, visit_let_as, visit_let_only, visit_block, visit_while, visit_classic_for, iterate_each, iterate, visit_for_in, visit_jump, visit_return, visit_return_none, visit_if, visit_elif, visit_catch, visit_try, visit_super, visit_method, visit_methods, visit_class}
use Rattle.meaning.specs.State.{only_if, is_builtin_var}
use Rattle.meaning.specs.Lower.{row}
use Rattle.meaning.specs.declared.Instruction.{Instruction}
use Rattle.names.specs.Rename.{Rule}
use Rattle.names.proofs.Changed.{token_by, constant_by, super_by}
use Rattle.names.proofs.Steps.{Follows, same_builtin, bind, next, by_pure, by_refuse, by_get, either, by_register, by_allocate, by_block, by_loop, by_constant, by_context, by_known, by_global, by_variable, by_capture, by_function}

module _ (f : ℕ → ℕ) (rule : Rule f) where
  abbrev pub F : {A : Type 0} → M A → M A → Type 0
  F m m' = Follows f m m'

  -- ---- expressions

  pub literal_follows : (node : ℕ) (v : Constant) → F (visit_literal node v) (visit_literal node (constant_by f v))
  unfolding visit_literal
  literal_follows node v = bind f (by_register f node) λ r. bind f (by_constant f node v) λ k. by_pure f _

  named_follows : (op node : ℕ) (x : Token) → F (named op node x) (named op node (token_by f x))
  unfolding named
  named_follows op node x = bind f (by_register f node) λ r. bind f (by_constant f node (text x.name)) λ k. by_pure f _

  outside_follows : (node : ℕ) (x : Token) → F (visit_outside node x) (visit_outside node (token_by f x))
  unfolding visit_outside
  outside_follows node x =
      rw (same_builtin f rule x.name)
      (either f (is_builtin_var x.name) (named_follows _ node x) (bind f (by_known f rule x.name) λ known. either f known (named_follows _ node x) (by_refuse f _ node)))

  captured_follows : (node : ℕ) (x : Token) (i : Option ℕ) → F (visit_captured node x i) (visit_captured node (token_by f x) i)
  unfolding visit_captured
  captured_follows node x none = outside_follows node x
  captured_follows node x (some i) = bind f (by_register f node) λ r. by_pure f _

  local_follows : (node : ℕ) (x : Token) (r : Option ℕ) → F (visit_local node x r) (visit_local node (token_by f x) r)
  unfolding visit_local
  local_follows node x (some r) = by_pure f _
  local_follows node x none = bind f (by_capture f rule node x.name) λ i. captured_follows node x i

  pub variable_follows : (node : ℕ) (x : Token) → F (visit_variable node x) (visit_variable node (token_by f x))
  unfolding visit_variable
  variable_follows node x = bind f (by_variable f rule x.name) λ r. local_follows node x r

  pub unary_follows : (node op mark : ℕ) {x x' : M Chunk} → F x x' → F (visit_unary node op mark x) (visit_unary node op mark x')
  unfolding visit_unary
  unary_follows node op mark h = bind f h λ c. by_pure f _

  both_follows : (node op mark : ℕ) {x x' y y' : M Chunk} → F x x' → F y y' → F (visit_both node op mark x y) (visit_both node op mark x' y')
  unfolding visit_both
  both_follows node op mark h k = bind f h λ l. bind f k λ r. bind f (by_register f node) λ t. by_pure f _

  pub binary_follows : (node op mark : ℕ) (i j : Option ℕ) {x x' y y' : M Chunk} → F x x' → F y y' → F (visit_binary node op mark i j x y) (visit_binary node op mark i j x' y')
  unfolding visit_binary visit_addi visit_dropped
  binary_follows node op mark (some i) j h k = bind f h λ l. bind f (by_register f node) λ r. by_pure f _
  binary_follows node op mark none (some j) h k = next f (bind f k λ c. bind f (by_register f node) λ r. by_pure f _) (both_follows node op mark h k)
  binary_follows node op mark none none h k = both_follows node op mark h k

  pub logical_follows : (node op mark : ℕ) {x x' y y' : M Chunk} → F x x' → F y y' → F (visit_logical node op mark x y) (visit_logical node op mark x' y')
  unfolding visit_logical
  logical_follows node op mark h k = bind f h λ l. bind f k λ r. by_pure f _

  registers_follow : (node n : ℕ) → F (next_registers node n) (next_registers node n)
  unfolding next_registers
  registers_follow node zero = by_pure f tt
  registers_follow node (suc n) = bind f (by_register f node) λ r. registers_follow node n

  pub call_follows : (node mark n : ℕ) {g g' : M Chunk} {xs xs' : ℕ → M (List Instruction)} → F g g' → ((r : ℕ) → F (xs r) (xs' r)) → F (visit_call node mark n g xs) (visit_call node mark n g' xs')
  unfolding visit_call
  call_follows node mark n h k =
      bind f h λ c. bind f (by_register f node) λ g. bind f (by_register f node) λ r.
      next f (registers_follow node _) (bind f (k r) λ code. bind f (by_register f node) λ x. by_pure f _)

  pub argument_follows : (register : ℕ) {x x' : M Chunk} {xs xs' : M (List Instruction)} → F x x' → F xs xs' → F (visit_argument register x xs) (visit_argument register x' xs')
  unfolding visit_argument
  argument_follows register h k = bind f h λ c. bind f k λ more. by_pure f _

  -- ---- functions

  parameters_follow : (node : ℕ) (ps : List Token) → F (parameters node ps) (parameters node (map (token_by f) ps))
  unfolding parameters
  parameters_follow node [] = by_pure f tt
  parameters_follow node (p ∷ ps) = bind f (by_register f node) λ r. next f (by_allocate f p.name r) (parameters_follow node ps)

  return_follows : (node r : ℕ) (code : List Instruction) → F (return_of_code node r code) (return_of_code node r code)
  unfolding return_of_code
  return_follows node r [] = by_refuse f _ node
  return_follows node r (x ∷ xs) = by_pure f _

  close_follows : (node : ℕ) (cs : List Chunk) → F (close_body node cs) (close_body node cs)
  unfolding close_body
  close_follows node [] = by_pure f _
  close_follows node (c ∷ []) = either f _ (by_refuse f _ node) (return_follows node _ _)
  close_follows node (c ∷ d ∷ cs) = by_pure f _

  body_follows : (node : ℕ) {b b' : M (List Chunk)} → F b b' → F (visit_body node b) (visit_body node b')
  unfolding visit_body
  body_follows node h = by_block f (bind f h λ cs. close_follows node cs)

  mark_same : (ps : List Token) → first_mark (map (token_by f) ps) ≡ first_mark ps
  mark_same [] = refl
  mark_same (p ∷ ps) = refl

  -- a function without a name
  unnamed_follows : (node params : ℕ) {m m' : M (List Instruction)} → F m m' → F (in_function node no_name params m) (in_function node no_name params m')
  unnamed_follows node params {m} {m'} h = rw rule.kept.empty at (by_function f node no_name params h)

  pub function_follows : (node : ℕ) (ps : List Token) {b b' : M (List Chunk)} → F b b' → F (visit_function node ps b) (visit_function node (map (token_by f) ps) b')
  unfolding visit_function function_code
  function_follows node ps h =
      rw (length-map ps (token_by f), mark_same ps)
      (bind f (by_register f node) λ r.
      bind f (unnamed_follows node (length ps) (bind f (by_register f node) λ t. next f (parameters_follow node ps) (body_follows node h))) λ i. by_pure f _)

  define_follows : (node : ℕ) (x : Token) (c : Chunk) → F (define_name node x c) (define_name node (token_by f x) c)
  unfolding define_name
  define_follows node x c =
      bind f (by_context f) λ g.
      either f g (bind f (by_constant f node (text x.name)) λ k. by_pure f _) (next f (by_allocate f x.name _) (by_pure f c))

  declare_follows : (x : Token) → F (declare_name x) (declare_name (token_by f x))
  unfolding declare_name only_if
  declare_follows x = bind f (by_context f) λ g. either f g (by_global f x.name) (by_pure f tt)

  pub fun_follows : (node : ℕ) (x : Token) (ps : List Token) {b b' : M (List Chunk)} → F b b' → F (visit_fun node x ps b) (visit_fun node (token_by f x) (map (token_by f) ps) b')
  unfolding visit_fun fun_code
  fun_follows node x ps h =
      rw (length-map ps (token_by f))
      (bind f (by_register f node) λ r.
      next f (declare_follows x)
      (bind f
      (by_function f node x.name (length ps)
      (bind f (by_register f node) λ self. next f (by_allocate f x.name self) (next f (parameters_follow node ps) (bind f (body_follows node h) λ code. by_pure f _))))
      λ i. define_follows node x _))

  -- ---- statements

  new_global_follows : (node : ℕ) (x : Token) → F (new_global node x) (new_global node (token_by f x))
  unfolding new_global
  new_global_follows node x =
      bind f (by_known f rule x.name) λ known. either f known (by_refuse f _ node) (next f (by_global f x.name) (by_constant f node (text x.name)))

  pub let_as_follows : (node : ℕ) (x : Token) {i i' : M Chunk} → F i i' → F (visit_let_as node x i) (visit_let_as node (token_by f x) i')
  unfolding visit_let_as
  let_as_follows node x h =
      bind f (by_context f) λ g.
      either f g (bind f (new_global_follows node x) λ k. bind f h λ c. by_pure f _) (bind f h λ c. next f (by_allocate f x.name _) (by_pure f c))

  pub let_only_follows : (node : ℕ) (x : Token) → F (visit_let_only node x) (visit_let_only node (token_by f x))
  unfolding visit_let_only
  let_only_follows node x =
      bind f (by_context f) λ g.
      either f g (bind f (new_global_follows node x) λ k. bind f (by_register f node) λ r. by_pure f _)
      (bind f (by_register f node) λ r. next f (by_allocate f x.name r) (by_pure f _))

  pub block_follows : {b b' : M (List Chunk)} → F b b' → F (visit_block b) (visit_block b')
  unfolding visit_block
  block_follows h = by_block f (bind f h λ cs. by_pure f _)

  pub while_follows : (node mark : ℕ) {c c' b b' : M Chunk} → F c c' → F b b' → F (visit_while node mark c b) (visit_while node mark c' b')
  unfolding visit_while
  while_follows node mark h k = bind f h λ c. bind f (by_loop f k) λ b. by_pure f _

  pub for_follows : (mode node mark : ℕ) {i i' : M (List Chunk)} {c c' n n' b b' : M Chunk} → F i i' → F c c' → F n n' → F b b' → F (visit_classic_for mode node mark i c n b) (visit_classic_for mode node mark i' c' n' b')
  unfolding visit_classic_for
  for_follows mode node mark hi hc hn hb = bind f hi λ i. bind f hc λ c. bind f (by_loop f hb) λ b. bind f hn λ n. by_pure f _

  each_follows : (node mark element i : ℕ) (xs : List Token) → F (iterate_each node mark element i xs) (iterate_each node mark element i (map (token_by f) xs))
  unfolding iterate_each
  each_follows node mark element i [] = by_pure f _
  each_follows node mark element i (x ∷ xs) =
      bind f (by_register f node) λ r. next f (by_allocate f x.name r) (bind f (each_follows node mark element (suc i) xs) λ more. by_pure f _)

  iterate_follows : (node mark element collection counter : ℕ) (xs : List Token) → F (iterate node mark element collection counter xs) (iterate node mark element collection counter (map (token_by f) xs))
  unfolding iterate
  iterate_follows node mark element collection counter [] = by_pure f _
  iterate_follows node mark element collection counter (x ∷ []) = next f (by_allocate f x.name _) (by_pure f _)
  iterate_follows node mark element collection counter (x ∷ y ∷ xs) = bind f (each_follows node mark element 0 (x ∷ y ∷ xs)) λ parts. by_pure f _

  pub for_in_follows : (mode node mark : ℕ) (xs : List Token) {c c' b b' : M Chunk} → F c c' → F b b' → F (visit_for_in mode node mark xs c b) (visit_for_in mode node mark (map (token_by f) xs) c' b')
  unfolding visit_for_in
  for_in_follows mode node mark xs h k =
      bind f (by_register f node) λ counter. bind f (by_register f node) λ size. bind f (by_register f node) λ condition. bind f (by_register f node) λ element.
      bind f (by_constant f node _) λ i. bind f h λ c. bind f (iterate_follows node mark element _ counter xs) λ heads. bind f (by_loop f k) λ b. by_pure f _

  pub jump_follows : (node kind mark : ℕ) → F (visit_jump node kind mark) (visit_jump node kind mark)
  unfolding visit_jump
  jump_follows node kind mark = bind f (by_get f _ _ (λ s. refl)) λ l. either f _ (by_refuse f _ node) (by_pure f _)

  pub return_value_follows : (node mark : ℕ) {x x' : M Chunk} → F x x' → F (visit_return node mark x) (visit_return node mark x')
  unfolding visit_return
  return_value_follows node mark h = bind f h λ c. either f _ (by_refuse f _ node) (by_pure f _)

  pub return_none_follows : (mark : ℕ) → F (visit_return_none mark) (visit_return_none mark)
  unfolding visit_return_none
  return_none_follows mark = by_pure f _

  pub if_follows : (node mark : ℕ) {c c' : M Chunk} {t t' e e' : M (List Chunk)} {es es' : M (List Instruction)} → F c c' → F t t' → F es es' → F e e' → F (visit_if node mark c t es e) (visit_if node mark c' t' es' e')
  unfolding visit_if
  if_follows node mark hc ht hs he = bind f hc λ c. bind f ht λ t. bind f hs λ es. bind f he λ e. by_pure f _

  pub elif_follows : {c c' : M Chunk} {b b' : M (List Chunk)} {es es' : M (List Instruction)} → F c c' → F b b' → F es es' → F (visit_elif c b es) (visit_elif c' b' es')
  unfolding visit_elif
  elif_follows hc hb hs = bind f hc λ c. bind f hb λ b. bind f hs λ more. by_pure f _

  pub try_follows : (node : ℕ) (x : Token) {b b' c c' : M Chunk} → F b b' → F c c' → F (visit_try node x b c) (visit_try node (token_by f x) b' c')
  unfolding visit_try visit_catch
  try_follows node x hb hc =
      bind f hb λ b.
      bind f (by_block f (bind f (by_register f node) λ r. next f (by_allocate f x.name r) (bind f hc λ c. by_pure f _))) λ code. by_pure f _

  super_follows : (node : ℕ) (x : Token) (p : Super) → F (visit_super node x p) (visit_super node (token_by f x) (super_by f p))
  unfolding visit_super
  super_follows node x no_super = bind f (by_register f node) λ r. by_pure f _
  super_follows node x (super n y) = variable_follows n y

  pub method_follows : (node mark op result tmp name : ℕ) {g g' : M Chunk} {gs gs' : M (List Instruction)} → F g g' → F gs gs' → F (visit_method node mark op result tmp name g gs) (visit_method node mark op result tmp (f name) g' gs')
  unfolding visit_method
  method_follows node mark op result tmp name hg hs = bind f hg λ c. bind f (by_constant f node (text name)) λ k. bind f hs λ more. by_pure f _

  pub class_follows : (node : ℕ) (x : Token) (p : Super) {ms ms' ts ts' : (op result tmp : ℕ) → M (List Instruction)} → ((op result tmp : ℕ) → F (ms op result tmp) (ms' op result tmp)) → ((op result tmp : ℕ) → F (ts op result tmp) (ts' op result tmp))
      → F (visit_class node x p ms ts) (visit_class node (token_by f x) (super_by f p) ms' ts')
  unfolding visit_class visit_methods
  class_follows node x p hm ht =
      bind f (by_register f node) λ r.
      next f (declare_follows x)
      (bind f (by_register f node) λ tmp. bind f (by_constant f node (text x.name)) λ k. bind f (super_follows node x p) λ s.
      bind f (by_block f (bind f (hm _ r tmp) λ m. bind f (ht _ r tmp) λ t. by_pure f _)) λ ms. define_follows node x _)

  pub row_follows : {x x' : M Chunk} {xs xs' : M (List Chunk)} → F x x' → F xs xs' → F (row x xs) (row x' xs')
  unfolding row
  row_follows h k = bind f h λ c. bind f k λ cs. by_pure f _
