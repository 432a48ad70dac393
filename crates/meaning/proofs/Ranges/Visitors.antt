-- The laws of the visitors (Expressions, Functions, Statements): each gives what fits where its children do.
-- The idea: each law follows its visitor's `do` block line by line. A count that is an operand (arguments, names of a for-in) is bounded by
-- the registers that were taken for it.
use Prim.Native.Nat.{ℕ, zero, suc, ◌+◌, ◌-◌, ◌≤◌, ◌<◌}
use mathlib.Core.Path.{◌≡◌, refl}
use mathlib.Core.Bool.{Bool, true, false}
use mathlib.Core.List.{List, [], ◌∷◌, ◌++◌}
use mathlib.Core.Option.{Option, none, some}
use native.Mathlib.Omega.{arith}
use lib.ListN.{length}
use lib.Dec.{eqb}
use borrow.Author.Tests.{eqb-false}
use Rattle.meaning.specs.Opcode.{inst, inst_bx, no_mark, unary_opcode, binary_opcode, or, Move, LoadK, LoadNil, Jmp, Lt, Call, Return, GetUpval, Closure, Class, ClassMeth, ClassStMeth, Addi, GetIter, GetIterk, GetIteri, Length, GetGlobal, SetGlobal, GetCurrentFunc, GetBuiltin, DeregisterTryCatch, GetExcept}
use Rattle.meaning.specs.Constant.{Constant}
use Rattle.meaning.specs.declared.Token.{Token}
use Rattle.meaning.specs.Syntax.{Super, no_super, super}
use Rattle.meaning.specs.State.{State, Chunk, M, only_if, is_global_var, is_global_context}
use Rattle.meaning.specs.Chunk.{joined, branch_code}
use Rattle.meaning.specs.Expressions.{or_flag, visit_literal, named, visit_outside, visit_captured, visit_local, visit_variable, visit_unary, visit_addi, visit_both, visit_dropped, visit_binary, visit_logical, next_registers, visit_call, visit_argument}
use Rattle.meaning.specs.Functions.{last_mark, first_mark, no_name, parameters, return_of_code, close_body, visit_body, function_code, visit_function, fun_code, define_name, declare_name, visit_fun}
use Rattle.meaning.specs.Statements.{new_global, visit_let_as, visit_let_only, visit_block, visit_while, visit_classic_for, iterate_each, iterate, visit_for_in, visit_jump, visit_return, visit_return_none, visit_if, visit_elif, visit_catch, visit_try, visit_super, visit_method, visit_methods, visit_class}
use Rattle.meaning.specs.Lower.{row}
use Rattle.meaning.specs.Safety.{All}
use Rattle.meaning.specs.declared.Instruction.{Instruction}
use Rattle.meaning.proofs.Safe.Lookup.{Maybe}
use Rattle.meaning.proofs.Safe.Sound.{regs}
use Rattle.meaning.proofs.Ranges.Fits.{Written, ConstantFits, TokenFits, SuperFits}
use Rattle.meaning.proofs.Ranges.Steps.{Held, Gives, Always, Body, bind, next, by_pure, by_refuse, weaken, either, either_known, Whatever, takes, allocates, globals, gets, stores, looks, captures, block_gives, loop_gives, function_gives}
use Rattle.meaning.proofs.Ranges.Code.{unary_written, binary_written, Code, Good, Row, plain, numbered, last_fits, join, plus_one, joined_fits, guarded, loop_fits, branch_fits, patch_ends_fits, try_fits}

or_small : (b : Bool) → or_flag b < 256
or_small true = omega arith
or_small false = omega arith

module _ (Marks : ℕ → Type 0) (absent : Marks no_mark) where
  -- what a visitor gives
  abbrev pub Chunks : M Chunk → Type 0
  Chunks m = Always Marks m (λ c t. Good Marks c)

  abbrev pub Codes : M (List Instruction) → Type 0
  Codes m = Always Marks m (λ code t. Code Marks code)

  abbrev pub Rows : M (List Chunk) → Type 0
  Rows m = Always Marks m (λ cs t. Row Marks cs)

  -- ---- expressions

  pub literal_fits : (node : ℕ) (v : Constant) → ConstantFits v → Chunks (visit_literal node v)
  unfolding visit_literal
  literal_fits node v h s σ =
      bind (takes node s σ) λ r t τ q. bind (stores node v h t τ) λ k u υ e.
      by_pure _ υ (record { code = (numbered Marks LoadK r k no_mark refl (omega arith) absent, tt); result = omega arith })

  named_fits : (op node : ℕ) (x : Token) → Written op → TokenFits Marks x → Chunks (named op node x)
  unfolding named
  named_fits op node x w h s σ =
      bind (takes node s σ) λ r t τ q. bind (stores node _ h.name t τ) λ k u υ e.
      by_pure _ υ (record { code = (numbered Marks op r k x.mark w (omega arith) h.mark, tt); result = omega arith })

  outside_fits : (node : ℕ) (x : Token) → TokenFits Marks x → Chunks (visit_outside node x)
  unfolding visit_outside is_global_var
  outside_fits node x h s σ =
      either _ (named_fits GetBuiltin node x refl h s σ) (bind (gets _ s σ) λ known t τ q. either known (named_fits GetGlobal node x refl h t τ) (by_refuse _ node t))

  captured_fits : (node : ℕ) (x : Token) (o : Option ℕ) → TokenFits Marks x → Maybe 255 o → Chunks (visit_captured node x o)
  unfolding visit_captured
  captured_fits node x none h k s σ = outside_fits node x h s σ
  captured_fits node x (some i) h k s σ =
      bind (takes node s σ) λ r t τ q. by_pure _ τ (record { code = (plain Marks GetUpval r i 0 x.mark refl (omega arith) (omega arith) (omega arith) h.mark, tt); result = omega arith })

  local_fits : (node : ℕ) (x : Token) (o : Option ℕ) → TokenFits Marks x → Maybe 255 o → Chunks (visit_local node x o)
  unfolding visit_local
  local_fits node x (some r) h k s σ = by_pure _ σ (record { code = tt; result = k })
  local_fits node x none h k s σ = bind (captures node _ s σ) λ i t τ q. captured_fits node x i h q t τ

  pub variable_fits : (node : ℕ) (x : Token) → TokenFits Marks x → Chunks (visit_variable node x)
  unfolding visit_variable
  variable_fits node x h s σ = bind (looks _ s σ) λ o t τ k. local_fits node x o h k t τ

  pub unary_fits : (node op mark : ℕ) {x : M Chunk} → Marks mark → Chunks x → Chunks (visit_unary node op mark x)
  unfolding visit_unary
  unary_fits node op mark hm hx s σ =
      bind (hx s σ) λ c t τ q.
      let r = q.result in
      by_pure _ τ (record { code = plus_one Marks c.code _ q.code (plain Marks (unary_opcode op) c.result c.result 0 mark (unary_written op) (omega (arith, r)) (omega (arith, r)) (omega arith) hm); result = r })

  addi_fits : (node mark k : ℕ) {x : M Chunk} → Marks mark → k < 256 → Chunks x → Chunks (visit_addi node mark k x)
  unfolding visit_addi
  addi_fits node mark k hm hk hx s σ =
      bind (hx s σ) λ l t τ p. bind (takes node t τ) λ r u υ q.
      by_pure _ υ (record { code = plus_one Marks l.code _ p.code (plain Marks Addi r l.result k mark refl (omega arith) (omega (arith, p.result)) hk hm); result = omega arith })

  both_fits : (node op mark : ℕ) {x y : M Chunk} → Marks mark → Chunks x → Chunks y → Chunks (visit_both node op mark x y)
  unfolding visit_both
  both_fits node op mark hm hx hy s σ =
      bind (hx s σ) λ l t τ p. bind (hy t τ) λ r u υ q. bind (takes node u υ) λ x v ν e.
      by_pure _ ν (record {
        code = join Marks l.code _ p.code (plus_one Marks r.code _ q.code (plain Marks (binary_opcode op) x l.result r.result mark (binary_written op) (omega arith) (omega (arith, p.result)) (omega (arith, q.result)) hm));
        result = omega arith;
      })

  dropped_fits : (node : ℕ) {y : M Chunk} → Chunks y → Always Marks (visit_dropped node y) Whatever
  unfolding visit_dropped
  dropped_fits node hy s σ = bind (hy s σ) λ c t τ p. bind (takes node t τ) λ r u υ e. by_pure _ {Q = Whatever} υ tt

  pub binary_fits : (node op mark : ℕ) (i j : Option ℕ) {x y : M Chunk} → Marks mark → Maybe 256 i → Chunks x → Chunks y → Chunks (visit_binary node op mark i j x y)
  unfolding visit_binary
  binary_fits node op mark (some i) j hm hi hx hy s σ = addi_fits node mark i hm hi hx s σ
  binary_fits node op mark none (some j) hm hi hx hy s σ = next (dropped_fits node hy s σ) λ a t τ p. both_fits node op mark hm hx hy t τ
  binary_fits node op mark none none hm hi hx hy s σ = both_fits node op mark hm hx hy s σ

  pub logical_fits : (node op mark : ℕ) {x y : M Chunk} → Marks mark → Chunks x → Chunks y → Chunks (visit_logical node op mark x y)
  unfolding visit_logical
  logical_fits node op mark hm hx hy s σ =
      bind (hx s σ) λ l t τ p. bind (hy t τ) λ r u υ q.
      by_pure _ υ (record {
        code = join Marks l.code _ p.code
            (guarded Marks l.result (or_flag (eqb op or)) mark _ r.code _ p.result (or_small (eqb op or)) hm q.code (plain Marks Move l.result r.result 0 mark refl (omega (arith, p.result)) (omega (arith, q.result)) (omega arith) hm));
        result = p.result;
      })

  registers_taken : (node n : ℕ) (s : State) → Held Marks s → Gives (Held Marks) (next_registers node n) s (λ a t. regs t ≡ regs s + n)
  unfolding next_registers
  registers_taken node zero s σ = by_pure tt σ (omega arith)
  registers_taken node (suc n) s σ = bind (takes node s σ) λ r t τ q. weaken (registers_taken node n t τ) (λ a u e. omega arith)

  pub call_fits : (node mark n : ℕ) {f : M Chunk} {xs : ℕ → M (List Instruction)} → Marks mark → Chunks f → ((r : ℕ) → r + n ≤ 255 → Codes (xs r)) → Chunks (visit_call node mark n f xs)
  unfolding visit_call
  call_fits node mark n hm hf hxs s σ =
      bind (hf s σ) λ c t1 σ1 p1. bind (takes node t1 σ1) λ f t2 σ2 p2. bind (takes node t2 σ2) λ r t3 σ3 p3.
      next (registers_taken node (n - 1) t3 σ3) λ a t4 σ4 p4.
      let few = σ4.inner.registers in
      let l : r + n ≤ 255 = omega (arith, few) in
      bind (hxs r l t4 σ4) λ code t5 σ5 p5. bind (takes node t5 σ5) λ x t6 σ6 p6.
      by_pure _ σ6 (record {
        code = join Marks c.code _ p1.code (
          plain Marks Move f c.result 0 mark refl (omega arith) (omega (arith, p1.result)) (omega arith) hm,
          plus_one Marks code _ p5 (plain Marks Call f (n + 1) (x + 1) mark refl (omega arith) (omega (arith, l)) (omega arith) hm),
        );
        result = omega arith;
      })

  pub argument_fits : (r : ℕ) {x : M Chunk} {xs : M (List Instruction)} → r < 256 → Chunks x → Codes xs → Codes (visit_argument r x xs)
  unfolding visit_argument
  argument_fits r h hx hxs s σ =
      bind (hx s σ) λ c t τ p. bind (hxs t τ) λ more u υ q.
      by_pure _ υ (join Marks c.code _ p.code (plain Marks Move r c.result 0 no_mark refl h (omega (arith, p.result)) (omega arith) absent, q))

  -- ---- functions

  parameters_taken : (node : ℕ) (ps : List Token) (s : State) → Held Marks s → Gives (Held Marks) (parameters node ps) s (λ a t. regs t ≡ regs s + length ps)
  unfolding parameters
  parameters_taken node [] s σ = by_pure tt σ (omega arith)
  parameters_taken node (p ∷ ps) s σ =
      bind (takes node s σ) λ r t τ q. next (allocates _ r t τ (omega arith)) λ a u υ e. weaken (parameters_taken node ps u υ) (λ b v e'. omega arith)

  return_of_fits : (node r : ℕ) (code : List Instruction) → r < 254 → Code Marks code → Codes (return_of_code node r code)
  unfolding return_of_code
  return_of_fits node r [] h k s σ = by_refuse _ node s
  return_of_fits node r (x ∷ xs) h k s σ =
      by_pure _ σ (plus_one Marks (x ∷ xs) _ k (plain Marks Return r (r + 2) 0 (last_mark x xs) refl (omega arith) (omega arith) (omega arith) (last_fits Marks x xs k)))

  close_fits : (node : ℕ) (cs : List Chunk) → Row Marks cs → Codes (close_body node cs)
  unfolding close_body
  close_fits node [] k s σ = by_pure _ σ tt
  close_fits node (c ∷ []) k s σ =
      either_known _ (λ e. by_refuse _ node s) λ e.
      let ne = eqb-false c.result 254 e in return_of_fits node c.result c.code (omega (arith, ne, k.0.result)) k.0.code s σ
  close_fits node (c ∷ d ∷ cs) k s σ = by_pure _ σ (joined_fits Marks (c ∷ d ∷ cs) k)

  body_fits : (node : ℕ) {b : M (List Chunk)} → Rows b → Codes (visit_body node b)
  unfolding visit_body
  body_fits node hb = block_gives λ s σ. bind (hb s σ) λ cs t τ q. close_fits node cs q t τ

  function_code_fits : (node : ℕ) (ps : List Token) {b : M (List Chunk)} → Rows b → Always Marks (function_code node ps b) (λ code t. Body Marks (length ps) code)
  unfolding function_code
  function_code_fits node ps hb s σ =
      bind (takes node s σ) λ r t τ q. next (parameters_taken node ps t τ) λ a u υ e.
      let few = υ.inner.registers in
      weaken (body_fits node hb u υ) (λ code v k. (k, omega (arith, few)))

  first_fits : (ps : List Token) → All (TokenFits Marks) ps → Marks (first_mark ps)
  first_fits [] h = absent
  first_fits (p ∷ ps) h = h.0.mark

  pub function_fits : (node : ℕ) (ps : List Token) {b : M (List Chunk)} → All (TokenFits Marks) ps → Rows b → Chunks (visit_function node ps b)
  unfolding visit_function
  function_fits node ps h hb s σ =
      bind (takes node s σ) λ r t τ q. bind (function_gives absent node no_name (length ps) (omega arith) (function_code_fits node ps hb) t τ) λ i u υ e.
      by_pure _ υ (record { code = (numbered Marks Closure r i (first_mark ps) refl (omega arith) (first_fits ps h), tt); result = omega arith })

  define_fits : (node : ℕ) (x : Token) (c : Chunk) → TokenFits Marks x → Good Marks c → Chunks (define_name node x c)
  unfolding define_name is_global_context
  define_fits node x c h k s σ =
      bind (gets _ s σ) λ b t τ e.
      either b
      (bind (stores node _ h.name t τ) λ i u υ e'.
      by_pure _ υ (record { code = plus_one Marks c.code _ k.code (numbered Marks SetGlobal c.result i x.mark refl (omega (arith, k.result)) h.mark); result = k.result }))
      (next (allocates _ _ t τ k.result) λ a u υ e'. by_pure c υ k)

  declare_fits : (x : Token) → Always Marks (declare_name x) Whatever
  unfolding declare_name is_global_context only_if
  declare_fits x s σ = bind (gets _ s σ) λ b t τ e. either b (weaken (globals _ t τ) (λ a u e'. tt)) (by_pure tt τ tt)

  fun_code_fits : (node : ℕ) (x : Token) (ps : List Token) {b : M (List Chunk)} → TokenFits Marks x → Rows b → Always Marks (fun_code node x ps b) (λ code t. Body Marks (length ps) code)
  unfolding fun_code
  fun_code_fits node x ps h hb s σ =
      bind (takes node s σ) λ self t1 τ1 p1. next (allocates _ self t1 τ1 (omega arith)) λ a t2 τ2 p2. next (parameters_taken node ps t2 τ2) λ b t3 τ3 p3.
      let few = τ3.inner.registers in
      bind (body_fits node hb t3 τ3) λ code t4 τ4 p4.
      by_pure _ τ4 ((plain Marks GetCurrentFunc self 0 0 x.mark refl (omega arith) (omega arith) (omega arith) h.mark, p4), omega (arith, few))

  pub fun_fits : (node : ℕ) (x : Token) (ps : List Token) {b : M (List Chunk)} → TokenFits Marks x → Rows b → Chunks (visit_fun node x ps b)
  unfolding visit_fun
  fun_fits node x ps h hb s σ =
      bind (takes node s σ) λ r t τ q. next (declare_fits x t τ) λ a u υ e.
      bind (function_gives absent node x.name (length ps) h.name (fun_code_fits node x ps h hb) u υ) λ i v ν e'.
      define_fits node x _ h (record { code = (numbered Marks Closure r i x.mark refl (omega arith) h.mark, tt); result = omega arith }) v ν

  -- ---- statements

  new_global_fits : (node : ℕ) (x : Token) → TokenFits Marks x → Always Marks (new_global node x) Whatever
  unfolding new_global is_global_var
  new_global_fits node x h s σ =
      bind (gets _ s σ) λ b t τ e. either b (by_refuse _ node t) (next (globals _ t τ) λ a u υ e'. weaken (stores node _ h.name u υ) (λ k v e''. tt))

  pub let_as_fits : (node : ℕ) (x : Token) {i : M Chunk} → TokenFits Marks x → Chunks i → Chunks (visit_let_as node x i)
  unfolding visit_let_as is_global_context
  let_as_fits node x h hi s σ =
      bind (gets _ s σ) λ b t τ e.
      either b
      (bind (new_global_fits node x h t τ) λ k u υ e1. bind (hi u υ) λ c v ν p.
      by_pure _ ν (record { code = plus_one Marks c.code _ p.code (numbered Marks SetGlobal c.result k x.mark refl (omega (arith, p.result)) h.mark); result = p.result }))
      (bind (hi t τ) λ c u υ p. next (allocates _ _ u υ p.result) λ a v ν e2. by_pure c ν p)

  pub let_only_fits : (node : ℕ) (x : Token) → TokenFits Marks x → Chunks (visit_let_only node x)
  unfolding visit_let_only is_global_context
  let_only_fits node x h s σ =
      bind (gets _ s σ) λ b t τ e.
      either b
      (bind (new_global_fits node x h t τ) λ k u υ e1. bind (takes node u υ) λ r v ν p.
      by_pure _ ν (record {
        code = (plain Marks LoadNil r 0 0 x.mark refl (omega arith) (omega arith) (omega arith) h.mark, (numbered Marks SetGlobal r k x.mark refl (omega arith) h.mark, tt));
        result = omega arith;
      }))
      (bind (takes node t τ) λ r u υ p. next (allocates _ r u υ (omega arith)) λ a v ν e2. by_pure _ ν (record { code = tt; result = omega arith }))

  pub block_fits : {b : M (List Chunk)} → Rows b → Chunks (visit_block b)
  unfolding visit_block
  block_fits hb = block_gives λ s σ. bind (hb s σ) λ cs t τ p. by_pure _ τ (record { code = joined_fits Marks cs p; result = omega arith })

  pub while_fits : (node mark : ℕ) {c b : M Chunk} → Marks mark → Chunks c → Chunks b → Chunks (visit_while node mark c b)
  unfolding visit_while
  while_fits node mark hm hc hb s σ =
      bind (hc s σ) λ c t τ p. bind (loop_gives hb t τ) λ b u υ q.
      by_pure _ υ (record { code = loop_fits Marks _ mark [] c.code _ b.code hm tt p.code p.result q.code; result = p.result })

  pub for_fits : (mode node mark : ℕ) {i : M (List Chunk)} {c n b : M Chunk} → Marks mark → Rows i → Chunks c → Chunks n → Chunks b → Chunks (visit_classic_for mode node mark i c n b)
  unfolding visit_classic_for
  for_fits mode node mark hm hi hc hn hb s σ =
      bind (hi s σ) λ i t1 τ1 p1. bind (hc t1 τ1) λ c t2 τ2 p2. bind (loop_gives hb t2 τ2) λ b t3 τ3 p3. bind (hn t3 τ3) λ n t4 τ4 p4.
      by_pure _ τ4 (record {
        code = loop_fits Marks _ mark (joined i) c.code _ (b.code ++ n.code) hm (joined_fits Marks i p1) p2.code p2.result (join Marks b.code _ p3.code p4.code);
        result = omega arith;
      })

  each_fits : (node mark element i : ℕ) (xs : List Token) → Marks mark → element < 255 → (s : State) → Held Marks s → i ≤ regs s → Gives (Held Marks) (iterate_each node mark element i xs) s (λ code t. Code Marks code)
  unfolding iterate_each
  each_fits node mark element i [] hm h s σ k = by_pure _ σ tt
  each_fits node mark element i (x ∷ xs) hm h s σ k =
      bind (takes node s σ) λ r t τ q. next (allocates _ r t τ (omega arith)) λ a u υ e.
      bind (each_fits node mark element (suc i) xs hm h u υ (omega arith)) λ more v ν p.
      by_pure _ ν (plain Marks GetIteri r element i mark refl (omega arith) (omega arith) (omega arith) hm, p)

  iterate_fits : (node mark element collection counter : ℕ) (xs : List Token) → Marks mark → element < 255 → collection < 255 → counter < 255 → Codes (iterate node mark element collection counter xs)
  unfolding iterate
  iterate_fits node mark element collection counter [] hm h1 h2 h3 s σ = by_pure _ σ tt
  iterate_fits node mark element collection counter (x ∷ []) hm h1 h2 h3 s σ =
      next (allocates _ _ s σ h1) λ a t τ e. by_pure _ τ (plain Marks GetIterk element collection counter mark refl (omega arith) (omega arith) (omega arith) hm, tt)
  iterate_fits node mark element collection counter (x ∷ y ∷ xs) hm h1 h2 h3 s σ =
      bind (each_fits node mark element 0 (x ∷ y ∷ xs) hm h1 s σ (omega arith)) λ parts t τ p.
      by_pure _ τ (plain Marks GetIter element collection counter mark refl (omega arith) (omega arith) (omega arith) hm, p)

  pub for_in_fits : (mode node mark : ℕ) (xs : List Token) {c b : M Chunk} → Marks mark → Chunks c → Chunks b → Chunks (visit_for_in mode node mark xs c b)
  unfolding visit_for_in
  for_in_fits mode node mark xs hm hc hb s σ =
      bind (takes node s σ) λ counter t1 τ1 p1. bind (takes node t1 τ1) λ size t2 τ2 p2. bind (takes node t2 τ2) λ condition t3 τ3 p3. bind (takes node t3 τ3) λ element t4 τ4 p4.
      bind (stores node _ (omega arith) t4 τ4) λ k t5 τ5 p5. bind (hc t5 τ5) λ c t6 τ6 p6.
      bind (iterate_fits node mark element _ counter xs hm (omega arith) p6.result (omega arith) t6 τ6) λ heads t7 τ7 p7.
      bind (loop_gives hb t7 τ7) λ b t8 τ8 p8.
      let r = p6.result in
      by_pure _ τ8 (record {
        code = loop_fits Marks _ mark (inst_bx LoadK counter k mark ∷ c.code) (inst Length size c.result 0 mark ∷ inst Lt condition counter size mark ∷ []) condition (heads ++ (b.code ++ inst Addi counter counter 1 mark ∷ [])) hm
            (numbered Marks LoadK counter k mark refl (omega arith) hm, p6.code)
            (plain Marks Length size c.result 0 mark refl (omega arith) (omega (arith, r)) (omega arith) hm, (plain Marks Lt condition counter size mark refl (omega arith) (omega arith) (omega arith) hm, tt))
            (omega arith)
            (join Marks heads _ p7 (plus_one Marks b.code _ p8.code (plain Marks Addi counter counter 1 mark refl (omega arith) (omega arith) (omega arith) hm)));
        result = omega arith;
      })

  pub jump_fits : (node kind mark : ℕ) → Marks mark → kind < 256 → Chunks (visit_jump node kind mark)
  unfolding visit_jump
  jump_fits node kind mark hm hk s σ =
      bind (gets _ s σ) λ l t τ e. either _ (by_refuse _ node t) (by_pure _ τ (record { code = (plain Marks Jmp kind 0 0 mark refl hk (omega arith) (omega arith) hm, tt); result = omega arith }))

  pub return_fits : (node mark : ℕ) {x : M Chunk} → Marks mark → Chunks x → Chunks (visit_return node mark x)
  unfolding visit_return
  return_fits node mark hm hx s σ =
      bind (hx s σ) λ c t τ p.
      either_known _ (λ e. by_refuse _ node t) λ e.
      let ne = eqb-false c.result 254 e in
      let r = p.result in
      by_pure _ τ (record { code = plus_one Marks c.code _ p.code (plain Marks Return c.result (c.result + 2) 0 mark refl (omega (arith, r)) (omega (arith, r, ne)) (omega arith) hm); result = omega arith })

  pub return_none_fits : (mark : ℕ) → Marks mark → Chunks (visit_return_none mark)
  unfolding visit_return_none
  return_none_fits mark hm s σ = by_pure _ σ (record { code = (plain Marks Return 0 0 0 mark refl (omega arith) (omega arith) (omega arith) hm, tt); result = omega arith })

  pub if_fits : (node mark : ℕ) {c : M Chunk} {t e : M (List Chunk)} {es : M (List Instruction)} → Marks mark → Chunks c → Rows t → Codes es → Rows e → Chunks (visit_if node mark c t es e)
  unfolding visit_if
  if_fits node mark hm hc ht hs he s σ =
      bind (hc s σ) λ c t1 τ1 p1. bind (ht t1 τ1) λ t t2 τ2 p2. bind (hs t2 τ2) λ es t3 τ3 p3. bind (he t3 τ3) λ e t4 τ4 p4.
      by_pure _ τ4 (record {
        code = patch_ends_fits Marks (branch_code mark c (joined t) ++ (es ++ joined e))
            (join Marks (branch_code mark c (joined t)) _ (branch_fits Marks mark c (joined t) hm p1 (joined_fits Marks t p2)) (join Marks es _ p3 (joined_fits Marks e p4)));
        result = omega arith;
      })

  pub elif_fits : {c : M Chunk} {b : M (List Chunk)} {es : M (List Instruction)} → Chunks c → Rows b → Codes es → Codes (visit_elif c b es)
  unfolding visit_elif
  elif_fits hc hb hs s σ =
      bind (hc s σ) λ c t1 τ1 p1. bind (hb t1 τ1) λ b t2 τ2 p2. bind (hs t2 τ2) λ more t3 τ3 p3.
      by_pure _ τ3 (join Marks (branch_code no_mark c (joined b)) _ (branch_fits Marks no_mark c (joined b) absent p1 (joined_fits Marks b p2)) p3)

  catch_fits : (node : ℕ) (x : Token) {c : M Chunk} → TokenFits Marks x → Chunks c → Codes (visit_catch node x c)
  unfolding visit_catch
  catch_fits node x h hc s σ =
      bind (takes node s σ) λ r t τ q. next (allocates _ r t τ (omega arith)) λ a u υ e. bind (hc u υ) λ c v ν p.
      by_pure _ ν (plain Marks GetExcept r 0 0 x.mark refl (omega arith) (omega arith) (omega arith) h.mark, (plain Marks DeregisterTryCatch 0 0 0 no_mark refl (omega arith) (omega arith) (omega arith) absent, p.code))

  pub try_stmt_fits : (node : ℕ) (x : Token) {b c : M Chunk} → TokenFits Marks x → Chunks b → Chunks c → Chunks (visit_try node x b c)
  unfolding visit_try
  try_stmt_fits node x h hb hc s σ =
      bind (hb s σ) λ b t τ p. bind (block_gives (catch_fits node x h hc) t τ) λ code u υ q.
      by_pure _ υ (record { code = try_fits Marks absent b.code code p.code q; result = omega arith })

  super_fits : (node : ℕ) (x : Token) (p : Super) → TokenFits Marks x → SuperFits Marks p → Chunks (visit_super node x p)
  unfolding visit_super
  super_fits node x no_super h k s σ =
      bind (takes node s σ) λ r t τ q. by_pure _ τ (record { code = (plain Marks LoadNil r 0 0 x.mark refl (omega arith) (omega arith) (omega arith) h.mark, tt); result = omega arith })
  super_fits node x (super n y) h k s σ = variable_fits n y k s σ

  -- methods, given where they are put
  abbrev pub Methods : (ℕ → ℕ → ℕ → M (List Instruction)) → Type 0
  Methods ms = (op result tmp : ℕ) → Written op → result < 255 → tmp < 255 → Codes (ms op result tmp)

  pub method_fits : (node mark op result tmp name : ℕ) {f : M Chunk} {fs : M (List Instruction)} → Marks mark → Written op → result < 255 → tmp < 255 → name < 65536
      → Chunks f → Codes fs → Codes (visit_method node mark op result tmp name f fs)
  unfolding visit_method
  method_fits node mark op result tmp name hm w hr ht hn hf hs s σ =
      bind (hf s σ) λ c t τ p. bind (stores node _ hn t τ) λ k u υ e. bind (hs u υ) λ more v ν q.
      by_pure _ ν (join Marks c.code _ p.code (numbered Marks LoadK tmp k mark refl (omega arith) hm, (plain Marks op result tmp c.result mark w (omega arith) (omega arith) (omega (arith, p.result)) hm, q)))

  methods_fit : {ms ts : ℕ → ℕ → ℕ → M (List Instruction)} (result tmp : ℕ) → Methods ms → Methods ts → result < 255 → tmp < 255 → Codes (visit_methods (ms ClassMeth result tmp) (ts ClassStMeth result tmp))
  unfolding visit_methods
  methods_fit r tmp hm ht hr hk =
      block_gives λ s σ. bind (hm ClassMeth r tmp refl hr hk s σ) λ m t τ p. bind (ht ClassStMeth r tmp refl hr hk t τ) λ ts u υ q. by_pure _ υ (join Marks m ts p q)

  pub class_fits : (node : ℕ) (x : Token) (p : Super) {ms ts : ℕ → ℕ → ℕ → M (List Instruction)} → TokenFits Marks x → SuperFits Marks p → Methods ms → Methods ts → Chunks (visit_class node x p ms ts)
  unfolding visit_class
  class_fits node x p h k hm ht s σ =
      bind (takes node s σ) λ r t1 τ1 p1. next (declare_fits x t1 τ1) λ a t2 τ2 p2. bind (takes node t2 τ2) λ tmp t3 τ3 p3. bind (stores node _ h.name t3 τ3) λ i t4 τ4 p4.
      bind (super_fits node x p h k t4 τ4) λ c t5 τ5 p5. bind (methods_fit r tmp hm ht (omega arith) (omega arith) t5 τ5) λ ms t6 τ6 p6.
      define_fits node x _ h (record {
        code = (numbered Marks LoadK tmp i x.mark refl (omega arith) h.mark, join Marks c.code _ p5.code (plain Marks Class r tmp c.result x.mark refl (omega arith) (omega arith) (omega (arith, p5.result)) h.mark, p6));
        result = omega arith;
      }) t6 τ6

  pub row_fits : {x : M Chunk} {xs : M (List Chunk)} → Chunks x → Rows xs → Rows (row x xs)
  unfolding row
  row_fits hx hxs s σ = bind (hx s σ) λ c t τ p. bind (hxs t τ) λ cs u υ q. by_pure _ υ (p, q)
