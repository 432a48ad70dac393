-- impl StmtVisitor for Compiler (src/compiler.rs). Each `visit_` routine is a definition that is handed the lowering of its children.
use Rattle.std.specs.Prelude.{ℕ, suc, ◌+◌, List, [], ◌∷◌, ◌++◌, eqb, length}
use Rattle.meaning.specs.Opcode.{inst, inst_bx, no_mark, LoadK, LoadNil, Jmp, Lt, Return, Class, ClassMeth, ClassStMeth, Addi, GetIter, GetIterk, GetIteri, Length, SetGlobal, DeregisterTryCatch, GetExcept}
use Rattle.meaning.specs.Constant.{number, text}
use Rattle.meaning.specs.declared.Token.{Token}
use Rattle.meaning.specs.Syntax.{Super, no_super, super}
use Rattle.meaning.specs.State.{Chunk, M, ◌>>=◌, ◌>>◌, pure, refuse, if_then, get, next_register, allocate_register, in_block, in_loop, add_constant, is_global_context, is_global_var, add_global}
use Rattle.meaning.specs.Chunk.{chunk, joined, continue_goal, body_place, loop_code, branch_code, patch_ends, try_code}
use Rattle.meaning.specs.Expressions.{visit_variable}
use Rattle.meaning.specs.Functions.{define_name, declare_name}
use Rattle.meaning.specs.declared.Cause.TheVariants.{Redefined, Stray, Returned}
use Rattle.meaning.specs.declared.Instruction.{Instruction}

-- fn visit_let_stmt, the name of a global: 10 Redefined
unfoldable pub new_global : ℕ → Token → M ℕ
new_global node x = do
  known ← is_global_var x.name
  if_then known (refuse Redefined node) do
    add_global x.name
    add_constant node (text x.name)

-- fn visit_let_stmt with an initializer
unfoldable pub visit_let_as : ℕ → Token → M Chunk → M Chunk
visit_let_as node x initializer = do
  global ← is_global_context
  if_then global
      (do
        k ← new_global node x
        c ← initializer
        pure (chunk (c.code ++ inst_bx SetGlobal c.result k x.mark ∷ []) c.result))
      (do
        c ← initializer
        allocate_register x.name c.result
        pure c)

-- fn visit_let_stmt without one
unfoldable pub visit_let_only : ℕ → Token → M Chunk
visit_let_only node x = do
  global ← is_global_context
  if_then global
      (do
        k ← new_global node x
        r ← next_register node
        pure (chunk (inst LoadNil r 0 0 x.mark ∷ inst_bx SetGlobal r k x.mark ∷ []) 0))
      (do
        r ← next_register node
        allocate_register x.name r
        pure (chunk [] r))

-- fn visit_block_stmt; its result is seen as register 0
unfoldable pub visit_block : M (List Chunk) → M Chunk
visit_block stmts = in_block do
  cs ← stmts
  pure (chunk (joined cs) 0)

-- fn visit_while_stmt
unfoldable pub visit_while : (node mark : ℕ) → M Chunk → M Chunk → M Chunk
visit_while node mark condition body = do
  c ← condition
  b ← in_loop body
  pure (chunk (loop_code 0 mark [] c.code c.result b.code) c.result)

-- fn visit_classic_for_stmt
unfoldable pub visit_classic_for : (mode node mark : ℕ) → M (List Chunk) → M Chunk → M Chunk → M Chunk → M Chunk
visit_classic_for mode node mark initializer condition increment body = do
  i ← initializer
  c ← condition
  b ← in_loop body
  n ← increment
  pure
      (chunk
      (loop_code (continue_goal mode (body_place (joined i) c.code + length b.code)) mark (joined i) c.code c.result (b.code ++ n.code))
      0)

-- a register and a GetIteri for each name of a for-in, from index i on
unfoldable pub iterate_each : (node mark element i : ℕ) → List Token → M (List Instruction)
iterate_each node mark element i [] = pure []
iterate_each node mark element i (x ∷ xs) = do
  r ← next_register node
  allocate_register x.name r
  more ← iterate_each node mark element (suc i) xs
  pure (inst GetIteri r element i mark ∷ more)

-- one name names the element, several its parts
unfoldable pub iterate : (node mark element collection counter : ℕ) → List Token → M (List Instruction)
iterate node mark element collection counter [] = pure []
iterate node mark element collection counter (x ∷ []) = do
  allocate_register x.name element
  pure (inst GetIterk element collection counter mark ∷ [])
iterate node mark element collection counter (x ∷ y ∷ xs) = do
  parts ← iterate_each node mark element 0 (x ∷ y ∷ xs)
  pure (inst GetIter element collection counter mark ∷ parts)

-- fn visit_enhanced_for_stmt
unfoldable pub visit_for_in : (mode node mark : ℕ) → List Token → M Chunk → M Chunk → M Chunk
visit_for_in mode node mark names collection body = do
  counter ← next_register node
  size ← next_register node
  condition ← next_register node
  element ← next_register node
  k ← add_constant node (number 0)
  c ← collection
  heads ← iterate node mark element c.result counter names
  b ← in_loop body
  let before = inst_bx LoadK counter k mark ∷ c.code
  let test = inst Length size c.result 0 mark ∷ inst Lt condition counter size mark ∷ []
  pure
      (chunk
      (loop_code (continue_goal mode (body_place before test + (length heads + length b.code))) mark before test condition
      (heads ++ (b.code ++ inst Addi counter counter 1 mark ∷ [])))
      0)

-- fn visit_break_stmt, fn visit_continue_stmt: 11 Stray outside any loop of the function
unfoldable pub visit_jump : (node kind mark : ℕ) → M Chunk
visit_jump node kind mark = do
  loops ← get (λ s. s.current.loops)
  if_then (eqb loops 0) (refuse Stray node) (pure (chunk (inst Jmp kind 0 0 mark ∷ []) 0))

-- fn visit_return_stmt with a value: 13 Return at register 254
unfoldable pub visit_return : (node mark : ℕ) → M Chunk → M Chunk
visit_return node mark value = do
  c ← value
  if_then (eqb c.result 254) (refuse Returned node)
      (pure (chunk (c.code ++ inst Return c.result (c.result + 2) 0 mark ∷ []) 0))

-- fn visit_return_stmt without one
unfoldable pub visit_return_none : ℕ → M Chunk
visit_return_none mark = pure (chunk (inst Return 0 0 0 mark ∷ []) 0)

-- fn visit_if_stmt
unfoldable pub visit_if : (node mark : ℕ) → M Chunk → M (List Chunk) → M (List Instruction) → M (List Chunk) → M Chunk
visit_if node mark condition then-branch elifs else-branch = do
  c ← condition
  t ← then-branch
  es ← elifs
  e ← else-branch
  pure (chunk (patch_ends (branch_code mark c (joined t) ++ (es ++ joined e))) 0)

-- one elif, then the others
unfoldable pub visit_elif : M Chunk → M (List Chunk) → M (List Instruction) → M (List Instruction)
visit_elif condition body others = do
  c ← condition
  b ← body
  more ← others
  pure (branch_code no_mark c (joined b) ++ more)

-- fn visit_try_catch_stmt, the catch part
unfoldable pub visit_catch : ℕ → Token → M Chunk → M (List Instruction)
visit_catch node x catch-body = do
  r ← next_register node
  allocate_register x.name r
  c ← catch-body
  pure (inst GetExcept r 0 0 x.mark ∷ inst DeregisterTryCatch 0 0 0 no_mark ∷ c.code)

-- fn visit_try_catch_stmt
unfoldable pub visit_try : ℕ → Token → M Chunk → M Chunk → M Chunk
visit_try node x body catch-body = do
  b ← body
  c ← in_block (visit_catch node x catch-body)
  pure (chunk (try_code b.code c) 0)

-- the superclass's register: the variable's, or nil
unfoldable pub visit_super : ℕ → Token → Super → M Chunk
visit_super node x (super n y) = visit_variable n y
visit_super node x no_super = do
  r ← next_register node
  pure (chunk (inst LoadNil r 0 0 x.mark ∷ []) r)

-- one method, then the others; `op` is ClassMeth or ClassStMeth
unfoldable pub visit_method : (node mark op result tmp name : ℕ) → M Chunk → M (List Instruction) → M (List Instruction)
visit_method node mark op result tmp name method others = do
  c ← method
  k ← add_constant node (text name)
  more ← others
  pure (c.code ++ (inst_bx LoadK tmp k mark ∷ inst op result tmp c.result mark ∷ more))

-- the methods, then the static methods, in a block of their own
unfoldable pub visit_methods : M (List Instruction) → M (List Instruction) → M (List Instruction)
visit_methods methods statics = in_block do
  m ← methods
  t ← statics
  pure (m ++ t)

-- fn visit_class_stmt: `methods op result tmp` lowers them
unfoldable pub visit_class : ℕ → Token → Super → ((op result tmp : ℕ) → M (List Instruction)) → ((op result tmp : ℕ) → M (List Instruction)) → M Chunk
visit_class node x superclass methods statics = do
  r ← next_register node
  declare_name x
  tmp ← next_register node
  k ← add_constant node (text x.name)
  p ← visit_super node x superclass
  ms ← visit_methods (methods ClassMeth r tmp) (statics ClassStMeth r tmp)
  define_name node x (chunk (inst_bx LoadK tmp k x.mark ∷ (p.code ++ (inst Class r tmp p.result x.mark ∷ ms))) r)
