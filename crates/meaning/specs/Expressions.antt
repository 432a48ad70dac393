-- impl ExprVisitor for Compiler (src/compiler.rs). Each `visit_` routine is a definition that is handed the lowering of its children.
use Rattle.std.specs.Prelude.{ℕ, zero, suc, ◌+◌, ◌-◌, Bool, true, false, List, [], ◌∷◌, ◌++◌, length, eqb}
use Rattle.std.proofs.Math.Option.{Option, none, some}
use Rattle.meaning.specs.Opcode.{inst, inst_bx, no_mark, unary_opcode, binary_opcode, or, Move, LoadK, Jmp, Test, Call, GetUpval, Closure, Addi, GetGlobal, GetBuiltin}
use Rattle.meaning.specs.Constant.{Constant, text}
use Rattle.meaning.specs.declared.Token.{Token}
use Rattle.meaning.specs.State.{Chunk, M, ◌>>=◌, ◌>>◌, pure, refuse, if_then, next_register, add_constant, is_global_var, is_builtin_var, get_var_register, get_upvalue}
use Rattle.meaning.specs.Chunk.{chunk}
use Rattle.meaning.specs.declared.Cause.TheVariants.{Undefined}
use Rattle.meaning.specs.declared.Instruction.{Instruction}

-- fn visit_literal_expr
unfoldable pub visit_literal : ℕ → Constant → M Chunk
visit_literal node value = do
  r ← next_register node
  k ← add_constant node value
  pure (chunk (inst_bx LoadK r k no_mark ∷ []) r)

-- a builtin or a global: its name is a constant
unfoldable pub named : ℕ → ℕ → Token → M Chunk
named op node x = do
  r ← next_register node
  k ← add_constant node (text x.name)
  pure (chunk (inst_bx op r k x.mark ∷ []) r)

-- fn visit_variable_expr, after the current function's locals and the captures
unfoldable pub visit_outside : ℕ → Token → M Chunk
visit_outside node x =
    if_then (is_builtin_var x.name) (named GetBuiltin node x) do
      known ← is_global_var x.name
      if_then known (named GetGlobal node x) (refuse Undefined node)

-- after the current function's locals
unfoldable pub visit_captured : ℕ → Token → Option ℕ → M Chunk
visit_captured node x none = visit_outside node x
visit_captured node x (some i) = do
  r ← next_register node
  pure (chunk (inst GetUpval r i 0 x.mark ∷ []) r)

-- a local's register is the result, without an instruction; else a capture is asked for
unfoldable pub visit_local : ℕ → Token → Option ℕ → M Chunk
visit_local node x (some r) = pure (chunk [] r)
visit_local node x none = do
  i ← get_upvalue node x.name
  visit_captured node x i

-- fn visit_variable_expr
unfoldable pub visit_variable : ℕ → Token → M Chunk
visit_variable node x = do
  r ← get_var_register x.name
  visit_local node x r

-- fn visit_unary_expr
unfoldable pub visit_unary : (node op mark : ℕ) → M Chunk → M Chunk
visit_unary node op mark operand = do
  c ← operand
  pure (chunk (c.code ++ inst (unary_opcode op) c.result c.result 0 mark ∷ []) c.result)

-- fn binary_literal at Plus
unfoldable pub visit_addi : (node mark k : ℕ) → M Chunk → M Chunk
visit_addi node mark k left = do
  l ← left
  r ← next_register node
  pure (chunk (l.code ++ inst Addi r l.result k mark ∷ []) r)

-- fn visit_binary_expr, after the immediate forms
unfoldable pub visit_both : (node op mark : ℕ) → M Chunk → M Chunk → M Chunk
visit_both node op mark left right = do
  l ← left
  r ← right
  x ← next_register node
  pure (chunk (l.code ++ (r.code ++ inst (binary_opcode op) x l.result r.result mark ∷ [])) x)

-- fn binary_literal at Minus: the right side and a register, whose code is dropped
unfoldable pub visit_dropped : ℕ → M Chunk → M (Unit {0})
visit_dropped node right = do
  c ← right
  r ← next_register node
  pure tt

-- fn visit_binary_expr: a small number on the right of Plus, on the left of Minus, or neither
unfoldable pub visit_binary : (node op mark : ℕ) → (right-of-plus left-of-minus : Option ℕ) → M Chunk → M Chunk → M Chunk
visit_binary node op mark (some k) j left right = visit_addi node mark k left
visit_binary node op mark none (some j) left right = do
  visit_dropped node right
  visit_both node op mark left right
visit_binary node op mark none none left right = visit_both node op mark left right

-- Test's c: 1 at Or, 0 at And
abbrev pub or_flag : Bool → ℕ
or_flag true = 1
or_flag false = 0

-- fn visit_logical_expr
unfoldable pub visit_logical : (node op mark : ℕ) → M Chunk → M Chunk → M Chunk
visit_logical node op mark left right = do
  l ← left
  r ← right
  pure
      (chunk
      (l.code
      ++ (inst Test l.result l.result (or_flag (eqb op or)) mark
      ∷ inst_bx Jmp 0 (length r.code + 2) mark
      ∷ (r.code ++ inst Move l.result r.result 0 mark ∷ [])))
      l.result)

-- `for _ in 1..n`: one more register for each argument after the first
unfoldable pub next_registers : ℕ → ℕ → M (Unit {0})
next_registers node zero = pure tt
next_registers node (suc n) = do
  r ← next_register node
  next_registers node n

-- fn visit_call_expr, n arguments: `arguments start` lowers them, each moved to its register
unfoldable pub visit_call : (node mark n : ℕ) → M Chunk → (ℕ → M (List Instruction)) → M Chunk
visit_call node mark n callee arguments = do
  c ← callee
  f ← next_register node
  start ← next_register node
  next_registers node (n - 1)
  code ← arguments start
  r ← next_register node
  pure (chunk (c.code ++ (inst Move f c.result 0 mark ∷ (code ++ inst Call f (n + 1) (r + 1) mark ∷ []))) r)

-- one argument, then the others
unfoldable pub visit_argument : ℕ → M Chunk → M (List Instruction) → M (List Instruction)
visit_argument register argument others = do
  c ← argument
  more ← others
  pure (c.code ++ (inst Move register c.result 0 no_mark ∷ more))
