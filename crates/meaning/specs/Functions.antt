-- Functions (src/compiler.rs): visit_function_expr and visit_fn_stmt, which lower their bodies alike.
use Rattle.std.specs.Prelude.{ℕ, ◌+◌, List, [], ◌∷◌, ◌++◌, length, eqb}
use Rattle.meaning.specs.Opcode.{inst, inst_bx, no_mark, Return, Closure, SetGlobal, GetCurrentFunc}
use Rattle.meaning.specs.Constant.{text}
use Rattle.meaning.specs.declared.Token.{Token}
use Rattle.meaning.specs.State.{Chunk, M, ◌>>=◌, ◌>>◌, pure, refuse, if_then, only_if, next_register, allocate_register, in_block, add_constant, is_global_context, add_global, in_function}
use Rattle.meaning.specs.Chunk.{chunk, joined}
use Rattle.meaning.specs.declared.Cause.TheVariants.{Empty, Returned}
use Rattle.meaning.specs.declared.Instruction.{Instruction}

-- a register and a local for each parameter
unfoldable pub parameters : ℕ → List Token → M (Unit {0})
parameters node [] = pure tt
parameters node (p ∷ ps) = do
  r ← next_register node
  allocate_register p.name r
  parameters node ps

-- the mark of the last instruction
abbrev pub last_mark : Instruction → List Instruction → ℕ
last_mark x [] = x.mark
last_mark x (y ∷ ys) = last_mark y ys

-- the Return of a body of one statement: 12 Empty where it gave no instruction
unfoldable pub return_of_code : ℕ → ℕ → List Instruction → M (List Instruction)
return_of_code node r [] = refuse Empty node
return_of_code node r (x ∷ xs) = pure (x ∷ (xs ++ inst Return r (r + 2) 0 (last_mark x xs) ∷ []))

-- a function's body: 13 Return, then 12 Empty
unfoldable pub close_body : ℕ → List Chunk → M (List Instruction)
close_body node [] = pure []
close_body node (c ∷ []) = if_then (eqb c.result 254) (refuse Returned node) (return_of_code node c.result c.code)
close_body node (c ∷ d ∷ cs) = pure (joined (c ∷ d ∷ cs))

-- a body is lowered in a block of its own, which the parameters are not in
unfoldable pub visit_body : ℕ → M (List Chunk) → M (List Instruction)
visit_body node body = in_block do
  cs ← body
  close_body node cs

-- the mark of the first parameter
abbrev pub first_mark : List Token → ℕ
first_mark [] = no_mark
first_mark (p ∷ ps) = p.mark

-- "Function expressions and the main prototype have name 65,535"
abbrev pub no_name : ℕ
no_name = 65535

-- fn visit_function_expr, between enter_function and leave_function
unfoldable pub function_code : ℕ → List Token → M (List Chunk) → M (List Instruction)
function_code node params body = do
  r ← next_register node
  parameters node params
  visit_body node body

-- fn visit_function_expr
unfoldable pub visit_function : ℕ → List Token → M (List Chunk) → M Chunk
visit_function node params body = do
  r ← next_register node
  index ← in_function node no_name (length params) (function_code node params body)
  pure (chunk (inst_bx Closure r index (first_mark params) ∷ []) r)

-- fn visit_fn_stmt, between enter_function and leave_function
unfoldable pub fun_code : ℕ → Token → List Token → M (List Chunk) → M (List Instruction)
fun_code node x params body = do
  self ← next_register node
  allocate_register x.name self
  parameters node params
  code ← visit_body node body
  pure (inst GetCurrentFunc self 0 0 x.mark ∷ code)

-- the end of a function statement and of a class: SetGlobal where the context is global, else a local
unfoldable pub define_name : ℕ → Token → Chunk → M Chunk
define_name node x c = do
  global ← is_global_context
  if_then global
      (do
        k ← add_constant node (text x.name)
        pure (chunk (c.code ++ inst_bx SetGlobal c.result k x.mark ∷ []) c.result))
      (do
        allocate_register x.name c.result
        pure c)

-- the start of both: a global's name is known from here on
unfoldable pub declare_name : Token → M (Unit {0})
declare_name x = do
  global ← is_global_context
  only_if global (add_global x.name)

-- fn visit_fn_stmt
unfoldable pub visit_fun : ℕ → Token → List Token → M (List Chunk) → M Chunk
visit_fun node x params body = do
  r ← next_register node
  declare_name x
  index ← in_function node x.name (length params) (fun_code node x params body)
  define_name node x (chunk (inst_bx Closure r index x.mark ∷ []) r)
