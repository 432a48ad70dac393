-- Each function of the lowering as the line of its calls: `s1 ← f` is a call whose step s1 is read later on (`s1.code`, `s1.result`), a line f alone one
-- whose step is only handed on. That a line does what its visitor does is the visitor's law (ExpressionsForward, FunctionsForward, StatementsForward);
-- that the equations of its calls make the equation of the whole is its chain (Chains).
use Prim.Native.Nat.{ℕ, suc, ◌+◌}
use mathlib.Core.List.{List}
use mathlib.Core.Option.{Option, none, some}
use lib.ListN.{length}
use lib.Dec.{eqb}
use Rattle.meaning.specs.Opcode.{inst, inst_bx, no_mark, unary_opcode, binary_opcode, or, Move, LoadK, LoadNil, Jmp, GetUpval, Addi, GetIter, GetIterk, GetIteri, GetGlobal, GetBuiltin, ClassMeth, ClassStMeth, SetGlobal}
use Rattle.meaning.specs.Constant.{Constant, text}
use Rattle.meaning.specs.declared.Token.{Token}
use Rattle.meaning.specs.Syntax.{Super}
use Rattle.meaning.specs.State.{Chunk, M, get, next_register, allocate_register, enter_block, leave_block, enter_loop, leave_loop, add_constant, is_global_context, is_global_var, is_builtin_var, add_global, get_var_register, get_upvalue, enter_function}
use Rattle.meaning.specs.Expressions.{or_flag, named, visit_outside, visit_both, next_registers}
use Rattle.meaning.specs.Functions.{parameters, visit_body, first_mark, no_name}
use Rattle.meaning.specs.Statements.{new_global, iterate_each, visit_super}
use Rattle.meaning.specs.declared.Cause.TheVariants.{Undefined, Redefined, Stray}
use Rattle.meaning.specs.declared.Instruction.{Instruction}
use Rattle.forward.specs.Forward.{stop, sure, emit, give, put, fwd, fwd_code, fwd_row, fwd_number, fwd_unit, fwd_zero, test_and_jump, roll_back, end_logical, open_call, end_call, open_function, open_fun, end_body, end_function, declare, end_fun, end_loop, open_for_in, head_for_in, end_for_in, end_return, end_branch, end_if, open_try_body, end_try_body, open_catch, end_try, open_class, make_class, add_method, end_class}
use Rattle.forward.proofs.Calls.{Calls, finally, answer, choose, entry, ◌>>=◌, ◌>>◌}

-- ---- literals and variables

abbrev pub literal_calls : ℕ → Constant → Calls
literal_calls node v = do
  s1 ← fwd_number (next_register node)
  s2 ← fwd_number (add_constant node v)
  finally (sure (put s1.result (inst_bx LoadK s1.result s2.result no_mark)))

abbrev pub named_calls : (op node : ℕ) → Token → Calls
named_calls op node x = do
  s1 ← fwd_number (next_register node)
  s2 ← fwd_number (add_constant node (text x.name))
  finally (sure (put s1.result (inst_bx op s1.result s2.result x.mark)))

abbrev pub outside_calls : ℕ → Token → Calls
outside_calls node x =
    choose (is_builtin_var x.name) (finally (fwd (named GetBuiltin node x)))
    (answer (is_global_var x.name) λ g. choose g (finally (fwd (named GetGlobal node x))) (finally (stop Undefined node)))

abbrev pub captured_calls : ℕ → Token → Option ℕ → Calls
captured_calls node x none = finally (fwd (visit_outside node x))
captured_calls node x (some i) = do
  s1 ← fwd_number (next_register node)
  finally (sure (emit (inst GetUpval s1.result i 0 x.mark)))

abbrev pub local_calls : ℕ → Token → Option ℕ → Calls
local_calls node x (some r) = finally (sure (give r))
local_calls node x none = answer (get_upvalue node x.name) λ i. captured_calls node x i

abbrev pub variable_calls : ℕ → Token → Calls
variable_calls node x = answer (get_var_register x.name) λ r. local_calls node x r

-- ---- operators

abbrev pub unary_calls : (op mark : ℕ) → M Chunk → Calls
unary_calls op mark x = do
  s1 ← fwd x
  finally (sure (emit (inst (unary_opcode op) s1.result s1.result 0 mark)))

abbrev pub addi_calls : (node mark k : ℕ) → M Chunk → Calls
addi_calls node mark k x = do
  s1 ← fwd x
  s2 ← fwd_number (next_register node)
  finally (sure (emit (inst Addi s2.result s1.result k mark)))

abbrev pub both_calls : (node op mark : ℕ) → (x y : M Chunk) → Calls
both_calls node op mark x y = do
  s1 ← fwd x
  s2 ← fwd y
  s3 ← fwd_number (next_register node)
  finally (sure (emit (inst (binary_opcode op) s3.result s1.result s2.result mark)))

abbrev pub minus_calls : (node op mark : ℕ) → (x y : M Chunk) → Calls
minus_calls node op mark x y = entry λ s. do
  fwd y
  fwd_number (next_register node)
  sure (roll_back s.code)
  finally (fwd (visit_both node op mark x y))

abbrev pub logical_calls : (op mark : ℕ) → (x y : M Chunk) → Calls
logical_calls op mark x y = do
  s1 ← fwd x
  sure (test_and_jump (or_flag (eqb op or)) mark)
  fwd y
  finally (sure (end_logical s1.code s1.result mark))

-- ---- calls

abbrev pub register_calls : (node n : ℕ) → Calls
register_calls node n = do
  fwd_number (next_register node)
  finally (fwd_zero (next_registers node n))

abbrev pub call_calls : (node mark n : ℕ) → M Chunk → (ℕ → M (List Instruction)) → Calls
call_calls node mark n x xs = do
  fwd x
  s2 ← open_call node n mark
  fwd_code (xs (s2.result + 1))
  finally (end_call node n s2.result mark)

-- one turn of the loop over arguments
abbrev pub argument_calls : ℕ → M Chunk → M (List Instruction) → Calls
argument_calls register x others = do
  s1 ← fwd x
  sure (emit (inst Move register s1.result 0 no_mark))
  finally (fwd_code others)

-- ---- functions

abbrev pub parameter_calls : ℕ → Token → List Token → Calls
parameter_calls node p ps = do
  s1 ← fwd_number (next_register node)
  fwd_unit (allocate_register p.name s1.result)
  finally (fwd_zero (parameters node ps))

-- a body of n statements
abbrev pub body_calls : (n node : ℕ) → M (List Chunk) → Calls
body_calls n node xs = entry λ s. do
  fwd_unit enter_block
  fwd_row xs
  end_body n s.code node
  finally (fwd_unit leave_block)

abbrev pub function_calls : ℕ → List Token → M (List Chunk) → Calls
function_calls node ps xs = do
  s1 ← fwd_number (next_register node)
  fwd_unit (enter_function node no_name)
  open_function node ps
  fwd_code (visit_body node xs)
  finally (end_function s1.code node (length ps) s1.result (first_mark ps))

abbrev pub fun_calls : ℕ → Token → List Token → M (List Chunk) → Calls
fun_calls node x ps xs = do
  s1 ← declare node x
  fwd_unit (enter_function node x.name)
  open_fun node x ps
  fwd_code (visit_body node xs)
  finally (end_fun s1.code node x (length ps) s1.result)

abbrev pub declare_name_calls : Token → Calls
declare_name_calls x = answer is_global_context λ g. choose g (finally (fwd_unit (add_global x.name))) (finally (sure (λ c. c)))

-- ---- let, block, return, break and continue

abbrev pub new_global_calls : ℕ → Token → Calls
new_global_calls node x =
    answer (is_global_var x.name) λ g.
    choose g (finally (stop Redefined node)) do
      fwd_unit (add_global x.name)
      finally (fwd_number (add_constant node (text x.name)))

abbrev pub let_as_calls : ℕ → Token → M Chunk → Calls
let_as_calls node x y =
    answer is_global_context λ g.
    choose g
    (do
      s1 ← fwd_number (new_global node x)
      s2 ← fwd y
      finally (sure (emit (inst_bx SetGlobal s2.result s1.result x.mark))))
    (do
      s1 ← fwd y
      finally (fwd_unit (allocate_register x.name s1.result)))

abbrev pub let_only_calls : ℕ → Token → Calls
let_only_calls node x =
    answer is_global_context λ g.
    choose g
    (do
      s1 ← fwd_number (new_global node x)
      s2 ← fwd_number (next_register node)
      sure (emit (inst LoadNil s2.result 0 0 x.mark))
      finally (sure (put 0 (inst_bx SetGlobal s2.result s1.result x.mark))))
    (do
      s1 ← fwd_number (next_register node)
      finally (fwd_unit (allocate_register x.name s1.result)))

abbrev pub block_calls : M (List Chunk) → Calls
block_calls xs = do
  fwd_unit enter_block
  fwd_row xs
  sure (give 0)
  finally (fwd_unit leave_block)

-- one turn of a loop over statements
abbrev pub row_calls : M Chunk → M (List Chunk) → Calls
row_calls x xs = do
  fwd x
  finally (fwd_row xs)

abbrev pub return_calls : (node mark : ℕ) → M Chunk → Calls
return_calls node mark x = do
  fwd x
  finally (end_return node mark)

abbrev pub jump_calls : (node kind mark : ℕ) → Calls
jump_calls node kind mark = answer (get (λ s. s.current.loops)) λ n. choose (eqb n 0) (finally (stop Stray node)) (finally (sure (put 0 (inst Jmp kind 0 0 mark))))

-- ---- loops

abbrev pub while_calls : (mode mark : ℕ) → (x y : M Chunk) → Calls
while_calls mode mark x y = entry λ s. do
  s1 ← fwd x
  sure (test_and_jump 0 mark)
  fwd_unit enter_loop
  fwd y
  fwd_unit leave_loop
  finally (sure (end_loop mode s.code s.code s.code s1.code s1.result mark))

-- initializer, condition, increment, body
abbrev pub for_calls : (mode mark : ℕ) → M (List Chunk) → (x z y : M Chunk) → Calls
for_calls mode mark xs x z y = entry λ s. do
  s1 ← fwd_row xs
  s2 ← fwd x
  sure (test_and_jump 0 mark)
  fwd_unit enter_loop
  fwd y
  s3 ← fwd_unit leave_loop
  fwd z
  finally (sure (end_loop mode s.code s3.code s1.code s2.code 0 mark))

-- names, collection, body
abbrev pub for_in_calls : (mode node mark : ℕ) → List Token → (x y : M Chunk) → Calls
for_in_calls mode node mark names x y = entry λ s. do
  s1 ← open_for_in node mark
  s2 ← fwd x
  head_for_in node names s1.result mark
  fwd_unit enter_loop
  fwd y
  fwd_unit leave_loop
  finally (sure (end_for_in mode s.code s2.code s1.result mark))

-- one turn of the loop over the names of a for-in, from the i-th on
abbrev pub iterate_each_calls : (node mark element i : ℕ) → Token → List Token → Calls
iterate_each_calls node mark element i x xs = do
  s1 ← fwd_number (next_register node)
  fwd_unit (allocate_register x.name s1.result)
  sure (emit (inst GetIteri s1.result element i mark))
  finally (fwd_code (iterate_each node mark element (suc i) xs))

abbrev pub iterate_one_calls : (mark element collection counter : ℕ) → Token → Calls
iterate_one_calls mark element collection counter x = do
  fwd_unit (allocate_register x.name element)
  finally (sure (put 0 (inst GetIterk element collection counter mark)))

abbrev pub iterate_many_calls : (node mark element collection counter : ℕ) → List Token → Calls
iterate_many_calls node mark element collection counter xs = do
  sure (emit (inst GetIter element collection counter mark))
  finally (fwd_code (iterate_each node mark element 0 xs))

-- ---- if, try

-- condition, its statements, elifs, else
abbrev pub if_calls : (mark : ℕ) → M Chunk → M (List Chunk) → M (List Instruction) → M (List Chunk) → Calls
if_calls mark x xs elifs ys = entry λ s. do
  s1 ← fwd x
  sure (test_and_jump 0 mark)
  fwd_row xs
  sure (end_branch s1.code mark)
  fwd_code elifs
  fwd_row ys
  finally (sure (end_if s.code))

-- one turn of the loop over elifs
abbrev pub elif_calls : M Chunk → M (List Chunk) → M (List Instruction) → Calls
elif_calls x xs others = do
  s1 ← fwd x
  sure (test_and_jump 0 no_mark)
  fwd_row xs
  sure (end_branch s1.code no_mark)
  finally (fwd_code others)

abbrev pub try_calls : ℕ → Token → (x y : M Chunk) → Calls
try_calls node v x y = entry λ s. do
  sure open_try_body
  s2 ← fwd x
  sure end_try_body
  fwd_unit enter_block
  open_catch node v
  fwd y
  fwd_unit leave_block
  finally (sure (end_try s.code s2.code))

-- ---- classes

abbrev pub class_calls : ℕ → Token → Super → ((op class tmp : ℕ) → M (List Instruction)) → ((op class tmp : ℕ) → M (List Instruction)) → Calls
class_calls node x p ms ts = do
  s1 ← open_class node x
  fwd (visit_super node x p)
  sure (make_class s1.result x.mark)
  fwd_unit enter_block
  fwd_code (ms ClassMeth s1.result (s1.result + 1))
  fwd_code (ts ClassStMeth s1.result (s1.result + 1))
  fwd_unit leave_block
  finally (end_class node x s1.result)

-- no superclass
abbrev pub super_none_calls : ℕ → Token → Calls
super_none_calls node x = do
  s1 ← fwd_number (next_register node)
  finally (sure (emit (inst LoadNil s1.result 0 0 x.mark)))

-- one turn of the loop over methods
abbrev pub method_calls : (node mark op class tmp name : ℕ) → M Chunk → M (List Instruction) → Calls
method_calls node mark op class tmp name x others = do
  fwd x
  add_method node mark op class tmp name
  finally (fwd_code others)
