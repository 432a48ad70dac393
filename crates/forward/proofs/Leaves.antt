-- The operations of several parts (specs/Forward), each as the line of the smaller ones: what a leaf function cites that does them one after the other.
-- Both sides say the same, so the law of each line is refl.
use Prim.Native.Nat.{ℕ, ◌+◌, ◌-◌}
use mathlib.Core.Path.{refl}
use mathlib.Core.List.{List}
use Rattle.meaning.specs.Opcode.{inst, inst_bx, no_mark, Move, LoadK, Call, SetGlobal, GetCurrentFunc, DeregisterTryCatch, GetExcept}
use Rattle.meaning.specs.Constant.{number, text}
use Rattle.meaning.specs.declared.Token.{Token}
use Rattle.meaning.specs.State.{next_register, allocate_register, add_constant, is_global_context}
use Rattle.meaning.specs.Expressions.{next_registers}
use Rattle.meaning.specs.Functions.{parameters, declare_name}
use Rattle.forward.specs.Forward.{Run, bind, sure, emit, give, put, fwd_number, fwd_unit, fwd_zero, open_call, end_call, open_function, open_fun, leave_function, closure, end_function, declare, name_result, end_fun, open_for_in, open_catch, open_class, add_method, end_class}
use Rattle.forward.proofs.Calls.{Calls, finally, answer, choose, entry, ◌>>=◌, ◌>>◌, Chain, chain}

-- ---- jumps

-- ---- expressions

abbrev pub open_call_calls : (node n mark : ℕ) → Calls
open_call_calls node n mark = entry λ s. do
  s1 ← fwd_number (next_register node)
  sure (emit (inst Move s1.result s.result 0 mark))
  fwd_number (next_register node)
  fwd_zero (next_registers node (n - 1))
  finally (sure (give s1.result))

pub open_call_chain : (node n mark : ℕ) (r : Run) → Chain (open_call_calls node n mark) r (open_call node n mark)
unfolding bind open_call
open_call_chain node n mark = chain (open_call_calls node n mark) _ (λ c. refl)

abbrev pub end_call_calls : (node n function mark : ℕ) → Calls
end_call_calls node n function mark = do
  s1 ← fwd_number (next_register node)
  finally (sure (emit (inst Call function (n + 1) (s1.result + 1) mark)))

pub end_call_chain : (node n function mark : ℕ) (r : Run) → Chain (end_call_calls node n function mark) r (end_call node n function mark)
unfolding end_call
end_call_chain node n function mark = chain (end_call_calls node n function mark) _ (λ c. refl)

-- ---- functions

abbrev pub open_function_calls : ℕ → List Token → Calls
open_function_calls node params = do
  fwd_number (next_register node)
  finally (fwd_zero (parameters node params))

pub open_function_chain : (node : ℕ) (params : List Token) (r : Run) → Chain (open_function_calls node params) r (open_function node params)
unfolding open_function
open_function_chain node params = chain (open_function_calls node params) _ (λ c. refl)

abbrev pub open_fun_calls : ℕ → Token → List Token → Calls
open_fun_calls node x params = do
  s1 ← fwd_number (next_register node)
  fwd_unit (allocate_register x.name s1.result)
  fwd_zero (parameters node params)
  finally (sure (emit (inst GetCurrentFunc s1.result 0 0 x.mark)))

pub open_fun_chain : (node : ℕ) (x : Token) (params : List Token) (r : Run) → Chain (open_fun_calls node x params) r (open_fun node x params)
unfolding open_fun
open_fun_chain node x params = chain (open_fun_calls node x params) _ (λ c. refl)

abbrev pub end_function_calls : (first node params register mark : ℕ) → Calls
end_function_calls first node params register mark = do
  leave_function first node params
  finally (sure (closure register mark))

pub end_function_chain : (first node params register mark : ℕ) (r : Run) → Chain (end_function_calls first node params register mark) r (end_function first node params register mark)
unfolding end_function
end_function_chain first node params register mark = chain (end_function_calls first node params register mark) _ (λ c. refl)

abbrev pub declare_calls : ℕ → Token → Calls
declare_calls node x = do
  fwd_number (next_register node)
  finally (fwd_unit (declare_name x))

pub declare_chain : (node : ℕ) (x : Token) (r : Run) → Chain (declare_calls node x) r (declare node x)
unfolding declare
declare_chain node x = chain (declare_calls node x) _ (λ c. refl)

abbrev pub name_result_calls : ℕ → Token → Calls
name_result_calls node x =
    entry λ s.
    answer is_global_context λ g.
    choose g
    (do
      s1 ← fwd_number (add_constant node (text x.name))
      finally (sure (put s.result (inst_bx SetGlobal s.result s1.result x.mark))))
    (finally (fwd_unit (allocate_register x.name s.result)))

pub name_result_chain : (node : ℕ) (x : Token) (r : Run) → Chain (name_result_calls node x) r (name_result node x)
unfolding name_result
name_result_chain node x = chain (name_result_calls node x) _ (λ c. refl)

abbrev pub end_fun_calls : (first node : ℕ) → Token → (params register : ℕ) → Calls
end_fun_calls first node x params register = do
  leave_function first node params
  sure (closure register x.mark)
  finally (name_result node x)

pub end_fun_chain : (first node : ℕ) (x : Token) (params register : ℕ) (r : Run) → Chain (end_fun_calls first node x params register) r (end_fun first node x params register)
unfolding bind end_fun
end_fun_chain first node x params register = chain (end_fun_calls first node x params register) _ (λ c. refl)

-- ---- loops

abbrev pub open_for_in_calls : (node mark : ℕ) → Calls
open_for_in_calls node mark = do
  s1 ← fwd_number (next_register node)
  fwd_number (next_register node)
  fwd_number (next_register node)
  fwd_number (next_register node)
  s5 ← fwd_number (add_constant node (number 0))
  finally (sure (put s1.result (inst_bx LoadK s1.result s5.result mark)))

pub open_for_in_chain : (node mark : ℕ) (r : Run) → Chain (open_for_in_calls node mark) r (open_for_in node mark)
unfolding open_for_in
open_for_in_chain node mark = chain (open_for_in_calls node mark) _ (λ c. refl)

-- ---- if, try

abbrev pub open_catch_calls : ℕ → Token → Calls
open_catch_calls node x = do
  s1 ← fwd_number (next_register node)
  fwd_unit (allocate_register x.name s1.result)
  sure (emit (inst GetExcept s1.result 0 0 x.mark))
  finally (sure (emit (inst DeregisterTryCatch 0 0 0 no_mark)))

pub open_catch_chain : (node : ℕ) (x : Token) (r : Run) → Chain (open_catch_calls node x) r (open_catch node x)
unfolding bind open_catch
open_catch_chain node x = chain (open_catch_calls node x) _ (λ c. refl)

-- ---- classes

abbrev pub open_class_calls : ℕ → Token → Calls
open_class_calls node x = do
  s1 ← declare node x
  s2 ← fwd_number (next_register node)
  s3 ← fwd_number (add_constant node (text x.name))
  finally (sure (put s1.result (inst_bx LoadK s2.result s3.result x.mark)))

pub open_class_chain : (node : ℕ) (x : Token) (r : Run) → Chain (open_class_calls node x) r (open_class node x)
unfolding open_class
open_class_chain node x = chain (open_class_calls node x) _ (λ c. refl)

abbrev pub add_method_calls : (node mark op class tmp name : ℕ) → Calls
add_method_calls node mark op class tmp name = entry λ s. do
  s1 ← fwd_number (add_constant node (text name))
  sure (emit (inst_bx LoadK tmp s1.result mark))
  finally (sure (emit (inst op class tmp s.result mark)))

pub add_method_chain : (node mark op class tmp name : ℕ) (r : Run) → Chain (add_method_calls node mark op class tmp name) r (add_method node mark op class tmp name)
unfolding bind add_method
add_method_chain node mark op class tmp name = chain (add_method_calls node mark op class tmp name) _ (λ c. refl)

abbrev pub end_class_calls : ℕ → Token → (class : ℕ) → Calls
end_class_calls node x class = do
  sure (give class)
  finally (name_result node x)

pub end_class_chain : (node : ℕ) (x : Token) (class : ℕ) (r : Run) → Chain (end_class_calls node x class) r (end_class node x class)
unfolding bind end_class
end_class_chain node x class = chain (end_class_calls node x class) _ (λ c. refl)
