-- Writing forward: the pending code of all open functions is one list, to which a lowering function appends and in which it patches.
-- What such a function promises is said in these words: the run after it is `bind` of the run before it and an operation.
-- An operation speaks of the configuration c that it meets (`c.result`, the length of its code) and of numbers that were read before: registers, and
-- lengths of the code, by which places are named.
use Rattle.std.specs.Prelude.{ℕ, ◌+◌, ◌-◌, ◌≡◌, Bool, true, false, List, [], ◌∷◌, ◌++◌, get_or, length, set, take, drop, eqb}
use Rattle.meaning.specs.Opcode.{inst, inst_bx, back, no_mark, Move, LoadK, Jmp, Test, Lt, Call, Return, Closure, Class, Addi, Length, SetGlobal, GetCurrentFunc, RegisterTryCatch, DeregisterTryCatch, GetExcept}
use Rattle.meaning.specs.Constant.{number, text}
use Rattle.meaning.specs.declared.Token.{Token}
use Rattle.meaning.specs.State.{State, Chunk, M, Res, refused, done, next_register, allocate_register, add_constant, is_global_context, add_prototype, close_function}
use Rattle.meaning.specs.Chunk.{joined, continue_goal, patch_loop, patch_ends, patch_first}
use Rattle.meaning.specs.Expressions.{next_registers}
use Rattle.meaning.specs.Functions.{parameters, declare_name}
use Rattle.meaning.specs.Statements.{iterate}
use Rattle.meaning.specs.declared.Cause.{Cause}
use Rattle.meaning.specs.declared.Cause.TheVariants.{Empty, Returned}
use Rattle.meaning.specs.declared.Instruction.{Instruction}

-- the code of the open functions, outermost first; the result register; the definition's state
pub record Config : Type 0 where
  pub code : List Instruction
  pub result : ℕ
  pub state : State

-- a configuration by its code, its result and its state
abbrev pub config : List Instruction → ℕ → State → Config
config code result state = record { code = code; result = result; state = state }

-- refused with a cause and a node, or going on
pub data Run : Type 0 where
  stopped : Cause → ℕ → Run
  going : Config → Run

-- what follows a run; a refusal stays
unfoldable pub bind : Run → (Config → Run) → Run
bind (stopped cause node) f = stopped cause node
bind (going c) f = f c

-- `x ← r` in the operations below is bind r (λ x. ..)
infixl 10 ◌>>=◌
abbrev ◌>>=◌ : Run → (Config → Run) → Run
◌>>=◌ r f = bind r f

-- one of two runs
unfoldable pub pick : Bool → Run → Run → Run
pick true x y = x
pick false x y = y

-- ---- a step of the definition, taken

-- what follows its answer
unfoldable pub on : {A : Type 0} → Res A → (A → State → Run) → Run
on (refused cause node) f = stopped cause node
on (done a t) f = f a t

-- the same configuration in the state t
abbrev pub at : State → Config → Config
at t c = config c.code c.result t

-- a step, whose answer is written by w
unfoldable pub fwd_by : {A : Type 0} → (A → Config → Config) → M A → Config → Run
fwd_by w m c = on (m c.state) (λ a t. going (w a (at t c)))

-- a step, whose answer the rest asks for
unfoldable pub ask : {A : Type 0} → M A → Config → (A → Config → Run) → Run
ask m c rest = on (m c.state) (λ a t. rest a (at t c))

-- ---- the smallest operations

-- refused
abbrev pub stop : Cause → ℕ → Config → Run
stop cause node c = stopped cause node

-- an operation that is never refused, as one that may be
abbrev pub sure : (Config → Config) → Config → Run
sure f c = going (f c)

-- one instruction more
abbrev pub emit : Instruction → Config → Config
emit i c = config (c.code ++ i ∷ []) c.result c.state

-- the result register
abbrev pub give : ℕ → Config → Config
give r c = config c.code r c.state

-- one instruction more, and the result register
abbrev pub put : ℕ → Instruction → Config → Config
put r i c = give r (emit i c)

-- the code anew
abbrev pub recode : (List Instruction → List Instruction) → Config → Config
recode f c = config (f c.code) c.result c.state

-- the instruction at a place anew
abbrev pub patch : ℕ → Instruction → Config → Config
patch place i c = recode (λ l. set l place i) c

-- the code from a place on, anew
abbrev pub mend : (List Instruction → List Instruction) → ℕ → Config → Config
mend f first c = recode (λ l. take first l ++ f (drop first l)) c

-- the code back to a length
abbrev pub cut : ℕ → Config → Config
cut first c = recode (λ l. take first l) c

-- ---- how the answer of a step is written

-- a chunk: its code, its result
abbrev pub add_chunk : Chunk → Config → Config
add_chunk x c = config (c.code ++ x.code) x.result c.state

-- code alone: the result is 0
abbrev pub add_code : List Instruction → Config → Config
add_code l c = config (c.code ++ l) 0 c.state

-- the last one's result in a row of chunks, r where there is none
abbrev pub row_result : List Chunk → ℕ → ℕ
row_result [] r = r
row_result (x ∷ xs) r = row_result xs x.result

-- a row of chunks: their code, and the last one's result
abbrev pub add_row : List Chunk → Config → Config
add_row xs c = config (c.code ++ joined xs) (row_result xs c.result) c.state

-- nothing: the result is 0
abbrev pub give_zero : {A : Type 0} → A → Config → Config
give_zero u c = give 0 c

-- nothing: the result is as it was
abbrev pub add_none : {A : Type 0} → A → Config → Config
add_none u c = c

-- an expression, a statement
abbrev pub fwd : M Chunk → Config → Run
fwd m c = fwd_by add_chunk m c

-- arguments, elifs, methods, a function's body
abbrev pub fwd_code : M (List Instruction) → Config → Run
fwd_code m c = fwd_by add_code m c

-- statements one after the other
abbrev pub fwd_row : M (List Chunk) → Config → Run
fwd_row m c = fwd_by add_row m c

-- a register, the index of a constant or a prototype: it becomes the result
abbrev pub fwd_number : M ℕ → Config → Run
fwd_number m c = fwd_by give m c

-- a change of the state alone
abbrev pub fwd_unit : M (Unit {0}) → Config → Run
fwd_unit m c = fwd_by add_none m c

-- the same, several registers being given: the result is 0
abbrev pub fwd_zero : M (Unit {0}) → Config → Run
fwd_zero m c = fwd_by give_zero m c

-- the run `after` follows `before` by the step m, and where that is done its answer is a
pub record Answers {A : Type 0} (before : Run) (m : M A) (a : A) (after : Run) : Type 0 where
  pub follows : after ≡ bind before (λ c. fwd_by add_none m c)
  pub answer : (c : Config) (b : A) (t : State) → before ≡ going c → m c.state ≡ done b t → b ≡ a

-- ---- jumps over code that is not there yet

-- Test of the result, and a jump to be set later
unfoldable pub test_and_jump : (flag mark : ℕ) → Config → Config
test_and_jump flag mark c = emit (inst Jmp 0 0 0 mark) (emit (inst Test c.result c.result flag mark) c)

-- the jump after the Test at `test` goes to the end of the code
unfoldable pub jump_here : (test mark : ℕ) → Config → Config
jump_here test mark c = patch (test + 1) (inst_bx Jmp 0 (length c.code - (test + 1)) mark) c

-- ---- expressions

-- binary_literal at Minus: the code of the dropped pass is cut off
unfoldable pub roll_back : (first : ℕ) → Config → Config
roll_back first c = give 0 (cut first c)

-- visit_logical_expr after its right side; the left side's result is the whole's
unfoldable pub end_logical : (test left mark : ℕ) → Config → Config
end_logical test left mark c = give left (jump_here test mark (emit (inst Move left c.result 0 mark) c))

-- visit_call_expr after the callee: the function's register is the result, those of n arguments follow it
unfoldable pub open_call : (node n mark : ℕ) → Config → Run
open_call node n mark c = do
  d ← fwd_number (next_register node) c
  e ← fwd_number (next_register node) (emit (inst Move d.result c.result 0 mark) d)
  f ← fwd_zero (next_registers node (n - 1)) e
  going (give d.result f)

-- visit_call_expr after the arguments
unfoldable pub end_call : (node n function mark : ℕ) → Config → Run
end_call node n function mark c = do
  d ← fwd_number (next_register node) c
  going (emit (inst Call function (n + 1) (d.result + 1) mark) d)

-- ---- functions

-- visit_function_expr after enter_function
unfoldable pub open_function : ℕ → List Token → Config → Run
open_function node params c = do
  d ← fwd_number (next_register node) c
  fwd_zero (parameters node params) d

-- visit_fn_stmt after enter_function: the function is a local of its own
unfoldable pub open_fun : ℕ → Token → List Token → Config → Run
open_fun node x params c = do
  d ← fwd_number (next_register node) c
  e ← fwd_unit (allocate_register x.name d.result) d
  f ← fwd_zero (parameters node params) e
  going (emit (inst GetCurrentFunc d.result 0 0 x.mark) f)

-- the end of a body of n statements that begins at `first`: one statement alone is returned, 13 Return, then 12 Empty
unfoldable pub end_body : (n first node : ℕ) → Config → Run
end_body n first node c =
    pick (eqb n 1)
    (pick (eqb c.result 254) (stopped Returned node)
    (pick (eqb (length c.code) first) (stopped Empty node)
    (going (put 0 (inst Return c.result (c.result + 2) 0 (get_or c.code (length c.code - 1) (inst 0 0 0 0 0)).mark) c))))
    (going (give 0 c))

-- leave_function: the code from `first` on becomes a prototype, whose index is the result
unfoldable pub leave_function : (first node params : ℕ) → Config → Run
leave_function first node params c = do
  d ← fwd_number (add_prototype node params (drop first c.code)) (cut first c)
  fwd_unit close_function d

-- Closure of the prototype that is the result
unfoldable pub closure : (register mark : ℕ) → Config → Config
closure register mark c = put register (inst_bx Closure register c.result mark) c

-- visit_function_expr after its body
unfoldable pub end_function : (first node params register mark : ℕ) → Config → Run
end_function first node params register mark c = do
  d ← leave_function first node params c
  going (closure register mark d)

-- the register of a function or a class, whose name is known from here on where it is a global's
unfoldable pub declare : ℕ → Token → Config → Run
declare node x c = do
  d ← fwd_number (next_register node) c
  fwd_unit (declare_name x) d

-- the result gets its name: SetGlobal, or a local
unfoldable pub name_result : ℕ → Token → Config → Run
name_result node x c =
    ask is_global_context c λ global d.
    pick global
    (do
      e ← fwd_number (add_constant node (text x.name)) d
      going (put c.result (inst_bx SetGlobal c.result e.result x.mark) e))
    (fwd_unit (allocate_register x.name c.result) d)

-- visit_fn_stmt after its body
unfoldable pub end_fun : (first node : ℕ) → Token → (params register : ℕ) → Config → Run
end_fun first node x params register c = do
  d ← leave_function first node params c
  name_result node x (closure register x.mark d)

-- ---- loops: places are `first` of the loop, `increment` where continue goes in mode 1, `condition` where the jump back goes, `test` of its Test

-- the jump back, the jump out, breaks and continues
unfoldable pub end_loop : (mode first increment condition test result mark : ℕ) → Config → Config
end_loop mode first increment condition test result mark c =
    give result (mend (patch_loop (continue_goal mode (increment - first))) first (jump_here test mark (emit (inst_bx Jmp 0 (back (length c.code - condition)) mark) c)))

-- visit_enhanced_for_stmt before the collection: the counter's register is the result; those of size, condition and element follow it
unfoldable pub open_for_in : (node mark : ℕ) → Config → Run
open_for_in node mark c = do
  counter ← fwd_number (next_register node) c
  size ← fwd_number (next_register node) counter
  condition ← fwd_number (next_register node) size
  element ← fwd_number (next_register node) condition
  k ← fwd_number (add_constant node (number 0)) element
  going (put counter.result (inst_bx LoadK counter.result k.result mark) k)

-- visit_enhanced_for_stmt after the collection: the condition, then the names' registers
unfoldable pub head_for_in : ℕ → List Token → (counter mark : ℕ) → Config → Run
head_for_in node names counter mark c =
    fwd_code (iterate node mark (counter + 3) c.result counter names)
    (test_and_jump 0 mark (give (counter + 2)
    (emit (inst Lt (counter + 2) counter (counter + 1) mark) (emit (inst Length (counter + 1) c.result 0 mark) c))))

-- visit_enhanced_for_stmt after the body; Length and Lt stand before the Test
unfoldable pub end_for_in : (mode first condition counter mark : ℕ) → Config → Config
end_for_in mode first condition counter mark c = end_loop mode first (length c.code) condition (condition + 2) 0 mark (emit (inst Addi counter counter 1 mark) c)

-- ---- other statements

-- visit_return_stmt after the value: 13 Return
unfoldable pub end_return : (node mark : ℕ) → Config → Run
end_return node mark c = pick (eqb c.result 254) (stopped Returned node) (going (put 0 (inst Return c.result (c.result + 2) 0 mark) c))

-- visit_if_stmt after the statements of a condition: the jump to the end, which end-if sets
unfoldable pub end_branch : (test mark : ℕ) → Config → Config
end_branch test mark c = give 0 (jump_here test mark (emit (inst Jmp 0 0 0 mark) c))

-- visit_if_stmt: every jump to the end, from `first` on
unfoldable pub end_if : (first : ℕ) → Config → Config
end_if first c = give 0 (mend patch_ends first c)

-- visit_try_catch_stmt before the body
abbrev pub open_try_body : Config → Config
open_try_body c = emit (inst RegisterTryCatch 0 0 0 no_mark) c

-- visit_try_catch_stmt after the body
unfoldable pub end_try_body : Config → Config
end_try_body c = emit (inst Jmp 0 0 0 no_mark) (emit (inst DeregisterTryCatch 0 0 0 no_mark) c)

-- visit_try_catch_stmt before the catch part's body
unfoldable pub open_catch : ℕ → Token → Config → Run
open_catch node x c = do
  d ← fwd_number (next_register node) c
  e ← fwd_unit (allocate_register x.name d.result) d
  going (emit (inst DeregisterTryCatch 0 0 0 no_mark) (emit (inst GetExcept d.result 0 0 x.mark) e))

-- visit_try_catch_stmt: RegisterTryCatch at `first`, then the first jump that is not set; `body` is the length after the body
unfoldable pub end_try : (first body : ℕ) → Config → Config
end_try first body c =
    give 0 (mend (patch_first (length c.code - (body + 1))) first (patch first (inst_bx RegisterTryCatch 0 (body + 2 - first) no_mark) c))

-- visit_class_stmt before the superclass: the class's register is the result, that of names follows it
unfoldable pub open_class : ℕ → Token → Config → Run
open_class node x c = do
  d ← declare node x c
  e ← fwd_number (next_register node) d
  f ← fwd_number (add_constant node (text x.name)) e
  going (put d.result (inst_bx LoadK e.result f.result x.mark) f)

-- Class, of the superclass that is the result
unfoldable pub make_class : (class mark : ℕ) → Config → Config
make_class class mark c = emit (inst Class class (class + 1) c.result mark) c

-- a method that is the result; op is ClassMeth or ClassStMeth
unfoldable pub add_method : (node mark op class tmp name : ℕ) → Config → Run
add_method node mark op class tmp name c = do
  d ← fwd_number (add_constant node (text name)) c
  going (emit (inst op class tmp c.result mark) (emit (inst_bx LoadK tmp d.result mark) d))

-- visit_class_stmt after the methods
unfoldable pub end_class : ℕ → Token → (class : ℕ) → Config → Run
end_class node x class c = name_result node x (give class c)

-- ---- a whole program

-- leave_function of the main function, with 0 parameters
unfoldable pub end_program : (node : ℕ) → Config → Run
end_program node c = fwd_number (add_prototype node 0 c.code) (cut 0 c)
