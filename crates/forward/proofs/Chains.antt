-- What a function of the lowering cites: from the equations of its calls, in the order of its line (Lines), to its own. `Chain line r F` computes to
--   (s : Seen) → Known r s →                                    where the line begins with `entry`
--   (r1 : Run) → r1 ≡ bind r f → (s1 : Seen) → Known r1 s1 →    for a line `s1 ← f`
--   (r1 : Run) → r1 ≡ bind r f →                                for a line f
--   (r1 : Run) (a : A) → Answers r m a r1 →                     for `answer m`
--   (b ≡ true → ..) × (b ≡ false → ..)                          for `choose b`
--   (r9 : Run) → r9 ≡ bind r8 f → r9 ≡ bind r F                 for `finally f`
-- so a citation is `while_chain node mark x y r _ n0 _ e1 _ n1 _ e2 _ e3 _ e4 _ e5 _ e6`.
use Prim.Native.Nat.{ℕ}
use mathlib.Core.Path.{◌≡◌, refl, ap, ◌∙◌}
use mathlib.Core.List.{List, [], ◌∷◌}
use mathlib.Core.Option.{none, some}
use Rattle.meaning.specs.Constant.{Constant}
use Rattle.meaning.specs.declared.Token.{Token}
use Rattle.meaning.specs.Syntax.{Super, no_super, super, Stmts}
use Rattle.meaning.specs.Opcode.{inst, Return}
use Rattle.meaning.specs.State.{Chunk, M, pure}
use Rattle.meaning.specs.Expressions.{visit_literal, named, visit_outside, visit_variable, visit_unary, visit_addi, visit_both, visit_binary, visit_logical, visit_call, visit_argument}
use Rattle.meaning.specs.Functions.{parameters, visit_body, visit_function, declare_name, visit_fun}
use Rattle.meaning.specs.Statements.{new_global, visit_let_as, visit_let_only, visit_block, visit_while, visit_classic_for, iterate_each, iterate, visit_for_in, visit_jump, visit_return, visit_if, visit_elif, visit_try, visit_return_none, visit_super, visit_method, visit_class}
use Rattle.meaning.specs.Lower.{row, lower_stmts, start, lower_program}
use Rattle.meaning.specs.declared.Instruction.{Instruction}
use Rattle.forward.specs.Forward.{config, Run, stopped, going, bind, on, sure, give, put, fwd, fwd_code, fwd_row, fwd_number, fwd_unit, fwd_zero, end_program}
use Rattle.forward.proofs.Steps.{bind_ext, step, tail}
use Rattle.forward.proofs.Calls.{finally, Chain, chain}
use Rattle.forward.proofs.Lines.{literal_calls, named_calls, outside_calls, variable_calls, unary_calls, addi_calls, both_calls, minus_calls, logical_calls, call_calls, argument_calls, parameter_calls, body_calls, function_calls, fun_calls, declare_name_calls, new_global_calls, let_as_calls, let_only_calls, block_calls, row_calls, return_calls, jump_calls, while_calls, for_calls, for_in_calls, iterate_each_calls, iterate_one_calls, iterate_many_calls, if_calls, elif_calls, try_calls, class_calls, super_none_calls, method_calls}
use Rattle.forward.proofs.ExpressionsForward.{literal_forward, named_forward, outside_forward, variable_forward, unary_forward, addi_forward, both_forward, minus_forward, logical_forward, call_forward, code_none, argument_forward}
use Rattle.forward.proofs.FunctionsForward.{Rows, parameter_none, parameter_forward, body_forward, function_forward, fun_forward, declare_name_forward}
use Rattle.forward.proofs.StatementsForward.{new_global_forward, let_as_forward, let_only_forward, block_forward, row_none, row_forward, return_forward, return_none_forward, jump_forward, while_forward, for_forward, for_in_forward, iterate_each_none, iterate_each_forward, iterate_one_forward, iterate_many_forward, if_forward, elif_forward, try_forward, class_forward, super_forward, super_none_forward, method_forward}

-- ---- expressions

pub literal_chain : (node : ℕ) (v : Constant) (r : Run) → Chain (literal_calls node v) r (fwd (visit_literal node v))
literal_chain node v = chain (literal_calls node v) _ (literal_forward node v)

pub named_chain : (op node : ℕ) (x : Token) (r : Run) → Chain (named_calls op node x) r (fwd (named op node x))
named_chain op node x = chain (named_calls op node x) _ (named_forward op node x)

pub outside_chain : (node : ℕ) (x : Token) (r : Run) → Chain (outside_calls node x) r (fwd (visit_outside node x))
outside_chain node x = chain (outside_calls node x) _ (outside_forward node x)

pub variable_chain : (node : ℕ) (x : Token) (r : Run) → Chain (variable_calls node x) r (fwd (visit_variable node x))
variable_chain node x = chain (variable_calls node x) _ (variable_forward node x)

pub unary_chain : (node op mark : ℕ) (x : M Chunk) (r : Run) → Chain (unary_calls op mark x) r (fwd (visit_unary node op mark x))
unary_chain node op mark x = chain (unary_calls op mark x) _ (unary_forward node op mark x)

pub addi_chain : (node mark k : ℕ) (x : M Chunk) (r : Run) → Chain (addi_calls node mark k x) r (fwd (visit_addi node mark k x))
addi_chain node mark k x = chain (addi_calls node mark k x) _ (addi_forward node mark k x)

pub both_chain : (node op mark : ℕ) (x y : M Chunk) (r : Run) → Chain (both_calls node op mark x y) r (fwd (visit_both node op mark x y))
both_chain node op mark x y = chain (both_calls node op mark x y) _ (both_forward node op mark x y)

pub minus_chain : (node op mark k : ℕ) (x y : M Chunk) (r : Run) → Chain (minus_calls node op mark x y) r (fwd (visit_binary node op mark none (some k) x y))
minus_chain node op mark k x y = chain (minus_calls node op mark x y) _ (minus_forward node op mark k x y)

pub logical_chain : (node op mark : ℕ) (x y : M Chunk) (r : Run) → Chain (logical_calls op mark x y) r (fwd (visit_logical node op mark x y))
logical_chain node op mark x y = chain (logical_calls op mark x y) _ (logical_forward node op mark x y)

pub call_chain : (node mark n : ℕ) (x : M Chunk) (xs : ℕ → M (List Instruction)) (r : Run) → Chain (call_calls node mark n x xs) r (fwd (visit_call node mark n x xs))
call_chain node mark n x xs = chain (call_calls node mark n x xs) _ (call_forward node mark n x xs)

-- ---- functions

pub body_chain : (n node : ℕ) (xs : M (List Chunk)) → Rows n xs → (r : Run) → Chain (body_calls n node xs) r (fwd_code (visit_body node xs))
body_chain n node xs h = chain (body_calls n node xs) _ (body_forward n node xs h)

pub function_chain : (node : ℕ) (ps : List Token) (xs : M (List Chunk)) (r : Run) → Chain (function_calls node ps xs) r (fwd (visit_function node ps xs))
function_chain node ps xs = chain (function_calls node ps xs) _ (function_forward node ps xs)

pub fun_chain : (node : ℕ) (x : Token) (ps : List Token) (xs : M (List Chunk)) (r : Run) → Chain (fun_calls node x ps xs) r (fwd (visit_fun node x ps xs))
fun_chain node x ps xs = chain (fun_calls node x ps xs) _ (fun_forward node x ps xs)

pub declare_name_chain : (x : Token) (r : Run) → Chain (declare_name_calls x) r (fwd_unit (declare_name x))
declare_name_chain x = chain (declare_name_calls x) _ (declare_name_forward x)

-- ---- statements

pub new_global_chain : (node : ℕ) (x : Token) (r : Run) → Chain (new_global_calls node x) r (fwd_number (new_global node x))
new_global_chain node x = chain (new_global_calls node x) _ (new_global_forward node x)

pub let_as_chain : (node : ℕ) (x : Token) (y : M Chunk) (r : Run) → Chain (let_as_calls node x y) r (fwd (visit_let_as node x y))
let_as_chain node x y = chain (let_as_calls node x y) _ (let_as_forward node x y)

pub let_only_chain : (node : ℕ) (x : Token) (r : Run) → Chain (let_only_calls node x) r (fwd (visit_let_only node x))
let_only_chain node x = chain (let_only_calls node x) _ (let_only_forward node x)

pub block_chain : (xs : M (List Chunk)) (r : Run) → Chain (block_calls xs) r (fwd (visit_block xs))
block_chain xs = chain (block_calls xs) _ (block_forward xs)

pub return_chain : (node mark : ℕ) (x : M Chunk) (r : Run) → Chain (return_calls node mark x) r (fwd (visit_return node mark x))
return_chain node mark x = chain (return_calls node mark x) _ (return_forward node mark x)

pub return_none_chain : (mark : ℕ) (r : Run) → Chain (finally (sure (put 0 (inst Return 0 0 0 mark)))) r (fwd (visit_return_none mark))
return_none_chain mark = chain (finally (sure (put 0 (inst Return 0 0 0 mark)))) _ (return_none_forward mark)

pub jump_chain : (node kind mark : ℕ) (r : Run) → Chain (jump_calls node kind mark) r (fwd (visit_jump node kind mark))
jump_chain node kind mark = chain (jump_calls node kind mark) _ (jump_forward node kind mark)

pub while_chain : (mode node mark : ℕ) (x y : M Chunk) (r : Run) → Chain (while_calls mode mark x y) r (fwd (visit_while node mark x y))
while_chain mode node mark x y = chain (while_calls mode mark x y) _ (while_forward mode node mark x y)

pub for_chain : (mode node mark : ℕ) (xs : M (List Chunk)) (x z y : M Chunk) (r : Run) → Chain (for_calls mode mark xs x z y) r (fwd (visit_classic_for mode node mark xs x z y))
for_chain mode node mark xs x z y = chain (for_calls mode mark xs x z y) _ (for_forward mode node mark xs x z y)

pub for_in_chain : (mode node mark : ℕ) (names : List Token) (x y : M Chunk) (r : Run) → Chain (for_in_calls mode node mark names x y) r (fwd (visit_for_in mode node mark names x y))
for_in_chain mode node mark names x y = chain (for_in_calls mode node mark names x y) _ (for_in_forward mode node mark names x y)

pub if_chain : (node mark : ℕ) (x : M Chunk) (xs : M (List Chunk)) (elifs : M (List Instruction)) (ys : M (List Chunk)) (r : Run) → Chain (if_calls mark x xs elifs ys) r (fwd (visit_if node mark x xs elifs ys))
if_chain node mark x xs elifs ys = chain (if_calls mark x xs elifs ys) _ (if_forward node mark x xs elifs ys)

pub try_chain : (node : ℕ) (v : Token) (x y : M Chunk) (r : Run) → Chain (try_calls node v x y) r (fwd (visit_try node v x y))
try_chain node v x y = chain (try_calls node v x y) _ (try_forward node v x y)

pub class_chain : (node : ℕ) (x : Token) (p : Super) (ms ts : (op class tmp : ℕ) → M (List Instruction)) (r : Run) → Chain (class_calls node x p ms ts) r (fwd (visit_class node x p ms ts))
class_chain node x p ms ts = chain (class_calls node x p ms ts) _ (class_forward node x p ms ts)

-- the superclass: a variable, or nil
pub super_chain : (node n : ℕ) (x y : Token) (r : Run) → Chain (finally (fwd (visit_variable n y))) r (fwd (visit_super node x (super n y)))
super_chain node n x y = chain (finally (fwd (visit_variable n y))) _ (super_forward node n x y)

pub super_none_chain : (node : ℕ) (x : Token) (r : Run) → Chain (super_none_calls node x) r (fwd (visit_super node x no_super))
super_none_chain node x = chain (super_none_calls node x) _ (super_none_forward node x)

-- ---- the turns of loops: the last equation of each is that of what is left, so the invariant `(r' : Run) → r' ≡ bind rᵢ left → r' ≡ bind r0 all` goes on

pub row_chain : (x : M Chunk) (xs : M (List Chunk)) (r : Run) → Chain (row_calls x xs) r (fwd_row (row x xs))
row_chain x xs = chain (row_calls x xs) _ (row_forward x xs)

pub argument_chain : (register : ℕ) (x : M Chunk) (others : M (List Instruction)) (r : Run) → Chain (argument_calls register x others) r (fwd_code (visit_argument register x others))
argument_chain register x others = chain (argument_calls register x others) _ (argument_forward register x others)

pub elif_chain : (x : M Chunk) (xs : M (List Chunk)) (others : M (List Instruction)) (r : Run) → Chain (elif_calls x xs others) r (fwd_code (visit_elif x xs others))
elif_chain x xs others = chain (elif_calls x xs others) _ (elif_forward x xs others)

pub method_chain : (node mark op class tmp name : ℕ) (x : M Chunk) (others : M (List Instruction)) (r : Run)
    → Chain (method_calls node mark op class tmp name x others) r (fwd_code (visit_method node mark op class tmp name x others))
method_chain node mark op class tmp name x others = chain (method_calls node mark op class tmp name x others) _ (method_forward node mark op class tmp name x others)

pub parameter_chain : (node : ℕ) (p : Token) (ps : List Token) (r : Run) → Chain (parameter_calls node p ps) r (fwd_zero (parameters node (p ∷ ps)))
parameter_chain node p ps = chain (parameter_calls node p ps) _ (parameter_forward node p ps)

pub iterate_each_chain : (node mark element i : ℕ) (x : Token) (xs : List Token) (r : Run)
    → Chain (iterate_each_calls node mark element i x xs) r (fwd_code (iterate_each node mark element i (x ∷ xs)))
iterate_each_chain node mark element i x xs = chain (iterate_each_calls node mark element i x xs) _ (iterate_each_forward node mark element i x xs)

-- the names of a for-in: one, several
pub iterate_one_chain : (node mark element collection counter : ℕ) (x : Token) (r : Run)
    → Chain (iterate_one_calls mark element collection counter x) r (fwd_code (iterate node mark element collection counter (x ∷ [])))
iterate_one_chain node mark element collection counter x = chain (iterate_one_calls mark element collection counter x) _ (iterate_one_forward node mark element collection counter x)

pub iterate_many_chain : (node mark element collection counter : ℕ) (x y : Token) (xs : List Token) (r : Run)
    → Chain (iterate_many_calls node mark element collection counter (x ∷ y ∷ xs)) r (fwd_code (iterate node mark element collection counter (x ∷ y ∷ xs)))
iterate_many_chain node mark element collection counter x y xs =
    chain (iterate_many_calls node mark element collection counter (x ∷ y ∷ xs)) _ (iterate_many_forward node mark element collection counter x y xs)

-- ---- the ends of loops, where nothing is left: a list of code, of statements, of registers, of parameters, of names

pub code_end : (r : Run) → Chain (finally (sure (give 0))) r (fwd_code (pure []))
code_end = chain (finally (sure (give 0))) _ code_none

row_same : (r : Run) → r ≡ bind r (λ c. going c)
unfolding bind
row_same (stopped k p) = refl
row_same (going c) = refl

pub row_end : (r : Run) → r ≡ bind r (fwd_row (pure []))
row_end r = row_same r ∙ bind_ext r _ _ row_none

pub parameter_end : (node : ℕ) (r : Run) → Chain (finally (sure (give 0))) r (fwd_zero (parameters node []))
parameter_end node = chain (finally (sure (give 0))) _ (parameter_none node)

pub iterate_each_end : (node mark element i : ℕ) (r : Run) → Chain (finally (sure (give 0))) r (fwd_code (iterate_each node mark element i []))
iterate_each_end node mark element i = chain (finally (sure (give 0))) _ (iterate_each_none node mark element i)

-- ---- a whole program: its statements from the start, then leave_function of the main function

pub program_chain : (mode node : ℕ) (ss : Stmts) (r1 r2 : Run)
    → r1 ≡ bind (going (config [] 0 start)) (fwd_row (lower_stmts mode ss)) → r2 ≡ bind r1 (end_program node) → r2 ≡ on (lower_program mode node ss) (λ i t. going (config [] i t))
unfolding bind lower_program end_program
program_chain mode node ss r1 r2 e1 e2 = e2 ∙ ap (λ r. bind r (end_program node)) e1 ∙ step _ _ _ _ _ _ λ cs t. tail _ _ _
