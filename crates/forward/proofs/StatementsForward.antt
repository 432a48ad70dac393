-- impl StmtVisitor, written forward: the line of calls of each visitor (Lines) does what the visitor does. A law follows the visitor's `do` block line by
-- line (Steps, Around); what is left is an equation of lists (Jumps).
use Prim.Native.Nat.{ℕ, ◌+◌, ◌-◌}
use mathlib.Core.Path.{◌≡◌, refl, sym, ap, ◌∙◌}
use mathlib.Core.Bool.{Bool, true, false, cond}
use mathlib.Core.List.{List, [], ◌∷◌, ◌++◌, append_assoc, append-nil}
use native.Mathlib.Omega.{arith}
use lib.ListN.{length, length-append}
use lib.Dec.{eqb}
use Rattle.meaning.specs.Opcode.{inst, inst_bx, no_mark, LoadK, LoadNil, Jmp, Test, Lt, Return, Class, ClassMeth, ClassStMeth, Addi, Length, RegisterTryCatch}
use Rattle.meaning.specs.declared.Token.{Token}
use Rattle.meaning.specs.Syntax.{Super, no_super, super}
use Rattle.meaning.specs.State.{Chunk, M, pure, enter_loop, leave_loop, in_block, in_loop}
use Rattle.meaning.specs.Chunk.{continue_goal, body_place, chunk, joined, branch_code, patch_ends}
use Rattle.meaning.specs.Expressions.{visit_variable}
use Rattle.meaning.specs.Statements.{new_global, visit_let_as, visit_let_only, visit_block, visit_while, visit_classic_for, iterate_each, iterate, visit_for_in, visit_jump, visit_return, visit_return_none, visit_if, visit_elif, visit_catch, visit_try, visit_super, visit_method, visit_methods, visit_class}
use Rattle.meaning.specs.Lower.{row}
use Rattle.meaning.specs.declared.Instruction.{Instruction}
use Rattle.forward.specs.Forward.{Config, config, going, at, sure, give, put, fwd, fwd_code, fwd_row, fwd_number, test_and_jump, jump_here, declare, name_result, open_for_in, head_for_in, end_for_in, end_return, end_branch, end_if, end_try_body, open_catch, open_class, make_class, add_method, end_class}
use Rattle.forward.proofs.Steps.{now, inner, group, group_next, pass, same, start, step, step_known, step_as, next, next_known, asked, tail, last, halt, either, more, closing}
use Rattle.forward.proofs.Calls.{does}
use Rattle.forward.proofs.Jumps.{leap, mend_at, end_loop_is, end_try_is}
use Rattle.forward.proofs.Registers.{registers_follow, declared_follow}
use Rattle.forward.proofs.Around.{bracket}
use Rattle.forward.proofs.FunctionsForward.{define_forward}
use Rattle.forward.proofs.Lines.{new_global_calls, let_as_calls, let_only_calls, block_calls, row_calls, return_calls, jump_calls, while_calls, for_calls, for_in_calls, iterate_each_calls, iterate_one_calls, iterate_many_calls, if_calls, elif_calls, try_calls, class_calls, super_none_calls, method_calls}

-- ---- rows, let, block, return, break and continue

pub row_none : (c : Config) → going c ≡ fwd_row (pure []) c
row_none c = start _ _ _ _ (last _ _ _ _ (same _ _ _ _ (sym (append-nil c.code))))

pub row_forward : (x : M Chunk) (xs : M (List Chunk)) (c : Config) → does (row_calls x xs) c ≡ fwd_row (row x xs) c
unfolding row
row_forward x xs c = start _ _ _ _ (step _ _ _ _ _ _ λ a t. more _ _ _ _ _ λ l u. same _ _ _ _ (append_assoc c.code a.code (joined l)))

pub new_global_forward : (node : ℕ) (x : Token) (c : Config) → does (new_global_calls node x) c ≡ fwd_number (new_global node x) c
unfolding new_global
new_global_forward node x c = start _ _ _ _ (asked _ _ _ _ _ λ g t. either g _ _ _ _ _ _ (halt _ _ _ _) (next _ _ _ _ _ _ λ z u. tail _ _ _))

pub let_as_forward : (node : ℕ) (x : Token) (y : M Chunk) (c : Config) → does (let_as_calls node x y) c ≡ fwd (visit_let_as node x y) c
unfolding visit_let_as
let_as_forward node x y c =
    start _ _ _ _ (asked _ _ _ _ _ λ g t. either g _ _ _ _ _ _
    (step _ _ _ _ _ _ λ k u. step _ _ _ _ _ _ λ a v. last _ _ _ _ (same _ _ _ _ (append_assoc c.code a.code _)))
    (step _ _ _ _ _ _ λ a u. closing _ _ _ _ (λ v. refl)))

pub let_only_forward : (node : ℕ) (x : Token) (c : Config) → does (let_only_calls node x) c ≡ fwd (visit_let_only node x) c
unfolding visit_let_only
let_only_forward node x c =
    start _ _ _ _ (asked _ _ _ _ _ λ g t. either g _ _ _ _ _ _
    (step _ _ _ _ _ _ λ k u. step _ _ _ _ _ _ λ r v. now _ _ _ (last _ _ _ _ (same _ _ _ _ (append_assoc c.code (inst LoadNil r 0 0 x.mark ∷ []) _))))
    (step _ _ _ _ _ _ λ r u. closing _ _ _ _ (λ v. same _ _ _ _ (sym (append-nil c.code)))))

pub block_forward : (xs : M (List Chunk)) (c : Config) → does (block_calls xs) c ≡ fwd (visit_block xs) c
unfolding visit_block in_block
block_forward xs c = start _ _ _ _ (next _ _ _ _ _ _ λ z s. group _ _ _ _ _ _ (step _ _ _ _ _ _ λ cs t. now _ _ _ (pass _ _ _ _ _ (closing _ _ _ _ (λ v. refl)))))

pub return_forward : (node mark : ℕ) (x : M Chunk) (c : Config) → does (return_calls node mark x) c ≡ fwd (visit_return node mark x) c
unfolding visit_return end_return
return_forward node mark x c = start _ _ _ _ (step _ _ _ _ _ _ λ a t. either (eqb a.result 254) _ _ _ _ _ _ (halt _ _ _ _) (last _ _ _ _ (same _ _ _ _ (append_assoc c.code a.code _))))

pub return_none_forward : (mark : ℕ) (c : Config) → sure (put 0 (inst Return 0 0 0 mark)) c ≡ fwd (visit_return_none mark) c
unfolding visit_return_none
return_none_forward mark c = start _ _ _ _ (last _ _ _ _ refl)

pub jump_forward : (node kind mark : ℕ) (c : Config) → does (jump_calls node kind mark) c ≡ fwd (visit_jump node kind mark) c
unfolding visit_jump
jump_forward node kind mark c = start _ _ _ _ (asked _ _ _ _ _ λ n t. either (eqb n 0) _ _ _ _ _ _ (halt _ _ _ _) (last _ _ _ _ refl))

-- ---- loops

while_list : (c a b : List Instruction) (t j : Instruction) → (((c ++ a) ++ t ∷ []) ++ j ∷ []) ++ b ≡ ((c ++ []) ++ a) ++ t ∷ j ∷ b
while_list c a b t j = simp (append_assoc, append-nil)

-- in a while continue goes to the first instruction in either mode
goal_none : (mode n : ℕ) → continue_goal mode (n - n) ≡ 0
goal_none mode n = goal_by (eqb mode 1) n
  where
    goal_by : (b : Bool) (n : ℕ) → cond b (n - n) 0 ≡ 0
    goal_by true n = omega arith
    goal_by false n = refl

pub while_forward : (mode node mark : ℕ) (x y : M Chunk) (c : Config) → does (while_calls mode mark x y) c ≡ fwd (visit_while node mark x y) c
unfolding visit_while in_loop test_and_jump
while_forward mode node mark x y c =
    start _ _ _ _ (step _ _ _ _ _ _ λ a t. now _ _ _ (bracket enter_loop leave_loop (λ k. k.code) (λ k r. k.result) y _ _ _ _ λ b u. last _ _ _ _ (ap going
    (end_loop_is c.code [] a.code a.result b.code mark (inst Jmp 0 0 0 mark) mode 0 _ _ _ _ _ _ (while_list c.code a.code b.code _ _) refl (ap length (sym (append-nil c.code))) (ap (λ l. length (l ++ a.code)) (sym (append-nil c.code))) (goal_none mode _)))))

for_goal : (c i a b : List Instruction) (t j : Instruction) → length (((((c ++ i) ++ a) ++ t ∷ []) ++ j ∷ []) ++ b) - length c ≡ body_place i a + length b
for_goal c i a b t j = simp length-append (omega arith)

for_list : (c i a b n : List Instruction) (t j : Instruction) → (((((c ++ i) ++ a) ++ t ∷ []) ++ j ∷ []) ++ b) ++ n ≡ ((c ++ i) ++ a) ++ t ∷ j ∷ (b ++ n)
for_list c i a b n t j = simp append_assoc

pub for_forward : (mode node mark : ℕ) (xs : M (List Chunk)) (x z y : M Chunk) (c : Config) → does (for_calls mode mark xs x z y) c ≡ fwd (visit_classic_for mode node mark xs x z y) c
unfolding visit_classic_for in_loop test_and_jump
for_forward mode node mark xs x z y c =
    start _ _ _ _ (step _ _ _ _ _ _ λ i t. step _ _ _ _ _ _ λ a u. now _ _ _ (bracket enter_loop leave_loop (λ k. k.code) (λ k r. k.result) y _ _ _ _ λ b v. step _ _ _ _ _ _ λ n w. last _ _ _ _ (ap going
    (end_loop_is c.code (joined i) a.code a.result (b.code ++ n.code) mark (inst Jmp 0 0 0 mark) mode _ _ _ _ _ _ _ (for_list c.code (joined i) a.code b.code n.code _ _) refl refl refl (ap (continue_goal mode) (for_goal c.code (joined i) a.code b.code _ _))))))

-- the registers of a for-in follow one another
for_in_list : (c a h b : List Instruction) (l z : Instruction) (r1 r2 r3 k mark : ℕ) (j : Instruction) → r2 ≡ r1 + 1 → r3 ≡ r1 + 2
    → ((((((((c ++ l ∷ []) ++ a) ++ inst Length (r1 + 1) k 0 mark ∷ []) ++ inst Lt (r1 + 2) r1 (r1 + 1) mark ∷ []) ++ inst Test (r1 + 2) (r1 + 2) 0 mark ∷ []) ++ j ∷ []) ++ h) ++ b) ++ z ∷ []
    ≡ ((c ++ l ∷ a) ++ inst Length r2 k 0 mark ∷ inst Lt r3 r1 r2 mark ∷ []) ++ inst Test r3 r3 0 mark ∷ j ∷ (h ++ (b ++ z ∷ []))
for_in_list c a h b l z r1 r2 r3 k mark j e f = rw (e, f) (simp append_assoc)

pub for_in_forward : (mode node mark : ℕ) (names : List Token) (x y : M Chunk) (c : Config) → does (for_in_calls mode node mark names x y) c ≡ fwd (visit_for_in mode node mark names x y) c
unfolding visit_for_in in_loop test_and_jump open_for_in head_for_in end_for_in
for_in_forward mode node mark names x y c =
    start _ _ _ _ (inner _ _ _ _ (step_known _ _ _ _ _ _ λ r1 t1 e1. inner _ _ _ _ (step_known _ _ _ _ _ _ λ r2 t2 e2. inner _ _ _ _ (step_known _ _ _ _ _ _ λ r3 t3 e3. inner _ _ _ _ (step_known _ _ _ _ _ _ λ r4 t4 e4.
    let f2 : r2 ≡ r1 + 1 = registers_follow node node _ t1 t2 r1 r2 e1 e2 in
    let f3 : r3 ≡ r1 + 2 = omega (arith, f2, registers_follow node node _ t2 t3 r2 r3 e2 e3) in
    let f4 : r1 + 3 ≡ r4 = omega (arith, f3, registers_follow node node _ t3 t4 r3 r4 e3 e4) in
    inner _ _ _ _ (step _ _ _ _ _ _ λ k t5. now _ _ _ (step _ _ _ _ _ _ λ a t6. step_as _ _ _ _ _ _ _ (ap (λ i. iterate node mark i a.result r1 names) f4) λ h t7.
    bracket enter_loop leave_loop (λ k. k.code) (λ k r. k.result) y _ _ _ _ λ b t8. last _ _ _ _ (ap going
    (end_loop_is c.code (inst_bx LoadK r1 k mark ∷ a.code) (inst Length r2 a.result 0 mark ∷ inst Lt r3 r1 r2 mark ∷ []) r3 (h ++ (b.code ++ inst Addi r1 r1 1 mark ∷ [])) mark (inst Jmp 0 0 0 mark) mode _ _ _ _ _ _ _
    (for_in_list c.code a.code h b.code _ _ r1 r2 r3 a.result mark _ f2 f3) refl (ap length (append_assoc c.code (_ ∷ []) a.code)) (simp length-append (omega arith)) (ap (continue_goal mode) (simp length-append (omega arith))))))))))))

pub iterate_each_none : (node mark element i : ℕ) (c : Config) → going (give 0 c) ≡ fwd_code (iterate_each node mark element i []) c
unfolding iterate_each
iterate_each_none node mark element i c = start _ _ _ _ (last _ _ _ _ (same _ _ _ _ (sym (append-nil c.code))))

pub iterate_each_forward : (node mark element i : ℕ) (x : Token) (xs : List Token) (c : Config) → does (iterate_each_calls node mark element i x xs) c ≡ fwd_code (iterate_each node mark element i (x ∷ xs)) c
unfolding iterate_each
iterate_each_forward node mark element i x xs c =
    start _ _ _ _ (step _ _ _ _ _ _ λ r t. next _ _ _ _ _ _ λ z u. now _ _ _ (more _ _ _ _ _ λ l v. same _ _ _ _ (append_assoc c.code (_ ∷ []) l)))

pub iterate_one_forward : (node mark element collection counter : ℕ) (x : Token) (c : Config) → does (iterate_one_calls mark element collection counter x) c ≡ fwd_code (iterate node mark element collection counter (x ∷ [])) c
unfolding iterate
iterate_one_forward node mark element collection counter x c = start _ _ _ _ (next _ _ _ _ _ _ λ z t. last _ _ _ _ refl)

pub iterate_many_forward : (node mark element collection counter : ℕ) (x y : Token) (xs : List Token) (c : Config)
    → does (iterate_many_calls node mark element collection counter (x ∷ y ∷ xs)) c ≡ fwd_code (iterate node mark element collection counter (x ∷ y ∷ xs)) c
unfolding iterate
iterate_many_forward node mark element collection counter x y xs c = start _ _ _ _ (now _ _ _ (more _ _ _ _ _ λ l t. same _ _ _ _ (append_assoc c.code (_ ∷ []) l)))

-- ---- if

four : (a b c d : List Instruction) → ((a ++ b) ++ c) ++ d ≡ a ++ (b ++ (c ++ d))
four a b c d = simp append_assoc

pub elif_forward : (x : M Chunk) (xs : M (List Chunk)) (others : M (List Instruction)) (c : Config) → does (elif_calls x xs others) c ≡ fwd_code (visit_elif x xs others) c
unfolding visit_elif test_and_jump end_branch jump_here
elif_forward x xs others c =
    start _ _ _ _ (step _ _ _ _ _ _ λ a t. now _ _ _ (step _ _ _ _ _ _ λ l u. now _ _ _ (more _ _ _ _ _ λ m v. same _ _ _ _
    (ap (λ z. z ++ m) (leap c.code a.code (joined l) _ _ _ no_mark _ refl) ∙ append_assoc c.code (branch_code no_mark a (joined l)) m))))

-- the jumps to the end are found by a scan of the whole if, as in the definition
pub if_forward : (node mark : ℕ) (x : M Chunk) (xs : M (List Chunk)) (elifs : M (List Instruction)) (ys : M (List Chunk)) (c : Config) → does (if_calls mark x xs elifs ys) c ≡ fwd (visit_if node mark x xs elifs ys) c
unfolding visit_if test_and_jump end_branch jump_here end_if
if_forward node mark x xs elifs ys c =
    start _ _ _ _ (step _ _ _ _ _ _ λ a t. now _ _ _ (step _ _ _ _ _ _ λ l u. now _ _ _ (step _ _ _ _ _ _ λ m v. step _ _ _ _ _ _ λ n w. last _ _ _ _ (same _ _ _ _
    (mend_at patch_ends c.code (branch_code mark a (joined l) ++ (m ++ joined n)) _
    (ap (λ z. (z ++ m) ++ joined n) (leap c.code a.code (joined l) (inst Test a.result a.result 0 mark) (inst Jmp 0 0 0 mark) (inst Jmp 0 0 0 mark) mark _ refl) ∙ four c.code (branch_code mark a (joined l)) m (joined n)))))))

-- ---- try

try_list : (c b h : List Instruction) (r d j g e : Instruction) → ((((((c ++ r ∷ []) ++ b) ++ d ∷ []) ++ j ∷ []) ++ g ∷ []) ++ e ∷ []) ++ h ≡ ((((c ++ r ∷ []) ++ b) ++ d ∷ []) ++ j ∷ []) ++ g ∷ e ∷ h
try_list c b h r d j g e = simp append_assoc

pub try_forward : (node : ℕ) (v : Token) (x y : M Chunk) (c : Config) → does (try_calls node v x y) c ≡ fwd (visit_try node v x y) c
unfolding visit_try visit_catch in_block end_try_body open_catch
try_forward node v x y c =
    start _ _ _ _ (now _ _ _ (step _ _ _ _ _ _ λ a t. now _ _ _ (group_next _ _ _ _ _ _ (next _ _ _ _ _ _ λ z1 t1. group _ _ _ _ _ _ (group _ _ _ _ _ _
    (inner _ _ _ _ (step _ _ _ _ _ _ λ r t2. group_next _ _ _ _ _ _ (inner _ _ _ _ (next _ _ _ _ _ _ λ z2 t3. now _ _ _ (group _ _ _ _ _ _ (step _ _ _ _ _ _ λ b t4. pass _ _ _ _ _
    (group_next _ _ _ _ _ _ (next _ _ _ _ _ _ λ z3 t5. pass _ _ _ _ _ (last _ _ _ _ (ap going
    (end_try_is c.code a.code _ (inst RegisterTryCatch 0 0 0 no_mark) _ _ _ (try_list c.code a.code b.code _ _ _ _ _) refl refl))))))))))))))))

-- ---- classes

pub super_none_forward : (node : ℕ) (x : Token) (c : Config) → does (super_none_calls node x) c ≡ fwd (visit_super node x no_super) c
unfolding visit_super
super_none_forward node x c = start _ _ _ _ (step _ _ _ _ _ _ λ r t. last _ _ _ _ refl)

pub super_forward : (node n : ℕ) (x y : Token) (c : Config) → fwd (visit_variable n y) c ≡ fwd (visit_super node x (super n y)) c
unfolding visit_super
super_forward node n x y c = refl

pub method_forward : (node mark op class tmp name : ℕ) (x : M Chunk) (others : M (List Instruction)) (c : Config) → does (method_calls node mark op class tmp name x others) c ≡ fwd_code (visit_method node mark op class tmp name x others) c
unfolding visit_method add_method
method_forward node mark op class tmp name x others c =
    start _ _ _ _ (step _ _ _ _ _ _ λ a t. inner _ _ _ _ (step _ _ _ _ _ _ λ k u. now _ _ _ (more _ _ _ _ _ λ l v. same _ _ _ _ (simp append_assoc))))

class_list : (c a l m : List Instruction) (x : Instruction) (r tmp s mark : ℕ) → tmp ≡ r + 1
    → ((((c ++ x ∷ []) ++ a) ++ inst Class r (r + 1) s mark ∷ []) ++ l) ++ m ≡ c ++ x ∷ (a ++ (inst Class r tmp s mark ∷ (l ++ m)))
class_list c a l m x r tmp s mark e = rw e (simp append_assoc)

pub class_forward : (node : ℕ) (x : Token) (p : Super) (ms ts : (op class tmp : ℕ) → M (List Instruction)) (c : Config) → does (class_calls node x p ms ts) c ≡ fwd (visit_class node x p ms ts) c
unfolding visit_class visit_methods in_block open_class declare make_class end_class
class_forward node x p ms ts c =
    start _ _ _ _ (inner _ _ _ _ (inner _ _ _ _ (step_known _ _ _ _ _ _ λ r t1 e1. next_known _ _ _ _ _ _ λ z t2 e2. inner _ _ _ _ (step_known _ _ _ _ _ _ λ tmp t3 e3.
    let f : tmp ≡ r + 1 = declared_follow node node x _ t1 t2 t3 r tmp e1 e2 e3 in
    inner _ _ _ _ (step _ _ _ _ _ _ λ k t4. now _ _ _ (step _ _ _ _ _ _ λ a t5. now _ _ _ (group_next _ _ _ _ _ _ (next _ _ _ _ _ _ λ z1 t6. group _ _ _ _ _ _ (group _ _ _ _ _ _
    (step_as _ _ _ _ _ _ _ (ap (λ i. ms ClassMeth r i) (sym f)) λ l t7. group _ _ _ _ _ _ (step_as _ _ _ _ _ _ _ (ap (λ i. ts ClassStMeth r i) (sym f)) λ m t8. pass _ _ _ _ _
    (group_next _ _ _ _ _ _ (next _ _ _ _ _ _ λ z2 t9. pass _ _ _ _ _
    (ap (λ y. name_result node x (config y r t9)) (class_list c.code a.code l m _ r tmp a.result x.mark f)
    ∙ define_forward node x (chunk (inst_bx LoadK tmp k x.mark ∷ (a.code ++ (inst Class r tmp a.result x.mark ∷ (l ++ m)))) r) (at t9 c) ∙ tail _ _ _))))))))))))))
