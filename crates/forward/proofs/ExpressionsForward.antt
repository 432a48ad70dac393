-- impl ExprVisitor, written forward: the line of calls of each visitor (Lines) does what the visitor does. A law follows the visitor's `do` block line by
-- line (Steps); what is left is an equation of lists.
use Prim.Native.Nat.{ℕ, suc}
use mathlib.Core.Path.{◌≡◌, refl, sym, ap, ◌∙◌}
use mathlib.Core.List.{List, [], ◌∷◌, ◌++◌, append_assoc, append-nil}
use mathlib.Core.Option.{Option, none, some}
use lib.ListN.{length}
use lib.Seq.{take_at}
use Rattle.meaning.specs.Constant.{Constant}
use Rattle.meaning.specs.declared.Token.{Token}
use Rattle.meaning.specs.State.{Chunk, M, pure, is_builtin_var}
use Rattle.meaning.specs.Expressions.{visit_literal, named, visit_outside, visit_captured, visit_local, visit_variable, visit_unary, visit_addi, visit_both, visit_dropped, visit_binary, visit_logical, next_registers, visit_call, visit_argument}
use Rattle.meaning.specs.declared.Instruction.{Instruction}
use Rattle.forward.specs.Forward.{Config, config, going, give, fwd, fwd_code, fwd_zero, test_and_jump, jump_here, roll_back, end_logical, open_call, end_call}
use Rattle.forward.proofs.Steps.{group_then, pass_next, now, inner, same, start, step, step_known, step_as, next, asked, tail, last, halt, either, more}
use Rattle.forward.proofs.Calls.{does}
use Rattle.forward.proofs.Lines.{literal_calls, named_calls, outside_calls, captured_calls, local_calls, variable_calls, unary_calls, addi_calls, both_calls, minus_calls, logical_calls, register_calls, argument_calls, call_calls}
use Rattle.forward.proofs.Jumps.{leap}
use Rattle.forward.proofs.Registers.{registers_follow}

-- ---- literals and variables

pub literal_forward : (node : ℕ) (v : Constant) (c : Config) → does (literal_calls node v) c ≡ fwd (visit_literal node v) c
unfolding visit_literal
literal_forward node v c = start _ _ _ _ (step _ _ _ _ _ _ λ r t. step _ _ _ _ _ _ λ k u. last _ _ _ _ refl)

pub named_forward : (op node : ℕ) (x : Token) (c : Config) → does (named_calls op node x) c ≡ fwd (named op node x) c
unfolding named
named_forward op node x c = start _ _ _ _ (step _ _ _ _ _ _ λ r t. step _ _ _ _ _ _ λ k u. last _ _ _ _ refl)

pub outside_forward : (node : ℕ) (x : Token) (c : Config) → does (outside_calls node x) c ≡ fwd (visit_outside node x) c
unfolding visit_outside
outside_forward node x c =
    start _ _ _ _ (either (is_builtin_var x.name) _ _ _ _ _ _ (tail _ _ _) (asked _ _ _ _ _ λ g t. either g _ _ _ _ _ _ (tail _ _ _) (halt _ _ _ _)))

pub captured_forward : (node : ℕ) (x : Token) (i : Option ℕ) (c : Config) → does (captured_calls node x i) c ≡ fwd (visit_captured node x i) c
unfolding visit_captured
captured_forward node x none c = refl
captured_forward node x (some i) c = start _ _ _ _ (step _ _ _ _ _ _ λ r t. last _ _ _ _ refl)

pub local_forward : (node : ℕ) (x : Token) (r : Option ℕ) (c : Config) → does (local_calls node x r) c ≡ fwd (visit_local node x r) c
unfolding visit_local
local_forward node x (some r) c = start _ _ _ _ (last _ _ _ _ (same _ _ _ _ (sym (append-nil c.code))))
local_forward node x none c = start _ _ _ _ (asked _ _ _ _ _ λ i t. captured_forward node x i _ ∙ tail _ _ _)

pub variable_forward : (node : ℕ) (x : Token) (c : Config) → does (variable_calls node x) c ≡ fwd (visit_variable node x) c
unfolding visit_variable
variable_forward node x c = start _ _ _ _ (asked _ _ _ _ _ λ r t. local_forward node x r _ ∙ tail _ _ _)

-- ---- operators

pub unary_forward : (node op mark : ℕ) (x : M Chunk) (c : Config) → does (unary_calls op mark x) c ≡ fwd (visit_unary node op mark x) c
unfolding visit_unary
unary_forward node op mark x c = start _ _ _ _ (step _ _ _ _ _ _ λ a t. last _ _ _ _ (same _ _ _ _ (append_assoc c.code a.code _)))

pub addi_forward : (node mark k : ℕ) (x : M Chunk) (c : Config) → does (addi_calls node mark k x) c ≡ fwd (visit_addi node mark k x) c
unfolding visit_addi
addi_forward node mark k x c = start _ _ _ _ (step _ _ _ _ _ _ λ a t. step _ _ _ _ _ _ λ r u. last _ _ _ _ (same _ _ _ _ (append_assoc c.code a.code _)))

pub both_forward : (node op mark : ℕ) (x y : M Chunk) (c : Config) → does (both_calls node op mark x y) c ≡ fwd (visit_both node op mark x y) c
unfolding visit_both
both_forward node op mark x y c =
    start _ _ _ _ (step _ _ _ _ _ _ λ a t. step _ _ _ _ _ _ λ b u. step _ _ _ _ _ _ λ r v. last _ _ _ _ (same _ _ _ _
    (append_assoc (c.code ++ a.code) b.code _ ∙ append_assoc c.code a.code _)))

-- on the left of Minus
pub minus_forward : (node op mark k : ℕ) (x y : M Chunk) (c : Config) → does (minus_calls node op mark x y) c ≡ fwd (visit_binary node op mark none (some k) x y) c
unfolding visit_binary visit_dropped roll_back
minus_forward node op mark k x y c =
    start _ _ _ _ (group_then _ _ _ _ _ _ (step _ _ _ _ _ _ λ a t. group_then _ _ _ _ _ _ (step _ _ _ _ _ _ λ r u. now _ _ _ (pass_next _ _ _ _ _
    (ap (λ l. fwd (visit_both node op mark x y) (config l 0 u)) (take_at c.code a.code (length c.code) refl) ∙ tail _ _ _)))))

pub logical_forward : (node op mark : ℕ) (x y : M Chunk) (c : Config) → does (logical_calls op mark x y) c ≡ fwd (visit_logical node op mark x y) c
unfolding visit_logical test_and_jump end_logical jump_here
logical_forward node op mark x y c =
    start _ _ _ _ (step _ _ _ _ _ _ λ a t. now _ _ _ (step _ _ _ _ _ _ λ b u. last _ _ _ _ (same _ _ _ _ (leap c.code a.code b.code _ _ _ mark _ refl))))

-- ---- calls

pub register_none : (node : ℕ) (c : Config) → going (give 0 c) ≡ fwd_zero (next_registers node 0) c
unfolding next_registers
register_none node c = start _ _ _ _ (last _ _ _ _ refl)

pub register_forward : (node n : ℕ) (c : Config) → does (register_calls node n) c ≡ fwd_zero (next_registers node (suc n)) c
unfolding next_registers
register_forward node n c = start _ _ _ _ (step _ _ _ _ _ _ λ r t. tail _ _ _)

-- no argument, no elif, no method
pub code_none : (c : Config) → going (give 0 c) ≡ fwd_code (pure []) c
code_none c = start _ _ _ _ (last _ _ _ _ (same _ _ _ _ (sym (append-nil c.code))))

pub argument_forward : (register : ℕ) (x : M Chunk) (others : M (List Instruction)) (c : Config) → does (argument_calls register x others) c ≡ fwd_code (visit_argument register x others) c
unfolding visit_argument
argument_forward register x others c =
    start _ _ _ _ (step _ _ _ _ _ _ λ a t. now _ _ _ (more _ _ _ _ _ λ l u. same _ _ _ _ (append_assoc (c.code ++ a.code) (_ ∷ []) l ∙ append_assoc c.code a.code _)))

pub call_forward : (node mark n : ℕ) (x : M Chunk) (xs : ℕ → M (List Instruction)) (c : Config) → does (call_calls node mark n x xs) c ≡ fwd (visit_call node mark n x xs) c
unfolding visit_call open_call end_call
call_forward node mark n x xs c =
    start _ _ _ _ (step _ _ _ _ _ _ λ a t. inner _ _ _ _ (step_known _ _ _ _ _ _ λ f u e1. inner _ _ _ _ (step_known _ _ _ _ _ _ λ s v e2. inner _ _ _ _ (next _ _ _ _ _ _ λ z w. now _ _ _
    (step_as _ _ _ _ _ _ _ (ap xs (sym (registers_follow node node _ u v f s e1 e2))) λ l p. step _ _ _ _ _ _ λ r q. last _ _ _ _ (same _ _ _ _ (simp append_assoc)))))))
