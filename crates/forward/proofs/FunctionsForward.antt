-- Functions, written forward: parameters, the body with its Return, visit_function_expr and visit_fn_stmt, names. The body asks one thing more than
-- its calls: that its row gives as many chunks as it has statements (`Rows`, which `rows` proves for every list of statements).
use Prim.Native.Nat.{ℕ, zero, suc, ◌+◌, ◌-◌}
use mathlib.Core.Path.{◌≡◌, refl, sym, ap, ◌∙◌}
use mathlib.Core.Bool.{false}
use mathlib.Core.List.{List, [], ◌∷◌, ◌++◌, append_assoc, append-nil}
use native.Mathlib.Omega.{arith}
use lib.ListN.{get_or, length, length-append}
use lib.Seq.{get_or-append-add}
use lib.Dec.{eqb}
use borrow.Author.Tests.{eq-eqb, ne_eqb}
use Rattle.meaning.specs.Opcode.{inst, inst_bx, Return, Closure}
use Rattle.meaning.specs.declared.Token.{Token}
use Rattle.meaning.specs.Syntax.{Stmts, no_stmt, and_stmt}
use Rattle.meaning.specs.State.{State, Chunk, M, Res, refused, done, and_then, ◌>>=◌, pure, only_if, leave_block, in_block}
use Rattle.meaning.specs.Chunk.{chunk}
use Rattle.meaning.specs.Functions.{parameters, last_mark, return_of_code, close_body, visit_body, no_name, function_code, visit_function, fun_code, define_name, declare_name, visit_fun}
use Rattle.meaning.specs.Lower.{row, lower_stmt, lower_stmts}
use Rattle.meaning.specs.declared.Cause.TheVariants.{Empty}
use Rattle.meaning.specs.declared.Instruction.{Instruction}
use Rattle.forward.specs.Forward.{Config, config, stopped, going, bind, pick, on, at, give, put, add_chunk, add_code, add_row, fwd, fwd_code, fwd_unit, fwd_zero, open_function, open_fun, end_body, closure, end_function, declare, name_result, end_fun}
use Rattle.forward.proofs.Steps.{bind_ext, now, inner, joint, group, same, start, step, step_known, next, asked, tail, last, halt, either, more, closing, Such, such}
use Rattle.forward.proofs.Calls.{does}
use Rattle.forward.proofs.Around.{in_function_bracket}
use Rattle.forward.proofs.Lines.{parameter_calls, body_calls, function_calls, fun_calls, declare_name_calls}

-- ---- parameters

pub parameter_none : (node : ℕ) (c : Config) → going (give 0 c) ≡ fwd_zero (parameters node []) c
unfolding parameters
parameter_none node c = start _ _ _ _ (last _ _ _ _ refl)

pub parameter_forward : (node : ℕ) (p : Token) (ps : List Token) (c : Config) → does (parameter_calls node p ps) c ≡ fwd_zero (parameters node (p ∷ ps)) c
unfolding parameters
parameter_forward node p ps c = start _ _ _ _ (step _ _ _ _ _ _ λ r t. next _ _ _ _ _ _ λ z u. tail _ _ _)

-- ---- a function's body

-- the mark of the last instruction, read from the end of the code
pub last_at : (c : List Instruction) (x : Instruction) (xs : List Instruction) (d : Instruction) → (get_or (c ++ x ∷ xs) (length (c ++ x ∷ xs) - 1) d).mark ≡ last_mark x xs
last_at c x xs d =
    let n : length (c ++ x ∷ xs) - 1 ≡ length c + length xs = simp length-append (omega arith) in
    rw (n, get_or-append-add c (x ∷ xs) (length xs) d) (ends x xs)
  where
    ends : (x : Instruction) (xs : List Instruction) → (get_or (x ∷ xs) (length xs) d).mark ≡ last_mark x xs
    ends x [] = refl
    ends x (y ∷ ys) = ends y ys

end_one : (node r : ℕ) (code : List Instruction) (c : Config)
    → pick (eqb (length (c.code ++ code)) (length c.code)) (stopped Empty node)
    (going (put 0 (inst Return r (r + 2) 0 (get_or (c.code ++ code) (length (c.code ++ code) - 1) (inst 0 0 0 0 0)).mark) (config (c.code ++ code) r c.state)))
    ≡ on (return_of_code node r code c.state) (λ l t. going (add_code l (at t c)))
unfolding return_of_code pick
end_one node r [] c = rw (append-nil, eq-eqb (length c.code) (length c.code) refl) (halt _ _ _ _)
end_one node r (x ∷ xs) c =
    let n : eqb (length (c.code ++ x ∷ xs)) (length c.code) ≡ false = ne_eqb (length (c.code ++ x ∷ xs)) (length c.code) (λ e. omega (arith, e, length-append c.code (x ∷ xs))) in
    rw (n, last_at c.code x xs (inst 0 0 0 0 0)) (last _ _ _ _ (same _ _ _ _ (append_assoc c.code (x ∷ xs) _)))

-- by the number of chunks
end_body_is : (node : ℕ) (cs : List Chunk) (c : Config) → end_body (length cs) (length c.code) node (add_row cs c) ≡ on (close_body node cs c.state) (λ l t. going (add_code l (at t c)))
unfolding end_body close_body pick
end_body_is node [] c = last _ _ _ _ refl
end_body_is node (x ∷ []) c = rw (append-nil) (either (eqb x.result 254) _ _ _ _ _ _ (halt _ _ _ _) (end_one node x.result x.code c))
end_body_is node (x ∷ y ∷ ys) c = rw (ne_eqb (length (x ∷ y ∷ ys)) 1 (λ e. omega (arith, e))) (last _ _ _ _ refl)

end_body_forward : (n node : ℕ) (cs : List Chunk) (c : Config) → length cs ≡ n → end_body n (length c.code) node (add_row cs c) ≡ fwd_code (close_body node cs) c
end_body_forward n node cs c h = start _ _ _ _ (rw (sym h) (end_body_is node cs c))

-- a row of n chunks
abbrev pub Rows : ℕ → M (List Chunk) → Type 0
Rows n xs = (s : State) → Such (λ cs t. length cs ≡ n) (xs s)

pub body_forward : (n node : ℕ) (xs : M (List Chunk)) → Rows n xs → (c : Config) → does (body_calls n node xs) c ≡ fwd_code (visit_body node xs) c
unfolding visit_body in_block
body_forward n node xs h c =
    start _ _ _ _ (next _ _ _ _ _ _ λ z s. group _ _ _ _ _ _ (step_known _ _ _ _ _ _ λ cs t e.
    ap (λ r. bind r (λ f. fwd_unit leave_block f)) (end_body_forward n node cs (at t c) (such _ _ cs t (h s) e)) ∙ step _ _ _ _ _ _ λ l u. closing _ _ _ _ (λ v. refl)))

-- ---- as many chunks as statements

unfoldable pub stmt_count : Stmts → ℕ
stmt_count no_stmt = zero
stmt_count (and_stmt s ss) = suc (stmt_count ss)

rows_row : (n : ℕ) (x : M Chunk) (xs : M (List Chunk)) → Rows n xs → Rows (suc n) (row x xs)
unfolding row ◌>>=◌ and_then pure
rows_row n x xs h s = one (x s)
  where
    two : (a : Chunk) (r : Res (List Chunk)) → Such (λ cs t. length cs ≡ n) r → Such (λ cs t. length cs ≡ suc n) (and_then r (λ cs. pure (a ∷ cs)))
    two a (refused k p) h = tt
    two a (done cs t) h = ap suc h

    one : (r : Res Chunk) → Such (λ cs t. length cs ≡ suc n) (and_then r (λ a. λ t. and_then (xs t) (λ cs. pure (a ∷ cs))))
    one (refused k p) = tt
    one (done a t) = two a (xs t) (h t)

pub rows : (mode : ℕ) (ss : Stmts) → Rows (stmt_count ss) (lower_stmts mode ss)
unfolding lower_stmts stmt_count pure
rows mode no_stmt s = refl
rows mode (and_stmt x xs) s = rows_row (stmt_count xs) (lower_stmt mode x) (lower_stmts mode xs) (rows mode xs) s

-- ---- names

pub declare_name_forward : (x : Token) (c : Config) → does (declare_name_calls x) c ≡ fwd_unit (declare_name x) c
unfolding declare_name only_if
declare_name_forward x c = start _ _ _ _ (asked _ _ _ _ _ λ g t. either g _ _ _ _ _ _ (tail _ _ _) (last _ _ _ _ refl))

-- the code and the result of k being written
pub define_forward : (node : ℕ) (x : Token) (k : Chunk) (c : Config) → name_result node x (add_chunk k c) ≡ fwd (define_name node x k) c
unfolding name_result define_name
define_forward node x k c =
    start _ _ _ _ (asked _ _ _ _ _ λ g t. either g _ _ _ _ _ _ (step _ _ _ _ _ _ λ i u. last _ _ _ _ (same _ _ _ _ (append_assoc c.code k.code _))) (closing _ _ _ _ (λ v. refl)))

-- ---- functions

function_code_forward : (node : ℕ) (ps : List Token) (xs : M (List Chunk)) (c : Config) → bind (open_function node ps c) (λ d. fwd_code (visit_body node xs) d) ≡ fwd_code (function_code node ps xs) c
unfolding function_code open_function
function_code_forward node ps xs c = start _ _ _ _ (inner _ _ _ _ (step _ _ _ _ _ _ λ r t. next _ _ _ _ _ _ λ z u. tail _ _ _))

pub function_forward : (node : ℕ) (ps : List Token) (xs : M (List Chunk)) (c : Config) → does (function_calls node ps xs) c ≡ fwd (visit_function node ps xs) c
unfolding visit_function end_function closure
function_forward node ps xs c =
    start _ _ _ _ (step _ _ _ _ _ _ λ r t. bind_ext _ _ _ (λ e. joint _ _ _ _ (function_code_forward node ps xs e))
    ∙ in_function_bracket node no_name (length ps) (function_code node ps xs) _ _ _ _ λ i u. last _ _ _ _ refl)

fun_code_forward : (node : ℕ) (x : Token) (ps : List Token) (xs : M (List Chunk)) (c : Config) → bind (open_fun node x ps c) (λ d. fwd_code (visit_body node xs) d) ≡ fwd_code (fun_code node x ps xs) c
unfolding fun_code open_fun
fun_code_forward node x ps xs c =
    start _ _ _ _ (inner _ _ _ _ (step _ _ _ _ _ _ λ r t. inner _ _ _ _ (next _ _ _ _ _ _ λ z u. inner _ _ _ _ (next _ _ _ _ _ _ λ y v. now _ _ _ (more _ _ _ _ _ λ l w. same _ _ _ _ (append_assoc c.code (_ ∷ []) l))))))

pub fun_forward : (node : ℕ) (x : Token) (ps : List Token) (xs : M (List Chunk)) (c : Config) → does (fun_calls node x ps xs) c ≡ fwd (visit_fun node x ps xs) c
unfolding visit_fun declare end_fun closure
fun_forward node x ps xs c =
    start _ _ _ _ (inner _ _ _ _ (step _ _ _ _ _ _ λ r t. next _ _ _ _ _ _ λ z u. bind_ext _ _ _ (λ e. joint _ _ _ _ (fun_code_forward node x ps xs e))
    ∙ in_function_bracket node x.name (length ps) (fun_code node x ps xs) _ _ _ _ λ i v. define_forward node x (chunk (inst_bx Closure r i x.mark ∷ []) r) (at v c) ∙ tail _ _ _))
