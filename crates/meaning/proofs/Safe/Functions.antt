-- The laws of the function visitors (Functions.antt).
-- The idea: as for expressions; the body is lowered between two brackets (Brackets), where register 0 is taken already, so that the
-- result of a body of one statement is a register even where it is 0 for want of another.
use Prim.Native.Nat.{ℕ, ◌+◌, ◌<◌}
use mathlib.Core.Bool.{cond}
use mathlib.Core.List.{List, [], ◌∷◌}
use native.Mathlib.Omega.{arith}
use lib.Dec.{eqb}
use Rattle.meaning.specs.Opcode.{inst, inst_bx, Return, SetGlobal}
use Rattle.meaning.specs.declared.Token.{Token}
use Rattle.meaning.specs.State.{State, Chunk, M, only_if, is_global_context}
use Rattle.meaning.specs.Functions.{last_mark, parameters, return_of_code, close_body, visit_body, function_code, visit_function, fun_code, define_name, declare_name, visit_fun}
use Rattle.meaning.specs.Safety.{IsText, All}
use Rattle.meaning.specs.declared.Instruction.{Instruction}
use Rattle.meaning.proofs.Safe.Obeys.{view, shift, plus_one}
use Rattle.meaning.proofs.Safe.Patches.{choice}
use Rattle.meaning.proofs.Safe.Sound.{Sound, more_chain, Gives, Always, bind, next, by_pure, by_refuse, either, weaken, regs, Whatever, takes, allocates, globals, gets, stores, Code, Good, good_more, Row, row_sane}
use Rattle.meaning.proofs.Safe.Brackets.{block_gives, function_gives}

-- what a Return of register r meets
pub returned_below : (n r b : ℕ) → r < n → All (λ x. x < n) (cond (eqb b 0) [] (r ∷ []))
returned_below n r b h = choice (All (λ x. x < n)) (eqb b 0) (λ e. tt) (λ e. (h, tt))

-- ---- bodies

parameters_good : (node : ℕ) (ps : List Token) → Always (parameters node ps) Whatever
unfolding parameters
parameters_good node [] s σ = by_pure tt σ tt
parameters_good node (p ∷ ps) s σ =
    bind (takes node s σ) λ r t τ g q. next (allocates _ r t τ (omega arith)) λ a u υ g' e. parameters_good node ps u υ

return_good : (node r : ℕ) (code : List Instruction) (s : State) → Sound s → r < regs s → Code code (view s) → Gives (return_of_code node r code) s Code
unfolding return_of_code
return_good node r [] s σ h k = by_refuse _ node s
return_good node r (x ∷ xs) s σ h k = by_pure _ σ (plus_one _ (x ∷ xs) (inst Return r (r + 2) 0 (last_mark x xs)) k (returned_below _ r (r + 2) h, tt))

close_good : (node : ℕ) (cs : List Chunk) (s : State) → Sound s → 0 < regs s → Row cs (view s) → Gives (close_body node cs) s Code
unfolding close_body
close_good node [] s σ h k = by_pure _ σ tt
close_good node (c ∷ []) s σ h k = either _ (by_refuse _ node s) (return_good node _ _ s σ (omega (arith, k.0.result)) k.0.code)
close_good node (c ∷ d ∷ cs) s σ h k = by_pure _ σ (row_sane (c ∷ d ∷ cs) _ k)

body_good : (node : ℕ) {b : M (List Chunk)} → Always b Row → (s : State) → Sound s → 0 < regs s → Gives (visit_body node b) s Code
unfolding visit_body
body_good node hb s σ h = block_gives s σ λ t τ e. bind (hb t τ) λ cs u υ g q. close_good node cs u υ (omega (arith, g.wider.registers)) q

-- ---- function expressions

function_code_good : (node : ℕ) (ps : List Token) {b : M (List Chunk)} → Always b Row → Always (function_code node ps b) Code
unfolding function_code
function_code_good node ps hb s σ =
    bind (takes node s σ) λ r t τ g q. next (parameters_good node ps t τ) λ a u υ g' e. body_good node hb u υ (omega (arith, g'.wider.registers))

pub function_good : (node : ℕ) (ps : List Token) {b : M (List Chunk)} → Always b Row → Always (visit_function node ps b) Good
unfolding visit_function
function_good node ps hb s σ =
    bind (takes node s σ) λ r t τ g q. bind (function_gives node _ _ (λ u υ e. function_code_good node ps hb u υ) t τ) λ i u υ g' e.
    by_pure _ υ (record { code = (((omega arith, tt), e.1), tt); result = omega arith })

-- ---- function statements

pub define_good : (node : ℕ) (x : Token) (c : Chunk) (s : State) → Sound s → Good c (view s) → Gives (define_name node x c) s Good
unfolding define_name is_global_context
define_good node x c s σ h =
    bind (gets _ s σ) λ b t τ g e.
    either b
    (bind (stores node _ IsText tt t τ) λ k u υ g' e'.
    let c' = good_more c s u (more_chain g g') h in
    by_pure _ υ (record { code = plus_one _ c.code (inst_bx SetGlobal c.result k x.mark) c'.code ((c'.result, tt), e'.1); result = c'.result }))
    (next (allocates _ _ t τ (omega (arith, h.result))) λ a u υ g' e'. by_pure c υ (good_more c s u (more_chain g g') h))

pub declare_good : (x : Token) (s : State) → Sound s → Gives (declare_name x) s Whatever
unfolding declare_name is_global_context only_if
declare_good x s σ = bind (gets _ s σ) λ b t τ g e. either b (weaken (globals _ t τ) (λ a u g' e'. tt)) (by_pure tt τ tt)

fun_code_good : (node : ℕ) (x : Token) (ps : List Token) {b : M (List Chunk)} → Always b Row → Always (fun_code node x ps b) Code
unfolding fun_code
fun_code_good node x ps hb s σ =
    bind (takes node s σ) λ self t1 τ1 g1 p1. next (allocates _ self t1 τ1 (omega arith)) λ a t2 τ2 g2 p2. next (parameters_good node ps t2 τ2) λ b t3 τ3 g3 p3.
    bind (body_good node hb t3 τ3 (omega (arith, g3.wider.registers))) λ code t4 τ4 g4 p4.
    by_pure _ τ4 (((omega (arith, g3.wider.registers, g4.wider.registers), tt), tt), shift _ 1 0 code p4)

pub fun_good : (node : ℕ) (x : Token) (ps : List Token) {b : M (List Chunk)} → Always b Row → Always (visit_fun node x ps b) Good
unfolding visit_fun
fun_good node x ps hb s σ =
    bind (takes node s σ) λ r t τ g q. next (declare_good x t τ) λ a u υ g1 q1.
    bind (function_gives node _ _ (λ v ν e. fun_code_good node x ps hb v ν) u υ) λ i v ν g2 e2.
    define_good node x _ v ν (record { code = (((omega (arith, g1.wider.registers), tt), e2.1), tt); result = omega (arith, g1.wider.registers) })
