-- The laws of the expression visitors (Expressions.antt): each gives a good chunk where its children do.
-- The idea: each law follows its visitor's `do` block line by line (Sound). At the end stands the chunk's code, piece by piece, and what
-- each instruction needs (Obeys): registers below the count, and by opcode one thing more or nothing.
use Prim.Native.Nat.{ℕ, zero, suc, ◌+◌, ◌-◌, ◌≤◌, ◌<◌}
use mathlib.Core.Path.{◌≡◌}
use mathlib.Core.List.{List, [], ◌∷◌, ◌++◌}
use mathlib.Core.Option.{Option, none, some}
use native.Mathlib.Omega.{arith}
use lib.ListN.{length}
use lib.Dec.{eqb}
use Rattle.meaning.specs.Opcode.{inst, inst_bx, unary_opcode, binary_opcode, or, Move, Call, Addi, GetGlobal, GetBuiltin, Not, Neg, Add, Lt, Eq, Neq, Gt, Gte, Lte, Sub, Div, Mod, Mul, Pow}
use Rattle.meaning.specs.Constant.{Constant}
use Rattle.meaning.specs.declared.Token.{Token}
use Rattle.meaning.specs.State.{State, Chunk, M, is_global_var}
use Rattle.meaning.specs.Expressions.{or_flag, visit_literal, named, visit_outside, visit_captured, visit_local, visit_variable, visit_unary, visit_addi, visit_both, visit_dropped, visit_binary, visit_logical, next_registers, visit_call, visit_argument}
use Rattle.meaning.specs.Safety.{from, IsText, All, Holds}
use Rattle.meaning.specs.declared.Instruction.{Instruction}
use Rattle.meaning.proofs.Safe.Obeys.{View, view, Any, Obeys, all_append, all_table, widen, shift, join, plus_one, one_plus}
use Rattle.meaning.proofs.Safe.Patches.{encoded, guarded}
use Rattle.meaning.proofs.Safe.Sound.{Sound, More, more_chain, Gives, Always, bind, next, by_pure, by_refuse, either, weaken, regs, Whatever, takes, gets, stores, Code, Good, good_more}
use Rattle.meaning.proofs.Safe.Lookup.{Maybe, looks, captures}

-- ---- literals and variables

pub literal_good : (node : ℕ) (c : Constant) → Always (visit_literal node c) Good
unfolding visit_literal
literal_good node c s σ =
    bind (takes node s σ) λ r t τ g q. bind (stores node c Any tt t τ) λ k u υ g' e.
    by_pure _ υ (record { code = (((omega arith, tt), e.1), tt); result = omega arith })

-- an opcode that has a register and a name
named_good : (op node : ℕ) (x : Token) → ((v : View) (r k m : ℕ) → r < v.registers → Holds IsText v.constants (encoded k) → Obeys v 0 0 (inst_bx op r k m)) → Always (named op node x) Good
unfolding named
named_good op node x h s σ =
    bind (takes node s σ) λ r t τ g q. bind (stores node _ IsText tt t τ) λ k u υ g' e.
    by_pure _ υ (record { code = one_plus (view u) (inst_bx op r k x.mark) [] (h (view u) r k x.mark (omega arith) e.1) tt; result = omega arith })

outside_good : (node : ℕ) (x : Token) → Always (visit_outside node x) Good
unfolding visit_outside is_global_var
outside_good node x s σ =
    either _ (named_good GetBuiltin node x (λ v r k m h l. ((h, tt), l)) s σ)
    (bind (gets _ s σ) λ known t τ g q. either known (named_good GetGlobal node x (λ v r k m h l. ((h, tt), l)) t τ) (by_refuse _ node t))

captured_good : (node : ℕ) (x : Token) (o : Option ℕ) (s : State) → Sound s → Maybe (length s.current.captures) o → Gives (visit_captured node x o) s Good
unfolding visit_captured
captured_good node x none s σ h = outside_good node x s σ
captured_good node x (some i) s σ h =
    bind (takes node s σ) λ r t τ g q. by_pure _ τ (record { code = (((omega arith, tt), omega (arith, h, g.wider.captures)), tt); result = omega arith })

local_good : (node : ℕ) (x : Token) (o : Option ℕ) (s : State) → Sound s → Maybe (regs s) o → Gives (visit_local node x o) s Good
unfolding visit_local
local_good node x (some r) s σ h = by_pure _ σ (record { code = tt; result = h })
local_good node x none s σ h = bind (captures node _ s σ) λ i t τ g q. captured_good node x i t τ q.1

pub variable_good : (node : ℕ) (x : Token) → Always (visit_variable node x) Good
unfolding visit_variable
variable_good node x s σ = bind (looks _ s σ) λ o t τ g h. local_good node x o t τ h

-- ---- operators

unary_fine : (op : ℕ) (v : View) (a m : ℕ) → a < v.registers → Obeys v 0 0 (inst (unary_opcode op) a a 0 m)
unary_fine op v a m h =
    let ab : All (λ r. r < v.registers) (a ∷ a ∷ []) × Unit {0} = ((h, (h, tt)), tt) in
    all_table (λ o. Obeys v 0 0 (inst o a a 0 m)) (Move ∷ Not ∷ Neg ∷ []) Move op (ab, (ab, (ab, tt))) ab

binary_fine : (op : ℕ) (v : View) (a b c m : ℕ) → a < v.registers → b < v.registers → c < v.registers → Obeys v 0 0 (inst (binary_opcode op) a b c m)
binary_fine op v a b c m h k l =
    let ab : All (λ r. r < v.registers) (a ∷ b ∷ []) × Unit {0} = ((h, (k, tt)), tt) in
    let all : All (λ r. r < v.registers) (a ∷ b ∷ c ∷ []) × Unit {0} = ((h, (k, (l, tt))), tt) in
    all_table (λ o. Obeys v 0 0 (inst o a b c m)) (Move ∷ Add ∷ Lt ∷ Eq ∷ Neq ∷ Gt ∷ Gte ∷ Lte ∷ Sub ∷ Div ∷ Mod ∷ Mul ∷ Pow ∷ []) Move op
    (ab, (all, (all, (all, (all, (all, (all, (all, (all, (all, (all, (all, (all, tt))))))))))))) ab

pub unary_good : (node op mark : ℕ) {x : M Chunk} → Always x Good → Always (visit_unary node op mark x) Good
unfolding visit_unary
unary_good node op mark hx s σ =
    bind (hx s σ) λ c t τ g q.
    by_pure _ τ (record { code = plus_one _ c.code _ q.code (unary_fine op _ _ mark q.result); result = q.result })

addi_good : (node mark k : ℕ) {x : M Chunk} → Always x Good → Always (visit_addi node mark k x) Good
unfolding visit_addi
addi_good node mark k hx s σ =
    bind (hx s σ) λ l t τ g p. bind (takes node t τ) λ r u υ g' e.
    let p' = good_more l t u g' p in
    by_pure _ υ (record { code = plus_one _ l.code (inst Addi r l.result k mark) p'.code ((omega arith, (p'.result, tt)), tt); result = omega arith })

both_good : (node op mark : ℕ) {x y : M Chunk} → Always x Good → Always y Good → Always (visit_both node op mark x y) Good
unfolding visit_both
both_good node op mark hx hy s σ =
    bind (hx s σ) λ l t τ g p. bind (hy t τ) λ r u υ g' q. bind (takes node u υ) λ x v ν g'' e.
    let p' = good_more l t v (more_chain g' g'') p in let q' = good_more r u v g'' q in
    by_pure _ ν (record {
      code = join _ l.code _ p'.code (plus_one _ r.code _ q'.code (binary_fine op _ _ _ _ mark (omega arith) p'.result q'.result));
      result = omega arith;
    })

dropped_good : (node : ℕ) {y : M Chunk} → Always y Good → Always (visit_dropped node y) Whatever
unfolding visit_dropped
dropped_good node hy s σ = bind (hy s σ) λ c t τ g p. bind (takes node t τ) λ r u υ g' e. by_pure _ {Q = Whatever} υ tt

pub binary_good : (node op mark : ℕ) (i j : Option ℕ) {x y : M Chunk} → Always x Good → Always y Good → Always (visit_binary node op mark i j x y) Good
unfolding visit_binary
binary_good node op mark (some i) j hx hy s σ = addi_good node mark i hx s σ
binary_good node op mark none (some j) hx hy s σ = next (dropped_good node hy s σ) λ a t τ g p. both_good node op mark hx hy t τ
binary_good node op mark none none hx hy s σ = both_good node op mark hx hy s σ

pub logical_good : (node op mark : ℕ) {x y : M Chunk} → Always x Good → Always y Good → Always (visit_logical node op mark x y) Good
unfolding visit_logical
logical_good node op mark hx hy s σ =
    bind (hx s σ) λ l t τ g p. bind (hy t τ) λ r u υ g' q.
    let p' = good_more l t u g' p in
    by_pure _ υ (record {
      code = join _ l.code _ p'.code (guarded _ 0 l.result (or_flag (eqb op or)) mark _ mark r.code (inst Move l.result r.result 0 mark) (omega arith) p'.result q.code ((p'.result, (q.result, tt)), tt));
      result = p'.result;
    })

-- ---- calls

registers_taken : (node n : ℕ) (s : State) → Sound s → Gives (next_registers node n) s (λ a v. v.registers ≡ regs s + n)
unfolding next_registers
registers_taken node zero s σ = by_pure tt σ (omega arith)
registers_taken node (suc n) s σ = bind (takes node s σ) λ r t τ g q. weaken (registers_taken node n t τ) (λ a u g' e. omega arith)

from_below : (n r k : ℕ) → r + k ≤ n → All (λ x. x < n) (from r k)
from_below n r zero h = tt
from_below n r (suc k) h = (omega arith, from_below n (suc r) k (omega arith))

-- a Call of n arguments: f, as many after it, and the result's register
call_fine : (v : View) (f n r mark : ℕ) → f + n < v.registers → r < v.registers → Obeys v 0 0 (inst Call f (n + 1) (r + 1) mark)
call_fine v f n r mark h k = (
  (omega arith, all_append (λ x. x < v.registers) (from (f + 1) (n + 1 - 1)) _ (from_below _ (f + 1) (n + 1 - 1) (omega arith)) (omega arith, tt)),
  (omega arith, omega arith),
)

pub call_good : (node mark n : ℕ) {f : M Chunk} {xs : ℕ → M (List Instruction)} → Always f Good
    → ((r : ℕ) (s : State) → Sound s → r + n ≤ regs s → Gives (xs r) s Code) → Always (visit_call node mark n f xs) Good
unfolding visit_call
call_good node mark n hf hxs s σ =
    bind (hf s σ) λ c t1 σ1 g1 p1. bind (takes node t1 σ1) λ f t2 σ2 g2 p2. bind (takes node t2 σ2) λ r t3 σ3 g3 p3.
    next (registers_taken node (n - 1) t3 σ3) λ a t4 σ4 g4 p4. bind (hxs r t4 σ4 (omega arith)) λ code t5 σ5 g5 p5. bind (takes node t5 σ5) λ x t6 σ6 g6 p6.
    let c' = good_more c t1 t6 (more_chain g2 (more_chain g3 (more_chain g4 (more_chain g5 g6)))) p1 in
    by_pure _ σ6 (record {
      code = join _ c.code _ c'.code
          (one_plus _ (inst Move f c.result 0 mark) (code ++ _ ∷ []) ((omega (arith, g5.wider.registers), (c'.result, tt)), tt)
          (plus_one _ code _ (widen code g6.wider p5) (call_fine (view t6) f n x mark (omega (arith, g5.wider.registers)) (omega arith))));
      result = omega arith;
    })

pub argument_good : (r : ℕ) {x : M Chunk} {xs : M (List Instruction)} (s : State) → Sound s → r < regs s → Always x Good
    → ((t : State) → Sound t → More s t → Gives xs t Code) → Gives (visit_argument r x xs) s Code
unfolding visit_argument
argument_good r s σ h hx hxs =
    bind (hx s σ) λ c t τ g p. bind (hxs t τ g) λ more u υ g' q.
    let c' = good_more c t u g' p in
    by_pure _ υ (join _ c.code _ c'.code (((omega (arith, g.wider.registers, g'.wider.registers), (c'.result, tt)), tt), shift _ 1 0 more q))
