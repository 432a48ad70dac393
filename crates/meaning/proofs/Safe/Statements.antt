-- The laws of the statement visitors (Statements.antt).
-- The idea: as for expressions; what jumps is left to the shapes of Patches (loop-sane, branch-sane, try-sane).
use Prim.Native.Nat.{ℕ, suc, ◌+◌, ◌<◌}
use mathlib.Core.Path.{refl}
use mathlib.Core.List.{List, [], ◌∷◌, ◌++◌}
use native.Mathlib.Omega.{arith}
use lib.Dec.{eqb}
use lib.ListN.{length-append}
use borrow.Author.Tests.{eqb-false}
use Rattle.meaning.specs.Opcode.{inst, inst_bx, no_mark, LoadK, Jmp, Lt, Return, Class, ClassMeth, ClassStMeth, Addi, Length, SetGlobal, jmp_break, jmp_continue}
use Rattle.meaning.specs.declared.Token.{Token}
use Rattle.meaning.specs.Syntax.{Super, no_super, super}
use Rattle.meaning.specs.State.{State, Chunk, M, is_global_var, is_global_context}
use Rattle.meaning.specs.Chunk.{joined, branch_code}
use Rattle.meaning.specs.Statements.{new_global, visit_let_as, visit_let_only, visit_block, visit_while, visit_classic_for, iterate_each, iterate, visit_for_in, visit_jump, visit_return, visit_return_none, visit_if, visit_elif, visit_catch, visit_try, visit_super, visit_method, visit_methods, visit_class}
use Rattle.meaning.specs.Safety.{IsText, Holds}
use Rattle.meaning.specs.declared.Instruction.{Instruction}
use Rattle.meaning.proofs.Safe.Obeys.{View, Any, Obeys, Leap, continues, breaks, holds_grown, wider_in_loop, in_a_loop, widen, shift, join, plus_one, one_plus}
use Rattle.meaning.proofs.Safe.Patches.{encoded, goal_inside, loop_sane, branch_sane, patch_ends_sane, try_sane}
use Rattle.meaning.proofs.Safe.Sound.{Sound, More, more_chain, Gives, Always, bind, next, by_pure, by_refuse, either, either_known, weaken, regs, takes, allocates, globals, gets, stores, Code, Good, Loose, Row, loose, good_more, loose_more, row_sane}
use Rattle.meaning.proofs.Safe.Brackets.{block_gives, loop_gives}
use Rattle.meaning.proofs.Safe.Expressions.{variable_good}
use Rattle.meaning.proofs.Safe.Functions.{returned_below, define_good, declare_good}

-- ---- let and block

-- a text among the constants, by its index as an instruction has it
abbrev Named : ℕ → View → Type 0
Named k v = Holds IsText v.constants (encoded k)

new_global_good : (node : ℕ) (x : Token) (s : State) → Sound s → Gives (new_global node x) s Named
unfolding new_global is_global_var
new_global_good node x s σ =
    bind (gets _ s σ) λ b t τ g e. either b (by_refuse _ node t) (next (globals _ t τ) λ a u υ g' e'. weaken (stores node _ IsText tt u υ) (λ k v g'' e''. e''.1))

pub let_as_good : (node : ℕ) (x : Token) {i : M Chunk} → Always i Good → Always (visit_let_as node x i) Loose
unfolding visit_let_as is_global_context
let_as_good node x hi s σ =
    bind (gets _ s σ) λ b t τ g e.
    either b
    (bind (new_global_good node x t τ) λ k u υ g1 e1. bind (hi u υ) λ c v ν g2 p.
    by_pure _ ν (loose _ _ (record {
      code = plus_one _ c.code (inst_bx SetGlobal c.result k x.mark) p.code ((p.result, tt), holds_grown IsText _ g2.wider.constants e1);
      result = p.result;
    })))
    (bind (hi t τ) λ c u υ g1 p. next (allocates _ _ u υ p.result) λ a v ν g2 e2. by_pure c ν (loose c _ (good_more c u v g2 p)))

pub let_only_good : (node : ℕ) (x : Token) → Always (visit_let_only node x) Loose
unfolding visit_let_only is_global_context
let_only_good node x s σ =
    bind (gets _ s σ) λ b t τ g e.
    either b
    (bind (new_global_good node x t τ) λ k u υ g1 e1. bind (takes node u υ) λ r v ν g2 p.
    by_pure _ ν (record { code = (((omega arith, tt), tt), (((omega arith, tt), holds_grown IsText _ g2.wider.constants e1), tt)); result = omega arith }))
    (bind (takes node t τ) λ r u υ g1 p. next (allocates _ r u υ (omega arith)) λ a v ν g2 e2. by_pure _ ν (record { code = tt; result = omega arith }))

pub block_good : {b : M (List Chunk)} → Always b Row → Always (visit_block b) Loose
unfolding visit_block
block_good hb s σ = block_gives s σ λ t τ e. bind (hb t τ) λ cs u υ g p. by_pure _ υ (record { code = row_sane cs _ p; result = omega arith })

-- ---- loops

pub while_good : (node mark : ℕ) {c b : M Chunk} → Always c Good → Always b Loose → Always (visit_while node mark c b) Loose
unfolding visit_while
while_good node mark hc hb s σ =
    bind (hc s σ) λ c t τ g p. bind (loop_gives hb t τ) λ b u υ g' q.
    let p' = good_more c t u g' p in
    by_pure _ υ (record { code = loop_sane _ 0 mark [] c.code _ b.code (omega arith) tt p'.code p'.result q.code; result = omega (arith, p'.result) })

pub for_good : (mode node mark : ℕ) {i : M (List Chunk)} {c n b : M Chunk} → Always i Row → Always c Good → Always n Good → Always b Loose → Always (visit_classic_for mode node mark i c n b) Loose
unfolding visit_classic_for
for_good mode node mark hi hc hn hb s σ =
    bind (hi s σ) λ i t1 τ1 g1 p1. bind (hc t1 τ1) λ c t2 τ2 g2 p2. bind (loop_gives hb t2 τ2) λ b t3 τ3 g3 p3. bind (hn t3 τ3) λ n t4 τ4 g4 p4.
    let c' = good_more c t2 t4 (more_chain g3 g4) p2 in
    by_pure _ τ4 (record {
      code = loop_sane _ _ mark (joined i) c.code _ (b.code ++ n.code) (goal_inside mode _ _ (omega (arith, length-append b.code n.code)))
          (widen (joined i) (more_chain g2 (more_chain g3 g4)).wider (row_sane i _ p1)) c'.code c'.result
          (join _ b.code _ (widen b.code (wider_in_loop g4.wider) p3.code) (in_a_loop _ n.code p4.code));
      result = omega arith;
    })

each_good : (node mark element i : ℕ) (xs : List Token) (s : State) → Sound s → element < regs s → Gives (iterate_each node mark element i xs) s Code
unfolding iterate_each
each_good node mark element i [] s σ h = by_pure _ σ tt
each_good node mark element i (x ∷ xs) s σ h =
    bind (takes node s σ) λ r t τ g q. next (allocates _ r t τ (omega arith)) λ a u υ g' e.
    bind (each_good node mark element (suc i) xs u υ (omega arith)) λ more v ν g'' p.
    by_pure _ ν (((omega (arith, g''.wider.registers), (omega (arith, g''.wider.registers), tt)), tt), shift _ 1 0 more p)

iterate_good : (node mark element collection counter : ℕ) (xs : List Token) (s : State) → Sound s → element < regs s → collection < regs s → counter < regs s
    → Gives (iterate node mark element collection counter xs) s Code
unfolding iterate
iterate_good node mark element collection counter [] s σ h1 h2 h3 = by_pure _ σ tt
iterate_good node mark element collection counter (x ∷ []) s σ h1 h2 h3 =
    next (allocates _ _ s σ h1) λ a t τ g e. by_pure _ τ (((omega arith, (omega arith, (omega arith, tt))), tt), tt)
iterate_good node mark element collection counter (x ∷ y ∷ xs) s σ h1 h2 h3 =
    bind (each_good node mark element 0 (x ∷ y ∷ xs) s σ h1) λ parts t τ g p.
    let r = g.wider.registers in
    by_pure _ τ (((omega arith, (omega arith, (omega arith, tt))), tt), shift _ 1 0 parts p)

pub for_in_good : (mode node mark : ℕ) (xs : List Token) {c b : M Chunk} → Always c Good → Always b Loose → Always (visit_for_in mode node mark xs c b) Loose
unfolding visit_for_in
for_in_good mode node mark xs hc hb s σ =
    bind (takes node s σ) λ counter t1 τ1 g1 p1. bind (takes node t1 τ1) λ size t2 τ2 g2 p2. bind (takes node t2 τ2) λ condition t3 τ3 g3 p3. bind (takes node t3 τ3) λ element t4 τ4 g4 p4.
    bind (stores node _ Any tt t4 τ4) λ k t5 τ5 g5 p5. bind (hc t5 τ5) λ c t6 τ6 g6 p6.
    bind (iterate_good node mark element _ counter xs t6 τ6 (omega (arith, g6.wider.registers)) p6.result (omega (arith, g6.wider.registers))) λ heads t7 τ7 g7 p7.
    bind (loop_gives hb t7 τ7) λ b t8 τ8 g8 p8.
    let r6 = g6.wider.registers in let r7 = g7.wider.registers in let r8 = g8.wider.registers in
    let c' = good_more c t6 t8 (more_chain g7 g8) p6 in
    by_pure _ τ8 (record {
      code = loop_sane _ _ mark (inst_bx LoadK counter k mark ∷ c.code) (inst Length size c.result 0 mark ∷ inst Lt condition counter size mark ∷ []) condition (heads ++ (b.code ++ inst Addi counter counter 1 mark ∷ []))
          (goal_inside mode _ _ (omega (arith, length-append heads (b.code ++ inst Addi counter counter 1 mark ∷ []), length-append b.code (inst Addi counter counter 1 mark ∷ []))))
          (((omega arith, tt), holds_grown Any _ (more_chain g6 (more_chain g7 g8)).wider.constants p5.1), shift _ 1 0 c.code c'.code)
          (((omega arith, (c'.result, tt)), tt), (((omega arith, (omega arith, (omega arith, tt))), tt), tt))
          (omega arith)
          (join _ heads _ (in_a_loop _ heads (widen heads g8.wider p7)) (plus_one _ b.code (inst Addi counter counter 1 mark) p8.code ((omega arith, (omega arith, tt)), tt)));
      result = omega arith;
    })

-- ---- break, continue, return

-- a break or a continue, within a loop
stray_good : (node kind mark : ℕ) → ((l b e : ℕ) → 0 < l → Leap l b e (inst Jmp kind 0 0 mark)) → Always (visit_jump node kind mark) Loose
unfolding visit_jump
stray_good node kind mark h s σ =
    bind (gets _ s σ) λ l t τ g e.
    either_known (eqb l 0) (λ y. by_refuse _ node t) λ y.
    let ne = eqb-false l 0 y in let l-is = e.0 in let same = g.loops in
    by_pure _ τ (record { code = ((tt, h _ _ _ (omega (arith, ne, l-is, same))), tt); result = omega arith })

pub break_good : (node mark : ℕ) → Always (visit_jump node jmp_break mark) Loose
break_good node mark = stray_good node jmp_break mark (λ l b e h. breaks refl h)

pub continue_good : (node mark : ℕ) → Always (visit_jump node jmp_continue mark) Loose
continue_good node mark = stray_good node jmp_continue mark (λ l b e h. continues refl h)

pub return_good : (node mark : ℕ) {x : M Chunk} → Always x Good → Always (visit_return node mark x) Loose
unfolding visit_return
return_good node mark hx s σ =
    bind (hx s σ) λ c t τ g p.
    either _ (by_refuse _ node t)
    (by_pure _ τ (record { code = plus_one _ c.code (inst Return c.result (c.result + 2) 0 mark) p.code (returned_below _ _ (c.result + 2) p.result, tt); result = omega arith }))

pub return_none_good : (mark : ℕ) → Always (visit_return_none mark) Loose
unfolding visit_return_none
return_none_good mark s σ = by_pure _ σ (record { code = ((tt, tt), tt); result = omega arith })

-- ---- if and try

pub if_good : (node mark : ℕ) {c : M Chunk} {t e : M (List Chunk)} {es : M (List Instruction)} → Always c Good → Always t Row → Always es Code → Always e Row → Always (visit_if node mark c t es e) Loose
unfolding visit_if
if_good node mark hc ht hs he s σ =
    bind (hc s σ) λ c t1 τ1 g1 p1. bind (ht t1 τ1) λ t t2 τ2 g2 p2. bind (hs t2 τ2) λ es t3 τ3 g3 p3. bind (he t3 τ3) λ e t4 τ4 g4 p4.
    let c' = good_more c t1 t4 (more_chain g2 (more_chain g3 g4)) p1 in
    by_pure _ τ4 (record {
      code = patch_ends_sane _ (branch_code mark c (joined t) ++ (es ++ joined e))
          (join _ (branch_code mark c (joined t)) _
          (branch_sane _ mark c (joined t) c'.code c'.result (widen (joined t) (more_chain g3 g4).wider (row_sane t _ p2)))
          (join _ es _ (widen es g4.wider p3) (row_sane e _ p4)));
      result = omega arith;
    })

pub elif_good : {c : M Chunk} {b : M (List Chunk)} {es : M (List Instruction)} → Always c Good → Always b Row → Always es Code → Always (visit_elif c b es) Code
unfolding visit_elif
elif_good hc hb hs s σ =
    bind (hc s σ) λ c t1 τ1 g1 p1. bind (hb t1 τ1) λ b t2 τ2 g2 p2. bind (hs t2 τ2) λ more t3 τ3 g3 p3.
    let c' = good_more c t1 t3 (more_chain g2 g3) p1 in
    by_pure _ τ3 (join _ (branch_code no_mark c (joined b)) _ (branch_sane _ no_mark c (joined b) c'.code c'.result (widen (joined b) g3.wider (row_sane b _ p2))) p3)

catch_good : (node : ℕ) (x : Token) {c : M Chunk} → Always c Loose → Always (visit_catch node x c) Code
unfolding visit_catch
catch_good node x hc s σ =
    bind (takes node s σ) λ r t τ g q. next (allocates _ r t τ (omega arith)) λ a u υ g' e. bind (hc u υ) λ c v ν g'' p.
    by_pure _ ν (((omega (arith, g''.wider.registers), tt), tt), ((tt, tt), shift _ _ 0 c.code p.code))

pub try_good : (node : ℕ) (x : Token) {b c : M Chunk} → Always b Loose → Always c Loose → Always (visit_try node x b c) Loose
unfolding visit_try
try_good node x hb hc s σ =
    bind (hb s σ) λ b t τ g p. bind (block_gives t τ λ u υ e. catch_good node x hc u υ) λ code u υ g' q.
    by_pure _ υ (record { code = try_sane _ b.code code (loose_more b t u g' p).code q; result = omega arith })

-- ---- class

super_good : (node : ℕ) (x : Token) (p : Super) → Always (visit_super node x p) Good
unfolding visit_super
super_good node x no_super s σ = bind (takes node s σ) λ r t τ g q. by_pure _ τ (record { code = (((omega arith, tt), tt), tt); result = omega arith })
super_good node x (super n y) s σ = variable_good n y s σ

-- an opcode that meets a, b and c, and needs nothing else: ClassMeth, ClassStMeth
abbrev pub Three : ℕ → Type 0
Three op = (v : View) (b e x y z m : ℕ) → x < v.registers → y < v.registers → z < v.registers → Obeys v b e (inst op x y z m)

-- methods, given where they are put
abbrev pub Methods : (ℕ → ℕ → ℕ → M (List Instruction)) → Type 0
Methods ms = (op result tmp : ℕ) → Three op → (s : State) → Sound s → result < regs s → tmp < regs s → Gives (ms op result tmp) s Code

pub method_good : (node mark op result tmp name : ℕ) {f : M Chunk} {fs : M (List Instruction)} → Three op → (s : State) → Sound s → result < regs s → tmp < regs s
    → Always f Good → ((t : State) → Sound t → More s t → Gives fs t Code) → Gives (visit_method node mark op result tmp name f fs) s Code
unfolding visit_method
method_good node mark op result tmp name e s σ hr ht hf hs =
    bind (hf s σ) λ c t τ g p. bind (stores node _ Any tt t τ) λ k u υ g' e'. bind (hs u υ (more_chain g g')) λ more v ν g'' q.
    let r1 = g.wider.registers in let r2 = g'.wider.registers in let r3 = g''.wider.registers in
    let c' = good_more c t v (more_chain g' g'') p in
    by_pure _ ν (join _ c.code _ c'.code (
      ((omega arith, tt), holds_grown Any _ g''.wider.constants e'.1),
      (e _ _ _ result tmp c.result mark (omega arith) (omega arith) c'.result, shift _ _ 0 more q),
    ))

class_three : Three ClassMeth × Three ClassStMeth
class_three = (λ v b e x y z m hx hy hz. ((hx, (hy, (hz, tt))), tt), λ v b e x y z m hx hy hz. ((hx, (hy, (hz, tt))), tt))

methods_good : {ms ts : ℕ → ℕ → ℕ → M (List Instruction)} (result tmp : ℕ) → Methods ms → Methods ts → (s : State) → Sound s → result < regs s → tmp < regs s
    → Gives (visit_methods (ms ClassMeth result tmp) (ts ClassStMeth result tmp)) s Code
unfolding visit_methods
methods_good r tmp hm ht s σ hr hk =
    block_gives s σ λ u υ same.
    bind (hm ClassMeth r tmp class_three.0 u υ (omega arith) (omega arith)) λ m v ν g q. let w = g.wider.registers in
    bind (ht ClassStMeth r tmp class_three.1 v ν (omega arith) (omega arith)) λ t w ω g' q'.
    by_pure _ ω (join _ m t (widen m g'.wider q) q')

pub class_good : (node : ℕ) (x : Token) (p : Super) {ms ts : ℕ → ℕ → ℕ → M (List Instruction)} → Methods ms → Methods ts → Always (visit_class node x p ms ts) Good
unfolding visit_class
class_good node x p hm ht s σ =
    bind (takes node s σ) λ r t1 τ1 g1 p1. next (declare_good x t1 τ1) λ a t2 τ2 g2 p2. bind (takes node t2 τ2) λ tmp t3 τ3 g3 p3. bind (stores node _ Any tt t3 τ3) λ k t4 τ4 g4 p4.
    bind (super_good node x p t4 τ4) λ c t5 τ5 g5 p5.
    let r2 = g2.wider.registers in let r5 = g5.wider.registers in
    bind (methods_good r tmp hm ht t5 τ5 (omega arith) (omega arith)) λ ms t6 τ6 g6 p6.
    let r6 = g6.wider.registers in
    let c' = good_more c t5 t6 g6 p5 in
    define_good node x _ t6 τ6 (record {
      code = one_plus _ (inst_bx LoadK tmp k x.mark) (c.code ++ (inst Class r tmp c.result x.mark ∷ ms)) ((omega arith, tt), holds_grown Any _ (more_chain g5 g6).wider.constants p4.1)
          (join _ c.code (inst Class r tmp c.result x.mark ∷ ms) c'.code (((omega arith, (omega arith, (c'.result, tt))), tt), shift _ 1 0 ms p6));
      result = omega arith;
    })
