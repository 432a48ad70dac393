-- 02, E6: visits in any case: at most the number of nodes times the constants gained and one, so at most nodes x 1,025. By induction over the lowering,
-- in the shape of `Keeps`, whose steps without children it takes over: a step that is done on n nodes with v visits gained g constants, and v is at most
-- n * (1 + g). One visitor is not plain: a Minus with a small number on its left lowers its right side twice, but the number gains a constant itself,
-- and 2 + (v + w) is at most (2 + t) * (1 + (g + (1 + h))) where v is at most t * (1 + g) and w at most t * (1 + h).
use Prim.Native.Nat.{ℕ, zero, suc, ◌+◌, ◌-◌, ◌*◌, ◌≤◌, ◌<◌}
use mathlib.Core.Path.{◌≡◌, refl, sym, ap, subst, ◌∙◌}
use mathlib.Core.Bool.{Bool, true, false}
use mathlib.Core.List.{List, [], ◌∷◌, ◌++◌}
use mathlib.Core.Option.{Option, none, some}
use native.Mathlib.Nat.{mul-le-mul_left, add-mul, mul-add, suc-mul}
use native.Mathlib.Omega.{arith}
use lib.ListN.{length, length-append}
use lib.Dec.{eqb, leb, ltb}
use Rattle.meaning.specs.Constant.{Constant, number, text, other}
use Rattle.meaning.specs.Opcode.{plus, minus}
use Rattle.meaning.specs.Fields.{fields}
use Rattle.meaning.specs.Read.{read_program}
use Rattle.meaning.specs.declared.Token.{Token}
use Rattle.meaning.specs.Syntax.{Expr, literal, variable, unary, binary, logical, call, function, Exprs, no_expr, and_expr, Stmt, expression, let_only, let_as, block, while, classic_for, for_in, break, continue, return_none, return, if, try, define, class, Stmts, no_stmt, and_stmt, Elifs, no_elif, and_elif, Fun, fun, Funs, no_fun, and_fun, Super, no_super, super, small_operand, small_if}
use Rattle.meaning.specs.State.{State, Chunk, M, Res, refused, done, and_then, ◌>>=◌, ◌>>◌, pure, refuse, if_then, get, set_current, next_register, allocate_register, enter_block, leave_block, in_block, enter_loop, leave_loop, in_loop, add_constant, add_global, is_global_context, get_upvalue, searched, Search, not_found, full, found, search_outward, enter_function, add_prototype, close_function, in_function}
use Rattle.meaning.specs.Expressions.{visit_literal, visit_unary, visit_addi, visit_both, visit_dropped, visit_binary, visit_logical, visit_call, visit_argument}
use Rattle.meaning.specs.Functions.{visit_body, function_code, visit_function, fun_code, visit_fun}
use Rattle.meaning.specs.Statements.{visit_let_as, visit_block, visit_while, visit_classic_for, visit_for_in, visit_return, visit_if, visit_elif, visit_catch, visit_try, visit_super, visit_method, visit_methods, visit_class}
use Rattle.meaning.specs.Lower.{row, lower_expr, lower_arguments, lower_stmt, lower_stmts, lower_elifs, lower_fun, lower_methods, lower_program, start}
use Rattle.meaning.specs.Weight.{weight_super, weight_expr, size_super, size_expr, size_exprs, size_stmt, size_stmts, size_elifs, size_fun, size_funs}
use Rattle.meaning.specs.Visits.{right_visits, visits_super, under_expr, visits_expr, visits_exprs, visits_stmt, visits_stmts, visits_elifs, visits_fun, visits_funs, visits_program}
use Rattle.meaning.specs.Safety.{Lowered}
use Rattle.meaning.specs.declared.Instruction.{Instruction}
use Rattle.meaning.proofs.Keeps.{Along, Keeps, Kept, literal_keeps, variable_keeps, registers_keep, parameters_keep, close_keeps, define_keeps, declare_keeps, new_global_keeps, let_only_keeps, iterate_keeps, jump_keeps, return_none_keeps, super_keeps}
use Rattle.meaning.proofs.Grows.{then_along, if_along}
use Rattle.meaning.proofs.Weights.{accepted_size}

-- from s to t: n nodes were lowered with v visits
pub record Gained (n v : ℕ) (s t : State) : Type 0 where
  pub gain : ℕ
  pub constants : length t.constants ≡ length s.constants + gain
  pub few : v ≤ n * (1 + gain)

abbrev pub Costs : (n v : ℕ) → {A : Type 0} → M A → Type 0
Costs n v m = Keeps (Gained n v) m

-- ---- the arithmetic

parts_few : (s t g h v w : ℕ) → v ≤ s * (1 + g) → w ≤ t * (1 + h) → v + w ≤ (s + t) * (1 + (g + h))
parts_few s t g h v w a b =
    let p : s * (1 + g) ≤ s * (1 + (g + h)) = mul-le-mul_left s (omega arith) in
    let q : t * (1 + h) ≤ t * (1 + (g + h)) = mul-le-mul_left t (omega arith) in
    omega (arith, a, b, p, q, add-mul s t (1 + (g + h)))

pub more_few : (n d g v : ℕ) → v ≤ n * (1 + g) → v + d ≤ (n + d) * (1 + g)
more_few n d g v a =
    let p : d * 1 ≤ d * (1 + g) = mul-le-mul_left d (omega arith) in
    omega (arith, a, p, add-mul n d (1 + g))

slim : (n v g : ℕ) → v + 0 ≤ (n + 0) * (1 + g) → v ≤ n * (1 + g)
slim n v g h =
    let e : n + 0 ≡ n = omega arith in
    let h' : v + 0 ≤ n * (1 + g) = rw e at h in
    omega (arith, h')

twice_few : (t g h v w : ℕ) → v ≤ t * (1 + g) → w ≤ t * (1 + h) → 1 + (1 + (v + w)) ≤ (1 + (1 + t)) * (1 + (g + (1 + h)))
twice_few t g h v w a b =
    let e : 1 + (g + (1 + h)) ≡ (1 + g) + (1 + h) = omega arith in
    let d : 1 + (1 + t) ≡ 2 + t = omega arith in
    let f : t * ((1 + g) + (1 + h)) ≡ t * (1 + g) + t * (1 + h) = mul-add t (1 + g) (1 + h) in
    rw (e, d) (omega (arith, a, b, f, add-mul 2 t ((1 + g) + (1 + h))))

-- ---- steps one after the other

gained_then : {n v m w : ℕ} {s t u : State} → Gained n v s t → Gained m w t u → Gained (n + m) (v + w) s u
gained_then {n} {v} {m} {w} p q =
    record { gain = p.gain + q.gain; constants = omega (arith, p.constants, q.constants); few = parts_few n m p.gain q.gain v w p.few q.few }

along_by : (P Q : State → State → Type 0) {A : Type 0} (s t : State) (r : Res A) → ((u : State) → P t u → Q s u) → Along P t r → Along Q s r
along_by P Q s t (refused c p) f h = tt
along_by P Q s t (done a u) f h = f u h

-- a step and a step by whose relations a third holds
bind_by : {P Q T : State → State → Type 0} {A B : Type 0} {m : M A} {f : A → M B} → ((s t u : State) → P s t → Q t u → T s u) → Keeps P m → ((a : A) → Keeps Q (f a)) → Keeps T (m >>= f)
unfolding ◌>>=◌
bind_by {P} {Q} {T} {m = m} {f = f} c h k = record { at = λ s. then_along P T s s (m s) f (h.at s) (λ a t p. along_by Q T s t (f a t) (λ u q. c s t u p q) ((k a).at t)) }

next_by : {P Q T : State → State → Type 0} {A B : Type 0} {m : M A} {n : M B} → ((s t u : State) → P s t → Q t u → T s u) → Keeps P m → Keeps Q n → Keeps T (m >> n)
unfolding ◌>>◌
next_by {P} {Q} {T} {m = m} {n = n} c h k = record { at = λ s. then_along P T s s (m s) (λ a. n) (h.at s) (λ a t p. along_by Q T s t (n t) (λ u q. c s t u p q) (k.at t)) }

pub bind : {n v n' v' : ℕ} {A B : Type 0} {m : M A} {f : A → M B} → Costs n v m → ((a : A) → Costs n' v' (f a)) → Costs (n + n') (v + v') (m >>= f)
bind h k = bind_by (λ s t u p q. gained_then p q) h k

next : {n v n' v' : ℕ} {A B : Type 0} {m : M A} {k : M B} → Costs n v m → Costs n' v' k → Costs (n + n') (v + v') (m >> k)
next h k = next_by (λ s t u p q. gained_then p q) h k

-- d nodes more, and d visits more at most
counted : {n v : ℕ} (n' v' d : ℕ) {A : Type 0} {m : M A} → n' ≡ n + d → v' ≤ v + d → Costs n v m → Costs n' v' m
counted {n} {v} n' v' d {m = m} e l h = record { at = λ s. along_by (Gained n v) (Gained n' v') s s (m s) (λ u p. record { gain = p.gain; constants = p.constants; few = rw e (omega (arith, l, more_few n d p.gain v p.few)) }) (h.at s) }

either : {R : State → State → Type 0} {A : Type 0} (b : Bool) {m n : M A} → Keeps R m → Keeps R n → Keeps R (if_then b m n)
unfolding if_then
either true h k = h
either false h k = k

-- ---- the primitives: no node, no visit

idle : {s t : State} → length t.constants ≡ length s.constants → Gained 0 0 s t
idle e = record { gain = 0; constants = omega (arith, e); few = omega arith }

by_pure : {A : Type 0} (a : A) → Costs 0 0 (pure a)
unfolding pure
by_pure a = record { at = λ s. idle refl }

by_get : {A : Type 0} (f : State → A) → Costs 0 0 (get f)
unfolding get
by_get f = record { at = λ s. idle refl }

by_register : (node : ℕ) → Costs 0 0 (next_register node)
unfolding next_register ◌>>=◌ ◌>>◌ and_then get set_current pure refuse
by_register node = record { at = λ s. if_along (Gained 0 0) (eqb s.current.registers 255) _ _ s s tt (idle refl) }

by_allocate : (name r : ℕ) → Costs 0 0 (allocate_register name r)
unfolding allocate_register ◌>>=◌ and_then get set_current
by_allocate name r = record { at = λ s. idle refl }

One : State → State → Type 0
One s t = length t.constants ≡ length s.constants + 1

adds_one : (node : ℕ) (c : Constant) → Keeps One (add_constant node c)
unfolding add_constant refuse One
adds_one node c = record { at = λ s. if_along One (eqb (length s.constants) 1024) _ _ s s tt (length-append s.constants (c ∷ [])) }

by_constant : (node : ℕ) (c : Constant) → Costs 0 0 (add_constant node c)
unfolding One
by_constant node c = record { at = λ s. along_by One (Gained 0 0) s s (add_constant node c s) (λ u e. record { gain = 1; constants = e; few = omega arith }) ((adds_one node c).at s) }

by_global : (name : ℕ) → Costs 0 0 (add_global name)
unfolding add_global
by_global name = record { at = λ s. idle refl }

searched_idle : (node : ℕ) (s : State) (r : Search) → Along (Gained 0 0) s (searched node s r)
unfolding searched
searched_idle node s not_found = idle refl
searched_idle node s full = tt
searched_idle node s (found i g gs) = idle refl

by_capture : (node name : ℕ) → Costs 0 0 (get_upvalue node name)
unfolding get_upvalue
by_capture node name = record { at = λ s. searched_idle node s _ }

-- ---- what is lowered inside a block, a loop, a function

by_block : {n v : ℕ} {A : Type 0} {m : M A} → Costs n v m → Costs n v (in_block m)
unfolding in_block ◌>>=◌ ◌>>◌ and_then enter_block leave_block get set_current pure
by_block {n} {v} {m = m} h = record { at = λ s. then_along (Gained n v) (Gained n v) _ s (m _) _ (h.at _) (λ a t k. record { gain = k.gain; constants = k.constants; few = k.few }) }

by_loop : {n v : ℕ} {A : Type 0} {m : M A} → Costs n v m → Costs n v (in_loop m)
unfolding in_loop ◌>>=◌ ◌>>◌ and_then enter_loop leave_loop get set_current pure
by_loop {n} {v} {m = m} h = record { at = λ s. then_along (Gained n v) (Gained n v) _ s (m _) _ (h.at _) (λ a t k. record { gain = k.gain; constants = k.constants; few = k.few }) }

entered : (node name : ℕ) → Costs 0 0 (enter_function node name)
unfolding enter_function refuse
entered node name = record { at = λ s. if_along (Gained 0 0) (leb 7 (length s.outer)) _ _ s s tt (idle refl) }

pub prototyped : (node params : ℕ) (code : List Instruction) → Costs 0 0 (add_prototype node params code)
unfolding add_prototype refuse
prototyped node params code = record { at = λ s. if_along (Gained 0 0) (ltb 32767 (length code + 1)) _ _ s s tt (if_along (Gained 0 0) (eqb (length s.prototypes) 256) _ _ s s tt (idle refl)) }

closed : Costs 0 0 close_function
unfolding close_function
closed = record { at = λ s. idle refl }

by_function : {n v : ℕ} (node name params : ℕ) {m : M (List Instruction)} → Costs n v m → Costs n v (in_function node name params m)
unfolding in_function
by_function {n} {v} node name params h =
    counted n v 0 (omega arith) (omega arith) (next (entered node name) (bind h λ code. bind (prototyped node params code) λ i. next closed (by_pure i)))

chain_none : {s t u : State} → Gained 0 0 s t → Gained 0 0 t u → Gained 0 0 s u
chain_none p q = gained_then p q

gains_none : Kept (Gained 0 0)
gains_none =
    record {
      same = λ s. idle refl;
      chain = chain_none;
      by_register = by_register;
      by_allocate = by_allocate;
      by_constant = by_constant;
      by_global = by_global;
      by_capture = by_capture;
      by_block = by_block;
      by_loop = by_loop;
      by_function = by_function;
    }

-- ---- visitors: a node and its children

-- the second pass of a Minus, behind the constant of its left
record Rest (n v : ℕ) (s t : State) : Type 0 where
  pub gain : ℕ
  pub constants : length t.constants ≡ length s.constants + (1 + gain)
  pub few : v ≤ n * (1 + gain)

module _ {nx vx : ℕ} {x : M Chunk} (h : Costs nx vx x) where
  unary_costs : (node op mark : ℕ) → Costs (1 + nx) (1 + vx) (visit_unary node op mark x)
  unfolding visit_unary
  unary_costs node op mark = counted _ _ 1 (omega arith) (omega arith) (bind h λ c. by_pure _)

  return_costs : (node mark : ℕ) → Costs (1 + nx) (1 + vx) (visit_return node mark x)
  unfolding visit_return refuse
  return_costs node mark = counted _ _ 1 (omega arith) (omega arith) (bind h λ c. either _ (record { at = λ s. tt }) (by_pure _))

  let_costs : (node : ℕ) (t : Token) → Costs (1 + nx) (1 + vx) (visit_let_as node t x)
  unfolding visit_let_as is_global_context
  let_costs node t =
      counted _ _ 1 (omega arith) (omega arith)
      (bind (by_get _) λ g. either g
      (counted nx vx 0 (omega arith) (omega arith) (bind (new_global_keeps (Gained 0 0) gains_none node t) λ k. bind h λ c. by_pure _))
      (counted nx vx 0 (omega arith) (omega arith) (bind h λ c. next (by_allocate _ _) (by_pure c))))

  module _ {ny vy : ℕ} {y : M Chunk} (k : Costs ny vy y) where
    both_costs : (node op mark : ℕ) → Costs (1 + (nx + ny)) (1 + (vx + vy)) (visit_both node op mark x y)
    unfolding visit_both
    both_costs node op mark = counted _ _ 1 (omega arith) (omega arith) (bind h λ l. bind k λ r. bind (by_register node) λ t. by_pure _)

    -- the left gains a constant, and is one node
    minus_costs : (node op mark j : ℕ) → Keeps One x → nx ≡ 1 → vx ≡ 1 → Costs (1 + (nx + ny)) (1 + (vx + right_visits none (some j) vy)) (visit_binary node op mark none (some j) x y)
    unfolding visit_binary visit_dropped visit_both One
    minus_costs node op mark j one en ev =
        next_by (λ s t u p q. all p q)
        (bind k λ c. bind (by_register node) λ r. by_pure _)
        (bind_by (λ s t u p q. rest p q) one (λ l. bind k λ r. bind (by_register node) λ t. by_pure _))
      where
        rest : {s t u : State} → One s t → Gained (ny + (0 + 0)) (vy + (0 + 0)) t u → Rest ny vy s u
        rest p q = record { gain = q.gain; constants = omega (arith, p, q.constants); few = slim ny vy q.gain q.few }

        all : {s t u : State} → Gained (ny + (0 + 0)) (vy + (0 + 0)) s t → Rest ny vy t u → Gained (1 + (nx + ny)) (1 + (vx + right_visits none (some j) vy)) s u
        all p q =
            record {
              gain = p.gain + (1 + q.gain);
              constants = omega (arith, p.constants, q.constants);
              few = rw (en, ev) (omega (arith, twice_few ny p.gain q.gain vy vy (slim ny vy p.gain p.few) q.few));
            }

    binary_costs : (node op mark : ℕ) (i j : Option ℕ) → ((k : ℕ) → j ≡ some k → Keeps One x × (nx ≡ 1) × (vx ≡ 1)) → Costs (1 + (nx + ny)) (1 + (vx + right_visits i j vy)) (visit_binary node op mark i j x y)
    unfolding visit_binary visit_addi
    binary_costs node op mark (some i) j f = counted _ _ (1 + ny) (omega arith) (omega arith) (bind h λ l. bind (by_register node) λ r. by_pure _)
    binary_costs node op mark none (some j) f = minus_costs node op mark j (f j refl).0 (f j refl).1 (f j refl).2
    binary_costs node op mark none none f = both_costs node op mark

    logical_costs : (node op mark : ℕ) → Costs (1 + (nx + ny)) (1 + (vx + vy)) (visit_logical node op mark x y)
    unfolding visit_logical
    logical_costs node op mark = counted _ _ 1 (omega arith) (omega arith) (bind h λ l. bind k λ r. by_pure _)

    while_costs : (node mark : ℕ) → Costs (1 + (nx + ny)) (1 + (vx + vy)) (visit_while node mark x y)
    unfolding visit_while
    while_costs node mark = counted _ _ 1 (omega arith) (omega arith) (bind h λ c. bind (by_loop k) λ b. by_pure _)

    for_in_costs : (mode node mark : ℕ) (xs : List Token) → Costs (1 + (nx + ny)) (1 + (vx + vy)) (visit_for_in mode node mark xs x y)
    unfolding visit_for_in
    for_in_costs mode node mark xs =
        counted _ _ 1 (omega arith) (omega arith)
        (bind (by_register node) λ counter. bind (by_register node) λ size. bind (by_register node) λ condition. bind (by_register node) λ element.
        bind (by_constant node _) λ i. bind h λ c. bind (iterate_keeps (Gained 0 0) gains_none node mark element _ counter xs) λ heads. bind (by_loop k) λ b. by_pure _)

    try_costs : (node : ℕ) (t : Token) → Costs (1 + (nx + ny)) (1 + (vx + vy)) (visit_try node t x y)
    unfolding visit_try visit_catch
    try_costs node t =
        counted _ _ 1 (omega arith) (omega arith)
        (bind h λ b. bind (by_block (bind (by_register node) λ r. next (by_allocate _ r) (bind k λ c. by_pure _))) λ code. by_pure _)

  call_costs : {ny vy : ℕ} {xs : ℕ → M (List Instruction)} (node mark n : ℕ) → ((r : ℕ) → Costs ny vy (xs r)) → Costs (1 + (nx + ny)) (1 + (vx + vy)) (visit_call node mark n x xs)
  unfolding visit_call
  call_costs node mark n k =
      counted _ _ 1 (omega arith) (omega arith)
      (bind h λ c. bind (by_register node) λ f. bind (by_register node) λ r. next (registers_keep (Gained 0 0) gains_none node _) (bind (k r) λ code. bind (by_register node) λ x. by_pure _))

  argument_costs : {ny vy : ℕ} {xs : M (List Instruction)} (register : ℕ) → Costs ny vy xs → Costs (nx + ny) (vx + vy) (visit_argument register x xs)
  unfolding visit_argument
  argument_costs register k = counted _ _ 0 (omega arith) (omega arith) (bind h λ c. bind k λ more. by_pure _)

  method_costs : {ny vy : ℕ} {fs : M (List Instruction)} (node mark op result tmp name : ℕ) → Costs ny vy fs → Costs (nx + ny) (vx + vy) (visit_method node mark op result tmp name x fs)
  unfolding visit_method
  method_costs node mark op result tmp name k = counted _ _ 0 (omega arith) (omega arith) (bind h λ c. bind (by_constant node _) λ i. bind k λ more. by_pure _)

  row_costs : {ny vy : ℕ} {xs : M (List Chunk)} → Costs ny vy xs → Costs (nx + ny) (vx + vy) (row x xs)
  unfolding row
  row_costs k = counted _ _ 0 (omega arith) (omega arith) (bind h λ c. bind k λ cs. by_pure _)

for_costs : {ni vi nc vc nn vn nb vb : ℕ} {i : M (List Chunk)} {c n b : M Chunk} (mode node mark : ℕ) → Costs ni vi i → Costs nc vc c → Costs nn vn n → Costs nb vb b
    → Costs (1 + (ni + (nc + (nn + nb)))) (1 + (vi + (vc + (vn + vb)))) (visit_classic_for mode node mark i c n b)
unfolding visit_classic_for
for_costs mode node mark hi hc hn hb = counted _ _ 1 (omega arith) (omega arith) (bind hi λ i. bind hc λ c. bind (by_loop hb) λ b. bind hn λ n. by_pure _)

if_costs : {nc vc nt vt ns vs ne ve : ℕ} {c : M Chunk} {t e : M (List Chunk)} {es : M (List Instruction)} (node mark : ℕ) → Costs nc vc c → Costs nt vt t → Costs ns vs es → Costs ne ve e
    → Costs (1 + (nc + (nt + (ns + ne)))) (1 + (vc + (vt + (vs + ve)))) (visit_if node mark c t es e)
unfolding visit_if
if_costs node mark hc ht hs he = counted _ _ 1 (omega arith) (omega arith) (bind hc λ c. bind ht λ t. bind hs λ es. bind he λ e. by_pure _)

elif_costs : {nc vc nb vb ns vs : ℕ} {c : M Chunk} {b : M (List Chunk)} {es : M (List Instruction)} → Costs nc vc c → Costs nb vb b → Costs ns vs es → Costs (1 + (nc + nb) + ns) ((1 + (vc + vb)) + vs) (visit_elif c b es)
unfolding visit_elif
elif_costs hc hb hs = counted _ _ 1 (omega arith) (omega arith) (bind hc λ c. bind hb λ b. bind hs λ more. by_pure _)

module _ {nb vb : ℕ} {b : M (List Chunk)} (h : Costs nb vb b) where
  body_costs : (node : ℕ) → Costs nb vb (visit_body node b)
  unfolding visit_body
  body_costs node = counted _ _ 0 (omega arith) (omega arith) (by_block (bind h λ cs. close_keeps (Gained 0 0) gains_none node cs))

  function_costs : (node : ℕ) (ps : List Token) → Costs (1 + nb) (1 + vb) (visit_function node ps b)
  unfolding visit_function function_code
  function_costs node ps =
      counted _ _ 1 (omega arith) (omega arith)
      (bind (by_register node) λ r. bind (by_function node _ _ (bind (by_register node) λ t. next (parameters_keep (Gained 0 0) gains_none node ps) (body_costs node))) λ i. by_pure _)

  fun_costs : (node : ℕ) (x : Token) (ps : List Token) → Costs (1 + nb) (1 + vb) (visit_fun node x ps b)
  unfolding visit_fun fun_code
  fun_costs node x ps =
      counted _ _ 1 (omega arith) (omega arith)
      (bind (by_register node) λ r.
      next (declare_keeps (Gained 0 0) gains_none x)
      (bind
      (by_function node _ _
      (bind (by_register node) λ self. next (by_allocate _ self) (next (parameters_keep (Gained 0 0) gains_none node ps) (bind (body_costs node) λ code. by_pure _))))
      λ i. define_keeps (Gained 0 0) gains_none node x _))

  block_costs : Costs (1 + nb) (1 + vb) (visit_block b)
  unfolding visit_block
  block_costs = counted _ _ 1 (omega arith) (omega arith) (by_block (bind h λ cs. by_pure _))

super_costs : (node : ℕ) (x : Token) (p : Super) → Costs (size_super p) (visits_super p) (visit_super node x p)
unfolding visits_super weight_super
super_costs node x no_super = super_keeps (Gained 0 0) gains_none node x no_super
super_costs node x (super n y) = counted _ _ 1 (omega arith) (omega arith) (super_keeps (Gained 0 0) gains_none node x (super n y))

class_costs : {nm vm nt vt : ℕ} {ms ts : (op result tmp : ℕ) → M (List Instruction)} (node : ℕ) (x : Token) (p : Super) → ((op result tmp : ℕ) → Costs nm vm (ms op result tmp)) → ((op result tmp : ℕ) → Costs nt vt (ts op result tmp))
    → Costs (1 + (size_super p + (nm + nt))) (1 + (visits_super p + (vm + vt))) (visit_class node x p ms ts)
unfolding visit_class visit_methods
class_costs node x p hm ht =
    counted _ _ 1 (omega arith) (omega arith)
    (bind (by_register node) λ r.
    next (declare_keeps (Gained 0 0) gains_none x)
    (bind (by_register node) λ tmp. bind (by_constant node _) λ k. bind (super_costs node x p) λ s.
    bind (by_block (bind (hm _ r tmp) λ m. bind (ht _ r tmp) λ t. by_pure _)) λ ms. define_keeps (Gained 0 0) gains_none node x _))

-- a number gains a constant
Stay : State → State → Type 0
Stay s t = length t.constants ≡ length s.constants

register_stays : (node : ℕ) → Keeps Stay (next_register node)
unfolding next_register ◌>>=◌ ◌>>◌ and_then get set_current pure refuse Stay
register_stays node = record { at = λ s. if_along Stay (eqb s.current.registers 255) _ _ s s tt refl }

pure_stays : {A : Type 0} (a : A) → Keeps Stay (pure a)
unfolding pure Stay
pure_stays a = record { at = λ s. refl }

literal_one : (node : ℕ) (c : Constant) → Keeps One (visit_literal node c)
unfolding visit_literal One Stay
literal_one node c = bind_by {P = Stay} {Q = One} {T = One} (λ s t u p q. omega (arith, p, q)) (register_stays node) (λ r. bind_by {P = One} {Q = Stay} {T = One} (λ s t u p q. omega (arith, p, q)) (adds_one node c) (λ k. pure_stays _))

no_some : {k : ℕ} → none ≡ some k → ⊥
no_some e = let z : ◌≡◌ {A = ℕ} 0 1 = cc in omega arith

-- what stands on the left of a Minus with the small-number test is a literal
left_literal : (b : Bool) (x : Expr) (k : ℕ) → small_if b x ≡ some k → (node : ℕ) × ((c : Constant) × (x ≡ literal node c))
unfolding small_if small_operand
left_literal false x k e = absurd (no_some e)
left_literal true (literal n c) k e = (n, (c, refl))
left_literal true (variable n x) k e = absurd (no_some e)
left_literal true (unary n o m x) k e = absurd (no_some e)
left_literal true (binary n o m x y) k e = absurd (no_some e)
left_literal true (logical n o m x y) k e = absurd (no_some e)
left_literal true (call n f m xs) k e = absurd (no_some e)
left_literal true (function n ps b) k e = absurd (no_some e)

-- ---- the recursion

module _ (mode : ℕ) where
  left_gains : (b : Bool) (x : Expr) (k : ℕ) → small_if b x ≡ some k → Keeps One (lower_expr mode x) × (size_expr x ≡ 1) × (visits_expr x ≡ 1)
  unfolding lower_expr weight_expr under_expr
  left_gains b x k e = let l = left_literal b x k e in rw l.1.1 (literal_one l.0 l.1.0, refl, refl)

  mutual
    unfolding lower_expr weight_expr under_expr

    expr_costs : (e : Expr) → Costs (size_expr e) (visits_expr e) (lower_expr mode e)
    expr_costs (literal node v) = counted _ _ 1 (omega arith) (omega arith) (literal_keeps (Gained 0 0) gains_none node v)
    expr_costs (variable node x) = counted _ _ 1 (omega arith) (omega arith) (variable_keeps (Gained 0 0) gains_none node x)
    expr_costs (unary node op mark x) = unary_costs (expr_costs x) node op mark
    expr_costs (binary node op mark x y) = binary_costs (expr_costs x) (expr_costs y) node op mark (small_if (eqb op plus) y) (small_if (eqb op minus) x) (left_gains (eqb op minus) x)
    expr_costs (logical node op mark x y) = logical_costs (expr_costs x) (expr_costs y) node op mark
    expr_costs (call node f mark xs) = call_costs (expr_costs f) node mark _ (λ r. arguments_cost xs r)
    expr_costs (function node ps b) = function_costs (stmts_cost b) node ps

    arguments_cost : (es : Exprs) (r : ℕ) → Costs (size_exprs es) (visits_exprs es) (lower_arguments mode es r)
    arguments_cost no_expr r = by_pure _
    arguments_cost (and_expr e es) r = argument_costs (expr_costs e) r (arguments_cost es _)

    stmt_costs : (s : Stmt) → Costs (size_stmt s) (visits_stmt s) (lower_stmt mode s)
    stmt_costs (expression node e) = counted _ _ 1 (omega arith) (omega arith) (expr_costs e)
    stmt_costs (let_only node x) = counted _ _ 1 (omega arith) (omega arith) (let_only_keeps (Gained 0 0) gains_none node x)
    stmt_costs (let_as node x e) = let_costs (expr_costs e) node x
    stmt_costs (block node ss) = block_costs (stmts_cost ss)
    stmt_costs (while node mark e s) = while_costs (expr_costs e) (stmt_costs s) node mark
    stmt_costs (classic_for node mark i c n s) = for_costs mode node mark (stmts_cost i) (expr_costs c) (expr_costs n) (stmt_costs s)
    stmt_costs (for_in node mark e s xs) = for_in_costs (expr_costs e) (stmt_costs s) mode node mark xs
    stmt_costs (break node mark) = counted _ _ 1 (omega arith) (omega arith) (jump_keeps (Gained 0 0) gains_none node _ mark)
    stmt_costs (continue node mark) = counted _ _ 1 (omega arith) (omega arith) (jump_keeps (Gained 0 0) gains_none node _ mark)
    stmt_costs (return_none node mark) = counted _ _ 1 (omega arith) (omega arith) (return_none_keeps (Gained 0 0) gains_none mark)
    stmt_costs (return node mark e) = return_costs (expr_costs e) node mark
    stmt_costs (if node mark e ss es ts) = if_costs node mark (expr_costs e) (stmts_cost ss) (elifs_cost es) (stmts_cost ts)
    stmt_costs (try node s x t) = try_costs (stmt_costs s) (stmt_costs t) node x
    stmt_costs (define f) = fun_stmt_costs f
    stmt_costs (class node x p ms ts) = class_costs node x p (λ op r tmp. methods_cost ms node x.mark op r tmp) (λ op r tmp. methods_cost ts node x.mark op r tmp)

    pub stmts_cost : (ss : Stmts) → Costs (size_stmts ss) (visits_stmts ss) (lower_stmts mode ss)
    stmts_cost no_stmt = by_pure _
    stmts_cost (and_stmt s ss) = row_costs (stmt_costs s) (stmts_cost ss)

    elifs_cost : (es : Elifs) → Costs (size_elifs es) (visits_elifs es) (lower_elifs mode es)
    elifs_cost no_elif = by_pure _
    elifs_cost (and_elif e ss es) = counted _ _ 0 (omega arith) (omega arith) (elif_costs (expr_costs e) (stmts_cost ss) (elifs_cost es))

    fun_stmt_costs : (f : Fun) → Costs (size_fun f) (visits_fun f) (lower_fun mode f)
    fun_stmt_costs (fun node x ps b) = fun_costs (stmts_cost b) node x ps

    methods_cost : (fs : Funs) (node mark op result tmp : ℕ) → Costs (size_funs fs) (visits_funs fs) (lower_methods mode fs node mark op result tmp)
    methods_cost no_fun node mark op result tmp = by_pure _
    methods_cost (and_fun f fs) node mark op result tmp = method_costs (fun_stmt_costs f) node mark op result tmp _ (methods_cost fs node mark op result tmp)
