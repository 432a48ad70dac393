-- Registers only grow, and the open functions outside the current one change by captures appended alone: one relation, `Grows`,
-- that the primitive steps keep, and so (Keeps) the lowering of every node. The one step that is not plain is a function: inside it
-- the current function is one of the outer ones, so that on leaving it comes back as it was but for its captures.
use Prim.Native.Nat.{ℕ, ◌+◌, ◌≤◌}
use mathlib.Core.Path.{◌≡◌, refl, sym, ap, ◌∙◌, subst}
use mathlib.Core.Bool.{Bool, true, false, cond}
use mathlib.Core.List.{List, [], ◌∷◌, ◌++◌, append-nil, append_assoc}
use mathlib.Core.Option.{Option, none, some}
use native.Mathlib.Nat.{le_refl, le_trans, le_of_eq}
use native.Mathlib.Omega.{arith}
use lib.ListN.{length}
use lib.Dec.{eqb, leb, ltb}
use Rattle.meaning.specs.Constant.{Constant}
use Rattle.meaning.specs.Syntax.{Expr, Stmt, Stmts}
use Rattle.meaning.specs.State.{State, Open, Capture, Chunk, M, Res, refused, done, and_then, ◌>>=◌, ◌>>◌, pure, refuse, if_then, get, set_current, next_register, allocate_register, enter_block, leave_block, in_block, enter_loop, leave_loop, in_loop, add_constant, add_global, get_upvalue, searched, Search, not_found, full, found, add_upvalue, capture_index, captures_full, with_capture, local_capture, outer_capture, outward, search_outward, is_global, local_of, enter_function, add_prototype, close_function, in_function, around, rest}
use Rattle.meaning.specs.Lower.{lower_expr, lower_stmt, lower_stmts}
use Rattle.meaning.specs.declared.Instruction.{Instruction}
use Rattle.meaning.proofs.Keeps.{Along, Keeps, Kept, expr_keeps, stmt_keeps, stmts_keep}

-- g is f with captures added
pub record Widened (f g : Open) : Type 0 where
  pub name : g.name ≡ f.name
  pub registers : g.registers ≡ f.registers
  pub blocks : g.blocks ≡ f.blocks
  pub loops : g.loops ≡ f.loops
  pub captures : (more : List Capture) × (g.captures ≡ f.captures ++ more)

-- function by function
abbrev pub Outer : List Open → List Open → Type 0
Outer [] [] = Unit {0}
Outer [] (g ∷ gs) = ⊥
Outer (f ∷ fs) [] = ⊥
Outer (f ∷ fs) (g ∷ gs) = Widened f g × Outer fs gs

-- from the state s to the state t
pub record Grows (s t : State) : Type 0 where
  pub registers : s.current.registers ≤ t.current.registers
  pub outer : Outer s.outer t.outer

widened_same : (f : Open) → Widened f f
widened_same f = record { name = refl; registers = refl; blocks = refl; loops = refl; captures = ([], sym (append-nil f.captures)) }

widened_chain : {f g h : Open} → Widened f g → Widened g h → Widened f h
widened_chain {f} {g} {h} p q =
    record {
      name = cc;
      registers = cc;
      blocks = cc;
      loops = cc;
      captures = (p.captures.0 ++ q.captures.0, q.captures.1 ∙ ap (λ (l : List Capture). l ++ q.captures.0) p.captures.1 ∙ append_assoc f.captures p.captures.0 q.captures.0);
    }

pub outer_same : (fs : List Open) → Outer fs fs
outer_same [] = tt
outer_same (f ∷ fs) = (widened_same f, outer_same fs)

pub outer_chain : (fs gs hs : List Open) → Outer fs gs → Outer gs hs → Outer fs hs
outer_chain [] [] [] p q = tt
outer_chain [] [] (h ∷ hs) p q = q
outer_chain [] (g ∷ gs) hs p q = absurd p
outer_chain (f ∷ fs) [] hs p q = absurd p
outer_chain (f ∷ fs) (g ∷ gs) [] p q = absurd q
outer_chain (f ∷ fs) (g ∷ gs) (h ∷ hs) p q = (widened_chain p.0 q.0, outer_chain fs gs hs p.1 q.1)

-- ---- captures

abbrev pub Found : Open → List Open → Search → Type 0
Found f fs not_found = Unit {0}
Found f fs full = Unit {0}
Found f fs (found i g gs) = Widened f g × Outer fs gs

-- a property of both branches is one of the choice
pub cond_either {ℓ} : {A : Type 0} (P : A → Type ℓ) (b : Bool) {x y : A} → P x → P y → P (cond b x y)
cond_either P true h k = h
cond_either P false h k = k

with_capture_adds : (c : Capture) (cs : List Capture) → (more : List Capture) × (with_capture c cs ≡ cs ++ more)
with_capture_adds c cs =
    cond_either (λ l. (more : List Capture) × (l ≡ cs ++ more)) (ltb (capture_index c cs) (length cs)) ([], sym (append-nil cs)) (c ∷ [], refl)

add_upvalue_found : (f : Open) (c : Capture) (fs gs : List Open) → Outer fs gs → Found f fs (add_upvalue f c gs)
add_upvalue_found f c fs gs h =
    cond_either (Found f fs) (captures_full c f.captures) {x = full} tt
    (record { name = refl; registers = refl; blocks = refl; loops = refl; captures = with_capture_adds c f.captures }, h)

outward_found : (b : Bool) (o : Option ℕ) (r : Search) (f g : Open) (gs : List Open) → Found g gs r → Found f (g ∷ gs) (outward b o r f g gs)
outward_found true o r f g gs k = tt
outward_found false (some i) r f g gs k = add_upvalue_found f (local_capture i) (g ∷ gs) (g ∷ gs) (outer_same (g ∷ gs))
outward_found false none not_found f g gs k = tt
outward_found false none full f g gs k = tt
outward_found false none (found i h hs) f g gs k = add_upvalue_found f (outer_capture i) (g ∷ gs) (h ∷ hs) k

pub search_found : (name : ℕ) (f : Open) (fs : List Open) → Found f fs (search_outward name f fs)
unfolding search_outward
search_found name f [] = tt
search_found name f (g ∷ gs) = outward_found (is_global g gs) (local_of name g.blocks) (search_outward name g gs) f g gs (search_found name g gs)

-- ---- a step, then a step whose relation may be another

pub then_along : (R Q : State → State → Type 0) {A B : Type 0} (s u : State) (r : Res A) (f : A → M B)
    → Along R s r → ((a : A) (t : State) → R s t → Along Q u (f a t)) → Along Q u (and_then r f)
unfolding and_then
then_along R Q s u (refused c p) f h k = tt
then_along R Q s u (done a t) f h k = k a t h

-- ---- the primitives

pub same_grows : (s : State) → Grows s s
same_grows s = record { registers = le_refl _; outer = outer_same s.outer }

pub chain_grows : {s t u : State} → Grows s t → Grows t u → Grows s u
chain_grows {s} {t} {u} p q = record { registers = le_trans p.registers q.registers; outer = outer_chain s.outer t.outer u.outer p.outer q.outer }

pub if_along : (R : State → State → Type 0) {A : Type 0} (b : Bool) (m n : M A) (s t : State) → Along R s (m t) → Along R s (n t) → Along R s (if_then b m n t)
unfolding if_then
if_along R true m n s t h k = h
if_along R false m n s t h k = k

pub register_grows : (node : ℕ) → Keeps Grows (next_register node)
unfolding next_register ◌>>=◌ ◌>>◌ and_then get set_current pure refuse
register_grows node = record { at = λ s. if_along Grows (eqb s.current.registers 255) _ _ s s tt (record { registers = omega arith; outer = outer_same s.outer }) }

pub allocate_grows : (name r : ℕ) → Keeps Grows (allocate_register name r)
unfolding allocate_register ◌>>=◌ and_then get set_current
allocate_grows name r = record { at = λ s. record { registers = le_refl _; outer = outer_same s.outer } }

pub constant_grows : (node : ℕ) (c : Constant) → Keeps Grows (add_constant node c)
unfolding add_constant refuse
constant_grows node c = record { at = λ s. if_along Grows (eqb (length s.constants) 1024) _ _ s s tt (record { registers = le_refl _; outer = outer_same s.outer }) }

pub global_grows : (name : ℕ) → Keeps Grows (add_global name)
unfolding add_global
global_grows name = record { at = λ s. record { registers = le_refl _; outer = outer_same s.outer } }

searched_grows : (node : ℕ) (s : State) (r : Search) → Found s.current s.outer r → Along Grows s (searched node s r)
unfolding searched
searched_grows node s not_found h = same_grows s
searched_grows node s full h = tt
searched_grows node s (found i g gs) h = record { registers = le_of_eq (sym h.0.registers); outer = h.1 }

pub capture_grows : (node name : ℕ) → Keeps Grows (get_upvalue node name)
unfolding get_upvalue
capture_grows node name = record { at = λ s. searched_grows node s _ (search_found name s.current s.outer) }

block_grows : {A : Type 0} {m : M A} → Keeps Grows m → Keeps Grows (in_block m)
unfolding in_block ◌>>=◌ ◌>>◌ and_then enter_block leave_block get set_current pure
block_grows {m} h = record { at = λ s. then_along Grows Grows _ s (m _) _ (h.at _) (λ a t k. record { registers = k.registers; outer = k.outer }) }

loop_grows : {A : Type 0} {m : M A} → Keeps Grows m → Keeps Grows (in_loop m)
unfolding in_loop ◌>>=◌ ◌>>◌ and_then enter_loop leave_loop get set_current pure
loop_grows {m} h = record { at = λ s. then_along Grows Grows _ s (m _) _ (h.at _) (λ a t k. record { registers = k.registers; outer = k.outer }) }

-- a function is left as it was entered, but for captures
pub left : (s : State) (c : Open) (os : List Open) → Outer (s.current ∷ s.outer) os
    → (s.current.registers ≤ (around c os).registers) × Outer s.outer (rest os)
left s c [] h = absurd h
left s c (g ∷ gs) h = (le_of_eq (sym h.0.registers), h.1)

Entered : State → State → Type 0
Entered s t = t.outer ≡ s.current ∷ s.outer

Beside : State → State → Type 0
Beside s t = t.outer ≡ s.outer

enter_along : (node name : ℕ) (s : State) → Along Entered s (enter_function node name s)
unfolding enter_function refuse Entered
enter_along node name s = if_along Entered (leb 7 (length s.outer)) _ _ s s tt refl

prototype_along : (node params : ℕ) (code : List Instruction) (s : State) → Along Beside s (add_prototype node params code s)
unfolding add_prototype refuse Beside
prototype_along node params code s =
    if_along Beside (ltb 32767 (length code + 1)) _ _ s s tt (if_along Beside (eqb (length s.prototypes) 256) _ _ s s tt refl)

function_grows : (node name params : ℕ) {m : M (List Instruction)} → Keeps Grows m → Keeps Grows (in_function node name params m)
unfolding in_function ◌>>=◌ ◌>>◌ and_then close_function pure Entered Beside
function_grows node name params {m} h = record {
  at = λ s.
      then_along Entered Grows s s (enter_function node name s) _ (enter_along node name s) λ a t e.
      then_along Grows Grows t s (m t) _ (h.at t) λ code u k.
      then_along Beside Grows u s (add_prototype node params code u) _ (prototype_along node params code u) λ index v w.
      let o : Outer (s.current ∷ s.outer) v.outer = subst (λ (l : List Open). Outer l v.outer) e (subst (λ (l : List Open). Outer t.outer l) (sym w) k.outer) in
      let p = left s v.current v.outer o in
      record { registers = p.0; outer = p.1 };
}

pub grows : Kept Grows
grows =
    record {
      same = same_grows;
      chain = chain_grows;
      by_register = register_grows;
      by_allocate = allocate_grows;
      by_constant = constant_grows;
      by_global = global_grows;
      by_capture = capture_grows;
      by_block = block_grows;
      by_loop = loop_grows;
      by_function = function_grows;
    }

-- ---- the theorems, for every node kind

done_grows : {A : Type 0} {m : M A} → Keeps Grows m → (s t : State) (a : A) → m s ≡ done a t → Grows s t
done_grows {A} k s t a h = subst (λ (r : Res A). Along Grows s r) h (k.at s)

pub expr_grows : (mode : ℕ) (e : Expr) (s t : State) (c : Chunk) → lower_expr mode e s ≡ done c t → Grows s t
expr_grows mode e = done_grows (expr_keeps Grows grows mode e)

pub stmt_grows : (mode : ℕ) (e : Stmt) (s t : State) (c : Chunk) → lower_stmt mode e s ≡ done c t → Grows s t
stmt_grows mode e = done_grows (stmt_keeps Grows grows mode e)

pub stmts_grow : (mode : ℕ) (es : Stmts) (s t : State) (cs : List Chunk) → lower_stmts mode es s ≡ done cs t → Grows s t
stmts_grow mode es = done_grows (stmts_keep Grows grows mode es)
