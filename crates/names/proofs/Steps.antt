-- Every step of the lowering, taken with changed names in a changed state, ends as it would have, in the changed state: a record for a step (`Follows`),
-- its rule for steps one after the other (`bind`, `next`), and the primitive steps. Names are compared with names alone, so one-to-one is all that is
-- asked; and with 0 to 8, which stay.
use Prim.Native.Nat.{ℕ, ◌+◌}
use mathlib.Core.Path.{◌≡◌, refl, sym, ap, ap₂, ◌∙◌}
use mathlib.Core.Bool.{Bool, true, false, ◌||◌, cond}
use mathlib.Core.List.{List, [], ◌∷◌, ◌++◌, map}
use mathlib.Core.Option.{Option, none, some}
use lib.ListN.{length, length-map}
use lib.Dec.{eqb, leb, ltb}
use borrow.Author.Tests.{eqb-true, eqb-false, eq-eqb, ne_eqb, leb-true}
use Rattle.meaning.specs.Constant.{Constant}
use Rattle.meaning.specs.State.{Local, Open, Capture, Proto, State, M, Res, refused, done, and_then, ◌>>=◌, ◌>>◌, pure, refuse, if_then, get, set_current, next_register, with_local, allocate_register, enter_block, leave_block, in_block, enter_loop, leave_loop, in_loop, add_constant, is_single, is_global, is_global_context, among, is_global_var, is_builtin_var, add_global, local_in_block, local_of, get_var_register, Search, not_found, full, found, add_upvalue, captures_full, local_capture, outer_capture, outward, search_outward, searched, get_upvalue, enter_function, around, rest, add_prototype, close_function, in_function}
use Rattle.meaning.specs.declared.Cause.{Cause}
use Rattle.meaning.specs.declared.Instruction.{Instruction}
use Rattle.names.specs.Rename.{Rule}
use Rattle.names.proofs.Changed.{constant_by, local_by, open_by, proto_by, state_by, res_by, search_by}

-- ---- lists

pub map_append : {A B : Type 0} (g : A → B) (xs ys : List A) → map g (xs ++ ys) ≡ map g xs ++ map g ys
map_append g [] ys = refl
map_append g (x ∷ xs) ys = ap (λ l. g x ∷ l) (map_append g xs ys)

single_map : {A B : Type 0} (g : A → B) (xs : List A) → is_single (map g xs) ≡ is_single xs
single_map g [] = refl
single_map g (x ∷ []) = refl
single_map g (x ∷ y ∷ xs) = refl

rest_map : {A B : Type 0} (g : A → B) (xs : List A) → rest (map g xs) ≡ map g (rest xs)
rest_map g [] = refl
rest_map g (x ∷ xs) = refl

cond_map : {A B : Type 0} (g : A → B) (b : Bool) (x y : A) → g (cond b x y) ≡ cond b (g x) (g y)
cond_map g true x y = refl
cond_map g false x y = refl

module _ (f : ℕ → ℕ) where
  pub same_global : (g : Open) (gs : List Open) → is_global (open_by f g) (map (open_by f) gs) ≡ is_global g gs
  same_global g [] = single_map (map (local_by f)) g.blocks
  same_global g (h ∷ hs) = refl

  -- ---- what a search outward ends in

  add_same : (inner : Open) (c : Capture) (gs : List Open) → add_upvalue (open_by f inner) c (map (open_by f) gs) ≡ search_by f (add_upvalue inner c gs)
  add_same inner c gs = sym (cond_map (search_by f) (captures_full c inner.captures) full _)

  pub outward_same : (stop : Bool) (o : Option ℕ) (r : Search) (inner g : Open) (gs : List Open) → outward stop o (search_by f r) (open_by f inner) (open_by f g) (map (open_by f) gs) ≡ search_by f (outward stop o r inner g gs)
  outward_same true o r inner g gs = refl
  outward_same false (some i) r inner g gs = add_same inner (local_capture i) (g ∷ gs)
  outward_same false none not_found inner g gs = refl
  outward_same false none full inner g gs = refl
  outward_same false none (found i h hs) inner g gs = add_same inner (outer_capture i) (h ∷ hs)

  pub searched_same : (node : ℕ) (s : State) (r : Search) → searched node (state_by f s) (search_by f r) ≡ res_by f (searched node s r)
  unfolding searched
  searched_same node s not_found = refl
  searched_same node s full = refl
  searched_same node s (found i g gs) = refl

  -- ---- steps

  -- m' does with changed names what m does
  pub record Follows {A : Type 0} (m m' : M A) : Type 0 where
    pub at : (s : State) → m' (state_by f s) ≡ res_by f (m s)

  then_same : {A B : Type 0} (r r' : Res A) (k k' : A → M B) → r' ≡ res_by f r → ((a : A) → Follows (k a) (k' a)) → and_then r' k' ≡ res_by f (and_then r k)
  unfolding and_then
  then_same (refused c p) r' k k' e h = rw e refl
  then_same (done a s) r' k k' e h = rw e ((h a).at s)

  pub bind : {A B : Type 0} {m m' : M A} {k k' : A → M B} → Follows m m' → ((a : A) → Follows (k a) (k' a)) → Follows (m >>= k) (m' >>= k')
  unfolding ◌>>=◌
  bind {m = m} {m' = m'} {k = k} {k' = k'} h g = record { at = λ s. then_same (m s) (m' (state_by f s)) k k' (h.at s) g }

  pub next : {A B : Type 0} {m m' : M A} {n n' : M B} → Follows m m' → Follows n n' → Follows (m >> n) (m' >> n')
  unfolding ◌>>◌
  next {m = m} {m' = m'} {n = n} {n' = n'} h g = record { at = λ s. then_same (m s) (m' (state_by f s)) (λ a. n) (λ a. n') (h.at s) (λ a. g) }

  pub by_pure : {A : Type 0} (a : A) → Follows (pure a) (pure a)
  unfolding pure
  by_pure a = record { at = λ s. refl }

  pub by_refuse : {A : Type 0} (c : Cause) (node : ℕ) → Follows (refuse {A = A} c node) (refuse c node)
  unfolding refuse
  by_refuse c node = record { at = λ s. refl }

  pub by_get : {A : Type 0} (g g' : State → A) → ((s : State) → g' (state_by f s) ≡ g s) → Follows (get g) (get g')
  unfolding get
  by_get g g' e = record { at = λ s. ap (λ a. done a (state_by f s)) (e s) }

  pub either : {A : Type 0} (b : Bool) {m m' n n' : M A} → Follows m m' → Follows n n' → Follows (if_then b m n) (if_then b m' n')
  unfolding if_then
  either true h k = h
  either false h k = k

  -- a choice in one state
  if_same : {A : Type 0} (b : Bool) (m m' n n' : M A) (s t : State) → m' t ≡ res_by f (m s) → n' t ≡ res_by f (n s) → if_then b m' n' t ≡ res_by f (if_then b m n s)
  unfolding if_then
  if_same true m m' n n' s t h k = h
  if_same false m m' n n' s t h k = k

  pub by_register : (node : ℕ) → Follows (next_register node) (next_register node)
  unfolding next_register ◌>>=◌ ◌>>◌ and_then get set_current pure refuse
  by_register node = record { at = λ s. if_same (eqb s.current.registers 255) _ _ _ _ s (state_by f s) refl refl }

  local_same : (bs : List (List Local)) (l : Local) → with_local (map (map (local_by f)) bs) (local_by f l) ≡ map (map (local_by f)) (with_local bs l)
  local_same [] l = refl
  local_same (b ∷ bs) l = refl

  -- the current function with these blocks
  abbrev blocked : State → List (List Local) → State
  blocked s bs =
      record {
        constants = s.constants;
        prototypes = s.prototypes;
        globals = s.globals;
        current = record { name = s.current.name; registers = s.current.registers; blocks = bs; captures = s.current.captures; loops = s.current.loops };
        outer = s.outer;
      }

  pub by_allocate : (name r : ℕ) → Follows (allocate_register name r) (allocate_register (f name) r)
  unfolding allocate_register ◌>>=◌ and_then get set_current
  by_allocate name r = record { at = λ s. ap (λ bs. done tt (blocked (state_by f s) bs)) (local_same s.current.blocks (record { name = name; register = r })) }

  pub by_enter : Follows enter_block enter_block
  unfolding enter_block ◌>>=◌ and_then get set_current
  by_enter = record { at = λ s. refl }

  pub by_leave : Follows leave_block leave_block
  unfolding leave_block ◌>>=◌ and_then get set_current
  by_leave = record { at = λ s. ap (λ bs. done tt (blocked (state_by f s) bs)) (rest_map (map (local_by f)) s.current.blocks) }

  pub by_block : {A : Type 0} {m m' : M A} → Follows m m' → Follows (in_block m) (in_block m')
  unfolding in_block
  by_block h = next by_enter (bind h λ x. next by_leave (by_pure x))

  pub by_enter_loop : Follows enter_loop enter_loop
  unfolding enter_loop ◌>>=◌ and_then get set_current
  by_enter_loop = record { at = λ s. refl }

  pub by_leave_loop : Follows leave_loop leave_loop
  unfolding leave_loop ◌>>=◌ and_then get set_current
  by_leave_loop = record { at = λ s. refl }

  pub by_loop : {A : Type 0} {m m' : M A} → Follows m m' → Follows (in_loop m) (in_loop m')
  unfolding in_loop
  by_loop h = next by_enter_loop (bind h λ x. next by_leave_loop (by_pure x))

  pub by_constant : (node : ℕ) (c : Constant) → Follows (add_constant node c) (add_constant node (constant_by f c))
  unfolding add_constant refuse
  by_constant node c = record {
    at = λ s.
        rw (length-map s.constants (constant_by f))
        (if_same (eqb (length s.constants) 1024) _ _ _ _ s (state_by f s) refl
        (ap₂ (λ (n : ℕ) (cs : List Constant). done n (record { constants = cs; prototypes = (state_by f s).prototypes; globals = (state_by f s).globals; current = (state_by f s).current; outer = (state_by f s).outer }))
        (length-map s.constants (constant_by f)) (sym (map_append (constant_by f) s.constants (c ∷ [])))));
  }

  pub by_context : Follows is_global_context is_global_context
  unfolding is_global_context
  by_context = by_get _ _ (λ s. same_global s.current s.outer)

  pub by_global : (name : ℕ) → Follows (add_global name) (add_global (f name))
  unfolding add_global
  by_global name = record { at = λ s. refl }

  -- ---- functions

  pub by_entering : (node name : ℕ) → Follows (enter_function node name) (enter_function node (f name))
  unfolding enter_function refuse
  by_entering node name = record { at = λ s. rw (length-map s.outer (open_by f)) (if_same (leb 7 (length s.outer)) _ _ _ _ s (state_by f s) refl refl) }

  pub by_prototype : (node params : ℕ) (code : List Instruction) → Follows (add_prototype node params code) (add_prototype node params code)
  unfolding add_prototype refuse
  by_prototype node params code = record {
    at = λ s.
        if_same (ltb 32767 (length code + 1)) _ _ _ _ s (state_by f s) refl
        (rw (length-map s.prototypes (proto_by f))
        (if_same (eqb (length s.prototypes) 256) _ _ _ _ s (state_by f s) refl
        (ap₂ (λ (n : ℕ) (ps : List Proto). done n (record { constants = (state_by f s).constants; prototypes = ps; globals = (state_by f s).globals; current = (state_by f s).current; outer = (state_by f s).outer }))
        (length-map s.prototypes (proto_by f)) (sym (map_append (proto_by f) s.prototypes _)))));
  }

  around_same : (g : Open) (gs : List Open) → around (open_by f g) (map (open_by f) gs) ≡ open_by f (around g gs)
  around_same g [] = refl
  around_same g (h ∷ hs) = refl

  pub by_close : Follows close_function close_function
  unfolding close_function
  by_close = record {
    at = λ s.
        ap₂ (λ (g : Open) (gs : List Open). done tt (record { constants = (state_by f s).constants; prototypes = (state_by f s).prototypes; globals = (state_by f s).globals; current = g; outer = gs }))
        (around_same s.current s.outer) (rest_map (open_by f) s.outer);
  }

  pub by_function : (node name params : ℕ) {m m' : M (List Instruction)} → Follows m m' → Follows (in_function node name params m) (in_function node (f name) params m')
  unfolding in_function
  by_function node name params h = next (by_entering node name) (bind h λ code. bind (by_prototype node params code) λ i. next by_close (by_pure i))

module _ (f : ℕ → ℕ) (rule : Rule f) where
  -- ---- names are compared

  pub same_name : (m n : ℕ) → eqb (f m) (f n) ≡ eqb m n
  same_name m n = go (eqb m n) refl
    where
      go : (b : Bool) → eqb m n ≡ b → eqb (f m) (f n) ≡ b
      go true e = eq-eqb (f m) (f n) (ap f (eqb-true m n e))
      go false e = ne_eqb (f m) (f n) (λ q. eqb-false m n e (rule.one_to_one m n q))

  pub same_builtin : (n : ℕ) → is_builtin_var (f n) ≡ is_builtin_var n
  same_builtin n = go (leb n 8) refl (leb (f n) 8) refl
    where
      go : (b : Bool) → leb n 8 ≡ b → (c : Bool) → leb (f n) 8 ≡ c → leb (f n) 8 ≡ b
      go true e c q = rw (rule.kept.builtin n (leb-true n 8 e)) e
      go false e true q = let h = rule.one_to_one (f n) n (rule.kept.builtin (f n) (leb-true (f n) 8 q)) in ap (λ k. leb k 8) h ∙ e
      go false e false q = q

  same_among : (x : ℕ) (ys : List ℕ) → among (f x) (map f ys) ≡ among x ys
  same_among x [] = refl
  same_among x (y ∷ ys) = ap₂ ◌||◌ (same_name x y) (same_among x ys)

  in_block_same : (name : ℕ) (ls : List Local) (o : Option ℕ) → local_in_block (f name) (map (local_by f) ls) o ≡ local_in_block name ls o
  in_block_same name [] o = refl
  in_block_same name (l ∷ ls) o = ap₂ (λ (b : Bool) (r : Option ℕ). cond b (some l.register) r) (same_name name l.name) (in_block_same name ls o)

  pub same_local : (name : ℕ) (bs : List (List Local)) → local_of (f name) (map (map (local_by f)) bs) ≡ local_of name bs
  same_local name [] = refl
  same_local name (b ∷ bs) = in_block_same name b (local_of (f name) (map (map (local_by f)) bs)) ∙ ap (local_in_block name b) (same_local name bs)

  -- ---- the search outward

  search_same : (name : ℕ) (inner : Open) (gs : List Open) → search_outward (f name) (open_by f inner) (map (open_by f) gs) ≡ search_by f (search_outward name inner gs)
  unfolding search_outward
  search_same name inner [] = refl
  search_same name inner (g ∷ gs) =
      rw (same_global f g gs, same_local name g.blocks, search_same name g gs) (outward_same f (is_global g gs) (local_of name g.blocks) (search_outward name g gs) inner g gs)

  -- ---- steps that compare names

  pub by_known : (name : ℕ) → Follows f (is_global_var name) (is_global_var (f name))
  unfolding is_global_var
  by_known name = by_get f _ _ (λ s. same_among name s.globals)

  pub by_variable : (name : ℕ) → Follows f (get_var_register name) (get_var_register (f name))
  unfolding get_var_register
  by_variable name = by_get f _ _ (λ s. same_local name s.current.blocks)

  pub by_capture : (node name : ℕ) → Follows f (get_upvalue node name) (get_upvalue node (f name))
  unfolding get_upvalue
  by_capture node name = record { at = λ s. rw (search_same name s.current s.outer) (searched_same f node s (search_outward name s.current s.outer)) }
