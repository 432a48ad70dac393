-- The smallest steps, opened: what the functions of the store have to do. A step that may be refused is `pick test (stopped cause node) (going ..)`, one
-- that is never refused is `going ..`; a question answers with what it finds in the state.
use Prim.Native.Nat.{ℕ, ◌+◌}
use mathlib.Core.Path.{◌≡◌, refl, sym, ap, ◌∙◌}
use mathlib.Core.Bool.{Bool, true, false}
use mathlib.Core.List.{List, [], ◌∷◌, ◌++◌}
use mathlib.Core.Option.{Option, none, some}
use native.Mathlib.Omega.{arith}
use lib.Dec.{eqb}
use Rattle.meaning.specs.Constant.{Constant}
use Rattle.meaning.specs.State.{State, Open, M, refused, done, and_then, ◌>>=◌, ◌>>◌, pure, refuse, if_then, get, set_current, with_registers, with_blocks, with_local, next_register, allocate_register, add_global, not_found, full, found, search_outward, searched, get_upvalue}
use Rattle.meaning.specs.declared.Cause.{Cause}
use Rattle.meaning.specs.declared.Cause.TheVariants.{Registers, Captures}
use Rattle.forward.specs.Forward.{Config, config, Run, stopped, going, bind, pick, on, at, fwd_by, fwd_number, fwd_unit, Answers}

-- ---- registers, locals, blocks, loops

-- the same state, with another current function
abbrev pub with_current : State → Open → State
with_current s f = record { constants = s.constants; prototypes = s.prototypes; globals = s.globals; current = f; outer = s.outer }

either_run : {A : Type 0} (b : Bool) (k : Cause) (p : ℕ) (m : M A) (s : State) (E : A → State → Run) → on (if_then b (refuse k p) m s) E ≡ pick b (stopped k p) (on (m s) E)
unfolding on if_then refuse pick
either_run true k p m s E = refl
either_run false k p m s E = refl

pub register_opened : (node : ℕ) (c : Config)
    → fwd_number (next_register node) c
    ≡ pick (eqb c.state.current.registers 255) (stopped Registers node)
    (going (config c.code c.state.current.registers (with_current c.state (with_registers c.state.current (c.state.current.registers + 1)))))
unfolding fwd_by next_register ◌>>=◌ ◌>>◌ and_then get set_current pure on
register_opened node c = either_run (eqb c.state.current.registers 255) Registers node _ c.state _

pub allocate_opened : (name r : ℕ) (c : Config)
    → fwd_unit (allocate_register name r) c ≡ going (at (with_current c.state (with_blocks c.state.current (with_local c.state.current.blocks (record { name = name; register = r })))) c)
unfolding fwd_by allocate_register ◌>>=◌ and_then get set_current on
allocate_opened name r c = refl

-- ---- constants, globals

abbrev pub with_constant : State → Constant → State
with_constant s v = record { constants = s.constants ++ v ∷ []; prototypes = s.prototypes; globals = s.globals; current = s.current; outer = s.outer }

abbrev pub with_global : State → ℕ → State
with_global s name = record { constants = s.constants; prototypes = s.prototypes; globals = name ∷ s.globals; current = s.current; outer = s.outer }

pub global_opened : (name : ℕ) (c : Config) → fwd_unit (add_global name) c ≡ going (at (with_global c.state name) c)
unfolding fwd_by add_global on
global_opened name c = refl

-- ---- questions

pub answers_stopped : {A : Type 0} (k : Cause) (p : ℕ) (m : M A) (a : A) → Answers (stopped k p) m a (stopped k p)
unfolding bind
answers_stopped k p m a = record { follows = refl; answer = λ c b t e f. absurd (let z : ◌≡◌ {A = ℕ} 0 1 = cc in omega arith) }

pub answers_refused : {A : Type 0} (c : Config) (m : M A) (a : A) (k : Cause) (p : ℕ) → m c.state ≡ refused k p → Answers (going c) m a (stopped k p)
unfolding bind fwd_by on
answers_refused c m a k p h = record {
  follows = rw h;
  answer = λ d b t e f. absurd (let i : c ≡ d = cc in let g : refused k p ≡ done b t = sym h ∙ ap (λ (x : Config). m x.state) i ∙ f in let z : ◌≡◌ {A = ℕ} 0 1 = cc in omega arith);
}

pub answers_done : {A : Type 0} (c : Config) (m : M A) (a : A) (t : State) → m c.state ≡ done a t → Answers (going c) m a (going (at t c))
unfolding bind fwd_by on
answers_done {A} c m a t h = record {
  follows = rw h;
  answer = λ d b u e f. let i : c ≡ d = cc in let g : done a t ≡ done b u = sym h ∙ ap (λ (x : Config). m x.state) i ∙ f in let z : a ≡ b = cc in sym z;
}

-- one that only looks
pub answers_get : {A : Type 0} (r : Run) (f : State → A) (a : A) → ((c : Config) → r ≡ going c → f c.state ≡ a) → Answers r (get f) a r
unfolding get
answers_get (stopped k p) f a h = answers_stopped k p (get f) a
answers_get (going c) f a h = answers_done c (get f) a c.state (ap (λ x. done x c.state) (h c refl))

-- get_upvalue, by what the search of the enclosing functions gives
abbrev pub with_functions : State → Open → List Open → State
with_functions s f fs = record { constants = s.constants; prototypes = s.prototypes; globals = s.globals; current = f; outer = fs }

pub upvalue_not_found : (node name : ℕ) (c : Config) → search_outward name c.state.current c.state.outer ≡ not_found → Answers (going c) (get_upvalue node name) none (going c)
unfolding get_upvalue searched
upvalue_not_found node name c h = answers_done c (get_upvalue node name) none c.state (rw h)

pub upvalue_full : (node name : ℕ) (c : Config) (a : Option ℕ) → search_outward name c.state.current c.state.outer ≡ full → Answers (going c) (get_upvalue node name) a (stopped Captures node)
unfolding get_upvalue searched
upvalue_full node name c a h = answers_refused c (get_upvalue node name) a Captures node (rw h)

pub upvalue_found : (node name : ℕ) (c : Config) (i : ℕ) (f : Open) (fs : List Open) → search_outward name c.state.current c.state.outer ≡ found i f fs
    → Answers (going c) (get_upvalue node name) (some i) (going (at (with_functions c.state f fs) c))
unfolding get_upvalue searched
upvalue_found node name c i f fs h = answers_done c (get_upvalue node name) (some i) (with_functions c.state f fs) (rw h)
