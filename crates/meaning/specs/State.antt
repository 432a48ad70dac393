-- The lowering's state (struct Compiler, struct FnContext) and its steps: a step is refused, with a cause and a node, or is done.
use Rattle.std.specs.Prelude.{ℕ, zero, suc, ◌+◌, ◌-◌, Bool, true, false, ◌&&◌, ◌||◌, cond, List, [], ◌∷◌, ◌++◌, length, eqb, leb, ltb}
use Rattle.std.specs.Bool.{beq}
use Rattle.std.proofs.Math.Option.{Option, none, some}
use Rattle.meaning.specs.Constant.{Constant}
use Rattle.meaning.specs.Opcode.{inst, Return, no_mark}
use Rattle.meaning.specs.declared.Cause.{Cause}
use Rattle.meaning.specs.declared.Cause.TheVariants.{Registers, Captures, Constants, Prototypes, Nesting, Long}
use Rattle.meaning.specs.declared.Instruction.{Instruction}

-- struct Local: a name, and the register that it names
pub record Local : Type 0 where
  pub name : ℕ
  pub register : ℕ

-- struct UpvalueRef: where it is local `index` is a register of the function around, else one of its captures
pub record Capture : Type 0 where
  pub is_local : Bool
  pub index : ℕ

-- struct FnContext: blocks innermost first, the locals of each latest first; `loops` counts the open loops. Its chunks are handed on by the lowering
pub record Open : Type 0 where
  pub name : ℕ
  pub registers : ℕ
  pub blocks : List (List Local)
  pub captures : List Capture
  pub loops : ℕ

-- struct FnPrototype: parameters and registers by their number
pub record Proto : Type 0 where
  pub name : ℕ
  pub params : ℕ
  pub registers : ℕ
  pub captures : List Capture
  pub code : List Instruction

-- struct Compiler: the current function and those around it, innermost first; the names of globals, the latest first
pub record State : Type 0 where
  pub constants : List Constant
  pub prototypes : List Proto
  pub globals : List ℕ
  pub current : Open
  pub outer : List Open

-- struct Chunk: `result` is the register in which its value is
pub record Chunk : Type 0 where
  pub code : List Instruction
  pub result : ℕ

-- what a step ends in: refused with a cause and its node, or done with an answer and the state after it
pub data Res (A : Type 0) : Type 0 where
  refused : Cause → ℕ → Res A
  done : A → State → Res A

-- a step of the lowering that answers an A: what it ends in, by the state before it
abbrev pub M : Type 0 → Type 0
M A = State → Res A

infixl 10 ◌>>=◌
infixl 10 ◌>>◌
-- what follows a step: a refusal stays; from an answer and its state f goes on
unfoldable pub and_then : {A B : Type 0} → Res A → (A → M B) → Res B
and_then (refused c p) f = refused c p
and_then (done a s) f = f a s

-- one step, then another that is handed its answer: `x ← m` in the steps below
unfoldable pub ◌>>=◌ : {A B : Type 0} → M A → (A → M B) → M B
◌>>=◌ m f = λ s. and_then (m s) f

-- the same, where the answer is not asked for: a line of its own in the steps below
unfoldable pub ◌>>◌ : {A B : Type 0} → M A → M B → M B
◌>>◌ m n = λ s. and_then (m s) (λ a. n)

-- an answer, with the state as it was
unfoldable pub pure : {A : Type 0} → A → M A
pure a = λ s. done a s

-- a refusal with its cause and its node, in any state
unfoldable pub refuse : {A : Type 0} → Cause → ℕ → M A
refuse c node = λ s. refused c node

-- one of two steps
unfoldable pub if_then : {A : Type 0} → Bool → M A → M A → M A
if_then true m n = m
if_then false m n = n

-- a step that is taken or not
unfoldable pub only_if : Bool → M (Unit {0}) → M (Unit {0})
only_if b m = if_then b m (pure tt)

-- what f reads off the state, which stays
unfoldable pub get : {A : Type 0} → (State → A) → M A
get f = λ s. done (f s) s

-- ---- a field set anew

-- self.contexts.last_mut(): f is the current function from here on
unfoldable pub set_current : Open → M (Unit {0})
set_current f = λ s. done tt (record { constants = s.constants; prototypes = s.prototypes; globals = s.globals; current = f; outer = s.outer })

-- f with n registers taken
abbrev pub with_registers : Open → ℕ → Open
with_registers f n = record { name = f.name; registers = n; blocks = f.blocks; captures = f.captures; loops = f.loops }

-- f with these open blocks
abbrev pub with_blocks : Open → List (List Local) → Open
with_blocks f bs = record { name = f.name; registers = f.registers; blocks = bs; captures = f.captures; loops = f.loops }

-- f with these captures
abbrev pub with_captures : Open → List Capture → Open
with_captures f cs = record { name = f.name; registers = f.registers; blocks = f.blocks; captures = cs; loops = f.loops }

-- f with n open loops
abbrev pub with_loops : Open → ℕ → Open
with_loops f n = record { name = f.name; registers = f.registers; blocks = f.blocks; captures = f.captures; loops = n }

-- ---- registers, blocks, constants

-- fn next_register: 7 Registers at count 255
unfoldable pub next_register : ℕ → M ℕ
next_register node = do
  f ← get (λ s. s.current)
  if_then (eqb f.registers 255) (refuse Registers node) do
    set_current (with_registers f (f.registers + 1))
    pure f.registers

-- the local `name` names `register`, in the innermost block
abbrev pub with_local : List (List Local) → Local → List (List Local)
with_local [] l = (l ∷ []) ∷ []
with_local (b ∷ bs) l = (l ∷ b) ∷ bs

-- fn allocate_register
unfoldable pub allocate_register : ℕ → ℕ → M (Unit {0})
allocate_register name register = do
  f ← get (λ s. s.current)
  set_current (with_blocks f (with_local f.blocks (record { name = name; register = register })))

-- fn enter_block
unfoldable pub enter_block : M (Unit {0})
enter_block = do
  f ← get (λ s. s.current)
  set_current (with_blocks f ([] ∷ f.blocks))

-- all but the first element; nothing of an empty list
abbrev pub rest {ℓ} : {A : Type ℓ} → List A → List A
rest [] = []
rest (x ∷ xs) = xs

-- fn leave_block
unfoldable pub leave_block : M (Unit {0})
leave_block = do
  f ← get (λ s. s.current)
  set_current (with_blocks f (rest f.blocks))

-- enter_block and leave_block around a step
unfoldable pub in_block : {A : Type 0} → M A → M A
in_block m = do
  enter_block
  x ← m
  leave_block
  pure x

-- a loop is open while its body is lowered; only refusal 11 asks
unfoldable pub enter_loop : M (Unit {0})
enter_loop = do
  f ← get (λ s. s.current)
  set_current (with_loops f (f.loops + 1))

-- one open loop less
unfoldable pub leave_loop : M (Unit {0})
leave_loop = do
  f ← get (λ s. s.current)
  set_current (with_loops f (f.loops - 1))

-- enter-loop and leave-loop around the lowering of a loop's body
unfoldable pub in_loop : {A : Type 0} → M A → M A
in_loop m = do
  enter_loop
  x ← m
  leave_loop
  pure x

-- self.constants.push(..), and its index: 14 Constants at the 1,025th
unfoldable pub add_constant : ℕ → Constant → M ℕ
add_constant node c =
    λ s.
    if_then (eqb (length s.constants) 1024) (refuse Constants node)
    (λ t. done (length t.constants) (record { constants = t.constants ++ c ∷ []; prototypes = t.prototypes; globals = t.globals; current = t.current; outer = t.outer }))
    s

-- ---- globals

-- there is exactly one element
abbrev pub is_single {ℓ} : {A : Type ℓ} → List A → Bool
is_single [] = false
is_single (x ∷ []) = true
is_single (x ∷ y ∷ xs) = false

-- f has no function around it, and its first block alone is open
abbrev pub is_global : Open → List Open → Bool
is_global f [] = is_single f.blocks
is_global f (g ∷ gs) = false

-- fn is_global_context
unfoldable pub is_global_context : M Bool
is_global_context = get (λ s. is_global s.current s.outer)

-- x is one of these numbers
abbrev pub among : ℕ → List ℕ → Bool
among x [] = false
among x (y ∷ ys) = eqb x y || among x ys

-- fn is_global_var
unfoldable pub is_global_var : ℕ → M Bool
is_global_var name = get (λ s. among name s.globals)

-- fn is_builtin_var: the names 0 to 8
abbrev pub is_builtin_var : ℕ → Bool
is_builtin_var name = leb name 8

-- self.globals.insert(..)
unfoldable pub add_global : ℕ → M (Unit {0})
add_global name = λ s. done tt (record { constants = s.constants; prototypes = s.prototypes; globals = name ∷ s.globals; current = s.current; outer = s.outer })

-- ---- variables and captures

-- the register of the latest local of that name in one block, or else `other`
abbrev pub local_in_block : ℕ → List Local → Option ℕ → Option ℕ
local_in_block name [] other = other
local_in_block name (l ∷ ls) other = cond (eqb name l.name) (some l.register) (local_in_block name ls other)

-- fn get_var_register_by_context: the register of the latest local of that name in the open blocks
abbrev pub local_of : ℕ → List (List Local) → Option ℕ
local_of name [] = none
local_of name (b ∷ bs) = local_in_block name b (local_of name bs)

-- fn get_var_register
unfoldable pub get_var_register : ℕ → M (Option ℕ)
get_var_register name = get (λ s. local_of name s.current.blocks)

-- fn add_upvalue: the index of an equal capture, or the number of captures, which a new one gets
abbrev pub capture_index : Capture → List Capture → ℕ
capture_index c [] = zero
capture_index c (d ∷ ds) = cond (beq c.is_local d.is_local && eqb c.index d.index) zero (suc (capture_index c ds))

-- fn add_upvalue: 8 Captures where there are 255 and none is equal
abbrev pub captures_full : Capture → List Capture → Bool
captures_full c cs = leb 255 (capture_index c cs)

-- fn add_upvalue: the captures afterwards; an equal one is used again
abbrev pub with_capture : Capture → List Capture → List Capture
with_capture c cs = cond (ltb (capture_index c cs) (length cs)) cs (cs ++ c ∷ [])

-- what the search of the enclosing functions gives: nothing, a capture that does not fit, or its index with the functions as they are then
pub data Search : Type 0 where
  not_found : Search
  full : Search
  found : ℕ → Open → List Open → Search

-- `inner` captures `c`, the functions around it being `fs`
abbrev pub add_upvalue : Open → Capture → List Open → Search
add_upvalue inner c fs =
    cond (captures_full c inner.captures) full
    (found (capture_index c inner.captures) (with_captures inner (with_capture c inner.captures)) fs)

-- add_upvalue(reg, true): register r of the function just around
abbrev pub local_capture : ℕ → Capture
local_capture r = record { is_local = true; index = r }

-- add_upvalue(up, false): capture i of the function just around
abbrev pub outer_capture : ℕ → Capture
outer_capture i = record { is_local = false; index = i }

-- one step outward, to `f`: whether it is the main function with its first block alone, its local of that name, what was found beyond it
abbrev pub outward : (stop : Bool) → Option ℕ → (beyond : Search) → (inner f : Open) → List Open → Search
outward true o beyond inner f fs = not_found
outward false (some r) beyond inner f fs = add_upvalue inner (local_capture r) (f ∷ fs)
outward false none not_found inner f fs = not_found
outward false none full inner f fs = full
outward false none (found i g gs) inner f fs = add_upvalue inner (outer_capture i) (g ∷ gs)

-- fn _get_upvalue: outward one open function at a time, adding captures on the way back
unfoldable pub search_outward : ℕ → Open → List Open → Search
search_outward name inner [] = not_found
search_outward name inner (f ∷ fs) = outward (is_global f fs) (local_of name f.blocks) (search_outward name f fs) inner f fs

-- fn get_upvalue, after its search: 8 Captures, or the functions with what was added to them
unfoldable pub searched : ℕ → State → Search → Res (Option ℕ)
searched node s not_found = done none s
searched node s full = refused Captures node
searched node s (found i f fs) =
    done (some i) (record { constants = s.constants; prototypes = s.prototypes; globals = s.globals; current = f; outer = fs })

-- fn get_upvalue: the index of the current function's capture of that name, if it can be captured
unfoldable pub get_upvalue : ℕ → ℕ → M (Option ℕ)
get_upvalue node name = λ s. searched node s (search_outward name s.current s.outer)

-- ---- functions

-- FnContext as enter_function pushes it: no register taken, its first block open and empty
abbrev pub fresh : ℕ → Open
fresh name = record { name = name; registers = 0; blocks = [] ∷ []; captures = []; loops = 0 }

-- fn enter_function: 16 Nesting at the ninth open function
unfoldable pub enter_function : ℕ → ℕ → M (Unit {0})
enter_function node name =
    λ s.
    if_then (leb 7 (length s.outer)) (refuse Nesting node)
    (λ t. done tt (record { constants = t.constants; prototypes = t.prototypes; globals = t.globals; current = fresh name; outer = t.current ∷ t.outer }))
    s

-- the function around the current one
abbrev pub around : Open → List Open → Open
around f [] = f
around f (g ∷ gs) = g

-- the prototype of the current function: 17 Long, then 15 Prototypes at the 257th
unfoldable pub add_prototype : ℕ → ℕ → List Instruction → M ℕ
add_prototype node params code =
    λ s.
    if_then (ltb 32767 (length code + 1)) (refuse Long node)
    (if_then (eqb (length s.prototypes) 256) (refuse Prototypes node)
    (λ t.
    done (length t.prototypes)
    (record {
      constants = t.constants;
      prototypes = t.prototypes
          ++ record { name = t.current.name; params = params; registers = t.current.registers; captures = t.current.captures; code = code ++ inst Return 0 0 0 no_mark ∷ [] } ∷ [];
      globals = t.globals;
      current = t.current;
      outer = t.outer;
    })))
    s

-- self.contexts.pop()
unfoldable pub close_function : M (Unit {0})
close_function = λ s. done tt (record { constants = s.constants; prototypes = s.prototypes; globals = s.globals; current = around s.current s.outer; outer = rest s.outer })

-- enter_function and leave_function around the lowering of a function's code: the prototype's index
unfoldable pub in_function : (node name params : ℕ) → M (List Instruction) → M ℕ
in_function node name params inside = do
  enter_function node name
  code ← inside
  index ← add_prototype node params code
  close_function
  pure index
