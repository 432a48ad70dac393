-- What the functions promise that open a scope: the work area at the start of the lowering, and a function inside another.
use Rattle.std.specs.Prelude.{◌≡◌, ℕ, suc, ◌+◌, ◌*◌, ◌<◌, ◌≤◌, List, [], length, slice_index}
use Rattle.store.specs.declared.Step.{Step}
use Rattle.store.specs.declared.Scope.{Scope}
use Rattle.store.specs.Layout.{beyond, name_of, registers, held, first, saved, visited, edge}
use Rattle.store.specs.Store.{run, main_scope, inner, first_step, Image, Fine}
use Rattle.store.specs.Promise.{Space, nothing, Leaf}
use Rattle.meaning.specs.Lower.{start}
use Rattle.meaning.specs.State.{enter_function}
use Rattle.forward.specs.Forward.{config, going, fwd_unit}

-- the words from a up to b are 0, the others stay
pub record Zeroed (w : List ℕ) (a b : ℕ) (w' : List ℕ) : Type 0 where
  pub same : length w' ≡ length w
  pub zeros : (i : ℕ) → a ≤ i → i < b → slice_index w' i ≡ 0
  pub other : (i : ℕ) → (a ≤ i → b ≤ i) → slice_index w' i ≡ slice_index w i

-- the frame of function j is set up: its name, no register, no capture, its first block, the loops of the function around it
pub record Framed (w : List ℕ) (j name block loops : ℕ) (w' : List ℕ) : Type 0 where
  pub same : length w' ≡ length w
  pub name_is : name_of w' j ≡ name
  pub registers_none : registers w' j ≡ 0
  pub held_none : held w' j ≡ 0
  pub first_is : first w' j ≡ block
  pub saved_is : saved w' j ≡ loops
  pub other : (i : ℕ) → (3072 + 8 * j ≤ i → 3077 + 8 * j ≤ i) → slice_index w' i ≡ slice_index w i

-- the work area stands for what the definition starts from, whatever it held, and has room for every node; what is beyond it stays
pub record Begun (w : List ℕ) (n : ℕ) (w' : List ℕ) : Type 0 where
  pub same : length w' ≡ length w
  pub offsets : (i : ℕ) → beyond n ≤ i → slice_index w' i ≡ slice_index w i
  pub fine : (mode wide : ℕ) → Fine w' (main_scope mode wide n) first_step
  pub room : (mode wide : ℕ) → Space w' (main_scope mode wide n) first_step n 0 0
  pub runs : (mode wide : ℕ) → run w' (main_scope mode wide n) first_step [] ≡ going (config [] 0 start)
  pub image : (mode wide : ℕ) (o : List ℕ) → Image (main_scope mode wide n) o first_step []
  -- the program is visited
  pub counts : visited w' ≡ 1

-- a function inside p is entered: its scope is `inner p`; what p's scope needs when it is left again
pub record Enters (w : List ℕ) (p : Scope) (s : Step) (w' : List ℕ) (r : Step) (node name : ℕ) : Type 0 where
  pub leaf : Leaf w p s w' (inner p) r nothing (fwd_unit (enter_function node name))
  pub code : r.pc ≡ s.pc
  pub first_is : first w' (suc p.depth) ≡ p.block
  pub saved_is : saved w' (suc p.depth) ≡ p.loops
  -- p's function takes no register
  pub own : registers w' p.depth ≡ registers w p.depth
  -- the function's locals start where p's end
  pub start : edge w' p.nodes p.block ≡ edge w p.nodes p.block

-- the words of a function inside p: p's scope can be read from them again
pub record Leavable (w : List ℕ) (p : Scope) : Type 0 where
  pub loops : p.loops ≤ p.nodes + 10
  pub starts : (j : ℕ) → j ≤ p.depth → first w j < p.block
  pub first_is : first w (suc p.depth) ≡ p.block
  pub saved_is : saved w (suc p.depth) ≡ p.loops
