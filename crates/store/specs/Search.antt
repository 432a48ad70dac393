-- What the searches promise: of locals by their name, of captures, of the functions around.
use Rattle.std.specs.Prelude.{◌≡◌, ℕ, zero, suc, ◌+◌, ◌*◌, ◌<◌, ◌≤◌, cond, List, length, ◌==◌, nat_lt, slice_index}
use Rattle.std.specs.Prelude.{Option, None, Some, Result, Ok, Err, IfOk}
use Rattle.std.proofs.Math.Option as maybe
use Rattle.store.specs.declared.capture.NoRoom.{NoRoom}
use Rattle.store.specs.Layout.{all_words, first, edge, capture_of}
use Rattle.store.specs.Store.{open_at, around, Linked}
use Rattle.meaning.specs.State.{Local, Search, not_found, full, found, add_upvalue, search_outward}

-- what was found, as the definition has it
abbrev pub option_of : Option ℕ → maybe.Option ℕ
option_of (Some i) = maybe.some i
option_of None = maybe.none

-- the same the other way
abbrev pub found_of : maybe.Option ℕ → Option ℕ
found_of maybe.none = None
found_of (maybe.some i) = Some i

-- a register or an index is below 255
abbrev pub in_byte : Option ℕ → Type 0
in_byte (Some i) = i < 255
in_byte None = Unit {0}

-- the latest of the locals from a up to n with that name, or else o
unfoldable pub seek : ℕ → (ℕ → Local) → (a n : ℕ) → maybe.Option ℕ → maybe.Option ℕ
seek name f a zero o = o
seek name f a (suc n) o = cond (nat_lt n a) o (cond (name == (f n).name) (maybe.some (f n).register) (seek name f a n o))

-- what a walk along the links up to `end` needs: the locals of some blocks are linked, and `end` is the edge of one of them
pub record Walkable (w : List ℕ) (n end : ℕ) : Type 0 where
  pub some : 1 ≤ n
  pub few : n ≤ 32768
  pub long : all_words n ≤ length w
  -- how many blocks are linked, and the one at whose edge the walk ends
  pub blocks : ℕ
  pub block : ℕ
  pub among : block ≤ blocks
  pub ends : end ≡ edge w n block
  pub within : end ≤ edge w n blocks
  pub fits : edge w n blocks ≤ n + 2040
  pub linked : Linked w n blocks

-- ---- captures

-- only captures of the functions 0 to d changed
pub record Caught (w : List ℕ) (d : ℕ) (w' : List ℕ) : Type 0 where
  pub same : length w' ≡ length w
  -- the words before the frames, and those after the captures
  pub low : (i : ℕ) → i < 3072 → slice_index w' i ≡ slice_index w i
  pub high : (i : ℕ) → 4168 ≤ i → slice_index w' i ≡ slice_index w i
  -- of a frame only word 2 changed, how many captures are held
  pub frames : (j k : ℕ) → j < 9 → k < 8 → ¬ (k ≡ 2) → slice_index w' (3072 + 8 * j + k) ≡ slice_index w (3072 + 8 * j + k)
  -- and of the functions beyond d not that, nor the captures
  pub counts : (j : ℕ) → d < j → j < 9 → slice_index w' (3074 + 8 * j) ≡ slice_index w (3074 + 8 * j)
  pub above : (i : ℕ) → 3144 + 128 * suc d ≤ i → i < 4168 → slice_index w' i ≡ slice_index w i

-- what was found, or that a capture does not fit, with the words after it, in function d and around it
abbrev pub search_of : List ℕ → (n d e l : ℕ) → Result (Option ℕ) NoRoom → Search
search_of w n d e l (Ok None) = not_found
search_of w n d e l (Ok (Some i)) = found i (open_at w n d e l) (around w n d)
search_of w n d e l (Err no_room) = full

-- a capture that is added is found, or does not fit
abbrev pub added_of : Result ℕ NoRoom → Result (Option ℕ) NoRoom
added_of (Ok i) = Ok (Some i)
added_of (Err no_room) = Err no_room

-- function d captures x; there may be any number of nodes, and function d's blocks and loops may end anywhere
pub record Added (w : List ℕ) (d x : ℕ) (w' : List ℕ) (r : Result ℕ NoRoom) : Type 0 where
  pub says : (n e l : ℕ) → search_of w' n d e l (added_of r) ≡ add_upvalue (open_at w n d e l) (capture_of x) (around w n d)
  pub small : IfOk r (λ i. i < 255)
  pub caught : Caught w d w'

-- the search outward from function d
pub record Sought (w : List ℕ) (n d name : ℕ) (w' : List ℕ) (r : Result (Option ℕ) NoRoom) : Type 0 where
  pub says : (e l : ℕ) → search_of w' n d e l r ≡ search_outward name (open_at w n d e l) (around w n d)
  pub small : IfOk r in_byte
  pub caught : Caught w d w'
  pub unchanged : r ≡ Ok None → w' ≡ w

-- what the search reads: the blocks of the functions 0 to d
pub record Ready (w : List ℕ) (n d : ℕ) : Type 0 where
  pub few : n ≤ 32768
  pub long : all_words n ≤ length w
  pub deep : d ≤ 7
  pub main : first w 0 ≡ 0
  pub starts : (j : ℕ) → j ≤ d → first w j ≤ n + 10
  pub sorted : (j : ℕ) → j ≤ d → (i : ℕ) → i < first w j → edge w n i ≤ edge w n (suc i)
  pub walks : (j : ℕ) → j ≤ d → Walkable w n (edge w n (first w j))
