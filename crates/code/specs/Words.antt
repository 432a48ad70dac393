-- Pending code as words: what the inner functions promise.
use Rattle.std.specs.Prelude.{ℕ, ◌-◌, ◌*◌, ◌<◌, ◌≤◌, ◌≡◌, List, ◌++◌, length, get_or, take, drop}
use Rattle.store.specs.Table.{tab}
use Rattle.store.specs.declared.Scope.{Scope}
use Rattle.store.specs.Store.{nodes_of, top_of}
use Rattle.store.specs.Layout.{cell, unpacked, inst_at}
use Rattle.meaning.specs.declared.Instruction.{Instruction}

-- the word x became y: any instruction that x packs is turned by f
pub record Turns (x : ℕ) (f : Instruction → Instruction) (y : ℕ) : Type 0 where
  pub is : (mark : ℕ) → unpacked y mark ≡ f (unpacked x mark)

-- the instructions from `first` up to `end` stand in the work area
abbrev pub Stretch : List ℕ → Scope → (first end : ℕ) → Type 0
Stretch w p first end = (top_of p ≤ length w) × (2 * end ≤ top_of p) × (first ≤ end) × (nodes_of p ≤ 32768)

-- each instruction from `first` up to `end` has the word that `step` allows, from the word before and its place behind `first`; no other word changed
pub record TurnsEach (step : ℕ → ℕ → ℕ → Type 0) (w : List ℕ) (top first end : ℕ) (w' : List ℕ) : Type 0 where
  pub same : length w' ≡ length w
  pub other : (j : ℕ) → ((k : ℕ) → first ≤ k → k < end → ¬ (j ≡ cell top k)) → get_or w' j 0 ≡ get_or w j 0
  pub each : (k : ℕ) → first ≤ k → k < end → step (get_or w (cell top k) 0) (k - first) (get_or w' (cell top k) 0)

-- the first k instructions became k' by f; no word but theirs changed
pub record Recoded (w : List ℕ) (top k k' : ℕ) (f : List Instruction → List Instruction) (w' : List ℕ) : Type 0 where
  pub same : length w' ≡ length w
  pub other : (i : ℕ) → (top - 2 * k' ≤ i → top ≤ i) → get_or w' i 0 ≡ get_or w i 0
  pub code : tab (inst_at w' top) k' ≡ f (tab (inst_at w top) k)

-- the code from `first` on, anew
abbrev pub mended : (List Instruction → List Instruction) → ℕ → List Instruction → List Instruction
mended f first l = take first l ++ f (drop first l)
