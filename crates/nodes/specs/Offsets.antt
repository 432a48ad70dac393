-- The table of the nodes' offsets, at the end of the work area: its last word is where field 0 starts in the tree, the word before it where field 1 does.
use Rattle.std.specs.Prelude.{ℕ, ◌-◌, ◌<◌, ◌≤◌, ◌≡◌, List, length, get_or}
use Rattle.meaning.specs.Fields.{fields, header}

-- the table of a tree
pub record Offsets (tree work : List ℕ) : Type 0 where
  pub inside : length (fields tree) ≤ length work
  pub each : (i : ℕ) → i < length (fields tree) → get_or work (length work - 1 - i) 0 ≡ header tree i

-- what a reader of a node goes by
pub record Readable (tree work : List ℕ) (node : ℕ) : Type 0 where
  pub offsets : Offsets tree work
  pub known : node < length (fields tree)
