-- Bytes written at a place.
use Rattle.std.specs.Prelude.{ℕ, ◌+◌, ◌≤◌, ◌≡◌, List, ◌++◌, length, take, drop}

-- the bytes stand at `at`, all others are as they were
pub record Spliced (o : List ℕ) (at : ℕ) (bytes o' : List ℕ) : Type 0 where
  pub fits : at + length bytes ≤ length o
  pub is : o' ≡ take at o ++ (bytes ++ drop (at + length bytes) o)
