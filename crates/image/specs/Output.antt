-- The output: bytes placed where they fit, and the prototype whose bytes they are.
use Rattle.std.specs.Prelude.{ℕ, ◌+◌, ◌<◌, ◌≤◌, ◌≡◌, List, [], ◌∷◌, ◌++◌, length}
use Rattle.store.specs.Table.{tab}
use Rattle.store.specs.Layout.{name_of, registers, held, capture_at, inst_at}
use Rattle.meaning.specs.Opcode.{inst, Return, no_mark}
use Rattle.meaning.specs.State.{Proto}
use Rattle.writers.specs.Spliced.{Spliced}

-- the bytes stand at `at` where they fit, else nothing; where they end
pub record Placed (o : List ℕ) (at : ℕ) (bytes o' : List ℕ) (end : ℕ) : Type 0 where
  pub ends : end ≡ at + length bytes
  pub same : length o' ≡ length o
  pub fits : end ≤ length o → Spliced o at bytes o'
  pub beyond : length o < end → o' ≡ o

-- the prototype of function j, whose code are the k instructions from `first` on and the last Return
abbrev pub proto_of : List ℕ → (top j first k params : ℕ) → Proto
proto_of w top j first k params =
    record {
      name = name_of w j;
      params = params;
      registers = registers w j;
      captures = tab (capture_at w j) (held w j);
      code = tab (λ i. inst_at w top (first + i)) k ++ inst Return 0 0 0 no_mark ∷ [];
    }
