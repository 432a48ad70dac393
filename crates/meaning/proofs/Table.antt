-- The table of opcodes: its rows are numbered from 0 to 50, so each opcode has one row; 38 are written. Both computed.
use Prim.Native.Nat.{ℕ, zero, suc, ◌+◌}
use mathlib.Core.Path.{◌≡◌, refl}
use mathlib.Core.List.{List, [], ◌∷◌, map}
use lib.ListN.{length}
use Rattle.meaning.specs.Opcode.{opcode_table, opcode_of, opcodes_written}

-- n numbers from i on
abbrev counting : (n i : ℕ) → List ℕ
counting zero i = []
counting (suc n) i = i ∷ counting n (i + 1)

pub ordered : map opcode_of opcode_table ≡ counting 51 0
ordered = refl

pub written_count : length opcodes_written ≡ 38
written_count = refl
