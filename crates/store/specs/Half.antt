-- The work area's words as halves, two to a word: half k is the low half of word k / 2 where k is even, else the high half.
use Rattle.std.specs.Prelude.{ℕ, ◌+◌, ◌*◌, ◌/◌, ◌%◌, cond, List, ◌==◌, slice_index, slice_set}

-- the number that half k holds, from 0 to 65,535
unfoldable pub half : List ℕ → ℕ → ℕ
half w k = cond (k % 2 == 0) (slice_index w (k / 2) % 65536) (slice_index w (k / 2) / 65536 % 65536)

-- half k set to v
unfoldable pub with_half : List ℕ → ℕ → ℕ → List ℕ
with_half w k v =
    slice_set w (k / 2) (cond (k % 2 == 0) (slice_index w (k / 2) / 65536 * 65536 + v) (v * 65536 + slice_index w (k / 2) % 65536))
