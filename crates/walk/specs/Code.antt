-- A walk over instructions as they lie in an image: fields of one size, one after the other.
use Rattle.std.specs.Prelude.{ℕ, suc, ◌+◌, ◌*◌, ◌<◌, ◌≤◌, ◌≡◌, true, List, length, get_or}
use Rattle.meaning.specs.Steps.{inst_at}
use Rattle.meaning.specs.Rules.{all, inside, leads}
use Rattle.reader.specs.Laid.{code_in}

-- a walk may be made over n instructions from `at` on, each of `span` bytes: they lie within the part, there is one at least, and no step leads out
pub record Walkable (s : List ℕ) (tag span at n : ℕ) : Type 0 where
  pub some : 0 < n
  pub few : n < 65536
  pub wide : (7 ≤ span) × (span ≤ 11)
  pub room : at + n * span ≤ length s
  pub stays : (i : ℕ) → i < n → all (inside n) (leads i (inst_at (code_in s tag span at n) i)) ≡ true

-- every decision is 0 or 1
abbrev pub Decisions : List ℕ → Type 0
Decisions ds = (j : ℕ) → get_or ds j 0 ≤ 1

-- every strike but the first is above the one before it
abbrev pub Rising : List ℕ → Type 0
Rising ss = (j : ℕ) → suc j < length ss → get_or ss j 0 < get_or ss (suc j) 0
