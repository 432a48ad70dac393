-- The visits that were counted.
use Rattle.std.specs.Prelude.{ℕ, ◌≤◌, ◌≡◌, List, length, Ok, Err}
use Rattle.meaning.specs.Fields.{fields}
use Rattle.meaning.specs.Read.{read_program}
use Rattle.meaning.specs.Visits.{visits_program}
use Rattle.meaning.specs.Outcome.{Outcome}
use Rattle.store.specs.Layout.{visited}

-- the count that the words w hold, 0 where the outcome is a refusal
abbrev pub counted : (w : List ℕ) → Outcome → ℕ
counted w (Ok n) = visited w
counted w (Err why) = 0

-- there are words to count in, where it is none
abbrev pub Countable : (w : List ℕ) → Outcome → Type 0
Countable w (Ok n) = 3144 ≤ length w
Countable w (Err why) = Unit {0}

-- an accepted tree's visits stand counted in the words
abbrev pub Counted : (t w : List ℕ) → Outcome → Type 0
Counted t w (Ok n) = (3144 ≤ length w) × (visited w ≡ visits_program (read_program (fields t)))
Counted t w (Err why) = Unit {0}
