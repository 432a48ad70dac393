-- What the loop of the walk tells.
use Rattle.std.specs.Prelude.{ℕ, ◌≤◌, ◌≡◌}
use Rattle.meaning.specs.Paths.{Path, steps_of}
use Rattle.walk.specs.declared.route.Walked.{Walked}

-- a path as the code tells it: "The walk's step count is a number in the result, equal to the defined path's length and at most the budget"
pub record Told (p : Path) (budget : ℕ) (r : Walked) : Type 0 where
  pub steps : r.steps ≡ steps_of p
  pub within : r.steps ≤ budget
  pub stood : r.stood ≡ p.stood
  pub ended : r.ended ≡ p.ended
