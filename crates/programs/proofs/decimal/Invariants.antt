-- The digits read so far make the value; the rest of the word goes on from it.
use mathlib.Core.Path.{◌≡◌}
use lib.ListN.{drop}
use Rattle.programs.specs.Words.{spelled, spelled_on}
use Rattle.programs.proofs.decimal.Given as goal

abbrev pub invariant-loop-digit : goal.invariant-loop-digit
invariant-loop-digit l = spelled l.word ≡ spelled_on l.value (drop l.digit-index l.word)
