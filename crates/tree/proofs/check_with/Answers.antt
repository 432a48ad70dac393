-- What the walk ensures is what judging requires: as many nodes are judged as there may be.
use native.Mathlib.Omega.{arith}
use Rattle.tree.proofs.check_with.Goals as goal

pub walk-walked-requires : goal.walk-walked-requires
walk-walked-requires c = let e = c.min-limit.ensures in record { judged = omega (arith, e); noted = omega arith; room = omega (arith, e) }

pub judged-requires : goal.judged-requires
judged-requires c = c.walk-walked.ensures.found (omega (arith, c.walk-walked.ensures.count, c.min-limit.ensures, c.requires))
