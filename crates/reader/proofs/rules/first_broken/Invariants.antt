-- The invariant is `Ruling`: what is left to judge is what was. The measure is what is left.
use mathlib.Core.Path.{◌≡◌}
use lib.ListN.{length}
use Rattle.reader.specs.Around.{local_needs, outer_needs}
use Rattle.reader.proofs.Ruling.{Ruling}
use Rattle.reader.proofs.rules.first_broken.Given as goal

abbrev pub invariant-loop-t : goal.invariant-loop-t
invariant-loop-t l = (length l.marks ≡ length l.initial.marks) × Ruling l.mend l.image l.tag l.t l.k l.f (local_needs l.needs) (outer_needs l.needs)

abbrev pub decreases-loop-t : goal.decreases-loop-t
decreases-loop-t l = length l.t
