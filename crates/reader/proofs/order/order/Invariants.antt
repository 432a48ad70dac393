-- The invariant is `Ordering`: what strays from here on is what strays at all. The measure is the rest of the file.
use lib.ListN.{length}
use Rattle.reader.proofs.Glances.{Ordering}
use Rattle.reader.proofs.order.order.Given as goal

abbrev pub invariant-loop-seen : goal.invariant-loop-seen
invariant-loop-seen l = Ordering l.image l.tag l.t l.d l.i

abbrev pub decreases-loop-seen : goal.decreases-loop-seen
decreases-loop-seen l = length l.t
