-- The invariant is `Fitting`: what is to be answered and noted from here on is what was at the start. The measure is the rest of the payload.
use lib.ListN.{length}
use Rattle.tree.proofs.Payloads.{Fitting}
use Rattle.tree.proofs.shape.fits_from.Given as goal

abbrev pub invariant-loop-q : goal.invariant-loop-q
invariant-loop-q l = Fitting l.initial.scratch l.i l.first l.p l.scratch l.q l.place.row l.place.left

abbrev pub decreases-loop-q : goal.decreases-loop-q
decreases-loop-q l = length l.q
