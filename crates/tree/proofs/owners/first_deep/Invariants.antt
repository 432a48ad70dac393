-- The invariant is `Deep`, the measure the node in hand.
use Rattle.tree.proofs.Depths.{Deep}
use Rattle.tree.proofs.owners.first_deep.Given as goal

abbrev pub invariant-loop-c : goal.invariant-loop-c
invariant-loop-c l = Deep l.initial.scratch l.scratch l.n l.c l.deep

abbrev pub decreases-loop-c : goal.decreases-loop-c
decreases-loop-c l = l.c
