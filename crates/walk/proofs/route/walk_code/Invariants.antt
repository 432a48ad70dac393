-- The invariant is `Walking`: the path from here on, behind the places that were left, is the whole path. The measure is what is left of the budget.
use Prim.Native.Nat.{◌-◌}
use lib.ListN.{length}
use Rattle.walk.proofs.Walking.{Walking}
use Rattle.walk.proofs.route.walk_code.Given as goal

abbrev pub invariant-loop-ended : goal.invariant-loop-ended
invariant-loop-ended l = Walking l.code.part.now l.code.tag l.code.span l.code.at l.code.count l.run.decisions.now l.run.strikes.now l.run.budget (length l.initial.visited) l.visited l.handlers.places l.handlers.count l.i l.k l.m l.steps

abbrev pub decreases-loop-ended : goal.decreases-loop-ended
decreases-loop-ended l = l.run.budget - l.steps
