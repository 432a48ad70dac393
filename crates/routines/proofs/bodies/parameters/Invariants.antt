-- Each turn is a parameter (Loop.antt); where none is left the result is 0.
use Rattle.routines.proofs.PairLoops.{Turned, all_parameters}
use Rattle.routines.proofs.bodies.parameters.Given as goal

abbrev pub invariant-loop-k : goal.invariant-loop-k
invariant-loop-k l = Turned (all_parameters l.node) l.payload l.from l.n 1 l.initial.work l.scope l.initial.last l.work l.last l.k
