-- Each turn is a name's register and local, and its GetIteri (Loop.antt); where none is left the result is 0. The k-th name has register `count + k`, so k is a byte.
use Rattle.routines.proofs.PairLoops.{Turned, all_names}
use Rattle.routines.proofs.enhanced_for_stmt.iterate_each.Given as goal

abbrev pub invariant-loop-k : goal.invariant-loop-k
invariant-loop-k l = Turned (all_names l.node l.mark l.element) l.payload l.from l.n 3 l.initial.work l.scope l.initial.last l.work l.last l.k
