-- The invariant is `Sought`.
use Rattle.tree.proofs.Over.{Sought}
use Rattle.tree.proofs.retired.over.Given as goal

abbrev pub invariant-loop-field : goal.invariant-loop-field
invariant-loop-field l = Sought l.tree l.field-iterator.rest.now l.i
