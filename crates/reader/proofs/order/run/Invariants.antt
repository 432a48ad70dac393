-- The invariant: the fields passed are whole instructions.
use Rattle.reader.specs.Glance.{Run}
use Rattle.reader.proofs.order.run.Given as goal

abbrev pub invariant-loop-i : goal.invariant-loop-i
invariant-loop-i l = Run l.t l.tag l.size l.n l.i
