-- The invariant is `Locating`: k prototypes stand before what is left.
use Rattle.reader.proofs.Locates.{Locating}
use Rattle.reader.proofs.locate.prototype.Given as goal

abbrev pub invariant-loop : goal.invariant-loop
invariant-loop l = Locating l.image l.tag l.q l.t l.counter
