-- The invariant is `Needed`: what the captures from i on need.
use Rattle.reader.proofs.Scanned.{Needed}
use Rattle.reader.proofs.facts.needs_of.Given as goal

abbrev pub invariant-loop-i : goal.invariant-loop-i
invariant-loop-i l = Needed l.t l.at l.n l.i l.locals l.outers
