-- The invariant is `Counting`: what is left to count is what was.
use Rattle.mend.proofs.Coursing.{Counting}
use Rattle.mend.proofs.walk.count.Given as goal

abbrev pub invariant-loop-field : goal.invariant-loop-field
invariant-loop-field l = Counting l.image l.tag l.field-iterator.rest.now l.course l.entries
