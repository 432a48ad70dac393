-- The invariant is `Putting`: what is done, with what will become of the rest, is the whole copy and the whole list.
use Rattle.mend.proofs.Putting.{Putting}
use Rattle.mend.proofs.put.put_all.Given as goal

abbrev pub invariant-loop-field : goal.invariant-loop-field
invariant-loop-field l = Putting l.image l.tag l.initial.out l.initial.list l.field-iterator.rest.now l.course l.at l.listed l.out l.list
