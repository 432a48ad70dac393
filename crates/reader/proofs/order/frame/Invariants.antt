-- The invariant is a walk over the fields.
use mathlib.Core.Path.{◌≡◌}
use lib.ListN.{length}
use Rattle.meaning.proofs.FieldLaws.{FieldWalk}
use Rattle.reader.proofs.order.frame.Given as goal

abbrev pub invariant-loop-field : goal.invariant-loop-field
invariant-loop-field l = FieldWalk l.image l.count l.field-iterator.rest.now × (l.after ≡ length l.field-iterator.rest.now)
