-- The invariant is `Marked`: the bytes say what the first i instructions enter.
use lib.ListN.{length}
use Rattle.reader.specs.Laid.{code_in}
use Rattle.reader.specs.Lens.{lens_code}
use Rattle.reader.proofs.Marking.{Marked}
use Rattle.reader.proofs.marks.mark_entered.Given as goal

abbrev pub invariant-loop-i : goal.invariant-loop-i
invariant-loop-i l = Marked (lens_code l.mend (code_in l.t l.tag l.span l.at (length l.initial.marks))) (length l.initial.marks) l.i l.marks
