-- The invariant is `Judged`: below field i every shape is right and the scratch is as after those nodes, or the lowest wrong node is found; and the
-- offsets are noted, as many as are asked for. The measure is the rest of the file.
use Prim.Native.Nat.{min}
use lib.ListN.{length}
use Rattle.tree.proofs.Shapes.{Judged}
use Rattle.tree.proofs.shape.walk_by.Given as goal

abbrev pub invariant-loop-last : goal.invariant-loop-last
invariant-loop-last l = Judged l.limit l.wide l.tree l.initial.scratch l.scratch l.t l.i (min l.i l.notes) l.end l.last

abbrev pub decreases-loop-last : goal.decreases-loop-last
decreases-loop-last l = length l.t
