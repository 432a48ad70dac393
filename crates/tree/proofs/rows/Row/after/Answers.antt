-- The ways through the code are those of `next_left` and `next_row`.
use mathlib.Core.Path.{refl}
use Rattle.tree.specs.Rows.{next_left, next_row, flow_of, end_of}
use Rattle.tree.proofs.rows.Row.after.Goals as goal

pub returns-in-Outside : goal.returns-in-Outside
unfolding next_left next_row flow_of end_of
returns-in-Outside c = rw c.in-Outside.is (refl, c.from.ensures)

pub returns-in-Counts : goal.returns-in-Counts
unfolding next_left next_row flow_of end_of
returns-in-Counts c = rw (c.in-Counts.is, c.within.ensures.0) (refl, c.within.ensures.1)

pub returns-in-Closes : goal.returns-in-Closes
unfolding next_left next_row flow_of end_of
returns-in-Closes c = rw (c.in-Closes.is, c.within-in-Closes.ensures.0, c.saturating_sub.ensures) (refl, rw c.saturating_sub.ensures at c.within-in-Closes.ensures.1)
