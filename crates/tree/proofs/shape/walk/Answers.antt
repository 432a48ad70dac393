-- The last tag, which the first walk tells, is that by which marks are wide.
use mathlib.Core.Path.{sym, ◌∙◌}
use Prim.Native.Nat.{min}
use native.Mathlib.Omega.{arith}
use Rattle.tree.specs.Scratch.{Beyond}
use Rattle.tree.specs.Used.{with_offsets}
use Rattle.tree.proofs.Words.{beyond_then}
use Rattle.tree.proofs.Noted.{offsets_none}
use Rattle.tree.proofs.Shapes.{found_narrow, found_wide}
use Rattle.tree.proofs.shape.walk.Goals as goal
use Rattle.tree.proofs.shape.walk.Goals.{After-walk_by}

pub returns-then-narrow-ne62 : goal.returns-then-narrow-ne62
returns-then-narrow-ne62 c = let e = c.walk_by-narrow.ensures in record {
  count = e.count;
  found = λ all. found_narrow _ _ _ _ _ _ e.last c.if-narrow-ne62.true (e.found all);
  beyond = e.beyond;
}

pub walk_by-requires : goal.walk_by-requires
walk_by-requires c = let pre = c.requires in record { judged = pre.judged; noted = omega arith; room = omega (arith, c.walk_by-narrow.auto.scratch, pre.room) }

-- the second walk has counted as the first, and notes nothing
beyond : (c : goal.After-walk_by) → let a = c.args in
    Beyond (min c.walk_by.result.count a.limit) (with_offsets a.tree.now (min c.walk_by.result.count a.notes) a.scratch.now) c.walk_by.new.scratch
beyond c = let same = c.walk_by-narrow.ensures.count ∙ sym c.walk_by.ensures.count in
    beyond_then _ _ _ _ (rw same at c.walk_by-narrow.ensures.beyond) (rw (offsets_none _ _ _) at c.walk_by.ensures.beyond)

pub returns : goal.returns
returns c = let e = c.walk_by.ensures in record {
  count = e.count;
  found = λ all. found_wide _ _ _ _ _ _ c.walk_by-narrow.ensures.last c.if-narrow-ne62.false (e.found all);
  beyond = beyond (goal.at.returns c).After-walk_by;
}
