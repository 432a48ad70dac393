-- The loop pops one local a turn (Links.antt, Popping): of the locals that were there the first i are left, and no head leads below the block's start
-- before it should; at the start it leads to the latest there.
use Rattle.std.proofs.Common.{◌≤◌}
use Rattle.store.proofs.Links.{Popping}
use Rattle.store.proofs.block.leave_block.Given as goal

abbrev pub invariant-loop-i : goal.invariant-loop-i
invariant-loop-i l = (l.from ≤ l.i) × Popping l.initial.work l.work l.nodes l.from l.i
