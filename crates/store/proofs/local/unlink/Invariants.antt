-- The walk along the links from the latest local, within its block: local `last` leads to `next`, and nothing has changed so far. The one that is found is taken out
-- (Shadows.antt).
use Rattle.std.proofs.Common.{◌≡◌, ◌≤◌}
use Rattle.store.specs.Layout.{link}
use Rattle.store.proofs.local.unlink.Given as goal

abbrev pub invariant-loop-next : goal.invariant-loop-next
invariant-loop-next l = (l.work ≡ l.initial.work) × (l.last ≤ l.initial.last) × (l.next ≡ link l.initial.work l.nodes l.last)

abbrev pub decreases-loop-next : goal.decreases-loop-next
decreases-loop-next l = l.next
