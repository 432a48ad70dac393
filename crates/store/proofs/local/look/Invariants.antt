-- The walk along the links of the name's bucket (Links.antt). First loop: i is the latest of the bucket below the larger of i and `end`, so where it ends
-- i is the latest below `end`. Second loop: the locals from i up to `end` have another name.
use Rattle.std.proofs.Common.{◌≡◌, ℕ, ◌*◌, ◌%◌, ◌<◌, ◌≤◌, max}
use Rattle.store.specs.Layout.{local_at, latest}
use Rattle.store.proofs.local.look.Given as goal

abbrev pub invariant-loop-i : goal.invariant-loop-i
invariant-loop-i l = (l.i ≤ l.initial.i) × (latest l.work l.nodes (l.name % (10 * l.nodes)) (max l.i l.end) ≡ l.i)

abbrev pub decreases-loop-i : goal.decreases-loop-i
decreases-loop-i l = l.i

abbrev pub invariant-loop-i-2 : goal.invariant-loop-i-2
invariant-loop-i-2 l = (l.i ≤ l.end) × (latest l.work l.nodes (l.name % (10 * l.nodes)) l.i ≡ l.i) × ((m : ℕ) → l.i ≤ m → m < l.end → ¬ ((local_at l.work l.nodes m).name ≡ l.name))

abbrev pub decreases-loop-i-2 : goal.decreases-loop-i-2
decreases-loop-i-2 l = l.i
