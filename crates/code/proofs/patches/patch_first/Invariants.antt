-- `code::patches::patch_first` meets its contract: no jump to the end is passed over, and the first one is set. Assumes nothing.
use mathlib.Core.Path.{◌≡◌}
use Rattle.store.specs.Store.{top_of}
use Rattle.code.proofs.Scans.{None}
use Rattle.code.proofs.patches.patch_first.Given as goal

abbrev pub invariant-loop-i : goal.invariant-loop-i
invariant-loop-i l = (l.work ≡ l.initial.work) × None l.initial.work (top_of l.scope) l.first l.offset l.i
