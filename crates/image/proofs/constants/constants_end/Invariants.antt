-- Constant by constant: the end is the start and the bytes of those passed, eleven each at most.
use mathlib.Core.Path.{◌≡◌}
use Prim.Native.Nat.{◌+◌, ◌*◌, ◌≤◌}
use lib.ListN.{length}
use Rattle.store.specs.Table.{tab}
use Rattle.store.specs.Layout.{constant_at}
use Rattle.meaning.specs.Image.{constant_bytes}
use Rattle.image.proofs.constants.constants_end.Given as goal

abbrev pub invariant-loop-i : goal.invariant-loop-i
invariant-loop-i l = (l.end ≡ l.at + length (constant_bytes (tab (constant_at l.work) l.i))) × (l.end ≤ l.at + 11 * l.i)
