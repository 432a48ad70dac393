-- Constant by constant: those passed stand one after the other.
use mathlib.Core.Path.{◌≡◌}
use Prim.Native.Nat.{◌+◌}
use lib.ListN.{length}
use Rattle.store.specs.Table.{tab}
use Rattle.store.specs.Layout.{constant_at}
use Rattle.meaning.specs.Image.{constant_bytes}
use Rattle.writers.specs.Spliced.{Spliced}
use Rattle.image.proofs.constants.put_constants.Given as goal

abbrev pub invariant-loop-i : goal.invariant-loop-i
invariant-loop-i l = (l.at ≡ l.from + length (constant_bytes (tab (constant_at l.work) l.i))) × Spliced l.initial.out l.from (constant_bytes (tab (constant_at l.work) l.i)) l.out
