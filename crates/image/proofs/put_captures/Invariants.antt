-- `image::put_captures` meets its contract: capture by capture. Assumes nothing.
use Rattle.store.specs.Table.{tab}
use Rattle.store.specs.Layout.{capture_at}
use Rattle.meaning.specs.Image.{capture_bytes}
use Rattle.writers.specs.Spliced.{Spliced}
use Rattle.image.proofs.put_captures.Given as goal

abbrev pub invariant-loop-i : goal.invariant-loop-i
invariant-loop-i l = Spliced l.initial.out l.at (capture_bytes (tab (capture_at l.work l.j) l.i)) l.out
