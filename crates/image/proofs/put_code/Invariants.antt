-- `image::put_code` meets its contract: instruction by instruction. Assumes nothing.
use mathlib.Core.Path.{◌≡◌}
use Prim.Native.Nat.{◌+◌, ◌*◌}
use Rattle.store.specs.Table.{tab}
use Rattle.store.specs.Layout.{inst_at}
use Rattle.store.specs.Store.{top_of}
use Rattle.meaning.specs.Images.{inst_size}
use Rattle.meaning.specs.Image.{inst_bytes}
use Rattle.writers.specs.Spliced.{Spliced}
use Rattle.image.proofs.put_code.Given as goal

abbrev pub invariant-loop-i : goal.invariant-loop-i
invariant-loop-i l = (l.at ≡ l.from + l.i * (3 + inst_size l.tag)) × Spliced l.initial.out l.from (inst_bytes l.tag (tab (λ k. inst_at l.work (top_of l.scope) (l.first + k)) l.i)) l.out
