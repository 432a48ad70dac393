-- What the functions here require holds where they are called: where the table stands every node may be read, also after steps that change no word of it.
use mathlib.Core.Path.{◌≡◌}
use mathlib.Core.List.{List}
use Prim.Native.Nat.{ℕ, ◌+◌, ◌<◌, ◌≤◌}
use native.Mathlib.Omega.{arith}
use lib.ListN.{length, get_or}
use Rattle.meaning.specs.Fields.{fields}
use Rattle.nodes.specs.Offsets.{Offsets, Readable}
use Rattle.nodes.proofs.Headers.{offsets_kept}

module _ {tree work : List ℕ} where
  pub node_readable : Offsets tree work → (node : ℕ) → node < length (fields tree) → Readable tree work node
  node_readable o node h = record { offsets = o; known = h }

  pub child_readable : {node : ℕ} → Readable tree work node → (c : ℕ) → c < node → Readable tree work c
  child_readable r c h = record { offsets = r.offsets; known = omega (arith, r.known) }

  pub readable_kept : {work' : List ℕ} {node : ℕ} → Readable tree work node → length work' ≡ length work
      → ((i : ℕ) → length work ≤ i + length (fields tree) → get_or work' i 0 ≡ get_or work i 0) → Readable tree work' node
  readable_kept r l same = record { offsets = offsets_kept r.offsets l same; known = r.known }
