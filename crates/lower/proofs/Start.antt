-- From the check to the first statement: an accepted tree has what the lowering asks for.
use mathlib.Core.Path.{◌≡◌, refl, sym, subst}
use mathlib.Core.List.{List}
use Prim.Native.Nat.{ℕ, ◌+◌, ◌-◌, ◌≤◌}
use native.Mathlib.Omega.{arith}
use lib.ListN.{length}
use Rattle.meaning.specs.Grammar.{grammar, items_of, wide_marks}
use Rattle.meaning.specs.Fields.{fields}
use Rattle.meaning.specs.Check.{checked}
use Rattle.meaning.specs.At.{extra, file_words, Behind, count_of, stmts_at}
use Rattle.meaning.specs.Weight.{size_stmts}
use Rattle.meaning.specs.Read.{read_program}
use Rattle.std.specs.Prelude.{Ok}
use Rattle.meaning.proofs.Accepted.{accepted}
use Rattle.meaning.proofs.Weights.{accepted_size}
use Rattle.meaning.proofs.Unfold.{last_items}
use Rattle.meaning.proofs.Places.{none_of, unmarked, heads_none}
use Rattle.meaning.proofs.Reading.{Program, program_node}
use Rattle.nodes.specs.Offsets.{Offsets, Readable}
use Rattle.nodes.proofs.Headers.{offsets_kept}
use Rattle.tree.specs.Used.{scratch_after}
use Rattle.tree.proofs.Noted.{accepted_offsets}
use Rattle.store.specs.Store.{main_scope, first_step}
use Rattle.store.specs.Opening.{Begun}
use Rattle.store.proofs.Compose.{room_by}
use Rattle.lower.specs.Open.{Opened}
use Rattle.cycle.specs.Cycle.{AskRow}

-- the check has noted the offsets of a tree that it has accepted, at the end of the work area
pub check_offsets : (mode : ℕ) (t w : List ℕ) (n : ℕ) → checked mode t (length w) ≡ Ok n → (w' : List ℕ) → w' ≡ scratch_after mode t w → length w' ≡ length w → Offsets t w'
check_offsets mode t w n e w' el size =
    let a = accepted mode t (length w) n e in
    record { inside = omega (arith, a.room); each = λ i h. accepted_offsets mode t w n e w' el size i (omega (arith, a.nodes)) }

module _ (mode : ℕ) (t : List ℕ) (work n : ℕ) (e : checked mode t work ≡ Ok n) where
  -- the store is begun beside them, and they stay
  pub opened : {w w' : List ℕ} → length w ≡ work → Offsets t w → Begun w n w' → Opened t n w'
  opened size o b =
      let a = accepted mode t work n e in
      record { offsets = offsets_kept o b.same (λ i h. b.offsets i (omega (arith, a.nodes, a.room))); fine = b.fine; room = b.room; runs = b.runs; image = b.image; counts = b.counts }

  pub some_nodes : 1 ≤ n
  some_nodes = let a = accepted mode t work n e in omega (arith, a.nodes, a.some)

  -- the last node is the program, and its statements are the definition's
  program : Program (fields t) (n - 1)
  program = let a = accepted mode t work n e in subst (λ k. Program (fields t) (k - 1)) (sym a.nodes) (program_node (fields t) a.shapes a.some)

  pub program_is : read_program (fields t) ≡ stmts_at (fields t) (n - 1) 0 (count_of (fields t) (n - 1))
  program_is = program.is

  -- the statements have every node but the program itself
  row_size : 1 + size_stmts (stmts_at (fields t) (n - 1) 0 (count_of (fields t) (n - 1))) ≡ n
  row_size = rw program_is at (accepted_size mode t work n e)

  module _ {w : List ℕ} (o : Opened t n w) where
    pub last_readable : Readable t w (n - 1)
    last_readable = let a = accepted mode t work n e in record { offsets = o.offsets; known = omega (arith, a.nodes, a.some) }

    -- the program has no mark, so its words are those of the file
    program_stands : Behind (fields t) (n - 1) 0 0
    unfolding items_of grammar unmarked none_of
    program_stands =
        let a = accepted mode t work n e in
        let k : n - 1 ≡ length (fields t) - 1 = omega (arith, a.nodes) in
        rw k (heads_none (fields t) (length (fields t) - 1) (a.shapes (length (fields t) - 1) (omega (arith, a.some))) _ (last_items (fields t) a.shapes a.some) refl).1

    pub program_counted : Readable t w (n - 1) × (length (file_words (fields t) (n - 1)) ≡ count_of (fields t) (n - 1) + 0)
    program_counted = (last_readable, program_stands.size)

    pub row_asked : {v : ℕ} → v ≡ extra (wide_marks (fields t)) → AskRow t w (main_scope mode v n) first_step (n - 1) 0 (count_of (fields t) (n - 1)) 0
    row_asked {v} width =
        let a = accepted mode t work n e in
        record {
          ready = record {
            lawful = record { nodes = a.nodes; shapes = a.shapes; long = (o.fine mode v).sound.long; offsets = o.offsets };
            width = width;
            fine = o.fine mode v;
            room = room_by (size_stmts (stmts_at (fields t) (n - 1) 0 (count_of (fields t) (n - 1)))) 0 0 (omega (arith, row_size)) (omega (arith, row_size)) (o.room mode v);
            blocks = omega (arith, row_size);
            loops = omega (arith, row_size);
          };
          known = omega (arith, some_nodes);
          ends = omega arith;
          each = λ k f l. program.each k l;
          behind = program_stands;
        }
