-- fn visit_block_stmt: its statements in a block of their own; the result is register 0.
use Prim.Native.Nat.{ℕ, ◌+◌, ◌<◌}
use Rattle.cycle.proofs.Visited.{block_visits}
use Rattle.cycle.proofs.Sizes.{block_size}
use Rattle.cycle.proofs.Way.{arrive, ends, from, in_block, next, next_leaf, next_left, small, ◌▹◌}
use Rattle.cycle.specs.Cycle.{AskRow, GivenStmt, LowersRow, Ready, UnderStmt}
use Rattle.forward.proofs.Chains.{block_chain}
use Rattle.forward.specs.Forward.{fwd_unit}
use Rattle.meaning.proofs.Reading.{Block}
use Rattle.meaning.specs.At.{Behind, count_of, stmts_at}
use Rattle.meaning.specs.Fields.{fields}
use Rattle.meaning.specs.Lower.{lower_expr}
use Rattle.meaning.specs.State.{enter_block}
use Rattle.meaning.specs.Weight.{size_stmts}
use Rattle.store.proofs.Around.{block_around}
use Rattle.store.proofs.Leaving.{left_runs}
use Rattle.store.proofs.Compose.{leaf_after, settled}
use Rattle.store.specs.Promise.{Leaf, Popped, nothing}
use Rattle.store.specs.Store.{Kept, Sound, block_of, deeper, nodes_of, with_result}
use Rattle.store.specs.declared.Scope.{Scope}
use Rattle.store.specs.declared.Step.{Step}
use lib.Dec.{lit<}
use mathlib.Core.List.{List}
use native.Mathlib.Omega.{arith}

module _ {t w : List ℕ} {p : Scope} {s : Step} {i : ℕ} (g : GivenStmt t w p s i) (x : Block (fields t) i) where
  pub at_enter : Sound w p × (block_of p < nodes_of p + 10)
  at_enter = let n = block_size x in (g.ready.fine.sound, omega (arith, g.ready.blocks, g.ready.fine.sound.deep))

  module _ {w1 : List ℕ} (k1 : Kept w (deeper p) w1) (d1 : Leaf w p s w1 (deeper p) s nothing (fwd_unit enter_block)) where
    pub inner_ready : Ready t w1 (deeper p) s (size_stmts (stmts_at (fields t) i 0 (count_of (fields t) i))) 0 0
    inner_ready = let n = block_size x in in_block (from g.ready) d1.moves (omega arith) (omega arith) (omega arith) (omega arith)

    pub stmts : Behind (fields t) i 0 0 → AskRow t w1 (deeper p) s i 0 (count_of (fields t) i) 0
    stmts b = record { ready = inner_ready; known = g.known; ends = omega arith; each = λ j a b. x.each j b; behind = b }

    module _ {o w2 o2 : List ℕ} {s2 : Step} (d2 : LowersRow t i 0 (count_of (fields t) i) w1 o (deeper p) s w2 o2 s2) where
      module _ {w3 : List ℕ} (d3 : Popped w2 p w3) where
        pub lowers : UnderStmt t i w o p s w3 o2 (with_result s2 0)
        unfolding lower_expr
        lowers =
            let n = block_size x in
            let l = settled s2 0 (lit< tt) d2.does.moves.fine in
            let m = (from inner_ready ▹ d2.does.moves ▹ l.moves).moves in
            arrive _ _ _ (from g.ready ▹ block_around g.ready.fine k1 d1.moves m d3) (omega arith) (omega arith) (omega arith) (λ z. omega arith) (omega (arith, block_visits x))
            d2.does.same (small (with_result s2 0) (lit< tt)) λ ps z.
            let a1 = leaf_after d1 o ps z in
            let a2 = next a1 d2.does in
            let a3 = next_leaf a2 l in
            let a4 = next_left a3 (left_runs m.fine d3) in
            ends a4 (rw x.is (block_chain _ _ _ a1.runs _ a2.runs _ a3.runs _ a4.runs))
