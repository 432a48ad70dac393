-- The body of a function: its statements in a block of their own; one statement alone gets a Return.
use Prim.Native.Nat.{ℕ, ◌+◌, ◌-◌, ◌<◌, ◌≤◌}
use Rattle.cycle.proofs.Sizes.{stmts_count}
use Rattle.cycle.proofs.Way.{ends, from, give_row, meanwhile, next, next_leaf, next_left, spends, stand, stand_at, to, ◌▹◌}
use Rattle.cycle.specs.Cycle.{AskBody, AskRow, LowersBody, LowersRow, Ready}
use Rattle.forward.proofs.Chains.{body_chain}
use Rattle.forward.proofs.FunctionsForward.{rows}
use Rattle.forward.specs.Forward.{end_body, fwd_unit}
use Rattle.meaning.specs.At.{count_of, stmts_at}
use Rattle.meaning.specs.Fields.{fields}
use Rattle.meaning.specs.State.{enter_block}
use Rattle.meaning.specs.Weight.{size_stmts}
use Rattle.store.proofs.Around.{block_around}
use Rattle.store.proofs.Leaving.{left_runs}
use Rattle.store.proofs.Compose.{known, leaf_after}
use Rattle.store.specs.Promise.{Leaf, Popped, Space, nothing, uses}
use Rattle.store.specs.Store.{Fine, Kept, Sound, block_of, deeper, mode_of, nodes_of, outcome_of, pc_of, result_of, while_going}
use Rattle.store.specs.declared.Scope.{Scope}
use Rattle.store.specs.declared.Step.{Step}
use mathlib.Core.List.{List}
use mathlib.Core.Path.{refl}
use native.Mathlib.Omega.{arith}

module _ {t w : List ℕ} {p : Scope} {s : Step} {i f e d : ℕ} (g : AskBody t w p s i f e d) where
  pub at_enter : Sound w p × (block_of p < nodes_of p + 10)
  at_enter = (g.0.ready.fine.sound, omega (arith, g.1, g.0.ready.fine.sound.deep))

  module _ {w1 : List ℕ} (k1 : Kept w (deeper p) w1) (d1 : Leaf w p s w1 (deeper p) s nothing (fwd_unit enter_block)) where
    pub inner_ready : Ready t w1 (deeper p) s (size_stmts (stmts_at (fields t) i f (count_of (fields t) i))) 2 0
    inner_ready =
        stand_at _ 2 0 (to (deeper p) refl refl (omega arith) (omega arith) (from g.0.ready) d1.moves) (omega arith) (omega arith) (omega arith) (omega (arith, g.1)) g.0.ready.loops

    pub stmts : AskRow t w1 (deeper p) s i f (count_of (fields t) i) d
    stmts = give_row (from inner_ready) g.0.known f (count_of (fields t) i) g.0.ends g.0.each (omega arith) (omega arith) (omega arith) (omega arith) g.0.behind

    module _ {o w2 o2 : List ℕ} {s2 : Step} (d2 : LowersRow t i f (count_of (fields t) i) w1 o (deeper p) s w2 o2 s2) where
      pub at_end : Fine w2 (deeper p) s2 × Space w2 (deeper p) s2 0 2 0 × while_going (outcome_of s2) (pc_of s ≤ pc_of s2) × while_going (outcome_of s2) (result_of s2 < 255)
      at_end =
          let y = stand 0 2 0 (from inner_ready ▹ d2.does.moves) (omega arith) (omega arith) (omega arith) (omega arith) in
          (y.fine, y.room, meanwhile (outcome_of s2) (pc_of s ≤ pc_of s2) (λ e. d2.does.moves.longer), d2.small g.3)

      module _ {w3 w4 : List ℕ} {s3 : Step} (d3 : Leaf w2 (deeper p) s2 w3 (deeper p) s3 (uses 2 0 0) (end_body (count_of (fields t) i - f) (pc_of s) i)) (d4 : Popped w3 p w4) where
        pub lowers : LowersBody t i f w o p s w4 o2 s3
        lowers =
            let m = (from inner_ready ▹ d2.does.moves ▹ d3.moves).moves in
            record {
              moves = spends _ 0 _ (omega arith) (omega arith) (omega arith) (λ z. refl) (omega arith) (from g.0.ready ▹ block_around g.0.ready.fine k1 d1.moves m d4);
              same = d2.does.same;
              does = λ ps z.
                  let a1 = leaf_after d1 o ps z in
                  let a2 = next a1 d2.does in
                  let a3 = next_leaf a2 d3 in
                  let a4 = next_left a3 (left_runs m.fine d4) in
                  let h = rw (stmts_count (fields t) i f (count_of (fields t) i) g.0.ends) at (rows (mode_of p) (stmts_at (fields t) i f (count_of (fields t) i))) in
                  ends a4 (body_chain _ _ _ h _ _ (known _ _ _ ps) _ a1.runs _ a2.runs _ a3.runs _ a4.runs);
            }
