-- fn visit_while_stmt: the condition, a jump out, the body in a loop, a jump back, and the jumps of the whole.
use Prim.Native.Nat.{ℕ, ◌+◌, ◌<◌, ◌≤◌}
use Rattle.cycle.proofs.Visited.{while_visits}
use Rattle.cycle.proofs.Sizes.{while_size}
use Rattle.cycle.proofs.Way.{adds, arrive, ends, from, give_expr, give_looped, meanwhile, next, next_leaf, sets, stand, twice, ◌▹◌}
use Rattle.cycle.specs.Cycle.{AskExpr, AskStmt, GivenStmt, LowersExpr, LowersStmt, UnderStmt}
use Rattle.forward.proofs.Chains.{while_chain}
use Rattle.forward.specs.Forward.{end_loop, sure, test_and_jump}
use Rattle.meaning.proofs.Reading.{While}
use Rattle.meaning.specs.At.{word_of}
use Rattle.meaning.specs.Fields.{fields}
use Rattle.meaning.specs.Lower.{lower_expr}
use Rattle.store.proofs.Around.{loop_around, loop_entered, loop_left}
use Rattle.store.proofs.Compose.{known}
use Rattle.store.proofs.Runs.{due}
use Rattle.store.specs.Promise.{Leaf, Space, uses}
use Rattle.store.specs.Store.{Fine, looped, loops_of, mode_of, nodes_of, outcome_of, pc_of, result_of, while_going}
use Rattle.store.specs.declared.Scope.{Scope}
use Rattle.store.specs.declared.Step.{Step}
use mathlib.Core.List.{List}
use mathlib.Core.Path.{refl, ◌∙◌}
use native.Mathlib.Omega.{arith}

module _ {t w : List ℕ} {p : Scope} {s : Step} {i : ℕ} (g : GivenStmt t w p s i) (x : While (fields t) i) where
  pub condition : AskExpr t w p s (word_of (fields t) i 1)
  condition = let n = while_size x in give_expr (from g.ready) g.known x.condition (omega arith) (omega arith) (omega arith) (omega arith)

  pub open_loops : loops_of p < nodes_of p + 10
  open_loops = let n = while_size x in omega (arith, g.ready.loops)

  module _ {o w1 o1 : List ℕ} {s1 : Step} (d1 : LowersExpr t (word_of (fields t) i 1) w o p s w1 o1 s1) where
    pub at_test : Fine w1 p s1 × Space w1 p s1 0 4 0 × while_going (outcome_of s1) ((result_of s1 < 256) × (0 < 256))
    at_test =
        let n = while_size x in
        let y = stand 0 4 0 (from g.ready ▹ d1.does.moves) (omega arith) (omega arith) (omega arith) (omega arith) in
        (y.fine, y.room, meanwhile (outcome_of s1) ((result_of s1 < 256) × (0 < 256)) λ e. let v = due (outcome_of s1) d1.small e in (omega arith, omega arith))

    module _ {w2 : List ℕ} {s2 : Step} (d2 : Leaf w1 p s1 w2 p s2 (uses 4 0 0) (sure (test_and_jump 0 (word_of (fields t) i 0)))) where
      pub body : AskStmt t w2 (looped p) s2 (word_of (fields t) i 2)
      body = let n = while_size x in give_looped (from g.ready ▹ d1.does.moves ▹ d2.moves) g.known x.body (omega arith) (omega arith) (omega arith) (omega arith)

      module _ {w3 o3 : List ℕ} {s3 : Step} (d3 : LowersStmt t (word_of (fields t) i 2) w2 o1 (looped p) s2 w3 o3 s3) where
        pub at_end : Fine w3 p s3 × Space w3 p s3 0 2 0 × while_going (outcome_of s3) ((pc_of s ≤ pc_of s3) × (pc_of s ≤ pc_of s3) × (pc_of s1 + 2 ≤ pc_of s3) × (result_of s1 < 256) × (pc_of s ≤ pc_of s))
        unfolding test_and_jump
        at_end =
            let n = while_size x in
            let m3 = loop_around p d2.moves.fine d3.does.moves in
            let y = stand 0 2 0 (from g.ready ▹ d1.does.moves ▹ d2.moves ▹ m3) (omega arith) (omega arith) (omega arith) (omega arith) in (
              y.fine,
              y.room,
              meanwhile (outcome_of s3) ((pc_of s ≤ pc_of s3) × (pc_of s ≤ pc_of s3) × (pc_of s1 + 2 ≤ pc_of s3) × (result_of s1 < 256) × (pc_of s ≤ pc_of s)) λ e.
                  let e2 = m3.back e in
                  let v1 = due (outcome_of s1) d1.small (d2.moves.back e2) in
                  let l = adds d2 2 (λ c. twice c.code _ _) e2 in
                  let a = d1.does.moves.longer in
                  let b = m3.longer in
                  (omega arith, omega arith, omega arith, omega arith, omega arith),
            )

        module _ {w4 : List ℕ} {s4 : Step} (d4 : Leaf w3 p s3 w4 p s4 (uses 2 0 0) (sure (end_loop (mode_of p) (pc_of s) (pc_of s) (pc_of s) (pc_of s1) (result_of s1) (word_of (fields t) i 0)))) where
          pub lowers : UnderStmt t i w o p s w4 o3 s4
          unfolding lower_expr end_loop
          lowers =
              let n = while_size x in
              let m3 = loop_around p d2.moves.fine d3.does.moves in
              arrive _ _ _ (from g.ready ▹ d1.does.moves ▹ d2.moves ▹ m3 ▹ d4.moves) (omega arith) (omega arith) (omega arith) (λ z. omega arith) (omega (arith, while_visits x))
              (d3.does.same ∙ d1.does.same) (sets d4 (result_of s1) (λ c. refl) (λ e. due (outcome_of s1) d1.small (d2.moves.back (m3.back (d4.moves.back e))))) λ ps z.
              let a1 = d1.does.does ps z in
              let a2 = next_leaf a1 d2 in
              let a3 = next_leaf a2 (loop_entered d2.moves.fine open_loops) in
              let a4 = next a3 d3.does in
              let a5 = next_leaf a4 (loop_left p d3.does.moves.fine) in
              let a6 = next_leaf a5 d4 in
              ends a6 (rw x.is (while_chain (mode_of p) _ _ _ _ _ _ (known _ _ _ ps) _ a1.runs _ (known _ _ _ a1.protos) _ a2.runs _ a3.runs _ a4.runs _ a5.runs _ a6.runs))
