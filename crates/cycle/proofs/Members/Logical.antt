-- fn visit_logical_expr: the left side, a jump past the right side, the right side, which is moved to the left side's register.
use Prim.Native.Nat.{ℕ, ◌+◌, ◌<◌, ◌≤◌}
use Rattle.cycle.proofs.Visited.{logical_visits}
use Rattle.cycle.proofs.Sizes.{logical_size}
use Rattle.cycle.proofs.Way.{adds, arrive, ends, from, give_expr, meanwhile, next, next_leaf, sets, stand, twice, ◌▹◌}
use Rattle.cycle.specs.Cycle.{AskExpr, GivenExpr, LowersExpr, UnderExpr}
use Rattle.forward.proofs.Chains.{logical_chain}
use Rattle.forward.specs.Forward.{end_logical, sure, test_and_jump}
use Rattle.meaning.proofs.Reading.{Logical}
use Rattle.meaning.specs.At.{word_of}
use Rattle.meaning.specs.Expressions.{or_flag}
use Rattle.meaning.specs.Fields.{fields}
use Rattle.meaning.specs.Lower.{lower_expr}
use Rattle.meaning.specs.Opcode.{or}
use Rattle.store.proofs.Compose.{known}
use Rattle.store.proofs.Runs.{due}
use Rattle.store.specs.Promise.{Leaf, Space, uses}
use Rattle.store.specs.Store.{Fine, outcome_of, pc_of, result_of, while_going}
use Rattle.store.specs.declared.Scope.{Scope}
use Rattle.store.specs.declared.Step.{Step}
use lib.Dec.{eqb}
use mathlib.Core.List.{List}
use mathlib.Core.Path.{refl, ◌∙◌}
use native.Mathlib.Omega.{arith}

module _ {t w : List ℕ} {p : Scope} {s : Step} {i : ℕ} (g : GivenExpr t w p s i) (x : Logical (fields t) i) where
  pub left : AskExpr t w p s (word_of (fields t) i 2)
  left = let n = logical_size x in give_expr (from g.ready) g.known x.left (omega arith) (omega arith) (omega arith) (omega arith)

  module _ {o w1 o1 : List ℕ} {s1 : Step} (d1 : LowersExpr t (word_of (fields t) i 2) w o p s w1 o1 s1) where
    pub at_test : (flag : ℕ) → flag < 256 → Fine w1 p s1 × Space w1 p s1 0 4 0 × while_going (outcome_of s1) ((result_of s1 < 256) × (flag < 256))
    at_test flag h =
        let n = logical_size x in
        let y = stand 0 4 0 (from g.ready ▹ d1.does.moves) (omega arith) (omega arith) (omega arith) (omega arith) in
        (y.fine, y.room, meanwhile (outcome_of s1) ((result_of s1 < 256) × (flag < 256)) λ e. let v = due (outcome_of s1) d1.small e in (omega arith, h))

    module _ {w2 : List ℕ} {s2 : Step} (d2 : Leaf w1 p s1 w2 p s2 (uses 4 0 0) (sure (test_and_jump (or_flag (eqb (word_of (fields t) i 0) or)) (word_of (fields t) i 1)))) where
      pub right : AskExpr t w2 p s2 (word_of (fields t) i 3)
      right =
          let n = logical_size x in
          give_expr (from g.ready ▹ d1.does.moves ▹ d2.moves) g.known x.right (omega arith) (omega arith) (omega arith) (omega arith)

      module _ {w3 o3 : List ℕ} {s3 : Step} (d3 : LowersExpr t (word_of (fields t) i 3) w2 o1 p s2 w3 o3 s3) where
        pub at_end : Fine w3 p s3 × Space w3 p s3 0 2 0 × while_going (outcome_of s3) ((pc_of s1 + 2 ≤ pc_of s3) × (result_of s1 < 256) × (result_of s3 < 256))
        unfolding test_and_jump
        at_end =
            let n = logical_size x in
            let y = stand 0 2 0 (from g.ready ▹ d1.does.moves ▹ d2.moves ▹ d3.does.moves) (omega arith) (omega arith) (omega arith) (omega arith) in (
              y.fine,
              y.room,
              meanwhile (outcome_of s3) ((pc_of s1 + 2 ≤ pc_of s3) × (result_of s1 < 256) × (result_of s3 < 256)) λ e.
                  let e2 = d3.does.moves.back e in
                  let v1 = due (outcome_of s1) d1.small (d2.moves.back e2) in
                  let v3 = due (outcome_of s3) d3.small e in
                  let l = adds d2 2 (λ c. twice c.code _ _) e2 in
                  (omega (arith, d3.does.moves.longer), omega arith, omega arith),
            )

        module _ {w4 : List ℕ} {s4 : Step} (d4 : Leaf w3 p s3 w4 p s4 (uses 2 0 0) (sure (end_logical (pc_of s1) (result_of s1) (word_of (fields t) i 1)))) where
          pub lowers : UnderExpr t i w o p s w4 o3 s4
          unfolding lower_expr end_logical
          lowers =
              arrive _ _ _ (from g.ready ▹ d1.does.moves ▹ d2.moves ▹ d3.does.moves ▹ d4.moves) (omega (arith, logical_size x)) (omega arith) (omega arith) (λ z. refl) (omega (arith, logical_visits x))
              (d3.does.same ∙ d1.does.same) (sets d4 (result_of s1) (λ c. refl) (λ e. due (outcome_of s1) d1.small (d2.moves.back (d3.does.moves.back (d4.moves.back e))))) λ ps z.
              let a1 = d1.does.does ps z in
              let a2 = next_leaf a1 d2 in
              let a3 = next a2 d3.does in
              let a4 = next_leaf a3 d4 in
              ends a4 (rw x.is (logical_chain _ _ _ _ _ _ _ a1.runs _ (known _ _ _ a1.protos) _ a2.runs _ a3.runs _ a4.runs))
