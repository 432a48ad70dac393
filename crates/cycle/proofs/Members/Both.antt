-- fn visit_binary_expr, after the immediate forms: the left side, the right side, a register, the operator.
use Prim.Native.Nat.{ℕ, ◌<◌}
use Rattle.store.specs.Cell.{Bytes}
use Rattle.cycle.proofs.Sizes.{binary_size}
use Rattle.cycle.proofs.Way.{arrive, ends, fits, from, give_expr, keeps, next, next_leaf, small, stand, ◌▹◌}
use Rattle.cycle.specs.Cycle.{AskExpr, GivenExpr, LowersBoth, LowersExpr}
use Rattle.forward.proofs.Chains.{both_chain}
use Rattle.forward.specs.Forward.{emit, fwd_number, sure}
use Rattle.meaning.proofs.Reading.{Binary}
use Rattle.meaning.specs.At.{word_of}
use Rattle.meaning.specs.Fields.{fields}
use Rattle.meaning.specs.Opcode.{binary_opcode, inst}
use Rattle.meaning.specs.State.{next_register}
use Rattle.store.proofs.Compose.{known}
use Rattle.store.proofs.Runs.{due}
use Rattle.store.specs.Promise.{Leaf, Space, a_register, uses}
use Rattle.store.specs.Store.{Fine, outcome_of, result_of, while_going}
use Rattle.store.specs.declared.Scope.{Scope}
use Rattle.store.specs.declared.Step.{Step}
use mathlib.Core.List.{List}
use mathlib.Core.Path.{refl, ◌∙◌}
use native.Mathlib.Omega.{arith}

module _ {t w : List ℕ} {p : Scope} {s : Step} {i : ℕ} (g : GivenExpr t w p s i) (x : Binary (fields t) i) where
  pub left : AskExpr t w p s (word_of (fields t) i 2)
  left = let n = binary_size x in give_expr (from g.ready) g.known x.left (omega arith) (omega arith) (omega arith) (omega arith)

  module _ {o w1 o1 : List ℕ} {s1 : Step} (d1 : LowersExpr t (word_of (fields t) i 2) w o p s w1 o1 s1) where
    pub right : AskExpr t w1 p s1 (word_of (fields t) i 3)
    right = let n = binary_size x in give_expr (from g.ready ▹ d1.does.moves) g.known x.right (omega arith) (omega arith) (omega arith) (omega arith)

    module _ {w2 o2 : List ℕ} {s2 : Step} (d2 : LowersExpr t (word_of (fields t) i 3) w1 o1 p s1 w2 o2 s2) where
      module _ {w3 : List ℕ} {s3 : Step} (d3 : Leaf w2 p s2 w3 p s3 a_register (fwd_number (next_register i)) × (result_of s3 < 255)) where
        pub at_emit : (op : ℕ) → op < 256 → Fine w3 p s3 × Space w3 p s3 0 2 0 × while_going (outcome_of s3) (Bytes op (result_of s3) (result_of s1) (result_of s2))
        at_emit op h =
            let n = binary_size x in
            let y = stand 0 2 0 (from g.ready ▹ d1.does.moves ▹ d2.does.moves ▹ d3.0.moves) (omega arith) (omega arith) (omega arith) (omega arith) in (
              y.fine,
              y.room,
              fits (outcome_of s3) op (result_of s3) (result_of s1) (result_of s2) λ e.
                  let e2 = d3.0.moves.back e in
                  let v2 = due (outcome_of s2) d2.small e2 in
                  let v1 = due (outcome_of s1) d1.small (d2.does.moves.back e2) in
                  (h, omega (arith, d3.1), omega arith, omega arith),
            )

        module _ {w4 : List ℕ} {s4 : Step} (d4 : Leaf w3 p s3 w4 p s4 (uses 2 0 0) (sure (emit (inst (binary_opcode (word_of (fields t) i 0)) (result_of s3) (result_of s1) (result_of s2) (word_of (fields t) i 1))))) where
          pub lowers : LowersBoth t i w o p s w4 o2 s4
          lowers =
              arrive _ _ _ (from g.ready ▹ d1.does.moves ▹ d2.does.moves ▹ d3.0.moves ▹ d4.moves) (omega (arith, binary_size x)) (omega arith) (omega arith) (λ z. refl) (omega arith)
              (d2.does.same ∙ d1.does.same) (keeps d4 (λ c. refl) (small s3 d3.1)) λ ps z.
              let a1 = d1.does.does ps z in
              let a2 = next a1 d2.does in
              let a3 = next_leaf a2 d3.0 in
              let a4 = next_leaf a3 d4 in
              ends a4 (both_chain _ _ _ _ _ _ _ a1.runs _ (known _ _ _ a1.protos) _ a2.runs _ (known _ _ _ a2.protos) _ a3.runs _ (known _ _ _ a3.protos) _ a4.runs)
