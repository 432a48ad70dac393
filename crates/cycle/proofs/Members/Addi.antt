-- fn binary_literal at Plus: the left side, a register, Addi.
use Prim.Native.Nat.{ℕ, ◌<◌}
use Rattle.store.specs.Cell.{Bytes}
use Rattle.cycle.proofs.Sizes.{binary_size}
use Rattle.cycle.proofs.Way.{arrive, ends, fits, from, give_expr, keeps, next_leaf, small, stand, ◌▹◌}
use Rattle.cycle.specs.Cycle.{AskExpr, GivenExpr, LowersAddi, LowersExpr}
use Rattle.forward.proofs.Chains.{addi_chain}
use Rattle.forward.specs.Forward.{emit, fwd_number, sure}
use Rattle.meaning.proofs.Reading.{Binary}
use Rattle.meaning.specs.At.{word_of}
use Rattle.meaning.specs.Fields.{fields}
use Rattle.meaning.specs.Opcode.{Addi, inst}
use Rattle.meaning.specs.State.{next_register}
use Rattle.store.proofs.Compose.{known}
use Rattle.store.proofs.Runs.{due}
use Rattle.store.specs.Promise.{Leaf, Space, a_register, uses}
use Rattle.store.specs.Store.{Fine, outcome_of, result_of, while_going}
use Rattle.store.specs.declared.Scope.{Scope}
use Rattle.store.specs.declared.Step.{Step}
use mathlib.Core.List.{List}
use mathlib.Core.Path.{refl}
use native.Mathlib.Omega.{arith}

module _ {t w : List ℕ} {p : Scope} {s : Step} {i : ℕ} (g : GivenExpr t w p s i) (x : Binary (fields t) i) where
  pub left : AskExpr t w p s (word_of (fields t) i 2)
  left = let n = binary_size x in give_expr (from g.ready) g.known x.left (omega arith) (omega arith) (omega arith) (omega arith)

  module _ {o w1 o1 : List ℕ} {s1 : Step} (d1 : LowersExpr t (word_of (fields t) i 2) w o p s w1 o1 s1) where
    module _ {w2 : List ℕ} {s2 : Step} (d2 : Leaf w1 p s1 w2 p s2 a_register (fwd_number (next_register i)) × (result_of s2 < 255)) where
      pub at_emit : (k : ℕ) → k < 256 → Fine w2 p s2 × Space w2 p s2 0 2 0 × while_going (outcome_of s2) (Bytes 36 (result_of s2) (result_of s1) k)
      at_emit k h =
          let n = binary_size x in
          let y = stand 0 2 0 (from g.ready ▹ d1.does.moves ▹ d2.0.moves) (omega arith) (omega arith) (omega arith) (omega arith) in (
            y.fine,
            y.room,
            fits (outcome_of s2) 36 (result_of s2) (result_of s1) k λ e.
                let v1 = due (outcome_of s1) d1.small (d2.0.moves.back e) in
                (omega arith, omega (arith, d2.1), omega arith, h),
          )

      module _ {k : ℕ} {w3 : List ℕ} {s3 : Step} (d3 : Leaf w2 p s2 w3 p s3 (uses 2 0 0) (sure (emit (inst Addi (result_of s2) (result_of s1) k (word_of (fields t) i 1))))) where
        pub lowers : LowersAddi t i k w o p s w3 o1 s3
        lowers =
            arrive _ _ _ (from g.ready ▹ d1.does.moves ▹ d2.0.moves ▹ d3.moves) (omega (arith, binary_size x)) (omega arith) (omega arith) (λ z. refl) (omega arith)
            d1.does.same (keeps d3 (λ c. refl) (small s2 d2.1)) λ ps z.
            let a1 = d1.does.does ps z in
            let a2 = next_leaf a1 d2.0 in
            let a3 = next_leaf a2 d3 in
            ends a3 (addi_chain _ _ _ _ _ _ a1.runs _ (known _ _ _ a1.protos) _ a2.runs _ (known _ _ _ a2.protos) _ a3.runs)
