-- fn visit_unary_expr: the operand, then Not or Neg of its register.
use Prim.Native.Nat.{ℕ, ◌<◌}
use Rattle.store.specs.Cell.{Bytes}
use Rattle.cycle.proofs.Visited.{unary_visits}
use Rattle.cycle.proofs.Sizes.{unary_size}
use Rattle.cycle.proofs.Way.{arrive, ends, fits, from, give_expr, keeps, next_leaf, stand, ◌▹◌}
use Rattle.cycle.specs.Cycle.{AskExpr, GivenExpr, LowersExpr, UnderExpr}
use Rattle.forward.proofs.Chains.{unary_chain}
use Rattle.forward.specs.Forward.{emit, sure}
use Rattle.meaning.proofs.Reading.{Unary}
use Rattle.meaning.specs.At.{word_of}
use Rattle.meaning.specs.Fields.{fields}
use Rattle.meaning.specs.Lower.{lower_expr}
use Rattle.meaning.specs.Opcode.{inst, unary_opcode}
use Rattle.store.proofs.Compose.{known}
use Rattle.store.proofs.Runs.{due}
use Rattle.store.specs.Promise.{Leaf, Space, uses}
use Rattle.store.specs.Store.{Fine, outcome_of, result_of, while_going}
use Rattle.store.specs.declared.Scope.{Scope}
use Rattle.store.specs.declared.Step.{Step}
use mathlib.Core.List.{List}
use mathlib.Core.Path.{refl}
use native.Mathlib.Omega.{arith}

module _ {t w : List ℕ} {p : Scope} {s : Step} {i : ℕ} (g : GivenExpr t w p s i) (x : Unary (fields t) i) where
  pub operand : AskExpr t w p s (word_of (fields t) i 2)
  operand = let n = unary_size x in give_expr (from g.ready) g.known x.operand (omega arith) (omega arith) (omega arith) (omega arith)

  module _ {o w1 o1 : List ℕ} {s1 : Step} (d1 : LowersExpr t (word_of (fields t) i 2) w o p s w1 o1 s1) where
    pub at_emit : (op : ℕ) → op < 256 → Fine w1 p s1 × Space w1 p s1 0 2 0 × while_going (outcome_of s1) (Bytes op (result_of s1) (result_of s1) 0)
    at_emit op h =
        let n = unary_size x in
        let y = stand 0 2 0 (from g.ready ▹ d1.does.moves) (omega arith) (omega arith) (omega arith) (omega arith) in
        (y.fine, y.room, fits (outcome_of s1) op (result_of s1) (result_of s1) 0 λ e. let v = due (outcome_of s1) d1.small e in (h, omega arith, omega arith, omega arith))

    module _ {w2 : List ℕ} {s2 : Step} (d2 : Leaf w1 p s1 w2 p s2 (uses 2 0 0) (sure (emit (inst (unary_opcode (word_of (fields t) i 0)) (result_of s1) (result_of s1) 0 (word_of (fields t) i 1))))) where
      pub lowers : UnderExpr t i w o p s w2 o1 s2
      unfolding lower_expr
      lowers =
          arrive _ _ _ (from g.ready ▹ d1.does.moves ▹ d2.moves) (omega (arith, unary_size x)) (omega arith) (omega arith) (λ z. refl) (omega (arith, unary_visits x))
          d1.does.same (keeps d2 (λ c. refl) d1.small) λ ps z.
          let a1 = d1.does.does ps z in
          let a2 = next_leaf a1 d2 in
          ends a2 (rw x.is (unary_chain _ _ _ _ _ _ a1.runs _ (known _ _ _ a1.protos) _ a2.runs))
