-- fn visit_call_expr: the callee, which is moved to a register of its own, the arguments in the registers after it, the Call.
use Prim.Native.Nat.{ℕ, ◌*◌, ◌+◌, ◌-◌, ◌<◌, ◌≤◌}
use Rattle.cycle.proofs.Visited.{call_visits}
use Rattle.cycle.proofs.Sizes.{call_size}
use Rattle.cycle.proofs.Way.{arrive, ends, few_results, from, give_expr, meanwhile, next, next_leaf, stand, ◌▹◌}
use Rattle.cycle.specs.Cycle.{AskArguments, AskExpr, GivenExpr, LowersArguments, LowersExpr, UnderExpr}
use Rattle.forward.proofs.Chains.{call_chain}
use Rattle.forward.specs.Forward.{end_call, open_call}
use Rattle.meaning.proofs.Rows.{arguments_at}
use Rattle.meaning.specs.At.{Behind, count_of, word_of}
use Rattle.meaning.specs.Fields.{fields}
use Rattle.meaning.specs.Lower.{lower_expr}
use Rattle.routines.specs.Pieces.{Small}
use Rattle.store.proofs.Compose.{known}
use Rattle.store.proofs.Runs.{due}
use Rattle.store.specs.Promise.{Leaf, Space, a_register, both, some_registers, uses}
use Rattle.store.specs.Store.{Fine, outcome_of, result_of, while_going, wide_of}
use Rattle.store.specs.declared.Scope.{Scope}
use Rattle.store.specs.declared.Step.{Step}
use mathlib.Core.List.{List}
use mathlib.Core.Path.{refl, ◌∙◌}
use native.Mathlib.Omega.{arith}
use Rattle.meaning.proofs.Reading as reading

module _ {t w : List ℕ} {p : Scope} {s : Step} {i : ℕ} (g : GivenExpr t w p s i) (x : reading.Call (fields t) i) where
  pub callee : AskExpr t w p s (word_of (fields t) i 0)
  callee = let n = call_size x in give_expr (from g.ready) g.known x.callee (omega arith) (omega arith) (omega arith) (omega arith)

  module _ {o w1 o1 : List ℕ} {s1 : Step} (d1 : LowersExpr t (word_of (fields t) i 0) w o p s w1 o1 s1) where
    pub at_open : count_of (fields t) i - 2 < 65536 → Fine w1 p s1 × Space w1 p s1 0 2 0 × (count_of (fields t) i - 2 < 65536) × while_going (outcome_of s1) (result_of s1 < 256)
    at_open h =
        let n = call_size x in
        let y = stand 0 2 0 (from g.ready ▹ d1.does.moves) (omega arith) (omega arith) (omega arith) (omega arith) in
        (y.fine, y.room, h, meanwhile (outcome_of s1) (result_of s1 < 256) λ e. let v = due (outcome_of s1) d1.small e in omega arith)

    module _ {w2 : List ℕ} {s2 : Step} (d2 : Leaf w1 p s1 w2 p s2 (both (some_registers (2 + (count_of (fields t) i - 2 - 1))) (uses 2 0 0)) (open_call i (count_of (fields t) i - 2) (word_of (fields t) i 1)))
        (h2 : while_going (outcome_of s2) (result_of s2 + (count_of (fields t) i - 2) < 255)) where
      pub given : Behind (fields t) i 2 (wide_of p) → AskArguments t w2 p s2 i (result_of s2 + 1)
      given b =
          let n = call_size x in (
            record {
              ready = stand _ (2 * (count_of (fields t) i - 2)) 0 (from g.ready ▹ d1.does.moves ▹ d2.moves) (omega arith) (omega arith) (omega arith) (omega arith);
              known = g.known;
              ends = omega arith;
              each = x.argument;
              behind = b;
            },
            omega (arith, few_results d2.moves.fine),
            meanwhile (outcome_of s2) (result_of s2 + 1 + (count_of (fields t) i - 2) ≤ 255) λ e. let v = due (outcome_of s2) h2 e in omega arith,
          )

      module _ {w3 o3 : List ℕ} {s3 : Step} (d3 : LowersArguments t i (result_of s2 + 1) w2 o1 p s2 w3 o3 s3) where
        pub at_end : Fine w3 p s3 × Space w3 p s3 0 2 0 × while_going (outcome_of s3) ((count_of (fields t) i - 2 < 255) × (result_of s2 < 256))
        at_end =
            let n = call_size x in
            let y = stand 0 2 0 (from g.ready ▹ d1.does.moves ▹ d2.moves ▹ d3.does.moves) (omega arith) (omega arith) (omega arith) (omega arith) in (
              y.fine,
              y.room,
              meanwhile (outcome_of s3) ((count_of (fields t) i - 2 < 255) × (result_of s2 < 256)) λ e.
                  let v = due (outcome_of s2) h2 (d3.does.moves.back e) in
                  (omega arith, omega arith),
            )

        module _ {w4 : List ℕ} {s4 : Step} (d4 : Leaf w3 p s3 w4 p s4 (both a_register (uses 2 0 0)) (end_call i (count_of (fields t) i - 2) (result_of s2) (word_of (fields t) i 1))) (h4 : Small s4) where
          pub lowers : UnderExpr t i w o p s w4 o3 s4
          unfolding lower_expr
          lowers =
              let n = call_size x in
              arrive _ _ _ (from g.ready ▹ d1.does.moves ▹ d2.moves ▹ d3.does.moves ▹ d4.moves) (omega arith) (omega arith) (omega arith) (λ z. refl) (omega (arith, call_visits x))
              (d3.does.same ∙ d1.does.same) h4 λ ps z.
              let a1 = d1.does.does ps z in
              let a2 = next_leaf a1 d2 in
              let a3 = next a2 d3.does in
              let a4 = next_leaf a3 d4 in
              ends a4 (rw (x.is, arguments_at (fields t) i 2 (count_of (fields t) i) (omega arith))
              (call_chain _ _ _ _ _ _ _ a1.runs _ a2.runs _ (known _ _ _ a2.protos) _ a3.runs _ a4.runs))
