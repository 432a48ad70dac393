-- fn visit_if_stmt: the condition, a jump past its statements, these, a jump to the end; the elifs; the statements of the else; the jumps to the end.
use Prim.Native.Nat.{ℕ, ◌+◌, ◌<◌, ◌≤◌}
use Rattle.cycle.proofs.Nodes.{behind_later}
use Rattle.cycle.proofs.Visited.{if_visits}
use Rattle.cycle.proofs.Sizes.{if_size}
use Rattle.cycle.proofs.Way.{adds, arrive, ends, from, give_expr, give_row, meanwhile, next, next_leaf, sets, stand, twice, ◌▹◌}
use Rattle.cycle.specs.Cycle.{AskElifs, AskExpr, AskRow, GivenStmt, LowersElifs, LowersExpr, LowersRow, UnderStmt}
use Rattle.forward.proofs.Chains.{if_chain}
use Rattle.forward.specs.Forward.{end_branch, end_if, sure, test_and_jump}
use Rattle.meaning.proofs.Reading.{If}
use Rattle.meaning.specs.At.{Behind, count_of, word_of}
use Rattle.meaning.specs.Fields.{fields}
use Rattle.meaning.specs.Lower.{lower_expr}
use Rattle.store.proofs.Compose.{known}
use Rattle.store.proofs.Runs.{due}
use Rattle.store.specs.Promise.{Leaf, Space, uses}
use Rattle.store.specs.Store.{Fine, outcome_of, pc_of, result_of, while_going}
use Rattle.store.specs.declared.Scope.{Scope}
use Rattle.store.specs.declared.Step.{Step}
use lib.Dec.{lit<}
use mathlib.Core.List.{List}
use mathlib.Core.Path.{refl, ◌∙◌, ◌≡◌}
use native.Mathlib.Omega.{arith}

module _ {t w : List ℕ} {p : Scope} {s : Step} {i n m : ℕ} (g : GivenStmt t w p s i) (x : If (fields t) i n m) where
  pub condition : AskExpr t w p s (word_of (fields t) i 1)
  condition = let z = if_size x in give_expr (from g.ready) g.known x.condition (omega arith) (omega arith) (omega arith) (omega arith)

  module _ {o w1 o1 : List ℕ} {s1 : Step} (d1 : LowersExpr t (word_of (fields t) i 1) w o p s w1 o1 s1) where
    pub at_test : Fine w1 p s1 × Space w1 p s1 0 4 0 × while_going (outcome_of s1) ((result_of s1 < 256) × (0 < 256))
    at_test =
        let z = if_size x in
        let y = stand 0 4 0 (from g.ready ▹ d1.does.moves) (omega arith) (omega arith) (omega arith) (omega arith) in
        (y.fine, y.room, meanwhile (outcome_of s1) ((result_of s1 < 256) × (0 < 256)) λ e. let v = due (outcome_of s1) d1.small e in (omega arith, omega arith))

    module _ {w2 : List ℕ} {s2 : Step} (d2 : Leaf w1 p s1 w2 p s2 (uses 4 0 0) (sure (test_and_jump 0 (word_of (fields t) i 0)))) where
      pub thens : {d : ℕ} → Behind (fields t) i 1 d → AskRow t w2 p s2 i 3 (3 + n) d
      thens b = let z = if_size x in give_row (from g.ready ▹ d1.does.moves ▹ d2.moves) g.known 3 (3 + n) (omega (arith, x.size)) x.then_each (omega arith) (omega arith) (omega arith) (omega arith) (behind_later 3 (omega arith) b)

      module _ {w3 o3 : List ℕ} {s3 : Step} (d3 : LowersRow t i 3 (3 + n) w2 o1 p s2 w3 o3 s3) where
        pub at_branch : Fine w3 p s3 × Space w3 p s3 0 2 0 × while_going (outcome_of s3) (pc_of s1 + 2 ≤ pc_of s3)
        unfolding test_and_jump
        at_branch =
            let z = if_size x in
            let y = stand 0 2 0 (from g.ready ▹ d1.does.moves ▹ d2.moves ▹ d3.does.moves) (omega arith) (omega arith) (omega arith) (omega arith) in (
              y.fine,
              y.room,
              meanwhile (outcome_of s3) (pc_of s1 + 2 ≤ pc_of s3) λ e.
                  let l = adds d2 2 (λ c. twice c.code _ _) (d3.does.moves.back e) in
                  omega (arith, d3.does.moves.longer),
            )

        module _ {w4 : List ℕ} {s4 : Step} (d4 : Leaf w3 p s3 w4 p s4 (uses 2 0 0) (sure (end_branch (pc_of s1) (word_of (fields t) i 0)))) where
          pub others : {d : ℕ} → Behind (fields t) i 1 d → AskElifs t w4 p s4 i (4 + n) (4 + n + m) d
          others b =
              let z = if_size x in
              record {
                ready = stand _ 0 0 (from g.ready ▹ d1.does.moves ▹ d2.moves ▹ d3.does.moves ▹ d4.moves) (omega arith) (omega arith) (omega arith) (omega arith);
                known = g.known;
                ends = x.size;
                each = x.elif_each;
                behind = behind_later (4 + n) (omega arith) b;
              }

          module _ {w5 o5 : List ℕ} {s5 : Step} (d5 : LowersElifs t i (4 + n) (4 + n + m) w4 o3 p s4 w5 o5 s5) where
            pub elses : {d : ℕ} → Behind (fields t) i 1 d → AskRow t w5 p s5 i (4 + n + m) (count_of (fields t) i) d
            elses b =
                let z = if_size x in
                give_row (from g.ready ▹ d1.does.moves ▹ d2.moves ▹ d3.does.moves ▹ d4.moves ▹ d5.does.moves) g.known (4 + n + m) _ (omega arith) x.else_each (omega arith) (omega arith) (omega arith) (omega arith) (behind_later (4 + n + m) (omega arith) b)

            module _ {w6 o6 : List ℕ} {s6 : Step} (d6 : LowersRow t i (4 + n + m) (count_of (fields t) i) w5 o5 p s5 w6 o6 s6) where
              pub at_end : Fine w6 p s6 × while_going (outcome_of s6) (pc_of s ≤ pc_of s6)
              at_end =
                  let y = (from g.ready ▹ d1.does.moves ▹ d2.moves ▹ d3.does.moves ▹ d4.moves ▹ d5.does.moves ▹ d6.does.moves).moves in
                  (y.fine, meanwhile (outcome_of s6) (pc_of s ≤ pc_of s6) λ e. y.longer)

              module _ {w7 : List ℕ} {s7 : Step} (d7 : Leaf w6 p s6 w7 p s7 (uses 0 0 0) (sure (end_if (pc_of s)))) where
                pub lowers : UnderStmt t i w o p s w7 o6 s7
                unfolding lower_expr end_if
                lowers =
                    let z = if_size x in
                    arrive _ _ _ (from g.ready ▹ d1.does.moves ▹ d2.moves ▹ d3.does.moves ▹ d4.moves ▹ d5.does.moves ▹ d6.does.moves ▹ d7.moves) (omega arith) (omega arith) (omega arith) (λ e. omega arith) (omega (arith, if_visits x))
                    (d6.does.same ∙ d5.does.same ∙ d3.does.same ∙ d1.does.same) (sets d7 0 (λ c. refl) (λ e. lit< tt)) λ ps y.
                    let a1 = d1.does.does ps y in
                    let a2 = next_leaf a1 d2 in
                    let a3 = next a2 d3.does in
                    let a4 = next_leaf a3 d4 in
                    let a5 = next a4 d5.does in
                    let a6 = next a5 d6.does in
                    let a7 = next_leaf a6 d7 in
                    ends a7 (rw x.is (if_chain _ _ _ _ _ _ _ _ (known _ _ _ ps) _ a1.runs _ (known _ _ _ a1.protos) _ a2.runs _ a3.runs _ a4.runs _ a5.runs _ a6.runs _ a7.runs))

-- the word after the statements says how many elifs follow
pub after_thens : (n : ℕ) → 3 + n + 1 ≡ 4 + n
after_thens n = omega arith
