-- fn visit_classic_for_stmt: the initializer, the condition, a jump out, the body in a loop, the increment, a jump back, and the jumps of the whole.
use Prim.Native.Nat.{ℕ, ◌+◌, ◌<◌, ◌≤◌}
use Rattle.cycle.proofs.Sizes.{for_size}
use Rattle.cycle.proofs.Way.{adds, arrive, ends, from, give_expr, give_looped, give_row, meanwhile, next, next_leaf, sets, stand, twice, ◌▹◌}
use Rattle.cycle.proofs.Visited.{for_visits}
use Rattle.meaning.specs.Visits.{under_stmt, visits_expr, visits_stmt, visits_stmts}
use Rattle.cycle.specs.Cycle.{AskExpr, AskRow, AskStmt, GivenStmt, LowersExpr, LowersRow, LowersStmt, UnderStmt}
use Rattle.forward.proofs.Chains.{for_chain}
use Rattle.forward.specs.Forward.{end_loop, sure, test_and_jump}
use Rattle.meaning.proofs.Reading.{For}
use Rattle.meaning.proofs.Rows.{init_none, init_some, stmts_more, stmts_none}
use Rattle.meaning.specs.At.{Behind, StmtBelow, expr_at, init_at, stmt_at, stmts_at, word_of}
use Rattle.meaning.specs.Fields.{Field, fields}
use Rattle.meaning.specs.Grammar.{absent}
use Rattle.meaning.specs.Lower.{lower_expr}
use Rattle.meaning.specs.Weight.{size_expr, size_stmt, size_stmts}
use Rattle.store.proofs.Around.{loop_around, loop_entered, loop_left}
use Rattle.nodes.specs.Nodes.{unless_absent}
use Rattle.std.specs.Prelude.{None, Some, is_none}
use Rattle.store.proofs.Compose.{known}
use Rattle.store.proofs.Runs.{due}
use Rattle.store.specs.Promise.{Leaf, Space, uses}
use Rattle.store.specs.Store.{Fine, looped, loops_of, mode_of, nodes_of, outcome_of, pc_of, result_of, while_going}
use Rattle.store.specs.declared.Scope.{Scope}
use Rattle.store.specs.declared.Step.{Step}
use borrow.Author.Tests.{eqb-false, eqb-true}
use lib.Dec.{lit<}
use mathlib.Core.Bool.{Bool, cond, false, true}
use mathlib.Core.List.{List}
use mathlib.Core.Path.{refl, sym, ◌∙◌, ◌≡◌}
use native.Mathlib.Omega.{arith}

-- where the row of the initializer ends: it is word 1, or absent
abbrev pub until : List Field → ℕ → ℕ
until fs i = cond (absent (word_of fs i 1)) 1 2

pub one_or_two : (n : ℕ) → ◌≡◌ {A = ℕ} (cond (is_none (unless_absent n)) 1 2) (cond (absent n) 1 2)
one_or_two n = by (absent n)
  where
    by : (b : Bool) → ◌≡◌ {A = ℕ} (cond (is_none (cond b None (Some n))) 1 2) (cond b 1 2)
    by true = refl
    by false = refl

module _ {fs : List Field} {i : ℕ} (x : For fs i) where
  pub initializer_is : (b : Bool) → absent (word_of fs i 1) ≡ b → init_at fs (word_of fs i 1) ≡ stmts_at fs i 1 (cond b 1 2)
  initializer_is true e = rw (eqb-true (word_of fs i 1) 65535 e, stmts_none fs i 1 1 (omega arith)) (init_none fs)
  initializer_is false e = init_some fs (word_of fs i 1) (eqb-false (word_of fs i 1) 65535 e) ∙ sym (rw (stmts_more fs i 1 2 (omega arith) (omega (arith, x.size)), stmts_none fs i 2 2 (omega arith)))

  pub ends_by : (b : Bool) → cond b 1 2 ≤ 2
  ends_by true = omega arith
  ends_by false = omega arith

  pub initializer_each : (b : Bool) → absent (word_of fs i 1) ≡ b → (j : ℕ) → 1 ≤ j → j < cond b 1 2 → StmtBelow fs i (word_of fs i j)
  initializer_each true e j l h = absurd (omega arith)
  initializer_each false e j l h = let z : j ≡ 1 = omega arith in rw z (x.initializer (eqb-false (word_of fs i 1) 65535 e))

  pub for_size_of : size_stmt (stmt_at fs i) ≡ 1 + (size_stmts (stmts_at fs i 1 (until fs i)) + (size_expr (expr_at fs (word_of fs i 2)) + (size_expr (expr_at fs (word_of fs i 3)) + size_stmt (stmt_at fs (word_of fs i 4)))))
  for_size_of = rw (initializer_is _ refl) at (for_size x)

  pub for_visits_of : under_stmt (stmt_at fs i) ≡ visits_stmts (stmts_at fs i 1 (until fs i)) + (visits_expr (expr_at fs (word_of fs i 2)) + (visits_expr (expr_at fs (word_of fs i 3)) + visits_stmt (stmt_at fs (word_of fs i 4))))
  for_visits_of = rw (initializer_is _ refl) at (for_visits x)

module _ {t w : List ℕ} {p : Scope} {s : Step} {i : ℕ} (g : GivenStmt t w p s i) (x : For (fields t) i) where
  pub first : {d : ℕ} → Behind (fields t) i 1 d → AskRow t w p s i 1 (until (fields t) i) d
  first b =
      let n = for_size_of x in
      give_row (from g.ready) g.known 1 (until (fields t) i) (omega (arith, ends_by x (absent (word_of (fields t) i 1)), x.size)) (initializer_each x _ refl) (omega arith) (omega arith) (omega arith) (omega arith) b

  pub open_loops : loops_of p < nodes_of p + 10
  open_loops = let n = for_size x in omega (arith, g.ready.loops)

  module _ {o w1 o1 : List ℕ} {s1 : Step} (d1 : LowersRow t i 1 (until (fields t) i) w o p s w1 o1 s1) where
    pub condition : AskExpr t w1 p s1 (word_of (fields t) i 2)
    condition = let n = for_size_of x in give_expr (from g.ready ▹ d1.does.moves) g.known x.condition (omega arith) (omega arith) (omega arith) (omega arith)

    module _ {w2 o2 : List ℕ} {s2 : Step} (d2 : LowersExpr t (word_of (fields t) i 2) w1 o1 p s1 w2 o2 s2) where
      pub at_test : Fine w2 p s2 × Space w2 p s2 0 4 0 × while_going (outcome_of s2) ((result_of s2 < 256) × (0 < 256))
      at_test =
          let n = for_size_of x in
          let y = stand 0 4 0 (from g.ready ▹ d1.does.moves ▹ d2.does.moves) (omega arith) (omega arith) (omega arith) (omega arith) in
          (y.fine, y.room, meanwhile (outcome_of s2) ((result_of s2 < 256) × (0 < 256)) λ e. let v = due (outcome_of s2) d2.small e in (omega arith, omega arith))

      module _ {w3 : List ℕ} {s3 : Step} (d3 : Leaf w2 p s2 w3 p s3 (uses 4 0 0) (sure (test_and_jump 0 (word_of (fields t) i 0)))) where
        pub body : AskStmt t w3 (looped p) s3 (word_of (fields t) i 4)
        body = let n = for_size_of x in give_looped (from g.ready ▹ d1.does.moves ▹ d2.does.moves ▹ d3.moves) g.known x.body (omega arith) (omega arith) (omega arith) (omega arith)

        module _ {w4 o4 : List ℕ} {s4 : Step} (d4 : LowersStmt t (word_of (fields t) i 4) w3 o2 (looped p) s3 w4 o4 s4) where
          pub increment : AskExpr t w4 p s4 (word_of (fields t) i 3)
          increment =
              let n = for_size_of x in
              give_expr (from g.ready ▹ d1.does.moves ▹ d2.does.moves ▹ d3.moves ▹ loop_around p d3.moves.fine d4.does.moves) g.known x.increment (omega arith) (omega arith) (omega arith) (omega arith)

          module _ {w5 o5 : List ℕ} {s5 : Step} (d5 : LowersExpr t (word_of (fields t) i 3) w4 o4 p s4 w5 o5 s5) where
            pub at_end : Fine w5 p s5 × Space w5 p s5 0 2 0 × while_going (outcome_of s5) ((pc_of s ≤ pc_of s5) × (pc_of s1 ≤ pc_of s5) × (pc_of s2 + 2 ≤ pc_of s5) × (0 < 256) × (pc_of s ≤ pc_of s4))
            unfolding test_and_jump
            at_end =
                let n = for_size_of x in
                let m4 = loop_around p d3.moves.fine d4.does.moves in
                let y = stand 0 2 0 (from g.ready ▹ d1.does.moves ▹ d2.does.moves ▹ d3.moves ▹ m4 ▹ d5.does.moves) (omega arith) (omega arith) (omega arith) (omega arith) in (
                  y.fine,
                  y.room,
                  meanwhile (outcome_of s5) ((pc_of s ≤ pc_of s5) × (pc_of s1 ≤ pc_of s5) × (pc_of s2 + 2 ≤ pc_of s5) × (0 < 256) × (pc_of s ≤ pc_of s4)) λ e.
                      let l = adds d3 2 (λ c. twice c.code _ _) (m4.back (d5.does.moves.back e)) in
                      let l1 = d1.does.moves.longer in
                      let l2 = d2.does.moves.longer in
                      let l4 = m4.longer in
                      let l5 = d5.does.moves.longer in
                      (omega arith, omega arith, omega arith, omega arith, omega arith),
                )

            module _ {w6 : List ℕ} {s6 : Step} (d6 : Leaf w5 p s5 w6 p s6 (uses 2 0 0) (sure (end_loop (mode_of p) (pc_of s) (pc_of s4) (pc_of s1) (pc_of s2) 0 (word_of (fields t) i 0)))) where
              pub lowers : UnderStmt t i w o p s w6 o5 s6
              unfolding lower_expr end_loop
              lowers =
                  let n = for_size_of x in
                  let m4 = loop_around p d3.moves.fine d4.does.moves in
                  arrive _ _ _ (from g.ready ▹ d1.does.moves ▹ d2.does.moves ▹ d3.moves ▹ m4 ▹ d5.does.moves ▹ d6.moves) (omega arith) (omega arith) (omega arith) (λ z. omega arith) (omega (arith, for_visits_of x))
                  (d5.does.same ∙ d4.does.same ∙ d2.does.same ∙ d1.does.same) (sets d6 0 (λ c. refl) (λ e. lit< tt)) λ ps z.
                  let a1 = d1.does.does ps z in
                  let a2 = next a1 d2.does in
                  let a3 = next_leaf a2 d3 in
                  let a4 = next_leaf a3 (loop_entered d3.moves.fine open_loops) in
                  let a5 = next a4 d4.does in
                  let a6 = next_leaf a5 (loop_left p d4.does.moves.fine) in
                  let a7 = next a6 d5.does in
                  let a8 = next_leaf a7 d6 in
                  ends a8 (rw (x.is, initializer_is x _ refl)
                  (for_chain (mode_of p) _ _ _ _ _ _ _ _ (known _ _ _ ps) _ a1.runs _ (known _ _ _ a1.protos) _ a2.runs _ (known _ _ _ a2.protos) _ a3.runs _ a4.runs _ a5.runs _ a6.runs _ (known _ _ _ a6.protos) _ a7.runs _ a8.runs))
