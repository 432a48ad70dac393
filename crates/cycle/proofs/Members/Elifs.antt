-- fn visit_if_stmt, its elifs: the loop stands before elif k; those before it are done, those from it on are pending. Each is a condition, a jump past its statements and a jump to the end.
use Prim.Native.Nat.{ℕ, ◌*◌, ◌+◌, ◌<◌, ◌≤◌}
use Rattle.cycle.proofs.Way.{adds, after_ticked, arrive, from, give_expr, give_row, meanwhile, next, next_leaf, small, spends, stand, twice, ◌▹◌}
use Rattle.meaning.specs.At.{Behind, TagBelow, count_of, elifs_at as elif-row, expr_at, stmts_at, word_of}
use Rattle.cycle.proofs.Nodes.{an_elif, behind_later, elif_stands}
use Rattle.cycle.proofs.Sizes.{elifs_size, elifs_size_none}
use Rattle.cycle.proofs.Turns.{Turning, closed, none_turned, turned}
use Rattle.cycle.proofs.Visited.{elifs_visits, elifs_visits_none}
use Rattle.meaning.specs.Visits.{visits_elifs, visits_expr, visits_stmts}
use Rattle.store.proofs.Visiting.{ticked_moves}
use Rattle.cycle.specs.Cycle.{AskElifs, AskExpr, AskRow, LowersElifs, LowersExpr, LowersRow, Ready}
use Rattle.forward.proofs.Chains.{elif_chain}
use Rattle.forward.specs.Forward.{end_branch, fwd_code, sure, test_and_jump}
use Rattle.meaning.proofs.Reading.{Elif}
use Rattle.meaning.proofs.Rows.{elifs_more, elifs_none}
use Rattle.meaning.specs.Fields.{fields}
use Rattle.meaning.specs.Lower.{lower_elifs, lower_expr}
use Rattle.meaning.specs.Opcode.{no_mark}
use Rattle.meaning.specs.Weight.{size_elifs, size_expr, size_stmts}
use Rattle.store.proofs.Compose.{known, settled}
use Rattle.store.proofs.Runs.{due}
use Rattle.store.specs.Promise.{Leaf, Space, Ticked, takes, uses}
use Rattle.store.specs.Store.{Fine, mode_of, nodes_of, outcome_of, pc_of, result_of, while_going, with_result}
use Rattle.store.specs.declared.Scope.{Scope}
use Rattle.store.specs.declared.Step.{Step}
use lib.Dec.{lit<}
use mathlib.Core.List.{List}
use mathlib.Core.Path.{◌∙◌, ◌≡◌}
use native.Mathlib.Omega.{arith}

pub record Branching (t w0 o0 : List ℕ) (p : Scope) (s0 : Step) (i from to : ℕ) (w o : List ℕ) (s : Step) (k : ℕ) : Type 0 where
  pub low : from ≤ k
  pub done : ℕ
  pub size : done + size_elifs (elif-row (fields t) i k to) ≡ size_elifs (elif-row (fields t) i from to)
  pub seen : ℕ
  pub count : seen + visits_elifs (elif-row (fields t) i k to) ≡ visits_elifs (elif-row (fields t) i from to)
  pub turning : Turning w0 o0 p s0 w o s (takes (8 * done) done seen) (fwd_code (lower_elifs (mode_of p) (elif-row (fields t) i from to))) (fwd_code (lower_elifs (mode_of p) (elif-row (fields t) i k to)))

module _ {t w0 : List ℕ} {p : Scope} {s0 : Step} {i f g d : ℕ} (r : AskElifs t w0 p s0 i f g d) where
  pub start : {o0 : List ℕ} → Branching t w0 o0 p s0 i f g w0 o0 s0 f
  start = record { low = omega arith; done = 0; size = omega arith; seen = 0; count = omega arith; turning = none_turned r.ready.fine }

  module _ {o0 w o : List ℕ} {s : Step} {k : ℕ} (v : Branching t w0 o0 p s0 i f g w o s k) where
    pub here : Ready t w p s (size_elifs (elif-row (fields t) i k g)) 0 0
    here = let m = v.size in stand _ 0 0 (from r.ready ▹ v.turning.moves) (omega arith) (omega arith) (omega arith) (omega arith)

    module _ (h : k < g) where
      pub below : TagBelow (fields t) 0x1A i (word_of (fields t) i k)
      below = r.each k v.low h

      pub known_elif : word_of (fields t) i k < nodes_of p
      known_elif = omega (arith, r.known, below.below)

      pub elif : Elif (fields t) (word_of (fields t) i k)
      elif = an_elif r.ready.lawful known_elif below.tag

      pub stands : Behind (fields t) (word_of (fields t) i k) 0 0
      stands = elif_stands r.ready.lawful known_elif below.tag

      pub sizes : size_elifs (elif-row (fields t) i k g) ≡ 1 + (size_expr (expr_at (fields t) (word_of (fields t) (word_of (fields t) i k) 0)) + size_stmts (stmts_at (fields t) (word_of (fields t) i k) 1 (count_of (fields t) (word_of (fields t) i k)))) + size_elifs (elif-row (fields t) i (k + 1) g)
      sizes = elifs_size (fields t) i k g h r.ends elif

      pub condition : AskExpr t w p s (word_of (fields t) (word_of (fields t) i k) 0)
      condition = let n = sizes in give_expr (from here) known_elif elif.condition (omega arith) (omega arith) (omega arith) (omega arith)

      module _ {w1 o1 : List ℕ} {s1 : Step} (d1 : LowersExpr t (word_of (fields t) (word_of (fields t) i k) 0) w o p s w1 o1 s1) where
        pub at_test : Fine w1 p s1 × Space w1 p s1 0 4 0 × while_going (outcome_of s1) ((result_of s1 < 256) × (0 < 256))
        at_test =
            let n = sizes in
            let y = stand 0 4 0 (from here ▹ d1.does.moves) (omega arith) (omega arith) (omega arith) (omega arith) in
            (y.fine, y.room, meanwhile (outcome_of s1) ((result_of s1 < 256) × (0 < 256)) λ e. let a = due (outcome_of s1) d1.small e in (omega arith, omega arith))

        module _ {w2 : List ℕ} {s2 : Step} (d2 : Leaf w1 p s1 w2 p s2 (uses 4 0 0) (sure (test_and_jump 0 no_mark))) where
          pub thens : AskRow t w2 p s2 (word_of (fields t) i k) 1 (count_of (fields t) (word_of (fields t) i k)) 0
          thens = let n = sizes in give_row (from here ▹ d1.does.moves ▹ d2.moves) known_elif 1 _ (omega arith) elif.each (omega arith) (omega arith) (omega arith) (omega arith) (behind_later 1 (omega arith) (stands))

          module _ {w3 o3 : List ℕ} {s3 : Step} (d3 : LowersRow t (word_of (fields t) i k) 1 (count_of (fields t) (word_of (fields t) i k)) w2 o1 p s2 w3 o3 s3) where
            pub at_end : Fine w3 p s3 × Space w3 p s3 0 2 0 × while_going (outcome_of s3) (pc_of s1 + 2 ≤ pc_of s3)
            unfolding test_and_jump
            at_end =
                let n = sizes in
                let y = stand 0 2 0 (from here ▹ d1.does.moves ▹ d2.moves ▹ d3.does.moves) (omega arith) (omega arith) (omega arith) (omega arith) in (
                  y.fine,
                  y.room,
                  meanwhile (outcome_of s3) (pc_of s1 + 2 ≤ pc_of s3) λ e.
                      let l = adds d2 2 (λ c. twice c.code _ _) (d3.does.moves.back e) in
                      omega (arith, d3.does.moves.longer),
                )

            pub turn : {w4 w5 : List ℕ} {s4 : Step} → Leaf w3 p s3 w4 p s4 (uses 2 0 0) (sure (end_branch (pc_of s1) no_mark)) → Ticked w4 w5 → Branching t w0 o0 p s0 i f g w5 o3 s4 (k + 1)
            unfolding lower_expr
            turn d4 d5 =
                let n = sizes in
                let m5 = ticked_moves d4.moves.fine d5 in
                let l = 1 + (visits_expr (expr_at (fields t) (word_of (fields t) (word_of (fields t) i k) 0)) + visits_stmts (stmts_at (fields t) (word_of (fields t) i k) 1 (count_of (fields t) (word_of (fields t) i k)))) in
                let z = 1 + (size_expr (expr_at (fields t) (word_of (fields t) (word_of (fields t) i k) 0)) + size_stmts (stmts_at (fields t) (word_of (fields t) i k) 1 (count_of (fields t) (word_of (fields t) i k)))) in
                record {
                  low = omega (arith, v.low);
                  done = v.done + z;
                  size = omega (arith, v.size);
                  seen = v.seen + l;
                  count = omega (arith, v.count, elifs_visits (fields t) i k g h r.ends elif);
                  turning =
                      record {
                        moves = spends (8 * (v.done + z)) (v.done + z) (v.seen + l) (omega arith) (omega arith) (omega arith) (λ e. omega arith) (omega arith) (from r.ready ▹ v.turning.moves ▹ d1.does.moves ▹ d2.moves ▹ d3.does.moves ▹ d4.moves ▹ m5);
                        same = d3.does.same ∙ d1.does.same ∙ v.turning.same;
                        does = λ ps y.
                            let a = v.turning.does ps y in
                            let a1 = d1.does.does a.protos a.image in
                            let a2 = next_leaf a1 d2 in
                            let a3 = next a2 d3.does in
                            let a4 = after_ticked d4.moves.fine d5 (next_leaf a3 d4) in
                            turned a a4 (λ x e. rw (elifs_more (fields t) i k g h r.ends, elif.is (elif-row (fields t) i (k + 1) g)) (elif_chain _ _ _ _ _ a1.runs _ (known _ _ _ a1.protos) _ a2.runs _ a3.runs _ a4.runs x e));
                      };
                }

    pub lowers : g ≤ k → LowersElifs t i f g w0 o0 p s0 w o (with_result s 0)
    unfolding lower_expr
    lowers h =
        let n = v.size in
        let m = elifs_size_none (fields t) i k g h in
        arrive _ _ _ (from r.ready ▹ v.turning.moves ▹ (settled s 0 (lit< tt) v.turning.moves.fine).moves) (omega arith) (omega arith) (omega arith) (λ z. omega arith) (omega (arith, v.count, elifs_visits_none (fields t) i k g h))
        v.turning.same (small (with_result s 0) (lit< tt)) λ ps z.
        closed (rw (elifs_none (fields t) i k g h) at v.turning) ps z
