-- Statements one after the other: the loop stands before statement k; those before it are done, those from it on are pending.
use Prim.Native.Nat.{ℕ, ◌*◌, ◌+◌, ◌<◌, ◌≤◌}
use Rattle.cycle.proofs.Way.{from, give_stmt, spends, ◌▹◌}
use Rattle.cycle.proofs.Sizes.{stmts_size, stmts_size_none}
use Rattle.cycle.proofs.Turns.{Turning, none_turned, turned}
use Rattle.cycle.proofs.Visited.{stmts_visits, stmts_visits_none}
use Rattle.meaning.specs.Visits.{visits_stmt, visits_stmts}
use Rattle.cycle.specs.Cycle.{AskRow, AskStmt, LowersRow, LowersStmt}
use Rattle.forward.proofs.Chains.{row_chain, row_end}
use Rattle.forward.specs.Forward.{fwd_row}
use Rattle.meaning.proofs.Rows.{stmts_more, stmts_none}
use Rattle.meaning.specs.At.{StmtBelow, stmt_at, stmts_at, word_of}
use Rattle.meaning.specs.Fields.{fields}
use Rattle.meaning.specs.Lower.{lower_expr, lower_stmts}
use Rattle.meaning.specs.Weight.{size_stmt, size_stmts}
use Rattle.routines.specs.Pieces.{Small}
use Rattle.store.specs.Promise.{takes}
use Rattle.store.specs.declared.Scope.{Scope}
use Rattle.store.specs.declared.Step.{Step}
use Rattle.store.specs.Store.{mode_of}
use mathlib.Core.List.{List}
use mathlib.Core.Path.{◌∙◌, ◌≡◌}
use native.Mathlib.Omega.{arith}

pub record Rowing (t w0 o0 : List ℕ) (p : Scope) (s0 : Step) (i from to : ℕ) (w o : List ℕ) (s : Step) (k : ℕ) : Type 0 where
  pub low : from ≤ k
  pub done : ℕ
  pub size : done + size_stmts (stmts_at (fields t) i k to) ≡ size_stmts (stmts_at (fields t) i from to)
  pub seen : ℕ
  pub count : seen + visits_stmts (stmts_at (fields t) i k to) ≡ visits_stmts (stmts_at (fields t) i from to)
  pub turning : Turning w0 o0 p s0 w o s (takes (8 * done) done seen) (fwd_row (lower_stmts (mode_of p) (stmts_at (fields t) i from to))) (fwd_row (lower_stmts (mode_of p) (stmts_at (fields t) i k to)))
  pub small : Small s0 → Small s

module _ {t w0 : List ℕ} {p : Scope} {s0 : Step} {i f g d : ℕ} (r : AskRow t w0 p s0 i f g d) where
  pub start : {o0 : List ℕ} → Rowing t w0 o0 p s0 i f g w0 o0 s0 f
  start = record { low = omega arith; done = 0; size = omega arith; seen = 0; count = omega arith; turning = none_turned r.ready.fine; small = λ m. m }

  module _ {o0 w o : List ℕ} {s : Step} {k : ℕ} (v : Rowing t w0 o0 p s0 i f g w o s k) where
    module _ (h : k < g) where
      pub below : StmtBelow (fields t) i (word_of (fields t) i k)
      below = r.each k v.low h

      pub child : AskStmt t w p s (word_of (fields t) i k)
      child =
          let n = stmts_size (fields t) i k g h r.ends in
          let m = v.size in
          give_stmt (from r.ready ▹ v.turning.moves) r.known below (omega arith) (omega arith) (omega arith) (omega arith)

      pub turn : {w1 o1 : List ℕ} {s1 : Step} → LowersStmt t (word_of (fields t) i k) w o p s w1 o1 s1 → Rowing t w0 o0 p s0 i f g w1 o1 s1 (k + 1)
      unfolding lower_expr
      turn d =
          let z = size_stmt (stmt_at (fields t) (word_of (fields t) i k)) in
          let y = visits_stmt (stmt_at (fields t) (word_of (fields t) i k)) in
          record {
            low = omega (arith, v.low);
            done = v.done + z;
            size = omega (arith, v.size, stmts_size (fields t) i k g h r.ends);
            seen = v.seen + y;
            count = omega (arith, v.count, stmts_visits (fields t) i k g h r.ends);
            turning =
                record {
                  moves = spends (8 * (v.done + z)) (v.done + z) (v.seen + y) (omega arith) (omega arith) (omega arith) (λ e. omega arith) (omega arith) (from r.ready ▹ v.turning.moves ▹ d.does.moves);
                  same = d.does.same ∙ v.turning.same;
                  does = λ ps q.
                      let a = v.turning.does ps q in
                      let b = d.does.does a.protos a.image in
                      turned a b (λ x e. rw (stmts_more (fields t) i k g h r.ends) (row_chain _ _ _ _ b.runs x e));
                };
            small = λ m. d.small;
          }

    pub lowers : g ≤ k → LowersRow t i f g w0 o0 p s0 w o s
    unfolding lower_expr
    lowers h =
        let n = size_stmts (stmts_at (fields t) i f g) in
        let m = stmts_size_none (fields t) i k g h in
        record {
          does =
              record {
                moves = spends (8 * n) n _ (omega (arith, v.size)) (omega (arith, v.size)) (omega arith) (λ e. omega (arith, v.size)) (omega (arith, v.count, stmts_visits_none (fields t) i k g h)) (from r.ready ▹ v.turning.moves);
                same = v.turning.same;
                does = λ ps y.
                    let a = v.turning.does ps y in
                    record { protos = a.protos; image = a.image; runs = a.then _ (rw (stmts_none (fields t) i k g h) (row_end _)) };
              };
          small = v.small;
        }
