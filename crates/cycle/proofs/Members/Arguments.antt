-- The arguments of a call: the loop stands before argument k - 2; those before it are lowered and moved to their registers, the rest is pending.
use Prim.Native.Nat.{ℕ, ◌*◌, ◌+◌, ◌-◌, ◌<◌, ◌≤◌}
use Rattle.store.specs.Cell.{Bytes}
use Rattle.cycle.proofs.Sizes.{exprs_size, exprs_size_none}
use Rattle.cycle.proofs.Turns.{Turning, closed, none_turned, turned}
use Rattle.cycle.proofs.Way.{arrive, fits, from, give_expr, next_leaf, small, spends, stand, ◌▹◌}
use Rattle.cycle.proofs.Visited.{exprs_visits, exprs_visits_none}
use Rattle.meaning.specs.Visits.{visits_expr, visits_exprs}
use Rattle.cycle.specs.Cycle.{AskArguments, AskExpr, LowersArguments, LowersExpr}
use Rattle.forward.proofs.Chains.{argument_chain}
use Rattle.forward.specs.Forward.{emit, fwd_code, sure}
use Rattle.meaning.proofs.Rows.{exprs_more, exprs_none}
use Rattle.meaning.specs.At.{ExprBelow, count_of, expr_at, exprs_at, word_of}
use Rattle.meaning.specs.Fields.{fields}
use Rattle.meaning.specs.Lower.{lower_arguments, lower_expr}
use Rattle.meaning.specs.Opcode.{Move, inst, no_mark}
use Rattle.meaning.specs.Weight.{size_expr, size_exprs}
use Rattle.store.proofs.Compose.{known, settled}
use Rattle.store.proofs.Runs.{due}
use Rattle.store.specs.Promise.{Leaf, Space, takes, uses}
use Rattle.store.specs.Store.{Fine, mode_of, outcome_of, result_of, while_going, with_result}
use Rattle.store.specs.declared.Scope.{Scope}
use Rattle.store.specs.declared.Step.{Step}
use lib.Dec.{lit<}
use mathlib.Core.List.{List}
use mathlib.Core.Path.{refl, ◌∙◌, ◌≡◌}
use native.Mathlib.Omega.{arith}

pub record Moving (t w0 o0 : List ℕ) (p : Scope) (s0 : Step) (i register : ℕ) (w o : List ℕ) (s : Step) (k : ℕ) : Type 0 where
  pub low : 2 ≤ k
  pub high : k - 2 ≤ count_of (fields t) i - 2
  pub done : ℕ
  pub size : done + size_exprs (exprs_at (fields t) i k (count_of (fields t) i)) ≡ size_exprs (exprs_at (fields t) i 2 (count_of (fields t) i))
  pub seen : ℕ
  pub count : seen + visits_exprs (exprs_at (fields t) i k (count_of (fields t) i)) ≡ visits_exprs (exprs_at (fields t) i 2 (count_of (fields t) i))
  pub turning : Turning w0 o0 p s0 w o s (takes (8 * done + 2 * (k - 2)) 0 seen) (fwd_code (lower_arguments (mode_of p) (exprs_at (fields t) i 2 (count_of (fields t) i)) register))
      (fwd_code (lower_arguments (mode_of p) (exprs_at (fields t) i k (count_of (fields t) i)) (register + (k - 2))))

module _ {t w0 : List ℕ} {p : Scope} {s0 : Step} {i register : ℕ} (r : AskArguments t w0 p s0 i register) where
  pub start : {o0 : List ℕ} → Moving t w0 o0 p s0 i register w0 o0 s0 2
  start =
      let e : register + (2 - 2) ≡ register = omega arith in
      record { low = omega arith; high = omega arith; done = 0; size = omega arith; seen = 0; count = omega arith; turning = rw e (none_turned r.0.ready.fine) }

  module _ {o0 w o : List ℕ} {s : Step} {k : ℕ} (v : Moving t w0 o0 p s0 i register w o s k) where
    module _ (h : k < count_of (fields t) i) where
      pub below : ExprBelow (fields t) i (word_of (fields t) i k)
      below = r.0.each k v.low h

      pub argument : AskExpr t w p s (word_of (fields t) i k)
      argument =
          let n = exprs_size (fields t) i k (count_of (fields t) i) h (omega arith) in
          let m = v.size in
          give_expr (from r.0.ready ▹ v.turning.moves) r.0.known below (omega (arith, v.high)) (omega arith) (omega arith) (omega arith)

      module _ {w1 o1 : List ℕ} {s1 : Step} (d1 : LowersExpr t (word_of (fields t) i k) w o p s w1 o1 s1) where
        pub at_move : Fine w1 p s1 × Space w1 p s1 0 2 0 × while_going (outcome_of s1) (Bytes 0 (register + (k - 2)) (result_of s1) 0)
        at_move =
            let n = exprs_size (fields t) i k (count_of (fields t) i) h (omega arith) in
            let m = v.size in
            let y = stand 0 2 0 (from r.0.ready ▹ v.turning.moves ▹ d1.does.moves) (omega (arith, v.low)) (omega arith) (omega arith) (omega arith) in (
              y.fine,
              y.room,
              fits (outcome_of s1) 0 (register + (k - 2)) (result_of s1) 0 λ e.
                  let u = due (outcome_of s0) r.2 (v.turning.moves.back (d1.does.moves.back e)) in
                  let u1 = due (outcome_of s1) d1.small e in
                  (omega arith, omega (arith, v.low, v.high), omega arith, omega arith),
            )

        pub turn : {w2 : List ℕ} {s2 : Step} → Leaf w1 p s1 w2 p s2 (uses 2 0 0) (sure (emit (inst Move (register + (k - 2)) (result_of s1) 0 no_mark))) → Moving t w0 o0 p s0 i register w2 o1 s2 (k + 1)
        unfolding lower_expr
        turn d2 =
            let z = size_expr (expr_at (fields t) (word_of (fields t) i k)) in
            let l = visits_expr (expr_at (fields t) (word_of (fields t) i k)) in
            let next : register + (k + 1 - 2) ≡ register + (k - 2) + 1 = omega (arith, v.low) in
            record {
              low = omega (arith, v.low);
              high = omega (arith, v.low);
              done = v.done + z;
              size = omega (arith, v.size, exprs_size (fields t) i k (count_of (fields t) i) h (omega arith));
              seen = v.seen + l;
              count = omega (arith, v.count, exprs_visits (fields t) i k (count_of (fields t) i) h (omega arith));
              turning =
                  record {
                    moves = spends (8 * (v.done + z) + 2 * (k + 1 - 2)) 0 (v.seen + l) (omega (arith, v.low)) (omega arith) (omega arith) (λ e. refl) (omega arith) (from r.0.ready ▹ v.turning.moves ▹ d1.does.moves ▹ d2.moves);
                    same = d1.does.same ∙ v.turning.same;
                    does = λ ps y.
                        let a = v.turning.does ps y in
                        let b1 = d1.does.does a.protos a.image in
                        let b2 = next_leaf b1 d2 in
                        turned a b2 (λ x e. rw (exprs_more (fields t) i k (count_of (fields t) i) h (omega arith)) (argument_chain _ _ _ _ _ b1.runs _ (known _ _ _ b1.protos) _ b2.runs x (rw next at e)));
                  };
            }

    pub lowers : count_of (fields t) i ≤ k → LowersArguments t i register w0 o0 p s0 w o (with_result s 0)
    unfolding lower_expr
    lowers h =
        let m = exprs_size_none (fields t) i k (count_of (fields t) i) h in
        let l = settled s 0 (lit< tt) v.turning.moves.fine in
        arrive _ _ _ (from r.0.ready ▹ v.turning.moves ▹ l.moves) (omega (arith, v.size, v.high)) (omega arith) (omega arith) (λ e. refl) (omega (arith, v.count, exprs_visits_none (fields t) i k (count_of (fields t) i) h))
        v.turning.same (small (with_result s 0) (lit< tt)) (closed (rw (exprs_none (fields t) i k (count_of (fields t) i) h) at v.turning))
