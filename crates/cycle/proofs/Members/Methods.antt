-- fn visit_class_stmt, its methods one after the other: the loop stands before method k; those before it are done, those from it on are pending.
use Prim.Native.Nat.{ℕ, ◌*◌, ◌+◌, ◌<◌, ◌≤◌}
use Rattle.cycle.proofs.Way.{after_ticked, arrive, from, meanwhile, next_leaf, small, spends, stand, ◌▹◌}
use Rattle.cycle.proofs.Nodes.{a_define}
use Rattle.cycle.proofs.Sizes.{fun_size, funs_size, funs_size_none}
use Rattle.cycle.proofs.Turns.{Turning, closed, none_turned, turned}
use Rattle.cycle.proofs.Visited.{funs_visits, funs_visits_none}
use Rattle.meaning.specs.Visits.{visits_fun, visits_funs}
use Rattle.store.proofs.Visiting.{ticked_moves}
use Rattle.cycle.specs.Cycle.{AskFun, AskMethods, LowersFun, LowersMethods}
use Rattle.forward.proofs.Chains.{method_chain}
use Rattle.forward.specs.Forward.{add_method, fwd_code}
use Rattle.meaning.proofs.Reading.{Define}
use Rattle.meaning.proofs.Rows.{funs_more, funs_none}
use Rattle.meaning.specs.At.{TagBelow, fun_at, funs_at, word_of}
use Rattle.meaning.specs.Fields.{fields}
use Rattle.meaning.specs.Lower.{fun_name, lower_expr, lower_methods}
use Rattle.meaning.specs.Weight.{size_fun, size_funs}
use Rattle.store.proofs.Compose.{settled}
use Rattle.store.proofs.Runs.{due}
use Rattle.store.specs.Promise.{Leaf, Space, Ticked, takes, uses}
use Rattle.store.specs.Store.{Fine, mode_of, outcome_of, result_of, while_going, with_result}
use Rattle.store.specs.declared.Scope.{Scope}
use Rattle.store.specs.declared.Step.{Step}
use lib.Dec.{lit<}
use mathlib.Core.List.{List}
use mathlib.Core.Path.{ap, ◌∙◌, ◌≡◌}
use native.Mathlib.Omega.{arith}

pub record Methoding (t w0 o0 : List ℕ) (p : Scope) (s0 : Step) (i from to mark op class : ℕ) (w o : List ℕ) (s : Step) (k : ℕ) : Type 0 where
  pub low : from ≤ k
  pub done : ℕ
  pub size : done + size_funs (funs_at (fields t) i k to) ≡ size_funs (funs_at (fields t) i from to)
  pub seen : ℕ
  pub count : seen + visits_funs (funs_at (fields t) i k to) ≡ visits_funs (funs_at (fields t) i from to)
  pub turning : Turning w0 o0 p s0 w o s (takes (8 * done) done seen) (fwd_code (lower_methods (mode_of p) (funs_at (fields t) i from to) i mark op class (class + 1))) (fwd_code (lower_methods (mode_of p) (funs_at (fields t) i k to) i mark op class (class + 1)))

module _ {t w0 : List ℕ} {p : Scope} {s0 : Step} {i f g skew op class : ℕ} (r : AskMethods t w0 p s0 i f g skew op class) (mark : ℕ) where
  pub start : {o0 : List ℕ} → Methoding t w0 o0 p s0 i f g mark op class w0 o0 s0 f
  start = record { low = omega arith; done = 0; size = omega arith; seen = 0; count = omega arith; turning = none_turned r.0.ready.fine }

  module _ {o0 w o : List ℕ} {s : Step} {k : ℕ} (v : Methoding t w0 o0 p s0 i f g mark op class w o s k) where
    module _ (h : k < g) where
      pub below : TagBelow (fields t) 0x1C i (word_of (fields t) i k)
      below = r.0.each k v.low h

      pub defined : Define (fields t) (word_of (fields t) i k)
      defined = a_define r.0.ready.lawful (omega (arith, r.0.known, below.below)) below.tag

      pub child : AskFun t w p s (word_of (fields t) i k)
      child =
          let n = funs_size (fields t) i k g h r.0.ends in
          let m = v.size in
          (record { ready = stand (size_fun (fun_at (fields t) (word_of (fields t) i k))) 0 0 (from r.0.ready ▹ v.turning.moves) (omega arith) (omega arith) (omega arith) (omega arith); known = omega (arith, r.0.known, below.below) }, below.tag, r.1)

      module _ {w1 o1 : List ℕ} {s1 : Step} (d : LowersFun t (word_of (fields t) i k) w o p s w1 o1 s1) where
        pub at_add : Fine w1 p s1 × Space w1 p s1 0 4 0 × while_going (outcome_of s1) ((op < 256) × (class < 256) × (class + 1 < 256) × (result_of s1 < 256))
        at_add =
            let n = funs_size (fields t) i k g h r.0.ends in
            let l = fun_size defined in
            let m = v.size in
            let y = stand 0 4 0 (from r.0.ready ▹ v.turning.moves ▹ d.does.moves) (omega arith) (omega arith) (omega arith) (omega arith) in (
              y.fine,
              y.room,
              meanwhile (outcome_of s1) ((op < 256) × (class < 256) × (class + 1 < 256) × (result_of s1 < 256)) λ e.
                  let b = due (outcome_of s0) r.4 (v.turning.moves.back (d.does.moves.back e)) in
                  let c = due (outcome_of s1) d.small e in
                  (r.2, omega arith, omega arith, omega arith),
            )

        pub turn : {w2 w3 : List ℕ} {s2 : Step} → Leaf w1 p s1 w2 p s2 (uses 4 0 0) (add_method i mark op class (class + 1) (word_of (fields t) (word_of (fields t) i k) 0)) → Ticked w2 w3 → Methoding t w0 o0 p s0 i f g mark op class w3 o1 s2 (k + 1)
        unfolding lower_expr fun_name
        turn d2 d3 =
            let z = size_fun (fun_at (fields t) (word_of (fields t) i k)) in
            let y = visits_fun (fun_at (fields t) (word_of (fields t) i k)) in
            let m3 = ticked_moves d2.moves.fine d3 in
            let l = fun_size defined in
            record {
              low = omega (arith, v.low);
              done = v.done + z;
              size = omega (arith, v.size, funs_size (fields t) i k g h r.0.ends);
              seen = v.seen + y;
              count = omega (arith, v.count, funs_visits (fields t) i k g h r.0.ends);
              turning =
                  record {
                    moves = spends (8 * (v.done + z)) (v.done + z) (v.seen + y) (omega arith) (omega arith) (omega arith) (λ e. absurd (omega arith)) (omega arith) (from r.0.ready ▹ v.turning.moves ▹ d.does.moves ▹ d2.moves ▹ m3);
                    same = d.does.same ∙ v.turning.same;
                    does = λ ps j.
                        let a = v.turning.does ps j in
                        let b = d.does.does a.protos a.image in
                        let b2 = after_ticked d2.moves.fine d3 (next_leaf b d2) in
                        let e = ap fun_name defined.is_fun in
                        turned a b2 (λ x q. rw (funs_more (fields t) i k g h r.0.ends, e) (method_chain _ _ _ _ _ _ _ _ _ _ b.runs _ b2.runs x q));
                  };
            }

    pub lowers : g ≤ k → LowersMethods t i f g mark op class w0 o0 p s0 w o (with_result s 0)
    unfolding lower_expr
    lowers h =
        let n = size_funs (funs_at (fields t) i f g) in
        let m = funs_size_none (fields t) i k g h in
        let l = settled s 0 (lit< tt) v.turning.moves.fine in
        arrive (8 * n) n _ (from r.0.ready ▹ v.turning.moves ▹ l.moves) (omega (arith, v.size)) (omega (arith, v.size)) (omega arith) (λ e. omega (arith, v.size)) (omega (arith, v.count, funs_visits_none (fields t) i k g h)) v.turning.same (small (with_result s 0) (lit< tt)) (closed (rw (funs_none (fields t) i k g h) at v.turning))
