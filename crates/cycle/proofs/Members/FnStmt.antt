-- fn visit_fn_stmt: a register, whose name is known from here on, then the function between enter_function and leave_function, then its Closure and its name.
use Prim.Native.Nat.{ℕ, ◌*◌, ◌+◌, ◌-◌, ◌<◌, ◌≤◌}
use Rattle.code.specs.Cuts.{Ends, cut_step}
use Rattle.cycle.proofs.Nested.{begun, cut_owing, ended}
use Rattle.cycle.proofs.Sizes.{fun_size, more_is, tokens_same}
use Rattle.cycle.proofs.Way.{arrive, ends, from, meanwhile, next, next_leaf, stand, stand_at, to, ◌▹◌}
use Rattle.cycle.proofs.Visited.{fun_visits}
use Rattle.cycle.specs.Cycle.{AskBody, AskFun, LowersBody, LowersFun, Ready}
use Rattle.forward.proofs.Chains.{fun_chain}
use Rattle.forward.specs.Forward.{bind, declare, end_fun, open_fun}
use Rattle.meaning.proofs.Reading.{Define}
use Rattle.meaning.proofs.Rows.{parameters_at}
use Rattle.meaning.specs.At.{Behind, count_of, extra, file_words, pairs_in, stmts_at, tokens_at, word_of}
use Rattle.meaning.specs.Fields.{field_at, fields}
use Rattle.meaning.specs.Lower.{lower_expr}
use Rattle.meaning.specs.Read.{token}
use Rattle.meaning.specs.declared.Token.{Token}
use Rattle.meaning.specs.Weight.{size_stmts}
use Rattle.routines.specs.Pieces.{Owing, Small, a_name, a_name_back, tokens_from}
use Rattle.store.proofs.Compose.{known, leaf_after, moves_then}
use Rattle.store.proofs.Inside.{leavable}
use Rattle.store.proofs.Runs.{due}
use Rattle.store.specs.Opening.{Enters, Leavable}
use Rattle.store.specs.Promise.{Cost, Leaf, Space, a_register, both, some_registers, uses}
use Rattle.store.specs.Store.{Fine, block_of, depth_of, inner, nodes_of, outcome_of, pc_of, result_of, run, while_going, wide_of}
use Rattle.store.specs.declared.Scope.{Scope}
use Rattle.store.specs.declared.Step.{Step}
use mathlib.Core.List.{List}
use mathlib.Core.Path.{ap, refl, sym, ◌∙◌, ◌≡◌}
use native.Mathlib.Omega.{arith}
use mathlib.Core.Bool.{cond}
use Rattle.meaning.specs.Grammar.{wide_marks}
use Rattle.nodes.specs.Nodes.{Width}

-- the parameters as the node's
pub opened : (t : List ℕ) (i n : ℕ) (x : Token) {payload w w' : List ℕ} {q : Scope} {s s' : Step} {u : Cost} → Width t (wide_of q) → payload ≡ (field_at (fields t) i).payload
    → tokens_at (fields t) i 3 (3 + 2 * n) ≡ pairs_in (wide_marks (fields t)) (file_words (fields t) i) (3 + extra (wide_marks (fields t))) n
    → Leaf w q s w' q s' u (open_fun i x (tokens_from q payload (3 + wide_of q) n)) × Small s' → Leaf w q s w' q s' u (open_fun i x (tokens_at (fields t) i 3 (3 + 2 * n))) × Small s'
opened t i n x {payload} {q = q} v e k d = rw (tokens_same t q i payload (3 + wide_of q) (3 + extra (wide_marks (fields t))) n v e (ap (λ m. 3 + m) v) ∙ sym k) at d

-- the body's statements stand behind the marks of the function and its parameters
pub body_behind : {t w : List ℕ} {p : Scope} {s : Step} {a b c i k : ℕ} (n : ℕ) → Ready t w p s a b c → Behind (fields t) i k (extra (wide_marks (fields t)) + cond (wide_marks (fields t)) n 0) → Behind (fields t) i k (wide_of p + n * wide_of p)
body_behind {t = t} n r b = rw (r.width, ← (more_is (wide_marks (fields t)) n)) b

module _ {t w : List ℕ} {p : Scope} {s : Step} {i : ℕ} (g : AskFun t w p s i) (x : Define (fields t) i) where
  pub at_declare : Fine w p s × Space w p s 0 0 0 × (word_of (fields t) i 0 < 65536)
  at_declare = let y = stand 0 0 0 (from g.0.ready) (omega arith) (omega arith) (omega arith) (omega arith) in (y.fine, y.room, omega (arith, x.name))

  module _ {w1 : List ℕ} {s1 : Step} (d1 : Leaf w p s w1 p s1 (both a_register (a_name p)) (declare i (token (word_of (fields t) i 0) (word_of (fields t) i 1))) × Small s1) where
    pub at_enter : Fine w1 p s1 × (depth_of p ≤ 7) × (block_of p < nodes_of p + 10) × (word_of (fields t) i 0 < 65536)
    at_enter = (d1.0.moves.fine, g.2, omega (arith, g.0.ready.blocks, g.2), omega (arith, x.name))

    module _ {w2 : List ℕ} {s2 : Step} (d2 : Enters w1 p s1 w2 s2 i (word_of (fields t) i 0)) where
      pub at_open : Ready t w2 (inner p) s2 (size_stmts (stmts_at (fields t) i (3 + 2 * word_of (fields t) i 2) (count_of (fields t) i))) 8 1
      at_open =
          let n = fun_size x in
          let b = g.0.ready.fine.sound.starts 0 (omega arith) in
          stand_at _ 8 1 (to (inner p) refl refl (omega arith) (omega arith) (from g.0.ready ▹ d1.0.moves) d2.leaf.moves) (omega arith) (omega arith) (omega arith) (omega (arith, g.0.ready.blocks)) (omega (arith, g.0.ready.loops))

      module _ {w3 : List ℕ} {s3 : Step}
          (d3 : Leaf w2 (inner p) s2 w3 (inner p) s3 (both (some_registers (1 + word_of (fields t) i 2)) (uses (3 + word_of (fields t) i 2) (1 + word_of (fields t) i 2) 0)) (open_fun i (token (word_of (fields t) i 0) (word_of (fields t) i 1)) (tokens_at (fields t) i 3 (3 + 2 * word_of (fields t) i 2))) × Small s3) where
        pub ask_body : {d : ℕ} → Behind (fields t) i (3 + 2 * word_of (fields t) i 2) d → AskBody t w3 (inner p) s3 i (3 + 2 * word_of (fields t) i 2) (count_of (fields t) i) d
        ask_body b =
            let n = fun_size x in
            let y = stand (size_stmts (stmts_at (fields t) i (3 + 2 * word_of (fields t) i 2) (count_of (fields t) i))) 2 0 (from at_open ▹ d3.0.moves) (omega arith) (omega arith) (omega arith) (omega arith) in
            (record { ready = y; known = g.0.known; ends = omega arith; each = x.body; behind = b }, omega (arith, g.0.ready.blocks), x.size, d3.1, refl)

        module _ {o w4 o4 : List ℕ} {s4 : Step} (d4 : LowersBody t i (3 + 2 * word_of (fields t) i 2) w3 o (inner p) s3 w4 o4 s4) where
          pub at_end : Fine w4 (inner p) s4 × Leavable w4 p × Owing w4 p (cut_step s4 (pc_of s1)) 4 1 (2 - (depth_of p + block_of p)) × while_going (outcome_of s4) ((pc_of s1 ≤ pc_of s4) × (result_of s1 < 255))
          at_end =
              let n = fun_size x in
              let m1 = d1.0.moves in
              let m = moves_then refl (omega arith) (omega arith) d3.0.moves d4.moves in (
                d4.moves.fine,
                leavable m1.fine d2 m,
                cut_owing m1 d2 m (omega arith) 4 1 (2 - (depth_of p + block_of p)) g.0.ready (omega arith) (omega arith) (omega arith),
                meanwhile (outcome_of s4) ((pc_of s1 ≤ pc_of s4) × (result_of s1 < 255)) λ e. (begun m1 d2 m (omega arith), due (outcome_of s1) d1.1 (d2.leaf.moves.back (m.back e))),
              )

          module _ {w5 o5 : List ℕ} {s5 : Step} (d5 : Ends (pc_of s1) w4 o4 p s4 w5 o5 s5 (both (uses 4 1 0) (a_name_back p)) (end_fun (pc_of s1) i (token (word_of (fields t) i 0) (word_of (fields t) i 1)) (word_of (fields t) i 2) (result_of s1)) × Small s5) where
            pub lowers : LowersFun t i w o p s w5 o5 s5
            unfolding lower_expr
            lowers =
                let m = moves_then refl (omega arith) (omega arith) d3.0.moves d4.moves in
                arrive _ _ _ (from g.0.ready ▹ ended d1.0.moves d2 m (omega arith) d5.0.leaves) (omega arith) (omega arith) (omega arith) (λ z. absurd (omega arith)) (omega (arith, fun_visits x)) (d5.0.same ∙ d4.same) d5.1 λ ps z.
                let a1 = leaf_after d1.0 o ps z in
                let a2 = next_leaf a1 d2.leaf in
                let a3 = next_leaf a2 d3.0 in
                let a4 = next a3 d4 in
                let a5 = d5.0.does a4.protos a4.image in
                let e = ap (λ k. bind (run w4 (inner p) s4 a4.protos) (end_fun (pc_of s1) i (token (word_of (fields t) i 0) (word_of (fields t) i 1)) k (result_of s1))) (sym (parameters_at (fields t) i 3 (word_of (fields t) i 2) x.size)) in
                ends a5 (rw x.is_fun (fun_chain _ _ _ _ _ _ a1.runs _ (known _ _ _ a1.protos) _ a2.runs _ a3.runs _ a4.runs _ (a5.runs ∙ e)))
