-- fn visit_function_expr: a register, then the function between enter_function and leave_function, then its Closure. What the inside takes is gone with it.
use Prim.Native.Nat.{ℕ, ◌*◌, ◌+◌, ◌<◌, ◌≤◌}
use Rattle.code.specs.Cuts.{Ends, cut_step}
use Rattle.cycle.proofs.Nested.{begun, cut_room, ended}
use Rattle.cycle.proofs.Visited.{function_visits}
use Rattle.cycle.proofs.Sizes.{function_size, more_is, tokens_same}
use Rattle.cycle.proofs.Way.{arrive, ends, from, meanwhile, next, next_leaf, stand, stand_at, to, ◌▹◌}
use Rattle.cycle.specs.Cycle.{AskBody, GivenExpr, LowersBody, Ready, UnderExpr}
use Rattle.forward.proofs.Chains.{function_chain}
use Rattle.forward.specs.Forward.{bind, end_function, fwd_number, open_function}
use Rattle.meaning.proofs.Reading.{Function}
use Rattle.meaning.proofs.Rows.{parameters_at}
use Rattle.meaning.specs.At.{Behind, count_of, file_words, pairs_in, stmts_at, tokens_at, word_of}
use Rattle.meaning.specs.Fields.{field_at, fields}
use Rattle.meaning.specs.Functions.{first_mark}
use Rattle.meaning.specs.Lower.{lower_expr}
use Rattle.meaning.specs.State.{next_register}
use Rattle.meaning.specs.Weight.{size_stmts}
use Rattle.nodes.specs.Nodes.{Width}
use Rattle.routines.specs.Pieces.{Small, tokens_from}
use Rattle.store.proofs.Compose.{known, leaf_after, moves_then}
use Rattle.store.proofs.Inside.{leavable}
use Rattle.store.specs.Opening.{Enters, Leavable}
use Rattle.store.specs.Promise.{Cost, Leaf, Space, a_register, both, some_registers, uses}
use Rattle.store.specs.Store.{Fine, block_of, depth_of, inner, nodes_of, outcome_of, pc_of, result_of, run, while_going, wide_of}
use Rattle.store.specs.declared.Scope.{Scope}
use Rattle.store.specs.declared.Step.{Step}
use lib.Dec.{lit<}
use mathlib.Core.List.{List}
use mathlib.Core.Path.{ap, refl, sym, ◌∙◌, ◌≡◌}
use native.Mathlib.Omega.{arith}
use mathlib.Core.Bool.{cond}
use Rattle.meaning.specs.Grammar.{wide_marks}

-- the parameters as the node's
abbrev pub Tokens : List ℕ → (i n : ℕ) → Type 0
Tokens t i n = tokens_at (fields t) i 1 (1 + 2 * n) ≡ pairs_in (wide_marks (fields t)) (file_words (fields t) i) 1 n

pub opened : (t : List ℕ) (i n : ℕ) {payload w w' : List ℕ} {q : Scope} {s s' : Step} {u : Cost} → Width t (wide_of q) → payload ≡ (field_at (fields t) i).payload → Tokens t i n
    → Leaf w q s w' q s' u (open_function i (tokens_from q payload 1 n)) × Small s' → Leaf w q s w' q s' u (open_function i (tokens_at (fields t) i 1 (1 + 2 * n))) × Small s'
opened t i n {payload} {q = q} v e k d = rw (tokens_same t q i payload 1 1 n v e refl ∙ sym k) at d

-- the body's statements stand behind the marks of the parameters
pub body_behind : {t w : List ℕ} {p : Scope} {s : Step} {a b c i k : ℕ} (n : ℕ) → Ready t w p s a b c → Behind (fields t) i k (cond (wide_marks (fields t)) n 0) → Behind (fields t) i k (n * wide_of p)
body_behind {t = t} n r b = rw (r.width, ← (more_is (wide_marks (fields t)) n)) b

module _ {t w : List ℕ} {p : Scope} {s : Step} {i : ℕ} (g : GivenExpr t w p s i) (x : Function (fields t) i) (deep : depth_of p ≤ 7) where
  module _ {w1 : List ℕ} {s1 : Step} (d1 : Leaf w p s w1 p s1 a_register (fwd_number (next_register i)) × (result_of s1 < 255)) where
    pub at_enter : Fine w1 p s1 × (depth_of p ≤ 7) × (block_of p < nodes_of p + 10) × (65535 < 65536)
    at_enter = (d1.0.moves.fine, deep, omega (arith, g.ready.blocks), lit< tt)

    module _ {w2 : List ℕ} {s2 : Step} (d2 : Enters w1 p s1 w2 s2 i 65535) where
      pub at_open : Ready t w2 (inner p) s2 (size_stmts (stmts_at (fields t) i (1 + 2 * word_of (fields t) i 0) (count_of (fields t) i))) 8 0
      at_open =
          let n = function_size x in
          stand_at _ 8 0 (to (inner p) refl refl (omega arith) (omega arith) (from g.ready ▹ d1.0.moves) d2.leaf.moves) (omega arith) (omega arith) (omega arith) (omega (arith, g.ready.blocks)) (omega (arith, g.ready.loops))

      module _ {w3 : List ℕ} {s3 : Step}
          (d3 : Leaf w2 (inner p) s2 w3 (inner p) s3 (both (some_registers (1 + word_of (fields t) i 0)) (uses (word_of (fields t) i 0) (word_of (fields t) i 0) 0)) (open_function i (tokens_at (fields t) i 1 (1 + 2 * word_of (fields t) i 0))) × Small s3) where
        pub ask_body : {d : ℕ} → Behind (fields t) i (1 + 2 * word_of (fields t) i 0) d → AskBody t w3 (inner p) s3 i (1 + 2 * word_of (fields t) i 0) (count_of (fields t) i) d
        ask_body b =
            let n = function_size x in
            let y = stand (size_stmts (stmts_at (fields t) i (1 + 2 * word_of (fields t) i 0) (count_of (fields t) i))) 2 0 (from at_open ▹ d3.0.moves) (omega arith) (omega arith) (omega arith) (omega arith) in
            (record { ready = y; known = g.known; ends = omega arith; each = x.body; behind = b }, omega (arith, g.ready.blocks), x.size, d3.1, refl)

        module _ {o w4 o4 : List ℕ} {s4 : Step} (d4 : LowersBody t i (1 + 2 * word_of (fields t) i 0) w3 o (inner p) s3 w4 o4 s4) where
          pub at_end : Fine w4 (inner p) s4 × Leavable w4 p × Space w4 p (cut_step s4 (pc_of s1)) 0 2 0 × while_going (outcome_of s4) ((pc_of s1 ≤ pc_of s4) × (result_of s1 < 255))
          at_end =
              let n = function_size x in
              let m = moves_then refl (omega arith) (omega arith) d3.0.moves d4.moves in
              (d4.moves.fine, leavable d1.0.moves.fine d2 m, cut_room d1.0.moves d2 m (omega arith) 0 2 0 g.ready (omega arith) (omega arith) (omega arith), meanwhile (outcome_of s4) ((pc_of s1 ≤ pc_of s4) × (result_of s1 < 255)) λ e. (begun d1.0.moves d2 m (omega arith), d1.1))

          module _ {w5 o5 : List ℕ} {s5 : Step} (d5 : Ends (pc_of s1) w4 o4 p s4 w5 o5 s5 (uses 2 0 0) (end_function (pc_of s1) i (word_of (fields t) i 0) (result_of s1) (first_mark (tokens_at (fields t) i 1 (1 + 2 * word_of (fields t) i 0)))) × Small s5) where
            pub lowers : UnderExpr t i w o p s w5 o5 s5
            unfolding lower_expr
            lowers =
                let n = function_size x in
                let m = moves_then refl (omega arith) (omega arith) d3.0.moves d4.moves in
                arrive _ _ _ (from g.ready ▹ ended d1.0.moves d2 m (omega arith) d5.0.leaves) (omega arith) (omega arith) (omega arith) (λ z. refl) (omega (arith, function_visits x)) (d5.0.same ∙ d4.same) d5.1 λ ps z.
                let a1 = leaf_after d1.0 o ps z in
                let a2 = next_leaf a1 d2.leaf in
                let a3 = next_leaf a2 d3.0 in
                let a4 = next a3 d4 in
                let a5 = d5.0.does a4.protos a4.image in
                let e = ap (λ k. bind (run w4 (inner p) s4 a4.protos) (end_function (pc_of s1) i k (result_of s1) (first_mark (tokens_at (fields t) i 1 (1 + 2 * word_of (fields t) i 0))))) (sym (parameters_at (fields t) i 1 (word_of (fields t) i 0) x.size)) in
                ends a5 (rw x.is (function_chain _ _ _ _ _ a1.runs _ (known _ _ _ a1.protos) _ a2.runs _ a3.runs _ a4.runs _ (a5.runs ∙ e)))
