-- fn visit_enhanced_for_stmt: four registers, the collection, the condition and the names' registers, the body in a loop, the counter's step and the jumps.
use Prim.Native.Nat.{ℕ, ◌*◌, ◌+◌, ◌-◌, ◌/◌, ◌<◌, ◌≤◌}
use Rattle.cycle.proofs.Visited.{for_in_visits}
use Rattle.cycle.proofs.Sizes.{for_in_size, has_pairs, tokens_same}
use Rattle.cycle.proofs.Way.{arrive, ends, from, give_expr, give_looped, leaf_known, meanwhile, next, next_leaf, sets, stand, ◌▹◌}
use Rattle.cycle.specs.Cycle.{AskExpr, AskStmt, GivenStmt, LowersExpr, LowersStmt, Ready, UnderStmt}
use Rattle.forward.proofs.Chains.{for_in_chain}
use Rattle.forward.specs.Forward.{Config, config, emit, end_for_in, end_loop, fwd_by, give, going, head_for_in, on, open_for_in, sure, test_and_jump}
use Rattle.meaning.proofs.Reading.{ForIn}
use Rattle.meaning.specs.At.{count_of, extra, file_words, pairs_in, tokens_at, word_of}
use Rattle.meaning.specs.Fields.{field_at, fields}
use Rattle.meaning.specs.Lower.{lower_expr}
use Rattle.meaning.specs.Opcode.{Length, Lt, inst}
use Rattle.meaning.specs.State.{Res, done, refused}
use Rattle.meaning.specs.Statements.{iterate}
use Rattle.meaning.specs.declared.Token.{Token}
use Rattle.meaning.specs.declared.Instruction.{Instruction}
use Rattle.routines.specs.Pieces.{HasPairs, tokens_from}
use Rattle.store.proofs.Around.{loop_around, loop_entered, loop_left}
use Rattle.store.proofs.Compose.{known, leaf_after}
use Rattle.store.proofs.Runs.{due}
use Rattle.store.specs.Promise.{Leaf, Space, both, some_registers, uses}
use Rattle.store.specs.Store.{Fine, looped, loops_of, mode_of, nodes_of, outcome_of, pc_of, result_of, while_going, wide_of}
use Rattle.store.specs.declared.Scope.{Scope}
use Rattle.store.specs.declared.Step.{Step}
use lib.Dec.{lit<}
use lib.ListN.{length, length-append}
use mathlib.Core.List.{List, ◌++◌}
use mathlib.Core.Path.{ap, refl, sym, ◌∙◌, ◌≡◌}
use native.Mathlib.Omega.{arith}
use mathlib.Core.Bool.{cond}
use Rattle.meaning.specs.Grammar.{wide_marks}

-- code that is added makes the code no shorter
pub code_longer : (r : Res (List Instruction)) (c d : Config) → on r (λ l u. going (config (c.code ++ l) 0 u)) ≡ going d → length c.code ≤ length d.code
unfolding on
code_longer (refused k n) c d e = let z : ◌≡◌ {A = ℕ} 0 1 = cc in absurd (omega arith)
code_longer (done l u) c d e =
    let z : config (c.code ++ l) 0 u ≡ d = cc in
    omega (arith, ap (λ (y : Config). length y.code) z, length-append c.code l)

-- Length, Lt, Test and Jmp stand before the names
pub head_longer : (node : ℕ) (names : List Token) (counter mark : ℕ) (c d : Config) → head_for_in node names counter mark c ≡ going d → length c.code + 4 ≤ length d.code
unfolding head_for_in fwd_by test_and_jump
head_longer node names counter mark c d e =
    let c4 = test_and_jump 0 mark (give (counter + 2) (emit (inst Lt (counter + 2) counter (counter + 1) mark) (emit (inst Length (counter + 1) c.result 0 mark) c))) in
    omega (arith, simp length-append at (code_longer (iterate node mark (counter + 3) c.result counter names c.state) c4 d e))

-- what is known of where a for-in's words stand
abbrev pub Stands : List ℕ → ℕ → Type 0
Stands t i =
    (tokens_at (fields t) i 3 (count_of (fields t) i) ≡ pairs_in (wide_marks (fields t)) (file_words (fields t) i) (3 + extra (wide_marks (fields t))) ((count_of (fields t) i - 3) / 2))
    × (length (file_words (fields t) i) ≡ 3 + extra (wide_marks (fields t)) + (2 * ((count_of (fields t) i - 3) / 2) + cond (wide_marks (fields t)) ((count_of (fields t) i - 3) / 2) 0))

-- the pairs of the payload are the node's names
pub all_names : {t w : List ℕ} {q : Scope} {s : Step} {a b c : ℕ} (i : ℕ) (payload : List ℕ) → Ready t w q s a b c → payload ≡ (field_at (fields t) i).payload → Stands t i
    → tokens_from q payload (3 + wide_of q) ((count_of (fields t) i - 3) / 2) ≡ tokens_at (fields t) i 3 (count_of (fields t) i)
all_names {t = t} {q = q} i payload r e k =
    tokens_same t q i payload (3 + wide_of q) (3 + extra (wide_marks (fields t))) ((count_of (fields t) i - 3) / 2) r.width e (ap (λ m. 3 + m) r.width) ∙ sym k.0

-- and all of them are there
pub all_there : {t w : List ℕ} {q : Scope} {s : Step} {a b c : ℕ} (i : ℕ) (payload : List ℕ) → Ready t w q s a b c → payload ≡ (field_at (fields t) i).payload → Stands t i → HasPairs q payload (3 + wide_of q) ((count_of (fields t) i - 3) / 2)
all_there {t = t} {q = q} i payload r e k = has_pairs t q i payload (3 + wide_of q) (3 + extra (wide_marks (fields t))) ((count_of (fields t) i - 3) / 2) r.width e (ap (λ m. 3 + m) r.width) (omega (arith, k.1))

module _ {t w : List ℕ} {p : Scope} {s : Step} {i : ℕ} (g : GivenStmt t w p s i) (x : ForIn (fields t) i) where
  pub at_open : Fine w p s × Space w p s 0 0 0
  at_open = let y = stand 0 0 0 (from g.ready) (omega arith) (omega arith) (omega arith) (omega arith) in (y.fine, y.room)

  pub open_loops : loops_of p < nodes_of p + 10
  open_loops = let n = for_in_size x in omega (arith, g.ready.loops)

  module _ {w1 : List ℕ} {s1 : Step} (d1 : Leaf w p s w1 p s1 (both (some_registers 4) (uses 2 0 0)) (open_for_in i (word_of (fields t) i 0))) (h1 : while_going (outcome_of s1) (result_of s1 + 3 < 255)) where
    pub collection : AskExpr t w1 p s1 (word_of (fields t) i 1)
    collection = let n = for_in_size x in give_expr (from g.ready ▹ d1.moves) g.known x.collection (omega arith) (omega arith) (omega arith) (omega arith)

    module _ {o w2 o2 : List ℕ} {s2 : Step} (d2 : LowersExpr t (word_of (fields t) i 1) w1 o p s1 w2 o2 s2) where
      pub at_head : {payload : List ℕ} → HasPairs p payload (3 + wide_of p) ((count_of (fields t) i - 3) / 2) → (count_of (fields t) i - 3) / 2 < 65536
          → Fine w2 p s2 × Space w2 p s2 0 11 1 × (1 ≤ (count_of (fields t) i - 3) / 2) × HasPairs p payload (3 + wide_of p) ((count_of (fields t) i - 3) / 2) × ((count_of (fields t) i - 3) / 2 < 65536) × while_going (outcome_of s2) ((result_of s1 + 3 < 255) × (result_of s2 < 256))
      at_head there few =
          let n = for_in_size x in
          let y = stand 0 11 1 (from g.ready ▹ d1.moves ▹ d2.does.moves) (omega arith) (omega arith) (omega arith) (omega arith) in (
            y.fine,
            y.room,
            omega (arith, x.size),
            there,
            few,
            meanwhile (outcome_of s2) ((result_of s1 + 3 < 255) × (result_of s2 < 256)) λ a.
                let v1 = due (outcome_of s1) h1 (d2.does.moves.back a) in
                let v2 = due (outcome_of s2) d2.small a in
                (v1, omega arith),
          )

      module _ {w3 : List ℕ} {s3 : Step} (d3 : Leaf w2 p s2 w3 p s3 (uses 11 1 0) (head_for_in i (tokens_at (fields t) i 3 (count_of (fields t) i)) (result_of s1) (word_of (fields t) i 0))) where
        pub body : AskStmt t w3 (looped p) s3 (word_of (fields t) i 2)
        body = let n = for_in_size x in give_looped (from g.ready ▹ d1.moves ▹ d2.does.moves ▹ d3.moves) g.known x.body (omega arith) (omega arith) (omega arith) (omega arith)

        module _ {w4 o4 : List ℕ} {s4 : Step} (d4 : LowersStmt t (word_of (fields t) i 2) w3 o2 (looped p) s3 w4 o4 s4) where
          pub at_end : Fine w4 p s4 × Space w4 p s4 0 4 0 × while_going (outcome_of s4) ((pc_of s ≤ pc_of s4) × (pc_of s2 + 4 ≤ pc_of s4) × (result_of s1 < 256))
          at_end =
              let n = for_in_size x in
              let m4 = loop_around p d3.moves.fine d4.does.moves in
              let y = stand 0 4 0 (from g.ready ▹ d1.moves ▹ d2.does.moves ▹ d3.moves ▹ m4) (omega arith) (omega arith) (omega arith) (omega arith) in (
                y.fine,
                y.room,
                meanwhile (outcome_of s4) ((pc_of s ≤ pc_of s4) × (pc_of s2 + 4 ≤ pc_of s4) × (result_of s1 < 256)) λ e.
                    let e3 = m4.back e in
                    let v1 = due (outcome_of s1) h1 (d2.does.moves.back (d3.moves.back e3)) in
                    let l = due (outcome_of s3) (leaf_known (λ n v n' v'. n + 4 ≤ n') d3 (head_longer _ _ _ _)) e3 in
                    let l1 = d1.moves.longer in
                    let l2 = d2.does.moves.longer in
                    let l4 = m4.longer in
                    (omega arith, omega arith, omega arith),
              )

          module _ {w5 : List ℕ} {s5 : Step} (d5 : Leaf w4 p s4 w5 p s5 (uses 4 0 0) (sure (end_for_in (mode_of p) (pc_of s) (pc_of s2) (result_of s1) (word_of (fields t) i 0)))) where
            pub lowers : UnderStmt t i w o p s w5 o4 s5
            unfolding lower_expr end_for_in end_loop
            lowers =
                let n = for_in_size x in
                let m4 = loop_around p d3.moves.fine d4.does.moves in
                arrive _ _ _ (from g.ready ▹ d1.moves ▹ d2.does.moves ▹ d3.moves ▹ m4 ▹ d5.moves) (omega arith) (omega arith) (omega arith) (λ z. omega arith) (omega (arith, for_in_visits x))
                (d4.does.same ∙ d2.does.same) (sets d5 0 (λ c. refl) (λ e. lit< tt)) λ ps z.
                let a1 = leaf_after d1 o ps z in
                let a2 = next a1 d2.does in
                let a3 = next_leaf a2 d3 in
                let a4 = next_leaf a3 (loop_entered d3.moves.fine open_loops) in
                let a5 = next a4 d4.does in
                let a6 = next_leaf a5 (loop_left p d4.does.moves.fine) in
                let a7 = next_leaf a6 d5 in
                ends a7 (rw x.is
                (for_in_chain (mode_of p) _ _ _ _ _ _ _ (known _ _ _ ps) _ a1.runs _ (known _ _ _ a1.protos) _ a2.runs _ (known _ _ _ a2.protos) _ a3.runs _ a4.runs _ a5.runs _ a6.runs _ a7.runs))
