-- fn visit_try_catch_stmt: the body between its marks, then in a block of its own the caught value's register and the catch part's body; at last the two places that point past them.
use Prim.Native.Nat.{ℕ, ◌+◌, ◌<◌, ◌≤◌}
use Rattle.cycle.proofs.Visited.{try_visits}
use Rattle.cycle.proofs.Sizes.{try_size}
use Rattle.cycle.proofs.Way.{adds, arrive, ends, from, give_stmt, meanwhile, next, next_leaf, next_left, sets, stand, stand_at, to, twice, ◌▹◌}
use Rattle.cycle.specs.Cycle.{AskStmt, GivenStmt, LowersStmt, Ready, UnderStmt}
use Rattle.forward.proofs.Chains.{try_chain}
use Rattle.forward.specs.Forward.{end_try, end_try_body, fwd_unit, open_catch, open_try_body, sure}
use Rattle.meaning.proofs.Reading.{Try}
use Rattle.meaning.specs.At.{stmt_at, word_of}
use Rattle.meaning.specs.Fields.{fields}
use Rattle.meaning.specs.Lower.{lower_expr}
use Rattle.meaning.specs.Read.{token}
use Rattle.meaning.specs.State.{enter_block}
use Rattle.meaning.specs.Weight.{size_stmt}
use Rattle.store.proofs.Around.{block_around}
use Rattle.store.proofs.Leaving.{left_runs}
use Rattle.store.proofs.Compose.{known, leaf_after}
use Rattle.store.specs.Promise.{Leaf, Popped, Space, a_register, both, nothing, uses}
use Rattle.store.specs.Store.{Fine, Kept, Sound, block_of, deeper, nodes_of, outcome_of, pc_of, while_going}
use Rattle.store.specs.declared.Scope.{Scope}
use Rattle.store.specs.declared.Step.{Step}
use lib.Dec.{lit<}
use mathlib.Core.List.{List}
use mathlib.Core.Path.{refl, ◌∙◌}
use native.Mathlib.Omega.{arith}

module _ {t w : List ℕ} {p : Scope} {s : Step} {i : ℕ} (g : GivenStmt t w p s i) (x : Try (fields t) i) where
  pub at_open : Fine w p s × Space w p s 0 2 0
  at_open = let n = try_size x in let y = stand 0 2 0 (from g.ready) (omega arith) (omega arith) (omega arith) (omega arith) in (y.fine, y.room)

  module _ {w1 : List ℕ} {s1 : Step} (d1 : Leaf w p s w1 p s1 (uses 2 0 0) (sure open_try_body)) where
    pub body : AskStmt t w1 p s1 (word_of (fields t) i 0)
    body = let n = try_size x in give_stmt (from g.ready ▹ d1.moves) g.known x.body (omega arith) (omega arith) (omega arith) (omega arith)

    module _ {o w2 o2 : List ℕ} {s2 : Step} (d2 : LowersStmt t (word_of (fields t) i 0) w1 o p s1 w2 o2 s2) where
      pub at_body : Fine w2 p s2 × Space w2 p s2 0 4 0
      at_body = let n = try_size x in let y = stand 0 4 0 (from g.ready ▹ d1.moves ▹ d2.does.moves) (omega arith) (omega arith) (omega arith) (omega arith) in (y.fine, y.room)

      module _ {w3 : List ℕ} {s3 : Step} (d3 : Leaf w2 p s2 w3 p s3 (uses 4 0 0) (sure end_try_body)) where
        pub at_enter : Sound w3 p × (block_of p < nodes_of p + 10)
        at_enter = let n = try_size x in (d3.moves.fine.sound, omega (arith, g.ready.blocks, g.ready.fine.sound.deep))

        module _ {w4 : List ℕ} (k4 : Kept w3 (deeper p) w4) (d4 : Leaf w3 p s3 w4 (deeper p) s3 nothing (fwd_unit enter_block)) where
          pub inner_ready : Ready t w4 (deeper p) s3 (size_stmt (stmt_at (fields t) (word_of (fields t) i 3))) 2 0
          inner_ready =
              let n = try_size x in
              stand_at _ 2 0 (to (deeper p) refl refl (omega arith) (omega arith) (from g.ready ▹ d1.moves ▹ d2.does.moves ▹ d3.moves) d4.moves) (omega arith) (omega arith) (omega arith) (omega (arith, g.ready.blocks)) (omega (arith, g.ready.loops))

          pub at_catch : Fine w4 (deeper p) s3 × Space w4 (deeper p) s3 0 2 0 × (word_of (fields t) i 1 < 65536)
          at_catch = let y = stand 0 2 0 (from inner_ready) (omega arith) (omega arith) (omega arith) (omega arith) in (y.fine, y.room, omega (arith, x.name))

          module _ {w5 : List ℕ} {s5 : Step} (d5 : Leaf w4 (deeper p) s3 w5 (deeper p) s5 (both a_register (uses 5 1 0)) (open_catch i (token (word_of (fields t) i 1) (word_of (fields t) i 2)))) where
            pub catch : AskStmt t w5 (deeper p) s5 (word_of (fields t) i 3)
            catch = give_stmt (from inner_ready ▹ d5.moves) g.known x.catch (omega arith) (omega arith) (omega arith) (omega arith)

            module _ {w6 o6 : List ℕ} {s6 : Step} (d6 : LowersStmt t (word_of (fields t) i 3) w5 o2 (deeper p) s5 w6 o6 s6) where
              module _ {w7 : List ℕ} (d7 : Popped w6 p w7) where
                pub at_end : Fine w7 p s6 × while_going (outcome_of s6) ((pc_of s ≤ pc_of s2) × (pc_of s2 < pc_of s6))
                unfolding end_try_body
                at_end =
                    let m7 = block_around d3.moves.fine k4 d4.moves (from inner_ready ▹ d5.moves ▹ d6.does.moves).moves d7 in (
                      m7.fine,
                      meanwhile (outcome_of s6) ((pc_of s ≤ pc_of s2) × (pc_of s2 < pc_of s6)) λ e.
                          let l = adds d3 2 (λ c. twice c.code _ _) (m7.back e) in
                          (omega (arith, d1.moves.longer, d2.does.moves.longer), omega (arith, m7.longer)),
                    )

                module _ {w8 : List ℕ} {s8 : Step} (d8 : Leaf w7 p s6 w8 p s8 (uses 0 0 0) (sure (end_try (pc_of s) (pc_of s2)))) where
                  pub lowers : UnderStmt t i w o p s w8 o6 s8
                  unfolding lower_expr end_try
                  lowers =
                      let n = try_size x in
                      let m = (from inner_ready ▹ d5.moves ▹ d6.does.moves).moves in
                      arrive _ _ _ (from g.ready ▹ d1.moves ▹ d2.does.moves ▹ d3.moves ▹ block_around d3.moves.fine k4 d4.moves m d7 ▹ d8.moves) (omega arith) (omega arith) (omega arith) (λ z. omega arith) (omega (arith, try_visits x))
                      (d6.does.same ∙ d2.does.same) (sets d8 0 (λ c. refl) (λ e. lit< tt)) λ ps z.
                      let a1 = leaf_after d1 o ps z in
                      let a2 = next a1 d2.does in
                      let a3 = next_leaf a2 d3 in
                      let a4 = next_leaf a3 d4 in
                      let a5 = next_leaf a4 d5 in
                      let a6 = next a5 d6.does in
                      let a7 = next_left a6 (left_runs m.fine d7) in
                      let a8 = next_leaf a7 d8 in
                      ends a8 (rw x.is (try_chain _ _ _ _ _ _ (known _ _ _ ps) _ a1.runs _ a2.runs _ (known _ _ _ a2.protos) _ a3.runs _ a4.runs _ a5.runs _ a6.runs _ a7.runs _ a8.runs))
