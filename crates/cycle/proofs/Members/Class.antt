-- fn visit_class_stmt: two registers and the name's constant, the superclass, Class, then the methods in a block of their own, and the class's name.
use Prim.Native.Nat.{ℕ, ◌*◌, ◌+◌, ◌<◌, ◌≤◌}
use Rattle.meaning.proofs.Reading.{Class}
use Rattle.cycle.proofs.Nodes.{behind_later}
use Rattle.cycle.proofs.Visited.{class_visits}
use Rattle.cycle.proofs.Sizes.{class_size}
use Rattle.cycle.proofs.Way.{arrive, ends, few_results, from, in_block, meanwhile, next, next_leaf, next_left, on_node, stand, ◌▹◌}
use Rattle.meaning.specs.Visits.{visits_funs}
use Rattle.cycle.specs.Cycle.{AskMethods, GivenStmt, LowersMethods, Ready, UnderStmt}
use Rattle.forward.proofs.Chains.{class_chain}
use Rattle.forward.specs.Forward.{end_class, fwd_unit, make_class, open_class, sure}
use Rattle.routines.specs.Node.{GivesSuper, OnNode, super_of}
use Rattle.meaning.specs.At.{Behind, count_of, funs_at, word_of}
use Rattle.meaning.specs.Fields.{fields}
use Rattle.meaning.specs.Lower.{lower_expr}
use Rattle.meaning.specs.Read.{token}
use Rattle.meaning.specs.State.{enter_block}
use Rattle.meaning.specs.Weight.{size_funs, size_super}
use Rattle.routines.specs.Pieces.{Small}
use Rattle.store.proofs.Around.{block_around}
use Rattle.store.proofs.Leaving.{left_runs}
use Rattle.store.proofs.Compose.{known, leaf_after}
use Rattle.store.proofs.Runs.{due}
use Rattle.store.specs.Promise.{Leaf, Moves, Popped, Space, both, boxed, nothing, some_registers, takes, uses}
use Rattle.store.specs.Store.{Fine, Kept, Sound, block_of, deeper, depth_of, goes_on, nodes_of, outcome_of, result_of, while_going, wide_of}
use Rattle.store.specs.declared.Scope.{Scope}
use Rattle.store.specs.declared.Step.{Step}
use lib.Dec.{lit<}
use mathlib.Core.List.{List}
use mathlib.Core.Path.{◌∙◌}
use native.Mathlib.Omega.{arith}

module _ {t w : List ℕ} {p : Scope} {s : Step} {i : ℕ} (g : GivenStmt t w p s i) (x : Class (fields t) i) (deep : depth_of p ≤ 7) where
  pub at_open : Fine w p s × Space w p s 0 0 0 × (word_of (fields t) i 0 < 65536)
  at_open = let y = stand 0 0 0 (from g.ready) (omega arith) (omega arith) (omega arith) (omega arith) in (y.fine, y.room, omega (arith, x.name))

  module _ {w1 : List ℕ} {s1 : Step}
      (d1 : Leaf w p s w1 p s1 (both (some_registers 2) (uses 2 0 0)) (open_class i (token (word_of (fields t) i 0) (word_of (fields t) i 1))) × while_going (outcome_of s1) (result_of s1 + 1 < 255)) where
    pub at_super : OnNode t w1 p s1 (size_super (super_of t i)) i
    at_super = let n = class_size x in on_node (stand (size_super (super_of t i)) 0 0 (from g.ready ▹ d1.0.moves) (omega arith) (omega arith) (omega arith) (omega arith)) g.known

    module _ {w2 : List ℕ} {s2 : Step} (d2 : GivesSuper t w1 p s1 w2 s2 i) where
      pub at_make : Fine w2 p s2 × Space w2 p s2 0 2 0 × while_going (outcome_of s2) ((result_of s1 < 255) × (result_of s2 < 256))
      at_make =
          let n = class_size x in
          let y = stand 0 2 0 (from g.ready ▹ d1.0.moves ▹ d2.leaf.moves) (omega arith) (omega arith) (omega arith) (omega arith) in (
            y.fine,
            y.room,
            meanwhile (outcome_of s2) ((result_of s1 < 255) × (result_of s2 < 256)) λ e.
                let a = due (outcome_of s1) d1.1 (d2.leaf.moves.back e) in
                let b = due (outcome_of s2) d2.small e in
                (omega arith, omega arith),
          )

      module _ {w3 : List ℕ} {s3 : Step} (d3 : Leaf w2 p s2 w3 p s3 (uses 2 0 0) (sure (make_class (result_of s1) (word_of (fields t) i 1)))) where
        pub at_enter : Sound w3 p × (block_of p < nodes_of p + 10)
        at_enter = let n = class_size x in (d3.moves.fine.sound, omega (arith, g.ready.blocks))

        -- the register stays a register
        pub small_class : (s' : Step) → (goes_on (outcome_of s') → goes_on (outcome_of s3)) → while_going (outcome_of s') (result_of s1 + 1 < 255)
        small_class s' h = meanwhile (outcome_of s') (result_of s1 + 1 < 255) λ e. due (outcome_of s1) d1.1 (d2.leaf.moves.back (d3.moves.back (h e)))

        module _ {w4 : List ℕ} (k4 : Kept w3 (deeper p) w4) (d4 : Leaf w3 p s3 w4 (deeper p) s3 nothing (fwd_unit enter_block)) where
          -- the methods and the static methods, in the block
          pub inside_block : Ready t w4 (deeper p) s3 (size_funs (funs_at (fields t) i 4 (4 + word_of (fields t) i 3)) + size_funs (funs_at (fields t) i (4 + word_of (fields t) i 3) (count_of (fields t) i))) 0 0
          inside_block = let n = class_size x in in_block (from g.ready ▹ d1.0.moves ▹ d2.leaf.moves ▹ d3.moves) d4.moves (omega arith) (omega arith) (omega arith) (omega arith)

          pub plain : Behind (fields t) i 2 (wide_of p) → AskMethods t w4 (deeper p) s3 i 4 (4 + word_of (fields t) i 3) (wide_of p) 32 (result_of s1)
          plain b = (
            record { ready = stand (size_funs (funs_at (fields t) i 4 (4 + word_of (fields t) i 3))) 0 0 (from inside_block) (omega arith) (omega arith) (omega arith) (omega arith); known = g.known; ends = x.size; each = λ j a b. x.method j a (omega (arith, b, x.size)); behind = behind_later 4 (omega arith) b },
            deep,
            lit< tt,
            few_results d1.0.moves.fine,
            small_class s3 (λ e. e),
          )

          module _ {o w5 o5 : List ℕ} {s5 : Step} (d5 : LowersMethods t i 4 (4 + word_of (fields t) i 3) (word_of (fields t) i 1) 32 (result_of s1) w4 o (deeper p) s3 w5 o5 s5) where
            pub statics : Behind (fields t) i 2 (wide_of p) → AskMethods t w5 (deeper p) s5 i (4 + word_of (fields t) i 3) (count_of (fields t) i) (wide_of p) 33 (result_of s1)
            statics b = (
              record { ready = stand (size_funs (funs_at (fields t) i (4 + word_of (fields t) i 3) (count_of (fields t) i))) 0 0 (from inside_block ▹ d5.does.moves) (omega arith) (omega arith) (omega arith) (omega arith); known = g.known; ends = omega arith; each = λ j a b. x.method j (omega arith) b; behind = behind_later (4 + word_of (fields t) i 3) (omega arith) b },
              deep,
              lit< tt,
              few_results d1.0.moves.fine,
              small_class s5 (λ e. d5.does.moves.back e),
            )

            module _ {w6 o6 : List ℕ} {s6 : Step} (d6 : LowersMethods t i (4 + word_of (fields t) i 3) (count_of (fields t) i) (word_of (fields t) i 1) 33 (result_of s1) w5 o5 (deeper p) s5 w6 o6 s6) {w7 : List ℕ} (d7 : Popped w6 p w7) where
              pub around : Moves w3 p s3 w7 p s6 (boxed (both (both nothing (takes (8 * size_funs (funs_at (fields t) i 4 (4 + word_of (fields t) i 3))) (size_funs (funs_at (fields t) i 4 (4 + word_of (fields t) i 3))) (visits_funs (funs_at (fields t) i 4 (4 + word_of (fields t) i 3))))) (takes (8 * size_funs (funs_at (fields t) i (4 + word_of (fields t) i 3) (count_of (fields t) i))) (size_funs (funs_at (fields t) i (4 + word_of (fields t) i 3) (count_of (fields t) i))) (visits_funs (funs_at (fields t) i (4 + word_of (fields t) i 3) (count_of (fields t) i))))))
              around = block_around d3.moves.fine k4 d4.moves (from inside_block ▹ d5.does.moves ▹ d6.does.moves).moves d7

              pub at_end : Fine w7 p s6 × Space w7 p s6 0 2 1 × (word_of (fields t) i 0 < 65536) × while_going (outcome_of s6) (result_of s1 < 255)
              at_end =
                  let n = class_size x in
                  let y = stand 0 2 1 (from g.ready ▹ d1.0.moves ▹ d2.leaf.moves ▹ d3.moves ▹ around) (omega arith) (omega arith) (omega arith) (omega arith) in
                  (y.fine, y.room, omega (arith, x.name), meanwhile (outcome_of s6) (result_of s1 < 255) λ e. let a = due (outcome_of s1) d1.1 (d2.leaf.moves.back (d3.moves.back (around.back e))) in omega arith)

              module _ {w8 : List ℕ} {s8 : Step} (d8 : Leaf w7 p s6 w8 p s8 (uses 2 1 0) (end_class i (token (word_of (fields t) i 0) (word_of (fields t) i 1)) (result_of s1)) × Small s8) where
                pub lowers : UnderStmt t i w o p s w8 o6 s8
                unfolding lower_expr
                lowers =
                    let n = class_size x in
                    arrive _ _ _ (from g.ready ▹ d1.0.moves ▹ d2.leaf.moves ▹ d3.moves ▹ around ▹ d8.0.moves) (omega arith) (omega arith) (omega arith) (λ z. omega arith) (omega (arith, class_visits x)) (d6.does.same ∙ d5.does.same) d8.1 λ ps z.
                    let a1 = leaf_after d1.0 o ps z in
                    let a2 = next_leaf a1 d2.leaf in
                    let a3 = next_leaf a2 d3 in
                    let a4 = next_leaf a3 d4 in
                    let a5 = next a4 d5.does in
                    let a6 = next a5 d6.does in
                    let a7 = next_left a6 (left_runs d6.does.moves.fine d7) in
                    let a8 = next_leaf a7 d8.0 in
                    ends a8 (rw x.is (class_chain _ _ _ _ _ _ _ a1.runs _ (known _ _ _ a1.protos) _ a2.runs _ a3.runs _ a4.runs _ a5.runs _ a6.runs _ a7.runs _ a8.runs))
