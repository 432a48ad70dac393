-- fn binary_literal at Minus: the right side and a register, whose code is cut off, then both sides.
use Prim.Native.Nat.{ℕ, ◌+◌, ◌≤◌}
use Rattle.cycle.proofs.Dropped.{Rolls, next_rolled, rolled}
use Rattle.cycle.proofs.Sizes.{binary_size}
use Rattle.cycle.proofs.Way.{Way, arrive, ends, from, give_expr, next, next_leaf, stand, ◌▹◌}
use Rattle.cycle.specs.Cycle.{AskExpr, GivenExpr, LowersBoth, LowersExpr, LowersMinus, seen}
use Rattle.forward.proofs.Chains.{minus_chain}
use Rattle.forward.specs.Forward.{fwd_number}
use Rattle.meaning.proofs.Reading.{Binary}
use Rattle.meaning.specs.At.{expr_at, word_of}
use Rattle.meaning.specs.Fields.{fields}
use Rattle.meaning.specs.State.{next_register}
use Rattle.meaning.specs.Weight.{size_expr}
use Rattle.store.proofs.Compose.{known}
use Rattle.store.specs.Promise.{Leaf, a_register, takes}
use Rattle.store.specs.declared.Scope.{Scope}
use Rattle.store.specs.declared.Step.{Step}
use Rattle.store.specs.Store.{pc_of}
use mathlib.Core.List.{List}
use mathlib.Core.Path.{refl, ◌∙◌}
use native.Mathlib.Omega.{arith}

module _ {t w : List ℕ} {p : Scope} {s : Step} {i : ℕ} (g : GivenExpr t w p s i) (x : Binary (fields t) i) where
  pub right : AskExpr t w p s (word_of (fields t) i 3)
  right = let n = binary_size x in give_expr (from g.ready) g.known x.right (omega arith) (omega arith) (omega arith) (omega arith)

  module _ {o w1 o1 : List ℕ} {s1 : Step} (d1 : LowersExpr t (word_of (fields t) i 3) w o p s w1 o1 s1) where
    module _ {w2 : List ℕ} {s2 : Step} (d2 : Leaf w1 p s1 w2 p s2 a_register (fwd_number (next_register i))) where
      pub longer : pc_of s ≤ pc_of s2
      longer = omega (arith, d1.does.moves.longer, d2.moves.longer)

      module _ {s3 : Step} (d3 : Rolls s2 (pc_of s) s3) where
        -- nothing was used so far, but the right side was visited
        pub again : Way t w p s (size_expr (expr_at (fields t) i)) 0 0 w2 p s3 (takes 0 0 (0 + seen t i 3 + 0))
        again = rolled d3 refl (omega arith) (from g.ready ▹ d1.does.moves ▹ d2.moves)

        pub all : GivenExpr t w2 p s3 i
        all = record { ready = stand _ 0 0 again (omega arith) (omega arith) (omega arith) (omega arith); known = g.known }

        module _ {w4 o4 : List ℕ} {s4 : Step} (d4 : LowersBoth t i w2 o1 p s3 w4 o4 s4) where
          pub lowers : LowersMinus t i w o p s w4 o4 s4
          lowers =
              arrive _ _ _ (again ▹ d4.does.moves) (omega arith) (omega arith) (omega arith) (λ z. refl) (omega arith) (d4.does.same ∙ d1.does.same) d4.small λ ps z.
              let a1 = d1.does.does ps z in
              let a2 = next_leaf a1 d2 in
              let a3 = next_rolled d3 a2 in
              let a4 = next a3 d4.does in
              ends a4 (minus_chain _ _ _ _ _ _ _ _ (known _ _ _ ps) _ a1.runs _ a2.runs _ a3.runs _ a4.runs)
