-- fn visit_let_stmt: with no initializer a leaf; a global stores its name, then its value; a local names its value's register.
use Prim.Native.Nat.{ℕ, ◌<◌, ◌≤◌}
use Rattle.cycle.proofs.Sizes.{let_as_size}
use Rattle.cycle.proofs.Way.{arrive, ends, from, give_expr, keeps, meanwhile, next, next_leaf, stand, ◌▹◌}
use Rattle.cycle.proofs.Visited.{let_as_visits}
use Rattle.cycle.specs.Cycle.{AskExpr, GivenStmt, LowersExpr, UnderStmt}
use Rattle.forward.proofs.Chains.{let_as_chain}
use Rattle.forward.specs.Forward.{emit, fwd_number, fwd_unit, sure}
use Rattle.meaning.proofs.Lists.{and_right, lt_or_le}
use Rattle.meaning.proofs.Reading.{Let}
use Rattle.meaning.specs.At.{count_of, word_of}
use Rattle.meaning.specs.Fields.{Field, fields}
use Rattle.meaning.specs.Lower.{lower_expr}
use Rattle.meaning.specs.Opcode.{SetGlobal, inst_bx}
use Rattle.meaning.specs.Read.{token, words_at}
use Rattle.meaning.specs.State.{allocate_register, is_global_context}
use Rattle.meaning.specs.Statements.{new_global}
use Rattle.nodes.specs.Nodes.{word_or_absent}
use Rattle.std.specs.Prelude.{None, Option, Some}
use Rattle.store.proofs.Compose.{known, leaf_after}
use Rattle.store.proofs.Runs.{due}
use Rattle.store.specs.Promise.{Leaf, Space, Tells, a_local, nothing, uses}
use Rattle.store.specs.Store.{Fine, block_of, depth_of, global_scope, outcome_of, result_of, while_going}
use Rattle.store.specs.declared.Scope.{Scope}
use Rattle.store.specs.declared.Step.{Step}
use borrow.Author.Tests.{eqb-true, le-ltb, lt-ltb}
use lib.Dec.{eqb}
use mathlib.Core.Bool.{Bool, false, true}
use mathlib.Core.List.{List}
use mathlib.Core.Logic.{⊎_elim}
use mathlib.Core.Path.{refl, sym, ◌≡◌, ◌∙◌}
use native.Mathlib.Omega.{arith}

-- the only block is open where the context is global
pub only_block : (p : Scope) → global_scope p ≡ true → block_of p ≡ 1
only_block p e = eqb-true (block_of p) 1 (and_right (eqb (depth_of p) 0) (eqb (block_of p) 1) e)

-- there are two words or three: there is no value, or it is the third
module _ {fs : List Field} {i : ℕ} (x : Let fs i) {v : Option ℕ} (e : v ≡ word_or_absent (words_at fs i) 2) where
  pub two_words : v ≡ None → count_of fs i ≡ 2
  two_words h = ⊎_elim (λ (a : count_of fs i < 3). omega (arith, x.size.0)) (λ (a : 3 ≤ count_of fs i). let y = rw (lt-ltb 2 (count_of fs i) (omega arith)) at (sym h ∙ e) in cc) (lt_or_le (count_of fs i) 3)

  pub three_words : {n : ℕ} → v ≡ Some n → (count_of fs i ≡ 3) × (n ≡ word_of fs i 2)
  three_words h =
      ⊎_elim (λ (a : count_of fs i < 3). let y = rw (le-ltb 2 (count_of fs i) (omega arith)) at (sym h ∙ e) in (cc, cc))
      (λ (a : 3 ≤ count_of fs i). let y = rw (lt-ltb 2 (count_of fs i) (omega arith)) at (sym h ∙ e) in (omega (arith, x.size.1), cc)) (lt_or_le (count_of fs i) 3)

module _ {t w : List ℕ} {p : Scope} {s : Step} {i : ℕ} (g : GivenStmt t w p s i) (x : Let (fields t) i) (three : count_of (fields t) i ≡ 3) where
  -- the value of a local comes first
  pub value : AskExpr t w p s (word_of (fields t) i 2)
  value = let n = let_as_size x three in give_expr (from g.ready) g.known (x.value three) (omega arith) (omega arith) (omega arith) (omega arith)

  module _ {global : Bool} (tells : Tells w p s global is_global_context) where
    module _ {o w1 o1 : List ℕ} {s1 : Step} (local : global ≡ false) (d1 : LowersExpr t (word_of (fields t) i 2) w o p s w1 o1 s1) where
      pub at_name : Fine w1 p s1 × Space w1 p s1 0 1 1 × (word_of (fields t) i 0 < 65536) × while_going (outcome_of s1) (result_of s1 < 255)
      at_name =
          let n = let_as_size x three in
          let y = stand 0 1 1 (from g.ready ▹ d1.does.moves) (omega arith) (omega arith) (omega arith) (omega arith) in
          (y.fine, y.room, omega (arith, x.name), d1.small)

      pub lowers_local : {w2 : List ℕ} → Leaf w1 p s1 w2 p s1 a_local (fwd_unit (allocate_register (word_of (fields t) i 0) (result_of s1))) → UnderStmt t i w o p s w2 o1 s1
      unfolding lower_expr
      lowers_local d2 =
          let n = let_as_size x three in
          arrive _ _ _ (from g.ready ▹ d1.does.moves ▹ d2.moves) (omega arith) (omega arith) (omega arith) (λ z. omega arith) (omega (arith, let_as_visits x three)) d1.does.same d1.small λ ps z.
          let a1 = d1.does.does ps z in
          let a2 = next_leaf a1 d2 in
          ends a2 (rw (x.is_as three) ((let_as_chain _ _ _ _ _ _ (tells ps)).1 local _ a1.runs _ (known _ _ _ a1.protos) _ a2.runs))

    -- the name of a global comes first
    module _ (global_is : global ≡ true) {w1 : List ℕ} {s1 : Step} (d1 : Leaf w p s w1 p s1 nothing (fwd_number (new_global i (token (word_of (fields t) i 0) (word_of (fields t) i 1))))) where
      pub value_after : AskExpr t w1 p s1 (word_of (fields t) i 2)
      value_after = let n = let_as_size x three in give_expr (from g.ready ▹ d1.moves) g.known (x.value three) (omega arith) (omega arith) (omega arith) (omega arith)

      module _ {o w2 o2 : List ℕ} {s2 : Step} (d2 : LowersExpr t (word_of (fields t) i 2) w1 o p s1 w2 o2 s2) where
        pub at_emit : Fine w2 p s2 × Space w2 p s2 0 2 0 × while_going (outcome_of s2) ((45 < 256) × (result_of s2 < 256))
        at_emit =
            let n = let_as_size x three in
            let y = stand 0 2 0 (from g.ready ▹ d1.moves ▹ d2.does.moves) (omega arith) (omega arith) (omega arith) (omega arith) in
            (y.fine, y.room, meanwhile (outcome_of s2) ((45 < 256) × (result_of s2 < 256)) λ e. let v = due (outcome_of s2) d2.small e in (omega arith, omega arith))

        pub lowers_global : {w3 : List ℕ} {s3 : Step} → Leaf w2 p s2 w3 p s3 (uses 2 0 0) (sure (emit (inst_bx SetGlobal (result_of s2) (result_of s1) (word_of (fields t) i 1)))) → UnderStmt t i w o p s w3 o2 s3
        unfolding lower_expr
        lowers_global d3 =
            let n = let_as_size x three in
            arrive _ _ _ (from g.ready ▹ d1.moves ▹ d2.does.moves ▹ d3.moves) (omega arith) (omega arith) (omega arith) (λ z. omega arith) (omega (arith, let_as_visits x three)) d2.does.same (keeps d3 (λ c. refl) d2.small) λ ps z.
            let a1 = leaf_after d1 o ps z in
            let a2 = next a1 d2.does in
            let a3 = next_leaf a2 d3 in
            ends a3 (rw (x.is_as three) ((let_as_chain _ _ _ _ _ _ (tells ps)).0 global_is _ a1.runs _ (known _ _ _ a1.protos) _ a2.runs _ (known _ _ _ a2.protos) _ a3.runs))
