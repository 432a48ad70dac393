-- fn visit_return_stmt: with no value one instruction, else the value and its Return.
use Prim.Native.Nat.{ℕ, ◌+◌, ◌<◌, ◌≤◌}
use Rattle.meaning.proofs.Reading.{Return as ReturnNode}
use Rattle.cycle.proofs.Sizes.{return_size}
use Rattle.cycle.proofs.Way.{arrive, ends, from, give_expr, next_leaf, sets_by, stand, ◌▹◌}
use Rattle.cycle.proofs.Visited.{return_visits}
use Rattle.cycle.specs.Cycle.{AskExpr, GivenStmt, LowersExpr, UnderStmt}
use Rattle.forward.proofs.Chains.{return_chain}
use Rattle.forward.specs.Forward.{Config, end_return, going, pick, put, stopped}
use Rattle.meaning.proofs.Lists.{lt_or_le}
use Rattle.meaning.specs.At.{count_of, word_of}
use Rattle.meaning.specs.Fields.{Field, fields}
use Rattle.meaning.specs.Lower.{lower_expr}
use Rattle.meaning.specs.Opcode.{Return, inst}
use Rattle.meaning.specs.Read.{words_at}
use Rattle.meaning.specs.declared.Cause.TheVariants.{Returned}
use Rattle.nodes.specs.Nodes.{word_or_absent}
use Rattle.store.specs.Promise.{Leaf, Space, uses}
use Rattle.store.specs.Store.{Fine, outcome_of, result_of, while_going}
use Rattle.store.specs.declared.Scope.{Scope}
use Rattle.store.specs.declared.Step.{Step}
use borrow.Author.Tests.{le-ltb, lt-ltb}
use lib.Dec.{eqb}
use mathlib.Core.Bool.{Bool, false, true}
use mathlib.Core.List.{List}
use mathlib.Core.Logic.{⊎_elim}
use mathlib.Core.Path.{ap, sym, ◌≡◌, ◌∙◌}
use Rattle.std.specs.Prelude.{None, Option, Some}
use native.Mathlib.Omega.{arith}

-- the result of an end is register 0
pub end_zero : (node mark : ℕ) (c d : Config) → end_return node mark c ≡ going d → d.result ≡ 0
unfolding end_return pick
end_zero node mark c d e = by (eqb c.result 254) e
  where
    by : (b : Bool) → pick b (stopped Returned node) (going (put 0 (inst Return c.result (c.result + 2) 0 mark) c)) ≡ going d → d.result ≡ 0
    by true e = let z : ◌≡◌ {A = ℕ} 0 1 = cc in absurd (omega arith)
    by false e = let z : put 0 (inst Return c.result (c.result + 2) 0 mark) c ≡ d = cc in sym (ap (λ (y : Config). y.result) z)

-- there is one word or there are two: there is no value, or it is the second
module _ {fs : List Field} {i : ℕ} (x : ReturnNode fs i) {v : Option ℕ} (e : v ≡ word_or_absent (words_at fs i) 1) where
  pub one_word : v ≡ None → count_of fs i ≡ 1
  one_word h = ⊎_elim (λ (a : count_of fs i < 2). omega (arith, x.size.0)) (λ (a : 2 ≤ count_of fs i). let y = rw (lt-ltb 1 (count_of fs i) (omega arith)) at (sym h ∙ e) in cc) (lt_or_le (count_of fs i) 2)

  pub two_words : {n : ℕ} → v ≡ Some n → (count_of fs i ≡ 2) × (n ≡ word_of fs i 1)
  two_words h =
      ⊎_elim (λ (a : count_of fs i < 2). let y = rw (le-ltb 1 (count_of fs i) (omega arith)) at (sym h ∙ e) in (cc, cc))
      (λ (a : 2 ≤ count_of fs i). let y = rw (lt-ltb 1 (count_of fs i) (omega arith)) at (sym h ∙ e) in (omega (arith, x.size.1), cc)) (lt_or_le (count_of fs i) 2)

module _ {t w : List ℕ} {p : Scope} {s : Step} {i : ℕ} (g : GivenStmt t w p s i) (x : ReturnNode (fields t) i) (two : count_of (fields t) i ≡ 2) where
  pub value : AskExpr t w p s (word_of (fields t) i 1)
  value = let n = return_size x two in give_expr (from g.ready) g.known (x.value two) (omega arith) (omega arith) (omega arith) (omega arith)

  module _ {o w1 o1 : List ℕ} {s1 : Step} (d1 : LowersExpr t (word_of (fields t) i 1) w o p s w1 o1 s1) where
    pub at_end : Fine w1 p s1 × Space w1 p s1 0 2 0 × while_going (outcome_of s1) (result_of s1 < 255)
    at_end =
        let n = return_size x two in
        let y = stand 0 2 0 (from g.ready ▹ d1.does.moves) (omega arith) (omega arith) (omega arith) (omega arith) in
        (y.fine, y.room, d1.small)

    pub lowers : {w2 : List ℕ} {s2 : Step} → Leaf w1 p s1 w2 p s2 (uses 2 0 0) (end_return i (word_of (fields t) i 0)) → UnderStmt t i w o p s w2 o1 s2
    unfolding lower_expr
    lowers d2 =
        let n = return_size x two in
        arrive _ _ _ (from g.ready ▹ d1.does.moves ▹ d2.moves) (omega arith) (omega arith) (omega arith) (λ z. omega arith) (omega (arith, return_visits x two))
        d1.does.same (sets_by 0 d2 (end_zero i (word_of (fields t) i 0)) (λ e. omega arith)) λ ps z.
        let a1 = d1.does.does ps z in
        let a2 = next_leaf a1 d2 in
        ends a2 (rw (x.is_some two) (return_chain _ _ _ _ _ a1.runs _ a2.runs))
