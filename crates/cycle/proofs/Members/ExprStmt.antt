-- fn visit_expr_stmt: its expression.
use Prim.Native.Nat.{ℕ}
use Rattle.cycle.proofs.Visited.{expression_visits}
use Rattle.cycle.proofs.Sizes.{expression_size}
use Rattle.cycle.proofs.Way.{arrive, ends, from, give_expr, ◌▹◌}
use Rattle.cycle.specs.Cycle.{AskExpr, GivenStmt, LowersExpr, UnderStmt}
use Rattle.meaning.proofs.Reading.{Expression}
use Rattle.meaning.specs.At.{word_of}
use Rattle.meaning.specs.Fields.{fields}
use Rattle.meaning.specs.Lower.{lower_expr}
use Rattle.store.specs.declared.Scope.{Scope}
use Rattle.store.specs.declared.Step.{Step}
use mathlib.Core.List.{List}
use native.Mathlib.Omega.{arith}

module _ {t w : List ℕ} {p : Scope} {s : Step} {i : ℕ} (g : GivenStmt t w p s i) (x : Expression (fields t) i) where
  pub value : AskExpr t w p s (word_of (fields t) i 0)
  value = let n = expression_size x in give_expr (from g.ready) g.known x.value (omega arith) (omega arith) (omega arith) (omega arith)

  pub lowers : {o w1 o1 : List ℕ} {s1 : Step} → LowersExpr t (word_of (fields t) i 0) w o p s w1 o1 s1 → UnderStmt t i w o p s w1 o1 s1
  unfolding lower_expr
  lowers d1 =
      let n = expression_size x in
      arrive _ _ _ (from g.ready ▹ d1.does.moves) (omega arith) (omega arith) (omega arith) (λ z. omega arith) (omega (arith, expression_visits x)) d1.does.same d1.small λ ps z.
      let a1 = d1.does.does ps z in
      ends a1 (rw x.is a1.runs)
