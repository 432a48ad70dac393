-- fn visit_binary_expr: a small number on the right of Plus, on the left of Minus, or neither.
use Prim.Native.Nat.{ℕ, ◌+◌}
use Rattle.meaning.specs.Opcode.{minus, plus}
use Rattle.meaning.specs.Visits.{under_expr, visits_expr}
use Rattle.std.specs.Prelude.{None, Some, is_some}
use Rattle.values.specs.Literals.{small_as}
use Rattle.meaning.proofs.Reading.{Binary}
use Rattle.meaning.specs.At.{expr_at, word_of}
use Rattle.meaning.specs.Expressions.{visit_addi, visit_binary, visit_both}
use Rattle.meaning.specs.Fields.{Field}
use Rattle.meaning.specs.Lower.{lower_expr}
use Rattle.meaning.specs.Syntax.{small_if}
use lib.Dec.{eqb}
use mathlib.Core.List.{List}
use mathlib.Core.Option.{Option, none, some}
use mathlib.Core.Path.{◌≡◌, refl, sym, ap}
use mathlib.Core.Bool.{true, false}
use native.Mathlib.Omega.{arith}

-- what was found
some_small : (o : Option ℕ) (k : ℕ) → Some k ≡ small_as o → o ≡ some k
some_small none k e = cc
some_small (some j) k e = let z : k ≡ j = cc in ap some (sym z)

none_small : (o : Option ℕ) → None ≡ small_as o → o ≡ none
none_small none e = refl
none_small (some k) e = cc

minus_small : (o : Option ℕ) → is_some (small_as o) ≡ true → (j : ℕ) × (o ≡ some j)
minus_small none e = cc
minus_small (some j) e = (j, refl)

both_small : (o : Option ℕ) → is_some (small_as o) ≡ false → o ≡ none
both_small none e = refl
both_small (some k) e = cc

module _ (mode : ℕ) {fs : List Field} {i : ℕ} (x : Binary fs i) where
  abbrev right : Option ℕ
  right = small_if (eqb (word_of fs i 0) plus) (expr_at fs (word_of fs i 3))

  abbrev left : Option ℕ
  left = small_if (eqb (word_of fs i 0) minus) (expr_at fs (word_of fs i 2))

  pub is_addi : (k : ℕ) → Some k ≡ small_as right → visit_addi i (word_of fs i 1) k (lower_expr mode (expr_at fs (word_of fs i 2))) ≡ lower_expr mode (expr_at fs i)
  unfolding lower_expr visit_binary
  is_addi k e = rw (x.is, some_small _ k e)

  pub addi_visits : (k : ℕ) → Some k ≡ small_as right → visits_expr (expr_at fs (word_of fs i 2)) ≡ under_expr (expr_at fs i)
  unfolding under_expr
  addi_visits k e = rw (x.is, some_small _ k e) (omega arith)

  module _ (e : None ≡ small_as right) where
    pub is_minus : is_some (small_as left) ≡ true
        → visit_binary i (word_of fs i 0) (word_of fs i 1) none (some 0) (lower_expr mode (expr_at fs (word_of fs i 2))) (lower_expr mode (expr_at fs (word_of fs i 3))) ≡ lower_expr mode (expr_at fs i)
    unfolding lower_expr visit_binary
    is_minus f = rw (x.is, none_small _ e, (minus_small _ f).1)

    pub is_both : is_some (small_as left) ≡ false
        → visit_both i (word_of fs i 0) (word_of fs i 1) (lower_expr mode (expr_at fs (word_of fs i 2))) (lower_expr mode (expr_at fs (word_of fs i 3))) ≡ lower_expr mode (expr_at fs i)
    unfolding lower_expr visit_binary
    is_both f = rw (x.is, none_small _ e, both_small _ f)

    pub minus_visits : is_some (small_as left) ≡ true
        → visits_expr (expr_at fs (word_of fs i 2)) + (visits_expr (expr_at fs (word_of fs i 3)) + visits_expr (expr_at fs (word_of fs i 3))) ≡ under_expr (expr_at fs i)
    unfolding under_expr
    minus_visits f = rw (x.is, none_small _ e, (minus_small _ f).1)

    pub both_visits : is_some (small_as left) ≡ false → visits_expr (expr_at fs (word_of fs i 2)) + visits_expr (expr_at fs (word_of fs i 3)) ≡ under_expr (expr_at fs i)
    unfolding under_expr
    both_visits f = rw (x.is, none_small _ e, both_small _ f)
