-- impl StmtAcceptor for Stmt: any step but a refused one goes to its tag's function, whose promise is the whole's; a function statement promises less than a statement may.
use Prim.Native.Nat.{ℕ}
use Rattle.cycle.proofs.Sizes.{define_size, fun_size}
use Rattle.cycle.proofs.Visited.{define_visits}
use Rattle.cycle.proofs.Way.{arrive, from, ◌▹◌}
use Rattle.cycle.specs.Cycle.{Given, GivenStmt, LowersFun, UnderStmt}
use Rattle.meaning.proofs.Reading.{Define}
use Rattle.meaning.specs.At.{fun_at}
use Rattle.meaning.specs.Fields.{fields}
use Rattle.meaning.specs.Lower.{lower_expr}
use Rattle.meaning.specs.Weight.{size_fun}
use Rattle.store.specs.declared.Scope.{Scope}
use Rattle.store.specs.declared.Step.{Step}
use mathlib.Core.List.{List}
use native.Mathlib.Omega.{arith}

-- a function statement, as a statement
pub fun_lowers : {t w o w' o' : List ℕ} {p : Scope} {s r : Step} {i : ℕ} → GivenStmt t w p s i → Define (fields t) i → LowersFun t i w o p s w' o' r → UnderStmt t i w o p s w' o' r
unfolding lower_expr
fun_lowers g x d =
    let n = define_size x in
    let m = fun_size x in
    arrive _ _ _ (from g.ready ▹ d.does.moves) (omega arith) (omega arith) (omega arith) (λ z. omega arith) (omega (arith, define_visits x)) d.does.same d.small (rw x.is d.does.does)

pub ask_fun : {t w : List ℕ} {p : Scope} {s : Step} {i : ℕ} → GivenStmt t w p s i → Define (fields t) i → Given t w p s i (size_fun (fun_at (fields t) i))
ask_fun g x = rw (define_size x) at g
