-- The table of limits is that of the grammar's bounds, kind by kind.
use mathlib.Core.Path.{◌≡◌, refl}
use mathlib.Core.Bool.{not, ◌&&◌}
use Prim.Native.Nat.{ℕ}
use lib.ListN.{get_or}
use lib.Dec.{leb, eqb}
use Rattle.meaning.specs.Grammar.{inside, bound, bounds}
use Rattle.tree.specs.declared.rows.Kind.{Kind}
use Rattle.tree.specs.declared.rows.Kind.TheVariants.{Nothing, Any, Name, Op, Op12, Count, Expr, Stmt, Elif, Method, Super, Init}
use Rattle.tree.specs.declared.rows.Limits.{Limits}
use Rattle.tree.specs.declared.rows.TheConstants.{LIMITS}
use Rattle.tree.specs.Rows.{number}
use Rattle.tree.proofs.rows.Kind.admits.Goals as goal

abbrev none : Limits
none = record { low = 0; high = 0; but = 0 }

tested : (k : Kind) (v : ℕ) → let l = get_or LIMITS (number k) none in leb l.low v && leb v l.high && not (eqb v l.but) ≡ inside (number k) v
unfolding number inside bound bounds
tested Nothing v = refl
tested Any v = refl
tested Name v = refl
tested Op v = refl
tested Op12 v = refl
tested Count v = refl
tested Expr v = refl
tested Stmt v = refl
tested Elif v = refl
tested Method v = refl
tested Super v = refl
tested Init v = refl

pub returns : goal.returns
returns c = rw c.number.ensures.0 (tested c.args.self c.args.v)
