-- The kinds stand in the order of their numbers.
use mathlib.Core.Path.{◌≡◌, refl}
use Prim.Native.Nat.{◌<◌}
use native.Mathlib.Omega.{arith}
use denote.Enum.Declared.{tag_of}
use Rattle.tree.specs.contracts.rows.Kind.{the_type}
use Rattle.tree.specs.declared.rows.Kind.{Kind}
use Rattle.tree.specs.declared.rows.Kind.TheVariants.{Nothing, Any, Name, Op, Op12, Count, Expr, Stmt, Elif, Method, Super, Init}
use Rattle.tree.specs.Rows.{number}
use Rattle.tree.proofs.rows.Kind.number.Goals as goal

order : (k : Kind) → (tag_of the_type k ≡ number k) × (tag_of the_type k < 12)
unfolding number
order Nothing = (refl, omega arith)
order Any = (refl, omega arith)
order Name = (refl, omega arith)
order Op = (refl, omega arith)
order Op12 = (refl, omega arith)
order Count = (refl, omega arith)
order Expr = (refl, omega arith)
order Stmt = (refl, omega arith)
order Elif = (refl, omega arith)
order Method = (refl, omega arith)
order Super = (refl, omega arith)
order Init = (refl, omega arith)

pub returns : goal.returns
returns c = order c.args.self
