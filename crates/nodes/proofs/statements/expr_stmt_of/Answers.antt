-- `nodes::statements::expr_stmt_of` meets its contract, word by word.
use mathlib.Core.Path.{◌∙◌}
use native.Mathlib.Omega.{arith}
use lib.Dec.{lit≤}
use Prim.Native.Nat.{◌≤◌}
use Rattle.meaning.specs.Fields.{fields}
use Rattle.meaning.specs.At.{count_of}
use Rattle.nodes.proofs.Held.{Rest, expr_stmt_held}
use Rattle.nodes.proofs.statements.expr_stmt_of.Goals as goal
use Rattle.nodes.proofs.statements.expr_stmt_of.Goals.{After-payload_of-payload}

holds : (c : goal.After-payload_of-payload) → Rest (fields c.args.tree.now) c.args.node c.payload_of-payload.result.now 0 0 × (1 ≤ count_of (fields c.args.tree.now) c.args.node)
holds c = expr_stmt_held c.requires.0 c.payload_of-payload.ensures c.requires.1

pub child-requires : goal.child-requires
child-requires c = omega (arith, (holds c).0.size, (holds c).1)

pub returns : goal.returns
returns c = let h = holds (goal.at.returns c).After-payload_of-payload in
    let e0 = c.child.ensures.0 ∙ h.0.same 0 (lit≤ tt) in
    e0
