-- Two words: the name and its mark.
use native.Mathlib.Omega.{arith}
use Rattle.meaning.specs.Fields.{fields}
use Rattle.meaning.specs.Lower.{lower_expr}
use Rattle.meaning.proofs.Reading.{variable_node}
use Rattle.store.specs.Promise.{uses}
use Rattle.store.proofs.Compose.{room_by}
use Rattle.routines.proofs.Held.{inside}
use Rattle.routines.proofs.NodeLine.{one, gives}
use Rattle.routines.proofs.variable_expr.variable.Goals as goal

pub visit_variable_expr-requires : goal.visit_variable_expr-requires
visit_variable_expr-requires c = let given = c.requires.0 in
    let held = variable_node (fields c.args.tree.now) given.lawful.shapes c.args.node (inside given.lawful given.known) c.requires.1 in
    (given.fine, room_by 0 0 0 (omega arith) (omega arith) given.room, rw c.variable_of-token.ensures (omega (arith, held.name)))

pub returns : goal.returns
unfolding lower_expr
returns c = let variable_of = c.variable_of-token in
    let visit-variable-expr = c.visit_variable_expr in
    let given = c.requires.0 in
    let held = variable_node (fields c.args.tree.now) given.lawful.shapes c.args.node (inside given.lawful given.known) c.requires.1 in
    let d = visit-variable-expr.ensures in
    gives (uses 8 0 0) (one d.leaf) (omega arith) (omega arith) (omega arith) (λ z. omega arith) (omega arith) (λ ps. rw held.is (rw variable_of.ensures at (d.leaf.runs ps))) d.small
