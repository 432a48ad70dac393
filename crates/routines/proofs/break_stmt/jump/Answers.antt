-- Both have a mark; the tag says which of the two it is.
use mathlib.Core.Path.{sym, ◌∙◌}
use native.Mathlib.Omega.{arith}
use Rattle.meaning.specs.Fields.{fields}
use Rattle.meaning.specs.Lower.{lower_stmt}
use Rattle.meaning.proofs.Reading.{break_node, continue_node}
use Rattle.store.specs.Promise.{uses}
use Rattle.routines.proofs.Held.{inside}
use Rattle.routines.proofs.NodeLine.{one, gives}
use Rattle.routines.proofs.break_stmt.jump.Goals as goal

pub returns-then-tag_of-eq22 : goal.returns-then-tag_of-eq22
unfolding lower_stmt
returns-then-tag_of-eq22 c = let tag_of = c.tag_of in
    let if1 = c.if-tag_of-eq22 in
    let visit_jump = c.visit_jump in
    let jump_of = c.jump_of-mark in
    let given = c.requires.0 in
    let held = break_node (fields c.args.tree.now) given.lawful.shapes c.args.node (inside given.lawful given.known) (sym tag_of.ensures ∙ if1.true) in
    let d = visit_jump.ensures in
    gives (uses 8 1 0) (one d.leaf) (omega arith) (omega arith) (omega arith) (λ z. omega arith) (omega arith) (λ ps. rw held.is (rw jump_of.ensures at (d.leaf.runs ps))) d.small

pub returns : goal.returns
unfolding lower_stmt
returns c = let tag_of = c.tag_of in
    let if1 = c.if-tag_of-eq22 in
    let visit-jump2 = c.visit_jump-2 in
    let jump_of = c.jump_of-mark in
    let given = c.requires.0 in
    let held = continue_node (fields c.args.tree.now) given.lawful.shapes c.args.node (inside given.lawful given.known) (omega (arith, tag_of.ensures, if1.false, c.requires.1, c.requires.2)) in
    let d = visit-jump2.ensures in
    gives (uses 8 1 0) (one d.leaf) (omega arith) (omega arith) (omega arith) (λ z. omega arith) (omega arith) (λ ps. rw held.is (rw jump_of.ensures at (d.leaf.runs ps))) d.small
