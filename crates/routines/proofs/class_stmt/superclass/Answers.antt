-- The class node's third word: a variable's node, which is visited, or none.
use mathlib.Core.Path.{sym, ap, ◌∙◌}
use native.Mathlib.Omega.{arith}
use Rattle.meaning.specs.Fields.{fields}
use Rattle.meaning.specs.At.{word_of, expr_at}
use Rattle.meaning.specs.Weight.{weight_super}
use Rattle.meaning.specs.Visits.{visits_super}
use Rattle.meaning.specs.Lower.{lower_expr}
use Rattle.meaning.proofs.Reading.{variable_node, class_node}
use Rattle.forward.proofs.Chains.{super_chain, super_none_chain}
use Rattle.store.specs.Promise.{nothing, takes}
use Rattle.store.proofs.Visiting.{ticked_runs}
use Rattle.store.proofs.Compose.{known}
use Rattle.nodes.specs.declared.statements.Class.{Class}
use Rattle.routines.proofs.Held.{inside, lawful_kept, super_none, super_some, present_is, absent_is}
use Rattle.routines.proofs.NodeLine.{one, counting, ◌▹◌, room_after, small_emit, gives}
use Rattle.routines.proofs.class_stmt.superclass.Goals as goal

pub variable-requires : goal.variable-requires
unfolding weight_super
variable-requires c = let class_of = c.class_of-x in
    let visit = c.visit in
    let given = c.requires.0 in
    let fs = fields c.args.tree.now in
    let held = class_node fs given.lawful.shapes c.args.node (inside given.lawful given.known) c.requires.1 in
    let parent = present_is _ (sym c.in-Some.is ∙ ap (λ (x : Class). x.superclass) class_of.ensures.0) in
    let below = held.superclass parent.0 in
    let is = super_some fs (word_of fs c.args.node 2) parent.0 in
    let line = counting given.fine visit.ensures in
    (record { lawful = lawful_kept given.lawful line.moves.kept; fine = line.moves.fine; room = room_after 1 0 0 line (rw is at given.room) (omega arith) (omega arith) (omega arith); known = omega (arith, parent.1, below.below, given.known); width = given.width }, rw parent.1 below.tag)

pub returns-in-Some : goal.returns-in-Some
unfolding lower_expr weight_super visits_super
returns-in-Some c = let class_of = c.class_of-x in
    let visit = c.visit in
    let variable = c.variable in
    let given = c.requires.0 in
    let fs = fields c.args.tree.now in
    let held = class_node fs given.lawful.shapes c.args.node (inside given.lawful given.known) c.requires.1 in
    let parent = present_is _ (sym c.in-Some.is ∙ ap (λ (x : Class). x.superclass) class_of.ensures.0) in
    let below = held.superclass parent.0 in
    let known = inside {i = word_of fs c.args.node 2} given.lawful (omega (arith, below.below, given.known)) in
    let name = variable_node fs given.lawful.shapes (word_of fs c.args.node 2) known below.tag in
    let d = variable.ensures in
    rw (super_some fs (word_of fs c.args.node 2) parent.0)
    (gives (takes 8 0 1) (counting given.fine visit.ensures ▹ one d.leaf) (omega arith) (omega arith) (omega arith) (λ z. omega arith) (omega arith)
    (λ ps. super_chain _ _ _ _ _ _ (rw (ap (expr_at fs) parent.1 ∙ name.is, ticked_runs given.fine visit.ensures ps) at (d.leaf.runs ps)))
    d.small)

pub returns : goal.returns
unfolding weight_super visits_super
returns c = let class_of = c.class_of-x in
    let next_register = c.next_register-register in
    let emit = c.emit in
    let given = c.requires.0 in
    let fs = fields c.args.tree.now in
    let none = absent_is _ (sym c.in_default.is ∙ ap (λ (x : Class). x.superclass) class_of.ensures.0) in
    let a = next_register.ensures.0 in
    let d = emit.ensures in
    rw (super_none fs (word_of fs c.args.node 2) none)
    (gives nothing (one a ▹ one d) (omega arith) (omega arith) (omega arith) (λ z. omega arith) (omega arith)
    (λ ps. super_none_chain _ _ _ _ (a.runs ps) _ (known _ _ _ ps) _ (rw class_of.ensures.0 at (d.runs ps)))
    (small_emit d next_register.ensures.1))
