-- The cycle, closed: what each member's calls ask, and what it promises, by the lemmas of `Members`.
use Rattle.cycle.proofs.Members.Addi
use Rattle.cycle.proofs.Members.Arguments
use Rattle.cycle.proofs.Members.Binary
use Rattle.cycle.proofs.Members.Block
use Rattle.cycle.proofs.Members.Body
use Rattle.cycle.proofs.Members.Both
use Rattle.cycle.proofs.Members.Call
use Rattle.cycle.proofs.Members.Class
use Rattle.cycle.proofs.Members.Elifs
use Rattle.cycle.proofs.Members.ExprStmt
use Rattle.cycle.proofs.Members.FnStmt
use Rattle.cycle.proofs.Members.ForIn
use Rattle.cycle.proofs.Members.ForLoop
use Rattle.cycle.proofs.Members.Function
use Rattle.cycle.proofs.Members.IfStmt
use Rattle.cycle.proofs.Members.LetStmt
use Rattle.cycle.proofs.Members.Logical
use Rattle.cycle.proofs.Members.Methods
use Rattle.cycle.proofs.Members.Minus
use Rattle.cycle.proofs.Members.ReturnStmt
use Rattle.cycle.proofs.Members.Row
use Rattle.cycle.proofs.Members.Statement
use Rattle.cycle.proofs.Members.TryCatch
use Rattle.cycle.proofs.Members.Unary
use Rattle.cycle.proofs.Members.WhileLoop
use Rattle.cycle.proofs.Nodes.{a_binary, a_block, a_call, a_class, a_define, a_for, a_for_in, a_function, a_jump, a_let, a_literal, a_logical, a_return, a_try, a_unary, a_variable, a_while, an_expression, an_if, behind_here, block_stands, call_stands, class_stands, define_stands, for_in_stands, for_stands, function_stands, if_stands, no_jump_visits, no_literal_visits}
use Rattle.cycle.proofs.Way.{counted, few_more, few_results, from, held, held_bare, inside, leaf_lowers, likewise, narrow_or_wide, on_node, placed, readable, recounted, refused_stays, stand, ticked_given, ticked_lowers, ticked_ready}
use native.Mathlib.Omega.{arith}
use Prim.Native.Nat.{◌*◌, ◌+◌, ◌≤◌}
use Rattle.nodes.proofs.Headers.{few_words}
use Rattle.cycle.proofs.Sizes.{has_pairs, let_only_size, return_none_size, variable_size}
use Rattle.cycle.proofs.Visited.{let_only_visits, return_none_visits, variable_visits}
use Rattle.meaning.specs.At.{extra, tag_of, word_of}
use Rattle.meaning.specs.Fields.{fields}
use Rattle.store.proofs.Runs.{due, goes}
use mathlib.Core.Path.{ap, refl, sym, ◌∙◌}
use Rattle.std.specs.Prelude.{is_some}
use Rattle.meaning.specs.Grammar.{wide_marks}
use Rattle.cycle.proofs.Dropped.{rolls}
use Rattle.nodes.specs.declared.statements.Let as let_node
use Rattle.nodes.specs.declared.statements.Return as return_node
use Rattle.cycle.proofs.+visit.Goals as goal

-- ---- addi

pub addi-binary_of-x-requires : goal.addi-binary_of-x-requires
addi-binary_of-x-requires t c = held c.requires.0.ready c.requires.0.known c.requires.1

pub addi-expression-left-requires : goal.addi-expression-left-requires
addi-expression-left-requires t c =
    let g = c.requires.0 in
    let x = a_binary g.ready.lawful g.known c.requires.1 in
    rw c.binary_of-x.ensures (omega (arith, x.left.below), Addi.left g x)

pub addi-emit-requires : goal.addi-emit-requires
addi-emit-requires t c =
    let g = c.requires.0 in
    Addi.at_emit g (a_binary g.ready.lawful g.known c.requires.1) (rw c.binary_of-x.ensures at c.expression-left.ensures) c.next_register-last.ensures _ (omega (arith, c.from.ensures))

pub addi-returns : goal.addi-returns
addi-returns t c =
    let g = c.requires.0 in
    let e = c.binary_of-x.ensures in
    Addi.lowers g (a_binary g.ready.lawful g.known c.requires.1) (rw e at c.expression-left.ensures) c.next_register-last.ensures (rw (e, c.from.ensures) at c.emit.ensures)

-- ---- arguments

pub arguments-payload_of-payload-requires : goal.arguments-payload_of-payload-requires
arguments-payload_of-payload-requires t c = readable c.requires.0.ready c.requires.0.known

pub arguments-count_of-n-requires : goal.arguments-count_of-n-requires
arguments-count_of-n-requires t c = counted (readable c.requires.0.ready c.requires.0.known) c.requires.0.behind

pub arguments-loop-k-init : goal.arguments-loop-k-init
arguments-loop-k-init t c = Arguments.start c.requires

pub arguments-child-child-requires : goal.arguments-child-child-requires
arguments-child-child-requires t c = rw c.payload_of-payload.ensures (omega (arith, c.loop-k-test.true, c.count_of-n.ensures.0, c.requires.0.behind.size))

pub arguments-expression-argument-requires : goal.arguments-expression-argument-requires
arguments-expression-argument-requires t c =
    let h = rw c.count_of-n.ensures.0 at c.loop-k-test.true in
    let e = placed c.requires.0 c.loop-k.invariant.low (rw c.payload_of-payload.ensures at c.child-child.ensures.0) in
    rw e (omega (arith, (Arguments.below c.requires c.loop-k.invariant h).below), Arguments.argument c.requires c.loop-k.invariant h)

pub arguments-emit-last-requires : goal.arguments-emit-last-requires
arguments-emit-last-requires t c =
    let h = rw c.count_of-n.ensures.0 at c.loop-k-test.true in
    Arguments.at_move c.requires c.loop-k.invariant h (rw (placed c.requires.0 c.loop-k.invariant.low (rw c.payload_of-payload.ensures at c.child-child.ensures.0)) at c.expression-argument.ensures)

pub arguments-loop-k-preserved : goal.arguments-loop-k-preserved
arguments-loop-k-preserved t c =
    let h = rw c.count_of-n.ensures.0 at c.loop-k-test.true in
    Arguments.turn c.requires c.loop-k.invariant h (rw (placed c.requires.0 c.loop-k.invariant.low (rw c.payload_of-payload.ensures at c.child-child.ensures.0)) at c.expression-argument.ensures) c.emit-last.ensures

pub arguments-returns : goal.arguments-returns
arguments-returns t c = rw c.settle.ensures (Arguments.lowers c.requires c.loop-k.invariant (rw c.count_of-n.ensures.0 at c.loop-k-test.false))

-- ---- binary

pub binary-binary_of-x-requires : goal.binary-binary_of-x-requires
binary-binary_of-x-requires t c = held c.requires.0.ready c.requires.0.known c.requires.1

pub binary-immediate-requires : goal.binary-immediate-requires
binary-immediate-requires t c =
    let g = c.requires.0 in
    let x = a_binary g.ready.lawful g.known c.requires.1 in
    rw c.binary_of-x.ensures (g.ready.lawful, omega (arith, g.known, x.right.below), g.ready.fine.sound.few)

pub binary-returns-in-Some : goal.binary-returns-in-Some
binary-returns-in-Some t c =
    let g = c.requires.0 in
    let x = a_binary g.ready.lawful g.known c.requires.1 in
    let found = sym c.in-Some.is ∙ (rw c.binary_of-x.ensures at c.immediate.ensures) in
    likewise (Binary.is_addi c.args.scope.mode x _ found) (recounted (Binary.addi_visits c.args.scope.mode x _ found) c.addi.ensures)

pub binary-immediate-requires-2 : goal.binary-immediate-requires-2
binary-immediate-requires-2 t c =
    let g = c.requires.0 in
    let x = a_binary g.ready.lawful g.known c.requires.1 in
    rw c.binary_of-x.ensures (g.ready.lawful, omega (arith, g.known, x.left.below), g.ready.fine.sound.few)

pub binary-returns-then-is_some : goal.binary-returns-then-is_some
binary-returns-then-is_some t c =
    let g = c.requires.0 in
    let x = a_binary g.ready.lawful g.known c.requires.1 in
    let e = c.binary_of-x.ensures in
    let none = sym c.in_default.is ∙ (rw e at c.immediate.ensures) in
    let some = ap is_some (sym (rw e at c.immediate-2.ensures)) ∙ sym c.is_some.ensures ∙ c.if-is_some.true in
    likewise (Binary.is_minus c.args.scope.mode x none some) (recounted (Binary.minus_visits c.args.scope.mode x none some) c.minus.ensures)

pub binary-returns : goal.binary-returns
binary-returns t c =
    let g = c.requires.0 in
    let x = a_binary g.ready.lawful g.known c.requires.1 in
    let e = c.binary_of-x.ensures in
    let none = sym c.in_default.is ∙ (rw e at c.immediate.ensures) in
    let neither = ap is_some (sym (rw e at c.immediate-2.ensures)) ∙ sym c.is_some.ensures ∙ c.if-is_some.false in
    likewise (Binary.is_both c.args.scope.mode x none neither) (recounted (Binary.both_visits c.args.scope.mode x none neither) c.both.ensures)

-- ---- block

pub block-count_of-n-requires : goal.block-count_of-n-requires
block-count_of-n-requires t c = counted (readable c.requires.0.ready c.requires.0.known) (block_stands c.requires.0.ready.lawful c.requires.0.known c.requires.1)

pub block-enter_block-inside-requires : goal.block-enter_block-inside-requires
block-enter_block-inside-requires t c =
    let g = c.requires.0 in
    Block.at_enter g (a_block g.ready.lawful g.known c.requires.1)

pub block-row-last-requires : goal.block-row-last-requires
block-row-last-requires t c =
    let g = c.requires.0 in
    let e = c.enter_block-inside.ensures in
    rw (e.0, c.count_of-n.ensures.0)
    (omega arith, Block.stmts g (a_block g.ready.lawful g.known c.requires.1) e.1 (e.2 _ g.ready.fine) (block_stands g.ready.lawful g.known c.requires.1))

pub block-leave_block-requires : goal.block-leave_block-requires
block-leave_block-requires t c = rw c.enter_block-inside.ensures.0 at c.row-last.ensures.does.moves.fine.sound

pub block-returns : goal.block-returns
block-returns t c =
    let g = c.requires.0 in
    let e = c.enter_block-inside.ensures in
    rw c.settle.ensures
    (Block.lowers g (a_block g.ready.lawful g.known c.requires.1) e.1 (e.2 _ g.ready.fine) (rw (e.0, c.count_of-n.ensures.0) at c.row-last.ensures) c.leave_block.ensures)

-- ---- body

pub body-enter_block-inside-requires : goal.body-enter_block-inside-requires
body-enter_block-inside-requires t c = Body.at_enter c.requires

pub body-row-last-requires : goal.body-row-last-requires
body-row-last-requires t c =
    let g = c.requires in
    let e = c.enter_block-inside.ensures in
    rw (e.0, c.requires.4) (omega arith, Body.stmts g e.1 (e.2 _ g.0.ready.fine))

pub body-end_body-ended-requires : goal.body-end_body-ended-requires
body-end_body-ended-requires t c =
    let g = c.requires in
    let e = c.enter_block-inside.ensures in
    rw e.0 (Body.at_end g e.1 (e.2 _ g.0.ready.fine) (rw (e.0, c.requires.4) at c.row-last.ensures))

pub body-leave_block-requires : goal.body-leave_block-requires
body-leave_block-requires t c = rw c.enter_block-inside.ensures.0 at c.end_body-ended.ensures.moves.fine.sound

pub body-returns : goal.body-returns
body-returns t c =
    let g = c.requires in
    let e = c.enter_block-inside.ensures in
    Body.lowers g e.1 (e.2 _ g.0.ready.fine) (rw (e.0, c.requires.4) at c.row-last.ensures) (rw (e.0, c.requires.4) at c.end_body-ended.ensures) c.leave_block.ensures

-- ---- both

pub both-binary_of-x-requires : goal.both-binary_of-x-requires
both-binary_of-x-requires t c = held c.requires.0.ready c.requires.0.known c.requires.1

pub both-expression-left-requires : goal.both-expression-left-requires
both-expression-left-requires t c =
    let g = c.requires.0 in
    let x = a_binary g.ready.lawful g.known c.requires.1 in
    rw c.binary_of-x.ensures (omega (arith, x.left.below), Both.left g x)

pub both-expression-right-requires : goal.both-expression-right-requires
both-expression-right-requires t c =
    let g = c.requires.0 in
    let x = a_binary g.ready.lawful g.known c.requires.1 in
    let e = c.binary_of-x.ensures in
    rw e (omega (arith, x.right.below), Both.right g x (rw e at c.expression-left.ensures))

pub both-emit-requires : goal.both-emit-requires
both-emit-requires t c =
    let g = c.requires.0 in
    let e = c.binary_of-x.ensures in
    Both.at_emit g (a_binary g.ready.lawful g.known c.requires.1) (rw e at c.expression-left.ensures) (rw e at c.expression-right.ensures) c.next_register-last.ensures _ c.binary_opcode.ensures.1

pub both-returns : goal.both-returns
both-returns t c =
    let g = c.requires.0 in
    let e = c.binary_of-x.ensures in
    Both.lowers g (a_binary g.ready.lawful g.known c.requires.1) (rw e at c.expression-left.ensures) (rw e at c.expression-right.ensures) c.next_register-last.ensures (rw (c.binary_opcode.ensures.0, e) at c.emit.ensures)

-- ---- call

pub call-call_of-x-requires : goal.call-call_of-x-requires
call-call_of-x-requires t c = held c.requires.0.ready c.requires.0.known c.requires.1

pub call-expression-callee-requires : goal.call-expression-callee-requires
call-expression-callee-requires t c =
    let g = c.requires.0 in
    let x = a_call g.ready.lawful g.known c.requires.1 in
    rw c.call_of-x.ensures.0 (omega (arith, x.callee.below), Call.callee g x)

pub call-open_call-opened-requires : goal.call-open_call-opened-requires
call-open_call-opened-requires t c =
    let g = c.requires.0 in
    let n = c.call_of-x.ensures in
    rw n.0 (Call.at_open g (a_call g.ready.lawful g.known c.requires.1) (rw n.0 at c.expression-callee.ensures) (rw n.0 at n.1))

pub call-overflow_add-opened : goal.call-overflow_add-opened
call-overflow_add-opened t c = omega (arith, few_results c.open_call-opened.ensures.0.moves.fine)

pub call-arguments-last-requires : goal.call-arguments-last-requires
call-arguments-last-requires t c =
    let g = c.requires.0 in
    let e = c.call_of-x.ensures.0 in
    let d2 = rw e at c.open_call-opened.ensures.0 in
    (omega arith, Call.given g (a_call g.ready.lawful g.known c.requires.1) (rw e at c.expression-callee.ensures) d2 (rw e at c.open_call-opened.ensures.1) (behind_here g.ready (call_stands g.ready.lawful g.known c.requires.1)))

pub call-end_call-requires : goal.call-end_call-requires
call-end_call-requires t c =
    let g = c.requires.0 in
    let e = c.call_of-x.ensures.0 in
    let d2 = rw e at c.open_call-opened.ensures.0 in
    rw e (Call.at_end g (a_call g.ready.lawful g.known c.requires.1) (rw e at c.expression-callee.ensures) d2 (rw e at c.open_call-opened.ensures.1) c.arguments-last.ensures)

pub call-returns : goal.call-returns
call-returns t c =
    let g = c.requires.0 in
    let e = c.call_of-x.ensures.0 in
    let d2 = rw e at c.open_call-opened.ensures.0 in
    Call.lowers g (a_call g.ready.lawful g.known c.requires.1) (rw e at c.expression-callee.ensures) d2 (rw e at c.open_call-opened.ensures.1) c.arguments-last.ensures (rw e at c.end_call.ensures.0) c.end_call.ensures.1

-- ---- class

pub class-class_of-x-requires : goal.class-class_of-x-requires
class-class_of-x-requires t c = held c.requires.0.ready c.requires.0.known c.requires.1

pub class-open_class-own-requires : goal.class-open_class-own-requires
class-open_class-own-requires t c =
    let g = c.requires.0 in
    rw c.class_of-x.ensures.0 (Class.at_open g (a_class g.ready.lawful g.known c.requires.1) c.requires.2)

pub class-superclass-above-requires : goal.class-superclass-above-requires
class-superclass-above-requires t c =
    let g = c.requires.0 in
    (Class.at_super g (a_class g.ready.lawful g.known c.requires.1) c.requires.2 (rw c.class_of-x.ensures.0 at c.open_class-own.ensures), c.requires.1)

pub class-make_class-made-requires : goal.class-make_class-made-requires
class-make_class-made-requires t c =
    let g = c.requires.0 in
    Class.at_make g (a_class g.ready.lawful g.known c.requires.1) c.requires.2 (rw c.class_of-x.ensures.0 at c.open_class-own.ensures) c.superclass-above.ensures

pub class-enter_block-inside-requires : goal.class-enter_block-inside-requires
class-enter_block-inside-requires t c =
    let g = c.requires.0 in
    let e = c.class_of-x.ensures.0 in
    Class.at_enter g (a_class g.ready.lawful g.known c.requires.1) c.requires.2 (rw e at c.open_class-own.ensures) c.superclass-above.ensures (rw e at c.make_class-made.ensures)

pub class-overflow_add-statics : goal.class-overflow_add-statics
class-overflow_add-statics t c = omega (arith, c.class_of-x.ensures.1)

pub class-methods-plain-requires : goal.class-methods-plain-requires
class-methods-plain-requires t c =
    let g = c.requires.0 in
    let e = c.class_of-x.ensures.0 in
    let b = c.enter_block-inside.ensures in
    rw (b.0, e)
    (omega arith, Class.plain g (a_class g.ready.lawful g.known c.requires.1) c.requires.2 (rw e at c.open_class-own.ensures) c.superclass-above.ensures (rw e at c.make_class-made.ensures) b.1 (b.2 _ c.make_class-made.ensures.moves.fine) (behind_here g.ready (class_stands g.ready.lawful g.known c.requires.1)))

pub class-methods-last-requires : goal.class-methods-last-requires
class-methods-last-requires t c =
    let g = c.requires.0 in
    let e = c.class_of-x.ensures.0 in
    let b = c.enter_block-inside.ensures in
    rw (b.0, e)
    (omega arith, Class.statics g (a_class g.ready.lawful g.known c.requires.1) c.requires.2 (rw e at c.open_class-own.ensures) c.superclass-above.ensures (rw e at c.make_class-made.ensures) b.1 (b.2 _ c.make_class-made.ensures.moves.fine) (rw (b.0, e) at c.methods-plain.ensures) (behind_here g.ready (class_stands g.ready.lawful g.known c.requires.1)))

pub class-leave_block-requires : goal.class-leave_block-requires
class-leave_block-requires t c = rw c.enter_block-inside.ensures.0 at c.methods-last.ensures.does.moves.fine.sound

pub class-end_class-requires : goal.class-end_class-requires
class-end_class-requires t c =
    let g = c.requires.0 in
    let e = c.class_of-x.ensures.0 in
    let b = c.enter_block-inside.ensures in
    rw e
    (Class.at_end g (a_class g.ready.lawful g.known c.requires.1) c.requires.2 (rw e at c.open_class-own.ensures) c.superclass-above.ensures (rw e at c.make_class-made.ensures) b.1 (b.2 _ c.make_class-made.ensures.moves.fine) (rw (b.0, e) at c.methods-plain.ensures) (rw (b.0, e) at c.methods-last.ensures) c.leave_block.ensures)

pub class-returns : goal.class-returns
class-returns t c =
    let g = c.requires.0 in
    let e = c.class_of-x.ensures.0 in
    let b = c.enter_block-inside.ensures in
    Class.lowers g (a_class g.ready.lawful g.known c.requires.1) c.requires.2 (rw e at c.open_class-own.ensures) c.superclass-above.ensures (rw e at c.make_class-made.ensures) b.1 (b.2 _ c.make_class-made.ensures.moves.fine) (rw (b.0, e) at c.methods-plain.ensures) (rw (b.0, e) at c.methods-last.ensures) c.leave_block.ensures (rw e at c.end_class.ensures)

-- ---- elifs

pub elifs-payload_of-payload-requires : goal.elifs-payload_of-payload-requires
elifs-payload_of-payload-requires t c = readable c.requires.ready c.requires.known

pub elifs-loop-k-init : goal.elifs-loop-k-init
elifs-loop-k-init t c = Elifs.start c.requires

pub elifs-overflow_add-k : goal.elifs-overflow_add-k
elifs-overflow_add-k t c =
    let r = c.requires in
    omega (arith, c.loop-k-test.true, r.ends, r.behind.size, few_words _ _ (λ j. omega (arith, c.type_inv.tree j)) (inside r.ready.lawful r.known))

pub elifs-child-child-requires : goal.elifs-child-child-requires
elifs-child-child-requires t c = rw c.payload_of-payload.ensures (omega (arith, c.loop-k-test.true, c.requires.ends, c.requires.behind.size))

pub elifs-elif_of-x-requires : goal.elifs-elif_of-x-requires
elifs-elif_of-x-requires t c = rw (placed c.requires c.loop-k.invariant.low (rw c.payload_of-payload.ensures at c.child-child.ensures.0)) (held_bare (Elifs.here c.requires c.loop-k.invariant) (Elifs.known_elif c.requires c.loop-k.invariant c.loop-k-test.true) (Elifs.below c.requires c.loop-k.invariant c.loop-k-test.true).tag)

pub elifs-expression-condition-requires : goal.elifs-expression-condition-requires
elifs-expression-condition-requires t c =
    let r = c.requires in
    let v = c.loop-k.invariant in
    let h = c.loop-k-test.true in
    let e = placed c.requires c.loop-k.invariant.low (rw c.payload_of-payload.ensures at c.child-child.ensures.0) in
    rw (c.elif_of-x.ensures, e) (omega (arith, (Elifs.below r v h).below, (Elifs.elif r v h).condition.below), Elifs.condition r v h)

pub elifs-test_and_jump-tested-requires : goal.elifs-test_and_jump-tested-requires
elifs-test_and_jump-tested-requires t c =
    let e = placed c.requires c.loop-k.invariant.low (rw c.payload_of-payload.ensures at c.child-child.ensures.0) in
    Elifs.at_test c.requires c.loop-k.invariant c.loop-k-test.true (rw (c.elif_of-x.ensures, e) at c.expression-condition.ensures)

pub elifs-row-then-requires : goal.elifs-row-then-requires
elifs-row-then-requires t c =
    let r = c.requires in
    let v = c.loop-k.invariant in
    let h = c.loop-k-test.true in
    let e = placed c.requires c.loop-k.invariant.low (rw c.payload_of-payload.ensures at c.child-child.ensures.0) in
    rw (c.elif_of-x.ensures, e) (omega (arith, (Elifs.below r v h).below), Elifs.thens r v h (rw (c.elif_of-x.ensures, e) at c.expression-condition.ensures) c.test_and_jump-tested.ensures)

pub elifs-end_branch-last-requires : goal.elifs-end_branch-last-requires
elifs-end_branch-last-requires t c =
    let e = placed c.requires c.loop-k.invariant.low (rw c.payload_of-payload.ensures at c.child-child.ensures.0) in
    Elifs.at_end c.requires c.loop-k.invariant c.loop-k-test.true (rw (c.elif_of-x.ensures, e) at c.expression-condition.ensures) c.test_and_jump-tested.ensures (rw (c.elif_of-x.ensures, e) at c.row-then.ensures)

pub elifs-loop-k-preserved : goal.elifs-loop-k-preserved
elifs-loop-k-preserved t c =
    let e = placed c.requires c.loop-k.invariant.low (rw c.payload_of-payload.ensures at c.child-child.ensures.0) in
    Elifs.turn c.requires c.loop-k.invariant c.loop-k-test.true (rw (c.elif_of-x.ensures, e) at c.expression-condition.ensures) c.test_and_jump-tested.ensures (rw (c.elif_of-x.ensures, e) at c.row-then.ensures) c.end_branch-last.ensures c.visit.ensures

pub elifs-returns : goal.elifs-returns
elifs-returns t c = rw c.settle.ensures (Elifs.lowers c.requires c.loop-k.invariant c.loop-k-test.false)

-- ---- expr_stmt

pub expr_stmt-expr_stmt_of-value-requires : goal.expr_stmt-expr_stmt_of-value-requires
expr_stmt-expr_stmt_of-value-requires t c = held_bare c.requires.0.ready c.requires.0.known c.requires.1

pub expr_stmt-expression-requires : goal.expr_stmt-expression-requires
expr_stmt-expression-requires t c =
    let g = c.requires.0 in
    let x = an_expression g.ready.lawful g.known c.requires.1 in
    rw c.expr_stmt_of-value.ensures (omega (arith, x.value.below), ExprStmt.value g x)

pub expr_stmt-returns : goal.expr_stmt-returns
expr_stmt-returns t c =
    let g = c.requires.0 in
    ExprStmt.lowers g (an_expression g.ready.lawful g.known c.requires.1) (rw c.expr_stmt_of-value.ensures at c.expression.ensures)

-- ---- expression
-- impl ExprAcceptor for Expr: a refused step returns at once; any other goes to its tag's function, whose promise is the whole's.

pub expression-returns-in_default : goal.expression-returns-in_default
expression-returns-in_default t c = refused_stays _ _ c.requires.0.ready.fine c.in_default.is

pub expression-tag_of-tag-requires : goal.expression-tag_of-tag-requires
expression-tag_of-tag-requires t c = readable c.requires.0.ready c.requires.0.known

pub expression-variable-requires : goal.expression-variable-requires
expression-variable-requires t c =
    let g = c.requires.0 in
    let e = sym c.tag_of-tag.ensures ∙ c.in-4.is in
    (on_node (rw (variable_size (a_variable g.ready.lawful g.known e)) at (ticked_ready g.ready c.visit.ensures)) g.known, e)

pub expression-unary-requires : goal.expression-unary-requires
expression-unary-requires t c = (omega arith, (ticked_given c.requires.0 c.visit.ensures, sym c.tag_of-tag.ensures ∙ c.in-5.is))

pub expression-binary-requires : goal.expression-binary-requires
expression-binary-requires t c = (omega arith, (ticked_given c.requires.0 c.visit.ensures, sym c.tag_of-tag.ensures ∙ c.in-6.is))

pub expression-logical-requires : goal.expression-logical-requires
expression-logical-requires t c = (omega arith, (ticked_given c.requires.0 c.visit.ensures, sym c.tag_of-tag.ensures ∙ c.in-7.is))

pub expression-call-requires : goal.expression-call-requires
expression-call-requires t c = (omega arith, (ticked_given c.requires.0 c.visit.ensures, sym c.tag_of-tag.ensures ∙ c.in-8.is))

pub expression-function-requires : goal.expression-function-requires
expression-function-requires t c = (omega arith, (ticked_given c.requires.0 c.visit.ensures, sym c.tag_of-tag.ensures ∙ c.in-9.is, due c.args.step.outcome c.requires.0.ready.fine.nested (goes c.in-Ok.is)))

pub expression-literal-requires : goal.expression-literal-requires
expression-literal-requires t c =
    let g = c.requires.0 in
    let e : tag_of (fields c.args.tree.now) c.args.node ≤ 3 = omega (arith, c.tag_of-tag.ensures, c.requires.2) in
    (on_node (rw (a_literal g.ready.lawful g.known c.requires.1 e) at (ticked_ready g.ready c.visit.ensures)) g.known, c.requires.1, e)

pub expression-returns-in-4 : goal.expression-returns-in-4
expression-returns-in-4 t c =
    let g = c.requires.0 in
    ticked_lowers g.ready c.visit.ensures (leaf_lowers _ _ _ (ap (λ n. 8 * n) (variable_size (a_variable g.ready.lawful g.known (sym c.tag_of-tag.ensures ∙ c.in-4.is)))) refl (variable_visits (a_variable g.ready.lawful g.known (sym c.tag_of-tag.ensures ∙ c.in-4.is))) c.variable.ensures)

pub expression-returns-in-5 : goal.expression-returns-in-5
expression-returns-in-5 t c = ticked_lowers c.requires.0.ready c.visit.ensures c.unary.ensures

pub expression-returns-in-6 : goal.expression-returns-in-6
expression-returns-in-6 t c = ticked_lowers c.requires.0.ready c.visit.ensures c.binary.ensures

pub expression-returns-in-7 : goal.expression-returns-in-7
expression-returns-in-7 t c = ticked_lowers c.requires.0.ready c.visit.ensures c.logical.ensures

pub expression-returns-in-8 : goal.expression-returns-in-8
expression-returns-in-8 t c = ticked_lowers c.requires.0.ready c.visit.ensures c.call.ensures

pub expression-returns-in-9 : goal.expression-returns-in-9
expression-returns-in-9 t c = ticked_lowers c.requires.0.ready c.visit.ensures c.function.ensures

pub expression-returns-in_default-tag : goal.expression-returns-in_default-tag
expression-returns-in_default-tag t c =
    let g = c.requires.0 in
    ticked_lowers g.ready c.visit.ensures (leaf_lowers _ _ _ (ap (λ n. 8 * n) (a_literal g.ready.lawful g.known c.requires.1 (omega (arith, c.tag_of-tag.ensures, c.requires.2)))) refl (no_literal_visits g.ready.lawful g.known c.requires.1 (omega (arith, c.tag_of-tag.ensures, c.requires.2))) c.literal.ensures)

-- ---- fn_stmt

pub fn_stmt-define_of-x-requires : goal.fn_stmt-define_of-x-requires
fn_stmt-define_of-x-requires t c = held c.requires.0.ready c.requires.0.known c.requires.1

pub fn_stmt-payload_of-payload-requires : goal.fn_stmt-payload_of-payload-requires
fn_stmt-payload_of-payload-requires t c = readable c.requires.0.ready c.requires.0.known

pub fn_stmt-declare-own-requires : goal.fn_stmt-declare-own-requires
fn_stmt-declare-own-requires t c =
    let g = c.requires in
    rw c.define_of-x.ensures.0 (FnStmt.at_declare g (a_define g.0.ready.lawful g.0.known g.1))

pub fn_stmt-enter_function-entered-requires : goal.fn_stmt-enter_function-entered-requires
fn_stmt-enter_function-entered-requires t c =
    let g = c.requires in
    rw c.define_of-x.ensures.0 (FnStmt.at_enter g (a_define g.0.ready.lawful g.0.known g.1) (rw c.define_of-x.ensures.0 at c.declare-own.ensures))

pub fn_stmt-overflow_add-wide : goal.fn_stmt-overflow_add-wide
fn_stmt-overflow_add-wide t c = omega (arith, narrow_or_wide c.requires.0.ready)

pub fn_stmt-open_fun-opened-requires : goal.fn_stmt-open_fun-opened-requires
fn_stmt-open_fun-opened-requires t c =
    let g = c.requires in
    let x = a_define g.0.ready.lawful g.0.known g.1 in
    let y = FnStmt.at_open g x (rw c.define_of-x.ensures.0 at c.declare-own.ensures) (rw c.define_of-x.ensures.0 at c.enter_function-entered.ensures.1) in
    let z = stand 0 0 0 (from y) (omega arith) (omega arith) (omega arith) (omega arith) in
    rw (c.enter_function-entered.ensures.0, c.define_of-x.ensures.0) (z.fine, z.room, omega (arith, x.name), has_pairs _ _ _ _ _ (3 + extra (wide_marks (fields c.args.tree.now))) _ g.0.ready.width c.payload_of-payload.ensures (ap (λ m. 3 + m) g.0.ready.width) (let k = define_stands g.0.ready.lawful g.0.known g.1 in omega (arith, x.size, k.2.size)))

pub fn_stmt-overflow_mul-x-2 : goal.fn_stmt-overflow_mul-x-2
fn_stmt-overflow_mul-x-2 t c = omega (arith, few_more _ _ c.define_of-x.ensures.1 (narrow_or_wide c.requires.0.ready))

pub fn_stmt-overflow_add-wide-2 : goal.fn_stmt-overflow_add-wide-2
fn_stmt-overflow_add-wide-2 t c = let w = narrow_or_wide c.requires.0.ready in omega (arith, w, few_more _ _ c.define_of-x.ensures.1 w)

pub fn_stmt-body-last-requires : goal.fn_stmt-body-last-requires
fn_stmt-body-last-requires t c =
    let g = c.requires in
    let x = a_define g.0.ready.lawful g.0.known g.1 in
    let k = define_stands g.0.ready.lawful g.0.known g.1 in
    let o = FnStmt.opened _ _ _ _ g.0.ready.width c.payload_of-payload.ensures k.1 (rw (c.enter_function-entered.ensures.0, c.define_of-x.ensures.0) at c.open_fun-opened.ensures) in
    rw (c.enter_function-entered.ensures.0, c.define_of-x.ensures.0) (omega arith, FnStmt.ask_body g x (rw c.define_of-x.ensures.0 at c.declare-own.ensures) (rw c.define_of-x.ensures.0 at c.enter_function-entered.ensures.1) o (FnStmt.body_behind _ g.0.ready k.2))

pub fn_stmt-end_fun-requires : goal.fn_stmt-end_fun-requires
fn_stmt-end_fun-requires t c =
    let g = c.requires in
    let x = a_define g.0.ready.lawful g.0.known g.1 in
    let k = define_stands g.0.ready.lawful g.0.known g.1 in
    let o = FnStmt.opened _ _ _ _ g.0.ready.width c.payload_of-payload.ensures k.1 (rw (c.enter_function-entered.ensures.0, c.define_of-x.ensures.0) at c.open_fun-opened.ensures) in
    let b = rw (c.enter_function-entered.ensures.0, c.define_of-x.ensures.0) at c.body-last.ensures in
    let y = FnStmt.at_end g x (rw c.define_of-x.ensures.0 at c.declare-own.ensures) (rw c.define_of-x.ensures.0 at c.enter_function-entered.ensures.1) o b in
    (y.0, y.1, y.2, y.3, c.define_of-x.ensures.1, rw c.define_of-x.ensures.0 (omega (arith, x.name)))

pub fn_stmt-returns : goal.fn_stmt-returns
fn_stmt-returns t c =
    let g = c.requires in
    let x = a_define g.0.ready.lawful g.0.known g.1 in
    let k = define_stands g.0.ready.lawful g.0.known g.1 in
    let o = FnStmt.opened _ _ _ _ g.0.ready.width c.payload_of-payload.ensures k.1 (rw (c.enter_function-entered.ensures.0, c.define_of-x.ensures.0) at c.open_fun-opened.ensures) in
    let b = rw (c.enter_function-entered.ensures.0, c.define_of-x.ensures.0) at c.body-last.ensures in
    FnStmt.lowers g x (rw c.define_of-x.ensures.0 at c.declare-own.ensures) (rw c.define_of-x.ensures.0 at c.enter_function-entered.ensures.1) o b (rw c.define_of-x.ensures.0 at c.end_fun.ensures)

-- ---- for_in

pub for_in-for_in_of-x-requires : goal.for_in-for_in_of-x-requires
for_in-for_in_of-x-requires t c = held c.requires.0.ready c.requires.0.known c.requires.1

pub for_in-payload_of-payload-requires : goal.for_in-payload_of-payload-requires
for_in-payload_of-payload-requires t c = readable c.requires.0.ready c.requires.0.known

pub for_in-open_for_in-counter-requires : goal.for_in-open_for_in-counter-requires
for_in-open_for_in-counter-requires t c =
    let g = c.requires.0 in
    ForIn.at_open g (a_for_in g.ready.lawful g.known c.requires.1)

pub for_in-expression-collection-requires : goal.for_in-expression-collection-requires
for_in-expression-collection-requires t c =
    let g = c.requires.0 in
    let x = a_for_in g.ready.lawful g.known c.requires.1 in
    let k = for_in_stands g.ready.lawful g.known c.requires.1 in
    let e = c.for_in_of-x.ensures.0 in
    rw e (omega (arith, x.collection.below), ForIn.collection g x (rw e at c.open_for_in-counter.ensures.0) c.open_for_in-counter.ensures.1)

pub for_in-overflow_add-wide : goal.for_in-overflow_add-wide
for_in-overflow_add-wide t c = omega (arith, narrow_or_wide c.requires.0.ready)

pub for_in-head_for_in-head-requires : goal.for_in-head_for_in-head-requires
for_in-head_for_in-head-requires t c =
    let g = c.requires.0 in
    let x = a_for_in g.ready.lawful g.known c.requires.1 in
    let k = for_in_stands g.ready.lawful g.known c.requires.1 in
    let e = c.for_in_of-x.ensures.0 in
    rw e (ForIn.at_head g x (rw e at c.open_for_in-counter.ensures.0) c.open_for_in-counter.ensures.1 (rw e at c.expression-collection.ensures) (ForIn.all_there _ _ g.ready c.payload_of-payload.ensures (k.1, k.2)) (rw e at c.for_in_of-x.ensures.1))

pub for_in-looped-requires : goal.for_in-looped-requires
for_in-looped-requires t c =
    let g = c.requires.0 in
    (ForIn.open_loops g (a_for_in g.ready.lawful g.known c.requires.1), g.ready.fine.sound.few)

pub for_in-statement-body-requires : goal.for_in-statement-body-requires
for_in-statement-body-requires t c =
    let g = c.requires.0 in
    let x = a_for_in g.ready.lawful g.known c.requires.1 in
    let k = for_in_stands g.ready.lawful g.known c.requires.1 in
    let e = c.for_in_of-x.ensures.0 in
    let m = ForIn.all_names _ _ g.ready c.payload_of-payload.ensures (k.1, k.2) in
    rw (c.looped.ensures, e)
    (omega (arith, x.body.below), ForIn.body g x (rw e at c.open_for_in-counter.ensures.0) c.open_for_in-counter.ensures.1 (rw e at c.expression-collection.ensures) (rw (e, m) at c.head_for_in-head.ensures))

pub for_in-end_for_in-requires : goal.for_in-end_for_in-requires
for_in-end_for_in-requires t c =
    let g = c.requires.0 in
    let x = a_for_in g.ready.lawful g.known c.requires.1 in
    let k = for_in_stands g.ready.lawful g.known c.requires.1 in
    let e = c.for_in_of-x.ensures.0 in
    let m = ForIn.all_names _ _ g.ready c.payload_of-payload.ensures (k.1, k.2) in
    ForIn.at_end g x (rw e at c.open_for_in-counter.ensures.0) c.open_for_in-counter.ensures.1 (rw e at c.expression-collection.ensures) (rw (e, m) at c.head_for_in-head.ensures) (rw (c.looped.ensures, e) at c.statement-body.ensures)

pub for_in-returns : goal.for_in-returns
for_in-returns t c =
    let g = c.requires.0 in
    let x = a_for_in g.ready.lawful g.known c.requires.1 in
    let k = for_in_stands g.ready.lawful g.known c.requires.1 in
    let e = c.for_in_of-x.ensures.0 in
    let m = ForIn.all_names _ _ g.ready c.payload_of-payload.ensures (k.1, k.2) in
    ForIn.lowers g x (rw e at c.open_for_in-counter.ensures.0) c.open_for_in-counter.ensures.1 (rw e at c.expression-collection.ensures) (rw (e, m) at c.head_for_in-head.ensures) (rw (c.looped.ensures, e) at c.statement-body.ensures) (rw e at c.end_for_in.ensures)

-- ---- for_loop

pub for_loop-for_of-x-requires : goal.for_loop-for_of-x-requires
for_loop-for_of-x-requires t c = held c.requires.0.ready c.requires.0.known c.requires.1

pub for_loop-row-first-requires : goal.for_loop-row-first-requires
for_loop-row-first-requires t c =
    let g = c.requires.0 in
    rw (c.initializer_end.ensures, c.for_of-x.ensures, ForLoop.one_or_two) (omega arith, ForLoop.first g (a_for g.ready.lawful g.known c.requires.1) (behind_here g.ready (for_stands g.ready.lawful g.known c.requires.1)))

pub for_loop-expression-condition-requires : goal.for_loop-expression-condition-requires
for_loop-expression-condition-requires t c =
    let g = c.requires.0 in
    let x = a_for g.ready.lawful g.known c.requires.1 in
    let e = c.for_of-x.ensures in
    rw e (omega (arith, x.condition.below), ForLoop.condition g x (rw (c.initializer_end.ensures, e, ForLoop.one_or_two) at c.row-first.ensures))

pub for_loop-test_and_jump-tested-requires : goal.for_loop-test_and_jump-tested-requires
for_loop-test_and_jump-tested-requires t c =
    let g = c.requires.0 in
    let e = c.for_of-x.ensures in
    ForLoop.at_test g (a_for g.ready.lawful g.known c.requires.1) (rw (c.initializer_end.ensures, e, ForLoop.one_or_two) at c.row-first.ensures) (rw e at c.expression-condition.ensures)

pub for_loop-looped-requires : goal.for_loop-looped-requires
for_loop-looped-requires t c =
    let g = c.requires.0 in
    (ForLoop.open_loops g (a_for g.ready.lawful g.known c.requires.1), g.ready.fine.sound.few)

pub for_loop-statement-body-requires : goal.for_loop-statement-body-requires
for_loop-statement-body-requires t c =
    let g = c.requires.0 in
    let x = a_for g.ready.lawful g.known c.requires.1 in
    let e = c.for_of-x.ensures in
    rw (c.looped.ensures, e)
    (omega (arith, x.body.below), ForLoop.body g x (rw (c.initializer_end.ensures, e, ForLoop.one_or_two) at c.row-first.ensures) (rw e at c.expression-condition.ensures) (rw e at c.test_and_jump-tested.ensures))

pub for_loop-expression-last-requires : goal.for_loop-expression-last-requires
for_loop-expression-last-requires t c =
    let g = c.requires.0 in
    let x = a_for g.ready.lawful g.known c.requires.1 in
    let e = c.for_of-x.ensures in
    rw e
    (omega (arith, x.increment.below), ForLoop.increment g x (rw (c.initializer_end.ensures, e, ForLoop.one_or_two) at c.row-first.ensures) (rw e at c.expression-condition.ensures) (rw e at c.test_and_jump-tested.ensures) (rw (c.looped.ensures, e) at c.statement-body.ensures))

pub for_loop-end_loop-requires : goal.for_loop-end_loop-requires
for_loop-end_loop-requires t c =
    let g = c.requires.0 in
    let e = c.for_of-x.ensures in
    ForLoop.at_end g (a_for g.ready.lawful g.known c.requires.1) (rw (c.initializer_end.ensures, e, ForLoop.one_or_two) at c.row-first.ensures) (rw e at c.expression-condition.ensures) (rw e at c.test_and_jump-tested.ensures) (rw (c.looped.ensures, e) at c.statement-body.ensures) (rw e at c.expression-last.ensures)

pub for_loop-returns : goal.for_loop-returns
for_loop-returns t c =
    let g = c.requires.0 in
    let e = c.for_of-x.ensures in
    ForLoop.lowers g (a_for g.ready.lawful g.known c.requires.1) (rw (c.initializer_end.ensures, e, ForLoop.one_or_two) at c.row-first.ensures) (rw e at c.expression-condition.ensures) (rw e at c.test_and_jump-tested.ensures) (rw (c.looped.ensures, e) at c.statement-body.ensures) (rw e at c.expression-last.ensures) (rw e at c.end_loop.ensures)

-- ---- function

pub function-function_of-x-requires : goal.function-function_of-x-requires
function-function_of-x-requires t c =
    let g = c.requires.0 in
    held g.ready g.known c.requires.1

pub function-payload_of-payload-requires : goal.function-payload_of-payload-requires
function-payload_of-payload-requires t c = readable c.requires.0.ready c.requires.0.known

pub function-enter_function-entered-requires : goal.function-enter_function-entered-requires
function-enter_function-entered-requires t c =
    let g = c.requires.0 in
    Function.at_enter g (a_function g.ready.lawful g.known c.requires.1) c.requires.2 c.next_register-own.ensures

pub function-open_function-opened-requires : goal.function-open_function-opened-requires
function-open_function-opened-requires t c =
    let g = c.requires.0 in
    let x = a_function g.ready.lawful g.known c.requires.1 in
    let k = function_stands g.ready.lawful g.known c.requires.1 in
    let y = Function.at_open g x c.requires.2 c.next_register-own.ensures c.enter_function-entered.ensures.1 in
    let z = stand 0 0 0 (from y) (omega arith) (omega arith) (omega arith) (omega arith) in
    rw (c.enter_function-entered.ensures.0, c.function_of-x.ensures.0) (z.fine, z.room, has_pairs _ _ _ _ 1 1 _ g.ready.width c.payload_of-payload.ensures refl (omega (arith, x.size, k.2.size)))

pub function-overflow_mul-x-2 : goal.function-overflow_mul-x-2
function-overflow_mul-x-2 t c = omega (arith, few_more _ _ c.function_of-x.ensures.1 (narrow_or_wide c.requires.0.ready))

pub function-body-last-requires : goal.function-body-last-requires
function-body-last-requires t c =
    let g = c.requires.0 in
    let x = a_function g.ready.lawful g.known c.requires.1 in
    let k = function_stands g.ready.lawful g.known c.requires.1 in
    let o = Function.opened _ _ _ g.ready.width c.payload_of-payload.ensures k.1 (rw (c.enter_function-entered.ensures.0, c.function_of-x.ensures.0) at c.open_function-opened.ensures) in
    rw (c.enter_function-entered.ensures.0, c.function_of-x.ensures.0) (omega arith, Function.ask_body g x c.requires.2 c.next_register-own.ensures c.enter_function-entered.ensures.1 o (Function.body_behind _ g.ready k.2))

pub function-end_function-requires : goal.function-end_function-requires
function-end_function-requires t c =
    let g = c.requires.0 in
    let x = a_function g.ready.lawful g.known c.requires.1 in
    let k = function_stands g.ready.lawful g.known c.requires.1 in
    let o = Function.opened _ _ _ g.ready.width c.payload_of-payload.ensures k.1 (rw (c.enter_function-entered.ensures.0, c.function_of-x.ensures.0) at c.open_function-opened.ensures) in
    let b = rw (c.enter_function-entered.ensures.0, c.function_of-x.ensures.0) at c.body-last.ensures in
    let y = Function.at_end g x c.requires.2 c.next_register-own.ensures c.enter_function-entered.ensures.1 o b in
    (y.0, y.1, y.2, y.3, c.function_of-x.ensures.1)

pub function-returns : goal.function-returns
function-returns t c =
    let g = c.requires.0 in
    let x = a_function g.ready.lawful g.known c.requires.1 in
    let k = function_stands g.ready.lawful g.known c.requires.1 in
    let o = Function.opened _ _ _ g.ready.width c.payload_of-payload.ensures k.1 (rw (c.enter_function-entered.ensures.0, c.function_of-x.ensures.0) at c.open_function-opened.ensures) in
    let b = rw (c.enter_function-entered.ensures.0, c.function_of-x.ensures.0) at c.body-last.ensures in
    Function.lowers g x c.requires.2 c.next_register-own.ensures c.enter_function-entered.ensures.1 o b (rw c.function_of-x.ensures.0 at c.end_function.ensures)

-- ---- if_stmt

pub if_stmt-if_of-x-requires : goal.if_stmt-if_of-x-requires
if_stmt-if_of-x-requires t c = held c.requires.0.ready c.requires.0.known c.requires.1

pub if_stmt-expression-condition-requires : goal.if_stmt-expression-condition-requires
if_stmt-expression-condition-requires t c =
    let g = c.requires.0 in
    let x = an_if g.ready.lawful g.known c.requires.1 in
    rw c.if_of-x.ensures.0 (omega (arith, x.condition.below), IfStmt.condition g x)

pub if_stmt-test_and_jump-tested-requires : goal.if_stmt-test_and_jump-tested-requires
if_stmt-test_and_jump-tested-requires t c =
    let g = c.requires.0 in
    IfStmt.at_test g (an_if g.ready.lawful g.known c.requires.1) (rw c.if_of-x.ensures.0 at c.expression-condition.ensures)

pub if_stmt-row-then-requires : goal.if_stmt-row-then-requires
if_stmt-row-then-requires t c =
    let g = c.requires.0 in
    let e = c.if_of-x.ensures.0 in
    rw c.if_of-x.ensures.0 (omega arith, IfStmt.thens g (an_if g.ready.lawful g.known c.requires.1) (rw e at c.expression-condition.ensures) (rw e at c.test_and_jump-tested.ensures) (behind_here g.ready (if_stands g.ready.lawful g.known c.requires.1)))

pub if_stmt-end_branch-branch-requires : goal.if_stmt-end_branch-branch-requires
if_stmt-end_branch-branch-requires t c =
    let g = c.requires.0 in
    let e = c.if_of-x.ensures.0 in
    IfStmt.at_branch g (an_if g.ready.lawful g.known c.requires.1) (rw e at c.expression-condition.ensures) (rw e at c.test_and_jump-tested.ensures) (rw c.if_of-x.ensures.0 at c.row-then.ensures)

pub if_stmt-elifs-others-requires : goal.if_stmt-elifs-others-requires
if_stmt-elifs-others-requires t c =
    let g = c.requires.0 in
    let e = c.if_of-x.ensures.0 in
    let b = c.if_of-x.ensures.0 in
    rw (b, IfStmt.after_thens (word_of (fields c.args.tree.now) c.args.node 2))
    (omega arith, IfStmt.others g (an_if g.ready.lawful g.known c.requires.1) (rw e at c.expression-condition.ensures) (rw e at c.test_and_jump-tested.ensures) (rw (b) at c.row-then.ensures) (rw e at c.end_branch-branch.ensures) (behind_here g.ready (if_stands g.ready.lawful g.known c.requires.1)))

pub if_stmt-row-last-requires : goal.if_stmt-row-last-requires
if_stmt-row-last-requires t c =
    let g = c.requires.0 in
    let e = c.if_of-x.ensures.0 in
    let b = c.if_of-x.ensures.0 in
    rw (b) (
      omega arith,
      IfStmt.elses g (an_if g.ready.lawful g.known c.requires.1) (rw e at c.expression-condition.ensures) (rw e at c.test_and_jump-tested.ensures) (rw (b) at c.row-then.ensures) (rw e at c.end_branch-branch.ensures)
          (rw (b, IfStmt.after_thens (word_of (fields c.args.tree.now) c.args.node 2)) at c.elifs-others.ensures) (behind_here g.ready (if_stands g.ready.lawful g.known c.requires.1)),
    )

pub if_stmt-end_if-requires : goal.if_stmt-end_if-requires
if_stmt-end_if-requires t c =
    let g = c.requires.0 in
    let e = c.if_of-x.ensures.0 in
    let b = c.if_of-x.ensures.0 in
    IfStmt.at_end g (an_if g.ready.lawful g.known c.requires.1) (rw e at c.expression-condition.ensures) (rw e at c.test_and_jump-tested.ensures) (rw (b) at c.row-then.ensures) (rw e at c.end_branch-branch.ensures)
    (rw (b, IfStmt.after_thens (word_of (fields c.args.tree.now) c.args.node 2)) at c.elifs-others.ensures) (rw (b) at c.row-last.ensures)

pub if_stmt-returns : goal.if_stmt-returns
if_stmt-returns t c =
    let g = c.requires.0 in
    let e = c.if_of-x.ensures.0 in
    let b = c.if_of-x.ensures.0 in
    IfStmt.lowers g (an_if g.ready.lawful g.known c.requires.1) (rw e at c.expression-condition.ensures) (rw e at c.test_and_jump-tested.ensures) (rw (b) at c.row-then.ensures) (rw e at c.end_branch-branch.ensures)
    (rw (b, IfStmt.after_thens (word_of (fields c.args.tree.now) c.args.node 2)) at c.elifs-others.ensures) (rw (b) at c.row-last.ensures) c.end_if.ensures

-- ---- let_stmt

pub let_stmt-let_of-x-requires : goal.let_stmt-let_of-x-requires
let_stmt-let_of-x-requires t c = held c.requires.0.ready c.requires.0.known c.requires.1

pub let_stmt-let_only-requires : goal.let_stmt-let_only-requires
let_stmt-let_only-requires t c =
    let g = c.requires.0 in
    let e = LetStmt.two_words (a_let g.ready.lawful g.known c.requires.1) (ap (λ (y : let_node.Let). y.value) c.let_of-x.ensures.0) c.in_default.is in
    (on_node (rw (let_only_size (a_let g.ready.lawful g.known c.requires.1) e) at g.ready) g.known, c.requires.1, e)

pub let_stmt-returns-in_default : goal.let_stmt-returns-in_default
let_stmt-returns-in_default t c =
    let g = c.requires.0 in
    let n = let_only_size (a_let g.ready.lawful g.known c.requires.1) (LetStmt.two_words (a_let g.ready.lawful g.known c.requires.1) (ap (λ (y : let_node.Let). y.value) c.let_of-x.ensures.0) c.in_default.is) in
    let v = let_only_visits (a_let g.ready.lawful g.known c.requires.1) (LetStmt.two_words (a_let g.ready.lawful g.known c.requires.1) (ap (λ (y : let_node.Let). y.value) c.let_of-x.ensures.0) c.in_default.is) in
    leaf_lowers _ _ _ (ap (λ n. 8 * n) n) n v c.let_only.ensures

pub let_stmt-new_global-name-requires : goal.let_stmt-new_global-name-requires
let_stmt-new_global-name-requires t c =
    let g = c.requires.0 in
    let x = a_let g.ready.lawful g.known c.requires.1 in
    let y = stand 0 0 0 (from g.ready) (omega arith) (omega arith) (omega arith) (omega arith) in
    rw c.let_of-x.ensures.0 (y.fine, y.room, LetStmt.only_block c.args.scope (sym c.is_global_context.ensures.0 ∙ c.if-is_global_context.true), omega (arith, x.name))

pub let_stmt-expression-value-requires : goal.let_stmt-expression-value-requires
let_stmt-expression-value-requires t c =
    let g = c.requires.0 in
    let x = a_let g.ready.lawful g.known c.requires.1 in
    let three = LetStmt.three_words x (ap (λ (y : let_node.Let). y.value) c.let_of-x.ensures.0) c.in-Some.is in
    let e = c.let_of-x.ensures.0 in
    rw three.1 (omega (arith, (x.value three.0).below), LetStmt.value_after g x three.0 (c.is_global_context.ensures.1 _ _ g.ready.fine.sound) c.if-is_global_context.true (rw e at c.new_global-name.ensures))

pub let_stmt-emit_bx-requires : goal.let_stmt-emit_bx-requires
let_stmt-emit_bx-requires t c =
    let g = c.requires.0 in
    let x = a_let g.ready.lawful g.known c.requires.1 in
    let three = LetStmt.three_words x (ap (λ (y : let_node.Let). y.value) c.let_of-x.ensures.0) c.in-Some.is in
    let e = c.let_of-x.ensures.0 in
    LetStmt.at_emit g x three.0 (c.is_global_context.ensures.1 _ _ g.ready.fine.sound) c.if-is_global_context.true (rw e at c.new_global-name.ensures) (rw three.1 at c.expression-value.ensures)

pub let_stmt-returns-then-is_global_context : goal.let_stmt-returns-then-is_global_context
let_stmt-returns-then-is_global_context t c =
    let g = c.requires.0 in
    let x = a_let g.ready.lawful g.known c.requires.1 in
    let three = LetStmt.three_words x (ap (λ (y : let_node.Let). y.value) c.let_of-x.ensures.0) c.in-Some.is in
    let e = c.let_of-x.ensures.0 in
    LetStmt.lowers_global g x three.0 (c.is_global_context.ensures.1 _ _ g.ready.fine.sound) c.if-is_global_context.true (rw e at c.new_global-name.ensures) (rw three.1 at c.expression-value.ensures) (rw e at c.emit_bx.ensures)

pub let_stmt-expression-value-requires-2 : goal.let_stmt-expression-value-requires-2
let_stmt-expression-value-requires-2 t c =
    let g = c.requires.0 in
    let x = a_let g.ready.lawful g.known c.requires.1 in
    let three = LetStmt.three_words x (ap (λ (y : let_node.Let). y.value) c.let_of-x.ensures.0) c.in-Some.is in
    rw three.1 (omega (arith, (x.value three.0).below), LetStmt.value g x three.0)

pub let_stmt-allocate_register-requires : goal.let_stmt-allocate_register-requires
let_stmt-allocate_register-requires t c =
    let g = c.requires.0 in
    let x = a_let g.ready.lawful g.known c.requires.1 in
    let three = LetStmt.three_words x (ap (λ (y : let_node.Let). y.value) c.let_of-x.ensures.0) c.in-Some.is in
    let e = c.let_of-x.ensures.0 in
    rw e (LetStmt.at_name g x three.0 (c.is_global_context.ensures.1 _ _ g.ready.fine.sound) c.if-is_global_context.false (rw three.1 at c.expression-value-2.ensures))

pub let_stmt-returns : goal.let_stmt-returns
let_stmt-returns t c =
    let g = c.requires.0 in
    let x = a_let g.ready.lawful g.known c.requires.1 in
    let three = LetStmt.three_words x (ap (λ (y : let_node.Let). y.value) c.let_of-x.ensures.0) c.in-Some.is in
    let e = c.let_of-x.ensures.0 in
    LetStmt.lowers_local g x three.0 (c.is_global_context.ensures.1 _ _ g.ready.fine.sound) c.if-is_global_context.false (rw three.1 at c.expression-value-2.ensures) (rw e at c.allocate_register.ensures)

-- ---- logical

pub logical-logical_of-x-requires : goal.logical-logical_of-x-requires
logical-logical_of-x-requires t c = held c.requires.0.ready c.requires.0.known c.requires.1

pub logical-expression-left-requires : goal.logical-expression-left-requires
logical-expression-left-requires t c =
    let g = c.requires.0 in
    let x = a_logical g.ready.lawful g.known c.requires.1 in
    rw c.logical_of-x.ensures (omega (arith, x.left.below), Logical.left g x)

pub logical-test_and_jump-tested-requires : goal.logical-test_and_jump-tested-requires
logical-test_and_jump-tested-requires t c =
    let g = c.requires.0 in
    Logical.at_test g (a_logical g.ready.lawful g.known c.requires.1) (rw c.logical_of-x.ensures at c.expression-left.ensures) _ c.or_flag.ensures.1

pub logical-expression-right-requires : goal.logical-expression-right-requires
logical-expression-right-requires t c =
    let g = c.requires.0 in
    let x = a_logical g.ready.lawful g.known c.requires.1 in
    let e = c.logical_of-x.ensures in
    rw e (omega (arith, x.right.below), Logical.right g x (rw e at c.expression-left.ensures) (rw (c.or_flag.ensures.0, e) at c.test_and_jump-tested.ensures))

pub logical-end_logical-requires : goal.logical-end_logical-requires
logical-end_logical-requires t c =
    let g = c.requires.0 in
    let e = c.logical_of-x.ensures in
    Logical.at_end g (a_logical g.ready.lawful g.known c.requires.1) (rw e at c.expression-left.ensures) (rw (c.or_flag.ensures.0, e) at c.test_and_jump-tested.ensures) (rw e at c.expression-right.ensures)

pub logical-returns : goal.logical-returns
logical-returns t c =
    let g = c.requires.0 in
    let e = c.logical_of-x.ensures in
    Logical.lowers g (a_logical g.ready.lawful g.known c.requires.1) (rw e at c.expression-left.ensures) (rw (c.or_flag.ensures.0, e) at c.test_and_jump-tested.ensures) (rw e at c.expression-right.ensures) (rw e at c.end_logical.ensures)

-- ---- methods

pub methods-payload_of-payload-requires : goal.methods-payload_of-payload-requires
methods-payload_of-payload-requires t c = readable c.requires.0.ready c.requires.0.known

pub methods-loop-k-init : goal.methods-loop-k-init
methods-loop-k-init t c = Methods.start c.requires _

pub methods-overflow_add-k : goal.methods-overflow_add-k
methods-overflow_add-k t c =
    let r = c.requires.0 in
    omega (arith, c.loop-k-test.true, r.ends, r.behind.size, few_words _ _ (λ j. omega (arith, c.type_inv.tree j)) (inside r.ready.lawful r.known))

pub methods-child-child-requires : goal.methods-child-child-requires
methods-child-child-requires t c = rw c.payload_of-payload.ensures (omega (arith, c.loop-k-test.true, c.requires.0.ends, c.requires.0.behind.size))

pub methods-define_of-x-requires : goal.methods-define_of-x-requires
methods-define_of-x-requires t c =
    let e = placed c.requires.0 c.loop-k.invariant.low (rw c.payload_of-payload.ensures at c.child-child.ensures.0) in
    let g = Methods.child c.requires _ c.loop-k.invariant c.loop-k-test.true in
    rw e (held g.0.ready g.0.known g.1)

pub methods-fn_stmt-method-requires : goal.methods-fn_stmt-method-requires
methods-fn_stmt-method-requires t c =
    let h = c.loop-k-test.true in
    let e = placed c.requires.0 c.loop-k.invariant.low (rw c.payload_of-payload.ensures at c.child-child.ensures.0) in
    rw e (omega (arith, (Methods.below c.requires _ c.loop-k.invariant h).below), Methods.child c.requires _ c.loop-k.invariant h)

pub methods-add_method-last-requires : goal.methods-add_method-last-requires
methods-add_method-last-requires t c =
    let e = placed c.requires.0 c.loop-k.invariant.low (rw c.payload_of-payload.ensures at c.child-child.ensures.0) in
    let y = Methods.at_add c.requires _ c.loop-k.invariant c.loop-k-test.true (rw e at c.fn_stmt-method.ensures) in
    (y.0, y.1, rw (c.define_of-x.ensures.0, e) (omega (arith, (Methods.defined c.requires _ c.loop-k.invariant c.loop-k-test.true).name)), y.2)

pub methods-loop-k-preserved : goal.methods-loop-k-preserved
methods-loop-k-preserved t c =
    let e = placed c.requires.0 c.loop-k.invariant.low (rw c.payload_of-payload.ensures at c.child-child.ensures.0) in
    Methods.turn c.requires _ c.loop-k.invariant c.loop-k-test.true (rw e at c.fn_stmt-method.ensures) (rw (c.define_of-x.ensures.0, e) at c.add_method-last.ensures) c.visit.ensures

pub methods-returns : goal.methods-returns
methods-returns t c = rw c.settle.ensures (Methods.lowers c.requires _ c.loop-k.invariant c.loop-k-test.false)

-- ---- minus

pub minus-binary_of-x-requires : goal.minus-binary_of-x-requires
minus-binary_of-x-requires t c = held c.requires.0.ready c.requires.0.known c.requires.1

pub minus-expression-right-requires : goal.minus-expression-right-requires
minus-expression-right-requires t c =
    let g = c.requires.0 in
    let x = a_binary g.ready.lawful g.known c.requires.1 in
    rw c.binary_of-x.ensures (omega (arith, x.right.below), Minus.right g x)

pub minus-both-requires : goal.minus-both-requires
minus-both-requires t c =
    let g = c.requires.0 in
    (omega arith, (Minus.all g (a_binary g.ready.lawful g.known c.requires.1) (rw c.binary_of-x.ensures at c.expression-right.ensures) c.next_register-last.ensures.0 (rolls _ _ (Minus.longer g (a_binary g.ready.lawful g.known c.requires.1) (rw c.binary_of-x.ensures at c.expression-right.ensures) c.next_register-last.ensures.0) c.roll_back-again.ensures), c.requires.1))

pub minus-returns : goal.minus-returns
minus-returns t c =
    let g = c.requires.0 in
    Minus.lowers g (a_binary g.ready.lawful g.known c.requires.1) (rw c.binary_of-x.ensures at c.expression-right.ensures) c.next_register-last.ensures.0 (rolls _ _ (Minus.longer g (a_binary g.ready.lawful g.known c.requires.1) (rw c.binary_of-x.ensures at c.expression-right.ensures) c.next_register-last.ensures.0) c.roll_back-again.ensures) c.both.ensures

-- ---- return_stmt

pub return_stmt-return_of-x-requires : goal.return_stmt-return_of-x-requires
return_stmt-return_of-x-requires t c = held c.requires.0.ready c.requires.0.known c.requires.1

pub return_stmt-return_none-requires : goal.return_stmt-return_none-requires
return_stmt-return_none-requires t c =
    let g = c.requires.0 in
    let e = ReturnStmt.one_word (a_return g.ready.lawful g.known c.requires.1) (ap (λ (y : return_node.Return). y.value) c.return_of-x.ensures) c.in_default.is in
    let x = a_return g.ready.lawful g.known c.requires.1 in
    (on_node (rw (return_none_size x e) at g.ready) g.known, c.requires.1, e)

pub return_stmt-returns-in_default : goal.return_stmt-returns-in_default
return_stmt-returns-in_default t c =
    let g = c.requires.0 in
    let n = return_none_size (a_return g.ready.lawful g.known c.requires.1) (ReturnStmt.one_word (a_return g.ready.lawful g.known c.requires.1) (ap (λ (y : return_node.Return). y.value) c.return_of-x.ensures) c.in_default.is) in
    let v = return_none_visits (a_return g.ready.lawful g.known c.requires.1) (ReturnStmt.one_word (a_return g.ready.lawful g.known c.requires.1) (ap (λ (y : return_node.Return). y.value) c.return_of-x.ensures) c.in_default.is) in
    leaf_lowers _ _ _ (ap (λ n. 8 * n) n) n v c.return_none.ensures

pub return_stmt-expression-value-requires : goal.return_stmt-expression-value-requires
return_stmt-expression-value-requires t c =
    let g = c.requires.0 in
    let x = a_return g.ready.lawful g.known c.requires.1 in
    let two = ReturnStmt.two_words x (ap (λ (y : return_node.Return). y.value) c.return_of-x.ensures) c.in-Some.is in
    rw two.1 (omega (arith, (x.value two.0).below), ReturnStmt.value g x two.0)

pub return_stmt-end_return-requires : goal.return_stmt-end_return-requires
return_stmt-end_return-requires t c =
    let g = c.requires.0 in
    let x = a_return g.ready.lawful g.known c.requires.1 in
    let two = ReturnStmt.two_words x (ap (λ (y : return_node.Return). y.value) c.return_of-x.ensures) c.in-Some.is in
    ReturnStmt.at_end g x two.0 (rw two.1 at c.expression-value.ensures)

pub return_stmt-returns : goal.return_stmt-returns
return_stmt-returns t c =
    let g = c.requires.0 in
    let x = a_return g.ready.lawful g.known c.requires.1 in
    let e = c.return_of-x.ensures in
    let two = ReturnStmt.two_words x (ap (λ (y : return_node.Return). y.value) c.return_of-x.ensures) c.in-Some.is in
    ReturnStmt.lowers g x two.0 (rw two.1 at c.expression-value.ensures) (rw e at c.end_return.ensures)

-- ---- row

pub row-payload_of-payload-requires : goal.row-payload_of-payload-requires
row-payload_of-payload-requires t c = readable c.requires.ready c.requires.known

pub row-loop-k-init : goal.row-loop-k-init
row-loop-k-init t c = Row.start c.requires

pub row-overflow_add-k : goal.row-overflow_add-k
row-overflow_add-k t c =
    let r = c.requires in
    omega (arith, c.loop-k-test.true, r.ends, r.behind.size, few_words _ _ (λ j. omega (arith, c.type_inv.tree j)) (inside r.ready.lawful r.known))

pub row-child-child-requires : goal.row-child-child-requires
row-child-child-requires t c = rw c.payload_of-payload.ensures (omega (arith, c.loop-k-test.true, c.requires.ends, c.requires.behind.size))

pub row-statement-last-requires : goal.row-statement-last-requires
row-statement-last-requires t c =
    let h = c.loop-k-test.true in
    let e = placed c.requires c.loop-k.invariant.low (rw c.payload_of-payload.ensures at c.child-child.ensures.0) in
    rw e (omega (arith, (Row.below c.requires c.loop-k.invariant h).below), Row.child c.requires c.loop-k.invariant h)

pub row-loop-k-preserved : goal.row-loop-k-preserved
row-loop-k-preserved t c = Row.turn c.requires c.loop-k.invariant c.loop-k-test.true (rw (placed c.requires c.loop-k.invariant.low (rw c.payload_of-payload.ensures at c.child-child.ensures.0)) at c.statement-last.ensures)

pub row-returns : goal.row-returns
row-returns t c = Row.lowers c.requires c.loop-k.invariant c.loop-k-test.false

-- ---- statement
-- impl StmtAcceptor for Stmt: a refused step returns at once; any other goes to its tag's function, whose promise is the whole's; what is left is a break or a continue.

pub statement-returns-in_default : goal.statement-returns-in_default
statement-returns-in_default t c = refused_stays _ _ c.requires.0.ready.fine c.in_default.is

pub statement-tag_of-tag-requires : goal.statement-tag_of-tag-requires
statement-tag_of-tag-requires t c = readable c.requires.0.ready c.requires.0.known

pub statement-expr_stmt-requires : goal.statement-expr_stmt-requires
statement-expr_stmt-requires t c = (omega arith, (ticked_given c.requires.0 c.visit.ensures, sym c.tag_of-tag.ensures ∙ c.in-16.is))

pub statement-let_stmt-requires : goal.statement-let_stmt-requires
statement-let_stmt-requires t c = (omega arith, (ticked_given c.requires.0 c.visit.ensures, sym c.tag_of-tag.ensures ∙ c.in-17.is))

pub statement-block-requires : goal.statement-block-requires
statement-block-requires t c = (omega arith, (ticked_given c.requires.0 c.visit.ensures, sym c.tag_of-tag.ensures ∙ c.in-18.is))

pub statement-while_loop-requires : goal.statement-while_loop-requires
statement-while_loop-requires t c = (omega arith, (ticked_given c.requires.0 c.visit.ensures, sym c.tag_of-tag.ensures ∙ c.in-19.is))

pub statement-for_loop-requires : goal.statement-for_loop-requires
statement-for_loop-requires t c = (omega arith, (ticked_given c.requires.0 c.visit.ensures, sym c.tag_of-tag.ensures ∙ c.in-20.is))

pub statement-for_in-requires : goal.statement-for_in-requires
statement-for_in-requires t c = (omega arith, (ticked_given c.requires.0 c.visit.ensures, sym c.tag_of-tag.ensures ∙ c.in-21.is))

pub statement-return_stmt-requires : goal.statement-return_stmt-requires
statement-return_stmt-requires t c = (omega arith, (ticked_given c.requires.0 c.visit.ensures, sym c.tag_of-tag.ensures ∙ c.in-24.is))

pub statement-if_stmt-requires : goal.statement-if_stmt-requires
statement-if_stmt-requires t c = (omega arith, (ticked_given c.requires.0 c.visit.ensures, sym c.tag_of-tag.ensures ∙ c.in-25.is))

pub statement-try_catch-requires : goal.statement-try_catch-requires
statement-try_catch-requires t c = (omega arith, (ticked_given c.requires.0 c.visit.ensures, sym c.tag_of-tag.ensures ∙ c.in-27.is))

pub statement-fn_stmt-requires : goal.statement-fn_stmt-requires
statement-fn_stmt-requires t c =
    let g = c.requires.0 in
    let e = sym c.tag_of-tag.ensures ∙ c.in-28.is in
    (omega arith, (Statement.ask_fun (ticked_given g c.visit.ensures) (a_define g.ready.lawful g.known e), e, due c.args.step.outcome g.ready.fine.nested (goes c.in-Ok.is)))

pub statement-class-requires : goal.statement-class-requires
statement-class-requires t c =
    let g = c.requires.0 in
    (omega arith, (ticked_given g c.visit.ensures, sym c.tag_of-tag.ensures ∙ c.in-29.is, due c.args.step.outcome g.ready.fine.nested (goes c.in-Ok.is)))

pub statement-jump-requires : goal.statement-jump-requires
statement-jump-requires t c =
    let g = c.requires.0 in
    let e : (22 ≤ tag_of (fields c.args.tree.now) c.args.node) × (tag_of (fields c.args.tree.now) c.args.node ≤ 23) = (omega (arith, c.tag_of-tag.ensures), omega (arith, c.tag_of-tag.ensures)) in
    (on_node (rw (a_jump g.ready.lawful g.known e.0 e.1) at (ticked_ready g.ready c.visit.ensures)) g.known, e.0, e.1)

pub statement-returns-in-16 : goal.statement-returns-in-16
statement-returns-in-16 t c = ticked_lowers c.requires.0.ready c.visit.ensures c.expr_stmt.ensures

pub statement-returns-in-17 : goal.statement-returns-in-17
statement-returns-in-17 t c = ticked_lowers c.requires.0.ready c.visit.ensures c.let_stmt.ensures

pub statement-returns-in-18 : goal.statement-returns-in-18
statement-returns-in-18 t c = ticked_lowers c.requires.0.ready c.visit.ensures c.block.ensures

pub statement-returns-in-19 : goal.statement-returns-in-19
statement-returns-in-19 t c = ticked_lowers c.requires.0.ready c.visit.ensures c.while_loop.ensures

pub statement-returns-in-20 : goal.statement-returns-in-20
statement-returns-in-20 t c = ticked_lowers c.requires.0.ready c.visit.ensures c.for_loop.ensures

pub statement-returns-in-21 : goal.statement-returns-in-21
statement-returns-in-21 t c = ticked_lowers c.requires.0.ready c.visit.ensures c.for_in.ensures

pub statement-returns-in-24 : goal.statement-returns-in-24
statement-returns-in-24 t c = ticked_lowers c.requires.0.ready c.visit.ensures c.return_stmt.ensures

pub statement-returns-in-25 : goal.statement-returns-in-25
statement-returns-in-25 t c = ticked_lowers c.requires.0.ready c.visit.ensures c.if_stmt.ensures

pub statement-returns-in-27 : goal.statement-returns-in-27
statement-returns-in-27 t c = ticked_lowers c.requires.0.ready c.visit.ensures c.try_catch.ensures

pub statement-returns-in-28 : goal.statement-returns-in-28
statement-returns-in-28 t c =
    let g = c.requires.0 in
    ticked_lowers g.ready c.visit.ensures (Statement.fun_lowers (ticked_given g c.visit.ensures) (a_define g.ready.lawful g.known (sym c.tag_of-tag.ensures ∙ c.in-28.is)) c.fn_stmt.ensures)

pub statement-returns-in-29 : goal.statement-returns-in-29
statement-returns-in-29 t c = ticked_lowers c.requires.0.ready c.visit.ensures c.class.ensures

pub statement-returns-in_default-tag : goal.statement-returns-in_default-tag
statement-returns-in_default-tag t c =
    let g = c.requires.0 in
    let e : (22 ≤ tag_of (fields c.args.tree.now) c.args.node) × (tag_of (fields c.args.tree.now) c.args.node ≤ 23) = (omega (arith, c.tag_of-tag.ensures), omega (arith, c.tag_of-tag.ensures)) in
    let n = a_jump g.ready.lawful g.known e.0 e.1 in
    ticked_lowers g.ready c.visit.ensures (leaf_lowers _ _ _ (ap (λ n. 8 * n) n) n (no_jump_visits g.ready.lawful g.known e.0 e.1) c.jump.ensures)

-- ---- try_catch

pub try_catch-try_of-x-requires : goal.try_catch-try_of-x-requires
try_catch-try_of-x-requires t c = held c.requires.0.ready c.requires.0.known c.requires.1

pub try_catch-open_try_body-opened-requires : goal.try_catch-open_try_body-opened-requires
try_catch-open_try_body-opened-requires t c =
    let g = c.requires.0 in
    TryCatch.at_open g (a_try g.ready.lawful g.known c.requires.1)

pub try_catch-statement-body-requires : goal.try_catch-statement-body-requires
try_catch-statement-body-requires t c =
    let g = c.requires.0 in
    let x = a_try g.ready.lawful g.known c.requires.1 in
    rw c.try_of-x.ensures (omega (arith, x.body.below), TryCatch.body g x c.open_try_body-opened.ensures)

pub try_catch-end_try_body-ended-requires : goal.try_catch-end_try_body-ended-requires
try_catch-end_try_body-ended-requires t c =
    let g = c.requires.0 in
    TryCatch.at_body g (a_try g.ready.lawful g.known c.requires.1) c.open_try_body-opened.ensures (rw c.try_of-x.ensures at c.statement-body.ensures)

pub try_catch-enter_block-inside-requires : goal.try_catch-enter_block-inside-requires
try_catch-enter_block-inside-requires t c =
    let g = c.requires.0 in
    TryCatch.at_enter g (a_try g.ready.lawful g.known c.requires.1) c.open_try_body-opened.ensures (rw c.try_of-x.ensures at c.statement-body.ensures) c.end_try_body-ended.ensures

pub try_catch-open_catch-caught-requires : goal.try_catch-open_catch-caught-requires
try_catch-open_catch-caught-requires t c =
    let g = c.requires.0 in
    let e = c.try_of-x.ensures in
    let b = c.enter_block-inside.ensures in
    let d3 = c.end_try_body-ended.ensures in
    rw (b.0, e) (TryCatch.at_catch g (a_try g.ready.lawful g.known c.requires.1) c.open_try_body-opened.ensures (rw e at c.statement-body.ensures) d3 b.1 (b.2 _ d3.moves.fine))

pub try_catch-statement-last-requires : goal.try_catch-statement-last-requires
try_catch-statement-last-requires t c =
    let g = c.requires.0 in
    let x = a_try g.ready.lawful g.known c.requires.1 in
    let e = c.try_of-x.ensures in
    let b = c.enter_block-inside.ensures in
    let d3 = c.end_try_body-ended.ensures in
    rw (b.0, e)
    (omega (arith, x.catch.below), TryCatch.catch g x c.open_try_body-opened.ensures (rw e at c.statement-body.ensures) d3 b.1 (b.2 _ d3.moves.fine) (rw (b.0, e) at c.open_catch-caught.ensures))

pub try_catch-leave_block-requires : goal.try_catch-leave_block-requires
try_catch-leave_block-requires t c = rw c.enter_block-inside.ensures.0 at c.statement-last.ensures.does.moves.fine.sound

pub try_catch-end_try-requires : goal.try_catch-end_try-requires
try_catch-end_try-requires t c =
    let g = c.requires.0 in
    let e = c.try_of-x.ensures in
    let b = c.enter_block-inside.ensures in
    let d3 = c.end_try_body-ended.ensures in
    TryCatch.at_end g (a_try g.ready.lawful g.known c.requires.1) c.open_try_body-opened.ensures (rw e at c.statement-body.ensures) d3 b.1 (b.2 _ d3.moves.fine) (rw (b.0, e) at c.open_catch-caught.ensures)
    (rw (b.0, e) at c.statement-last.ensures) c.leave_block.ensures

pub try_catch-returns : goal.try_catch-returns
try_catch-returns t c =
    let g = c.requires.0 in
    let e = c.try_of-x.ensures in
    let b = c.enter_block-inside.ensures in
    let d3 = c.end_try_body-ended.ensures in
    TryCatch.lowers g (a_try g.ready.lawful g.known c.requires.1) c.open_try_body-opened.ensures (rw e at c.statement-body.ensures) d3 b.1 (b.2 _ d3.moves.fine) (rw (b.0, e) at c.open_catch-caught.ensures)
    (rw (b.0, e) at c.statement-last.ensures) c.leave_block.ensures c.end_try.ensures

-- ---- unary

pub unary-unary_of-x-requires : goal.unary-unary_of-x-requires
unary-unary_of-x-requires t c = held c.requires.0.ready c.requires.0.known c.requires.1

pub unary-expression-operand-requires : goal.unary-expression-operand-requires
unary-expression-operand-requires t c =
    let g = c.requires.0 in
    let x = a_unary g.ready.lawful g.known c.requires.1 in
    rw c.unary_of-x.ensures (omega (arith, x.operand.below), Unary.operand g x)

pub unary-emit-requires : goal.unary-emit-requires
unary-emit-requires t c =
    let g = c.requires.0 in
    Unary.at_emit g (a_unary g.ready.lawful g.known c.requires.1) (rw c.unary_of-x.ensures at c.expression-operand.ensures) _ c.unary_opcode.ensures.1

pub unary-returns : goal.unary-returns
unary-returns t c =
    let g = c.requires.0 in
    let e = c.unary_of-x.ensures in
    Unary.lowers g (a_unary g.ready.lawful g.known c.requires.1) (rw e at c.expression-operand.ensures) (rw (c.unary_opcode.ensures.0, e) at c.emit.ensures)

-- ---- while_loop

pub while_loop-while_of-x-requires : goal.while_loop-while_of-x-requires
while_loop-while_of-x-requires t c = held c.requires.0.ready c.requires.0.known c.requires.1

pub while_loop-expression-condition-requires : goal.while_loop-expression-condition-requires
while_loop-expression-condition-requires t c =
    let g = c.requires.0 in
    let x = a_while g.ready.lawful g.known c.requires.1 in
    rw c.while_of-x.ensures (omega (arith, x.condition.below), WhileLoop.condition g x)

pub while_loop-test_and_jump-tested-requires : goal.while_loop-test_and_jump-tested-requires
while_loop-test_and_jump-tested-requires t c =
    let g = c.requires.0 in
    WhileLoop.at_test g (a_while g.ready.lawful g.known c.requires.1) (rw c.while_of-x.ensures at c.expression-condition.ensures)

pub while_loop-looped-requires : goal.while_loop-looped-requires
while_loop-looped-requires t c =
    let g = c.requires.0 in
    (WhileLoop.open_loops g (a_while g.ready.lawful g.known c.requires.1), g.ready.fine.sound.few)

pub while_loop-statement-body-requires : goal.while_loop-statement-body-requires
while_loop-statement-body-requires t c =
    let g = c.requires.0 in
    let x = a_while g.ready.lawful g.known c.requires.1 in
    let e = c.while_of-x.ensures in
    rw (c.looped.ensures, e) (omega (arith, x.body.below), WhileLoop.body g x (rw e at c.expression-condition.ensures) (rw e at c.test_and_jump-tested.ensures))

pub while_loop-end_loop-requires : goal.while_loop-end_loop-requires
while_loop-end_loop-requires t c =
    let g = c.requires.0 in
    let e = c.while_of-x.ensures in
    WhileLoop.at_end g (a_while g.ready.lawful g.known c.requires.1) (rw e at c.expression-condition.ensures) (rw e at c.test_and_jump-tested.ensures) (rw (c.looped.ensures, e) at c.statement-body.ensures)

pub while_loop-returns : goal.while_loop-returns
while_loop-returns t c =
    let g = c.requires.0 in
    let e = c.while_of-x.ensures in
    WhileLoop.lowers g (a_while g.ready.lawful g.known c.requires.1) (rw e at c.expression-condition.ensures) (rw e at c.test_and_jump-tested.ensures) (rw (c.looped.ensures, e) at c.statement-body.ensures) (rw e at c.end_loop.ensures)
