-- A global by its name's constant, a register, LoadNil and SetGlobal; a local by a register alone.
use native.Mathlib.Omega.{arith}
use lib.Dec.{lit<}
use Rattle.meaning.specs.Fields.{fields}
use Rattle.meaning.specs.Lower.{lower_stmt}
use Rattle.meaning.proofs.Reading.{let_node}
use Rattle.forward.proofs.Chains.{let_only_chain}
use Rattle.store.specs.Promise.{uses}
use Rattle.store.proofs.Compose.{known}
use Rattle.store.specs.Store.{outcome_of}
use Rattle.routines.proofs.Held.{inside}
use Rattle.routines.proofs.NodeLine.{one, ◌▹◌, always, small_put, gives}
use Rattle.routines.proofs.let_stmt.let_only.Goals as goal

pub returns-then-is_global_context : goal.returns-then-is_global_context
unfolding lower_stmt
returns-then-is_global_context c = let let_of = c.let_of-x in
    let new_global = c.new_global-constant in
    let next_register = c.next_register-register in
    let emit = c.emit-nil in
    let put-bx = c.put_bx in
    let is_global_context = c.is_global_context in
    let if1 = c.if-is_global_context in
    let given = c.requires.0 in
    let held = let_node (fields c.args.tree.now) given.lawful.shapes c.args.node (inside given.lawful given.known) c.requires.1 in
    let k = new_global.ensures in
    let a = next_register.ensures.0 in
    let b = emit.ensures in
    let d = put-bx.ensures in
    gives (uses 8 1 0) (one k ▹ one a ▹ one b ▹ one d) (omega arith) (omega arith) (omega arith) (λ z. omega arith) (omega arith)
    (λ ps. rw (held.is_only c.requires.2) (rw let_of.ensures.0 at ((let_only_chain _ _ _ _ _ (is_global_context.ensures.1 _ c.args.step given.fine.sound ps)).0 if1.true _ (k.runs ps) _ (known _ _ _ ps) _ (a.runs ps) _ (known _ _ _ ps) _ (b.runs ps) _ (d.runs ps))))
    (small_put d (lit< tt))

pub returns : goal.returns
unfolding lower_stmt
returns c = let let_of = c.let_of-x in
    let next-register2 = c.next_register-register-2 in
    let allocate_register = c.allocate_register in
    let is_global_context = c.is_global_context in
    let if1 = c.if-is_global_context in
    let given = c.requires.0 in
    let held = let_node (fields c.args.tree.now) given.lawful.shapes c.args.node (inside given.lawful given.known) c.requires.1 in
    let a = next-register2.ensures.0 in
    let d = allocate_register.ensures in
    gives (uses 8 1 0) (one a ▹ one d) (omega arith) (omega arith) (omega arith) (λ z. omega arith) (omega arith)
    (λ ps. rw (held.is_only c.requires.2) (rw let_of.ensures.0 at ((let_only_chain _ let_of.result.token _ _ _ (is_global_context.ensures.1 _ c.args.step given.fine.sound ps)).1 if1.false _ (a.runs ps) _ (known _ _ _ ps) _ (d.runs ps))))
    (always (outcome_of next-register2.result) next-register2.ensures.1)
