-- The words of an inner function, with the step or the refusal of a ninth (Functions.antt).
use Rattle.store.proofs.Functions.{enters_in, enters_out}
use Rattle.store.proofs.function.enter_function.Goals as goal

pub returns-then-depth-eq7 : goal.returns-then-depth-eq7
returns-then-depth-eq7 c = let a = c.args in
    let pre = c.requires in
    (c.inner-inside.ensures, rw c.refuse-refused.ensures (enters_out a.work.now _ a.scope a.step a.name pre.0 pre.1 pre.2 c.open_frame.ensures c.if-depth-eq7.true a.node))

pub returns : goal.returns
returns c = let a = c.args in
    let pre = c.requires in
    (c.inner-inside.ensures, enters_in a.work.now _ a.scope a.step a.name pre.0 pre.1 pre.2 c.open_frame.ensures c.if-depth-eq7.false a.node)
