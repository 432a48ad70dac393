-- `code::prototype::leave_function` meets its contract: the prototype is added, then the locals are popped. Assumes nothing.
use Rattle.code.proofs.Ending.{ends_by}
use Rattle.code.proofs.prototype.leave_function.Goals as goal

pub returns : goal.returns
returns c = let added = rw c.inner-inside.ensures at c.add_prototype-next.ensures in
    (ends_by c.requires.1 added c.leave_block.ensures, added.index)
