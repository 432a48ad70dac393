-- `store::cell::pack_bx` meets its contract: the bytes are those that `forward` gives. Assumes nothing.
use Rattle.store.proofs.cell.pack_bx.Goals as goal

pub returns : goal.returns
returns c = rw c.forward-h.ensures at c.pack.ensures
