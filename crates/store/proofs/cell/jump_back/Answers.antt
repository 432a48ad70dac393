-- `store::cell::jump_back` meets its contract: the bytes are those that `backward` gives. Assumes nothing.
use Rattle.store.proofs.cell.jump_back.Goals as goal

pub returns : goal.returns
returns c = rw c.backward-h.ensures at c.pack.ensures
