-- `code::one::emit` meets its contract: `put` of the result that there is. Assumes nothing.
use mathlib.Core.Path.{refl}
use Rattle.code.proofs.Coded.{leaf_as}
use Rattle.code.proofs.one.emit.Goals as goal

pub returns : goal.returns
returns c = leaf_as _ _ (λ t. refl) c.put.ensures
