-- `code::one::emit_bx` meets its contract: `put_bx` of the result that there is. Assumes nothing.
use mathlib.Core.Path.{refl}
use Rattle.code.proofs.Coded.{leaf_as}
use Rattle.code.proofs.one.emit_bx.Goals as goal

pub returns : goal.returns
returns c = leaf_as _ _ (λ t. refl) c.put_bx.ensures
