-- `code::ahead::test_and_jump` meets its contract: two instructions are written behind the others. Assumes nothing.
use borrow.Author.Rules.{rules}
use mathlib.Core.Path.{refl}
use Rattle.forward.specs.Forward.{test_and_jump}
use Rattle.code.proofs.Coded.{leaf_as, room_after, sure_after}
use Rattle.code.proofs.ahead.test_and_jump.Goals as goal

pub emit-requires : goal.emit-requires
emit-requires c = let one = c.emit-tested.ensures in
    (one.moves.fine, room_after 2 2 c.requires.1 one, search rules)

pub returns : goal.returns
unfolding test_and_jump
returns c = leaf_as _ _ (λ t. refl) (sure_after _ _ c.emit-tested.ensures c.emit.ensures)
