-- `routines::try_catch_stmt::end_try_body` meets its contract: two instructions behind the others. Assumes nothing.
use borrow.Author.Rules.{rules}
use Rattle.forward.specs.Forward.{end_try_body}
use Rattle.code.proofs.Coded.{room_after, sure_after}
use Rattle.routines.proofs.try_catch_stmt.end_try_body.Goals as goal

pub emit-requires : goal.emit-requires
emit-requires c = let one = c.emit-ended.ensures in
    (one.moves.fine, room_after 2 2 c.requires.1 one, search rules)

pub returns : goal.returns
unfolding end_try_body
returns c = sure_after _ _ c.emit-ended.ensures c.emit.ensures
