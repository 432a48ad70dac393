-- A header is that of a prototype (Taken).
use Rattle.list_main.proofs.Taken.{room}
use Rattle.list_main.proofs.listed.Goals as goal

pub lines-requires : goal.lines-requires
lines-requires g c = let h = c.heads.ensures.0 c.if-not-heads.false in
    room _ _ _ _ c.prototype-part.ensures.0 h.0 h.1
