-- The program's visit, heads, edges, frame: what the definition starts from (Opening.antt).
use Rattle.std.proofs.Common.{set, refl, arith, length-set}
use Rattle.store.proofs.Opening.{zeroed_by, begun}
use Rattle.store.proofs.start.begin.Goals as goal

pub returns : goal.returns
returns c = let a = c.args in
    let w = set a.work.now 3077 1 in
    let long = length-set a.work.now 3077 1 in
    let cleared = zeroed_by w _ _ _ _ _ c.top.ensures c.beyond.ensures (omega (arith, c.top.ensures, c.beyond.ensures)) (omega (arith, c.beyond.ensures, c.requires.2, long)) (c.fill.ensures.after (λ y e. e)) in
    (c.first.ensures, begun w _ _ _ a.nodes c.requires.0 c.requires.1 (omega (arith, c.requires.2, long)) cleared refl c.open_frame.ensures refl)
