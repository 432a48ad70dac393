-- `code::prototype::add_prototype` meets its contract: refused before, 17, 15, or written where it fits. Assumes nothing.
use Rattle.code.proofs.Coded.{met}
use Rattle.code.proofs.Adding.{adds_absorbed, adds_long, adds_many, adds_done}
use Rattle.code.proofs.prototype.add_prototype.Goals as goal

pub returns-in_default : goal.returns-in_default
returns-in_default c = let a = c.args in
    adds_absorbed a.first a.node a.params c.requires.0 c.in_default.is

pub returns-then-count-gt32766 : goal.returns-then-count-gt32766
returns-then-count-gt32766 c = let a = c.args in
    let on = c.in-Ok.is in
    rw c.refuse.ensures (adds_long a.first a.node a.params c.requires.0 on (met on c.requires.1) c.if-count-gt32766.true)

pub returns-then-step-eq256 : goal.returns-then-step-eq256
returns-then-step-eq256 c = let a = c.args in
    let on = c.in-Ok.is in
    rw c.refuse-then-step-eq256.ensures (adds_many a.first a.node a.params c.requires.0 on (met on c.requires.1) c.if-count-gt32766.false c.if-step-eq256.true)

pub returns : goal.returns
returns c = let if1 = c.if-count-gt32766 in
    let if2 = c.if-step-eq256 in
    let tag = c.code_tag in
    let a = c.args in
    let on = c.in-Ok.is in
    rw c.prototype_more.ensures (adds_done a.first a.node a.params c.requires.0 on (met on c.requires.1) if1.false if2.false tag.ensures c.place_prototype-end.ensures)
