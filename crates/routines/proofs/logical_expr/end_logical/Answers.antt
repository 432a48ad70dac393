-- `routines::logical_expr::end_logical` meets its contract: Move is written behind the others, and the jump after the Test goes there. Assumes nothing.
use native.Mathlib.Omega.{arith}
use Rattle.store.specs.Promise.{uses}
use Rattle.store.specs.Store.{pc_of}
use Rattle.store.proofs.Runs.{leaf_absorbed}
use Rattle.forward.specs.Forward.{end_logical}
use Rattle.code.proofs.Coded.{met, room_for, starts, coded, jumped}
use Rattle.code.proofs.Writing.{spell, spell_over}
use Rattle.routines.proofs.logical_expr.end_logical.Goals as goal

pub returns-in_default : goal.returns-in_default
returns-in_default c = leaf_absorbed (uses 2 0 0) _ c.requires.0 c.in_default.is

pub returns : goal.returns
unfolding end_logical
returns c = let pack = c.pack-word in
    let write = c.write_cell in
    let a = c.args in
    let fine = c.requires.0 in
    let on = c.in-Ok.is in
    let h = met on c.requires.2 in
    let room = room_for 2 fine on c.requires.1 in
    let one = spell (starts fine) pack.ensures write.ensures (omega (arith, room)) in
    let two = spell_over one c.jump_here.ensures.packs c.jump_here.ensures.wrote (omega (arith, h.0)) in
    rw c.advance.ensures (coded a.left 2 _ fine on two (omega arith) (omega arith) (omega (arith, h.1)) (jumped _ (pc_of a.step) a.test a.mark a.left _ _))
