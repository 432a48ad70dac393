-- `routines::if_stmt::end_branch` meets its contract: a jump is written behind the others, and the jump after the Test goes there. Assumes nothing.
use mathlib.Core.Path.{refl}
use native.Mathlib.Omega.{arith}
use Rattle.store.specs.Promise.{uses}
use Rattle.store.specs.Store.{pc_of}
use Rattle.store.proofs.Runs.{leaf_absorbed}
use Rattle.meaning.specs.Opcode.{inst, Jmp}
use Rattle.forward.specs.Forward.{end_branch}
use Rattle.code.proofs.Coded.{met, room_for, starts, coded, jumped}
use Rattle.code.proofs.Writing.{spell, spell_over}
use Rattle.routines.proofs.if_stmt.end_branch.Goals as goal

pub returns-in_default : goal.returns-in_default
returns-in_default c = leaf_absorbed (uses 2 0 0) _ c.requires.0 c.in_default.is

pub returns : goal.returns
unfolding end_branch
returns c = let write = c.write_cell in
    let a = c.args in
    let fine = c.requires.0 in
    let on = c.in-Ok.is in
    let h = met on c.requires.2 in
    let room = room_for 2 fine on c.requires.1 in
    let one = spell {i = inst Jmp 0 0 0} (starts fine) (record { is = λ m. refl }) write.ensures (omega (arith, room)) in
    let two = spell_over one c.jump_here.ensures.packs c.jump_here.ensures.wrote (omega (arith, h)) in
    rw c.advance.ensures (coded 0 2 _ fine on two (omega arith) (omega arith) (omega arith) (jumped _ (pc_of a.step) a.test a.mark 0 _ _))
