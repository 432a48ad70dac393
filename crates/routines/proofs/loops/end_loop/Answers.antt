-- `routines::loops::end_loop` meets its contract: `close_loop` writes what `end_loop` wants. Assumes nothing.
use mathlib.Core.Path.{refl}
use native.Mathlib.Omega.{arith}
use Rattle.store.specs.Promise.{uses}
use Rattle.store.proofs.Runs.{leaf_absorbed}
use Rattle.forward.specs.Forward.{jump_here, end_loop}
use Rattle.code.proofs.Coded.{met, room_for, starts, coded}
use Rattle.code.proofs.Writing.{spell_anew}
use Rattle.routines.proofs.loops.end_loop.Goals as goal

pub returns-in_default : goal.returns-in_default
returns-in_default c = leaf_absorbed (uses 2 0 0) _ c.requires.0 c.in_default.is

pub returns : goal.returns
unfolding end_loop jump_here
returns c = let a = c.args in
    let fine = c.requires.0 in
    let on = c.in-Ok.is in
    let h = met on c.requires.2 in
    let room = room_for 2 fine on c.requires.1 in
    let goal = c.continue_goal-goal.ensures in
    let one = spell_anew (starts fine) (rw goal at c.close_loop.ensures) (omega (arith, room)) in
    rw c.advance.ensures (coded a.res 2 _ fine on one (omega arith) (omega arith) (omega (arith, h.3)) (λ t. refl))
