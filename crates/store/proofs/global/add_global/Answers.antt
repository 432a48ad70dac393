-- Refused at entry; the half of the next global.
use Rattle.std.proofs.Common.{arith}
use Rattle.store.specs.Promise.{a_global}
use Rattle.store.proofs.Runs.{due, goes, leaf_absorbed}
use Rattle.store.proofs.Refusals.{shallow}
use Rattle.store.proofs.Pools.{global_leaf}
use Rattle.meaning.specs.State.{add_global}
use Rattle.forward.specs.Forward.{fwd_unit}
use Rattle.store.proofs.global.add_global.Goals as goal

pub returns-in_default : goal.returns-in_default
returns-in_default c = leaf_absorbed a_global (fwd_unit (add_global c.args.name)) c.requires.0 c.in_default.is

pub set_half-requires : goal.set_half-requires
set_half-requires c = let pre = c.requires in
    (omega (arith, pre.0.globals, pre.0.constants, pre.0.sound.long), pre.2)

pub returns : goal.returns
returns c = let on = c.in-Ok.is in
    let a = c.args in
    let fine = c.requires.0 in
    rw (c.set_half.ensures, c.global_more.ensures)
    (global_leaf a.work.now a.scope a.step fine (shallow a.step fine on) _ on (due a.step.outcome c.requires.1 (goes on)) a.name c.requires.2)
