-- Refused at entry; no index left; three words of the next constant.
use Rattle.std.proofs.Common.{sym, arith, length-set}
use Rattle.store.specs.Promise.{a_constant}
use Rattle.store.proofs.Runs.{leaf_absorbed}
use Rattle.store.proofs.Refusals.{shallow}
use Rattle.store.proofs.Pools.{constant_none, constant_leaf}
use Rattle.meaning.specs.Constant.{constant_of}
use Rattle.meaning.specs.State.{add_constant}
use Rattle.forward.specs.Forward.{fwd_number}
use Rattle.store.proofs.constant.add_constant.Goals as goal

pub returns-in_default : goal.returns-in_default
returns-in_default c = let a = c.args in
    leaf_absorbed a_constant (fwd_number (add_constant a.node (constant_of a.literal))) c.requires.0 c.in_default.is

pub bounds-work-at-2 : goal.bounds-work-at-2
bounds-work-at-2 c = let pre = c.requires in
    simp length-set (omega (arith, pre.0.constants, pre.0.sound.long))

pub bounds-work-at-3 : goal.bounds-work-at-3
bounds-work-at-3 c = let pre = c.requires in
    simp length-set (omega (arith, pre.0.constants, pre.0.sound.long))

pub returns-then-k-eq1024 : goal.returns-then-k-eq1024
returns-then-k-eq1024 c = let a = c.args in
    let deep = shallow a.step c.requires.0 c.in-Ok.is in
    rw c.refuse.ensures (constant_none a.work.now a.scope a.step c.requires.0 deep _ c.in-Ok.is a.node _ c.if-k-eq1024.true)

pub returns : goal.returns
returns c = let a = c.args in
    let deep = shallow a.step c.requires.0 c.in-Ok.is in
    rw (c.constant_more.ensures, sym c.words_of-kind.ensures) (constant_leaf a.work.now a.scope a.step c.requires.0 deep _ c.in-Ok.is _ _ _ c.if-k-eq1024.false a.node)
