-- Refused at entry; no register left; one taken: the count of the current frame goes up.
use Rattle.std.proofs.Common.{◌+◌, ◌*◌, refl, arith}
use Rattle.store.specs.Layout.{registers}
use Rattle.store.specs.Promise.{a_register}
use Rattle.store.proofs.Regions.{only_set}
use Rattle.store.proofs.Runs.{leaf_absorbed}
use Rattle.store.proofs.Refusals.{refused_small, stopped_small, shallow}
use Rattle.store.proofs.Registers.{register_leaf, register_none, counted_by}
use Rattle.meaning.specs.State.{next_register}
use Rattle.meaning.specs.declared.Cause.TheVariants.{Registers}
use Rattle.forward.specs.Forward.{fwd_number}
use Rattle.store.proofs.register.next_register.Goals as goal

pub returns-in_default : goal.returns-in_default
returns-in_default c = let a = c.args in
    (leaf_absorbed a_register (fwd_number (next_register a.node)) c.requires c.in_default.is, stopped_small a.step c.requires c.in_default.is)

pub returns-then-register-eq255 : goal.returns-then-register-eq255
returns-then-register-eq255 c = let if1 = c.if-register-eq255 in
    let a = c.args in
    rw c.refuse.ensures (register_none a.work.now a.scope a.step c.requires _ c.in-Ok.is a.node if1.true, refused_small a.step Registers a.node c.requires)

pub returns : goal.returns
returns c = let if1 = c.if-register-eq255 in
    let a = c.args in
    let w = a.work.now in
    let d = a.scope.depth in
    let deep = shallow a.step c.requires c.in-Ok.is in
    rw c.settle.ensures (
      register_leaf w _ a.scope a.step 1 c.requires deep (only_set w (3073 + 8 * d) (registers w d + 1))
          (counted_by w d 1 (omega (arith, c.requires.sound.long)) (omega (arith, if1.false))) a.node _ refl c.in-Ok.is if1.false,
      omega arith,
    )
