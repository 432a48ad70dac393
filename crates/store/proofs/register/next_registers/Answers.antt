-- Refused at entry; too few registers left; all taken at once: `next_registers` by induction (Registers.antt).
use Rattle.std.proofs.Common.{◌+◌, ◌*◌, arith}
use Rattle.store.specs.Layout.{registers}
use Rattle.store.specs.Promise.{some_registers}
use Rattle.store.proofs.Regions.{only_set}
use Rattle.store.proofs.Runs.{leaf_absorbed}
use Rattle.store.proofs.Refusals.{refused_small, stopped_small, shallow}
use Rattle.store.proofs.Registers.{registers_leaf, registers_none, counted_by}
use Rattle.meaning.specs.Expressions.{next_registers}
use Rattle.meaning.specs.declared.Cause.TheVariants.{Registers}
use Rattle.forward.specs.Forward.{fwd_zero}
use Rattle.store.proofs.register.next_registers.Goals as goal

pub returns-in_default : goal.returns-in_default
returns-in_default c = let a = c.args in
    (leaf_absorbed (some_registers a.n) (fwd_zero (next_registers a.node a.n)) c.requires.0 c.in_default.is, stopped_small a.step c.requires.0 c.in_default.is)

pub returns-then-register-more-gt255 : goal.returns-then-register-more-gt255
returns-then-register-more-gt255 c = let if1 = c.if-register-more-gt255 in
    let a = c.args in
    rw c.refuse.ensures (registers_none a.work.now a.scope a.step c.requires.0 _ c.in-Ok.is a.node a.n if1.true, refused_small a.step Registers a.node c.requires.0)

pub returns : goal.returns
returns c = let if1 = c.if-register-more-gt255 in
    let a = c.args in
    let w = a.work.now in
    let d = a.scope.depth in
    let deep = shallow a.step c.requires.0 c.in-Ok.is in
    rw c.settle.ensures (
      registers_leaf w _ a.scope a.step a.n c.requires.0 deep (only_set w (3073 + 8 * d) (registers w d + a.n))
          (counted_by w d a.n (omega (arith, c.requires.0.sound.long)) if1.false) a.node _ c.in-Ok.is if1.false,
      omega arith,
    )
