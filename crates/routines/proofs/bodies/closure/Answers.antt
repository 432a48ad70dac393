-- `routines::bodies::closure` meets its contract: one instruction behind the others. Assumes nothing.
use mathlib.Core.Path.{refl}
use native.Mathlib.Omega.{arith}
use Rattle.store.specs.Promise.{uses}
use Rattle.store.proofs.Runs.{leaf_absorbed}
use Rattle.forward.specs.Forward.{closure}
use Rattle.code.proofs.Coded.{met, starts, coded}
use Rattle.code.proofs.Writing.{spell}
use Rattle.routines.proofs.bodies.closure.Goals as goal

pub returns-in_default : goal.returns-in_default
returns-in_default c = leaf_absorbed (uses 2 0 0) _ c.requires.0 c.in_default.is

pub returns : goal.returns
unfolding closure
returns c = let a = c.args in
    let fine = c.requires.0 in
    let on = c.in-Ok.is in
    let h = met on c.requires.1 in
    let one = spell (starts fine) c.pack_bx-word.ensures c.write_cell.ensures (omega (arith, h.0)) in
    rw c.advance.ensures (coded a.register 2 _ fine on one (omega arith) (omega arith) (omega (arith, h.1)) (λ t. refl))
