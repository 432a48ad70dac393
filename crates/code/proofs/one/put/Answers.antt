-- `code::one::put` meets its contract: the instruction is written behind the others, where the potential leaves two words. Assumes nothing.
use mathlib.Core.Path.{refl}
use native.Mathlib.Omega.{arith}
use Rattle.store.specs.Promise.{uses}
use Rattle.store.proofs.Runs.{leaf_absorbed}
use Rattle.code.proofs.Coded.{met, room_for, starts, coded}
use Rattle.code.proofs.Writing.{spell}
use Rattle.code.proofs.one.put.Goals as goal

pub returns-in_default : goal.returns-in_default
returns-in_default c = leaf_absorbed (uses 2 0 0) _ c.requires.0 c.in_default.is

pub returns : goal.returns
returns c = let a = c.args in
    let fine = c.requires.0 in
    let on = c.in-Ok.is in
    let room = room_for 2 fine on c.requires.1 in
    let one = spell (starts fine) c.pack.ensures c.write_cell.ensures (omega (arith, room)) in
    rw c.advance.ensures (coded a.res 2 _ fine on one (omega arith) (omega arith) (met on c.requires.3) (λ t. refl))
