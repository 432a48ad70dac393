-- `routines::if_stmt::end_if` meets its contract: the scan of the region. Assumes nothing.
use mathlib.Core.Path.{refl}
use native.Mathlib.Omega.{arith}
use Rattle.store.specs.Promise.{uses}
use Rattle.store.proofs.Runs.{leaf_absorbed}
use Rattle.forward.specs.Forward.{end_if}
use Rattle.code.proofs.Coded.{starts, coded}
use Rattle.code.proofs.Writing.{spell_anew}
use Rattle.routines.proofs.if_stmt.end_if.Goals as goal

pub returns-in_default : goal.returns-in_default
returns-in_default c = leaf_absorbed (uses 0 0 0) _ c.requires.0 c.in_default.is

pub returns : goal.returns
unfolding end_if
returns c = let fine = c.requires.0 in
    let one = spell_anew (starts fine) c.patch_ends.ensures (omega (arith, fine.room)) in
    rw c.settle.ensures (coded 0 0 _ fine c.in-Ok.is one (omega arith) (omega arith) (omega arith) (λ t. refl))
