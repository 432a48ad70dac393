-- `routines::try_catch_stmt::end_try` meets its contract: RegisterTryCatch at its place, then the scan for the first jump. Assumes nothing.
use Rattle.store.specs.Layout.{inst_at}
use native.Mathlib.Omega.{arith}
use Rattle.store.specs.Promise.{uses}
use Rattle.store.specs.Store.{top_of, pc_of}
use Rattle.store.proofs.Runs.{leaf_absorbed}
use Rattle.store.proofs.Tables.{tab_length}
use Rattle.forward.specs.Forward.{end_try}
use Rattle.code.proofs.Coded.{met, starts, coded}
use Rattle.code.proofs.Writing.{spell_over, spell_anew}
use Rattle.routines.proofs.try_catch_stmt.end_try.Goals as goal

pub returns-in_default : goal.returns-in_default
returns-in_default c = leaf_absorbed (uses 0 0 0) _ c.requires.0 c.in_default.is

pub returns : goal.returns
unfolding end_try
returns c = let pack-bx = c.pack_bx-word in
    let write = c.write_cell in
    let a = c.args in
    let fine = c.requires.0 in
    let on = c.in-Ok.is in
    let h = met on c.requires.1 in
    let one = spell_over (starts fine) pack-bx.ensures write.ensures (omega (arith, h.0, h.1)) in
    let two = spell_anew one c.patch_first.ensures (omega (arith, fine.room)) in
    rw c.settle.ensures (coded 0 0 _ fine on two (omega arith) (omega arith) (omega arith) (λ t. rw (tab_length (inst_at a.work.now (top_of a.scope)) (pc_of a.step))))
