-- `routines::enhanced_for_stmt::end_for_in` meets its contract: Addi behind the others, then the end of a loop. Assumes nothing.
use mathlib.Core.Path.{refl, sym, ap, ◌∙◌}
use Prim.Native.Nat.{◌-◌}
use Rattle.meaning.specs.Chunk.{continue_goal}
use Rattle.store.specs.Layout.{inst_at}
use Rattle.store.proofs.Tables.{tab_length}
use native.Mathlib.Omega.{arith}
use Rattle.store.specs.Promise.{uses}
use Rattle.store.specs.Store.{top_of, mode_of, pc_of}
use Rattle.store.proofs.Runs.{leaf_absorbed}
use Rattle.forward.specs.Forward.{jump_here, end_loop, end_for_in}
use Rattle.code.proofs.Coded.{room_for, starts, coded}
use Rattle.code.proofs.Writing.{spell, spell_anew, as_many}
use Rattle.routines.proofs.enhanced_for_stmt.end_for_in.Goals as goal

pub returns-in_default : goal.returns-in_default
returns-in_default c = leaf_absorbed (uses 4 0 0) _ c.requires.0 c.in_default.is

pub returns : goal.returns
unfolding end_for_in end_loop jump_here
returns c = let pack = c.pack-word in
    let write = c.write_cell in
    let a = c.args in
    let fine = c.requires.0 in
    let on = c.in-Ok.is in
    let room = room_for 4 fine on c.requires.1 in
    let one = spell (starts fine) pack.ensures write.ensures (omega (arith, room)) in
    let goal = c.continue_goal-goal.ensures in
    let size = tab_length (inst_at a.work.now (top_of a.scope)) (pc_of a.step) in
    let place = goal ∙ ap (λ k. continue_goal (mode_of a.scope) (k - a.first)) (sym size) in
    let two = spell_anew one (rw place at c.close_loop.ensures) (omega (arith, room)) in
    rw c.advance.ensures (coded 0 4 _ fine on (as_many (omega arith) two) (omega arith) (omega arith) (omega arith) (λ t. refl))
