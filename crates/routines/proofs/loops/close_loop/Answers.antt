-- `routines::loops::close_loop` meets its contract: the jump back behind the others, the jump out at its place, then the scan. Assumes nothing.
use mathlib.Core.Path.{◌≡◌}
use mathlib.Core.List.{[], ◌∷◌, ◌++◌}
use Prim.Native.Nat.{ℕ, ◌+◌, ◌*◌, ◌-◌}
use native.Mathlib.Omega.{arith}
use lib.ListN.{length, set, length-append}
use Rattle.meaning.specs.Opcode.{inst_bx, back, Jmp}
use Rattle.meaning.specs.Chunk.{patch_loop}
use Rattle.meaning.specs.declared.Instruction.{Instruction}
use Rattle.store.specs.Table.{tab}
use Rattle.store.proofs.Tables.{tab_length}
use Rattle.store.specs.Store.{top_of}
use Rattle.code.specs.Words.{mended}
use Rattle.routines.specs.Pieces.{closed_loop}
use Rattle.code.proofs.Writing.{spelled, spell, spell_over, spell_anew, anew}
use Rattle.routines.proofs.loops.close_loop.Goals as goal

-- what is written is what the end of a loop wants
closed_is : (f : ℕ → Instruction) (k goal first condition test mark : ℕ)
    → mended (patch_loop goal) first (set (tab f k ++ inst_bx Jmp 0 (back (k - condition)) mark ∷ []) (test + 1) (inst_bx Jmp 0 (k - test) mark)) ≡ closed_loop goal first condition test mark (tab f k)
closed_is f k goal first condition test mark =
    let n : length (tab f k ++ inst_bx Jmp 0 (back (k - condition)) mark ∷ []) - (test + 1) ≡ k - test = simp length-append (omega (arith, tab_length f k)) in
    rw (tab_length f k, n)

pub returns : goal.returns
returns c = let jump_back = c.jump_back in
    let write = c.write_cell in
    let a = c.args in
    let pre = c.requires in
    let top : ℕ = top_of a.scope in
    let k : ℕ = a.code in
    let none = spelled a.work.now top (top - 2 * (k + 1)) k (omega arith) pre.0 in
    let one = spell none jump_back.ensures write.ensures (omega (arith, pre.1)) in
    let two = spell_over one c.jump_here.ensures.packs c.jump_here.ensures.wrote (omega (arith, pre.5)) in
    let three = spell_anew two c.patch_loop.ensures (omega (arith, pre.1)) in
    anew (closed_loop a.goal a.first a.condition a.test a.mark) three (closed_is _ k a.goal a.first a.condition a.test a.mark)
