-- `code::patches::patch_end` meets its contract: the word 3 is a jump to the end, and no other. Assumes nothing.
use Rattle.code.proofs.Turning.{turns_end}
use Rattle.code.proofs.patches.patch_end.Goals as goal

pub returns-then-x-eq-JMP : goal.returns-then-x-eq-JMP
returns-then-x-eq-JMP c = let a = c.args in
    turns_end a.size a.i c.if-x-eq-JMP.true c.pack_bx.ensures
