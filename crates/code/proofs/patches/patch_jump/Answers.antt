-- `code::patches::patch_jump` meets its contract: a continue, a break, or neither, told by the low half of the word. Assumes nothing.
use native.Mathlib.Omega.{arith}
use Rattle.code.proofs.Turning.{kind_is, kind_not, turns_continue, turns_break}
use Rattle.code.proofs.patches.patch_jump.Goals as goal

pub returns-then-kind-eq-CONTINUE : goal.returns-then-kind-eq-CONTINUE
returns-then-kind-eq-CONTINUE c = let a = c.args in
    turns_continue a.goal a.size a.i (kind_is a.x 1 (omega arith) c.if-kind-eq-CONTINUE.true) c.jump_to.ensures

pub returns-then-kind-eq-BREAK : goal.returns-then-kind-eq-BREAK
returns-then-kind-eq-BREAK c = let a = c.args in
    turns_break a.goal a.size a.i (kind_not a.x 1 (omega arith) c.if-kind-eq-CONTINUE.false) (kind_is a.x 2 (omega arith) c.if-kind-eq-BREAK.true) c.pack_bx.ensures
