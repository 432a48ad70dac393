-- 21, mode 0's answer, or what mode 1 makes of it.
use native.Mathlib.Omega.{arith}
use Rattle.meaning.proofs.Modes.{no_mode}
use Rattle.tree.proofs.Over.{checked_0, checked_1}
use Rattle.tree.proofs.check.Goals as goal

pub returns-then-mode-gt1 : goal.returns-then-mode-gt1
returns-then-mode-gt1 c = no_mode _ _ _ (omega (arith, c.if-mode-gt1.true))

pub returns-then-mode-eq0 : goal.returns-then-mode-eq0
returns-then-mode-eq0 c = checked_0 _ _ _ _ c.check_alone-judged.ensures c.if-mode-eq0.true

pub returns : goal.returns
returns c = checked_1 _ _ _ _ c.check_alone-judged.ensures c.if-mode-gt1.false c.if-mode-eq0.false _ c.over.ensures
