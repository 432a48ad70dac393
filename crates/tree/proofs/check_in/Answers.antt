-- Mode 0's answer, or what mode 1 makes of it. Of the scratch each way says whether it was used.
use native.Mathlib.Omega.{arith}
use Rattle.tree.proofs.Answers.{kept_mode, either_mode}
use Rattle.tree.proofs.Over.{checked_0, checked_1}
use Rattle.tree.proofs.check_in.Goals as goal

pub returns-then-mode-gt1 : goal.returns-then-mode-gt1
returns-then-mode-gt1 c = record {
  outcome = c.check.ensures;
  scratch = kept_mode _ _ _ (omega (arith, c.if-mode-gt1.true));
}

pub returns-then-mode-eq0 : goal.returns-then-mode-eq0
returns-then-mode-eq0 c = record {
  outcome = checked_0 _ _ _ _ c.check_lent-judged.ensures.outcome c.if-mode-eq0.true;
  scratch = either_mode _ _ _ c.if-mode-gt1.false _ c.check_lent-judged.ensures.scratch;
}

pub returns : goal.returns
returns c = let one = c.if-mode-gt1.false in record {
  outcome = checked_1 _ _ _ _ c.check_lent-judged.ensures.outcome one c.if-mode-eq0.false _ c.over.ensures;
  scratch = either_mode _ _ _ one _ c.check_lent-judged.ensures.scratch;
}
