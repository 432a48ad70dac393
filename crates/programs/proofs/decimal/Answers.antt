-- The digits read so far make the value; the rest of the word goes on from it.
use mathlib.Core.Path.{sym, ◌∙◌}
use native.Mathlib.Omega.{arith}
use borrow.Author.Rules.{rules}
use Rattle.programs.proofs.Spelling.{of_none, of_some, of_all, no_more, one_more}
use Rattle.programs.proofs.decimal.Goals as goal

pub returns-then-is_empty : goal.returns-then-is_empty
returns-then-is_empty c = of_none _ (search rules)

pub loop-digit-init : goal.loop-digit-init
loop-digit-init c = of_some _ (search rules)

pub returns-in_err-value : goal.returns-in_err-value
returns-in_err-value c = rw c.from_residual.ensures (no_more _ c.loop-digit.value c.loop-digit.digit-index c.loop-digit.invariant (omega (arith, c.loop-digit-test.true)) (sym c.with_digit.ensures ∙ c.in_err-value.was))

pub loop-digit-preserved : goal.loop-digit-preserved
loop-digit-preserved c = one_more _ c.loop-digit.value c.loop-digit.digit-index c.loop-digit.invariant (omega (arith, c.loop-digit-test.true)) c.in_ok-value.value (sym c.with_digit.ensures ∙ c.in_ok-value.was)

pub returns : goal.returns
returns c = of_all _ c.loop-digit.value c.loop-digit.digit-index c.loop-digit.invariant (omega (arith, c.loop-digit-test.false))
