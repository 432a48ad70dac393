-- The three numbers are those of the answer to what `check` finds.
use mathlib.Core.Path.{ap, ◌∙◌}
use Rattle.meaning.specs.Answer.{answer}
use Rattle.yengrazul.specs.Told.{told}
use Rattle.yengrazul.proofs.yengrazul_check.Goals as goal

pub returns : goal.returns
returns c = ap told (c.answer_of-checked.ensures ∙ ap answer c.check.ensures)
