-- The two numbers are the first of the answer to what `read` finds.
use mathlib.Core.Path.{◌∙◌, ap}
use lib.ListN.{take}
use Rattle.meaning.specs.Answer.{answer}
use Rattle.yengrazul.specs.Told.{told}
use Rattle.yengrazul.proofs.yengrazul_read.Goals as goal

pub returns : goal.returns
returns c = ap (λ a. take 2 (told a)) (c.answer_of-read.ensures ∙ ap answer c.read.ensures)
