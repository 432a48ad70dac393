-- The image stands in the output.
use Rattle.lower_main.proofs.Fits.{fits}
use Rattle.lower_main.proofs.answer.Goals as goal

pub returns : goal.returns
returns c = fits _ _ _ _ _ _ c.lower.ensures.answered c.lower.ensures.written
