use Rattle.mend_main.proofs.Fits.{fits}
use Rattle.mend_main.proofs.mended.Goals as goal

pub returns : goal.returns
returns c = fits _ _ _ _ _ _ _ c.mend.ensures.answered c.mend.ensures.written c.mend.ensures.listed
