-- Of the four bytes the answer asks which they are, and not how they were copied.
use mathlib.Core.Path.{◌∙◌}
use Rattle.std.proofs.Common.{rules}
use Rattle.mend.proofs.Stored.{four, entry}
use Rattle.mend.proofs.put.put_entry.Goals as goal

pub returns : goal.returns
returns c = entry _ c.args.old.now c.args.at _ _ _ c.args.prototype c.args.index (c.copy_from_slice.ensures.after ∙ c.short.ensures) (c.copy_from_slice-2.ensures.after ∙ c.short-2.ensures) (search (rules, four)) c.requires.0
