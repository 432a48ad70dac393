-- Each way through the code is a law of `lawful` and `note_word`.
use mathlib.Core.Path.{sym, ◌∙◌}
use Rattle.tree.proofs.Words.{child_right, child_wrong, child_above}
use Rattle.tree.proofs.shape.child.Goals as goal

pub returns-then-i-w : goal.returns-then-i-w
returns-then-i-w c = child_above _ _ _ _ c.requires.2 c.if-i-w.true

pub returns-then-is_lawful : goal.returns-then-is_lawful
returns-then-is_lawful c = rw c.if-is_lawful.true (child_right _ _ _ _ c.requires.2 _ c.if-i-w.false (sym c.if-is_lawful.true ∙ c.admits-is_lawful.ensures) c.note.ensures)

pub returns-else-is_lawful : goal.returns-else-is_lawful
returns-else-is_lawful c = rw c.if-is_lawful.false (child_wrong _ _ _ _ c.requires.2 c.if-i-w.false (sym c.if-is_lawful.false ∙ c.admits-is_lawful.ensures))
