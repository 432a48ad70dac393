-- The tests of the code are those of `noted`.
use borrow.Author.Tests.{lt-ltb, le-ltb}
use Rattle.tree.specs.Scratch.{note, noted}
use Rattle.tree.proofs.shape.note.Goals as goal

pub returns-then-v-lt256 : goal.returns-then-v-lt256
unfolding note noted
returns-then-v-lt256 c = simp (lt-ltb _ _ c.if-v-lt256.true)

pub returns-else-v-lt256 : goal.returns-else-v-lt256
unfolding note noted
returns-else-v-lt256 c = simp (le-ltb _ _ c.if-v-lt256.false)
