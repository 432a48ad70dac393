-- The two ways through the code are those of `once`.
use borrow.Author.Tests.{lt-leb, le-leb}
use Rattle.tree.specs.Scratch.{once}
use Rattle.tree.proofs.owners.is_once.Goals as goal

pub returns-then-word-ge256 : goal.returns-then-word-ge256
unfolding once
returns-then-word-ge256 c = simp (le-leb 256 _ c.if-word-ge256.true)

pub returns-else-word-ge256 : goal.returns-else-word-ge256
unfolding once
returns-else-word-ge256 c = simp (lt-leb 256 _ c.if-word-ge256.false)
