-- The two ways through the code are those of `next_depth`; `Linked` says that the reads are within the scratch.
use borrow.Author.Tests.{eq-eqb, ne_eqb}
use Rattle.tree.specs.Scratch.{next_depth}
use Rattle.tree.proofs.owners.depth_at.Goals as goal

pub returns-then-c-n : goal.returns-then-c-n
unfolding next_depth
returns-then-c-n c = simp (eq-eqb _ _ c.if-c-n.true)

pub returns : goal.returns
unfolding next_depth
returns c = simp (ne_eqb _ _ c.if-c-n.false)
