-- `nodes::words::Words::perhaps` meets its contract.
use mathlib.Core.Path.{ap}
use Rattle.std.specs.Prelude.{Some}
use borrow.Author.Tests.{lt-ltb, le-ltb}
use Rattle.nodes.proofs.words.Words.perhaps.Goals as goal

pub returns-then-k-self : goal.returns-then-k-self
returns-then-k-self c = rw (lt-ltb _ _ (rw c.count.ensures at c.if-k-self.true)) (ap Some c.behind.ensures.0)

pub returns : goal.returns
returns c = rw (le-ltb _ _ (rw c.count.ensures at c.if-k-self.false))
