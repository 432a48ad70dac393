-- `nodes::words::more_words` meets its contract: one a mark, or none.
use native.Mathlib.Omega.{arith}
use borrow.Author.Tests.{eq-eqb, ne_eqb}
use Rattle.nodes.proofs.words.more_words.Goals as goal

pub returns-then-wide-eq0 : goal.returns-then-wide-eq0
returns-then-wide-eq0 c = (rw (eq-eqb c.args.wide 0 c.if-wide-eq0.true), omega arith)

pub returns-else-wide-eq0 : goal.returns-else-wide-eq0
returns-else-wide-eq0 c = (rw (ne_eqb c.args.wide 0 c.if-wide-eq0.false), omega arith)
