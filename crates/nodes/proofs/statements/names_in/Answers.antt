-- `nodes::statements::names_in` meets its contract: pairs of two words, or of three.
use borrow.Author.Tests.{eq-eqb, ne_eqb}
use Rattle.nodes.proofs.statements.names_in.Goals as goal

pub returns-then-wide-eq0 : goal.returns-then-wide-eq0
returns-then-wide-eq0 c = rw (eq-eqb c.args.wide 0 c.if-wide-eq0.true)

pub returns : goal.returns
returns c = rw (ne_eqb c.args.wide 0 c.if-wide-eq0.false)
