-- `nodes::expressions::binary_of` meets its contract: the payload has the four words, and its mark.
use mathlib.Core.Path.{◌∙◌}
use Rattle.meaning.specs.Fields.{fields}
use Rattle.meaning.specs.Grammar.{wide_marks}
use Rattle.nodes.proofs.Held.{Held, few_wide, binary_held, operands_held}
use Rattle.nodes.proofs.expressions.binary_of.Goals as goal
use Rattle.nodes.proofs.expressions.binary_of.Goals.{After-of}

holds : (c : goal.After-of) → Held (fields c.args.tree.now) c.args.node c.of.result.payload.now c.of.result.wide 1 4
holds c = (binary_held c.requires.0 c.of.ensures.0 (c.of.ensures.1 ∙ c.requires.1) c.requires.2).0

pub of-requires : goal.of-requires
of-requires c = (c.requires.0.readable, few_wide (wide_marks (fields c.args.tree.now)) c.requires.1)

pub operands-requires : goal.operands-requires
operands-requires c = (holds (goal.at.operands-requires c).After-of).many

pub returns : goal.returns
returns c = c.operands.ensures ∙ operands_held (holds (goal.at.returns c).After-of)
