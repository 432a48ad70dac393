-- `nodes::statements::jump_of` meets its contract, word by word.
use mathlib.Core.Path.{◌∙◌}
use native.Mathlib.Omega.{arith}
use lib.Dec.{lit≤}
use Prim.Native.Nat.{◌≤◌}
use Rattle.meaning.specs.Fields.{fields}
use Rattle.meaning.specs.Grammar.{wide_marks}
use Rattle.nodes.proofs.Held.{Held, Rest, few_wide, jump_held}
use Rattle.nodes.proofs.statements.jump_of.Goals as goal
use Rattle.nodes.proofs.statements.jump_of.Goals.{After-of-words}

holds : (c : goal.After-of-words) → Held (fields c.args.tree.now) c.args.node c.of-words.result.payload.now c.of-words.result.wide 0 1 × Rest (fields c.args.tree.now) c.args.node c.of-words.result.payload.now c.of-words.result.wide 1
holds c = jump_held c.requires.0 c.of-words.ensures.0 (c.of-words.ensures.1 ∙ c.requires.1) c.requires.2 c.requires.3

pub of-words-requires : goal.of-words-requires
of-words-requires c = (c.requires.0.readable, few_wide (wide_marks (fields c.args.tree.now)) c.requires.1)

pub mark-requires : goal.mark-requires
mark-requires c = omega (arith, (holds (goal.at.mark-requires c).After-of-words).0.many)

pub returns : goal.returns
returns c = let h = holds (goal.at.returns c).After-of-words in
    let e0 = c.mark.ensures ∙ h.0.mark (lit≤ tt) in
    e0
