-- `nodes::statements::try_of` meets its contract, word by word.
use mathlib.Core.Path.{refl, ◌∙◌}
use native.Mathlib.Omega.{arith}
use lib.Dec.{lit<, lit≤}
use Prim.Native.Nat.{◌≤◌}
use Rattle.meaning.specs.Fields.{fields}
use Rattle.meaning.specs.Grammar.{wide_marks}
use Rattle.nodes.proofs.Held.{Held, few_wide, token_held, try_held}
use Rattle.nodes.proofs.statements.try_of.Goals as goal
use Rattle.nodes.proofs.statements.try_of.Goals.{After-of-words}

holds : (c : goal.After-of-words) → Held (fields c.args.tree.now) c.args.node c.of-words.result.payload.now c.of-words.result.wide 2 4
holds c = try_held c.requires.0 c.of-words.ensures.0 (c.of-words.ensures.1 ∙ c.requires.1) c.requires.2

pub of-words-requires : goal.of-words-requires
of-words-requires c = (c.requires.0.readable, few_wide (wide_marks (fields c.args.tree.now)) c.requires.1)

pub word-requires : goal.word-requires
word-requires c = omega (arith, (holds (goal.at.word-requires c).After-of-words).many)

pub token-requires : goal.token-requires
token-requires c = omega (arith, (holds (goal.at.token-requires c).After-of-words).many)

pub behind-requires : goal.behind-requires
behind-requires c = omega (arith, (holds (goal.at.behind-requires c).After-of-words).many)

pub returns : goal.returns
returns c = let h = holds (goal.at.returns c).After-of-words in
    let e0 = c.word.ensures.0 ∙ h.before 0 (lit< tt) (lit≤ tt) in
    let e1 = token_held 1 (lit≤ tt) h c.token.ensures.0 in
    let e2 = c.behind.ensures.0 ∙ h.after 3 (lit< tt) (lit≤ tt) in
    rw (e0, e1, e2) refl
