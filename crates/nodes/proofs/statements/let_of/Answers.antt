-- `nodes::statements::let_of` meets its contract, word by word.
use mathlib.Core.Path.{refl, ◌∙◌}
use native.Mathlib.Omega.{arith}
use lib.Dec.{lit≤}
use Prim.Native.Nat.{◌≤◌}
use Rattle.meaning.specs.Fields.{fields}
use Rattle.meaning.specs.Grammar.{wide_marks}
use Rattle.nodes.proofs.Held.{Held, Rest, few_wide, token_held, perhaps_held, let_held}
use Rattle.nodes.proofs.statements.let_of.Goals as goal
use Rattle.nodes.proofs.statements.let_of.Goals.{After-of-words}

holds : (c : goal.After-of-words) → Held (fields c.args.tree.now) c.args.node c.of-words.result.payload.now c.of-words.result.wide 1 2 × Rest (fields c.args.tree.now) c.args.node c.of-words.result.payload.now c.of-words.result.wide 2
holds c = let_held c.requires.0 c.of-words.ensures.0 (c.of-words.ensures.1 ∙ c.requires.1) c.requires.2

pub of-words-requires : goal.of-words-requires
of-words-requires c = (c.requires.0.readable, few_wide (wide_marks (fields c.args.tree.now)) c.requires.1)

pub token-requires : goal.token-requires
token-requires c = omega (arith, (holds (goal.at.token-requires c).After-of-words).0.many)

pub returns : goal.returns
returns c = let h = holds (goal.at.returns c).After-of-words in
    let e0 = token_held 0 (lit≤ tt) h.0 c.token.ensures.0 in
    let e1 = c.perhaps.ensures ∙ perhaps_held h.1 2 (lit≤ tt) in
    (rw (e0, e1) refl, c.token.ensures.1)
