-- `nodes::statements::class_of` meets its contract, word by word.
use mathlib.Core.Path.{refl, ap, ◌∙◌}
use native.Mathlib.Omega.{arith}
use lib.Dec.{lit<, lit≤}
use Prim.Native.Nat.{◌≤◌}
use Rattle.meaning.specs.Fields.{fields}
use Rattle.meaning.specs.Grammar.{wide_marks}
use mathlib.Core.Path.{◌≡◌}
use Prim.Native.Nat.{◌-◌}
use Rattle.meaning.specs.At.{count_of}
use Rattle.nodes.specs.Nodes.{unless_absent}
use Rattle.nodes.proofs.Held.{Held, Rest, few_wide, token_held, class_held}
use Rattle.nodes.proofs.statements.class_of.Goals as goal
use Rattle.nodes.proofs.statements.class_of.Goals.{After-of-words}

holds : (c : goal.After-of-words) → Held (fields c.args.tree.now) c.args.node c.of-words.result.payload.now c.of-words.result.wide 1 4 × Rest (fields c.args.tree.now) c.args.node c.of-words.result.payload.now c.of-words.result.wide 2
holds c = class_held c.requires.0 c.of-words.ensures.0 (c.of-words.ensures.1 ∙ c.requires.1) c.requires.2

pub of-words-requires : goal.of-words-requires
of-words-requires c = (c.requires.0.readable, few_wide (wide_marks (fields c.args.tree.now)) c.requires.1)

pub token-requires : goal.token-requires
token-requires c = omega (arith, (holds (goal.at.token-requires c).After-of-words).0.many)

pub present-requires : goal.present-requires
present-requires c = omega (arith, (holds (goal.at.present-requires c).After-of-words).0.many)

pub behind-requires : goal.behind-requires
behind-requires c = omega (arith, (holds (goal.at.behind-requires c).After-of-words).0.many)

pub returns : goal.returns
returns c = let h = holds (goal.at.returns c).After-of-words in
    let e0 = token_held 0 (lit≤ tt) h.0 c.token.ensures.0 in
    let e1 = c.present.ensures ∙ ap unless_absent (h.0.after 2 (lit< tt) (lit≤ tt)) in
    let e2 = c.behind.ensures.0 ∙ h.0.after 3 (lit< tt) (lit≤ tt) in
    let n : c.count.result - c.of-words.result.wide ≡ count_of (fields c.args.tree.now) c.args.node = omega (arith, c.count.ensures, h.1.size) in
    (rw (e0, e1, e2, n) refl, c.behind.ensures.1)

pub overflow_sub-result : goal.overflow_sub-result
overflow_sub-result c = omega (arith, c.count.ensures, (holds (goal.at.overflow_sub-result c).After-of-words).0.many)
