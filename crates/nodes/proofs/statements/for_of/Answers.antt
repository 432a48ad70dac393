-- `nodes::statements::for_of` meets its contract, word by word.
use mathlib.Core.Path.{refl, ap, ◌∙◌}
use native.Mathlib.Omega.{arith}
use lib.Dec.{lit<, lit≤}
use Prim.Native.Nat.{◌≤◌}
use Rattle.meaning.specs.Fields.{fields}
use Rattle.meaning.specs.Grammar.{wide_marks}
use Rattle.nodes.specs.Nodes.{unless_absent}
use Rattle.nodes.proofs.Held.{Held, Rest, few_wide, for_held}
use Rattle.nodes.proofs.statements.for_of.Goals as goal
use Rattle.nodes.proofs.statements.for_of.Goals.{After-of-words}

holds : (c : goal.After-of-words) → Held (fields c.args.tree.now) c.args.node c.of-words.result.payload.now c.of-words.result.wide 0 5 × Rest (fields c.args.tree.now) c.args.node c.of-words.result.payload.now c.of-words.result.wide 1
holds c = for_held c.requires.0 c.of-words.ensures.0 (c.of-words.ensures.1 ∙ c.requires.1) c.requires.2

pub of-words-requires : goal.of-words-requires
of-words-requires c = (c.requires.0.readable, few_wide (wide_marks (fields c.args.tree.now)) c.requires.1)

pub mark-requires : goal.mark-requires
mark-requires c = omega (arith, (holds (goal.at.mark-requires c).After-of-words).0.many)

pub present-requires : goal.present-requires
present-requires c = omega (arith, (holds (goal.at.present-requires c).After-of-words).0.many)

pub behind-requires : goal.behind-requires
behind-requires c = omega (arith, (holds (goal.at.behind-requires c).After-of-words).0.many)

pub behind-requires-2 : goal.behind-requires-2
behind-requires-2 c = omega (arith, (holds (goal.at.behind-requires-2 c).After-of-words).0.many)

pub behind-requires-3 : goal.behind-requires-3
behind-requires-3 c = omega (arith, (holds (goal.at.behind-requires-3 c).After-of-words).0.many)

pub returns : goal.returns
returns c = let h = holds (goal.at.returns c).After-of-words in
    let e0 = c.mark.ensures ∙ h.0.mark (lit≤ tt) in
    let e1 = c.present.ensures ∙ ap unless_absent (h.0.after 1 (lit< tt) (lit≤ tt)) in
    let e2 = c.behind.ensures.0 ∙ h.0.after 2 (lit< tt) (lit≤ tt) in
    let e3 = c.behind-2.ensures.0 ∙ h.0.after 3 (lit< tt) (lit≤ tt) in
    let e4 = c.behind-3.ensures.0 ∙ h.1.same 4 (lit≤ tt) in
    rw (e0, e1, e2, e3, e4) refl
