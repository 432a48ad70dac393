-- `nodes::statements::if_of` meets its contract, word by word.
use mathlib.Core.Path.{refl, ◌∙◌}
use native.Mathlib.Omega.{arith}
use lib.Dec.{lit<, lit≤}
use Prim.Native.Nat.{◌≤◌}
use Rattle.meaning.specs.Fields.{fields}
use Rattle.meaning.specs.Grammar.{wide_marks}
use mathlib.Core.Path.{◌≡◌}
use Prim.Native.Nat.{◌+◌, ◌-◌}
use Rattle.meaning.specs.At.{word_of, count_of}
use Rattle.nodes.proofs.Held.{Held, Rest, few_wide, if_held}
use Rattle.nodes.proofs.statements.if_of.Goals as goal
use Rattle.nodes.proofs.statements.if_of.Goals.{After-of-words}

holds : (c : goal.After-of-words) → Held (fields c.args.tree.now) c.args.node c.of-words.result.payload.now c.of-words.result.wide 0 3 × Rest (fields c.args.tree.now) c.args.node c.of-words.result.payload.now c.of-words.result.wide 1 × (4 + word_of (fields c.args.tree.now) c.args.node 2 + word_of (fields c.args.tree.now) c.args.node (3 + word_of (fields c.args.tree.now) c.args.node 2) ≤ count_of (fields c.args.tree.now) c.args.node)
holds c = if_held c.requires.0 c.of-words.ensures.0 (c.of-words.ensures.1 ∙ c.requires.1) c.requires.2

narrow : (c : goal.After-of-words) → c.of-words.result.wide ≤ 1
narrow c = few_wide (wide_marks (fields c.args.tree.now)) (c.of-words.ensures.1 ∙ c.requires.1)

pub of-words-requires : goal.of-words-requires
of-words-requires c = (c.requires.0.readable, few_wide (wide_marks (fields c.args.tree.now)) c.requires.1)

pub behind-t-requires : goal.behind-t-requires
behind-t-requires c = omega (arith, (holds (goal.at.behind-t-requires c).After-of-words).0.many)

pub overflow_add-t : goal.overflow_add-t
overflow_add-t c = omega (arith, c.behind-t.ensures.1)

-- the count of its elifs stands behind its statements
pub behind-e-requires : goal.behind-e-requires
behind-e-requires c = let h = holds (goal.at.behind-e-requires c).After-of-words in
    omega (arith, h.2, h.1.size, c.behind-t.ensures.0 ∙ h.0.after 2 (lit< tt) (lit≤ tt))

pub mark-requires : goal.mark-requires
mark-requires c = omega (arith, (holds (goal.at.mark-requires c).After-of-words).0.many)

pub behind-requires : goal.behind-requires
behind-requires c = omega (arith, (holds (goal.at.behind-requires c).After-of-words).0.many)

pub overflow_sub-result : goal.overflow_sub-result
overflow_sub-result c = omega (arith, c.count.ensures, (holds (goal.at.overflow_sub-result c).After-of-words).0.many)

pub returns : goal.returns
returns c = let h = holds (goal.at.returns c).After-of-words in
    let thens = c.behind-t.ensures.0 ∙ h.0.after 2 (lit< tt) (lit≤ tt) in
    let elifs = (rw thens at c.behind-e.ensures.0) ∙ h.1.same _ (omega arith) in
    let mark = c.mark.ensures ∙ h.0.mark (lit≤ tt) in
    let condition = c.behind.ensures.0 ∙ h.0.after 1 (lit< tt) (lit≤ tt) in
    let end : c.count.result - c.of-words.result.wide ≡ count_of (fields c.args.tree.now) c.args.node = omega (arith, c.count.ensures, h.1.size) in
    (rw (thens, elifs, mark, condition, end) refl, omega (arith, c.behind-t.ensures.1))
