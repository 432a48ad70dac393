-- `nodes::expressions::call_of` meets its contract, word by word.
use mathlib.Core.Path.{refl, ◌∙◌}
use native.Mathlib.Omega.{arith}
use lib.Dec.{lit<, lit≤}
use Prim.Native.Nat.{◌≤◌}
use Rattle.meaning.specs.Fields.{fields}
use Rattle.meaning.specs.Grammar.{wide_marks}
use mathlib.Core.Path.{◌≡◌, ap}
use mathlib.Core.List.{List}
use Prim.Native.Nat.{ℕ, ◌+◌, ◌-◌}
use lib.ListN.{length}
use Rattle.meaning.specs.Fields.{words}
use Rattle.meaning.specs.At.{count_of}
use Rattle.nodes.proofs.Headers.{few_words}
use Rattle.nodes.proofs.Held.{Held, Rest, few_wide, call_held}
use Rattle.nodes.proofs.expressions.call_of.Goals as goal
use Rattle.nodes.proofs.expressions.call_of.Goals.{After-of-words}

holds : (c : goal.After-of-words) → Held (fields c.args.tree.now) c.args.node c.of-words.result.payload.now c.of-words.result.wide 1 2 × Rest (fields c.args.tree.now) c.args.node c.of-words.result.payload.now c.of-words.result.wide 2
holds c = call_held c.requires.0 c.of-words.ensures.0 (c.of-words.ensures.1 ∙ c.requires.1) c.requires.2

narrow : (c : goal.After-of-words) → c.of-words.result.wide ≤ 1
narrow c = few_wide (wide_marks (fields c.args.tree.now)) (c.of-words.ensures.1 ∙ c.requires.1)

pub of-words-requires : goal.of-words-requires
of-words-requires c = (c.requires.0.readable, few_wide (wide_marks (fields c.args.tree.now)) c.requires.1)

pub word-requires : goal.word-requires
word-requires c = omega (arith, (holds (goal.at.word-requires c).After-of-words).0.many)

pub mark-requires : goal.mark-requires
mark-requires c = omega (arith, (holds (goal.at.mark-requires c).After-of-words).0.many)

pub returns : goal.returns
returns c = let h = holds (goal.at.returns c).After-of-words in
    let e0 = c.word.ensures.0 ∙ h.0.before 0 (lit< tt) (lit≤ tt) in
    let e1 = c.mark.ensures ∙ h.0.mark (lit≤ tt) in
    let n : c.count.result - (2 + c.of-words.result.wide) ≡ count_of (fields c.args.tree.now) c.args.node - 2 = omega (arith, c.count.ensures, h.1.size) in
    let few = few_words _ _ (λ j. omega (arith, c.type_inv.tree j)) c.requires.0.readable.known in
    (rw (e0, e1, n) refl, omega (arith, few, c.count.ensures, ap (λ (p : List ℕ). length (words p)) c.of-words.ensures.0))

pub overflow_add-result : goal.overflow_add-result
overflow_add-result c = omega (arith, narrow (goal.at.overflow_add-result c).After-of-words)

pub overflow_sub-result : goal.overflow_sub-result
overflow_sub-result c = omega (arith, c.count.ensures, (holds (goal.at.overflow_sub-result c).After-of-words).0.many)
