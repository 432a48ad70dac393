-- `nodes::statements::define_of` meets its contract, word by word.
use mathlib.Core.Path.{◌≡◌, refl, ◌∙◌}
use mathlib.Core.Bool.{not, cond}
use native.Mathlib.Omega.{arith}
use lib.Dec.{eqb, lit<, lit≤}
use Prim.Native.Nat.{◌+◌, ◌-◌, ◌≤◌}
use lib.ListN.{length}
use Rattle.meaning.specs.Fields.{fields, words}
use Rattle.meaning.specs.At.{word_of, count_of}
use Rattle.meaning.specs.Grammar.{wide_marks}
use Rattle.nodes.proofs.Held.{Held, few_wide, token_held, define_held}
use Rattle.nodes.proofs.statements.define_of.Goals as goal
use Rattle.nodes.proofs.statements.define_of.Goals.{After-of-words}

holds : (c : goal.After-of-words) → Held (fields c.args.tree.now) c.args.node c.of-words.result.payload.now c.of-words.result.wide 1 3 × (length (words c.of-words.result.payload.now) ≡ count_of (fields c.args.tree.now) c.args.node + (c.of-words.result.wide + cond (not (eqb c.of-words.result.wide 0)) (word_of (fields c.args.tree.now) c.args.node 2) 0))
holds c = define_held c.requires.0 c.of-words.ensures.0 (c.of-words.ensures.1 ∙ c.requires.1) c.requires.2

narrow : (c : goal.After-of-words) → c.of-words.result.wide ≤ 1
narrow c = few_wide (wide_marks (fields c.args.tree.now)) (c.of-words.ensures.1 ∙ c.requires.1)

pub of-words-requires : goal.of-words-requires
of-words-requires c = (c.requires.0.readable, few_wide (wide_marks (fields c.args.tree.now)) c.requires.1)

pub behind-params-requires : goal.behind-params-requires
behind-params-requires c = omega (arith, (holds (goal.at.behind-params-requires c).After-of-words).0.many)

pub token-requires : goal.token-requires
token-requires c = omega (arith, (holds (goal.at.token-requires c).After-of-words).0.many)

pub overflow_add-result : goal.overflow_add-result
overflow_add-result c = omega (arith, narrow (goal.at.overflow_add-result c).After-of-words, c.more_words.ensures.1, c.behind-params.ensures.1)

-- the words of the file are those of the node, and one more for each wide mark
pub overflow_sub-result : goal.overflow_sub-result
overflow_sub-result c = let h = holds (goal.at.overflow_sub-result c).After-of-words in
    let params = c.behind-params.ensures.0 ∙ h.0.after 2 (lit< tt) (lit≤ tt) in
    omega (arith, c.count.ensures, h.1, rw params at c.more_words.ensures.0)

pub returns : goal.returns
returns c = let h = holds (goal.at.returns c).After-of-words in
    let params = c.behind-params.ensures.0 ∙ h.0.after 2 (lit< tt) (lit≤ tt) in
    let token = token_held 0 (lit≤ tt) h.0 c.token.ensures.0 in
    let end : c.count.result - (c.of-words.result.wide + c.more_words.result) ≡ count_of (fields c.args.tree.now) c.args.node = omega (arith, c.count.ensures, h.1, rw params at c.more_words.ensures.0) in
    (rw (params, token, end) refl, c.behind-params.ensures.1)
