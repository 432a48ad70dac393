-- `nodes::expressions::function_of` meets its contract, word by word.
use mathlib.Core.Path.{refl, ◌∙◌}
use native.Mathlib.Omega.{arith}
use Prim.Native.Nat.{◌≤◌, ◌-◌}
use Rattle.meaning.specs.Fields.{fields}
use Rattle.meaning.specs.Grammar.{wide_marks}
use mathlib.Core.Path.{◌≡◌, sym, ap}
use Rattle.meaning.specs.Functions.{first_mark}
use mathlib.Core.Bool.{not, cond}
use Prim.Native.Nat.{◌+◌, ◌*◌}
use lib.ListN.{length}
use lib.Dec.{eqb}
use Rattle.meaning.specs.Fields.{words}
use Rattle.meaning.specs.Read.{at}
use Rattle.meaning.specs.At.{word_of, count_of, tokens_at, pairs_in, pair_place}
use Rattle.nodes.proofs.Held.{few_wide, function_held}
use Rattle.nodes.proofs.expressions.function_of.Goals as goal
use Rattle.nodes.proofs.expressions.function_of.Goals.{After-of-words}

holds : (c : goal.After-of-words) → (at (words c.of-words.result.payload.now) 0 ≡ word_of (fields c.args.tree.now) c.args.node 0) × (tokens_at (fields c.args.tree.now) c.args.node 1 (1 + 2 * word_of (fields c.args.tree.now) c.args.node 0) ≡ pairs_in (not (eqb c.of-words.result.wide 0)) (words c.of-words.result.payload.now) 1 (word_of (fields c.args.tree.now) c.args.node 0)) × (1 + pair_place (not (eqb c.of-words.result.wide 0)) (word_of (fields c.args.tree.now) c.args.node 0) ≤ length (words c.of-words.result.payload.now)) × (length (words c.of-words.result.payload.now) ≡ count_of (fields c.args.tree.now) c.args.node + cond (not (eqb c.of-words.result.wide 0)) (word_of (fields c.args.tree.now) c.args.node 0) 0)
holds c = function_held c.requires.0 c.of-words.ensures.0 (c.of-words.ensures.1 ∙ c.requires.1) c.requires.2

narrow : (c : goal.After-of-words) → c.of-words.result.wide ≤ 1
narrow c = few_wide (wide_marks (fields c.args.tree.now)) (c.of-words.ensures.1 ∙ c.requires.1)

pub of-words-requires : goal.of-words-requires
of-words-requires c = (c.requires.0.readable, few_wide (wide_marks (fields c.args.tree.now)) c.requires.1)

pub word-params-requires : goal.word-params-requires
word-params-requires c = omega (arith, (holds (goal.at.word-params-requires c).After-of-words).2)

pub first_mark-requires : goal.first_mark-requires
first_mark-requires c = rw (c.word-params.ensures.0 ∙ (holds (goal.at.first_mark-requires c).After-of-words).0) ((holds (goal.at.first_mark-requires c).After-of-words).2, few_wide (wide_marks (fields c.args.tree.now)) (c.of-words.ensures.1 ∙ c.requires.1))

-- the words of the file are those of the node, and one more for each wide mark
pub overflow_sub-result : goal.overflow_sub-result
overflow_sub-result c = let h = holds (goal.at.overflow_sub-result c).After-of-words in
    let params = c.word-params.ensures.0 ∙ h.0 in
    omega (arith, c.count.ensures, h.3, rw params at c.more_words.ensures.0)

pub returns : goal.returns
returns c = let h = holds (goal.at.returns c).After-of-words in
    let params = c.word-params.ensures.0 ∙ h.0 in
    let mark = (rw params at c.first_mark.ensures) ∙ sym (ap first_mark h.1) in
    let end : c.count.result - c.more_words.result ≡ count_of (fields c.args.tree.now) c.args.node = omega (arith, c.count.ensures, h.3, rw params at c.more_words.ensures.0) in
    (rw (params, mark, end) refl, c.word-params.ensures.1)
