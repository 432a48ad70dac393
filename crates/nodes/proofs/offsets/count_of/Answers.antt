-- `nodes::offsets::count_of` meets its contract: half of the length that the header says, without the wide marks' second words.
use native.Mathlib.Omega.{arith}
use mathlib.Core.Path.{◌≡◌, ap, ◌∙◌}
use Prim.Native.Nat.{◌/◌}
use lib.ListN.{length}
use Rattle.meaning.specs.Fields.{fields}
use Rattle.meaning.specs.At.{file_words}
use Rattle.nodes.proofs.Headers.{entry_inside, field_inside, count_is}
use Rattle.nodes.proofs.offsets.count_of.Goals as goal
use Rattle.nodes.proofs.offsets.count_of.Goals.{After-word}

pub start_of-start-requires : goal.start_of-start-requires
start_of-start-requires c = entry_inside c.requires.0

pub overflow_add-start : goal.overflow_add-start
overflow_add-start c = omega (arith, field_inside c.requires.0 _ c.start_of-start.ensures)

pub word-requires : goal.word-requires
word-requires c = omega (arith, field_inside c.requires.0 _ c.start_of-start.ensures)

-- the words of the file
words : (c : goal.After-word) → c.word.result / 2 ≡ length (file_words (fields c.args.tree.now) c.args.node)
words c = ap (λ n. n / 2) c.word.ensures.0 ∙ count_is c.requires.0 _ c.start_of-start.ensures

pub overflow_sub-result : goal.overflow_sub-result
overflow_sub-result c = omega (arith, words c, c.requires.1)

pub returns : goal.returns
returns c = let n = words c in let m = c.requires.1 in (omega (arith, n, m), omega (arith, n, m))
