-- `nodes::words::child` meets its contract: word k is bytes 2 k and 2 k + 1.
use mathlib.Core.Path.{sym, ◌∙◌}
use native.Mathlib.Omega.{arith}
use Rattle.nodes.proofs.Bytes.{word_inside, word_bytes}
use Rattle.nodes.proofs.words.child.Goals as goal

pub overflow_mul-k : goal.overflow_mul-k
overflow_mul-k c = omega (arith, word_inside c.args.payload.now c.args.k c.requires)

pub word-requires : goal.word-requires
word-requires c = let i = word_inside c.args.payload.now c.args.k c.requires in omega arith

pub returns : goal.returns
returns c = let e = c.word.ensures in
    (e.0 ∙ sym (word_bytes c.args.payload.now c.args.k c.requires), e.1)
