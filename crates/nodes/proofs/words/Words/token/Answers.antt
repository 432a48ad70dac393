-- `nodes::words::Words::token` meets its contract: a word, then a mark.
use mathlib.Core.Path.{refl}
use Prim.Native.Nat.{◌<◌}
use native.Mathlib.Omega.{arith}
use lib.ListN.{length}
use Rattle.meaning.specs.Fields.{words}
use Rattle.nodes.proofs.Bytes.{word_inside}
use Rattle.nodes.proofs.words.Words.token.Goals as goal

pub word-requires : goal.word-requires
word-requires c = omega (arith, c.requires)

pub overflow_add-k : goal.overflow_add-k
overflow_add-k c = let k : c.args.k < length (words c.args.self.now.payload.now) = omega (arith, c.requires) in
    omega (arith, word_inside c.args.self.now.payload.now c.args.k k)

pub mark-requires : goal.mark-requires
mark-requires c = c.requires

pub returns : goal.returns
returns c = (rw (c.word.ensures.0, c.mark.ensures) refl, c.word.ensures.1)
