-- `nodes::words::Words::behind` meets its contract: the word is in the payload, so its number fits.
use native.Mathlib.Omega.{arith}
use Rattle.nodes.proofs.Bytes.{word_inside}
use Rattle.nodes.proofs.words.Words.behind.Goals as goal

pub overflow_add-k : goal.overflow_add-k
overflow_add-k c = omega (arith, word_inside c.args.self.now.payload.now _ c.requires)
