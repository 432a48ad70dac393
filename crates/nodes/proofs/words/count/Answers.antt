-- `nodes::words::count` meets its contract.
use Rattle.nodes.proofs.Bytes.{words_count}
use mathlib.Core.Path.{sym}
use Rattle.nodes.proofs.words.count.Goals as goal

pub returns : goal.returns
returns c = sym (words_count c.args.payload.now)
