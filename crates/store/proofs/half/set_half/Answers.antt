-- The two arms set the two halves of the word; a word below 2 ^ 32 has halves below 2 ^ 16.
use Rattle.std.proofs.Common.{sym}
use Rattle.store.proofs.Halves.{with_even, with_odd}
use Rattle.store.proofs.half.set_half.Goals as goal

pub returns-then-k-eq0 : goal.returns-then-k-eq0
returns-then-k-eq0 c = sym (with_even _ _ _ c.if-k-eq0.true)

pub returns-else-k-eq0 : goal.returns-else-k-eq0
returns-else-k-eq0 c = sym (with_odd _ _ _ c.if-k-eq0.false)
