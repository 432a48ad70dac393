-- The two arms read the two halves of the word.
use Rattle.std.proofs.Common.{sym}
use Rattle.store.proofs.Halves.{half_even, half_odd}
use Rattle.store.proofs.half.half_at.Goals as goal

pub returns-then-k-eq0 : goal.returns-then-k-eq0
returns-then-k-eq0 c = sym (half_even _ _ c.if-k-eq0.true)

pub returns-else-k-eq0 : goal.returns-else-k-eq0
returns-else-k-eq0 c = sym (half_odd _ _ c.if-k-eq0.false)
