-- `offsets::main`: each check is what `ahead` or `behind` ensures.
use Rattle.offsets.proofs.main.Goals as goal

pub expect-requires : goal.expect-requires
expect-requires c = rw c.ahead.ensures

pub expect-requires-2 : goal.expect-requires-2
expect-requires-2 c = rw c.ahead-2.ensures

pub expect-requires-3 : goal.expect-requires-3
expect-requires-3 c = rw c.behind.ensures

pub expect-requires-4 : goal.expect-requires-4
expect-requires-4 c = rw c.behind-2.ensures
