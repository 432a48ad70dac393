use mathlib.Core.Path.{refl}
use borrow.Author.Tests.{lt-ltb, le-ltb}
use Rattle.reader.proofs.order.due_seen.Goals as goal

pub returns-then-d-gt0-2 : goal.returns-then-d-gt0-2
returns-then-d-gt0-2 c = let d = c.args.d in rw (le-ltb 0 d.captures c.if-d-gt0.false, lt-ltb 0 d.code c.if-d-gt0-2.true) refl
