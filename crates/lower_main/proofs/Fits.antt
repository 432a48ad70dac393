-- An image is no longer than the output that it stands in.
use Prim.Native.Nat.{ℕ, ◌-◌, ◌≤◌}
use mathlib.Core.Path.{◌≡◌}
use mathlib.Core.List.{List}
use native.Mathlib.Omega.{arith}
use lib.ListN.{length, replicate, length-append}
use Rattle.meaning.specs.Answer.{Finished, imaged, stopped, finished, reply, output}
use Rattle.meaning.specs.declared.Reply.{Reply}

output_long : (tree : List ℕ) (room : ℕ) (f : Finished) → (reply tree f).length ≤ length (output room f)
output_long tree room (imaged bytes) = omega (arith, length-append bytes (replicate (room - length bytes) 0))
output_long tree room (stopped c place) = omega arith

-- of what a call answers and leaves in the output
pub fits : (mode : ℕ) (tree : List ℕ) (work room : ℕ) (r : Reply) (o : List ℕ) → r ≡ reply tree (finished mode tree work room) → o ≡ output room (finished mode tree work room) → r.length ≤ length o
fits mode tree work room r o e written = rw (e, written) (output_long tree room (finished mode tree work room))
