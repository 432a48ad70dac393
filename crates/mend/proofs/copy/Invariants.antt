-- A byte a turn: what was copied so far stands at the front.
use mathlib.Core.Path.{◌≡◌}
use mathlib.Core.List.{◌++◌}
use Prim.Native.Nat.{◌≤◌}
use lib.ListN.{length, take, drop}
use Rattle.mend.proofs.copy.Given as goal

abbrev pub invariant-loop-i : goal.invariant-loop-i
invariant-loop-i l = (l.i ≤ length l.image) × (l.out ≡ take l.i l.image ++ drop l.i l.initial.out) × (length l.out ≡ length l.initial.out)
