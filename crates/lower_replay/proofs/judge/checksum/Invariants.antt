-- Both sums are below the modulus.
use Prim.Native.Nat.{◌<◌}
use Rattle.lower_replay.proofs.judge.checksum.Given as goal

abbrev pub invariant-loop-x : goal.invariant-loop-x
invariant-loop-x l = (l.a < 65521) × (l.b < 65521)
