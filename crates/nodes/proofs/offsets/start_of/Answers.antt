-- `nodes::offsets::start_of` meets its contract: a word of 32 bits fits.
use native.Mathlib.Omega.{arith}
use Prim.Native.Nat.{◌-◌}
use lib.ListN.{length}
use Rattle.nodes.proofs.offsets.start_of.Goals as goal

pub overflow_cast-result : goal.overflow_cast-result
overflow_cast-result c = omega (arith, c.type_inv.work (length c.args.work.now - 1 - c.args.node))
