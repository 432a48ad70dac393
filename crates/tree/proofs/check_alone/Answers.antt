-- Either scratch has a word for each field that a file of this length may have, or 32,768.
use native.Mathlib.Omega.{arith}
use Rattle.tree.proofs.Answers.{room_enough}
use Rattle.tree.proofs.check_alone.Goals as goal

pub check_own-requires : goal.check_own-requires
check_own-requires c = record { room = room_enough _ 4096 (omega (arith, c.if-tree-le4096.true)); size = omega arith }
