-- The invariant: the fields passed are whole instructions.
use mathlib.Core.Path.{refl}
use Prim.Native.Nat.{◌+◌, ◌*◌, ◌≤◌}
use native.Mathlib.Omega.{arith}
use lib.ListN.{length}
use Rattle.reader.proofs.Runs.{run_start, run_within, run_more}
use Rattle.reader.proofs.order.run.Goals as goal
use Rattle.reader.proofs.order.run.Goals.{In-loop-i}

-- the field lies within
fit : (e : goal.In-loop-i) → e.loop-i.i * (3 + e.args.size) + (3 + e.args.size) ≤ length e.args.t.now
fit e = run_within (length e.args.t.now) (3 + e.args.size) e.min-most.result e.loop-i.i (omega (arith, e.min-most.ensures)) e.loop-i-test.true

pub loop-i-init : goal.loop-i-init
loop-i-init c = run_start _ _ _ _

pub loop-i-preserved : goal.loop-i-preserved
loop-i-preserved c = let x = c.args in
    run_more x.t.now x.tag x.size x.n c.loop-i.i _ _ refl c.loop-i.invariant (omega (arith, c.loop-i-test.true, c.min-most.ensures)) (fit (goal.at.loop-i-preserved c).In-loop-i) c.word.ensures.0 c.if-t-at.false
