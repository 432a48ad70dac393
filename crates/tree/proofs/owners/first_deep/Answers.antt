-- The invariant is `Deep`, the measure the node in hand.
use native.Mathlib.Omega.{arith}
use borrow.Author.Tests.{lt-leb, le-leb}
use Rattle.tree.proofs.Depths.{deep_start, deep_linked, deep_more, deep_end}
use Rattle.tree.proofs.owners.first_deep.Goals as goal

pub bounds-scratch-c : goal.bounds-scratch-c
bounds-scratch-c c = omega (arith, c.loop-c.invariant.within, c.loop-c.invariant.beyond.size, c.requires.room, c.loop-c-test.true)

pub depth_at-depth-requires : goal.depth_at-depth-requires
depth_at-depth-requires c = (omega (arith, c.loop-c.invariant.within, c.loop-c-test.true), deep_linked _ _ c.requires _ _ _ c.loop-c.invariant c.loop-c-test.true)

pub loop-c-preserved-then-depth-gt128 : goal.loop-c-preserved-then-depth-gt128
loop-c-preserved-then-depth-gt128 c = deep_more _ _ c.requires _ _ _ c.loop-c.invariant c.loop-c-test.true _ _ c.depth_at-depth.ensures (simp (lt-leb _ _ c.if-depth-gt128.true))

pub loop-c-preserved : goal.loop-c-preserved
loop-c-preserved c = deep_more _ _ c.requires _ _ _ c.loop-c.invariant c.loop-c-test.true _ _ c.depth_at-depth.ensures (simp (le-leb _ _ c.if-depth-gt128.false))

pub returns : goal.returns
returns c = record {
  lowest = deep_end _ _ c.requires _ _ _ c.loop-c.invariant c.loop-c-test.false;
  beyond = c.loop-c.invariant.beyond;
}

pub loop-c-init : goal.loop-c-init
loop-c-init c = deep_start _ _ c.requires

pub offset_bounds-scratch-c : goal.offset_bounds-scratch-c
offset_bounds-scratch-c c = omega (arith, c.loop-c.invariant.within, c.loop-c.invariant.beyond.size, c.requires.room, c.loop-c-test.true)

pub shape_of-scratch : goal.shape_of-scratch
shape_of-scratch c = c.loop-c.invariant.beyond.size
