-- The invariant is `Needed`: what the captures from i on need.
use mathlib.Core.Path.{◌≡◌, ap}
use Prim.Native.Nat.{ℕ, ◌+◌, ◌-◌, ◌<◌}
use native.Mathlib.Omega.{arith}
use Rattle.reader.proofs.Scanned.{needed_start, needed_end, needed_local, needed_outer}
use Rattle.reader.proofs.facts.needs_of.Goals as goal

last : (i : ℕ) → 0 < i → i ≡ i - 1 + 1
last i h = omega arith

pub loop-i-preserved-then-t-at-eq1 : goal.loop-i-preserved-then-t-at-eq1
loop-i-preserved-then-t-at-eq1 c = needed_local _ _ _ _ _ _ _ _ (last c.loop-i.i c.loop-i-test.true) c.loop-i.invariant (ap (λ (m : ℕ). m + 1) c.from-index.ensures) c.if-t-at-eq1.true _ c.max-locals.ensures

pub loop-i-preserved : goal.loop-i-preserved
loop-i-preserved c = needed_outer _ _ _ _ _ _ _ _ (last c.loop-i.i c.loop-i-test.true) c.loop-i.invariant (ap (λ (m : ℕ). m + 1) c.from-index.ensures) c.if-t-at-eq1.false _ c.max-outers.ensures

pub loop-i-init : goal.loop-i-init
loop-i-init c = needed_start _ _ _

pub returns : goal.returns
returns c = needed_end _ _ _ _ _ _ (omega (arith, c.loop-i-test.false)) c.loop-i.invariant
