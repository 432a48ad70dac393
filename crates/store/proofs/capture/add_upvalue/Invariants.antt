-- The loop passes captures that are not equal (Captures.antt): an equal one is found, or there are 255, or one is added at the end.
use Rattle.std.proofs.Common.{◌≡◌, ℕ, ◌<◌}
use Rattle.store.specs.Layout.{capture_word}
use Rattle.store.proofs.capture.add_upvalue.Given as goal

abbrev pub invariant-loop-i : goal.invariant-loop-i
invariant-loop-i l = (k : ℕ) → k < l.i → capture_word l.work l.depth k ≡ l.capture → ⊥
