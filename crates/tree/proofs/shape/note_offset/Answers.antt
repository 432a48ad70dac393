-- A store, or none: by the test.
use mathlib.Core.Path.{◌≡◌, ap}
use Prim.Native.Nat.{ℕ, suc, ◌-◌}
use native.Mathlib.Omega.{arith}
use lib.ListN.{length, set}
use borrow.Author.Tests.{lt-ltb, le-ltb}
use Rattle.tree.proofs.shape.note_offset.Goals as goal

-- two steps back from the length are one
place : (n i : ℕ) → n - 1 - i ≡ n - suc i
place n i = omega arith

pub returns-then-i-notes : goal.returns-then-i-notes
returns-then-i-notes c = let a = c.args in
    rw (lt-ltb a.i a.notes c.if-i-notes.true) (ap (λ (k : ℕ). set a.scratch.now k a.at) (place (length a.scratch.now) a.i))

pub returns-else-i-notes : goal.returns-else-i-notes
returns-else-i-notes c = let a = c.args in rw (le-ltb a.i a.notes c.if-i-notes.false)

pub overflow_cast-scratch : goal.overflow_cast-scratch
overflow_cast-scratch c = omega (arith, c.requires.1 c.if-i-notes.true)
