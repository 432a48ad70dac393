-- A place that is one of the first n, or none.
use mathlib.Core.Path.{◌≡◌, refl, ap, ◌∙◌}
use mathlib.Core.Bool.{Bool, true, false, cond}
use mathlib.Core.Option.{Option, none, some}
use Prim.Native.Nat.{ℕ, ◌<◌, ◌≤◌}
use native.Mathlib.Omega.{arith}
use lib.Dec.{ltb}
use borrow.Author.Tests.{lt-ltb, le-ltb, ltb-true}
use Rattle.std.proofs.Math.Option.{none-ne-some, some-ne-none}
use Rattle.reader.specs.Spots.{below}

pub below_some : (n i m : ℕ) → m ≡ i → i < n → some i ≡ below n m
below_some n i m e h = rw (e, lt-ltb i n h) refl

pub below_none : (n m : ℕ) → n ≤ m → none ≡ below n m
below_none n m h = rw (le-ltb m n h) refl

-- what is told
pub below_is : (n i m : ℕ) → some i ≡ below n m → (i ≡ m) × (i < n)
below_is n i m e = go (ltb m n) refl e
  where
    get : Option ℕ → ℕ
    get none = 0
    get (some k) = k

    go : (b : Bool) → ltb m n ≡ b → some i ≡ cond b (some m) none → (i ≡ m) × (i < n)
    go true t q = let same : i ≡ m = ap get q in (same, omega (arith, same, ltb-true m n t))
    go false t q = absurd (some-ne-none i q)

pub below_not : (n m : ℕ) → none ≡ below n m → m < n → ⊥
below_not n m e h = none-ne-some m (e ∙ rw (lt-ltb m n h) refl)
