-- A number of 64 bits has 20 digits at most.
use Prim.Native.Nat.{ℕ, ◌-◌, ◌^◌, ◌<◌, ◌≤◌}
use mathlib.Core.Logic.{⊎_elim}
use native.Mathlib.Omega.{arith}
use native.Mathlib.Nat.{pow-le-pow_right}
use Rattle.meaning.proofs.Lists.{lt_or_le}
use Rattle.io.specs.Digits.{IsDigitCount}

pub few : (n k : ℕ) → n < 18446744073709551616 → IsDigitCount 10 1 n k → k ≤ 20
few n k small f = ⊎_elim
    (λ (h : 20 < k). absurd (let long = f.2 (omega arith) in let more : 100000000000000000000 ≤ 10 ^ (k - 1) = pow-le-pow_right {n = 10} (omega arith) {i = 20} {j = k - 1} (omega arith) in omega arith))
    (λ (h : k ≤ 20). h)
    (lt_or_le 20 k)
