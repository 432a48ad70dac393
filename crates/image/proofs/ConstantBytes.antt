-- The bytes of constants as the work area holds them, and how many they are.
use mathlib.Core.Path.{◌≡◌, ap, ◌∙◌}
use mathlib.Core.List.{[], ◌∷◌, ◌++◌}
use Prim.Native.Nat.{ℕ, zero, suc, ◌+◌, ◌≤◌}
use native.Mathlib.Omega.{arith}
use native.Mathlib.Numerals.{add-one}
use lib.ListN.{length, length-append}
use Rattle.store.specs.Table.{tab}
use Rattle.store.proofs.Tables.{tab_suc}
use Rattle.meaning.specs.Constant.{Constant}
use Rattle.meaning.specs.Image.{constant_bytes}
use Rattle.writers.proofs.Bytes.{constants_append}

module _ (f : ℕ → Constant) where
  pub constants_more : (i : ℕ) → constant_bytes (tab f (i + 1)) ≡ constant_bytes (tab f i) ++ constant_bytes (f i ∷ [])
  constants_more i = ap (λ k. constant_bytes (tab f k)) (add-one i) ∙ ap constant_bytes (tab_suc f i) ∙ constants_append (tab f i) (f i ∷ [])

  pub more_length : (i : ℕ) → length (constant_bytes (tab f (i + 1))) ≡ length (constant_bytes (tab f i)) + length (constant_bytes (f i ∷ []))
  more_length i = ap length (constants_more i) ∙ length-append (constant_bytes (tab f i)) (constant_bytes (f i ∷ []))

  pub fewer_length : (i k : ℕ) → length (constant_bytes (tab f i)) ≤ length (constant_bytes (tab f (i + k)))
  fewer_length i zero = let e : i + 0 ≡ i = omega arith in rw e (omega arith)
  fewer_length i (suc k) = let e : i + suc k ≡ i + k + 1 = omega arith in rw e (omega (arith, more_length (i + k), fewer_length i k))
