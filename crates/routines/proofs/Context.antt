-- The global context: one open function with one open block.
use Prim.Native.Nat.{ℕ, ◌+◌, ◌≤◌}
use mathlib.Core.Path.{◌≡◌, refl}
use mathlib.Core.Bool.{Bool, true, false, ◌&&◌}
use mathlib.Core.List.{List}
use native.Mathlib.Omega.{arith}
use lib.Dec.{eqb}
use borrow.Author.Tests.{eqb-true, eqb-false}
use Rattle.meaning.proofs.Lists.{and_left, and_right}
use Rattle.store.specs.declared.Scope.{Scope}
use Rattle.store.specs.Store.{depth_of, block_of, global_scope, Sound}

pub record Alone (p : Scope) : Type 0 where
  pub depth : depth_of p ≡ 0
  pub block : block_of p ≡ 1

pub alone : (p : Scope) → global_scope p ≡ true → Alone p
alone p e = record { depth = eqb-true (depth_of p) 0 (and_left _ _ e); block = eqb-true (block_of p) 1 (and_right (eqb (depth_of p) 0) _ e) }

pub not_alone : {w : List ℕ} (p : Scope) → Sound w p → global_scope p ≡ false → 2 ≤ depth_of p + block_of p
not_alone p sound e = cases (eqb (depth_of p) 0) (eqb (block_of p) 1) refl refl e
  where
    cases : (a b : Bool) → eqb (depth_of p) 0 ≡ a → eqb (block_of p) 1 ≡ b → a && b ≡ false → 2 ≤ depth_of p + block_of p
    cases true true f g h = absurd (let z : ◌≡◌ {A = ℕ} 0 1 = cc in omega arith)
    cases true false f g h = let n = eqb-false (block_of p) 1 g in omega (arith, sound.starts 0 (omega arith), n)
    cases false b f g h = let n = eqb-false (depth_of p) 0 f in omega (arith, sound.starts 0 (omega arith), n)
