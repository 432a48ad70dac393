-- Constant by constant: those passed stand one after the other.
use mathlib.Core.Path.{◌≡◌, sym, ap}
use mathlib.Core.List.{List, [], ◌∷◌}
use Prim.Native.Nat.{ℕ, ◌+◌, ◌-◌, ◌<◌, ◌≤◌}
use native.Mathlib.Omega.{arith}
use lib.ListN.{length}
use Rattle.store.specs.Table.{tab}
use Rattle.store.specs.Layout.{constant_at}
use Rattle.store.proofs.Tables.{tab_none}
use Rattle.meaning.specs.Image.{constant_bytes}
use Rattle.writers.proofs.Splicing.{spliced_none, spliced_then, spliced_as, spliced_length}
use Rattle.image.proofs.ConstantBytes.{constants_more, more_length, fewer_length}
use Rattle.image.proofs.constants.put_constants.Goals as goal

fits : (w o : List ℕ) (from i count : ℕ) → i < count → from + length (constant_bytes (tab (constant_at w) count)) ≤ length o
    → from + length (constant_bytes (tab (constant_at w) i)) + length (constant_bytes (constant_at w i ∷ [])) ≤ length o
fits w o from i count h l =
    let e : i + 1 + (count - (i + 1)) ≡ count = omega arith in
    omega (arith, more_length (constant_at w) i, rw e at (fewer_length (constant_at w) (i + 1) (count - (i + 1))))

pub loop-i-init : goal.loop-i-init
loop-i-init c = let a = c.args in
    let e = ap constant_bytes (tab_none (constant_at a.work.now)) in
    (omega (arith, ap length e), spliced_as (sym e) (spliced_none a.out.now a.from (omega (arith, c.requires.2))))

pub put_constant-requires : goal.put_constant-requires
put_constant-requires c = let a = c.args in
    let v = c.loop-i.invariant in
    let e = ap (λ k. length (constant_bytes (k ∷ []))) c.constant_at-constant.ensures in
    omega (arith, v.0, e, fits a.work.now a.out.now a.from c.loop-i.i a.count c.loop-i-test.true c.requires.2, spliced_length v.1)

pub loop-i-preserved : goal.loop-i-preserved
loop-i-preserved c = let w = c.args.work.now in
    let i : ℕ = c.loop-i.i in
    let v = c.loop-i.invariant in
    let f = constant_at w in
    let put = spliced_as (ap (λ k. constant_bytes (k ∷ [])) c.constant_at-constant.ensures) c.put_constant.ensures in
    let size = ap (λ k. length (constant_bytes (k ∷ []))) c.constant_at-constant.ensures in
    (omega (arith, v.0, more_length f i, c.size-at.ensures.0, size), spliced_as (sym (constants_more f i)) (spliced_then v.1 put v.0))
