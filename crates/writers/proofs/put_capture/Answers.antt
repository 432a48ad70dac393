-- The field's tag and length, then two bytes.
use mathlib.Core.Path.{ap}
use mathlib.Core.List.{[], ◌∷◌}
use Prim.Native.Nat.{ℕ, ◌+◌}
use native.Mathlib.Omega.{arith}
use mir.Val.{bool_byte}
use Rattle.writers.proofs.Splicing.{spliced_byte, spliced_as}
use Rattle.writers.proofs.Bytes.{flag_is}
use Rattle.writers.proofs.put_capture.Goals as goal

pub returns : goal.returns
returns c = let a = c.args in
    let at : ℕ = a.at in
    let b1 = spliced_byte (at + 3) (bool_byte a.c.local) c.put_field.ensures (omega arith) (omega (arith, c.requires)) in
    let b2 = spliced_byte (at + 4) a.c.index b1 (omega arith) (omega (arith, c.requires)) in
    spliced_as (ap (λ f. 0x42 ∷ 0 ∷ 2 ∷ f ∷ a.c.index ∷ []) (flag_is a.c.local)) b2
