-- The field's tag and length, then the eight bytes of the bits.
use mathlib.Core.Path.{◌∙◌}
use Prim.Native.Nat.{◌+◌, ◌-◌}
use native.Mathlib.Omega.{arith}
use Rattle.writers.proofs.Splicing.{spliced_then, spliced_part, spliced_length}
use Rattle.writers.proofs.Bytes.{eight_bytes}
use Rattle.writers.proofs.put_number.Goals as goal

pub returns : goal.returns
returns c = let a = c.args in
    let bits = spliced_part c.put_field.new.out (a.at + 3) (a.at + 11 - (a.at + 3)) (c.copy_from_slice.ensures.after ∙ c.to_be_bytes.ensures ∙ eight_bytes a.bits) (omega arith) (omega (arith, c.requires, spliced_length c.put_field.ensures)) in
    spliced_then c.put_field.ensures bits (omega arith)
