-- The field's tag and length, the four bytes, then the mark: of four bytes with 47, else of two.
use mathlib.Core.Path.{◌∙◌}
use Prim.Native.Nat.{◌+◌, ◌-◌}
use native.Mathlib.Omega.{arith}
use Rattle.writers.proofs.Splicing.{spliced_then, spliced_as, spliced_part, spliced_length}
use Rattle.writers.proofs.Bytes.{four_bytes, wide_bytes, narrow_bytes, wide_size}
use Rattle.writers.proofs.put_inst.Goals as goal

pub returns-then-tag-eq71 : goal.returns-then-tag-eq71
returns-then-tag-eq71 c = let a = c.args in
    let front = spliced_then c.put_field.ensures c.put_operands.ensures (omega arith) in
    let size = wide_size _ c.if-tag-eq71.true in
    let mark = spliced_part c.put_operands.new.out (a.at + 7) (a.at + 11 - (a.at + 7)) (c.copy_from_slice.ensures.after ∙ c.to_be_bytes.ensures ∙ four_bytes a.x.mark) (omega arith) (omega (arith, c.requires, size, spliced_length front)) in
    spliced_as (wide_bytes _ _ c.if-tag-eq71.true) (spliced_then front mark (omega arith))

pub returns : goal.returns
returns c = spliced_as (narrow_bytes _ _ c.if-tag-eq71.false) (spliced_then (spliced_then c.put_field-2.ensures c.put_operands-2.ensures (omega arith)) c.put_word.ensures (omega arith))
