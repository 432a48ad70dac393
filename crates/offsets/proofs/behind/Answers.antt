-- `offsets::behind`: the law of the offset, at the instruction that the promises of `backward` and `jump` give.
use mathlib.Core.Path.{◌∙◌, ap}
use native.Mathlib.Omega.{arith}
use mir.Syntax.{w16}
use mir.Facts.{to_z-of_z}
use Rattle.meaning.specs.Opcode.{Jmp, no_mark, inst}
use Rattle.instruction.specs.Offset.{sbx}
use Rattle.instruction.specs.declared.Halves.{Halves}
use Rattle.instruction.proofs.Offsets.{read_backward}
use Rattle.offsets.proofs.behind.Goals as goal

pub returns : goal.returns
returns c = let e = c.jump.ensures ∙ ap (λ (h : Halves). inst Jmp 0 h.b h.c no_mark) c.backward.ensures in
    to_z-of_z {w = w16} (record { sfits = c.sbx.type_inv }) ∙ c.sbx.ensures ∙ ap sbx e ∙ read_backward Jmp 0 no_mark c.args.n (omega arith)
