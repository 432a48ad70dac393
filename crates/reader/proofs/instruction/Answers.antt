-- Instructions lie side by side (Scanned).
use mathlib.Core.Path.{◌≡◌, ap, ap₂, ◌∙◌}
use Prim.Native.Nat.{ℕ, ◌+◌, ◌*◌, ◌≤◌}
use native.Mathlib.Omega.{arith}
use lib.ListN.{length}
use Rattle.meaning.specs.Fields.{word_at}
use Rattle.meaning.specs.Images.{inst_size}
use Rattle.reader.proofs.Scanned.{inst_size_small, inst_there, inst_room}
use Rattle.reader.proofs.instruction.Goals as goal
use Rattle.reader.proofs.instruction.Goals.{After-word}

-- where the instruction's field stands
place : (c : goal.After-word) → 13 + c.word.result * 5 + c.args.i * (3 + c.inst_size-size.result) ≡ 13 + word_at c.args.part.now 9 * 5 + c.args.i * (3 + inst_size c.args.tag)
place c = ap₂ (λ (w n : ℕ). 13 + w * 5 + c.args.i * (3 + n)) c.word.ensures.0 c.inst_size-size.ensures

room : (c : goal.After-word) → 13 + c.word.result * 5 + c.args.i * (3 + c.inst_size-size.result) + 3 + inst_size c.args.tag ≤ length c.args.part.now
room c = inst_room c.args.part.now c.args.tag c.args.i _ c.requires.1 (place c) c.requires.0

pub inst_at-requires : goal.inst_at-requires
inst_at-requires c = (omega (arith, room c, (inst_size_small c.args.tag).0), λ q. let z : inst_size c.args.tag ≡ 8 = ap inst_size q in omega (arith, room c, z))

pub returns : goal.returns
returns c = c.inst_at.ensures ∙ inst_there c.args.part.now c.args.tag c.args.i _ c.requires.1 (place (goal.at.returns c).After-word)
