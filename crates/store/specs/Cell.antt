-- The pending instruction's cell: what the functions of src/cell.rt promise. Where it stands and what it holds is in Layout.
use Rattle.std.specs.Prelude.{◌≡◌, ℕ, ◌<◌, List, slice_set}
use Rattle.store.specs.Layout.{cell, mark_cell, unpacked}
use Rattle.meaning.specs.declared.Instruction.{Instruction}

-- operands that fit their bytes
pub record Bytes (op a b c : ℕ) : Type 0 where
  pub op_small : op < 256
  pub a_small : a < 256
  pub b_small : b < 256
  pub c_small : c < 256

-- the word x with any mark is that instruction
pub record Packs (x : ℕ) (i : ℕ → Instruction) : Type 0 where
  pub is : (mark : ℕ) → unpacked x mark ≡ i mark

-- instruction i set anew, by its packed word and its mark
abbrev pub with_inst : List ℕ → (top i word mark : ℕ) → List ℕ
with_inst w top i word mark = slice_set (slice_set w (cell top i) word) (mark_cell top i) mark

-- instruction i is written, and nothing else changed
pub record Wrote (w : List ℕ) (top i word mark : ℕ) (w' : List ℕ) : Type 0 where
  pub is : w' ≡ with_inst w top i word mark
