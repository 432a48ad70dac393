-- The tests of the code are those of `start_of`; `start_row` and `start_is` say what the tables hold.
use mathlib.Core.Path.{refl, sym, ◌∙◌}
use mathlib.Core.Bool.{true, false}
use native.Mathlib.Omega.{arith}
use Rattle.tree.specs.Rows.{start_of}
use Rattle.tree.proofs.Table.{start_tag, start_none}
use Rattle.tree.proofs.Forms.{start_row, start_is, plain_right}
use Rattle.tree.proofs.starts.start_of.Goals as goal

pub returns-then-is_program : goal.returns-then-is_program
unfolding start_of
returns-then-is_program c = (rw (c.if-last.true, sym c.is_program.ensures ∙ c.if-is_program.true) refl, plain_right 77 (omega arith))

pub returns-else-is_program : goal.returns-else-is_program
unfolding start_of
returns-else-is_program c = (rw (c.if-last.true, sym c.is_program.ensures ∙ c.if-is_program.false) refl, plain_right 0 (omega arith))

pub returns-then-tag-ge30 : goal.returns-then-tag-ge30
returns-then-tag-ge30 c = (rw c.if-last.false (start_none _ _ c.if-tag-ge30.true), plain_right 0 (omega arith))

pub returns-then-wide : goal.returns-then-wide
returns-then-wide c = rw (c.if-last.false, c.if-wide.true, c.from.ensures) (start_row true _ c.if-tag-ge30.false ∙ start_tag true _ c.if-tag-ge30.false, start_is true _ c.if-tag-ge30.false)

pub returns-else-wide : goal.returns-else-wide
returns-else-wide c = rw (c.if-last.false, c.if-wide.false, c.from-else-wide.ensures) (start_row false _ c.if-tag-ge30.false ∙ start_tag false _ c.if-tag-ge30.false, start_is false _ c.if-tag-ge30.false)
