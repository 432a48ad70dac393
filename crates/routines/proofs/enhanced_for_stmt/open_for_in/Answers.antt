-- Four registers, the constant 0 and its LoadK: forward's line `open_for_in_calls`. The registers follow one another.
use borrow.Author.Rules.{rules}
use native.Mathlib.Omega.{arith}
use lib.Ieee.{to_bits, of_bits}
use Rattle.forward.proofs.Leaves.{open_for_in_chain}
use Rattle.store.proofs.Compose.{known}
use Rattle.routines.proofs.PieceLine.{from, ◌▹◌, here, ends}
use Rattle.routines.proofs.Results.{put_keeps, takes}
use Rattle.routines.proofs.enhanced_for_stmt.open_for_in.Goals as goal

pub shape_of-work : goal.shape_of-work
shape_of-work c = let line = from c.requires.0 c.requires.1 ▹ c.next_register-counter.ensures.0 ▹ c.next_register-size.ensures.0 ▹ c.next_register-condition.ensures.0 ▹ c.next_register-element.ensures.0 ▹ c.add_constant-zero.ensures ▹ c.put_bx.ensures in
    line.moves.kept.same

pub returns : goal.returns
unfolding to_bits of_bits
returns c = let s = c.args in
    let counter = c.next_register-counter.ensures.0 in
    let size = c.next_register-size.ensures.0 in
    let condition = c.next_register-condition.ensures.0 in
    let element = c.next_register-element.ensures.0 in
    let constant = c.add_constant-zero.ensures in
    let last = c.put_bx.ensures in
    let line = from c.requires.0 c.requires.1 ▹ counter ▹ size ▹ condition ▹ element ▹ constant ▹ last in (
      ends _ line (search rules)
          (λ ps. open_for_in_chain s.node s.mark _ _ (counter.runs ps) _ (known _ _ _ ps) _ (size.runs ps) _ (condition.runs ps) _ (element.runs ps) _ (constant.runs ps) _ (known _ _ _ ps) _ (last.runs ps)),
      here line (λ g.
          let g5 = last.moves.back g in
          let g4 = constant.moves.back g5 in
          let g3 = element.moves.back g4 in
          let g2 = condition.moves.back g3 in
          let f = takes _ counter (size.moves.back g2) in
          omega (arith, f.result, f.counted, (takes _ size g2).counted, (takes _ condition g3).counted, (takes _ element g4).counted, (put_keeps _ _ last g).result)),
    )
