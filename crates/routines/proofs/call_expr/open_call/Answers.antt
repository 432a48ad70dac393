-- The function's register, its Move, the arguments' registers: forward's line `open_call_calls`. The registers follow one another, so the last argument's is
-- the function's and n, and one more than that is counted at most 255.
use borrow.Author.Rules.{rules}
use native.Mathlib.Omega.{arith}
use Rattle.forward.proofs.Leaves.{open_call_chain}
use Rattle.store.proofs.Compose.{known}
use Rattle.routines.proofs.PieceLine.{from, ◌▹◌, here, settling, ends}
use Rattle.routines.proofs.Results.{emit_keeps, takes, many_taken}
use Rattle.routines.proofs.call_expr.open_call.Goals as goal

pub shape_of-work : goal.shape_of-work
shape_of-work c = let line = from c.requires.0 c.requires.1 ▹ c.next_register-function.ensures.0 ▹ c.emit-moved.ensures ▹ c.next_register-argument.ensures.0 ▹ c.next_registers-others.ensures.0 in
    line.moves.kept.same

pub returns : goal.returns
returns c = let s = c.args in
    let own = c.next_register-function.ensures in
    let move = c.emit-moved.ensures in
    let argument = c.next_register-argument.ensures in
    let others = rw c.saturating_sub.ensures at c.next_registers-others.ensures in
    let line = from c.requires.0 c.requires.1 ▹ own.0 ▹ move ▹ argument.0 ▹ others.0 in
    let last = settling line own.1 in
    rw c.settle.ensures (
      ends _ (line ▹ last) (search rules)
          (λ ps. open_call_chain s.node s.n s.mark _ _ (known _ _ _ ps) _ (own.0.runs ps) _ (known _ _ _ ps) _ (move.runs ps) _ (argument.0.runs ps) _ (others.0.runs ps) _ (last.runs ps)),
      here line (λ g.
          let g3 = others.0.moves.back g in
          let g2 = argument.0.moves.back g3 in
          let f = takes _ own.0 (move.moves.back g2) in
          omega (arith, f.result, f.counted, (emit_keeps _ move g2).counted, (takes _ argument.0 g3).counted, many_taken _ _ others.0 g)),
    )
