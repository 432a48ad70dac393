-- A register, then the parameters: forward's line `open_function_calls`.
use borrow.Author.Rules.{rules}
use Rattle.forward.proofs.Leaves.{open_function_chain}
use Rattle.routines.proofs.PieceLine.{from, ◌▹◌, here, ends}
use Rattle.routines.proofs.function_expr.open_function.Goals as goal

pub returns : goal.returns
returns c = let s = c.args in
    let own = c.next_register-own.ensures.0 in
    let last = c.parameters.ensures in
    let line = from c.requires.0 c.requires.1 ▹ own ▹ last.0 in
    (ends _ line (search rules) (λ ps. open_function_chain s.node _ _ _ (own.runs ps) _ (last.0.runs ps)), here line (λ g. last.1))
