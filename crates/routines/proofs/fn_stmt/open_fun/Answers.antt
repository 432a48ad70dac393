-- The function's own register and local, the parameters, GetCurrentFunc: forward's line `open_fun_calls`.
use borrow.Author.Rules.{rules}
use native.Mathlib.Omega.{arith}
use Rattle.store.proofs.Compose.{known}
use Rattle.routines.proofs.PieceLine.{from, ◌▹◌, here, ends}
use Rattle.routines.proofs.Named.{open_fun_chain}
use Rattle.routines.proofs.Results.{emit_keeps}
use Rattle.routines.proofs.fn_stmt.open_fun.Goals as goal

pub returns : goal.returns
returns c = let s = c.args in
    let own = c.declare_parameter-own.ensures.0 in
    let params = c.parameters-last.ensures in
    let last = c.emit.ensures in
    let line = from c.requires.0 c.requires.1 ▹ own ▹ params.0 ▹ last in (
      ends _ line (search rules) (λ ps. open_fun_chain s.node s.token _ _ _ (own.runs ps) _ (known _ _ _ ps) _ (params.0.runs ps) _ (last.runs ps)),
      here line (λ g. omega (arith, params.1, (emit_keeps _ last g).result)),
    )
