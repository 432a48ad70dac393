-- Refused at entry; else a register and an instruction: forward's line `end_call_calls`.
use borrow.Author.Rules.{rules}
use native.Mathlib.Omega.{arith}
use Rattle.forward.proofs.Leaves.{end_call_chain}
use Rattle.store.specs.Promise.{uses, a_register, both}
use Rattle.store.proofs.Runs.{none_due, leaf_absorbed}
use Rattle.store.proofs.Compose.{known}
use Rattle.routines.proofs.PieceLine.{from, ◌▹◌, here, ends}
use Rattle.routines.proofs.Results.{emit_keeps}
use Rattle.routines.proofs.call_expr.end_call.Goals as goal

pub returns-in_default : goal.returns-in_default
returns-in_default c = let told = c.in_default.is in
    (leaf_absorbed (both a_register (uses 2 0 0)) _ c.requires.0 told, none_due _ told)

pub returns : goal.returns
returns c = let s = c.args in
    let register = c.next_register-result.ensures in
    let last = c.emit.ensures in
    let line = from c.requires.0 c.requires.1 ▹ register.0 ▹ last in (
      ends _ line (search rules) (λ ps. end_call_chain s.node s.n s.function s.mark _ _ (register.0.runs ps) _ (known _ _ _ ps) _ (last.runs ps)),
      here line (λ g. omega (arith, (emit_keeps _ last g).result, register.1)),
    )
