-- A register, and where the context is global its name: forward's lines `declare_calls` and `declare_name_calls`.
use borrow.Author.Rules.{rules}
use mathlib.Core.Path.{sym, ◌∙◌}
use native.Mathlib.Omega.{arith}
use Rattle.forward.proofs.Leaves.{declare_chain}
use Rattle.forward.proofs.Chains.{declare_name_chain}
use Rattle.routines.proofs.PieceLine.{from, ◌▹◌, here, ends, stays_put}
use Rattle.routines.proofs.Context.{alone}
use Rattle.routines.proofs.Results.{global_keeps}
use Rattle.routines.proofs.names.declare.Goals as goal

pub returns-then-is_global_context : goal.returns-then-is_global_context
returns-then-is_global_context c = let s = c.args in
    let register = c.next_register-register.ensures in
    let name = c.add_global.ensures in
    let global = c.is_global_context.ensures in
    let at = alone s.scope (sym global.0 ∙ c.if-is_global_context.true) in
    let line = from c.requires.0 c.requires.1 ▹ register.0 ▹ name in (
      ends _ line (record { words = omega arith; locals = omega arith; names = omega (arith, at.depth, at.block); still = λ z. z; visits = omega arith })
          (λ ps. declare_chain s.node s.token _ _ (register.0.runs ps) _ ((declare_name_chain s.token _ _ _ (global.1 _ _ register.0.moves.fine.sound ps)).0 c.if-is_global_context.true _ (name.runs ps))),
      here line (λ g. omega (arith, register.1, (global_keeps _ name g).result)),
    )

pub returns-else-is_global_context : goal.returns-else-is_global_context
returns-else-is_global_context c = let s = c.args in
    let register = c.next_register-register.ensures in
    let global = c.is_global_context.ensures in
    let line = from c.requires.0 c.requires.1 ▹ register.0 in (
      ends _ line (search rules)
          (λ ps. declare_chain s.node s.token _ _ (register.0.runs ps) _ ((declare_name_chain s.token _ _ _ (global.1 _ _ register.0.moves.fine.sound ps)).1 c.if-is_global_context.false _ (stays_put _))),
      here line (λ g. register.1),
    )
