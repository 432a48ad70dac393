-- Where the context is global the name's constant and SetGlobal, else a local: forward's line `name_result_calls`.
use mathlib.Core.Path.{sym, ◌∙◌}
use native.Mathlib.Omega.{arith}
use Rattle.forward.proofs.Leaves.{name_result_chain}
use Rattle.store.proofs.Runs.{due}
use Rattle.store.proofs.Compose.{known}
use Rattle.routines.proofs.PieceLine.{owing_from, ◌▹◌, here, ends}
use Rattle.routines.proofs.Context.{alone, not_alone}
use Rattle.routines.proofs.Results.{put_keeps}
use Rattle.store.specs.Store.{outcome_of}
use Rattle.routines.proofs.names.name_result.Goals as goal

pub returns-then-is_global_context : goal.returns-then-is_global_context
returns-then-is_global_context c = let s = c.args in
    let global = c.is_global_context.ensures in
    let at = alone s.scope (sym global.0 ∙ c.if-is_global_context.true) in
    let constant = c.add_name-k.ensures in
    let last = c.put_bx.ensures in
    let line = owing_from c.requires.0 c.requires.1 ▹ constant ▹ last in (
      ends _ line (record { words = omega arith; locals = omega arith; names = omega (arith, at.depth, at.block); still = λ z. omega (arith, z); visits = omega arith })
          (λ ps. (name_result_chain s.node s.token _ _ (known _ _ _ ps) _ _ (global.1 _ _ c.requires.0.sound ps)).0 c.if-is_global_context.true _ (constant.runs ps) _ (known _ _ _ ps) _ (last.runs ps)),
      here line (λ g. omega (arith, due (outcome_of s.step) c.requires.2 (line.moves.back g), (put_keeps _ _ last g).result)),
    )

pub returns-else-is_global_context : goal.returns-else-is_global_context
returns-else-is_global_context c = let s = c.args in
    let global = c.is_global_context.ensures in
    let apart = not_alone s.scope c.requires.0.sound (sym global.0 ∙ c.if-is_global_context.false) in
    let last = c.allocate_register.ensures in
    let line = owing_from c.requires.0 c.requires.1 ▹ last in (
      ends _ line (record { words = omega arith; locals = omega arith; names = omega (arith, apart); still = λ z. omega (arith, z); visits = omega arith })
          (λ ps. (name_result_chain s.node s.token _ _ (known _ _ _ ps) _ _ (global.1 _ _ c.requires.0.sound ps)).1 c.if-is_global_context.false _ (last.runs ps)),
      c.requires.2,
    )
