-- Constant by constant: the end is the start and the bytes of those passed, eleven each at most.
use mathlib.Core.Path.{ap}
use mathlib.Core.List.{[], ◌∷◌}
use native.Mathlib.Omega.{arith}
use lib.ListN.{length}
use Rattle.store.specs.Layout.{constant_at}
use Rattle.store.proofs.Tables.{tab_none}
use Rattle.meaning.specs.Image.{constant_bytes}
use Rattle.image.proofs.ConstantBytes.{more_length}
use Rattle.image.proofs.constants.constants_end.Goals as goal

pub loop-i-init : goal.loop-i-init
loop-i-init c = let a = c.args in
    (omega (arith, ap (λ l. length (constant_bytes l)) (tab_none (constant_at a.work.now))), omega arith)

pub loop-i-preserved : goal.loop-i-preserved
loop-i-preserved c = let loop = c.loop-i in
    let w = c.args.work.now in
    let size = ap (λ k. length (constant_bytes (k ∷ []))) c.constant_at.ensures in
    (omega (arith, loop.invariant, more_length (constant_at w) loop.i, c.size-end.ensures.0, size), omega (arith, loop.invariant, c.size-end.ensures.1))
