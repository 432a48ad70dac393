-- `code::patches::patch_each` meets its contract: the instructions before i are turned, the others are as they were. Assumes nothing.
use Rattle.store.specs.Store.{top_of}
use Rattle.code.specs.Words.{TurnsEach}
use Rattle.code.proofs.patches.patch_each.Given as goal

abbrev pub invariant-loop-i : goal.invariant-loop-i
invariant-loop-i g l = TurnsEach (λ x i y. goal.F-post g l.turn x i y) l.initial.work (top_of l.scope) l.first l.i l.work
