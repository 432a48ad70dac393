-- Each turn is a name's register and local, and its GetIteri (Loop.antt); where none is left the result is 0. The k-th name has register `count + k`, so k is a byte.
use native.Mathlib.Omega.{arith}
use borrow.Author.Rules.{rules}
use Rattle.forward.proofs.Chains.{iterate_each_end}
use Rattle.routines.proofs.PieceLine.{◌▹◌, settling, ends}
use Rattle.routines.proofs.PairLoops.{no_turn, name_turn, all_turned}
use Rattle.routines.proofs.enhanced_for_stmt.iterate_each.Goals as goal

pub loop-k-init : goal.loop-k-init
loop-k-init c = no_turn c.requires.0 c.requires.1

pub loop-k-preserved : goal.loop-k-preserved
loop-k-preserved c = let s = c.args in
    let inv = c.loop-k.invariant in
    name_turn s.node s.mark s.element _ inv (omega (arith, c.loop-k-test.true)) c.pair-name.ensures.0
    c.declare_parameter-next.ensures.0 c.emit-last.ensures

pub returns : goal.returns
returns c = let s = c.args in
    let inv = c.loop-k.invariant in
    let last = settling {v = 0} inv.line (omega arith) in
    rw c.settle.ensures (ends _ (inv.line ▹ last) (search rules) (λ ps. all_turned inv (omega arith) ps _ (iterate_each_end s.node s.mark s.element _ _ _ (last.runs ps))))
