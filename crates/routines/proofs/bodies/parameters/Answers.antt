-- Each turn is a parameter (Loop.antt); where none is left the result is 0.
use native.Mathlib.Omega.{arith}
use borrow.Author.Rules.{rules}
use Rattle.forward.proofs.Chains.{parameter_end}
use Rattle.routines.proofs.PieceLine.{◌▹◌, settling, ends}
use Rattle.routines.proofs.Tokens.{pair_there}
use Rattle.routines.proofs.PairLoops.{no_turn, parameter_turn, all_turned}
use Rattle.routines.proofs.bodies.parameters.Goals as goal

pub loop-k-init : goal.loop-k-init
loop-k-init c = no_turn c.requires.0 c.requires.1

-- the width is the scope's
pub pair-name-requires : goal.pair-name-requires
pair-name-requires c = rw c.requires.3 (pair_there _ c.requires.2 (omega (arith, c.loop-k-test.true)), c.requires.2.width)

pub loop-k-preserved : goal.loop-k-preserved
loop-k-preserved c = let loop = c.loop-k in
    parameter_turn c.args.node _ loop.invariant (omega arith) (rw c.requires.3 at c.pair-name.ensures.0) c.declare_parameter-last.ensures.0

pub returns : goal.returns
returns c = let s = c.args in
    let inv = c.loop-k.invariant in
    let last = settling {v = 0} inv.line (omega arith) in
    rw c.settle.ensures (ends _ (inv.line ▹ last) (search rules) (λ ps. all_turned inv (omega arith) ps _ (parameter_end s.node _ _ (last.runs ps))), omega arith)
