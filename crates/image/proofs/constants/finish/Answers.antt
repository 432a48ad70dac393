-- Refused before, no room, or the constants are written after the prototypes.
use native.Mathlib.Omega.{arith}
use Rattle.std.proofs.lemmas.Result.{err_from_is_err_and}
use Rattle.image.proofs.Finishing.{ends_refused, ends_full, ends_whole}
use Rattle.image.proofs.constants.finish.Goals as goal

pub returns-in_err-written : goal.returns-in_err-written
returns-in_err-written c = let p = err_from_is_err_and c.from_residual.result c.from_residual.ensures.1 in
    let a = c.args in
    rw (p.1, p.2, ← c.in_err-written.was) (ends_refused a.work.now a.out.now a.step a.last c.in_err-written.was)

pub returns-then-out-end : goal.returns-then-out-end
returns-then-out-end c = let constants-end = c.constants_end-end in
    let if1 = c.if-out-end in
    let a = c.args in
    ends_full a.work.now a.out.now a.step a.last c.in_ok-written.was (omega (arith, constants-end.ensures, if1.true))

pub returns : goal.returns
returns c = let constants-end = c.constants_end-end in
    let put-constants = c.put_constants in
    let a = c.args in
    ends_whole a.work.now a.out.now a.step a.last c.in_ok-written.was constants-end.ensures put-constants.ensures
