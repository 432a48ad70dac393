-- Refused by the check, or lowered.
use mathlib.Core.Path.{sym, ap, ◌∙◌}
use lib.ListN.{length}
use Rattle.meaning.specs.Check.{checked}
use Rattle.std.proofs.lemmas.Result.{err_from_is_err_and}
use Rattle.lower.proofs.Start.{check_offsets}
use Rattle.lower.proofs.Whole.{not_begun}
use Rattle.lower.proofs.lowered.Goals as goal

pub returns-in_err-n : goal.returns-in_err-n
returns-in_err-n c = let check-in = c.check_in in
    let p = err_from_is_err_and c.from_residual.result c.from_residual.ensures.1 in
    let a = c.args in
    rw (p.1, p.2) (rw (← c.in_err-n.was) (not_begun a.mode a.tree.now a.out.now (length a.work.now) (length a.out.now) check-in.result check-in.ensures.outcome c.in_err-n.was), tt)

pub lower_checked-requires : goal.lower_checked-requires
lower_checked-requires c = let check-in = c.check_in in
    let a = c.args in
    let taken = sym check-in.ensures.outcome ∙ c.in_ok-n.was in
    (ap (checked a.mode a.tree.now) check-in.auto.scratch ∙ taken, check_offsets a.mode a.tree.now a.work.now _ taken _ check-in.ensures.scratch check-in.auto.scratch)
