-- `routines::return_stmt::end_return` meets its contract: refused at register 254, else Return is written behind the others. Assumes nothing.
use borrow.Author.Tests.{eq-eqb, ne_eqb}
use Rattle.store.specs.Promise.{uses}
use Rattle.store.specs.Store.{result_of}
use Rattle.store.proofs.Runs.{leaf_absorbed}
use Rattle.meaning.specs.declared.Cause.TheVariants.{Returned}
use Rattle.forward.specs.Forward.{pick, end_return}
use Rattle.code.proofs.Coded.{leaf_as, refusing}
use Rattle.routines.proofs.return_stmt.end_return.Goals as goal

pub returns-in_default : goal.returns-in_default
returns-in_default c = leaf_absorbed (uses 2 0 0) _ c.requires.0 c.in_default.is

pub returns-then-result-eq254 : goal.returns-then-result-eq254
unfolding end_return pick
returns-then-result-eq254 c = let a = c.args in
    rw c.refuse.ensures (refusing (uses 2 0 0) _ Returned a.node c.requires.0 c.in-Ok.is (λ t. rw (eq-eqb (result_of a.step) 254 c.if-result-eq254.true)))

pub returns : goal.returns
unfolding end_return pick
returns c = leaf_as _ _ (λ t. rw (ne_eqb (result_of c.args.step) 254 c.if-result-eq254.false)) c.put.ensures
