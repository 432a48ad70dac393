-- The function is left, then Closure: forward's line `end_function_calls` (Ended.antt).
use native.Mathlib.Omega.{arith}
use borrow.Author.Rules.{rules}
use Rattle.forward.proofs.Leaves.{end_function_chain}
use Rattle.store.specs.Promise.{uses}
use Rattle.store.specs.Store.{outcome_of}
use Rattle.store.proofs.Runs.{due}
use Rattle.routines.proofs.PieceLine.{room_owing}
use Rattle.routines.proofs.Results.{closure_keeps}
use Rattle.routines.proofs.Ended.{leaves_then, leaves_within, owes_then, there, spare_words}
use Rattle.routines.proofs.function_expr.end_function.Goals as goal

pub closure-requires : goal.closure-requires
closure-requires c = let left = c.leave_function-left.ensures.0.leaves in
    let owing = owes_then left 2 0 0 (room_owing 0 c.requires.2) (search rules) in
    (left.fine, there left (λ g. (spare_words left.fine owing g, omega (arith, (due (outcome_of c.args.step) c.requires.3 (left.back g)).1))))

pub returns : goal.returns
returns c = let s = c.args in
    let left = c.leave_function-left.ensures.0 in
    let made = c.closure.ensures in
    let leaves = leaves_then left.leaves made in (
      record {
        leaves = leaves_within leaves (uses 2 0 0) (search rules);
        same = left.same;
        does = λ ps i.
            let a = left.does ps i in
            record {
              protos = a.protos;
              image = made.image _ a.protos a.image;
              runs = end_function_chain s.first s.node s.params s.register s.mark _ _ a.runs _ (made.runs a.protos);
            };
      },
      there leaves (λ g. omega (arith, (closure_keeps s.register s.mark made g).result, (due (outcome_of s.step) c.requires.3 (leaves.back g)).1)),
    )
