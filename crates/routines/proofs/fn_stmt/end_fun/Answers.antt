-- The function is left, then Closure, then its name: forward's line `end_fun_calls` (Ended.antt).
use Prim.Native.Nat.{◌+◌, ◌-◌}
use native.Mathlib.Omega.{arith}
use borrow.Author.Rules.{rules}
use Rattle.forward.proofs.Leaves.{end_fun_chain}
use Rattle.store.specs.Promise.{uses, both}
use Rattle.store.specs.Store.{depth_of, block_of, outcome_of}
use Rattle.store.proofs.Runs.{due}
use Rattle.routines.specs.Pieces.{a_name_back}
use Rattle.routines.proofs.Results.{closure_keeps}
use Rattle.routines.proofs.Ended.{leaves_then, leaves_within, owes_then, there, spare_words}
use Rattle.routines.proofs.fn_stmt.end_fun.Goals as goal

pub closure-made-requires : goal.closure-made-requires
closure-made-requires c = let left = c.leave_function-left.ensures.0.leaves in
    let owing = owes_then left 4 1 (2 - (depth_of c.args.scope + block_of c.args.scope)) c.requires.2 (search rules) in
    (left.fine, there left (λ g. (omega (arith, spare_words left.fine owing g), omega (arith, (due (outcome_of c.args.step) c.requires.3 (left.back g)).1))))

pub name_result-requires : goal.name_result-requires
name_result-requires c = let s = c.args in
    let made = c.closure-made.ensures in
    let leaves = leaves_then c.leave_function-left.ensures.0.leaves made in (
      leaves.fine,
      owes_then leaves 2 1 _ c.requires.2 (search rules),
      there leaves (λ g. omega (arith, (closure_keeps s.register s.token.mark made g).result, (due (outcome_of s.step) c.requires.3 (leaves.back g)).1)),
      c.requires.5,
    )

pub returns : goal.returns
returns c = let s = c.args in
    let left = c.leave_function-left.ensures.0 in
    let made = c.closure-made.ensures in
    let named = c.name_result.ensures in (
      record {
        leaves = leaves_within (leaves_then (leaves_then left.leaves made) named.0) (both (uses 4 1 0) (a_name_back s.scope)) (search rules);
        same = left.same;
        does = λ ps i.
            let a = left.does ps i in
            record {
              protos = a.protos;
              image = named.0.image _ a.protos (made.image _ a.protos a.image);
              runs = end_fun_chain s.first s.node s.token s.params s.register _ _ a.runs _ (made.runs a.protos) _ (named.0.runs a.protos);
            };
      },
      named.1,
    )
