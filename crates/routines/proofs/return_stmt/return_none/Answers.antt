-- Return 0 0 0 with the statement's mark.
use native.Mathlib.Omega.{arith}
use lib.Dec.{lit<}
use Rattle.meaning.specs.Fields.{fields}
use Rattle.meaning.specs.Lower.{lower_stmt}
use Rattle.meaning.proofs.Reading.{return_node}
use Rattle.forward.proofs.Chains.{return_none_chain}
use Rattle.store.specs.Promise.{uses}
use Rattle.routines.proofs.Held.{inside}
use Rattle.routines.proofs.NodeLine.{one, small_put, gives}
use Rattle.routines.proofs.return_stmt.return_none.Goals as goal

pub returns : goal.returns
unfolding lower_stmt
returns c = let put = c.put in
    let return_of = c.return_of-x in
    let given = c.requires.0 in
    let held = return_node (fields c.args.tree.now) given.lawful.shapes c.args.node (inside given.lawful given.known) c.requires.1 in
    let d = put.ensures in
    gives (uses 8 1 0) (one d) (omega arith) (omega arith) (omega arith) (λ z. omega arith) (omega arith)
    (λ ps. rw (held.is_none c.requires.2) (rw return_of.ensures at (return_none_chain _ _ _ (d.runs ps)))) (small_put d (lit< tt))
