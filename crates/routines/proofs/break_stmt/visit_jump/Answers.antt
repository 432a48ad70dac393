-- The scope shows whether a loop of the function is open.
use native.Mathlib.Omega.{arith}
use lib.Dec.{lit<}
use borrow.Author.Tests.{eq-eqb, ne_eqb}
use Rattle.meaning.specs.declared.Cause.TheVariants.{Stray}
use Rattle.forward.proofs.Chains.{jump_chain}
use Rattle.store.specs.Promise.{uses}
use Rattle.store.proofs.Compose.{loops_told, refused_leaf}
use Rattle.routines.proofs.NodeLine.{one, small_put, small_refused, gives}
use Rattle.routines.proofs.break_stmt.visit_jump.Goals as goal

pub returns-then-scope-eq0 : goal.returns-then-scope-eq0
returns-then-scope-eq0 c = let refuse = c.refuse in
    let if1 = c.if-scope-eq0 in
    let a = c.args in
    let d = refused_leaf a.step Stray a.node (uses 2 0 0) c.requires.0 in
    rw refuse.ensures (gives (uses 2 0 0) (one d) (omega arith) (omega arith) (omega arith) (λ z. omega arith) (omega arith)
    (λ ps. (jump_chain _ _ _ _ _ _ (loops_told _ _ _ ps)).0 (eq-eqb _ 0 if1.true) _ (d.runs ps)) (small_refused a.step Stray a.node))

pub returns : goal.returns
returns c = let put = c.put in
    let if1 = c.if-scope-eq0 in
    let d = put.ensures in
    gives (uses 2 0 0) (one d) (omega arith) (omega arith) (omega arith) (λ z. omega arith) (omega arith)
    (λ ps. (jump_chain _ _ _ _ _ _ (loops_told _ _ _ ps)).1 (ne_eqb _ 0 if1.false) _ (d.runs ps)) (small_put d (lit< tt))
