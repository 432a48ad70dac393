-- Refused at entry; else the class's register is the result, and gets its name: forward's line `end_class_calls`.
use borrow.Author.Rules.{rules}
use Rattle.forward.proofs.Leaves.{end_class_chain}
use Rattle.store.specs.Promise.{uses}
use Rattle.store.specs.Store.{outcome_of}
use Rattle.store.proofs.Runs.{due, goes, none_due, leaf_absorbed}
use Rattle.routines.proofs.PieceLine.{from, ◌▹◌, settling, ends}
use Rattle.routines.proofs.class_stmt.end_class.Goals as goal

pub returns-in_default : goal.returns-in_default
returns-in_default c = let told = c.in_default.is in
    (leaf_absorbed (uses 2 1 0) _ c.requires.0 told, none_due _ told)

pub returns : goal.returns
returns c = let s = c.args in
    let line = from c.requires.0 c.requires.1 in
    let class = settling line (due (outcome_of s.step) c.requires.3 (goes c.in-Ok.is)) in
    let last = rw c.settle-made.ensures at c.name_result.ensures in
    (ends _ (line ▹ class ▹ last.0) (search rules) (λ ps. end_class_chain s.node s.token s.class _ _ (class.runs ps) _ (last.0.runs ps)), last.1)
