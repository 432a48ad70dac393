-- A name that is known is refused; else it is noted and its constant stored: forward's line `new_global_calls`.
use borrow.Author.Rules.{rules}
use Rattle.meaning.specs.declared.Cause.TheVariants.{Redefined}
use Rattle.forward.proofs.Chains.{new_global_chain}
use Rattle.store.specs.Promise.{nothing}
use Rattle.store.proofs.Compose.{refused_leaf}
use Rattle.routines.proofs.PieceLine.{from, ◌▹◌, ends}
use Rattle.routines.proofs.let_stmt.new_global.Goals as goal

pub returns-then-is_global_var : goal.returns-then-is_global_var
returns-then-is_global_var c = let s = c.args in
    let told = c.is_global_var.ensures.1 in
    let last = refused_leaf s.step Redefined s.node nothing c.requires.0 in
    rw c.refuse.ensures
    (ends _ (from c.requires.0 c.requires.1 ▹ last) (search rules) (λ ps. (new_global_chain s.node s.token _ _ _ (told ps)).0 c.if-is_global_var.true _ (last.runs ps)))

pub returns : goal.returns
returns c = let s = c.args in
    let told = c.is_global_var.ensures.1 in
    let name = c.add_global-noted.ensures in
    let last = c.add_name.ensures in
    ends _ (from c.requires.0 c.requires.1 ▹ name ▹ last) (search rules) (λ ps. (new_global_chain s.node s.token _ _ _ (told ps)).1 c.if-is_global_var.false _ (name.runs ps) _ (last.runs ps))
