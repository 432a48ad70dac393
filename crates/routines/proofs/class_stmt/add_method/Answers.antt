-- The method's name, then two instructions: forward's line `add_method_calls`.
use borrow.Author.Rules.{rules}
use Rattle.forward.proofs.Leaves.{add_method_chain}
use Rattle.store.proofs.Compose.{known}
use Rattle.routines.proofs.PieceLine.{from, ◌▹◌, room, given, ends}
use Rattle.routines.proofs.class_stmt.add_method.Goals as goal

pub emit-requires : goal.emit-requires
emit-requires c = let line = from c.requires.0 c.requires.1 ▹ c.add_name-k.ensures ▹ c.emit_bx-loaded.ensures in
    (line.moves.fine, room 2 0 line (search rules), given line c.requires.3 (λ d. search rules))

pub returns : goal.returns
returns c = let s = c.args in
    let name = c.add_name-k.ensures in
    let load = c.emit_bx-loaded.ensures in
    let last = c.emit.ensures in
    ends _ (from c.requires.0 c.requires.1 ▹ name ▹ load ▹ last) (search rules)
    (λ ps. add_method_chain s.node s.mark s.op s.class s.tmp s.name _ _ (known _ _ _ ps) _ (name.runs ps) _ (known _ _ _ ps) _ (load.runs ps) _ (last.runs ps))
