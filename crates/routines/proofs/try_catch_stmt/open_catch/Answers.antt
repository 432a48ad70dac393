-- A register with its local, then two instructions: forward's line `open_catch_calls`.
use borrow.Author.Rules.{rules}
use Rattle.store.proofs.Compose.{known}
use Rattle.routines.proofs.PieceLine.{from, ◌▹◌, room, here, ends}
use Rattle.routines.proofs.Named.{open_catch_chain}
use Rattle.routines.proofs.try_catch_stmt.open_catch.Goals as goal

pub emit-requires : goal.emit-requires
emit-requires c = let line = from c.requires.0 c.requires.1 ▹ c.declare_parameter-caught.ensures.0 ▹ c.emit-gotten.ensures in
    (line.moves.fine, room 2 0 line (search rules), here line (λ g. search rules))

pub returns : goal.returns
returns c = let s = c.args in
    let register = c.declare_parameter-caught.ensures.0 in
    let except = c.emit-gotten.ensures in
    let last = c.emit.ensures in
    ends _ (from c.requires.0 c.requires.1 ▹ register ▹ except ▹ last) (search rules)
    (λ ps. open_catch_chain s.node s.token _ _ (register.runs ps) _ (known _ _ _ ps) _ (except.runs ps) _ (last.runs ps))
