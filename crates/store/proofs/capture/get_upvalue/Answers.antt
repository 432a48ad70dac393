-- Refused at entry; what the search gives (Upvalues.antt); no room for a capture.
use Rattle.store.proofs.Refusals.{shallow}
use Rattle.store.proofs.Searching.{ready_of}
use Rattle.store.proofs.Upvalues.{upvalue_absorbed, upvalue_told, upvalue_none}
use Rattle.store.proofs.capture.get_upvalue.Goals as goal

pub returns-in_default : goal.returns-in_default
returns-in_default c = (upvalue_absorbed c.args.node c.args.name c.requires c.in_default.is, tt)

pub search-requires : goal.search-requires
search-requires c = ready_of c.requires.sound (shallow c.args.step c.requires c.in-Ok.is)

pub returns-in-Ok-search : goal.returns-in-Ok-search
returns-in-Ok-search c = let a = c.args in
    let deep = shallow a.step c.requires c.in-Ok.is in
    (upvalue_told a.work.now _ a.scope a.step c.requires deep a.name c.search.result c.search.ensures a.node _ c.in-Ok.is _ c.in-Ok-search.is, rw c.in-Ok-search.is at c.search.ensures.small)

pub returns-in-Err : goal.returns-in-Err
returns-in-Err c = let a = c.args in
    let deep = shallow a.step c.requires c.in-Ok.is in
    rw c.refuse.ensures
    (upvalue_none a.work.now _ a.scope a.step c.requires deep a.name c.search.result c.search.ensures a.node _ _ c.in-Ok.is c.in-Err.is, tt)
