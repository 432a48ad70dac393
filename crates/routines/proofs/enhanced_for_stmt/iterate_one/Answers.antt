-- The name's local and GetIterk: forward's line `iterate_one_calls`.
use Prim.Native.Nat.{◌+◌}
use borrow.Author.Rules.{rules}
use Rattle.meaning.specs.Read.{token}
use Rattle.forward.proofs.Chains.{iterate_one_chain}
use Rattle.routines.proofs.PieceLine.{from, ◌▹◌, ends}
use Rattle.routines.proofs.enhanced_for_stmt.iterate_one.Goals as goal

pub returns : goal.returns
returns c = let s = c.args in
    let local = c.allocate_register.ensures in
    let last = c.put.ensures in
    λ node place. ends _ (from c.requires.0 c.requires.1 ▹ local ▹ last) (search rules) (λ ps. iterate_one_chain node s.mark (s.counter + 3) s.collection s.counter (token s.name place) _ _ (local.runs ps) _ (last.runs ps))
