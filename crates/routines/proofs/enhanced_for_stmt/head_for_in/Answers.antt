-- Refused at entry; else Length, Lt, Test and Jump, then the names: the line `head_calls`, where Lt and its result are one call.
use Prim.Native.Nat.{ℕ, ◌+◌}
use mathlib.Core.Path.{refl}
use mathlib.Core.List.{List}
use native.Mathlib.Omega.{arith}
use borrow.Author.Rules.{rules}
use Rattle.meaning.specs.Opcode.{inst, Length, Lt}
use Rattle.meaning.specs.declared.Token.{Token}
use Rattle.meaning.specs.Statements.{iterate}
use Rattle.forward.specs.Forward.{Run, bind, sure, emit, put, test_and_jump, fwd_code, head_for_in}
use Rattle.forward.proofs.Calls.{Calls, finally, entry, ◌>>◌, Chain, chain}
use Rattle.store.specs.Promise.{uses}
use Rattle.store.specs.Store.{outcome_of}
use Rattle.store.proofs.Runs.{due, leaf_absorbed}
use Rattle.store.proofs.Compose.{known}
use Rattle.routines.proofs.PieceLine.{from, ◌▹◌, room, here, ends}
use Rattle.routines.proofs.Results.{put_keeps}
use Rattle.routines.proofs.enhanced_for_stmt.head_for_in.Goals as goal

abbrev head_calls : ℕ → List Token → (counter mark : ℕ) → Calls
head_calls node names counter mark = entry λ s. do
  sure (emit (inst Length (counter + 1) s.result 0 mark))
  sure (put (counter + 2) (inst Lt (counter + 2) counter (counter + 1) mark))
  sure (test_and_jump 0 mark)
  finally (fwd_code (iterate node mark (counter + 3) s.result counter names))

head_chain : (node : ℕ) (names : List Token) (counter mark : ℕ) (r : Run) → Chain (head_calls node names counter mark) r (head_for_in node names counter mark)
unfolding bind head_for_in
head_chain node names counter mark = chain (head_calls node names counter mark) _ (λ c. refl)

pub returns-in_default : goal.returns-in_default
returns-in_default c = leaf_absorbed (uses 11 1 0) _ c.requires.0 c.in_default.is

pub test_and_jump-tested-requires : goal.test_and_jump-tested-requires
test_and_jump-tested-requires c = let compared = c.put-compared.ensures in
    let line = from c.requires.0 c.requires.1 ▹ c.emit-sized.ensures ▹ compared in (
      line.moves.fine,
      room 4 0 line (search rules),
      here line (λ g. let d = due (outcome_of c.args.step) c.requires.5 (line.moves.back g) in (omega (arith, d.0, (put_keeps _ _ compared g).result), omega arith)),
    )

pub returns : goal.returns
returns c = let s = c.args in
    let sized = c.emit-sized.ensures in
    let compared = c.put-compared.ensures in
    let tested = c.test_and_jump-tested.ensures in
    let last = c.iterate.ensures in
    ends _ (from c.requires.0 c.requires.1 ▹ sized ▹ compared ▹ tested ▹ last) (search rules)
    (λ ps. head_chain s.node _ s.counter s.mark _ _ (known _ _ _ ps) _ (sized.runs ps) _ (compared.runs ps) _ (tested.runs ps) _ (last.runs ps))
