-- One name: `iterate_one`. Several: GetIter, then `iterate_each`, forward's line `iterate_many_calls`.
use Prim.Native.Nat.{ℕ, ◌+◌, ◌≤◌}
use mathlib.Core.List.{List, [], ◌∷◌}
use native.Mathlib.Omega.{arith}
use borrow.Author.Rules.{rules}
use lib.ListN.{length}
use Rattle.meaning.specs.declared.Token.{Token}
use Rattle.meaning.specs.Statements.{iterate}
use Rattle.forward.specs.Forward.{Run, fwd_code}
use Rattle.forward.proofs.Calls.{Chain}
use Rattle.forward.proofs.Lines.{iterate_many_calls}
use Rattle.forward.proofs.Chains.{iterate_many_chain}
use Rattle.routines.proofs.PieceLine.{from, ◌▹◌, ends}
use Rattle.routines.proofs.Tokens.{one_token, two_tokens}
use Rattle.routines.proofs.enhanced_for_stmt.iterate.Goals as goal

pub returns-then-n-eq1 : goal.returns-then-n-eq1
returns-then-n-eq1 c = let s = c.args in
    let child = c.child-name.ensures in
    let one = rw child.0 at c.iterate_one.ensures in
    rw (one_token s.scope s.payload.now s.from s.n c.if-n-eq1.true) (one s.node _)

several : (node mark element collection counter : ℕ) (xs : List Token) → 2 ≤ length xs → (r : Run) → Chain (iterate_many_calls node mark element collection counter xs) r (fwd_code (iterate node mark element collection counter xs))
several node mark element collection counter [] h = absurd (omega arith)
several node mark element collection counter (x ∷ []) h = absurd (omega arith)
several node mark element collection counter (x ∷ y ∷ xs) h = iterate_many_chain node mark element collection counter x y xs

pub returns : goal.returns
returns c = let s = c.args in
    let gotten = c.emit-gotten.ensures in
    let last = c.iterate_each.ensures in
    let more : 2 ≤ s.n = omega (arith, c.requires.2, c.if-n-eq1.false) in
    ends _ (from c.requires.0 c.requires.1 ▹ gotten ▹ last) (search rules)
    (λ ps. several s.node s.mark (s.counter + 3) s.collection s.counter _ (two_tokens s.scope s.payload.now s.from s.n more) _ _ (gotten.runs ps) _ (last.runs ps))
