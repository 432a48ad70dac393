-- `code::patches::patch_first` meets its contract: no jump to the end is passed over, and the first one is set. Assumes nothing.
use mathlib.Core.Path.{◌≡◌, sym, ◌∙◌}
use native.Mathlib.Omega.{arith}
use Rattle.store.specs.Store.{top_of}
use Rattle.code.proofs.Scans.{first_none, first_found}
use Rattle.code.proofs.Turning.{end_is, turns_first}
use Rattle.code.proofs.patches.patch_first.Goals as goal

pub returns-then-word_at-eq-JMP : goal.returns-then-word_at-eq-JMP
returns-then-word_at-eq-JMP c = let turn = c.loop-i in
    let a = c.args in
    let w = a.work.now in
    let v = turn.invariant in
    let x = rw v.0 at (sym c.word_at.ensures ∙ c.if-word_at-eq-JMP.true) in
    rw (c.set_word.ensures, v.0)
    (first_found w (top_of a.scope) a.first a.offset a.end turn.i (omega (arith, turn.auto)) (omega (arith, turn.auto, c.loop-i-test.true)) c.requires.1 c.requires.0 v.1 (end_is _ x) (turns_first a.offset x c.pack_bx.ensures))

pub returns : goal.returns
returns c = let a = c.args in
    let v = c.loop-i.invariant in
    let e : c.loop-i.i ≡ a.end = omega (arith, c.loop-i.auto, c.loop-i-test.false) in
    rw v.0 (first_none a.work.now (top_of a.scope) a.first a.offset a.end c.requires.2 (rw e at v.1))
