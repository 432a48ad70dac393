-- The loop passes captures that are not equal (Captures.antt): an equal one is found, or there are 255, or one is added at the end.
use Rattle.std.proofs.Common.{◌≡◌, sym, ◌∙◌, arith}
use Rattle.store.specs.Layout.{held}
use Rattle.store.proofs.Captures.{add_old, add_full, add_new}
use Rattle.store.proofs.capture.add_upvalue.Goals as goal

pub returns-then-capture_word-capture : goal.returns-then-capture_word-capture
returns-then-capture_word-capture c = let a = c.args in
    add_old a.work.now a.depth a.capture c.loop-i.i c.loop-i-test.true c.loop-i.invariant (sym c.capture_word.ensures ∙ c.if-capture_word-capture.true)

pub returns-then-n-eq255 : goal.returns-then-n-eq255
returns-then-n-eq255 c = let a = c.args in
    let e : c.loop-i.i ≡ held a.work.now a.depth = omega arith in
    add_full a.work.now a.depth a.capture _ c.if-n-eq255.true (rw e at c.loop-i.invariant)

pub returns : goal.returns
returns c = let a = c.args in
    let e : c.loop-i.i ≡ held a.work.now a.depth = omega arith in
    rw c.set_half.ensures (add_new a.work.now a.depth a.capture c.requires.2 c.requires.0 c.requires.1 c.if-n-eq255.false (rw e at c.loop-i.invariant))
