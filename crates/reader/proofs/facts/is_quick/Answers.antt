-- Where the opcode is a literal the facts compute to what it asks; the rest is the kinds' law.
use mathlib.Core.Path.{◌≡◌, sym, ap, ◌∙◌}
use mathlib.Core.Bool.{Bool, true, false}
use Prim.Native.Nat.{ℕ, ◌<◌}
use native.Mathlib.Omega.{arith}
use borrow.Author.Tests.{ltb-true}
use Rattle.meaning.proofs.Lists.{false_true}
use Rattle.reader.specs.Around.{number, wide, bounds, text_met}
use Rattle.reader.specs.Tests.{lawful_seen, kind_seen, plain_seen}
use Rattle.reader.proofs.Quick.{plain_lawful, enough_plain, name_lawful}
use Rattle.reader.proofs.facts.is_quick.Goals as goal
use Rattle.reader.proofs.facts.is_quick.Goals.{Start}

-- the facts, were the opcode k
abbrev facts : (s : goal.Start) → (closure entered : Bool) → ℕ → Bool
facts s closure entered k = let x = s.args.x in
    let v = s.args.v.now in
    lawful_seen (bounds v) x.index x.count k x.a x.b x.c (wide x) closure (text_met v (wide x)) entered

-- by the test of a literal opcode
literal : (s : goal.Start) (closure entered : Bool) (k : ℕ) → s.args.x.opcode ≡ k → (r : Bool) → r ≡ facts s closure entered k → r ≡ true → facts s closure entered s.args.x.opcode ≡ true
literal s closure entered k e r f q = ap (facts s closure entered) e ∙ sym f ∙ q

pub returns-then-is_plain : goal.returns-then-is_plain
returns-then-is_plain c = λ e closure entered. let s = (goal.at.returns-then-is_plain c).Start in
    let x = s.args.x in
    let v = bounds s.args.v.now in
    let plain = c.is_plain.ensures in
    let kind = c.kind_of-kind.result in
    let low : number kind < 3 = ltb-true (number kind) 3 (sym plain ∙ c.if-is_plain.true) in
    plain_lawful v x.index x.count x.opcode x.a x.b x.c (wide x) (omega (arith, c.well_formed)) closure _ entered
    (omega (arith, c.kind_of-kind.ensures, low))
    (ap (λ (m : ℕ). plain_seen m x.index x.count x.a x.b x.c v.registers) (sym c.kind_of-kind.ensures) ∙ sym (enough_plain kind low x.index x.count x.a x.b x.c v.registers) ∙ sym c.is_enough.ensures ∙ e)

pub returns-then-x : goal.returns-then-x
unfolding kind_seen
returns-then-x c = λ e closure entered. let s = (goal.at.returns-then-x c).Start in
    let x = s.args.x in
    let v = s.args.v.now in
    name_lawful (bounds v) x.index x.count x.opcode x.a x.b x.c (wide x) (omega (arith, c.well_formed)) closure _ entered c.if-x.true
    ∙ sym (ap (λ (t : Bool). lawful_seen (bounds v) x.index x.count 44 x.a x.b x.c (wide x) false t false) (c.names-text.ensures ∙ ap (text_met v) c.wide.ensures.0)) ∙ sym c.is_lawful-then-x.ensures ∙ e

pub returns-then-x-eq3 : goal.returns-then-x-eq3
unfolding kind_seen
returns-then-x-eq3 c = λ e closure entered. literal (goal.at.returns-then-x-eq3 c).Start closure entered 3 c.if-x-eq3.true _ c.is_lawful.ensures e

pub returns-then-x-eq19 : goal.returns-then-x-eq19
unfolding kind_seen
returns-then-x-eq19 c = λ e closure entered. literal (goal.at.returns-then-x-eq19 c).Start closure entered 19 c.if-x-eq19.true _ c.is_lawful-then-x-eq19.ensures e

pub returns-then-x-eq1 : goal.returns-then-x-eq1
unfolding kind_seen
returns-then-x-eq1 c = λ e closure entered. literal (goal.at.returns-then-x-eq1 c).Start closure entered 1 c.if-x-eq1.true _ c.is_lawful-then-x-eq1.ensures e

pub returns : goal.returns
returns c = λ e closure entered. absurd (false_true e)
