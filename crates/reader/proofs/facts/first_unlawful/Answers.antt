-- Below i every instruction passes; the lowest that does not is answered.
use mathlib.Core.Path.{◌≡◌, refl, sym, ap, ◌∙◌}
use mathlib.Core.Bool.{Bool, true}
use Prim.Native.Nat.{ℕ, ◌+◌}
use native.Mathlib.Omega.{arith}
use lib.ListN.{length}
use borrow.Author.Count.{below_more}
use Rattle.meaning.specs.Base.{lowest}
use Rattle.meaning.specs.Steps.{inst_at}
use Rattle.meaning.specs.Images.{inst_size}
use Rattle.meaning.proofs.Lists.{lowest_found, lowest_none}
use Rattle.reader.specs.Laid.{code_in}
use Rattle.reader.specs.Lens.{lens_code}
use Rattle.reader.specs.Around.{test_met}
use Rattle.reader.specs.Spots.{below}
use Rattle.reader.proofs.Belows.{below_some, below_none}
use Rattle.reader.proofs.Lenses.{passed_is}
use Rattle.reader.proofs.facts.first_unlawful.Goals as goal
use Rattle.reader.proofs.facts.first_unlawful.Goals.{Start, After-has_facts}

-- the test of instruction k, in fields of so many bytes
abbrev test : goal.Start → (span k : ℕ) → Bool
test s span k = let x = s.args in test_met x.v.now x.marks.now k (inst_at (lens_code x.mend (code_in x.t.now x.tag span x.at (length x.marks.now))) k)

-- its answer
answer : (c : goal.After-has_facts) → c.has_facts.result ≡ test (goal.at.After-has_facts c).Start (3 + c.inst_size-span.result) c.loop-i.i
answer c =
    let x = c.args in
    passed_is x.t.now x.tag (3 + c.inst_size-span.result) x.at (length x.marks.now) c.loop-i.i c.loop-i-test.true _ _ _ _ _ x.mend
    _ _ _ refl refl refl _ _ _ refl refl c.has_facts.ensures

-- what is told, by the tag's own size
told : (s : goal.Start) (size : ℕ) → size ≡ inst_size s.args.tag → let n = length s.args.marks.now in below n (lowest (test s (3 + size)) n) ≡ below n (lowest (test s (3 + inst_size s.args.tag)) n)
told s size e = let n = length s.args.marks.now in ap (λ (z : ℕ). below n (lowest (test s (3 + z)) n)) e

pub returns-then-not-has_facts : goal.returns-then-not-has_facts
returns-then-not-has_facts c =
    below_some _ _ _ (lowest_found _ _ _ c.loop-i-test.true c.loop-i.invariant (sym (answer (goal.at.returns-then-not-has_facts c).After-has_facts) ∙ c.if-not-has_facts.true)) c.loop-i-test.true
    ∙ told (goal.at.returns-then-not-has_facts c).Start _ c.inst_size-span.ensures

pub loop-i-preserved : goal.loop-i-preserved
loop-i-preserved c =
    below_more (λ (k : ℕ). test (goal.at.loop-i-preserved c).Start (3 + c.inst_size-span.result) k ≡ true) _
    c.loop-i.invariant (sym (answer (goal.at.loop-i-preserved c).After-has_facts) ∙ c.if-not-has_facts.false)

pub returns : goal.returns
returns c =
    below_none _ _ (omega (arith, lowest_none (test (goal.at.returns c).Start (3 + c.inst_size-span.result)) (length c.args.marks.now) (λ j h. c.loop-i.invariant j (omega (arith, c.loop-i-test.false)))))
    ∙ told (goal.at.returns c).Start _ c.inst_size-span.ensures
