-- What the walk ensures is what judging requires, where the half is enough. Walk and judging leave the words between those of the nodes and the offsets
-- as they were, so to clear the former is `scratch_after`.
use mathlib.Core.Path.{◌≡◌, ap, ◌∙◌}
use mathlib.Core.List.{List, ◌++◌}
use Prim.Native.Nat.{ℕ, min}
use lib.ListN.{drop, replicate}
use Rattle.std.proofs.Common.{rules}
use native.Mathlib.Omega.{arith}
use Rattle.tree.specs.Scratch.{Beyond}
use Rattle.tree.specs.Used.{zeroed, with_offsets}
use Rattle.tree.proofs.Words.{beyond_then}
use Rattle.tree.proofs.Answers.{used_after}
use Rattle.tree.proofs.check_lent.Goals as goal
use Rattle.tree.proofs.check_lent.Goals.{After-judged-outcome}

pub walk-walked-requires : goal.walk-walked-requires
walk-walked-requires c = let e = c.min-limit.ensures in record { judged = omega (arith, e); noted = omega (arith, e); room = omega (arith, e) }

-- to fill the front is to clear it
filled : (l f : List ℕ) (n m : ℕ) → f ≡ replicate m 0 → m ≡ n → f ++ drop n l ≡ zeroed n l
filled l f n m e q = ap (λ (x : List ℕ). x ++ drop n l) (e ∙ ap (λ (k : ℕ). replicate k 0) q)

-- more nodes than the half has words: all of them are used
pub returns-then-limit-n : goal.returns-then-limit-n
returns-then-limit-n c = let n : min c.walk-walked.result.count c.min-limit.result ≡ c.min-limit.result = omega (arith, c.if-limit-n.true, c.min-n.ensures) in record {
  outcome = c.check_alone.ensures;
  scratch = used_after _ _ _ (omega (arith, c.if-limit-n.true, c.min-n.ensures, c.walk-walked.ensures.count, c.min-limit.ensures)) _ _ (rw n at c.walk-walked.ensures.beyond)
      (filled c.walk-walked.new.scratch c.fill.new.self c.min-limit.result _ (c.fill.ensures.after (λ y e. e)) (search rules));
}

pub judged-outcome-requires : goal.judged-outcome-requires
judged-outcome-requires c = c.walk-walked.ensures.found (omega (arith, c.min-n.ensures, c.if-limit-n.false))

-- otherwise as many as there are nodes, through walk and judging
beyond : (c : goal.After-judged-outcome) → let a = c.args in
    Beyond c.min-n.result (with_offsets a.tree.now c.min-n.result a.scratch.now) c.judged-outcome.new.scratch
beyond c = let n : min c.walk-walked.result.count c.min-limit.result ≡ c.min-n.result = omega (arith, c.if-limit-n.false, c.min-n.ensures, c.min-limit.ensures) in
    beyond_then _ _ _ _ (rw n at c.walk-walked.ensures.beyond) (rw (← c.min-n.ensures) at c.judged-outcome.ensures.beyond)

pub returns : goal.returns
returns c = record {
  outcome = c.judged-outcome.ensures.outcome;
  scratch = used_after _ _ _ (omega (arith, c.min-n.ensures, c.if-limit-n.false, c.walk-walked.ensures.count, c.min-limit.ensures)) _ _ (beyond (goal.at.returns c).After-judged-outcome)
      (filled c.judged-outcome.new.scratch c.fill-2.new.self c.min-n.result _ (c.fill-2.ensures.after (λ y e. e)) (search rules));
}
