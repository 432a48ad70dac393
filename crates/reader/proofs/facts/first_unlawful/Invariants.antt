-- Below i every instruction passes; the lowest that does not is answered.
use mathlib.Core.Path.{◌≡◌}
use mathlib.Core.Bool.{true}
use Prim.Native.Nat.{ℕ, ◌<◌}
use lib.ListN.{length}
use Rattle.meaning.specs.Steps.{inst_at}
use Rattle.reader.specs.Around.{test_met}
use Rattle.reader.specs.Laid.{code_in}
use Rattle.reader.specs.Lens.{lens_code}
use Rattle.reader.proofs.facts.first_unlawful.Given as goal

abbrev pub invariant-loop-i : goal.invariant-loop-i
invariant-loop-i l = (k : ℕ) → k < l.i → test_met l.v l.marks k (inst_at (lens_code l.mend (code_in l.t l.tag l.span l.at (length l.marks))) k) ≡ true
