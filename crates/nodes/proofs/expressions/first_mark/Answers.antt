-- `nodes::expressions::first_mark` meets its contract: the mark of the first pair, if there is one.
use mathlib.Core.Path.{◌≡◌, refl, ◌∙◌}
use mathlib.Core.Bool.{Bool, not}
use mathlib.Core.List.{List}
use Prim.Native.Nat.{ℕ, zero, suc, ◌+◌, ◌<◌, ◌≤◌}
use native.Mathlib.Omega.{arith}
use lib.Dec.{eqb}
use Rattle.meaning.specs.At.{mark_at, pairs_in, pair_place}
use Rattle.meaning.specs.Functions.{first_mark}
use Rattle.nodes.proofs.expressions.first_mark.Goals as goal

none : (b : Bool) (vs : List ℕ) (n : ℕ) → n ≡ 0 → 4294967295 ≡ first_mark (pairs_in b vs 1 n)
none b vs zero e = refl
none b vs (suc n) e = absurd (omega arith)

some : (b : Bool) (vs : List ℕ) (n : ℕ) → (n ≡ 0 → ⊥) → mark_at b vs 2 ≡ first_mark (pairs_in b vs 1 n)
some b vs zero e = absurd (e refl)
some b vs (suc n) e = refl

-- the first pair is there, its mark with it
there : (wide n len : ℕ) → wide ≤ 1 → (n ≡ 0 → ⊥) → 1 + pair_place (not (eqb wide 0)) n ≤ len → 2 + wide < len
there zero n len w e l = omega arith
there (suc zero) n len w e l = omega arith
there (suc (suc wide)) n len w e l = absurd (omega arith)

pub returns-then-n-eq0 : goal.returns-then-n-eq0
returns-then-n-eq0 c = none _ _ _ c.if-n-eq0.true

pub mark-requires : goal.mark-requires
mark-requires c = there _ _ _ c.requires.1 c.if-n-eq0.false c.requires.0

pub returns : goal.returns
returns c = c.mark.ensures ∙ some _ _ _ c.if-n-eq0.false
