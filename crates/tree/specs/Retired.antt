-- What mode 1 makes of mode 0's answer (document 02, E11): 27 comes behind 1 to 3, and before every other. Contracts of inner functions cite this;
-- proofs/Over.antt proves that it is the definition's check in mode 1.
use Rattle.std.specs.Prelude.{ℕ, Bool, ◌&&◌, cond, List, length, ltb}
use Rattle.meaning.specs.Fields.{Field}
use Rattle.meaning.specs.Check.{unless, current_at}
use Rattle.meaning.specs.Answer.{answer}
use Rattle.meaning.specs.declared.Cause.TheVariants.{Retired}
use Rattle.meaning.specs.Outcome.{Outcome}

-- 1 Frame, 2 Many or 3 Shape
unfoldable pub early : Outcome → Bool
early o = ltb 0 (answer o).number && ltb (answer o).number 4

unfoldable pub retired_over : List Field → Outcome → Outcome
retired_over fs o = cond (early o) o (unless Retired (current_at 1 fs) (length fs) o)
