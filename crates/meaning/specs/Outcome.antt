-- 01, "Outcome": a length, or a refusal, which is a cause and its place.
use Rattle.std.specs.Prelude.{ℕ, Result}
use Rattle.meaning.specs.declared.Cause.{Cause}
use Rattle.meaning.specs.declared.Refusal.{Refusal}

abbrev pub Outcome : Type 0
Outcome = Result ℕ Refusal

abbrev pub refusal : Cause → (place : ℕ) → Refusal
refusal c place = record { cause = c; place = place }
