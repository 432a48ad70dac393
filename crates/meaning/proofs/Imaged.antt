-- What an accepting answer means: its number is 0 exactly where there is an image, and the image is that of a lowering that was done.
use Prim.Native.Nat.{ℕ, ◌-◌, ◌<◌}
use mathlib.Core.Path.{◌≡◌, refl, sym, ap, subst}
use mathlib.Core.Logic.{◌↔◌}
use mathlib.Core.Bool.{Bool, true, false, cond}
use mathlib.Core.List.{List, []}
use native.Mathlib.Omega.{arith}
use lib.ListN.{length}
use lib.Dec.{ltb}
use Rattle.meaning.specs.Fields.{fields}
use Rattle.meaning.specs.Grammar.{wide_marks}
use Rattle.meaning.specs.Check.{checked}
use Rattle.meaning.specs.Read.{read_program}
use Rattle.meaning.specs.State.{Res, refused, done}
use Rattle.meaning.specs.Lower.{lower_program}
use Rattle.meaning.specs.Image.{image}
use Rattle.meaning.specs.Answer.{cause_number, Finished, imaged, stopped, lowered, finished_after, finished, outcome, answer}
use Rattle.meaning.specs.Safety.{Lowered}
use Rattle.meaning.specs.declared.Cause.{Cause}
use Rattle.meaning.specs.declared.Cause.TheVariants.{Frame, Many, Shape, Tree, Depth, Work, Registers, Captures, Undefined, Redefined, Stray, Empty, Returned, Constants, Prototypes, Nesting, Long, Room, ImageFrame, ImageRule, Mode, Prototype, Decision, Order, ListRoom, Retired, Visits}
use Rattle.std.specs.Prelude.{Ok, Err}
use Rattle.meaning.specs.Outcome.{Outcome}

-- ---- the number

cause_positive : (c : Cause) → 0 < cause_number c
cause_positive Frame = omega arith
cause_positive Many = omega arith
cause_positive Shape = omega arith
cause_positive Tree = omega arith
cause_positive Depth = omega arith
cause_positive Work = omega arith
cause_positive Registers = omega arith
cause_positive Captures = omega arith
cause_positive Undefined = omega arith
cause_positive Redefined = omega arith
cause_positive Stray = omega arith
cause_positive Empty = omega arith
cause_positive Returned = omega arith
cause_positive Constants = omega arith
cause_positive Prototypes = omega arith
cause_positive Nesting = omega arith
cause_positive Long = omega arith
cause_positive Room = omega arith
cause_positive ImageFrame = omega arith
cause_positive ImageRule = omega arith
cause_positive Mode = omega arith
cause_positive Prototype = omega arith
cause_positive Decision = omega arith
cause_positive Order = omega arith
cause_positive ListRoom = omega arith
cause_positive Retired = omega arith
cause_positive Visits = omega arith

-- accepted is 0, and nothing else is
pub number_zero : (f : Finished) → (answer (outcome f)).number ≡ 0 ↔ ((bytes : List ℕ) × (f ≡ imaged bytes))
number_zero (imaged bytes) = (λ e. (bytes, refl), λ b. refl)
number_zero (stopped c place) = (λ e. absurd (let h = cause_positive c in omega (arith, e, h)), λ b. ap (λ (f : Finished). (answer (outcome f)).number) b.1)

-- ---- the image

abbrev bytes_of : Finished → List ℕ
bytes_of (imaged bytes) = bytes
bytes_of (stopped c place) = []

abbrev IsImaged : Finished → Type 0
IsImaged (imaged bytes) = Unit {0}
IsImaged (stopped c place) = ⊥

stopped_not : {c : Cause} {place : ℕ} {bytes : List ℕ} → stopped c place ≡ imaged bytes → ⊥
stopped_not e = subst IsImaged (sym e) tt

fitted_bytes : (b : Bool) (last : ℕ) (xs bytes : List ℕ) → cond b (stopped Room last) (imaged xs) ≡ imaged bytes → bytes ≡ xs
fitted_bytes true last xs bytes e = absurd (stopped_not e)
fitted_bytes false last xs bytes e = sym (ap bytes_of e)

-- for each way in which the checks and then the lowering may end
module _ (mode : ℕ) (tree : List ℕ) (work room : ℕ) (bytes : List ℕ) where
  after_lowering : (n : ℕ) → checked mode tree work ≡ Ok n → (r : Res ℕ) → lower_program mode (n - 1) (read_program (fields tree)) ≡ r → lowered (wide_marks (fields tree)) room (n - 1) r ≡ imaged bytes → Lowered mode tree work bytes
  after_lowering n a (refused c place) l e = absurd (stopped_not e)
  after_lowering n a (done i t) l e =
      record { nodes = n; accepted = a; main = i; state = t; lowering = l; image_of = fitted_bytes (ltb room (length (image (wide_marks (fields tree)) t))) (n - 1) (image (wide_marks (fields tree)) t) bytes e }

  after_checks : (o : Outcome) → checked mode tree work ≡ o → finished_after mode o tree room ≡ imaged bytes → Lowered mode tree work bytes
  after_checks (Err why) a e = absurd (stopped_not e)
  after_checks (Ok n) a e = after_lowering n a (lower_program mode (n - 1) (read_program (fields tree))) refl e

  pub finished_lowered : finished mode tree work room ≡ imaged bytes → Lowered mode tree work bytes
  unfolding finished
  finished_lowered e = after_checks (checked mode tree work) refl e
