-- What number 0 in the answer of a lowering means, as a call gives it since E6 (`reply`): there is an image, demand 3 holds of it, and the reader takes it.
use Prim.Native.Nat.{ℕ}
use mathlib.Core.Path.{◌≡◌, refl}
use mathlib.Core.List.{List}
use Rattle.meaning.specs.Images.{image_of_state}
use Rattle.meaning.specs.Answer.{Finished, imaged, stopped, finished, outcome, answer, reply}
use Rattle.meaning.specs.Safety.{Lowered, Demand3}
use Rattle.meaning.specs.Reader.{taken, read_image}
use Rattle.meaning.proofs.Safe.{accepted_demand_3, demand_3}
use Rattle.meaning.proofs.Imaged.{number_zero}
use Rattle.meaning.proofs.Images.Lowers.{lowered_taken}

-- the number is that of the three
pub reply_number : (tree : List ℕ) (f : Finished) → (reply tree f).number ≡ (answer (outcome f)).number
reply_number tree (imaged bytes) = refl
reply_number tree (stopped c place) = refl

module _ (mode : ℕ) (tree : List ℕ) (work room : ℕ) (e : (reply tree (finished mode tree work room)).number ≡ 0) where
  -- number 0 gives demand 3
  pub replied_demand_3 : (bytes : List ℕ) × (finished mode tree work room ≡ imaged bytes) × ((l : Lowered mode tree work bytes) × Demand3 l.state)
  replied_demand_3 = accepted_demand_3 mode tree work room (rw (reply_number tree (finished mode tree work room)) at e)

  -- and the image that is left is one that E1 takes
  pub replied_taken : (bytes : List ℕ) × (finished mode tree work room ≡ imaged bytes) × ((l : Lowered mode tree work bytes) × (read_image bytes ≡ taken (image_of_state l.state)))
  replied_taken =
      let f = (number_zero (finished mode tree work room)).0 (rw (reply_number tree (finished mode tree work room)) at e) in
      (f.0, f.1, lowered_taken mode tree work room f.0 f.1)
