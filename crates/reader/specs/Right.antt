-- The tables that the facts are asked with.
use Rattle.std.specs.Prelude.{ℕ, ◌<◌, ◌≡◌, List, length, get_or}
use Rattle.meaning.specs.Constant.{Constant}
use Rattle.meaning.specs.State.{Proto}
use Rattle.meaning.specs.Image.{flag}
use Rattle.meaning.specs.Safety.{Holds}
use Rattle.meaning.specs.Rules.{is_text}
use Rattle.reader.specs.Tests.{local_need, outer_need}

-- entry q of m is a number of element q
abbrev pub Table : {A : Type 0} → (A → ℕ) → List ℕ → List A → Type 0
Table f m xs = (q : ℕ) → q < length xs → Holds (λ x. get_or m q 0 ≡ f x) xs q

-- they say what the prototypes' captures need, and which constants are texts
pub record Right (ks : List Constant) (ps : List Proto) (locals outers texts : List ℕ) : Type 0 where
  pub locals_right : Table (λ p. local_need p.captures) locals ps
  pub outers_right : Table (λ p. outer_need p.captures) outers ps
  pub names : Table (λ c. flag (is_text c)) texts ks
