-- What the premise is for: 3 is a builtin and 20 is declared nowhere, so that exchanging them is no rule; and it makes a refused program of an accepted one.
use mathlib.Core.Path.{◌≡◌, refl}
use Prim.Native.Nat.{ℕ}
use mathlib.Core.List.{List, [], ◌∷◌}
use Rattle.meaning.specs.Answer.{imaged, stopped, finished}
use Rattle.meaning.specs.declared.Cause.TheVariants.{Undefined}
use Rattle.meaning.proofs.Computing.{computing}
use Rattle.names.specs.Rename.{exchanged, naming_of, renamed_word, renamed_payload, renamed_field, bytes_by, renamed}

-- the statement env, name 3
abbrev asks : List ℕ
asks = 0x04 ∷ 0 ∷ 4 ∷ 0 ∷ 3 ∷ 0 ∷ 5 ∷ 0x10 ∷ 0 ∷ 2 ∷ 0 ∷ 0 ∷ 0x1E ∷ 0 ∷ 2 ∷ 0 ∷ 1 ∷ []

builtin_accepted : finished 0 asks 20000 200
    ≡ imaged (0x41 ∷ 0 ∷ 10 ∷ 255 ∷ 255 ∷ 0 ∷ 0 ∷ 0 ∷ 1 ∷ 0 ∷ 0 ∷ 0 ∷ 2 ∷ 0x43 ∷ 0 ∷ 6 ∷ 0x2F ∷ 0 ∷ 0 ∷ 0 ∷ 0 ∷ 5 ∷ 0x43 ∷ 0 ∷ 6 ∷ 0x14 ∷ 0 ∷ 0 ∷ 0 ∷ 255 ∷ 255 ∷ 0x45 ∷ 0 ∷ 2 ∷ 0 ∷ 3 ∷ [])
unfolding computing
builtin_accepted = refl

unknown_refused : finished 0 (renamed (exchanged 3 20) asks) 20000 200 ≡ stopped Undefined 0
unfolding computing renamed renamed_field renamed_payload renamed_word naming_of bytes_by
unknown_refused = refl
