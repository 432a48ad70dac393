-- What a turn of a walk by `Fields` leaves, as the laws of meaning/proofs/FieldLaws have it.
use mathlib.Core.Path.{◌≡◌, sym, ◌∙◌}
use mathlib.Core.List.{List}
use Prim.Native.Nat.{ℕ}
use Rattle.meaning.specs.Fields.{span, rest}
use Rattle.meaning.proofs.FieldLaws.{from}
use Rattle.meaning.proofs.Lists.{tail_part}

pub left_behind : (s : List ℕ) {t : List ℕ} → t ≡ rest s → from (span s) s ≡ t
left_behind s e = tail_part (span s) s ∙ sym e
