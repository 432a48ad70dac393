-- A part of an image in order that begins with a header is a prototype.
use Prim.Native.Nat.{ℕ, ◌<◌, ◌≤◌}
use mathlib.Core.Path.{◌≡◌}
use mathlib.Core.List.{List}
use mathlib.Core.Bool.{true}
use mathlib.Core.Logic.{⊎_elim}
use lib.ListN.{length, get_or}
use Rattle.meaning.specs.Fields.{whole}
use Rattle.meaning.specs.Images.{Image}
use Rattle.meaning.proofs.Lists.{lt_or_le}
use Rattle.reader.specs.Laid.{Located, proto_span}

pub room : (im : Image) (tag q : ℕ) (r : List ℕ) → Located im tag q r → whole r ≡ true → get_or r 0 0 ≡ 0x41 → proto_span r tag ≤ length r
room im tag q r l w h = ⊎_elim
    (λ (k : q < length im.prototypes). (l.there k).room)
    (λ (k : length im.prototypes ≤ q). absurd ((l.beyond k).no_header w h))
    (lt_or_le q (length im.prototypes))
