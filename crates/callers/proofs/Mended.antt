-- What `mend` leaves, said of `read_image` and of a second call, which find the tag in the bytes as any caller's do.
-- The idea: the mended copy is written with the image's tag, so it tells that tag, and the theorems over the tag are theorems of the call.
use Prim.Native.Nat.{ℕ, ◌≤◌}
use mathlib.Core.Path.{◌≡◌, ap, ◌∙◌}
use mathlib.Core.List.{List, []}
use lib.ListN.{length}
use Rattle.meaning.specs.Fields.{fields}
use Rattle.meaning.specs.Images.{Image, image_of}
use Rattle.meaning.specs.Reader.{read_as, taken, image_tag, read_image}
use Rattle.meaning.specs.Mend.{mended_image, Entry, mended_to, mend_as}
use Rattle.meaning.proofs.Images.Fielded.{Bytes}
use Rattle.meaning.proofs.Images.Written.{ordered_formed}
use Rattle.meaning.proofs.Mend.{mends, mend_unchanged, mend_twice, mend_kept}
use Rattle.meaning.proofs.Mend.Kept.{InProtos, Agree}
use Rattle.meaning.proofs.Mend.Laws.{mended_formed}
use Rattle.callers.proofs.Either.{tagged_in, written_tag}

-- "An image E1 takes comes back unchanged with an empty list", where the output has room for it
pub image_unchanged : (s : List ℕ) → Bytes s → (room list : ℕ) (im : Image) → read_image s ≡ taken im → length s ≤ room → mend_as (image_tag s) s room list ≡ mended_to s []
image_unchanged s b room list im e fits = mend_unchanged (image_tag s) s room list (tagged_in (fields s)) b im e fits

module _ (s : List ℕ) (b : Bytes s) (room list : ℕ) (bytes : List ℕ) (es : List Entry) (e : mend_as (image_tag s) s room list ≡ mended_to bytes es) where
  -- the copy tells the image's tag
  pub mend_tag : image_tag bytes ≡ image_tag s
  mend_tag =
      let ok = tagged_in (fields s) in
      let m = mends (image_tag s) s room list bytes es e in
      let f = mended_formed (image_tag s) (image_of (image_tag s) (fields s)) (ordered_formed (image_tag s) ok s b m.order) in
      ap image_tag m.copy ∙ written_tag (image_tag s) (mended_image (image_of (image_tag s) (fields s))) ok f.some f.numbers

  -- "The result is one E1 takes", of the caller's reading
  pub mend_read : (im : Image) × (read_image bytes ≡ taken im)
  mend_read = let m = mends (image_tag s) s room list bytes es e in (m.image, ap (λ (k : ℕ). read_as k bytes) mend_tag ∙ m.takes)

  -- mending what was mended changes nothing, and lists nothing
  pub mend_again : mend_as (image_tag bytes) bytes room list ≡ mended_to bytes []
  mend_again = ap (λ (k : ℕ). mend_as k bytes room list) mend_tag ∙ mend_twice (image_tag s) s room list (tagged_in (fields s)) b bytes es e

  -- "Every other byte stays"
  pub mend_stays : Agree (InProtos (image_tag s) 0 (image_of (image_tag s) (fields s)).prototypes) 0 bytes s
  mend_stays = mend_kept (image_tag s) s room list (tagged_in (fields s)) b bytes es e
