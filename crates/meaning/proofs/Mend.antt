-- Images mended (the definition stands in specs/Mend). The idea: replacing jumps keeps the form of an image, so that E1 reads the copy as the mended image, and judges that.
use Prim.Native.Nat.{ℕ, ◌+◌, ◌*◌, ◌<◌, ◌≤◌}
use mathlib.Core.Path.{◌≡◌, refl, sym, ap, ap₂, ◌∙◌, subst}
use mathlib.Core.Bool.{Bool, true, false, cond}
use mathlib.Core.Option.{Option, none, some}
use mathlib.Core.List.{List, [], ◌∷◌, ◌++◌, append_assoc}
use native.Mathlib.Omega.{arith}
use lib.ListN.{length}
use lib.Dec.{ltb}
use borrow.Author.Tests.{ltb-false, le-ltb}
use Rattle.meaning.specs.Fields.{fields}
use Rattle.meaning.specs.Check.{framed}
use Rattle.meaning.specs.Opcode.{inst, no_mark, Return}
use Rattle.meaning.specs.State.{Proto}
use Rattle.meaning.specs.Images.{Image, image_of}
use Rattle.meaning.specs.Image.{written}
use Rattle.meaning.specs.Steps.{inst_at}
use Rattle.meaning.specs.Safety.{All}
use Rattle.meaning.specs.Follow.{at_first, stray}
use Rattle.meaning.specs.Reader.{Read, refused, taken, ruled, broken, read_as}
use Rattle.meaning.specs.Mend.{replaced, mended_proto, mended_image, Entry, listed, mended_copy, listed_in, read_copy, read_mended, Mending, unmended, mended_to, mending_in, mending_after, mend_as}
use Rattle.meaning.specs.declared.Cause.{Cause}
use Rattle.meaning.specs.declared.Cause.TheVariants.{Room, ImageFrame, ImageRule, ListRoom}
use Rattle.meaning.proofs.Images.Fielded.{Bytes}
use Rattle.meaning.proofs.Images.Assembled.{Tagged}
use Rattle.meaning.proofs.Images.Back.{taken_is, ordered_back, read_back}
use Rattle.meaning.proofs.Images.Written.{formed_read, ordered_formed}
use Rattle.meaning.proofs.Images.Walks.{each}
use Rattle.meaning.proofs.Mend.Kept.{InProtos, Agree, kept_image}
use Rattle.meaning.proofs.Mend.Laws.{lawful_kept, WholeCode, whole_by, whole_protos, whole_listed, mended_protos, mended_formed}
pub mod Laws
pub mod Kept

-- ---- what E1 says of the copy

module _ (tag : ℕ) (ok : Tagged tag) (s : List ℕ) (b : Bytes s) (o : stray tag at_first (fields s) ≡ none) where
  abbrev mim : Image
  mim = mended_image (image_of tag (fields s))

  -- the copy is read as the mended image, and that is judged
  pub copy_read : read_as tag (mended_copy tag s) ≡ ruled mim (broken mim)
  copy_read = formed_read tag mim (mended_formed tag (image_of tag (fields s)) (ordered_formed tag ok s b o))

-- ---- what it means that an image is mended

pub record Mends (tag : ℕ) (s : List ℕ) (room list : ℕ) (bytes : List ℕ) (es : List Entry) : Type 0 where
  pub frame : framed s ≡ true
  pub order : stray tag at_first (fields s) ≡ none
  pub copy : bytes ≡ mended_copy tag s
  pub listing : es ≡ listed_in tag s
  pub image : Image
  pub takes : read_as tag bytes ≡ taken image
  pub fits : length bytes ≤ room
  pub list_fits : 8 * length es ≤ list

module _ (tag : ℕ) (s : List ℕ) (room list : ℕ) (bytes : List ℕ) (es : List Entry) where
  abbrev M : Type 0
  M = Mends tag s room list bytes es

  -- a refusal is none
  not_mended : (c : Cause) (place : ℕ) → unmended c place ≡ mended_to bytes es → M
  not_mended c place e = absurd (let z : ◌≡◌ {A = ℕ} 0 1 = cc in omega arith)

  in_rooms : framed s ≡ true → stray tag at_first (fields s) ≡ none → (im : Image) → read_as tag (mended_copy tag s) ≡ taken im
      → (x : Bool) → ltb list (8 * length (listed_in tag s)) ≡ x → (y : Bool) → ltb room (length (mended_copy tag s)) ≡ y → cond x (unmended ListRoom 0) (cond y (unmended Room 0) (mended_to (mended_copy tag s) (listed_in tag s))) ≡ mended_to bytes es → M
  in_rooms f o im t true ex y ey e = not_mended ListRoom 0 e
  in_rooms f o im t false ex true ey e = not_mended Room 0 e
  in_rooms f o im t false ex false ey e =
      let c : bytes ≡ mended_copy tag s = cc in
      let l : es ≡ listed_in tag s = cc in
      record { frame = f; order = o; copy = c; listing = l; image = im; takes = rw c t; fits = rw c (ltb-false room (length (mended_copy tag s)) ey); list_fits = rw l (ltb-false list (8 * length (listed_in tag s)) ex) }

  in_copy : framed s ≡ true → stray tag at_first (fields s) ≡ none → (r : Read) → read_as tag (mended_copy tag s) ≡ r → mending_after tag s room list r ≡ mended_to bytes es → M
  in_copy f o (refused c place) t e = not_mended c place e
  in_copy f o (taken im) t e = in_rooms f o im t (ltb list (8 * length (listed_in tag s))) refl (ltb room (length (mended_copy tag s))) refl e

  in_order : framed s ≡ true → (o : Option ℕ) → stray tag at_first (fields s) ≡ o → mending_after tag s room list (read_copy tag s o) ≡ mended_to bytes es → M
  in_order f none o e = in_copy f o (read_as tag (mended_copy tag s)) refl e
  in_order f (some place) o e = not_mended ImageRule place e

  in_frame : (b : Bool) → framed s ≡ b → mending_after tag s room list (cond b (read_copy tag s (stray tag at_first (fields s))) (refused ImageFrame (length (fields s)))) ≡ mended_to bytes es → M
  in_frame true f e = in_order f (stray tag at_first (fields s)) refl e
  in_frame false f e = not_mended ImageFrame (length (fields s)) e

  pub mends : mend_as tag s room list ≡ mended_to bytes es → M
  unfolding mend_as read_mended
  mends e = in_frame (framed s) refl e

  -- theorem: "The result is one E1 takes"
  pub mend_taken : mend_as tag s room list ≡ mended_to bytes es → (im : Image) × (read_as tag bytes ≡ taken im)
  mend_taken e = let m = mends e in (m.image, m.takes)

-- ---- what E1 takes is not changed

ruled_is : (i im : Image) (o : Option ℕ) → ruled i o ≡ taken im → im ≡ i
ruled_is i im none e = cc
ruled_is i im (some place) e = absurd (let z : ◌≡◌ {A = ℕ} 0 1 = cc in omega arith)

-- no instruction of it is replaced
taken_whole : (im : Image) → broken im ≡ none → All WholeCode im.prototypes
taken_whole im good = go [] im.prototypes refl
  where
    go : (before ps : List Proto) → im.prototypes ≡ before ++ ps → All WholeCode ps
    go before [] e = tt
    go before (p ∷ ps) e = (
      whole_by (length p.code) 0 p.code (inst Return 0 0 0 no_mark) (λ k l. subst (λ (m : ℕ). replaced (length p.code) m (inst_at p.code k) ≡ false) (let z : k ≡ 0 + k = omega arith in z)
          (lawful_kept im.constants before p k (inst_at p.code k) (each im good before p ps e k l))),
      go (before ++ p ∷ []) ps (e ∙ sym (append_assoc before (p ∷ []) ps)),
    )

-- where no instruction is replaced, and the image is written as it was
module _ (tag : ℕ) (s : List ℕ) (room list : ℕ) where
  unchanged : (im : Image) → read_as tag s ≡ taken im → All WholeCode im.prototypes → written tag im ≡ s → mend_as tag s room list ≡ mending_in room list s []
  unfolding mend_as read_mended
  unchanged im e w back =
      let t = taken_is tag s im e in
      let copy : mended_copy tag s ≡ s = ap (λ (i : Image). written tag (mended_image i)) (sym t.image) ∙ ap (λ (ps : List Proto). written tag (let i : Image = record { prototypes = ps; constants = im.constants } in i)) (whole_protos im.prototypes w) ∙ back in
      let list_is : listed_in tag s ≡ [] = ap (λ (i : Image). listed 0 i.prototypes) (sym t.image) ∙ whole_listed 0 im.prototypes w in
      rw (t.frame, t.order) (ap (mending_after tag s room list) (ap (read_as tag) copy ∙ e) ∙ ap₂ (mending_in room list) copy list_is)

module _ (tag : ℕ) (s : List ℕ) (room list : ℕ) where
  -- theorem: "An image E1 takes comes back unchanged with an empty list", where the output has room for it
  pub mend_unchanged : Tagged tag → Bytes s → (im : Image) → read_as tag s ≡ taken im → length s ≤ room → mend_as tag s room list ≡ mended_to s []
  mend_unchanged ok b im e fits = unchanged tag s room list im e (taken_whole im (taken_is tag s im e).facts) (read_back tag s im ok b e) ∙ rw (le-ltb list 0 (omega arith), le-ltb room (length s) fits) refl

  -- theorem: mending twice is mending once
  pub mend_twice : Tagged tag → Bytes s → (bytes : List ℕ) (es : List Entry) → mend_as tag s room list ≡ mended_to bytes es → mend_as tag bytes room list ≡ mended_to bytes []
  mend_twice ok b bytes es e =
      let m = mends tag s room list bytes es e in
      let is : m.image ≡ mended_image (image_of tag (fields s)) = ruled_is _ _ (broken (mended_image (image_of tag (fields s)))) (sym (copy_read tag ok s b m.order) ∙ ap (read_as tag) (sym m.copy) ∙ m.takes) in
      unchanged tag bytes room list m.image m.takes (rw is (mended_protos (image_of tag (fields s)).prototypes)) (ap (written tag) is ∙ sym m.copy)
      ∙ rw (le-ltb list 0 (omega arith), le-ltb room (length bytes) m.fits) refl

  -- theorem: "Every other byte stays": as many bytes, and each is the old one but for the four of a listed instruction
  pub mend_kept : Tagged tag → Bytes s → (bytes : List ℕ) (es : List Entry) → mend_as tag s room list ≡ mended_to bytes es → Agree (InProtos tag 0 (image_of tag (fields s)).prototypes) 0 bytes s
  mend_kept ok b bytes es e =
      let m = mends tag s room list bytes es e in
      let back : written tag (image_of tag (fields s)) ≡ s = ordered_back tag s (image_of tag (fields s)) ok b m.frame m.order in
      rw m.copy (subst (Agree (InProtos tag 0 (image_of tag (fields s)).prototypes) 0 (mended_copy tag s)) back (kept_image tag (image_of tag (fields s))))
