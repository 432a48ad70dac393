-- The answer, by what each stage found.
use mathlib.Core.Path.{◌≡◌, refl, sym, ap, ◌∙◌}
use mathlib.Core.Bool.{Bool, true, false, cond}
use mathlib.Core.Option.{Option, none, some}
use mathlib.Core.List.{List}
use Prim.Native.Nat.{ℕ, ◌*◌, ◌/◌, ◌<◌}
use native.Mathlib.Omega.{arith}
use lib.ListN.{length}
use lib.Dec.{ltb}
use borrow.Author.Tests.{lt-ltb, le-ltb}
use Rattle.meaning.specs.Fields.{fields}
use Rattle.meaning.specs.Check.{framed}
use Rattle.meaning.specs.Images.{Image, image_of}
use Rattle.meaning.specs.Follow.{at_first, stray}
use Rattle.meaning.specs.Reader.{Read, refused, taken, read_outcome}
use Rattle.meaning.specs.Mend.{mended_copy, listed_in, read_copy, read_mended, mending_in, mending_after, mend_as}
use Rattle.meaning.specs.declared.Cause.{Cause}
use Rattle.meaning.specs.declared.Cause.TheVariants.{Room, ImageFrame, ListRoom}
use Rattle.std.specs.Prelude.{Ok, Err}
use Rattle.meaning.specs.Outcome.{Outcome, refusal}
use Rattle.meaning.proofs.Images.Fielded.{Bytes}
use Rattle.meaning.proofs.Images.Back.{ordered_back}
use Rattle.meaning.proofs.Mend.Kept.{kept_image}
use Rattle.reader.specs.Laid.{Ordered}
use Rattle.mend.specs.Course.{mend_outcome}

module _ (tag : ℕ) (s : List ℕ) (room list : ℕ) where
  abbrev due : Outcome
  due = mend_outcome (mend_as tag s room list)

  -- a refusal stays
  refused_stays : (n : ℕ) (r : Read) (c : Cause) (place : ℕ) → read_outcome n r ≡ Err (refusal c place) → Err (refusal c place) ≡ mend_outcome (mending_after tag s room list r)
  refused_stays n (refused d q) c place e = sym e
  refused_stays n (taken im) c place e = absurd (let z : ◌≡◌ {A = ℕ} 0 1 = cc in omega arith)

  pub told_refused : (n : ℕ) (o : Outcome) → o ≡ read_outcome n (read_mended tag s) → (c : Cause) (place : ℕ) → o ≡ Err (refusal c place) → o ≡ due
  unfolding mend_as
  told_refused n o e c place q = q ∙ refused_stays n (read_mended tag s) c place (sym e ∙ q)

  -- accepted means taken
  is_taken : (n m : ℕ) (r : Read) → read_outcome n r ≡ Ok m → (im : Image) × (r ≡ taken im)
  is_taken n m (refused c place) e = absurd (let z : ◌≡◌ {A = ℕ} 0 1 = cc in omega arith)
  is_taken n m (taken im) e = (im, refl)

  in_order : (im : Image) (o : Option ℕ) → stray tag at_first (fields s) ≡ o → read_copy tag s o ≡ taken im → stray tag at_first (fields s) ≡ none
  in_order im none e q = e
  in_order im (some place) e q = absurd (let z : ◌≡◌ {A = ℕ} 0 1 = cc in omega arith)

  in_frame : (im : Image) (b : Bool) → framed s ≡ b → cond b (read_copy tag s (stray tag at_first (fields s))) (refused ImageFrame (length (fields s))) ≡ taken im → (framed s ≡ true) × (stray tag at_first (fields s) ≡ none)
  in_frame im true f q = (f, in_order im (stray tag at_first (fields s)) refl q)
  in_frame im false f q = absurd (let z : ◌≡◌ {A = ℕ} 0 1 = cc in omega arith)

  module _ (n m : ℕ) (o : Outcome) (e : o ≡ read_outcome n (read_mended tag s)) (a : o ≡ Ok m) where
    abbrev T : (im : Image) × (read_mended tag s ≡ taken im)
    T = is_taken n m (read_mended tag s) (sym e ∙ a)

    pub framed_order : (framed s ≡ true) × (stray tag at_first (fields s) ≡ none)
    unfolding read_mended
    framed_order = in_frame T.0 (framed s) refl T.1

    taken_on : due ≡ mend_outcome (mending_in room list (mended_copy tag s) (listed_in tag s))
    unfolding mend_as
    taken_on = ap (λ (r : Read). mend_outcome (mending_after tag s room list r)) T.1

    module _ (entries : ℕ) (ee : entries ≡ length (listed_in tag s)) where
      -- 26
      pub told_list : list / 8 < entries → Err (refusal ListRoom 0) ≡ due
      told_list h = sym (taken_on ∙ rw (lt-ltb list (8 * length (listed_in tag s)) (omega arith)) refl)

      module _ (fits : (list / 8 < entries) → ⊥) (size : length (mended_copy tag s) ≡ length s) where
        enough : ltb list (8 * length (listed_in tag s)) ≡ false
        enough = le-ltb list (8 * length (listed_in tag s)) (omega (arith, fits))

        -- 18
        pub told_room : room < length s → Err (refusal Room 0) ≡ due
        told_room h = sym (taken_on ∙ rw (enough, lt-ltb room (length (mended_copy tag s)) (omega arith)) refl)

        pub told_mended : (room < length s → ⊥) → Ok entries ≡ due
        told_mended h = sym (taken_on ∙ rw (enough, le-ltb room (length (mended_copy tag s)) (omega (arith, h))) (ap Ok (sym ee)))

-- the copy is as long as the image
pub same_size : (tag : ℕ) (s : List ℕ) → Bytes s → Ordered s tag → framed s ≡ true → length (mended_copy tag s) ≡ length s
same_size tag s b o f = (kept_image tag (image_of tag (fields s))).size ∙ ap length (ordered_back tag s (image_of tag (fields s)) o.width b f o.order)
