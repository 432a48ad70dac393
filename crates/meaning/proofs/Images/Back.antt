-- What it means that an image is taken, and theorem (b): "writing back what was read gives the same bytes".
use Prim.Native.Nat.{ℕ}
use mathlib.Core.Path.{◌≡◌, refl, sym, ap, ◌∙◌}
use mathlib.Core.Bool.{Bool, true, false, cond}
use mathlib.Core.Option.{Option, none, some}
use mathlib.Core.List.{List}
use native.Mathlib.Nat.{le_refl}
use native.Mathlib.Omega.{arith}
use lib.ListN.{length}
use lib.Dec.{ltb}
use borrow.Author.Tests.{eqb-true}
use Rattle.meaning.specs.Fields.{fields, left}
use Rattle.meaning.specs.Check.{framed}
use Rattle.meaning.specs.Images.{Image, image_of}
use Rattle.meaning.specs.Image.{written}
use Rattle.meaning.specs.Follow.{at_first, stray}
use Rattle.meaning.specs.Reader.{refused, taken, ruled, broken, ordered, read_as}
use Rattle.meaning.specs.declared.Cause.{Cause}
use Rattle.meaning.specs.declared.Cause.TheVariants.{ImageFrame}
use Rattle.meaning.proofs.Lists.{and_right, empty}
use Rattle.meaning.proofs.Images.Listed.{bytes_of, written_is}
use Rattle.meaning.proofs.Images.Fielded.{Bytes, fields_back, payloads}
use Rattle.meaning.proofs.Images.Assembled.{Tagged, image_back}

-- what it means that an image is taken
pub record Taken (tag : ℕ) (s : List ℕ) (im : Image) : Type 0 where
  pub frame : framed s ≡ true
  pub order : stray tag at_first (fields s) ≡ none
  pub image : im ≡ image_of tag (fields s)
  pub facts : broken im ≡ none

refused_not : {c : Cause} {p : ℕ} {im : Image} → refused c p ≡ taken im → ⊥
refused_not e = let z : ◌≡◌ {A = ℕ} 0 1 = cc in omega arith

module _ (tag : ℕ) (s : List ℕ) (im : Image) where
  abbrev I : Image
  I = image_of tag (fields s)

  facts_hold : framed s ≡ true → stray tag at_first (fields s) ≡ none → (o : Option ℕ) → broken I ≡ o → ruled I o ≡ taken im → Taken tag s im
  facts_hold p q (some k) b r = absurd (refused_not r)
  facts_hold p q none b r = let i : im ≡ I = cc in record { frame = p; order = q; image = i; facts = rw i b }

  in_order : framed s ≡ true → (o : Option ℕ) → stray tag at_first (fields s) ≡ o → ordered tag (fields s) o ≡ taken im → Taken tag s im
  in_order p (some k) q r = absurd (refused_not r)
  in_order p none q r = facts_hold p q (broken I) refl r

  in_frame : (b : Bool) → framed s ≡ b → cond b (ordered tag (fields s) (stray tag at_first (fields s))) (refused ImageFrame (length (fields s))) ≡ taken im → Taken tag s im
  in_frame false p r = absurd (refused_not r)
  in_frame true p r = in_order p (stray tag at_first (fields s)) refl r

  pub taken_is : read_as tag s ≡ taken im → Taken tag s im
  unfolding read_as
  taken_is e = in_frame (framed s) refl e

  pub taken_if : Taken tag s im → read_as tag s ≡ taken im
  unfolding read_as
  taken_if t =
      let h : broken (image_of tag (fields s)) ≡ none = ap broken (sym t.image) ∙ t.facts in
      rw (t.frame, t.order, h) (ap taken (sym t.image))

  -- theorem (b), of an image in order
  pub ordered_back : Tagged tag → Bytes s → framed s ≡ true → stray tag at_first (fields s) ≡ none → written tag I ≡ s
  unfolding framed
  ordered_back ok b f o =
      let whole = empty (left s) (omega (arith, eqb-true (length (left s)) 0 (and_right (ltb 0 (length (fields s))) _ f))) in
      written_is tag I ∙ ap bytes_of (image_back tag ok (fields s) (payloads (length s) s (le_refl _) b) o) ∙ fields_back (length s) s (le_refl _) b whole

  -- of one that is taken
  pub read_back : Tagged tag → Bytes s → read_as tag s ≡ taken im → written tag im ≡ s
  read_back ok b e = let t = taken_is e in ap (written tag) t.image ∙ ordered_back ok b t.frame t.order
