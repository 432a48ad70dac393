-- The field at the front tells the tag of an image's instructions, or leaves it to the fields behind it.
use mathlib.Core.Path.{◌≡◌, refl, ap, ◌∙◌}
use mathlib.Core.Bool.{true, false}
use mathlib.Core.List.{List}
use Prim.Native.Nat.{ℕ}
use lib.ListN.{get_or}
use borrow.Author.Tests.{eq-eqb, ne_eqb}
use Rattle.meaning.specs.Fields.{span, whole}
use Rattle.meaning.specs.Reader.{tag_in, image_tag}
use Rattle.meaning.proofs.FieldLaws.{from, fields_whole, fields_cut}
use Rattle.meaning.proofs.Lists.{tail_part}

module _ (t : List ℕ) (w : whole t ≡ true) where
  pub tells_wide : get_or t 0 0 ≡ 0x47 → image_tag t ≡ 0x47
  unfolding tag_in
  tells_wide e = ap tag_in (fields_whole t w) ∙ rw (eq-eqb (get_or t 0 0) 0x47 e) refl

  module _ (n : get_or t 0 0 ≡ 0x47 → ⊥) where
    pub tells_short : get_or t 0 0 ≡ 0x43 → image_tag t ≡ 0x43
    unfolding tag_in
    tells_short e = ap tag_in (fields_whole t w) ∙ rw (ne_eqb (get_or t 0 0) 0x47 n, eq-eqb (get_or t 0 0) 0x43 e) refl

    -- the part `&t[k..]`, k being the field's span
    pub tells_none : (get_or t 0 0 ≡ 0x43 → ⊥) → (k : ℕ) → k ≡ span t → image_tag t ≡ image_tag (from k t)
    unfolding tag_in
    tells_none m k e = rw (tail_part k t, e) (ap tag_in (fields_whole t w) ∙ rw (ne_eqb (get_or t 0 0) 0x47 n, ne_eqb (get_or t 0 0) 0x43 m) refl)

pub tells_end : (t : List ℕ) → whole t ≡ false → image_tag t ≡ 0x43
unfolding tag_in
tells_end t w = ap tag_in (fields_cut t w)
