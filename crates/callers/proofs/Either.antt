-- The reading that a caller gets (`read_image`): the tag of what is taken is that of its first instruction, so that the theorems over the tag are theorems of it.
-- The idea: what is taken with a tag is written back with it, and what is written with a tag has an instruction of it before any other.
use Prim.Native.Nat.{ℕ, ◌<◌}
use mathlib.Core.Path.{◌≡◌, refl, sym, ap, ◌∙◌, subst}
use mathlib.Core.Bool.{Bool, true, false, cond}
use mathlib.Core.Logic.{inl, inr, ◌↔◌}
use mathlib.Core.Option.{Option}
use mathlib.Core.List.{List, [], ◌∷◌, ◌++◌, map, append_assoc}
use native.Mathlib.Omega.{arith}
use lib.ListN.{length}
use lib.Dec.{eqb}
use Rattle.meaning.specs.Fields.{Field, fields}
use Rattle.meaning.specs.State.{Capture, Proto}
use Rattle.meaning.specs.Images.{Image}
use Rattle.meaning.specs.Image.{written}
use Rattle.meaning.specs.Steps.{inst_at, Amended, Walk}
use Rattle.meaning.specs.Safety.{All, Facts, Stands}
use Rattle.meaning.specs.Rules.{let_pass}
use Rattle.meaning.specs.Reader.{read_as, taken, tag_in, image_tag, read_image}
use Rattle.meaning.specs.declared.Instruction.{Instruction}
use Rattle.meaning.proofs.Images.{taken_facts, taken_stands}
use Rattle.meaning.proofs.Images.Fielded.{Bytes}
use Rattle.meaning.proofs.Images.Assembled.{Tagged, HeaderFits}
use Rattle.meaning.proofs.Images.Back.{read_back}
use Rattle.meaning.proofs.Images.Written.{Good, fields_written, exact, taken_good}
use Rattle.meaning.proofs.Images.Listed.{capture_field, inst_field, proto_fields}

-- it is 43 or 47
pub tagged_in : (fs : List Field) → Tagged (tag_in fs)
unfolding tag_in
tagged_in [] = inl refl
tagged_in (f ∷ fs) = go (tagged_in fs) (eqb f.tag 0x47) (eqb f.tag 0x43)
  where
    go : Tagged (tag_in fs) → (a b : Bool) → Tagged (cond a 0x47 (cond b 0x43 (tag_in fs)))
    go t true b = inr refl
    go t false true = inl refl
    go t false false = t

-- the first instruction behind captures tells the tag
tag_behind : (tag : ℕ) → Tagged tag → (cs : List Capture) (x : Instruction) (fs : List Field) → tag_in (map capture_field cs ++ inst_field tag x ∷ fs) ≡ tag
unfolding tag_in
tag_behind tag (inl e) [] x fs = subst (λ (t : ℕ). tag_in (inst_field t x ∷ fs) ≡ t) (sym e) refl
tag_behind tag (inr e) [] x fs = subst (λ (t : ℕ). tag_in (inst_field t x ∷ fs) ≡ t) (sym e) refl
tag_behind tag ok (c ∷ cs) x fs = tag_behind tag ok cs x fs

tag_first : (tag : ℕ) → Tagged tag → (ps : List Proto) (fs : List Field) → 0 < length ps → All (HeaderFits tag) ps → tag_in (proto_fields tag ps ++ fs) ≡ tag
unfolding tag_in proto_fields
tag_first tag ok [] fs l h = absurd (omega arith)
tag_first tag ok (p ∷ ps) fs l h = go p.code h.0.some
  where
    go : (xs : List Instruction) → 0 < length xs → tag_in ((map capture_field p.captures ++ (map (inst_field tag) xs ++ proto_fields tag ps)) ++ fs) ≡ tag
    go [] k = absurd (omega arith)
    go (x ∷ xs) k = simp append_assoc (tag_behind tag ok p.captures x _)

-- what is written with a tag tells it
pub written_tag : (tag : ℕ) (im : Image) → Tagged tag → 0 < length im.prototypes → All (HeaderFits tag) im.prototypes → image_tag (written tag im) ≡ tag
written_tag tag im ok some h = ap tag_in (fields_written tag im ok) ∙ tag_first tag ok im.prototypes _ some h

-- what is taken with a tag tells it
pub taken_tag : (tag : ℕ) → Tagged tag → (s : List ℕ) → Bytes s → (im : Image) → read_as tag s ≡ taken im → image_tag s ≡ tag
taken_tag tag ok s b im e =
    let g = taken_good tag ok s im b e in
    ap image_tag (sym (read_back tag s im ok b e)) ∙ written_tag tag im ok g.some g.numbers

-- so the caller's reading takes just what one of the two takes
pub taken_either : (tag : ℕ) → Tagged tag → (s : List ℕ) → Bytes s → (im : Image) → read_as tag s ≡ taken im → read_image s ≡ taken im
taken_either tag ok s b im e = ap (λ (t : ℕ). read_as t s) (taken_tag tag ok s b im e) ∙ e

module _ (s : List ℕ) (b : Bytes s) (im : Image) where
  -- theorem (a) of the caller's reading, both ways
  pub either_exactly : (read_image s ≡ taken im) ↔ ((tag : ℕ) × (Good tag im × (written tag im ≡ s)))
  either_exactly = (
    λ e. (image_tag s, (taken_good (image_tag s) (tagged_in (fields s)) s im b e, read_back (image_tag s) s im (tagged_in (fields s)) b e)),
    λ g. taken_either g.0 g.1.0.width s b im (subst (λ (x : List ℕ). read_as g.0 x ≡ taken im) g.1.1 (exact g.0 im g.1.0)),
  )

  module _ (e : read_image s ≡ taken im) where
    -- "writing back what was read gives the same bytes", with the tag that the image tells
    pub image_back : written (image_tag s) im ≡ s
    image_back = read_back (image_tag s) s im (tagged_in (fields s)) b e

    module _ (before : List Proto) (p : Proto) (after : List Proto) (at : im.prototypes ≡ before ++ p ∷ after) where
      -- the facts at every instruction, reached or not, but for the Return that is let pass
      pub image_facts : (i : ℕ) → i < length p.code → let_pass p i (inst_at p.code i) ≡ false → Facts im.constants before p i (inst_at p.code i)
      image_facts = taken_facts (image_tag s) (tagged_in (fields s)) s b im e before p after at

      -- every walk of the amended steps stays inside, and meets the facts where it stands
      pub image_stands : (o : Option ℕ) → Walk (Amended p.code) 0 o → Stands im.constants before p (Amended p.code) o
      image_stands = taken_stands (image_tag s) (tagged_in (fields s)) s b im e before p after at
