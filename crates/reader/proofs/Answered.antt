-- The reader's answer, by what each stage found.
use mathlib.Core.Path.{◌≡◌, refl, sym, ap, ◌∙◌}
use mathlib.Core.Bool.{Bool, true, false, not, ◌&&◌, ◌||◌, cond}
use mathlib.Core.Logic.{◌⊎◌}
use mathlib.Core.Option as maybe
use mathlib.Core.List.{List}
use Prim.Native.Nat.{ℕ}
use native.Mathlib.Omega.{arith}
use lib.ListN.{length}
use lib.Dec.{eqb, ltb}
use borrow.Author.Tests.{eqb-true, eqb-false, lt-ltb}
use Rattle.std.specs.Prelude.{Option, Some, None, Ok, Err}
use Rattle.meaning.specs.Fields.{fields, left}
use Rattle.meaning.specs.Check.{framed}
use Rattle.meaning.specs.Images.{Image, image_of}
use Rattle.meaning.specs.Follow.{at_first, stray}
use Rattle.meaning.specs.Reader.{Read, refused, taken, ruled, broken, read_as, read_outcome}
use Rattle.meaning.specs.declared.Cause.TheVariants.{ImageFrame, ImageRule}
use Rattle.meaning.specs.Outcome.{Outcome, refusal}
use Rattle.meaning.proofs.Lists.{false_true}
use Rattle.meaning.proofs.Images.Back.{taken_is}
use Rattle.reader.specs.Spots.{spot_of}
use Rattle.reader.specs.Lens.{lens_image, ordered_by, read_by}
use Rattle.reader.specs.Laid.{Ordered}

-- the outcome of a reading
abbrev pub outcome_of : (tag : ℕ) → List ℕ → Outcome
outcome_of tag s = read_outcome (length (fields s)) (read_as tag s)

-- through the lens
abbrev pub outcome_by : (mend : Bool) → (tag : ℕ) → List ℕ → Outcome
outcome_by mend tag s = read_outcome (length (fields s)) (read_by mend tag s)

module _ (s : List ℕ) (n a : ℕ) (en : n ≡ length (fields s)) (ea : a ≡ length (left s)) where
  -- the test is that of the frame
  frame_is : (eqb n 0 || not (eqb a 0)) ≡ not (framed s)
  unfolding framed
  frame_is = rw (sym en, sym ea) (go (eqb n 0) refl (eqb a 0))
    where
      less : eqb n 0 ≡ false → ltb 0 n ≡ true
      less e = lt-ltb 0 n (let z = eqb-false n 0 e in omega arith)

      none_there : eqb n 0 ≡ true → ltb 0 n ≡ false
      none_there e = ap (ltb 0) (eqb-true n 0 e)

      go : (x : Bool) → eqb n 0 ≡ x → (y : Bool) → (x || not y) ≡ not (ltb 0 n && y)
      go true e y = rw (none_there e) refl
      go false e true = rw (less e) refl
      go false e false = rw (less e) refl

  pub frame_fails : (eqb n 0 || not (eqb a 0)) ≡ true → (mend : Bool) (tag : ℕ) → Err (refusal ImageFrame n) ≡ outcome_by mend tag s
  unfolding read_by
  frame_fails h mend tag = go (framed s) (sym frame_is ∙ h)
    where
      go : (b : Bool) → not b ≡ true → Err (refusal ImageFrame n) ≡ read_outcome (length (fields s)) (cond b (ordered_by mend tag (fields s) (stray tag at_first (fields s))) (refused ImageFrame (length (fields s))))
      go true e = absurd (false_true e)
      go false e = ap (λ (k : ℕ). Err (refusal ImageFrame k)) en

  pub frame_whole : (eqb n 0 || not (eqb a 0)) ≡ false → framed s ≡ true
  frame_whole h = go (framed s) (sym frame_is ∙ h)
    where
      go : (b : Bool) → not b ≡ false → b ≡ true
      go true e = refl
      go false e = absurd (false_true (sym e))

pub order_holds : (s : List ℕ) (tag : ℕ) (r : Option ℕ) → spot_of r ≡ stray tag at_first (fields s) → r ≡ None → stray tag at_first (fields s) ≡ maybe.none
order_holds s tag r er e = sym er ∙ ap spot_of e

module _ (mend : Bool) (s : List ℕ) (w : framed s ≡ true) (tag : ℕ) (r : Option ℕ) (er : spot_of r ≡ stray tag at_first (fields s)) where
  abbrev after : Option ℕ → Outcome
  after x = read_outcome (length (fields s)) (ordered_by mend tag (fields s) (spot_of x))

  read_on : outcome_by mend tag s ≡ after r
  unfolding read_by
  read_on = rw (w, er) refl

  pub order_fails : (place : ℕ) → r ≡ Some place → Err (refusal ImageRule place) ≡ outcome_by mend tag s
  order_fails place e = sym (ap after e) ∙ sym read_on

  pub facts_tell : (n : ℕ) → n ≡ length (fields s) → r ≡ None → read_outcome n (ruled (lens_image mend (image_of tag (fields s))) (broken (lens_image mend (image_of tag (fields s))))) ≡ outcome_by mend tag s
  facts_tell n en e = ap (λ (k : ℕ). read_outcome k (ruled (lens_image mend (image_of tag (fields s))) (broken (lens_image mend (image_of tag (fields s)))))) en ∙ sym (ap after e) ∙ sym read_on

module _ (n : ℕ) (im : Image) (r : Option ℕ) where
  pub none_told : r ≡ None → Ok n ≡ read_outcome n (ruled im (spot_of r))
  none_told h = sym (ap (λ (x : Option ℕ). read_outcome n (ruled im (spot_of x))) h)

  pub one_told : (place : ℕ) → r ≡ Some place → Err (refusal ImageRule place) ≡ read_outcome n (ruled im (spot_of r))
  one_told place h = sym (ap (λ (x : Option ℕ). read_outcome n (ruled im (spot_of x))) h)

  pub facts_are : (o : Outcome) → o ≡ read_outcome n (ruled im (spot_of r)) → spot_of r ≡ broken im → o ≡ read_outcome n (ruled im (broken im))
  facts_are o h e = h ∙ ap (λ (k : maybe.Option ℕ). read_outcome n (ruled im k)) e

-- ---- what a caller learns of an image that is accepted: it is taken, so it is in order

accepted_one : (n m : ℕ) (r : Read) → read_outcome n r ≡ Ok m → (im : Image) × (r ≡ taken im)
accepted_one n m (refused c place) e = absurd (let z : ◌≡◌ {A = ℕ} 0 1 = cc in omega arith)
accepted_one n m (taken im) e = (im, refl)

module _ (tag : ℕ) (s : List ℕ) (m : ℕ) (e : outcome_of tag s ≡ Ok m) where
  pub accepted_taken : (im : Image) × (read_as tag s ≡ taken im)
  accepted_taken = accepted_one (length (fields s)) m (read_as tag s) e

  pub accepted_ordered : (tag ≡ 0x43) ⊎ (tag ≡ 0x47) → Ordered s tag
  accepted_ordered ok = let t = accepted_taken in record { width = ok; order = (taken_is tag s t.0 t.1).order }
