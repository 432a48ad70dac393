-- The walk over the fields of an image finds what Mend lists, and replaces what Mend replaces. The idea: fields in order are those of the image that they stand for, prototype by prototype.
use mathlib.Core.Path.{◌≡◌, refl, sym, ap, ap₂, ◌∙◌, subst}
use mathlib.Core.Bool.{Bool, true, false, cond}
use mathlib.Core.Logic.{⊎_elim}
use mathlib.Core.List.{List, [], ◌∷◌, ◌++◌, map, append_assoc}
use Prim.Native.Nat.{ℕ, ◌+◌, ◌-◌, ◌<◌}
use native.Mathlib.Nat.{le_refl}
use native.Mathlib.Omega.{arith}
use lib.ListN.{length, drop}
use lib.Dec.{eqb}
use borrow.Author.Tests.{eq-eqb, ne_eqb, lt-ltb, le-leb}
use Rattle.meaning.specs.Fields.{Field, word_at, fields}
use Rattle.meaning.specs.Constant.{Constant, number, text, other}
use Rattle.meaning.specs.State.{Capture, Proto}
use Rattle.meaning.specs.Images.{image_of}
use Rattle.meaning.specs.Image.{word, mark_bytes}
use Rattle.meaning.specs.Safety.{All}
use Rattle.meaning.specs.Mend.{replaced, mended, mended_from, mended_proto, mended_image, Entry, listed_from, listed, mended_copy, listed_in}
use Rattle.meaning.specs.declared.Instruction.{Instruction}
use Rattle.meaning.proofs.Images.Fielded.{Bytes, payloads}
use Rattle.meaning.proofs.Images.Listed.{header_field, capture_field, inst_field, constant_field, proto_fields, image_fields, bytes_of, written_is}
use Rattle.meaning.proofs.Images.Assembled.{Tagged, MarkFits, HeaderFits, image_back}
use Rattle.meaning.proofs.Images.Written.{word_is, inst_again, ordered_formed}
use Rattle.meaning.proofs.Mend.Laws.{not_replaced, is_replaced, mended_length}
use Rattle.reader.specs.Laid.{Ordered}
use Rattle.mend.specs.declared.walk.Course.{Course}
use Rattle.mend.specs.Course.{course, hit, hits, after}

-- what is listed of fields
unfoldable pub entries_in : (tag : ℕ) → Course → List Field → List Entry
entries_in tag c [] = []
entries_in tag c (f ∷ fs) = hits tag c f ++ entries_in tag (after tag c f) fs

-- a field as it is copied: of a replaced instruction the first four bytes are those of Return 0 0 0
abbrev pub copied_field : (tag : ℕ) → Course → Field → Field
copied_field tag c f = cond (hit tag c f) (record { tag = f.tag; payload = 20 ∷ 0 ∷ 0 ∷ 0 ∷ drop 4 f.payload }) f

unfoldable pub copied : (tag : ℕ) → Course → List Field → List Field
copied tag c [] = []
copied tag c (f ∷ fs) = copied_field tag c f ∷ copied tag (after tag c f) fs

-- a header that names so many instructions
abbrev sized_header : Proto → ℕ → Field
sized_header p k = record { tag = 0x41; payload = word p.name ++ (word p.params ++ (word p.registers ++ (word (length p.captures) ++ word k))) }

-- what becomes of fields from a course on
record Gives (tag : ℕ) (c : Course) (fs : List Field) (es : List Entry) (gs : List Field) : Type 0 where
  entries : entries_in tag c fs ≡ es
  copies : copied tag c fs ≡ gs

module _ (tag : ℕ) (ok : Tagged tag) where
  not_tag : (t : ℕ) → (t ≡ 0x43 → ⊥) → (t ≡ 0x47 → ⊥) → eqb t tag ≡ false
  not_tag t n m = ne_eqb t tag (λ e. ⊎_elim (λ (q : tag ≡ 0x43). n (e ∙ q)) (λ (q : tag ≡ 0x47). m (e ∙ q)) ok)

  tag_not_header : eqb tag 0x41 ≡ false
  tag_not_header = ne_eqb tag 0x41 (λ e. ⊎_elim (λ (q : tag ≡ 0x43). omega arith) (λ (q : tag ≡ 0x47). omega arith) ok)

  -- a field that is neither an instruction nor a header
  plain : (c : Course) (f : Field) → eqb f.tag tag ≡ false → eqb f.tag 0x41 ≡ false → (fs : List Field) (es : List Entry) (gs : List Field) → Gives tag c fs es gs → Gives tag c (f ∷ fs) es (f ∷ gs)
  unfolding entries_in copied hits hit after
  plain c f e h fs es gs g = record { entries = rw (e, h) g.entries; copies = rw (e, h) (ap (λ (l : List Field). f ∷ l) g.copies) }

  of_constants : (c : Course) (ks : List Constant) → Gives tag c (map constant_field ks) [] (map constant_field ks)
  unfolding entries_in copied
  of_constants c [] = record { entries = refl; copies = refl }
  of_constants c (number b ∷ ks) = plain c (constant_field (number b)) (not_tag 0x44 (λ q. omega arith) (λ q. omega arith)) refl _ _ _ (of_constants c ks)
  of_constants c (text n ∷ ks) = plain c (constant_field (text n)) (not_tag 0x45 (λ q. omega arith) (λ q. omega arith)) refl _ _ _ (of_constants c ks)
  of_constants c (other w ∷ ks) = plain c (constant_field (other w)) (not_tag 0x46 (λ q. omega arith) (λ q. omega arith)) refl _ _ _ (of_constants c ks)

  of_captures : (c : Course) (cs : List Capture) (fs : List Field) (es : List Entry) (gs : List Field) → Gives tag c fs es gs → Gives tag c (map capture_field cs ++ fs) es (map capture_field cs ++ gs)
  of_captures c [] fs es gs g = g
  of_captures c (x ∷ cs) fs es gs g = plain c (capture_field x) (not_tag 0x42 (λ q. omega arith) (λ q. omega arith)) refl _ _ _ (of_captures c cs fs es gs g)

  -- an instruction
  module _ (q n i : ℕ) (h : i < n) (x : Instruction) (fits : MarkFits tag x) where
    abbrev here : Course
    here = course (q + 1) n i

    hit_is : hit tag here (inst_field tag x) ≡ replaced n i x
    unfolding hit
    hit_is = rw (eq-eqb tag tag refl, le-leb 4 (length (inst_field tag x).payload) (omega arith), lt-ltb 0 (q + 1) (omega arith), lt-ltb i n h) (ap (replaced n i) (inst_again tag ok x fits))

    hits_are : hits tag here (inst_field tag x) ≡ cond (replaced n i x) (record { prototype = q; index = i; old = x } ∷ []) []
    unfolding hits
    hits_are = rw hit_is (ap₂ (λ (m : ℕ) (y : Instruction). cond (replaced n i x) ((let e : Entry = record { prototype = m; index = i; old = y } in e) ∷ []) []) (let z : q + 1 - 1 ≡ q = omega arith in z) (inst_again tag ok x fits))

    copied_is : copied_field tag here (inst_field tag x) ≡ inst_field tag (mended n i x)
    copied_is = rw hit_is (go (replaced n i x) refl)
      where
        go : (b : Bool) → replaced n i x ≡ b → cond b (let f : Field = record { tag = tag; payload = 20 ∷ 0 ∷ 0 ∷ 0 ∷ mark_bytes tag x.mark } in f) (inst_field tag x) ≡ inst_field tag (mended n i x)
        go true e = ap (inst_field tag) (sym (is_replaced n i x e))
        go false e = ap (inst_field tag) (sym (not_replaced n i x e))

    after_is : after tag here (inst_field tag x) ≡ course (q + 1) n (i + 1)
    unfolding after
    after_is = rw (tag_not_header, eq-eqb tag tag refl) refl

  of_code : (q n i : ℕ) (xs : List Instruction) → i + length xs ≡ n → All (MarkFits tag) xs → (fs : List Field) (es : List Entry) (gs : List Field) → Gives tag (course (q + 1) n n) fs es gs
      → Gives tag (course (q + 1) n i) (map (inst_field tag) xs ++ fs) (listed_from q n i xs ++ es) (map (inst_field tag) (mended_from n i xs) ++ gs)
  unfolding entries_in copied listed_from mended_from
  of_code q n i [] e m fs es gs g = subst (λ (k : ℕ). Gives tag (course (q + 1) n k) fs es gs) (let z : n ≡ i = omega arith in z) g
  of_code q n i (x ∷ xs) e m fs es gs g =
      let h : i < n = omega arith in
      let r = of_code q n (i + 1) xs (omega arith) m.1 fs es gs g in
      record {
        entries = rw (hits_are q n i h x m.0, after_is q n i h x m.0, r.entries) (joins (replaced n i x) _ (listed_from q n (i + 1) xs) es);
        copies = rw (after_is q n i h x m.0, r.copies) (ap (λ (f : Field). f ∷ (map (inst_field tag) (mended_from n (i + 1) xs) ++ gs)) (copied_is q n i h x m.0));
      }
    where
      joins : (b : Bool) (e : Entry) (l k : List Entry) → cond b (e ∷ []) [] ++ (l ++ k) ≡ cond b (e ∷ l) l ++ k
      joins true e l k = refl
      joins false e l k = refl

  -- a header
  of_header : (c : Course) (p : Proto) → length p.code < 65536 → (fs : List Field) (es : List Entry) (gs : List Field) → Gives tag (course (c.met + 1) (length p.code) 0) fs es gs
      → (h : Field) → header_field p ≡ h → Gives tag c (header_field p ∷ fs) es (h ∷ gs)
  unfolding entries_in copied hits hit after
  of_header c p few fs es gs g h same =
      let count : word_at (header_field p).payload 8 ≡ length p.code = word_is (length p.code) few in
      let no = not_tag 0x41 (λ z. omega arith) (λ z. omega arith) in
      record { entries = rw (no, count) g.entries; copies = rw (no, count) (ap₂ (λ (f : Field) (l : List Field). f ∷ l) same g.copies) }

  -- prototypes, then constants
  of_protos : (q n i : ℕ) (ps : List Proto) → All (HeaderFits tag) ps → (ks : List Constant)
      → Gives tag (course q n i) (proto_fields tag ps ++ map constant_field ks) (listed q ps) (proto_fields tag (map mended_proto ps) ++ map constant_field ks)
  unfolding listed proto_fields
  of_protos q n i [] fit ks = of_constants (course q n i) ks
  of_protos q n i (p ∷ ps) fit ks =
      let m = length p.code in
      let r = of_captures (course (q + 1) m 0) p.captures _ _ _ (of_code q m 0 p.code (omega arith) fit.0.marks _ _ _ (of_protos (q + 1) m m ps fit.1 ks)) in
      simp append_assoc (of_header (course q n i) p fit.0.code _ _ _ r (header_field (mended_proto p)) (ap (sized_header p) (sym (mended_length m 0 p.code))))

-- ---- an image in order

module _ (tag : ℕ) (s : List ℕ) (b : Bytes s) (o : Ordered s tag) where
  all_given : Gives tag (course 0 0 0) (fields s) (listed_in tag s) (image_fields tag (mended_image (image_of tag (fields s))))
  all_given =
      let im = image_of tag (fields s) in
      subst (λ (fs : List Field). Gives tag (course 0 0 0) fs (listed_in tag s) (image_fields tag (mended_image im))) (image_back tag o.width (fields s) (payloads (length s) s (le_refl _) b) o.order)
      (of_protos tag o.width 0 0 0 im.prototypes (ordered_formed tag o.width s b o.order).numbers im.constants)

  pub entries_are : entries_in tag (course 0 0 0) (fields s) ≡ listed_in tag s
  entries_are = all_given.entries

  pub copies_are : bytes_of (copied tag (course 0 0 0) (fields s)) ≡ mended_copy tag s
  copies_are = ap bytes_of all_given.copies ∙ sym (written_is tag (mended_image (image_of tag (fields s))))
