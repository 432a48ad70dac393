-- The walk from field to field: what it knows of where it stands, and how many hits are behind it.
use mathlib.Core.Path.{◌≡◌, sym, ap, ap₂, ◌∙◌}
use mathlib.Core.Bool.{Bool, true, false, ◌&&◌, cond}
use mathlib.Core.List.{List, [], ◌++◌}
use Prim.Native.Nat.{ℕ, ◌+◌, ◌<◌, ◌≤◌}
use native.Mathlib.Omega.{arith}
use lib.ListN.{length, get_or, drop, length-append, length-drop}
use lib.Dec.{eqb, leb}
use Rattle.meaning.specs.Fields.{Field, word_at, span, whole, payload_of, front, rest, fields}
use Rattle.fields.specs.declared.Field as walked
use Rattle.meaning.proofs.FieldLaws.{whole_true, fields_whole, fields_cut}
use Rattle.meaning.proofs.Images.Fielded.{Bytes, bytes_at, bytes_take, bytes_drop}
use Rattle.mend.specs.declared.walk.Course.{Course}
use Rattle.mend.specs.Course.{met_field, course, hits, after}
use Rattle.mend.proofs.Courses.{entries_in}
use Rattle.mend.proofs.Seen.{hits_few}

-- a field that a walk hands on is the one at the front
pub is_front : (t : List ℕ) (f : walked.Field) → (f.tag ≡ get_or t 0 0) × (f.payload.now ≡ payload_of t) → met_field f ≡ front t
is_front t f e = ap₂ (λ (k : ℕ) (p : List ℕ). (let x : Field = record { tag = k; payload = p } in x)) e.0 e.1

-- where the walk stands, t being what is left of s
pub record Coursing (s t : List ℕ) (c : Course) : Type 0 where
  pub bytes : Bytes t
  pub code : c.code < 65536
  pub met : c.met + length t ≤ length s
  pub index : c.index + length t ≤ length s

-- before the first field, as the derive gives it
pub begun : (c : Course) → (c.met ≡ 0) × ((c.code ≡ 0) × (c.index ≡ 0)) → course 0 0 0 ≡ c
begun c e = sym (ap (λ (k : ℕ). course k c.code c.index) e.0 ∙ ap (λ (k : ℕ). course 0 k c.index) e.1.0 ∙ ap (λ (k : ℕ). course 0 0 k) e.1.1)

pub coursing_start : (s : List ℕ) → Bytes s → Coursing s s (course 0 0 0)
coursing_start s b = record { bytes = b; code = omega arith; met = omega arith; index = omega arith }

module _ (tag : ℕ) (c : Course) (f : Field) (b : Bytes f.payload) where
  after_code : c.code < 65536 → (after tag c f).code < 65536
  unfolding after
  after_code h = go (eqb f.tag 0x41 && leb 10 (length f.payload)) (eqb f.tag tag)
    where
      go : (x y : Bool) → (cond x (course (c.met + 1) (word_at f.payload 8) 0) (cond y (course c.met c.code (c.index + 1)) c)).code < 65536
      go true y = omega (arith, bytes_at f.payload b 8, bytes_at f.payload b 9)
      go false true = h
      go false false = h

  after_met : ((after tag c f).met ≤ c.met + 1) × ((after tag c f).index ≤ c.index + 1)
  unfolding after
  after_met = go (eqb f.tag 0x41 && leb 10 (length f.payload)) (eqb f.tag tag)
    where
      go : (x y : Bool) → ((cond x (course (c.met + 1) (word_at f.payload 8) 0) (cond y (course c.met c.code (c.index + 1)) c)).met ≤ c.met + 1)
          × ((cond x (course (c.met + 1) (word_at f.payload 8) 0) (cond y (course c.met c.code (c.index + 1)) c)).index ≤ c.index + 1)
      go true y = (omega arith, omega arith)
      go false true = (omega arith, omega arith)
      go false false = (omega arith, omega arith)

module _ (s t : List ℕ) (c : Course) (r : Coursing s t c) (tag : ℕ) (w : whole t ≡ true) where
  pub rest_size : length (rest t) + span t ≡ length t
  rest_size = omega (arith, length-drop (span t) t, whole_true t w)

  pub coursing_more : Coursing s (rest t) (after tag c (front t))
  coursing_more =
      let b = bytes_take (word_at t 1) (drop 3 t) (bytes_drop 3 t r.bytes) in
      let m = after_met tag c (front t) b in
      record {
        bytes = bytes_drop (span t) t r.bytes;
        code = after_code tag c (front t) b r.code;
        met = omega (arith, m.0, r.met, rest_size);
        index = omega (arith, m.1, r.index, rest_size);
      }

-- ---- counting

-- e hits stand before t
pub record Counting (s : List ℕ) (tag : ℕ) (t : List ℕ) (c : Course) (e : ℕ) : Type 0 where
  pub at : Coursing s t c
  pub same : e + length (entries_in tag c (fields t)) ≡ length (entries_in tag (course 0 0 0) (fields s))
  pub few : e + length t ≤ length s

pub counting_start : (s : List ℕ) (tag : ℕ) → Bytes s → Counting s tag s (course 0 0 0) 0
counting_start s tag b = record { at = coursing_start s b; same = omega arith; few = omega arith }

pub entries_more : (tag : ℕ) (c : Course) (t : List ℕ) → whole t ≡ true → entries_in tag c (fields t) ≡ hits tag c (front t) ++ entries_in tag (after tag c (front t)) (fields (rest t))
unfolding entries_in
entries_more tag c t w = ap (entries_in tag c) (fields_whole t w)

pub entries_end : (tag : ℕ) (c : Course) (t : List ℕ) → whole t ≡ false → entries_in tag c (fields t) ≡ []
unfolding entries_in
entries_end tag c t w = ap (entries_in tag c) (fields_cut t w)

module _ (s : List ℕ) (tag : ℕ) (t : List ℕ) (c : Course) (e : ℕ) (r : Counting s tag t c e) where
  pub counting_more : whole t ≡ true → (f : Field) → f ≡ front t → (h : ℕ) → h ≡ length (hits tag c f) → (c' : Course) → c' ≡ after tag c f → (t' : List ℕ) → t' ≡ rest t → Counting s tag t' c' (e + h)
  counting_more w f ef h eh c' ec t' et =
      let en : h ≡ length (hits tag c (front t)) = eh ∙ ap (λ (x : Field). length (hits tag c x)) ef in
      rw (et, ec, ef) record {
        at = coursing_more s t c r.at tag w;
        same = omega (arith, en, r.same, ap length (entries_more tag c t w), length-append (hits tag c (front t)) (entries_in tag (after tag c (front t)) (fields (rest t))));
        few = omega (arith, en, r.few, hits_few tag c (front t), rest_size s t c r.at tag w);
      }

  pub counting_end : whole t ≡ false → e ≡ length (entries_in tag (course 0 0 0) (fields s))
  counting_end w = omega (arith, r.same, ap length (entries_end tag c t w))
