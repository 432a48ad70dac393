-- The output and the list while fields are replaced. The idea: what is done, then what is left of the image as it was; and what is done with what will become of the rest is the whole copy.
use mathlib.Core.Path.{◌≡◌, refl, sym, ap, ap₂, ◌∙◌}
use mathlib.Core.Bool.{Bool, true, false, cond}
use mathlib.Core.List.{List, [], ◌∷◌, ◌++◌, append_assoc, append-nil}
use Prim.Native.Nat.{ℕ, suc, ◌+◌, ◌*◌, ◌≤◌}
use native.Mathlib.Omega.{arith}
use lib.ListN.{length, get_or, take, drop, length-append}
use lib.Seq.{sets, sets-eq, length-sets, take_at, drop-append-add, drop-drop}
use Rattle.meaning.specs.Fields.{Field, span, whole, front, rest, fields, left}
use Rattle.meaning.specs.Image.{word}
use Rattle.meaning.specs.Mend.{Entry, entry_bytes, list_bytes}
use Rattle.meaning.proofs.FieldLaws.{fields_whole, fields_cut, left_whole, left_cut}
use Rattle.meaning.proofs.Images.Fielded.{Bytes, front_back}
use Rattle.meaning.proofs.Images.Listed.{field_bytes, bytes_of}
use Rattle.reader.proofs.Glances.{front_size}
use Rattle.mend.specs.declared.walk.Course.{Course}
use Rattle.mend.specs.Course.{course, hit, hits, after}
use Rattle.mend.proofs.Courses.{entries_in, copied_field, copied}
use Rattle.mend.proofs.Seen.{long}
use Rattle.mend.proofs.Coursing.{Coursing, coursing_start, coursing_more, rest_size, entries_more, entries_end}

-- ---- the list

pub list_append : (a b : List Entry) → list_bytes (a ++ b) ≡ list_bytes a ++ list_bytes b
unfolding list_bytes
list_append [] b = refl
list_append (e ∷ a) b = ap (λ (l : List ℕ). entry_bytes e ++ l) (list_append a b) ∙ sym (append_assoc (entry_bytes e) (list_bytes a) (list_bytes b))

pub list_size : (es : List Entry) → length (list_bytes es) ≡ 8 * length es
unfolding list_bytes entry_bytes
list_size [] = refl
list_size (e ∷ es) = omega (arith, list_size es)

-- ---- four bytes of a field

-- stored at their place
put_four : (done : List ℕ) (f g h w x y z : ℕ) (m : List ℕ) → sets (done ++ (f ∷ g ∷ h ∷ w ∷ x ∷ y ∷ z ∷ m)) (length done + 3) (20 ∷ 0 ∷ 0 ∷ 0 ∷ []) ≡ done ++ (f ∷ g ∷ h ∷ 20 ∷ 0 ∷ 0 ∷ 0 ∷ m)
put_four [] f g h w x y z m = refl
put_four (d ∷ done) f g h w x y z m =
    ap (λ (k : ℕ). sets (d ∷ (done ++ (f ∷ g ∷ h ∷ w ∷ x ∷ y ∷ z ∷ m))) k (20 ∷ 0 ∷ 0 ∷ 0 ∷ [])) (let e : suc (length done) + 3 ≡ suc (length done + 3) = omega arith in e)
    ∙ ap (λ (l : List ℕ). d ∷ l) (put_four done f g h w x y z m)

four_of : (p : List ℕ) → 4 ≤ length p → p ≡ get_or p 0 0 ∷ get_or p 1 0 ∷ get_or p 2 0 ∷ get_or p 3 0 ∷ drop 4 p
four_of [] h = absurd (omega arith)
four_of (a ∷ []) h = absurd (omega arith)
four_of (a ∷ b ∷ []) h = absurd (omega arith)
four_of (a ∷ b ∷ c ∷ []) h = absurd (omega arith)
four_of (a ∷ b ∷ c ∷ d ∷ p) h = refl

-- a field whose first four bytes become those of Return 0 0 0
abbrev returned : Field → Field
returned f = record { tag = f.tag; payload = 20 ∷ 0 ∷ 0 ∷ 0 ∷ drop 4 f.payload }

same_size : (f : Field) → 4 ≤ length f.payload → length (returned f).payload ≡ length f.payload
same_size f h = sym (ap length (four_of f.payload h))

put_returned : (done : List ℕ) (f : Field) (m : List ℕ) → 4 ≤ length f.payload → sets (done ++ (field_bytes f ++ m)) (length done + 3) (20 ∷ 0 ∷ 0 ∷ 0 ∷ []) ≡ done ++ (field_bytes (returned f) ++ m)
put_returned done f m h =
    ap (λ (p : List ℕ). sets (done ++ (f.tag ∷ (word (length f.payload) ++ (p ++ m)))) (length done + 3) (20 ∷ 0 ∷ 0 ∷ 0 ∷ [])) (four_of f.payload h)
    ∙ put_four done _ _ _ _ _ _ _ (drop 4 f.payload ++ m)
    ∙ ap (λ (n : ℕ). done ++ (f.tag ∷ (word n ++ (20 ∷ 0 ∷ 0 ∷ 0 ∷ (drop 4 f.payload ++ m))))) (sym (same_size f h))

-- ---- from field to field

-- of s, before t: at bytes of the output are done, and w of the list
pub record Putting (s : List ℕ) (tag : ℕ) (o₀ l₀ t : List ℕ) (c : Course) (at w : ℕ) (o l : List ℕ) : Type 0 where
  pub course_is : Coursing s t c
  pub here : at + length t ≡ length s
  pub done : List ℕ
  pub done_size : length done ≡ at
  pub out_is : o ≡ done ++ (t ++ drop (length s) o₀)
  pub out_end : done ++ (bytes_of (copied tag c (fields t)) ++ left t) ≡ bytes_of (copied tag (course 0 0 0) (fields s)) ++ left s
  pub listed : List ℕ
  pub listed_size : length listed ≡ w
  pub list_is : l ≡ listed ++ drop w l₀
  pub list_end : listed ++ list_bytes (entries_in tag c (fields t)) ≡ list_bytes (entries_in tag (course 0 0 0) (fields s))
  pub out_size : length o ≡ length o₀
  pub list_size_is : length l ≡ length l₀
  pub list_room : length (list_bytes (entries_in tag (course 0 0 0) (fields s))) ≤ length l₀

pub putting_start : (s : List ℕ) (tag : ℕ) (o₀ l₀ : List ℕ) → Bytes s → o₀ ≡ s ++ drop (length s) o₀ → length (list_bytes (entries_in tag (course 0 0 0) (fields s))) ≤ length l₀ → Putting s tag o₀ l₀ s (course 0 0 0) 0 0 o₀ l₀
putting_start s tag o₀ l₀ b e h = record {
  course_is = coursing_start s b;
  here = omega arith;
  done = [];
  done_size = refl;
  out_is = e;
  out_end = refl;
  listed = [];
  listed_size = refl;
  list_is = refl;
  list_end = refl;
  out_size = refl;
  list_size_is = refl;
  list_room = h;
}

module _ (s : List ℕ) (tag : ℕ) (o₀ l₀ t : List ℕ) (c : Course) (at w : ℕ) (o l : List ℕ) (r : Putting s tag o₀ l₀ t c at w o l) where
  abbrev tail : List ℕ
  tail = drop (length s) o₀

  module _ (whole_one : whole t ≡ true) where
    abbrev f : Field
    f = front t

    abbrev E : List ℕ
    E = list_bytes (hits tag c f)

    abbrev more : List Entry
    more = entries_in tag (after tag c f) (fields (rest t))

    list_split : list_bytes (entries_in tag c (fields t)) ≡ E ++ list_bytes more
    list_split = ap list_bytes (entries_more tag c t whole_one) ∙ list_append (hits tag c f) more

    -- there is room for what is listed of the field
    pub room : w + length E ≤ length l
    room = omega (arith, r.listed_size, r.list_room, r.list_size_is, ap length r.list_end, length-append r.listed (list_bytes (entries_in tag c (fields t))), ap length list_split, length-append E (list_bytes more))

    -- the field as it is copied
    abbrev g : Field
    g = copied_field tag c f

    out_split : o ≡ r.done ++ (field_bytes f ++ (rest t ++ tail))
    out_split = r.out_is ∙ ap (λ (x : List ℕ). r.done ++ x) (ap (λ (x : List ℕ). x ++ tail) (sym (front_back t r.course_is.bytes whole_one)) ∙ append_assoc (field_bytes f) (rest t) tail)

    stored : (o' : List ℕ) → o' ≡ cond (hit tag c f) (sets o (at + 3) (20 ∷ 0 ∷ 0 ∷ 0 ∷ [])) o → o' ≡ r.done ++ (field_bytes g ++ (rest t ++ tail))
    stored o' e = e ∙ go (hit tag c f) refl
      where
        go : (b : Bool) → hit tag c f ≡ b → cond b (sets o (at + 3) (20 ∷ 0 ∷ 0 ∷ 0 ∷ [])) o ≡ r.done ++ (field_bytes (cond b (returned f) f) ++ (rest t ++ tail))
        go true h = ap₂ (λ (x : List ℕ) (k : ℕ). sets x (k + 3) (20 ∷ 0 ∷ 0 ∷ 0 ∷ [])) out_split (sym r.done_size) ∙ put_returned r.done f (rest t ++ tail) (long f tag c h)
        go false h = out_split

    field_size : length (field_bytes g) ≡ span t
    field_size = go (hit tag c f) refl
      where
        go : (b : Bool) → hit tag c f ≡ b → length (field_bytes (cond b (returned f) f)) ≡ span t
        go true h = omega (arith, same_size f (long f tag c h), front_size t whole_one)
        go false h = omega (arith, front_size t whole_one)

    out_done : (r.done ++ field_bytes g) ++ (bytes_of (copied tag (after tag c f) (fields (rest t))) ++ left (rest t)) ≡ bytes_of (copied tag (course 0 0 0) (fields s)) ++ left s
    unfolding copied bytes_of
    out_done =
        append_assoc r.done (field_bytes g) _ ∙ ap (λ (x : List ℕ). r.done ++ x) (sym (append_assoc (field_bytes g) _ (left (rest t))))
        ∙ sym (ap₂ (λ (x : List Field) (y : List ℕ). r.done ++ (bytes_of (copied tag c x) ++ y)) (fields_whole t whole_one) (left_whole t whole_one)) ∙ r.out_end

    list_done : (l' : List ℕ) → l' ≡ sets l w E → l' ≡ (r.listed ++ E) ++ drop (w + length E) l₀
    list_done l' e =
        e ∙ sets-eq E l w room
        ∙ ap₂ (λ (x y : List ℕ). (x ++ E) ++ y) (ap (take w) r.list_is ∙ take_at r.listed (drop w l₀) w r.listed_size)
        (ap₂ (λ (x : List ℕ) (k : ℕ). drop (k + length E) x) r.list_is (sym r.listed_size) ∙ drop-append-add r.listed (drop w l₀) (length E) ∙ drop-drop (length E) w l₀)

    put_on : (o' l' : List ℕ) → o' ≡ cond (hit tag c f) (sets o (at + 3) (20 ∷ 0 ∷ 0 ∷ 0 ∷ [])) o → l' ≡ sets l w E
        → (n : ℕ) → n ≡ length E → (c' : Course) → c' ≡ after tag c f → (k : ℕ) → k ≡ span t → Putting s tag o₀ l₀ (rest t) c' (at + k) (w + n) o' l'
    put_on o' l' eo el n en c' ec k ek =
        rw (ec, en, ek) record {
          course_is = coursing_more s t c r.course_is tag whole_one;
          here = omega (arith, r.here, rest_size s t c r.course_is tag whole_one);
          done = r.done ++ field_bytes g;
          done_size = length-append r.done (field_bytes g) ∙ omega (arith, r.done_size, field_size);
          out_is = stored o' eo ∙ sym (append_assoc r.done (field_bytes g) (rest t ++ tail));
          out_end = out_done;
          listed = r.listed ++ E;
          listed_size = length-append r.listed E ∙ omega (arith, r.listed_size);
          list_is = list_done l' el;
          list_end = append_assoc r.listed E (list_bytes more) ∙ ap (λ (x : List ℕ). r.listed ++ x) (sym list_split) ∙ r.list_end;
          out_size = ap length eo ∙ kept_size (hit tag c f) ∙ r.out_size;
          list_size_is = ap length el ∙ length-sets l w E ∙ r.list_size_is;
          list_room = r.list_room;
        }
      where
        kept_size : (b : Bool) → length (cond b (sets o (at + 3) (20 ∷ 0 ∷ 0 ∷ 0 ∷ [])) o) ≡ length o
        kept_size true = length-sets o (at + 3) (20 ∷ 0 ∷ 0 ∷ 0 ∷ [])
        kept_size false = refl

    -- the field as the code has it
    pub putting_more : (x : Field) → x ≡ f → (o' l' : List ℕ) → o' ≡ cond (hit tag c x) (sets o (at + 3) (20 ∷ 0 ∷ 0 ∷ 0 ∷ [])) o → l' ≡ sets l w (list_bytes (hits tag c x))
        → (n : ℕ) → n ≡ length (list_bytes (hits tag c x)) → (c' : Course) → c' ≡ after tag c x → (t' : List ℕ) → t' ≡ rest t → Putting s tag o₀ l₀ t' c' (at + (3 + length x.payload)) (w + n) o' l'
    putting_more x e o' l' eo el n en c' ec t' et =
        rw et (
        put_on o' l' (eo ∙ ap (λ (y : Field). cond (hit tag c y) (sets o (at + 3) (20 ∷ 0 ∷ 0 ∷ 0 ∷ [])) o) e) (el ∙ ap (λ (y : Field). sets l w (list_bytes (hits tag c y))) e)
        n (en ∙ ap (λ (y : Field). length (list_bytes (hits tag c y))) e) c' (ec ∙ ap (after tag c) e)
        (3 + length x.payload) (omega (arith, ap (λ (y : Field). length y.payload) e, front_size t whole_one))
        )

  -- the rest of the image lies within the output
  pub fits : at + length t ≤ length o
  fits = omega (arith, r.done_size, ap length r.out_is, length-append r.done (t ++ tail), length-append t tail)

  -- no field is left
  module _ (cut : whole t ≡ false) where
    pub out_all : left s ≡ [] → o ≡ bytes_of (copied tag (course 0 0 0) (fields s)) ++ tail
    unfolding copied bytes_of
    out_all e =
        let copy = bytes_of (copied tag (course 0 0 0) (fields s)) in
        let last : r.done ++ t ≡ copy ++ left s = sym (ap₂ (λ (x : List Field) (y : List ℕ). r.done ++ (bytes_of (copied tag c x) ++ y)) (fields_cut t cut) (left_cut t cut)) ∙ r.out_end in
        let all_of : r.done ++ t ≡ copy = last ∙ ap (λ (x : List ℕ). copy ++ x) e ∙ append-nil copy in
        r.out_is ∙ sym (append_assoc r.done t tail) ∙ ap (λ (x : List ℕ). x ++ tail) all_of

    pub list_all : l ≡ list_bytes (entries_in tag (course 0 0 0) (fields s)) ++ drop (length (list_bytes (entries_in tag (course 0 0 0) (fields s)))) l₀
    unfolding list_bytes
    list_all =
        let full : r.listed ≡ list_bytes (entries_in tag (course 0 0 0) (fields s)) = sym (append-nil r.listed) ∙ sym (ap (λ (x : List Entry). r.listed ++ list_bytes x) (entries_end tag c t cut)) ∙ r.list_end in
        r.list_is ∙ ap₂ (λ (x : List ℕ) (k : ℕ). x ++ drop k l₀) full (sym r.listed_size ∙ ap length full)
