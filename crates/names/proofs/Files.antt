-- A renamed file: its fields are the fields, each renamed, and what stands after them stays; so every check ends as before.
use mathlib.Core.Path.{◌≡◌, refl, ap, ap₂, ◌∙◌}
use mathlib.Core.Bool.{Bool, true, false, cond}
use mathlib.Core.List.{List, [], ◌∷◌, ◌++◌, map, append_assoc}
use Prim.Native.Nat.{ℕ, zero, suc, ◌+◌, ◌*◌, ◌<◌, ◌≤◌}
use native.Mathlib.Nat.{le_refl}
use native.Mathlib.Omega.{arith}
use lib.ListN.{length, get_or, length-take, length-drop}
use lib.Dec.{eqb}
use Rattle.meaning.specs.Fields.{Field, span, whole, front, rest, payload_of, fields, left}
use Rattle.meaning.specs.Grammar.{Item, name, spread, kind_of, due_after, wide_marks}
use Rattle.meaning.specs.Image.{word, field}
use Rattle.meaning.proofs.FieldLaws.{whole_true, fields_whole, fields_cut, left_whole, left_cut}
use Rattle.meaning.proofs.Images.Fielded.{Bytes, bytes_at, bytes_drop}
use Rattle.meaning.proofs.Images.Written.{Sized, none_more, one_more, whole_is, front_is, rest_is}
use Rattle.meaning.proofs.Computing.{computing}
use Rattle.names.specs.Rename.{exchanged, naming_of, renamed_word, renamed_payload, renamed_field, bytes_by, renamed}

-- ---- computed

-- 9 and 12 exchanged in a text, in a variable, and in a function with a parameter: of the name, the pair's name, and the text; marks, counts and children stay
tree_renamed : renamed (exchanged 9 12)
    (0x02 ∷ 0 ∷ 2 ∷ 0 ∷ 12 ∷ 0x04 ∷ 0 ∷ 4 ∷ 0 ∷ 9 ∷ 0 ∷ 9 ∷ 0x1C ∷ 0 ∷ 12 ∷ 0 ∷ 12 ∷ 0 ∷ 9 ∷ 0 ∷ 1 ∷ 0 ∷ 9 ∷ 0 ∷ 12 ∷ 0 ∷ 9 ∷ [])
    ≡ (0x02 ∷ 0 ∷ 2 ∷ 0 ∷ 9 ∷ 0x04 ∷ 0 ∷ 4 ∷ 0 ∷ 12 ∷ 0 ∷ 9 ∷ 0x1C ∷ 0 ∷ 12 ∷ 0 ∷ 9 ∷ 0 ∷ 9 ∷ 0 ∷ 1 ∷ 0 ∷ 12 ∷ 0 ∷ 12 ∷ 0 ∷ 9 ∷ [])
unfolding computing renamed renamed_field renamed_payload renamed_word naming_of bytes_by
tree_renamed = refl

-- a function of two parameters; the last field is 3E, so that marks have two words
wide_renamed : renamed (exchanged 9 12)
    (0x09 ∷ 0 ∷ 14 ∷ 0 ∷ 2 ∷ 0 ∷ 9 ∷ 0 ∷ 12 ∷ 0 ∷ 9 ∷ 0 ∷ 12 ∷ 0 ∷ 9 ∷ 0 ∷ 12 ∷ 0x3E ∷ 0 ∷ 0 ∷ [])
    ≡ (0x09 ∷ 0 ∷ 14 ∷ 0 ∷ 2 ∷ 0 ∷ 12 ∷ 0 ∷ 12 ∷ 0 ∷ 9 ∷ 0 ∷ 9 ∷ 0 ∷ 9 ∷ 0 ∷ 12 ∷ 0x3E ∷ 0 ∷ 0 ∷ [])
unfolding computing renamed renamed_field renamed_payload renamed_word naming_of bytes_by
wide_renamed = refl

-- what is behind the last whole field stays, and so does an odd byte of a payload
rest_renamed : renamed (exchanged 9 12) (0x04 ∷ 0 ∷ 3 ∷ 0 ∷ 9 ∷ 9 ∷ 0x02 ∷ 0 ∷ 2 ∷ 9 ∷ []) ≡ (0x04 ∷ 0 ∷ 3 ∷ 0 ∷ 12 ∷ 9 ∷ 0x02 ∷ 0 ∷ 2 ∷ 9 ∷ [])
unfolding computing renamed renamed_field renamed_payload renamed_word naming_of bytes_by
rest_renamed = refl

-- ---- what is written is read, with a rest behind it

pub fields_behind : (fs : List Field) (l : List ℕ) → Sized fs → whole l ≡ false → fields (bytes_by fs ++ l) ≡ fs
unfolding bytes_by
fields_behind [] l z w = fields_cut l w
fields_behind (x ∷ fs) l (one_more h z) w =
    rw (append_assoc (field x.tag x.payload) (bytes_by fs) l)
    (fields_whole _ (whole_is x (bytes_by fs ++ l) h) ∙ ap₂ (λ (y : Field) (k : List Field). y ∷ k) (front_is x (bytes_by fs ++ l) h) (ap fields (rest_is x (bytes_by fs ++ l) h) ∙ fields_behind fs l z w))

pub left_behind : (fs : List Field) (l : List ℕ) → Sized fs → whole l ≡ false → left (bytes_by fs ++ l) ≡ l
unfolding bytes_by
left_behind [] l z w = left_cut l w
left_behind (x ∷ fs) l (one_more h z) w =
    rw (append_assoc (field x.tag x.payload) (bytes_by fs) l) (left_whole _ (whole_is x (bytes_by fs ++ l) h) ∙ ap left (rest_is x (bytes_by fs ++ l) h) ∙ left_behind fs l z w)

-- what stands after the fields is no field
left_turn : (t : List ℕ) (b : Bool) → whole t ≡ b → (whole t ≡ true → whole (left (rest t)) ≡ false) → whole (left t) ≡ false
left_turn t false w k = rw (left_cut t w) w
left_turn t true w k = rw (left_whole t w) (k w)

pub left_cut_off : (n : ℕ) (t : List ℕ) → length t ≤ n → whole (left t) ≡ false
left_cut_off zero t h = left_turn t (whole t) refl (λ w. absurd (omega (arith, whole_true t w)))
left_cut_off (suc n) t h = left_turn t (whole t) refl (λ w. left_cut_off n (rest t) (simp length-drop (omega (arith, whole_true t w))))

-- ---- the fields of bytes, renamed, have lengths that are words

module _ (f : ℕ → ℕ) where
  pub length_renamed : (is : List Item) (p : List ℕ) → length (renamed_payload f is p) ≡ length p
  unfolding renamed_payload renamed_word
  length_renamed is [] = refl
  length_renamed is (a ∷ []) = refl
  length_renamed is (a ∷ b ∷ p) = go (eqb (kind_of is) name) (renamed_payload f (due_after is (a * 256 + b)) p) (length_renamed (due_after is (a * 256 + b)) p)
    where
      go : (c : Bool) (x : List ℕ) → length x ≡ length p → length (cond c (word (f (a * 256 + b))) (a ∷ b ∷ []) ++ x) ≡ suc (suc (length p))
      go true x e = ap (λ (n : ℕ). suc (suc n)) e
      go false x e = ap (λ (n : ℕ). suc (suc n)) e

  short : (wide : Bool) (t : List ℕ) → Bytes t → length (renamed_field f wide (front t)).payload < 65536
  unfolding renamed_field
  short wide t b = rw (length_renamed (spread wide (naming_of (get_or t 0 0))) (payload_of t)) (simp length-take (omega (arith, bytes_at t b 1, bytes_at t b 2)))

  sized_turn : (wide : Bool) (t : List ℕ) (c : Bool) → whole t ≡ c → Bytes t → (whole t ≡ true → Sized (map (renamed_field f wide) (fields (rest t)))) → Sized (map (renamed_field f wide) (fields t))
  sized_turn wide t false w b k = rw (fields_cut t w) none_more
  sized_turn wide t true w b k = rw (fields_whole t w) (one_more (short wide t b) (k w))

  sized_renamed : (wide : Bool) (n : ℕ) (t : List ℕ) → length t ≤ n → Bytes t → Sized (map (renamed_field f wide) (fields t))
  sized_renamed wide zero t h b = sized_turn wide t (whole t) refl b (λ w. absurd (omega (arith, whole_true t w)))
  sized_renamed wide (suc n) t h b = sized_turn wide t (whole t) refl b (λ w. sized_renamed wide n (rest t) (simp length-drop (omega (arith, whole_true t w))) (bytes_drop (span t) t b))

  module _ (t : List ℕ) (b : Bytes t) where
    pub fields_renamed : fields (renamed f t) ≡ map (renamed_field f (wide_marks (fields t))) (fields t)
    unfolding renamed
    fields_renamed = fields_behind _ (left t) (sized_renamed (wide_marks (fields t)) (length t) t (le_refl _) b) (left_cut_off (length t) t (le_refl _))

    pub left_renamed : left (renamed f t) ≡ left t
    unfolding renamed
    left_renamed = left_behind _ (left t) (sized_renamed (wide_marks (fields t)) (length t) t (le_refl _) b) (left_cut_off (length t) t (le_refl _))
