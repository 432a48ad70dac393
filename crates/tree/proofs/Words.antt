-- The words of the scratch: noting a child changes no tag, and nothing at or above the node in hand; a payload that fits notes its children.
use mathlib.Core.Path.{◌≡◌, refl, sym, ap, ◌∙◌}
use mathlib.Core.Bool.{Bool, true, false, ◌&&◌, cond}
use mathlib.Core.List.{List, [], ◌∷◌, ◌++◌}
use Prim.Native.Nat.{ℕ, ◌+◌, ◌-◌, ◌*◌, ◌%◌, ◌<◌, ◌≤◌}
use native.Mathlib.Omega.{arith}
use lib.ListN.{length, get_or, set, take, drop, length-set, length-take, get_or-map}
use lib.Seq.{map-set_same, set_out, take-set-le, take-set-lt, drop-set-lt, drop-set-add, drop-drop, get_or-take}
use lib.Dec.{ltb}
use borrow.Author.Tests.{lt-ltb, le-ltb, ltb-true, ltb-false}
use Rattle.meaning.specs.Grammar.{names, inside, lawful}
use Rattle.meaning.proofs.Lists.{and_left, and_right}
use Rattle.tree.specs.Rows.{row_at, kind_in, next_left, next_row, fits_row, kids_row}
use Rattle.tree.specs.Scratch.{tags_in, noted, note, note_word, note_row, note_all, Beyond}

-- ---- tags

pub tag_at : (l : List ℕ) (w : ℕ) → get_or (tags_in l) w 0 ≡ get_or l w 0 % 256
tag_at l w = get_or-map (λ (v : ℕ). v % 256) l w 0

noted_tag : (v i : ℕ) → noted v i % 256 ≡ v % 256
unfolding noted
noted_tag v i = go (ltb v 256)
  where
    go : (b : Bool) → cond b (v + 256 * (i + 1)) (v % 256 + 16776960) % 256 ≡ v % 256
    go true = omega arith
    go false = omega arith

note_tags : (l : List ℕ) (i w : ℕ) → tags_in (note l i w) ≡ tags_in l
unfolding note
note_tags l i w = map-set_same (λ (v : ℕ). v % 256) l w (noted (get_or l w 0) i) 0 (noted_tag (get_or l w 0) i)

pub note_word_tags : (l : List ℕ) (i kind w : ℕ) → tags_in (note_word l i kind w) ≡ tags_in l
unfolding note_word
note_word_tags l i kind w = go (names kind w)
  where
    go : (b : Bool) → tags_in (cond b (note l i w) l) ≡ tags_in l
    go true = note_tags l i w
    go false = refl

pub note_word_length : (l : List ℕ) (i kind w : ℕ) → length (note_word l i kind w) ≡ length l
unfolding note_word note
note_word_length l i kind w = go (names kind w)
  where
    go : (b : Bool) → length (cond b (note l i w) l) ≡ length l
    go true = length-set l w (noted (get_or l w 0) i)
    go false = refl

-- ---- one word of a payload

module _ (l : List ℕ) (i kind w : ℕ) where
  -- what is answered and left of the scratch
  abbrev Admitted : Bool → List ℕ → Type 0
  Admitted r l' = record { lawful : r ≡ lawful (tags_in l) i kind w; noted : l' ≡ cond r (note_word l i kind w) l }

  module _ (child : names kind w ≡ true) where
    pub child_right : (l' : List ℕ) → w < i → true ≡ inside kind (get_or l w 0 % 256) → l' ≡ note l i w → Admitted true l'
    unfolding lawful note_word
    child_right l' h e f = record { lawful = simp (child, lt-ltb w i h, tag_at l w, ← e); noted = simp child f }

    pub child_wrong : w < i → false ≡ inside kind (get_or l w 0 % 256) → Admitted false l
    unfolding lawful
    child_wrong h e = record { lawful = simp (child, lt-ltb w i h, tag_at l w, ← e); noted = refl }

    pub child_above : i ≤ w → Admitted false l
    unfolding lawful
    child_above h = record { lawful = simp (child, le-ltb w i h); noted = refl }

  module _ (none : names kind w ≡ false) where
    kept : (r : Bool) → l ≡ cond r (note_word l i kind w) l
    unfolding note_word
    kept true = simp none
    kept false = refl

    pub word_lawful : (r : Bool) → kind < 6 → r ≡ inside kind w → Admitted r l
    unfolding lawful
    word_lawful r h e = record { lawful = simp (none, lt-ltb kind 6 h) e; noted = kept r }

    pub child_absent : 6 ≤ kind → Admitted true l
    unfolding lawful
    child_absent h = record { lawful = simp (none, le-ltb kind 6 h); noted = kept true }

-- ---- words below n alone have changed

pub beyond_refl : (n : ℕ) (l : List ℕ) → Beyond n l l
beyond_refl n l = record { size = refl; rest = refl }

pub beyond_then : (n : ℕ) (a b c : List ℕ) → Beyond n a b → Beyond n b c → Beyond n a c
beyond_then n a b c x y = record { size = y.size ∙ x.size; rest = y.rest ∙ x.rest }

pub beyond_set : (n : ℕ) (l : List ℕ) (w v : ℕ) → w < n → Beyond n l (set l w v)
beyond_set n l w v h = record { size = length-set l w v; rest = drop-set-lt n l w v h }

-- the same store beyond n in both
pub beyond_both : (n : ℕ) (a b : List ℕ) (w v : ℕ) → n ≤ w → Beyond n a b → Beyond n (set a w v) (set b w v)
beyond_both n a b w v h x = record {
  size = length-set b w v ∙ x.size ∙ sym (length-set a w v);
  rest = stored b ∙ ap (λ (l : List ℕ). set l (w - n) v) x.rest ∙ sym (stored a);
}
  where
    stored : (l : List ℕ) → drop n (set l w v) ≡ set (drop n l) (w - n) v
    stored l = let e : n + (w - n) ≡ w = omega arith in ap (λ (k : ℕ). drop n (set l k v)) (sym e) ∙ drop-set-add n l (w - n) v

pub beyond_more : (m n : ℕ) (a b : List ℕ) → m ≤ n → Beyond m a b → Beyond n a b
beyond_more m n a b h x = record {
  size = x.size;
  rest = further b ∙ ap (drop (n - m)) x.rest ∙ sym (further a);
}
  where
    further : (l : List ℕ) → drop n l ≡ drop (n - m) (drop m l)
    further l = let e : m + (n - m) ≡ n = omega arith in sym (drop-drop (n - m) m l ∙ ap (λ (k : ℕ). drop k l) e)

-- ---- a payload: every child that is noted is lawful, and so stands below the node

module _ (ts : List ℕ) (i : ℕ) where
  word_beyond : (l : List ℕ) (kind w : ℕ) → lawful ts i kind w ≡ true → Beyond i l (note_word l i kind w)
  unfolding lawful note_word note
  word_beyond l kind w e = go (names kind w) e
    where
      go : (b : Bool) → cond b (ltb w i && inside kind (get_or ts w 0)) (cond (ltb kind 6) (inside kind w) true) ≡ true
          → Beyond i l (cond b (set l w (noted (get_or l w 0) i)) l)
      go true p = beyond_set i l w _ (ltb-true w i (and_left _ _ p))
      go false p = beyond_refl i l

  pub row_beyond : (l : List ℕ) (r left : ℕ) (p : List ℕ) → Beyond i l (note_row (lawful ts i) l i r left p)
  unfolding note_row
  row_beyond l r left [] = beyond_refl i l
  row_beyond l r left (a ∷ []) = beyond_refl i l
  row_beyond l r left (a ∷ b ∷ p) = go (lawful ts i (kind_in (row_at r)) (a * 256 + b)) refl (row_beyond l' _ _ p)
    where
      l' : List ℕ
      l' = note_word l i (kind_in (row_at r)) (a * 256 + b)

      go : (t : Bool) → lawful ts i (kind_in (row_at r)) (a * 256 + b) ≡ t
          → {m : List ℕ} → Beyond i l' m → Beyond i l (cond t m l)
      go true e x = beyond_then i l l' _ (word_beyond l (kind_in (row_at r)) (a * 256 + b) e) x
      go false e x = beyond_refl i l

-- ---- a payload that fits: its children are noted, in order

pub all_append : (l : List ℕ) (i : ℕ) (a b : List ℕ) → note_all l i (a ++ b) ≡ note_all (note_all l i a) i b
unfolding note_all
all_append l i [] b = refl
all_append l i (w ∷ a) b = all_append (note l i w) i a b

word_all : (l : List ℕ) (i kind w : ℕ) → note_word l i kind w ≡ note_all l i (cond (names kind w) (w ∷ []) [])
unfolding note_word note_all
word_all l i kind w = go (names kind w)
  where
    go : (b : Bool) → cond b (note l i w) l ≡ note_all l i (cond b (w ∷ []) [])
    go true = refl
    go false = refl

pub row_kids : (ok : ℕ → ℕ → Bool) (l : List ℕ) (i r left : ℕ) (p : List ℕ) → fits_row ok r left p ≡ true → note_row ok l i r left p ≡ note_all l i (kids_row r left p)
unfolding fits_row note_row kids_row note_all
row_kids ok l i r left [] e = refl
row_kids ok l i r left (a ∷ []) e = refl
row_kids ok l i r left (a ∷ b ∷ p) e =
    let k = kind_in (row_at r) in
    let w = a * 256 + b in
    rw (and_left (ok k w) _ e)
    (row_kids ok (note_word l i k w) i _ _ p (and_right (ok k w) _ e)
    ∙ ap (λ (m : List ℕ). note_all m i (kids_row (next_row (row_at r) (next_left (row_at r) left w)) (next_left (row_at r) left w) p)) (word_all l i k w)
    ∙ sym (all_append l i (cond (names k w) (w ∷ []) []) _))

pub all_tags : (l : List ℕ) (i : ℕ) (ws : List ℕ) → tags_in (note_all l i ws) ≡ tags_in l
unfolding note_all
all_tags l i [] = refl
all_tags l i (w ∷ ws) = all_tags (note l i w) i ws ∙ note_tags l i w

-- ---- the words below h go by those below h alone

take_note : (h : ℕ) (l : List ℕ) (i w : ℕ) → take h (note l i w) ≡ note (take h l) i w
unfolding note
take_note h l i w = go (ltb w h) refl
  where
    go : (b : Bool) → ltb w h ≡ b → take h (set l w (noted (get_or l w 0) i)) ≡ set (take h l) w (noted (get_or (take h l) w 0) i)
    go true e = take-set-lt h l w _ (ltb-true w h e) ∙ ap (λ (v : ℕ). set (take h l) w (noted v i)) (sym (get_or-take h l w 0 (ltb-true w h e)))
    go false e = take-set-le h l w _ (ltb-false w h e) ∙ sym (set_out (take h l) w _ (omega (arith, length-take h l, ltb-false w h e)))

pub take_all_noted : (h : ℕ) (l : List ℕ) (i : ℕ) (ws : List ℕ) → take h (note_all l i ws) ≡ note_all (take h l) i ws
unfolding note_all
take_all_noted h l i [] = refl
take_all_noted h l i (w ∷ ws) = take_all_noted h (note l i w) i ws ∙ ap (λ (m : List ℕ). note_all m i ws) (take_note h l i w)
