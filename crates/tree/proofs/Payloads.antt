-- The loop over a payload's words: what is still to be answered and noted from here on is what was to be answered and noted at the start.
use mathlib.Core.Path.{◌≡◌, refl, sym, ap, ◌∙◌}
use mathlib.Core.Bool.{Bool, true, false, ◌&&◌, cond}
use mathlib.Core.List.{List, [], ◌∷◌}
use Prim.Native.Nat.{ℕ, ◌<◌, ◌≤◌}
use native.Mathlib.Omega.{arith}
use lib.ListN.{length, drop, length-drop}
use Rattle.meaning.specs.Fields.{word_at}
use Rattle.meaning.specs.Grammar.{lawful}
use Rattle.meaning.proofs.Lists.{tail_part}
use Rattle.meaning.proofs.FieldLaws.{from}
use Rattle.tree.specs.declared.rows.Row.{Row}
use Rattle.tree.specs.Rows.{row_at, kind_in, ends_in, next_left, next_row, fits_row}
use Rattle.tree.specs.Scratch.{tags_in, note_word, note_row}
use Rattle.tree.proofs.Table.{row_low}
use Rattle.tree.proofs.Words.{note_word_tags, note_word_length}

-- ---- `fits_row` and `note_row`, a word at a time

module _ (ok : ℕ → ℕ → Bool) (l : List ℕ) (i r left : ℕ) where
  -- no word is left: the end, or one byte
  pub row_end : (q : List ℕ) → length q ≡ 0 → (ends_in (row_at r) ≡ fits_row ok r left q) × (l ≡ note_row ok l i r left q)
  unfolding fits_row note_row
  row_end [] e = (refl, refl)
  row_end (a ∷ q) e = absurd (omega arith)

  pub row_odd : (q : List ℕ) → length q ≡ 1 → (false ≡ fits_row ok r left q) × (l ≡ note_row ok l i r left q)
  unfolding fits_row note_row
  row_odd [] e = absurd (omega arith)
  row_odd (a ∷ []) e = (refl, refl)
  row_odd (a ∷ b ∷ q) e = absurd (omega arith)

  -- a word and what comes after it
  module _ (q : List ℕ) (two : 2 ≤ length q) where
    abbrev left' : ℕ
    left' = next_left (row_at r) left (word_at q 0)

    fits_two : fits_row ok r left q ≡ ok (kind_in (row_at r)) (word_at q 0) && fits_row ok (next_row (row_at r) left') left' (drop 2 q)
    unfolding fits_row
    fits_two = go q two
      where
        go : (q : List ℕ) → 2 ≤ length q → let left' = next_left (row_at r) left (word_at q 0) in
            fits_row ok r left q ≡ ok (kind_in (row_at r)) (word_at q 0) && fits_row ok (next_row (row_at r) left') left' (drop 2 q)
        go [] h = absurd (omega arith)
        go (a ∷ []) h = absurd (omega arith)
        go (a ∷ b ∷ q) h = refl

    note_two : note_row ok l i r left q
        ≡ cond (ok (kind_in (row_at r)) (word_at q 0)) (note_row ok (note_word l i (kind_in (row_at r)) (word_at q 0)) i (next_row (row_at r) left') left' (drop 2 q)) l
    unfolding note_row
    note_two = go q two
      where
        go : (q : List ℕ) → 2 ≤ length q → let left' = next_left (row_at r) left (word_at q 0) in
            note_row ok l i r left q
            ≡ cond (ok (kind_in (row_at r)) (word_at q 0)) (note_row ok (note_word l i (kind_in (row_at r)) (word_at q 0)) i (next_row (row_at r) left') left' (drop 2 q)) l
        go [] h = absurd (omega arith)
        go (a ∷ []) h = absurd (omega arith)
        go (a ∷ b ∷ q) h = refl

-- the part `&q[2..]` is shorter
pub two_less : (q : List ℕ) → 2 ≤ length q → length (from 2 q) < length q
two_less q h = simp (tail_part, length-drop) (omega arith)

-- ---- the loop: l₀ and p are the scratch and the payload at the start, l and q as they are now

pub record Fitting (l₀ : List ℕ) (i first : ℕ) (p l q : List ℕ) (at left : ℕ) : Type 0 where
  pub low : at < 122
  pub size : length l ≡ length l₀
  pub tags : tags_in l ≡ tags_in l₀
  pub fit : fits_row (lawful (tags_in l₀) i) first 0 p ≡ fits_row (lawful (tags_in l₀) i) at left q
  pub notes : note_row (lawful (tags_in l₀) i) l₀ i first 0 p ≡ note_row (lawful (tags_in l₀) i) l i at left q

pub fitting_start : (l₀ : List ℕ) (i first : ℕ) (p : List ℕ) → first < 122 → Fitting l₀ i first p l₀ p first 0
fitting_start l₀ i first p h = record { low = h; size = refl; tags = refl; fit = refl; notes = refl }

module _ (l₀ : List ℕ) (i first : ℕ) (p l q : List ℕ) (at left : ℕ) (v : Fitting l₀ i first p l q at left) where
  -- what is answered and left of the scratch in the end
  abbrev Done : Bool → List ℕ → Type 0
  Done r l' = record { fits : r ≡ fits_row (lawful (tags_in l₀) i) first 0 p; noted : l' ≡ note_row (lawful (tags_in l₀) i) l₀ i first 0 p }

  pub fitting_end : (row : Row) → row ≡ row_at at → length q ≡ 0 → Done (ends_in row) l
  fitting_end row er h =
      let e = row_end (lawful (tags_in l₀) i) l i at left q h in
      record { fits = ap ends_in er ∙ e.0 ∙ sym v.fit; noted = e.1 ∙ sym v.notes }

  pub fitting_odd : length q ≡ 1 → Done false l
  fitting_odd h =
      let e = row_odd (lawful (tags_in l₀) i) l i at left q h in
      record { fits = e.0 ∙ sym v.fit; noted = e.1 ∙ sym v.notes }

  -- a word w at a row, found lawful or not
  module _ (two : 2 ≤ length q) (w : ℕ) (row : Row) (ew : w ≡ word_at q 0) (er : row ≡ row_at at) (l' : List ℕ) where
    is : (r : Bool) → r ≡ lawful (tags_in l) i (kind_in row) w → lawful (tags_in l₀) i (kind_in (row_at at)) (word_at q 0) ≡ r
    is r e = sym (e ∙ rw (v.tags, ew, er))

    pub fitting_stop : false ≡ lawful (tags_in l) i (kind_in row) w → l' ≡ l → Done false l'
    fitting_stop e f = record {
      fits = sym (v.fit ∙ fits_two (lawful (tags_in l₀) i) l i at left q two ∙ simp (is false e));
      noted = f ∙ sym (v.notes ∙ note_two (lawful (tags_in l₀) i) l i at left q two ∙ simp (is false e));
    }

    pub fitting_more : (at' left' : ℕ) → true ≡ lawful (tags_in l) i (kind_in row) w → l' ≡ note_word l i (kind_in row) w
        → left' ≡ next_left row left w → at' ≡ next_row row left' → Fitting l₀ i first p l' (from 2 q) at' left'
    fitting_more at' left' e f el ea = record {
      low = rw (ea, er) (row_low at v.low left');
      size = ap length f ∙ note_word_length l i (kind_in row) w ∙ v.size;
      tags = ap tags_in f ∙ note_word_tags l i (kind_in row) w ∙ v.tags;
      fit = v.fit ∙ fits_two (lawful (tags_in l₀) i) l i at left q two ∙ simp (is true e, tail_part, ea, el, ew, er);
      notes = v.notes ∙ note_two (lawful (tags_in l₀) i) l i at left q two ∙ simp (is true e, tail_part, ea, el, f, ew, er);
    }
