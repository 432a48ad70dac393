-- Children and parents. A node of the right shape names no child at or above itself; so a node that is a child once has its parent above it,
-- and its depth is one more than its parent's.
use mathlib.Core.Path.{◌≡◌, refl, sym, ap, ◌∙◌}
use mathlib.Core.Bool.{Bool, true, false, ◌&&◌, cond}
use mathlib.Core.Logic.{⊎_elim}
use mathlib.Core.List.{List, [], ◌∷◌}
use Prim.Native.Nat.{ℕ, zero, suc, ◌+◌, ◌*◌, ◌<◌, ◌≤◌}
use native.Mathlib.Nat.{add-zero}
use native.Mathlib.Omega.{arith}
use lib.ListN.{length, get_or, get_or-eq_default}
use lib.Dec.{eqb, leb, ltb}
use borrow.Author.Tests.{ltb-true, leb-true, eqb-false, eq-eqb, ne_eqb}
use Rattle.meaning.specs.Base.{count}
use Rattle.meaning.specs.Fields.{Field, field_at}
use Rattle.meaning.specs.Grammar.{Item, never, bounds, bound, inside, names, lawful, grammar, items_of, is_program, spread_kinds, spread, items_in, items_for, wide_marks, kind_of, ends, due_after, fits, kids, tags_of, shape_at}
use Rattle.meaning.specs.Tree.{kids_of, all_kids, parent_by, parent_of, depth_by}
use Rattle.meaning.proofs.Lists.{lt_or_le, and_left, and_right, false_true, zeros, count_append}

-- ---- a payload that fits names no child at or above its node

module _ (ts : List ℕ) (i c : ℕ) (h : i ≤ c) where
  word_below : (kind w : ℕ) → lawful ts i kind w ≡ true → count c (cond (names kind w) (w ∷ []) []) ≡ 0
  unfolding lawful count
  word_below kind w e = go (names kind w) e
    where
      go : (b : Bool) → cond b (ltb w i && inside kind (get_or ts w 0)) (cond (ltb kind 6) (inside kind w) true) ≡ true
          → count c (cond b (w ∷ []) []) ≡ 0
      go true p = let l = ltb-true w i (and_left _ _ p) in simp (ne_eqb w c (λ q. omega arith))
      go false p = refl

  pub kids_below : (is : List Item) (p : List ℕ) → fits (lawful ts i) is p ≡ true → count c (kids is p) ≡ 0
  unfolding fits kids count
  kids_below is [] e = refl
  kids_below is (a ∷ []) e = refl
  kids_below is (a ∷ b ∷ p) e =
      count_append c (cond (names (kind_of is) (a * 256 + b)) ((a * 256 + b) ∷ []) []) _
      ∙ zeros (word_below (kind_of is) (a * 256 + b) (and_left _ _ e)) (kids_below (due_after is (a * 256 + b)) p (and_right (lawful ts i (kind_of is) (a * 256 + b)) _ e))

-- no word is of the kind `none`, so nothing fits `never`
pub inside_none : (w : ℕ) → inside 0 w ≡ true → ⊥
unfolding inside bound bounds
inside_none w e =
    let low = leb-true 1 w (and_left (leb 1 w) _ (and_left (leb 1 w && leb w 0) _ e)) in
    let high = leb-true w 0 (and_right (leb 1 w) _ (and_left (leb 1 w && leb w 0) _ e)) in
    omega arith

pub none_fits : (ts : List ℕ) (i : ℕ) (p : List ℕ) → fits (lawful ts i) never p ≡ true → ⊥
unfolding fits ends kind_of lawful names
none_fits ts i [] e = false_true e
none_fits ts i (a ∷ []) e = false_true e
none_fits ts i (a ∷ b ∷ p) e = inside_none (a * 256 + b) (and_left _ _ e)

-- a payload that fits where the last node must be a program fits its tag
pub fits_tag : (wide : Bool) (ts : List ℕ) (i tag : ℕ) (last : Bool) (p : List ℕ) → fits (lawful ts i) (items_for wide tag last) p ≡ true → fits (lawful ts i) (items_in wide tag) p ≡ true
unfolding items_for
fits_tag wide ts i tag true p e = go (is_program tag) e
  where
    go : (b : Bool) → fits (lawful ts i) (cond b (items_in wide tag) never) p ≡ true → fits (lawful ts i) (items_in wide tag) p ≡ true
    go true q = q
    go false q = absurd (none_fits ts i p q)
fits_tag wide ts i tag false p e = go (is_program tag) e
  where
    go : (b : Bool) → fits (lawful ts i) (cond b never (items_in wide tag)) p ≡ true → fits (lawful ts i) (items_in wide tag) p ≡ true
    go true q = absurd (none_fits ts i p q)
    go false q = q

pub shape_fits : (fs : List Field) (j : ℕ) → shape_at fs j ≡ true → fits (lawful (tags_of fs) j) (items_in (wide_marks fs) (field_at fs j).tag) (field_at fs j).payload ≡ true
unfolding shape_at
shape_fits fs j e = fits_tag (wide_marks fs) (tags_of fs) j (field_at fs j).tag (eqb (j + 1) (length fs)) (field_at fs j).payload e

-- its tag is one of the table's
pub shape_tag : (fs : List Field) (j : ℕ) → shape_at fs j ≡ true → (field_at fs j).tag < 63
unfolding items_in items_of grammar spread spread_kinds
shape_tag fs j e =
    ⊎_elim (λ (q : (field_at fs j).tag < 63). q)
    (λ (q : 63 ≤ (field_at fs j).tag). absurd (none_fits (tags_of fs) j (field_at fs j).payload
    (ap (λ (is : List Item). fits (lawful (tags_of fs) j) (spread (wide_marks fs) is) (field_at fs j).payload) (sym (get_or-eq_default grammar never q)) ∙ shape_fits fs j e)))
    (lt_or_le (field_at fs j).tag 63)

-- a node of the right shape has no child at or above it
pub shape_kids : (fs : List Field) (j c : ℕ) → shape_at fs j ≡ true → j ≤ c → count c (kids_of (wide_marks fs) (field_at fs j)) ≡ 0
unfolding kids_of
shape_kids fs j c e h = kids_below (tags_of fs) j c h (items_in (wide_marks fs) (field_at fs j).tag) (field_at fs j).payload (shape_fits fs j e)

pub child_below : (fs : List Field) (j c : ℕ) → shape_at fs j ≡ true → 1 ≤ count c (kids_of (wide_marks fs) (field_at fs j)) → c < j
child_below fs j c e h = ⊎_elim (λ (q : c < j). q) (λ (q : j ≤ c). absurd (omega (arith, shape_kids fs j c e q))) (lt_or_le c j)

-- ---- the parent: one of the nodes, and c is a child of it

module _ (wide : Bool) (c : ℕ) where
  -- a field's own count, and that of those after it
  pub count_kids : (f : Field) (fs : List Field) → count c (all_kids wide (f ∷ fs)) ≡ count c (kids_of wide f) + count c (all_kids wide fs)
  unfolding all_kids
  count_kids f fs = count_append c (kids_of wide f) (all_kids wide fs)

  pub count_none : count c (all_kids wide []) ≡ 0
  unfolding count all_kids
  count_none = refl

  pub parent_is : (i : ℕ) (fs : List Field) → 1 ≤ count c (all_kids wide fs)
      → (j : ℕ) × (parent_by wide c i fs ≡ i + j) × (j < length fs) × (1 ≤ count c (kids_of wide (field_at fs j)))
  unfolding parent_by
  parent_is i [] p = absurd (omega (arith, count_none))
  parent_is i (f ∷ fs) p = go (count c (kids_of wide f)) refl (λ q. parent_is (suc i) fs q)
    where
      go : (k : ℕ) → count c (kids_of wide f) ≡ k
          → (1 ≤ count c (all_kids wide fs) → (j : ℕ) × (parent_by wide c (suc i) fs ≡ suc i + j) × (j < length fs) × (1 ≤ count c (kids_of wide (field_at fs j))))
          → (j : ℕ) × (cond (eqb k 0) (parent_by wide c (suc i) fs) i ≡ i + j) × (j < length (f ∷ fs)) × (1 ≤ count c (kids_of wide (field_at (f ∷ fs) j)))
      go zero q rec = let r = rec (omega (arith, count_kids f fs)) in (suc r.0, omega (arith, r.1), omega (arith, r.2), r.3)
      go (suc k) q rec = (0, rw (ne_eqb (suc k) 0 (λ e. omega arith)) (sym (add-zero i)), omega arith, omega arith)

pub parent_above : (fs : List Field) (c : ℕ) → ((j : ℕ) → j < length fs → shape_at fs j ≡ true) → 1 ≤ count c (all_kids (wide_marks fs) fs)
    → (c < parent_of fs c) × (parent_of fs c < length fs)
unfolding parent_of
parent_above fs c good e =
    let r = parent_is (wide_marks fs) c 0 fs e in
    let p : parent_by (wide_marks fs) c 0 fs ≡ r.0 = r.1 ∙ omega arith in
    let l = child_below fs r.0 c (good r.0 r.2) r.3 in
    (omega (arith, p), omega (arith, p, r.2))

-- ---- depths

module _ (parent : ℕ → ℕ) (last : ℕ) (above : (c : ℕ) → c < last → (c < parent c) × (parent c ≤ last)) where
  depth_fuel : (f g c : ℕ) → c ≤ last → last < c + f → last < c + g → depth_by parent last f c ≡ depth_by parent last g c
  unfolding depth_by
  depth_fuel zero g c h p q = absurd (omega arith)
  depth_fuel (suc f) zero c h p q = absurd (omega arith)
  depth_fuel (suc f) (suc g) c h p q = go (eqb c last) refl (λ l. depth_fuel f g (parent c) (above c l).1 (omega (arith, (above c l).0)) (omega (arith, (above c l).0)))
    where
      go : (b : Bool) → eqb c last ≡ b → (c < last → depth_by parent last f (parent c) ≡ depth_by parent last g (parent c))
          → cond b 1 (suc (depth_by parent last f (parent c))) ≡ cond b 1 (suc (depth_by parent last g (parent c)))
      go true e rec = refl
      go false e rec = ap suc (rec (omega (arith, eqb-false c last e)))

  pub depth_last : (f : ℕ) → depth_by parent last (suc f) last ≡ 1
  unfolding depth_by
  depth_last f = simp (eq-eqb last last refl)

  pub depth_step : (c : ℕ) → c < last → depth_by parent last (suc last) c ≡ suc (depth_by parent last (suc last) (parent c))
  unfolding depth_by
  depth_step c h = rw (ne_eqb c last (λ e. omega arith)) (ap suc (depth_fuel last (suc last) (parent c) (above c h).1 (omega (arith, (above c h).0)) (omega (arith, (above c h).0))))

  -- the depths by another account of the parents
  pub depth_same : (parent' : ℕ → ℕ) → ((c : ℕ) → c < last → parent' c ≡ parent c) → (f c : ℕ) → c ≤ last → depth_by parent last f c ≡ depth_by parent' last f c
  unfolding depth_by
  depth_same parent' same zero c h = refl
  depth_same parent' same (suc f) c h = go (eqb c last) refl (λ l. depth_same parent' same f (parent c) (above c l).1)
    where
      go : (b : Bool) → eqb c last ≡ b → (c < last → depth_by parent last f (parent c) ≡ depth_by parent' last f (parent c))
          → cond b 1 (suc (depth_by parent last f (parent c))) ≡ cond b 1 (suc (depth_by parent' last f (parent' c)))
      go true e rec = refl
      go false e rec = let l : c < last = omega (arith, eqb-false c last e) in rw (same c l) (ap suc (rec l))
