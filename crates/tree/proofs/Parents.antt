-- What the words of the scratch say after all nodes: how often a node is a child, and of which node. Followed for one node c, a word is its
-- tag when c is entered, and then goes by how many children c each later node has.
use mathlib.Core.Path.{◌≡◌, refl, sym, ap, ◌∙◌}
use mathlib.Core.Bool.{Bool, true, false, ◌&&◌, cond}
use mathlib.Core.List.{List, [], ◌∷◌}
use Prim.Native.Nat.{ℕ, zero, suc, ◌+◌, ◌*◌, ◌<◌, ◌≤◌}
use native.Mathlib.Omega.{arith}
use lib.ListN.{length, get_or, set, drop, length-set}
use lib.Seq.{get_or-set_same, get_or-set_other}
use lib.Dec.{eqb, leb, ltb}
use borrow.Author.Tests.{lt-ltb, le-ltb, lt-leb, le-leb, eqb-true, eqb-false, ne_eqb}
use Rattle.meaning.specs.Base.{count}
use Rattle.meaning.specs.Fields.{Field, field_at}
use Rattle.meaning.specs.Grammar.{wide_marks}
use Rattle.meaning.specs.Tree.{kids_of, all_kids, parent_by, parent_of, tree_at}
use Rattle.meaning.proofs.Kids.{count_kids, count_none, parent_is}
use Rattle.tree.specs.Scratch.{noted, note, note_all, enter_all, once, parent_in}

-- ---- the word of node c

-- after k more children c of node i
mark : (k i v : ℕ) → ℕ
mark zero i v = v
mark (suc k) i v = mark k i (noted v i)

-- after the fields fs, of which the first is node i
marks : (wide : Bool) → (c i : ℕ) → List Field → ℕ → ℕ
marks wide c i [] v = v
marks wide c i (f ∷ fs) v = marks wide c (suc i) fs (mark (count c (kids_of wide f)) i v)

length_all : (l : List ℕ) (i : ℕ) (ws : List ℕ) → length (note_all l i ws) ≡ length l
unfolding note_all note
length_all l i [] = refl
length_all l i (w ∷ ws) = length_all (note l i w) i ws ∙ length-set l w (noted (get_or l w 0) i)

all_at : (c : ℕ) (l : List ℕ) (i : ℕ) (ws : List ℕ) → c < length l → get_or (note_all l i ws) c 0 ≡ mark (count c ws) i (get_or l c 0)
unfolding note_all note count mark
all_at c l i [] h = refl
all_at c l i (w ∷ ws) h =
    all_at c (note l i w) i ws (omega (arith, length-set l w (noted (get_or l w 0) i))) ∙ go (eqb w c) refl
  where
    go : (b : Bool) → eqb w c ≡ b → mark (count c ws) i (get_or (set l w (noted (get_or l w 0) i)) c 0) ≡ mark (cond b (suc (count c ws)) (count c ws)) i (get_or l c 0)
    go true e = ap (mark (count c ws) i) (rw (eqb-true w c e) (get_or-set_same l c _ 0 h))
    go false e = ap (mark (count c ws) i) (get_or-set_other l w c _ 0 (λ q. eqb-false w c e (sym q)))

-- c is entered already
enter_at : (wide : Bool) (c : ℕ) (l : List ℕ) (i : ℕ) (fs : List Field) → c < i → c < length l → get_or (enter_all wide l i fs) c 0 ≡ marks wide c i fs (get_or l c 0)
unfolding enter_all marks
enter_at wide c l i [] h r = refl
enter_at wide c l i (f ∷ fs) h r =
    enter_at wide c (set (note_all l i (kids_of wide f)) i f.tag) (suc i) fs (omega arith) (omega (arith, length-set (note_all l i (kids_of wide f)) i f.tag, length_all l i (kids_of wide f)))
    ∙ ap (marks wide c (suc i) fs) (get_or-set_other (note_all l i (kids_of wide f)) i c f.tag 0 (λ q. omega arith) ∙ all_at c l i (kids_of wide f) r)

-- c is entered after j more
enter_from : (wide : Bool) (j c : ℕ) (l : List ℕ) (i : ℕ) (fs : List Field) → c ≡ i + j → j < length fs → c < length l
    → get_or (enter_all wide l i fs) c 0 ≡ marks wide c (suc c) (drop (suc j) fs) (field_at fs j).tag
unfolding enter_all
enter_from wide j c l i [] e h r = absurd (omega arith)
enter_from wide zero c l i (f ∷ fs) e h r =
    let q : c ≡ i = omega arith in
    enter_at wide c (set (note_all l i (kids_of wide f)) i f.tag) (suc i) fs (omega arith) (omega (arith, length-set (note_all l i (kids_of wide f)) i f.tag, length_all l i (kids_of wide f)))
    ∙ rw q (ap (marks wide i (suc i) fs) (get_or-set_same (note_all l i (kids_of wide f)) i f.tag 0 (omega (arith, length_all l i (kids_of wide f)))))
enter_from wide (suc j) c l i (f ∷ fs) e h r =
    enter_from wide j c (set (note_all l i (kids_of wide f)) i f.tag) (suc i) fs (omega arith) (omega arith) (omega (arith, length-set (note_all l i (kids_of wide f)) i f.tag, length_all l i (kids_of wide f)))

-- ---- what the marks come to, where t is a tag

abbrev one : (t i : ℕ) → ℕ
one t i = t + 256 * (i + 1)

abbrev more : ℕ → ℕ
more t = t + 16776960

module _ (t : ℕ) (small : t < 256) where
  noted_none : (i : ℕ) → noted t i ≡ one t i
  unfolding noted
  noted_none i = simp (lt-ltb t 256 small)

  noted_one : (j i : ℕ) → noted (one t j) i ≡ more t
  unfolding noted
  noted_one j i = simp (le-ltb (one t j) 256 (omega arith)) (omega arith)

  noted_more : (i : ℕ) → noted (more t) i ≡ more t
  unfolding noted
  noted_more i = simp (le-ltb (more t) 256 (omega arith)) (omega arith)

  mark_more : (k i : ℕ) → mark k i (more t) ≡ more t
  unfolding mark
  mark_more zero i = refl
  mark_more (suc k) i = ap (mark k i) (noted_more i) ∙ mark_more k i

  mark_one : (k j i : ℕ) → mark (suc k) i (one t j) ≡ more t
  unfolding mark
  mark_one k j i = ap (mark k i) (noted_one j i) ∙ mark_more k i

  mark_two : (k i : ℕ) → mark (suc (suc k)) i t ≡ more t
  unfolding mark
  mark_two k i = ap (mark (suc k) i) (noted_none i) ∙ mark_one k i i

  module _ (wide : Bool) (c : ℕ) where
    marks_more : (i : ℕ) (fs : List Field) → marks wide c i fs (more t) ≡ more t
    unfolding marks
    marks_more i [] = refl
    marks_more i (f ∷ fs) = ap (marks wide c (suc i) fs) (mark_more (count c (kids_of wide f)) i) ∙ marks_more (suc i) fs

    marks_kept : (i : ℕ) (fs : List Field) (v : ℕ) → count c (all_kids wide fs) ≡ 0 → marks wide c i fs v ≡ v
    unfolding marks mark
    marks_kept i [] v e = refl
    marks_kept i (f ∷ fs) v e = go (count c (kids_of wide f)) refl (λ q. marks_kept (suc i) fs v q)
      where
        go : (k : ℕ) → count c (kids_of wide f) ≡ k → (count c (all_kids wide fs) ≡ 0 → marks wide c (suc i) fs v ≡ v) → marks wide c (suc i) fs (mark k i v) ≡ v
        go zero q rec = rec (omega (arith, count_kids wide c f fs))
        go (suc k) q rec = absurd (omega (arith, count_kids wide c f fs))

    marks_one : (i j : ℕ) (fs : List Field) → 1 ≤ count c (all_kids wide fs) → marks wide c i fs (one t j) ≡ more t
    unfolding marks mark
    marks_one i j [] h = absurd (omega (arith, count_none wide c))
    marks_one i j (f ∷ fs) h = go (count c (kids_of wide f)) refl (λ q. marks_one (suc i) j fs q)
      where
        go : (k : ℕ) → count c (kids_of wide f) ≡ k → (1 ≤ count c (all_kids wide fs) → marks wide c (suc i) fs (one t j) ≡ more t) → marks wide c (suc i) fs (mark k i (one t j)) ≡ more t
        go zero q rec = rec (omega (arith, count_kids wide c f fs))
        go (suc k) q rec = ap (marks wide c (suc i) fs) (mark_one k j i) ∙ marks_more (suc i) fs

    -- a child once, and more than once
    marks_once : (i : ℕ) (fs : List Field) → count c (all_kids wide fs) ≡ 1 → marks wide c i fs t ≡ one t (parent_by wide c i fs)
    unfolding marks mark parent_by
    marks_once i [] e = absurd (omega (arith, count_none wide c))
    marks_once i (f ∷ fs) e = go (count c (kids_of wide f)) refl (λ q. marks_once (suc i) fs q)
      where
        go : (k : ℕ) → count c (kids_of wide f) ≡ k → (count c (all_kids wide fs) ≡ 1 → marks wide c (suc i) fs t ≡ one t (parent_by wide c (suc i) fs))
            → marks wide c (suc i) fs (mark k i t) ≡ one t (cond (eqb k 0) (parent_by wide c (suc i) fs) i)
        go zero q rec = rec (omega (arith, count_kids wide c f fs))
        go (suc zero) q rec = ap (marks wide c (suc i) fs) (noted_none i) ∙ marks_kept (suc i) fs (one t i) (omega (arith, count_kids wide c f fs))
        go (suc (suc k)) q rec = absurd (omega (arith, count_kids wide c f fs))

    marks_twice : (i : ℕ) (fs : List Field) → 2 ≤ count c (all_kids wide fs) → marks wide c i fs t ≡ more t
    unfolding marks mark
    marks_twice i [] h = absurd (omega (arith, count_none wide c))
    marks_twice i (f ∷ fs) h = go (count c (kids_of wide f)) refl (λ q. marks_twice (suc i) fs q)
      where
        go : (k : ℕ) → count c (kids_of wide f) ≡ k → (2 ≤ count c (all_kids wide fs) → marks wide c (suc i) fs t ≡ more t) → marks wide c (suc i) fs (mark k i t) ≡ more t
        go zero q rec = rec (omega (arith, count_kids wide c f fs))
        go (suc zero) q rec = ap (marks wide c (suc i) fs) (noted_none i) ∙ marks_one (suc i) i fs (omega (arith, count_kids wide c f fs))
        go (suc (suc k)) q rec = ap (marks wide c (suc i) fs) (mark_two k i) ∙ marks_more (suc i) fs

-- ---- nodes up to c have no child c, so those after it say all

none_before : (wide : Bool) (c m i : ℕ) (fs : List Field) → ((j : ℕ) → j < m → count c (kids_of wide (field_at fs j)) ≡ 0) → m ≤ length fs
    → (count c (all_kids wide (drop m fs)) ≡ count c (all_kids wide fs)) × (parent_by wide c (i + m) (drop m fs) ≡ parent_by wide c i fs)
unfolding parent_by
none_before wide c zero i fs none h = (refl, ap (λ (k : ℕ). parent_by wide c k fs) (zero_more i))
  where
    zero_more : (k : ℕ) → k + 0 ≡ k
    zero_more k = omega arith
none_before wide c (suc m) i [] none h = absurd (omega arith)
none_before wide c (suc m) i (f ∷ fs) none h =
    let e : count c (kids_of wide f) ≡ 0 = none 0 (omega arith) in
    let r = none_before wide c m (suc i) fs (λ j q. none (suc j) (omega arith)) (omega arith) in
    let s : i + suc m ≡ suc i + m = omega arith in
    (r.0 ∙ omega (arith, count_kids wide c f fs), rw (s, e) r.1)

-- ---- the words after all nodes

module _ (l : List ℕ) (fs : List Field) (c : ℕ) (h : c < length fs) (few : length fs ≤ 32768) (room : length fs ≤ length l)
    (tag : (field_at fs c).tag < 256) (none : (j : ℕ) → j < suc c → count c (kids_of (wide_marks fs) (field_at fs j)) ≡ 0) where
  later : (count c (all_kids (wide_marks fs) (drop (suc c) fs)) ≡ count c (all_kids (wide_marks fs) fs)) × (parent_by (wide_marks fs) c (suc c) (drop (suc c) fs) ≡ parent_of fs c)
  unfolding parent_of
  later =
      let r = none_before (wide_marks fs) c (suc c) 0 fs none h in
      let q : suc c ≡ 0 + suc c = omega arith in
      (r.0, ap (λ (k : ℕ). parent_by (wide_marks fs) c k (drop (suc c) fs)) q ∙ r.1)

  entered : get_or (enter_all (wide_marks fs) l 0 fs) c 0 ≡ marks (wide_marks fs) c (suc c) (drop (suc c) fs) (field_at fs c).tag
  entered = enter_from (wide_marks fs) c c l 0 fs (omega arith) h (omega arith)

  -- the word of a child
  own_word : count c (all_kids (wide_marks fs) fs) ≡ 1 → get_or (enter_all (wide_marks fs) l 0 fs) c 0 ≡ one (field_at fs c).tag (parent_of fs c)
  own_word e = entered ∙ marks_once _ tag (wide_marks fs) c (suc c) (drop (suc c) fs) (later.0 ∙ e) ∙ ap (one (field_at fs c).tag) later.1

  pub owner_is : count c (all_kids (wide_marks fs) fs) ≡ 1 → (256 ≤ get_or (enter_all (wide_marks fs) l 0 fs) c 0) × (parent_in (enter_all (wide_marks fs) l 0 fs) c ≡ parent_of fs c)
  owner_is e = (omega (arith, own_word e), omega (arith, own_word e))

  below : count c (all_kids (wide_marks fs) fs) ≡ 1 → parent_of fs c < 32768
  unfolding parent_of
  below e = let r = parent_is (wide_marks fs) c 0 fs (omega arith) in omega (arith, r.1, r.2)

  pub once_is : once (get_or (enter_all (wide_marks fs) l 0 fs) c 0) ≡ tree_at fs c
  unfolding once tree_at
  once_is = go (count c (all_kids (wide_marks fs) fs)) refl
    where
      go : (k : ℕ) → count c (all_kids (wide_marks fs) fs) ≡ k → leb 256 (get_or (enter_all (wide_marks fs) l 0 fs) c 0) && ltb (get_or (enter_all (wide_marks fs) l 0 fs) c 0) 16776960 ≡ eqb k 1
      go zero e = rw (entered ∙ marks_kept _ tag (wide_marks fs) c (suc c) (drop (suc c) fs) (field_at fs c).tag (later.0 ∙ e)) (simp (lt-leb 256 (field_at fs c).tag tag))
      go (suc zero) e =
          simp (le-leb 256 (get_or (enter_all (wide_marks fs) l 0 fs) c 0) (owner_is e).0, lt-ltb (get_or (enter_all (wide_marks fs) l 0 fs) c 0) 16776960 (omega (arith, own_word e, below e)))
      go (suc (suc k)) e =
          rw (entered ∙ marks_twice _ tag (wide_marks fs) c (suc c) (drop (suc c) fs) (omega (arith, later.0)))
          (simp (le-leb 256 (more (field_at fs c).tag) (omega arith), le-ltb (more (field_at fs c).tag) 16776960 (omega arith), ne_eqb (suc (suc k)) 1 (λ q. omega arith)))
