-- The walk over the fields of s: until a wrong node is met, below node i every tag is entered, every shape is right, and what is still to be
-- entered from here on is what was to be entered at the start. How many fields there are is known only at the end; which is the last shows
-- before, by `last_is`, where the file is framed.
use mathlib.Core.Path.{◌≡◌, refl, sym, ap, subst, fun_ext, ◌∙◌}
use mathlib.Core.Bool.{Bool, true, false, ◌&&◌, cond}
use mathlib.Core.List.{List, [], ◌∷◌}
use mathlib.Core.Logic.{◌⊎◌, inl, inr, ⊎_elim}
use Prim.Native.Nat.{ℕ, zero, suc, min, ◌+◌, ◌-◌, ◌*◌, ◌%◌, ◌<◌, ◌≤◌}
use native.Mathlib.Nat.{not-suc-le-zero}
use native.Mathlib.Numerals.{add-one}
use native.Mathlib.Omega.{arith}
use lib.ListN.{length, get_or, set, take, drop, length-take, length-drop, get_or-map}
use lib.Seq.{get_or-set_same, get_or-set_other, take-set-le, take-set-lt, get_or-take}
use lib.Dec.{eqb, ltb}
use borrow.Author.Tests.{ltb-true, ltb-false, lt-ltb, le-ltb, eqb-true, eqb-false, eq-eqb, ne_eqb}
use borrow.Author.Count.{below_more}
use Rattle.meaning.specs.Base.{lowest}
use Rattle.meaning.specs.Fields.{Field, no_field, field_at, whole, span, payload_of, front, rest, fields, left, header}
use Rattle.meaning.specs.Grammar.{Item, never, names, inside, lawful, is_program, items_in, items_for, fits, kids, tags_of, wide_marks}
use Rattle.meaning.specs.Tree.{kids_of}
use Rattle.meaning.proofs.Lists.{tail_part, lowest_found, lowest_none}
use Rattle.meaning.proofs.FieldLaws.{from, FieldWalk, walk_start, walk_more, walk_part, walk_end, walk_at, walk_below, walk_done, whole_true, whole_false, fields_whole, header_part}
use Rattle.meaning.proofs.Kids.{none_fits}
use Rattle.tree.specs.Rows.{start_of, fits_row}
use Rattle.std.specs.Prelude.{Option}
use Rattle.std.specs.Bool.{then_some}
use Rattle.tree.specs.Scratch.{tags_in, note_row, note_all, enter_all, shape_by, last_tag, Entered, Beyond, Found}
use Rattle.tree.specs.Used.{few, with_offsets}
use Rattle.tree.proofs.First.{none_some, first_some, first_none}
use Rattle.tree.proofs.Table.{fits_rows, kids_rows}
use Rattle.tree.proofs.Words.{tag_at, row_kids, row_beyond, all_tags, beyond_refl, beyond_then, beyond_set, beyond_both, beyond_more, take_all_noted}
use Rattle.tree.proofs.Noted.{offsets_length}

-- ---- lists of tags that agree below i say the same of node i

lawful_same : (ts ts' : List ℕ) (i : ℕ) → ((k : ℕ) → k < i → get_or ts k 0 ≡ get_or ts' k 0) → (kind w : ℕ) → lawful ts i kind w ≡ lawful ts' i kind w
unfolding lawful
lawful_same ts ts' i same kind w = go (ltb w i) refl
  where
    go : (b : Bool) → ltb w i ≡ b
        → cond (names kind w) (b && inside kind (get_or ts w 0)) (cond (ltb kind 6) (inside kind w) true)
        ≡ cond (names kind w) (b && inside kind (get_or ts' w 0)) (cond (ltb kind 6) (inside kind w) true)
    go true e = rw (same w (ltb-true w i e))
    go false e = refl

fits_same : (ts ts' : List ℕ) (i : ℕ) → ((k : ℕ) → k < i → get_or ts k 0 ≡ get_or ts' k 0) → (is : List Item) (p : List ℕ) → fits (lawful ts i) is p ≡ fits (lawful ts' i) is p
fits_same ts ts' i same is p = ap (λ (ok : ℕ → ℕ → Bool). fits ok is p) (fun_ext (λ kind. fun_ext (λ w. lawful_same ts ts' i same kind w)))

-- a payload that fits where the last node must be a program names the children of its tag
kids_tag : (wide : Bool) (ts : List ℕ) (i tag : ℕ) (last : Bool) (p : List ℕ) → fits (lawful ts i) (items_for wide tag last) p ≡ true → kids (items_for wide tag last) p ≡ kids (items_in wide tag) p
unfolding items_for
kids_tag wide ts i tag true p e = go (is_program tag) e
  where
    go : (b : Bool) → fits (lawful ts i) (cond b (items_in wide tag) never) p ≡ true → kids (cond b (items_in wide tag) never) p ≡ kids (items_in wide tag) p
    go true q = refl
    go false q = absurd (none_fits ts i p q)
kids_tag wide ts i tag false p e = go (is_program tag) e
  where
    go : (b : Bool) → fits (lawful ts i) (cond b never (items_in wide tag)) p ≡ true → kids (cond b never (items_in wide tag)) p ≡ kids (items_in wide tag) p
    go true q = absurd (none_fits ts i p q)
    go false q = refl

abbrev is_last : List ℕ → ℕ → Bool
is_last s i = eqb (i + 1) (length (fields s))

-- where nothing stands after the fields, the last field is the one that ends the file
module _ (s : List ℕ) (i : ℕ) (t : List ℕ) (m : FieldWalk s i t) (w : whole t ≡ true) (none : length (left s) ≡ 0) where
  next : FieldWalk s (i + 1) (rest t)
  next = walk_more s i t m w

  size : length (rest t) ≡ length t - span t
  size = length-drop (span t) t

  ends_last : span t ≡ length t → i + 1 ≡ length (fields s)
  ends_last e = (walk_end s (i + 1) (rest t) next (whole_false (rest t) (omega (arith, size)))).0

  last_ends : i + 1 ≡ length (fields s) → span t ≡ length t
  last_ends e = go (whole (rest t)) refl
    where
      go : (b : Bool) → whole (rest t) ≡ b → span t ≡ length t
      go true q = absurd (omega (arith, walk_below s (i + 1) (rest t) next q))
      go false q = omega (arith, whole_true t w, size, (walk_end s (i + 1) (rest t) next q).1)

  pub last_is : (k : ℕ) → k ≡ span t → eqb k (length t) ≡ is_last s i
  last_is k ek = go (eqb k (length t)) refl
    where
      go : (b : Bool) → eqb k (length t) ≡ b → b ≡ is_last s i
      go true e = sym (eq-eqb _ _ (ends_last (sym ek ∙ eqb-true k (length t) e)))
      go false e = sym (ne_eqb _ _ (λ q. eqb-false k (length t) e (ek ∙ last_ends q)))

-- ---- the loop: l₀ is the scratch at the start, l as it is now, t the rest of the file from field i on; m offsets are noted

pub record Passed (limit : ℕ) (s l₀ l t : List ℕ) (i m : ℕ) : Type 0 where
  pub walk : FieldWalk s i t
  pub here : t ≡ drop (header s i) s
  pub low : header s i ≤ 65538 * i
  pub beyond : Beyond (min i limit) (with_offsets s m l₀) l

-- no node so far is wrong; the words of nodes are those below the limit
pub record Shaped (limit : ℕ) (wide : Bool) (s l₀ l t : List ℕ) (i : ℕ) : Type 0 where
  pub known : (k : ℕ) → k < i → get_or (tags_in l) k 0 ≡ get_or (tags_of (fields s)) k 0
  pub good : (k : ℕ) → k < i → shape_by wide (fields s) k ≡ true
  pub entered : enter_all wide (take limit l₀) 0 (fields s) ≡ enter_all wide (take limit l) i (fields t)

-- refusals 1 and 2 are passed, so that shapes matter, and all nodes are judged
abbrev Numbered : ℕ → List ℕ → Type 0
Numbered limit s = (length (left s) ≡ 0) × (length (fields s) ≤ limit)

-- nodes below w are judged: every node is right so far, or w is the lowest wrong one
abbrev SoFar : (limit : ℕ) (wide : Bool) (s l₀ l t : List ℕ) (i w : ℕ) → Type 0
SoFar limit wide s l₀ l t i w = ((w ≡ limit) × Shaped limit wide s l₀ l t i) ⊎ ((w < i) × (w ≡ lowest (shape_by wide (fields s)) (length (fields s))))

-- the tag of the field before field i, 0 where there is none
pub last_of : List Field → ℕ → ℕ
last_of fs zero = 0
last_of fs (suc i) = (field_at fs i).tag

last_all : (fs : List Field) → last_of fs (length fs) ≡ last_tag fs
unfolding last_of
last_all [] = refl
last_all (f ∷ fs) = ap (λ (k : ℕ). (field_at (f ∷ fs) k).tag) (let z : length fs ≡ suc (length fs) - 1 = omega arith in z)

-- and x is the last tag so far
pub record Judged (limit : ℕ) (wide : Bool) (s l₀ l t : List ℕ) (i m w x : ℕ) : Type 0 where
  pub passed : Passed limit s l₀ l t i m
  pub most : w ≤ limit
  pub so_far : Numbered limit s → SoFar limit wide s l₀ l t i w
  pub tagged : x ≡ last_of (fields s) i

pub judged_start : (limit notes : ℕ) (wide : Bool) (s l₀ : List ℕ) → Judged limit wide s l₀ l₀ s 0 (min 0 notes) limit 0
unfolding last_of header with_offsets
judged_start limit notes wide s l₀ = record {
  passed = record { walk = walk_start s; here = refl; low = omega arith; beyond = let z : 0 ≡ min 0 notes = omega arith in rw (← z) (beyond_refl (min 0 limit) l₀) };
  most = omega arith;
  so_far = λ _. inl (refl, record { known = λ k h. absurd (not-suc-le-zero h); good = λ k h. absurd (not-suc-le-zero h); entered = refl });
  tagged = refl;
}

module _ (limit : ℕ) (s l₀ l t : List ℕ) (i m : ℕ) (g : Passed limit s l₀ l t i m) where
  -- the scratch is as long as it was
  pub passed_size : length l ≡ length l₀
  passed_size = g.beyond.size ∙ offsets_length s m l₀

  -- where field i starts
  pub passed_at : whole t ≡ true → length s - length t ≡ header s i
  passed_at w = omega (arith, whole_true t w, ap length g.here, length-drop (header s i) s)

  -- a turn goes on behind the field, whatever it has made of the scratch
  passed_on : whole t ≡ true → (k : ℕ) → k ≡ span t → k ≤ 65538 → (l' : List ℕ) → Beyond (min (i + 1) limit) (with_offsets s m l₀) l' → Passed limit s l₀ l' (from k t) (i + 1) m
  passed_on w k ek small l' b =
      let h = header_part s i t k g.here ek in
      record { walk = walk_part s i t k g.walk w ek; here = rw add-one h.1; low = rw add-one (omega (arith, h.0, g.low)); beyond = b }

  passed_over : whole t ≡ true → (k : ℕ) → k ≡ span t → k ≤ 65538 → Passed limit s l₀ l (from k t) (i + 1) m
  passed_over w k ek small = passed_on w k ek small l (beyond_more (min i limit) (min (i + 1) limit) _ l (omega arith) g.beyond)

  -- whatever the payload, only words below i have changed
  noted_beyond : (first : ℕ) (p l' : List ℕ) → l' ≡ note_row (lawful (tags_in l) i) l i first 0 p → Beyond i l l'
  noted_beyond first p l' el = subst (Beyond i l) (sym el) (row_beyond (tags_in l) i l first 0 p)

  passed_more : whole t ≡ true → i < limit → (first : ℕ) (p l' : List ℕ) (k : ℕ) → l' ≡ note_row (lawful (tags_in l) i) l i first 0 p → k ≡ span t → k ≤ 65538
      → Passed limit s l₀ (set l' i (get_or t 0 0)) (from k t) (i + 1) m
  passed_more w low first p l' k el ek small =
      let n = min (i + 1) limit in
      passed_on w k ek small _
      (beyond_then n _ l _
      (beyond_more (min i limit) n _ l (omega arith) g.beyond)
      (beyond_then n l l' _
      (beyond_more i n l l' (omega arith) (noted_beyond first p l' el))
      (beyond_set n l' i (get_or t 0 0) (omega arith))))

  module _ (wide : Bool) (v : Shaped limit wide s l₀ l t i) where
    -- after the last field
    shaped_end : length (fields s) ≤ i → take limit l ≡ enter_all wide (take limit l₀) 0 (fields s)
    unfolding enter_all
    shaped_end h = sym (v.entered ∙ rw (walk_done s i t g.walk h))

    shaped_all : i ≡ lowest (shape_by wide (fields s)) i
    shaped_all = sym (lowest_none (shape_by wide (fields s)) i v.good)

    module _ (w : whole t ≡ true) where
      here : field_at (fields s) i ≡ front t
      here = walk_at s i t no_field g.walk w

      tag_here : get_or (tags_of (fields s)) i 0 ≡ get_or t 0 0
      tag_here = get_or-map (λ (f : Field). f.tag) (fields s) i no_field ∙ ap (λ (f : Field). f.tag) here

      -- a payload that is tested is that of node i
      module _ (none : length (left s) ≡ 0) (k first : ℕ) (p : List ℕ) (ek : k ≡ span t) (ef : first ≡ start_of wide (get_or t 0 0) (eqb k (length t))) (ep : p ≡ payload_of t) where
        first_is : first ≡ start_of wide (get_or t 0 0) (is_last s i)
        first_is = ef ∙ ap (start_of wide (get_or t 0 0)) (last_is s i t g.walk w none k ek)

        shaped_test : fits_row (lawful (tags_in l) i) first 0 p ≡ shape_by wide (fields s) i
        unfolding shape_by
        shaped_test =
            rw (first_is, ep)
            (sym (fits_rows (lawful (tags_in l) i) wide (get_or t 0 0) (is_last s i) (payload_of t))
            ∙ fits_same (tags_in l) (tags_of (fields s)) i v.known (items_for wide (get_or t 0 0) (is_last s i)) (payload_of t)
            ∙ rw here)

        -- the lowest node that is wrong
        shaped_stop : false ≡ fits_row (lawful (tags_in l) i) first 0 p → i ≡ lowest (shape_by wide (fields s)) (length (fields s))
        shaped_stop e = sym (lowest_found (shape_by wide (fields s)) (length (fields s)) i (walk_below s i t g.walk w) v.good (sym shaped_test ∙ sym e))

        module _ (e : true ≡ fits_row (lawful (tags_in l) i) first 0 p) where
          -- its children are noted
          noted_here : note_row (lawful (tags_in l) i) l i first 0 p ≡ note_all l i (kids_of wide (front t))
          unfolding kids_of
          noted_here =
              row_kids (lawful (tags_in l) i) l i first 0 p (sym e)
              ∙ ap (note_all l i)
              (rw (first_is, ep)
              (sym (kids_rows wide (get_or t 0 0) (is_last s i) (payload_of t))
              ∙ kids_tag wide (tags_in l) i (get_or t 0 0) (is_last s i) (payload_of t) (fits_rows (lawful (tags_in l) i) wide (get_or t 0 0) (is_last s i) (payload_of t) ∙ rw (← first_is, ← ep) (sym e))))

          shaped_more : (l' : List ℕ) → l' ≡ note_row (lawful (tags_in l) i) l i first 0 p → get_or t 0 0 < 256 → i < limit → limit ≤ length l₀
              → Shaped limit wide s l₀ (set l' i (get_or t 0 0)) (from k t) (i + 1)
          unfolding enter_all
          shaped_more l' el small low room = record {
            known = below_more (λ j. get_or (tags_in (set l' i (get_or t 0 0))) j 0 ≡ get_or (tags_of (fields s)) j 0) i
                (λ j h. tag_at (set l' i (get_or t 0 0)) j ∙ ap (λ (x : ℕ). x % 256) (get_or-set_other l' i j (get_or t 0 0) 0 (λ q. omega arith)) ∙ sym (tag_at l' j) ∙ same_tag j ∙ v.known j h)
                (tag_at (set l' i (get_or t 0 0)) i ∙ ap (λ (x : ℕ). x % 256) (get_or-set_same l' i (get_or t 0 0) 0 (omega (arith, (noted_beyond first p l' el).size, passed_size))) ∙ whole_tag ∙ sym tag_here);
            good = below_more (λ j. shape_by wide (fields s) j ≡ true) i v.good (sym shaped_test ∙ sym e);
            entered = v.entered ∙ rw (fields_whole t w) (simp (tail_part, ek, take-set-lt limit l' i (get_or t 0 0) low, ap (take limit) (el ∙ noted_here) ∙ take_all_noted limit l i (kids_of wide (front t)), add-one));
          }
            where
              same_tag : (j : ℕ) → get_or (tags_in l') j 0 ≡ get_or (tags_in l) j 0
              same_tag j = ap (λ (ts : List ℕ). get_or ts j 0) (ap tags_in (el ∙ noted_here) ∙ all_tags l i (kids_of wide (front t)))

              whole_tag : get_or t 0 0 % 256 ≡ get_or t 0 0
              whole_tag = omega arith

-- ---- where node i starts is noted: its word stands beyond those of the nodes, so that nothing else is another

module _ (limit notes : ℕ) (wide : Bool) (s l₀ l t : List ℕ) (i w x : ℕ) (room : limit + notes ≤ length l₀) (j : Judged limit wide s l₀ l t i (min i notes) w x) (is : whole t ≡ true) where
  module _ (more : i < notes) (v : ℕ) (ev : v ≡ header s i) where
    abbrev place : ℕ
    place = length l - suc i

    beyond_place : limit ≤ place
    beyond_place = omega (arith, passed_size limit s l₀ l t i _ j.passed)

    offset_beyond : Beyond (min i limit) (with_offsets s (min (i + 1) notes) l₀) (set l place v)
    unfolding with_offsets
    offset_beyond =
        let e : min (i + 1) notes ≡ suc i = omega arith in
        let q : min i notes ≡ i = omega arith in
        let b : limit ≤ length l₀ - suc i = omega arith in
        rw (e, ev, passed_size limit s l₀ l t i _ j.passed) (beyond_both (min i limit) (with_offsets s i l₀) l (length l₀ - suc i) (header s i) (omega arith) (rw q at j.passed.beyond))

    offset_shaped : i < limit → Shaped limit wide s l₀ l t i → Shaped limit wide s l₀ (set l place v) t i
    offset_shaped low h = record {
      known = λ k b. tag_at (set l place v) k ∙ ap (λ (n : ℕ). n % 256) (get_or-set_other l place k v 0 (λ q. omega (arith, beyond_place))) ∙ sym (tag_at l k) ∙ h.known k b;
      good = h.good;
      entered = h.entered ∙ ap (λ (n : List ℕ). enter_all wide n i (fields t)) (sym (take-set-le limit l place v beyond_place));
    }

    offset_more : Judged limit wide s l₀ (set l place v) t i (min (i + 1) notes) w x
    offset_more = record {
      passed = record { walk = j.passed.walk; here = j.passed.here; low = j.passed.low; beyond = offset_beyond };
      most = j.most;
      so_far = λ q. ⊎_elim (λ y. inl (y.0, offset_shaped (omega (arith, q.1, walk_below s i t j.passed.walk is)) y.1)) inr (j.so_far q);
      tagged = j.tagged;
    }

  pub judged_offset : (v : ℕ) → v ≡ header s i → (l' : List ℕ) → l' ≡ cond (ltb i notes) (set l (length l - suc i) v) l → Judged limit wide s l₀ l' t i (min (i + 1) notes) w x
  judged_offset v ev l' el = go (ltb i notes) refl el
    where
      go : (b : Bool) → ltb i notes ≡ b → l' ≡ cond b (set l (length l - suc i) v) l → Judged limit wide s l₀ l' t i (min (i + 1) notes) w x
      go true e q = rw q (offset_more (ltb-true i notes e) v ev)
      go false e q = let z : min (i + 1) notes ≡ min i notes = omega (arith, ltb-false i notes e) in rw (q, z) j

-- ---- a turn, and the end

module _ (limit : ℕ) (wide : Bool) (s l₀ l t : List ℕ) (i m w x : ℕ) (j : Judged limit wide s l₀ l t i m w x) where
  module _ (is : whole t ≡ true) (k : ℕ) (ek : k ≡ span t) (short : k ≤ 65538) (x' : ℕ) (ex : x' ≡ get_or t 0 0) where
    tag_more : x' ≡ last_of (fields s) (i + 1)
    unfolding last_of
    tag_more = ex ∙ sym (rw add-one (ap (λ (f : Field). f.tag) (walk_at s i t no_field j.passed.walk is)))

    -- behind a wrong node, or behind all that are judged
    pub judged_over : w ≤ i → (l' : List ℕ) (w' : ℕ) → l' ≡ l → w' ≡ w → Judged limit wide s l₀ l' (from k t) (i + 1) m w' x'
    judged_over h l' w' el ew = rw (el, ew) record {
      passed = passed_over limit s l₀ l t i m j.passed is k ek short;
      most = j.most;
      so_far = λ q. ⊎_elim (λ x. absurd (omega (arith, x.0, q.1, walk_below s i t j.passed.walk is))) (λ x. inr (omega (arith, x.0), x.1)) (j.so_far q);
      tagged = tag_more;
    }

    -- a node that is tested, with the answer r
    module _ (yet : i < w) (room : limit ≤ length l₀) (small : get_or t 0 0 < 256) (first : ℕ) (p l' l'' : List ℕ)
        (ef : first ≡ start_of wide (get_or t 0 0) (eqb k (length t))) (ep : p ≡ payload_of t) (r : Bool) (er : r ≡ fits_row (lawful (tags_in l) i) first 0 p)
        (el : l' ≡ note_row (lawful (tags_in l) i) l i first 0 p) (el' : l'' ≡ set l' i (get_or t 0 0)) where
      shaped_yet : Numbered limit s → (w ≡ limit) × Shaped limit wide s l₀ l t i
      shaped_yet q = ⊎_elim (λ x. x) (λ x. absurd (omega (arith, x.0))) (j.so_far q)

      pub judged_more : (w' : ℕ) → ((r ≡ false) × (w' ≡ i)) ⊎ ((r ≡ true) × (w' ≡ w)) → Judged limit wide s l₀ l'' (from k t) (i + 1) m w' x'
      judged_more w' told = record {
        passed = rw el' (passed_more limit s l₀ l t i m j.passed is (omega (arith, j.most)) first p l' k el ek short);
        most = ⊎_elim (λ x. omega (arith, x.1, j.most)) (λ x. omega (arith, x.1, j.most)) told;
        so_far = λ q. let v = shaped_yet q in ⊎_elim
            (λ x. inr (omega (arith, x.1), x.1 ∙ shaped_stop limit s l₀ l t i m j.passed wide v.1 is q.0 k first p ek ef ep (sym x.0 ∙ er)))
            (λ x. inl (x.1 ∙ v.0, rw el' (shaped_more limit s l₀ l t i m j.passed wide v.1 is q.0 k first p ek ef ep (sym x.0 ∙ er) l' el small (omega (arith, j.most)) room)))
            told;
        tagged = tag_more;
      }

  module _ (cut : whole t ≡ false) where
    end : (i ≡ length (fields s)) × (length t ≡ length (left s))
    end = walk_end s i t j.passed.walk cut

    pub judged_count : i ≡ length (fields s)
    judged_count = end.0

    pub judged_end : limit ≤ length l₀ → few i ≤ limit → Found wide s l i (length t) (then_some (ltb w limit) w)
    judged_end room all = record {
      whole_fields = end.0;
      bytes_after = end.1;
      room = omega (arith, passed_size limit s l₀ l t i m j.passed);
      shapes = λ none most. ⊎_elim
          (λ x. rw (le-ltb w limit (omega (arith, x.0))) (first_none _ i (shaped_all limit s l₀ l t i m j.passed wide x.1)))
          (λ x. rw (lt-ltb w limit (omega (arith, x.0))) (first_some _ i w x.0 (rw end.0 x.1)))
          (found none most);
      shapely = λ none most h. ⊎_elim (λ x. entered x.1 (omega arith)) (λ x. absurd (none_some w (sym (rw (lt-ltb w limit (omega (arith, x.0))) at h)))) (found none most);
    }
      where
        found : length t ≡ 0 → i ≤ 32768 → SoFar limit wide s l₀ l t i w
        found none most = j.so_far (omega (arith, end.1), omega (arith, end.0))

        entered : Shaped limit wide s l₀ l t i → i ≤ limit → Entered wide (fields s) l
        entered v h = record {
          before = take limit l₀;
          room = omega (arith, end.0, length-take limit l₀);
          each = λ c b. sym (get_or-take limit l c 0 (omega (arith, end.0))) ∙ ap (λ (n : List ℕ). get_or n c 0) (shaped_end limit s l₀ l t i m j.passed wide v (omega (arith, end.0)));
        }

    pub last_end : x ≡ last_tag (fields s)
    last_end = j.tagged ∙ ap (last_of (fields s)) end.0 ∙ last_all (fields s)

-- ---- the last tag says whether marks are wide

module _ (s l : List ℕ) (n after : ℕ) (w : Option ℕ) (x : ℕ) (e : x ≡ last_tag (fields s)) where
  pub found_narrow : (x ≡ 0x3E → ⊥) → Found false s l n after w → Found (wide_marks (fields s)) s l n after w
  unfolding wide_marks
  found_narrow h f = rw (← e, ne_eqb x 0x3E h) f

  pub found_wide : x ≡ 0x3E → Found true s l n after w → Found (wide_marks (fields s)) s l n after w
  unfolding wide_marks
  found_wide h f = rw (← e, eq-eqb x 0x3E h) f
