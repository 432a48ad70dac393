-- Where the words of a node stand among the words of its payload: laws over the items, for both widths.
--     From is k p        the words ws from k on are those that the file's words vs from place p on make, where the items `is` are due
--     plain, marks, ..   what stands at k, and From behind it
-- A word that is no mark is a word of the file, a mark takes one place or two (`mark_at`), a row of children is a row of the file.
use mathlib.Core.Path.{◌≡◌, refl, sym, ap, ap₂, ◌∙◌, subst}
use mathlib.Core.Bool.{Bool, true, false, not, ◌&&◌, cond}
use mathlib.Core.Logic.{⊎_elim}
use mathlib.Core.List.{List, [], ◌∷◌}
use Prim.Native.Nat.{ℕ, zero, suc, ◌+◌, ◌-◌, ◌*◌, ◌<◌, ◌≤◌}
use native.Mathlib.Nat.{zero-add, add-zero, mul-suc}
use native.Mathlib.Numerals.{add-one}
use native.Mathlib.Omega.{arith}
use lib.ListN.{length, get_or, take, drop, length-drop, drop_of_length-le, get_or-eq_default}
use lib.Seq.{drop-cons, drop-drop, get_or-drop, slice, slice_empty, slice-cons}
use lib.Dec.{eqb}
use borrow.Author.Tests.{not-true}
use Rattle.meaning.specs.Fields.{Field, field_at}
use Rattle.meaning.specs.Grammar.{mark as markkind}
use Rattle.meaning.specs.Grammar.{Item, one, perhaps, many, counted, any, name, expr, stmt, mark, kind_of, due_after, ones, copies, spread_kinds, spread, items_in, grammar, marked, short_mark, due_words, short, wide_marks, items_of, lawful, tags_of, shape_at, words_of}
use Rattle.meaning.specs.Read.{at, words_at, token, tokens}
use Rattle.meaning.specs.declared.Token.{Token}
use Rattle.meaning.specs.At.{tag_of, word_of, tokens_at, file_words, mark_at, extra, mark_words, Behind, pairs_in, Heads}
use Rattle.meaning.proofs.Lists.{lt_or_le, and_left, and_right}
use Rattle.meaning.proofs.Payload.{groups, Row, Due, file_due, file_least, least_at}
use Rattle.meaning.proofs.Spread.{least, due_plain, due_short, due_wide, due_half}

due_nothing : (wide : Bool) (is : List Item) → due_words wide is [] ≡ []
unfolding due_words
due_nothing wide is = refl

-- no mark may stand there
unfoldable pub none_of : List ℕ → Bool
none_of [] = true
none_of (k ∷ ks) = not (eqb k mark) && none_of ks

unfoldable pub unmarked : List Item → Bool
unmarked [] = true
unmarked (one k ∷ is) = not (eqb k mark) && unmarked is
unmarked (perhaps k ∷ is) = not (eqb k mark) && unmarked is
unmarked (many ks ∷ is) = none_of ks && unmarked is
unmarked (counted ks ∷ is) = none_of ks && unmarked is

unmarked_ones : (ks : List ℕ) (is : List Item) → none_of ks ≡ true → unmarked is ≡ true → unmarked (ones ks is) ≡ true
unfolding none_of unmarked
unmarked_ones [] is n u = u
unmarked_ones (k ∷ ks) is n u = ap₂ ◌&&◌ (and_left (not (eqb k mark)) _ n) (unmarked_ones ks is (and_right (not (eqb k mark)) _ n) u)

unmarked_copies : (n : ℕ) (ks : List ℕ) (is : List Item) → none_of ks ≡ true → unmarked is ≡ true → unmarked (copies n ks is) ≡ true
unmarked_copies zero ks is e u = u
unmarked_copies (suc n) ks is e u = unmarked_ones ks (copies n ks is) e (unmarked_copies n ks is e u)

fewer : (ks : List ℕ) → none_of ks ≡ true → none_of (drop 1 ks) ≡ true
unfolding none_of
fewer [] n = n
fewer (k ∷ ks) n = and_right (not (eqb k mark)) _ n

unmarked_after : (is : List Item) (w : ℕ) → unmarked is ≡ true → unmarked (due_after is w) ≡ true
unfolding unmarked due_after
unmarked_after [] w u = u
unmarked_after (one k ∷ is) w u = and_right (not (eqb k mark)) _ u
unmarked_after (perhaps k ∷ is) w u = and_right (not (eqb k mark)) _ u
unmarked_after (many ks ∷ is) w u = unmarked_ones (drop 1 ks) (many ks ∷ is) (fewer ks (and_left (none_of ks) _ u)) u
unmarked_after (counted ks ∷ is) w u = unmarked_copies w ks is (and_left (none_of ks) _ u) (and_right (none_of ks) _ u)

no_mark_first : (is : List Item) → unmarked is ≡ true → marked is ≡ false
unfolding unmarked marked kind_of none_of
no_mark_first [] u = refl
no_mark_first (one k ∷ is) u = not-true (eqb k mark) (and_left (not (eqb k mark)) _ u)
no_mark_first (perhaps k ∷ is) u = not-true (eqb k mark) (and_left (not (eqb k mark)) _ u)
no_mark_first (many [] ∷ is) u = refl
no_mark_first (many (k ∷ ks) ∷ is) u = not-true (eqb k mark) (and_left (not (eqb k mark)) _ (and_left (not (eqb k mark) && none_of ks) _ u))
no_mark_first (counted ks ∷ is) u = refl

due_same : (wide : Bool) (is : List Item) (vs : List ℕ) → unmarked is ≡ true → due_words wide is vs ≡ vs
due_same wide is [] u = due_nothing wide is
due_same wide is (v ∷ vs) u = due_plain wide is v vs (no_mark_first is u) ∙ ap (λ (l : List ℕ). v ∷ l) (due_same wide (due_after is v) vs (unmarked_after is v u))

get_d_past : (xs : List ℕ) (k : ℕ) → length xs ≤ k → get_or xs k 0 ≡ 0
get_d_past xs k h = get_or-eq_default xs 0 h

module _ (wide : Bool) (ws vs : List ℕ) where
  abbrev pub From : List Item → (k p : ℕ) → Type 0
  From is k p = drop k ws ≡ due_words wide is (drop p vs)

  -- where there is a word, there is one in the file
  pub some : (is : List Item) (k p : ℕ) → From is k p → k < length ws → p < length vs
  unfolding due_words
  some is k p f l =
      ⊎_elim (λ (q : p < length vs). q)
      (λ (q : length vs ≤ p). absurd (let z = ap length (f ∙ ap (due_words wide is) (drop_of_length-le vs q)) in let n = length-drop k ws in omega (arith, z, n))) (lt_or_le p (length vs))

  -- the words from k on, and the file's from p on, with their first
  record Split (k p : ℕ) : Type 0 where
    here : drop k ws ≡ at ws k ∷ drop (k + 1) ws
    there : drop p vs ≡ at vs p ∷ drop (p + 1) vs

  split : (is : List Item) (k p : ℕ) → From is k p → k < length ws → Split k p
  split is k p f l = record { here = rw add-one (drop-cons ws k 0 l); there = rw add-one (drop-cons vs p 0 (some is k p f l)) }

  -- ---- one word

  pub plain : (is : List Item) (k p : ℕ) → marked is ≡ false → From is k p → k < length ws → (at ws k ≡ at vs p) × From (due_after is (at ws k)) (k + 1) (p + 1)
  plain is k p n f l =
      let s = split is k p f l in
      let e : at ws k ∷ drop (k + 1) ws ≡ at vs p ∷ due_words wide (due_after is (at vs p)) (drop (p + 1) vs) = sym s.here ∙ f ∙ ap (due_words wide is) s.there ∙ due_plain wide is (at vs p) (drop (p + 1) vs) n in
      let h : at ws k ≡ at vs p = ap (λ (xs : List ℕ). get_or xs 0 0) e in
      (h, rw h (ap (λ (xs : List ℕ). drop 1 xs) e))

  pub marks : (is : List Item) (k p : ℕ) → marked is ≡ true → From is k p → k < length ws → (at ws k ≡ mark_at wide vs p) × From (due_after is (at ws k)) (k + 1) (p + mark_words wide)
  marks is k p m f l = go wide refl
    where
      v : ℕ
      v = at vs p

      e : at ws k ∷ drop (k + 1) ws ≡ due_words wide is (v ∷ drop (p + 1) vs)
      e = let s = split is k p f l in sym s.here ∙ f ∙ ap (due_words wide is) s.there

      -- of two words: both are there, or the second is not
      long : wide ≡ true → (at ws k ≡ v * 65536 + at vs (p + 1)) × From (due_after is (at ws k)) (k + 1) (p + 2)
      long q =
          ⊎_elim
          (λ (b : p + 1 < length vs).
          let d : drop (p + 1) vs ≡ at vs (p + 1) ∷ drop (p + 2) vs = drop-cons vs (p + 1) 0 b ∙ ap (λ (n : ℕ). at vs (p + 1) ∷ drop n vs) (let z : suc (p + 1) ≡ p + 2 = omega arith in z) in
          let g = e ∙ ap (λ (xs : List ℕ). due_words wide is (v ∷ xs)) d ∙ due_wide wide is v (at vs (p + 1)) (drop (p + 2) vs) q m in
          let h : at ws k ≡ v * 65536 + at vs (p + 1) = ap (λ (xs : List ℕ). get_or xs 0 0) g in
          (h, rw h (ap (λ (xs : List ℕ). drop 1 xs) g)))
          (λ (b : length vs ≤ p + 1).
          let g = e ∙ ap (λ (xs : List ℕ). due_words wide is (v ∷ xs)) (drop_of_length-le vs b) ∙ due_half wide is v q m in
          let h : at ws k ≡ v * 65536 = ap (λ (xs : List ℕ). get_or xs 0 0) g in (
            h ∙ let z : v * 65536 ≡ v * 65536 + at vs (p + 1) = rw (get_d_past vs (p + 1) b) (sym (add-zero (v * 65536))) in z,
            ap (λ (xs : List ℕ). drop 1 xs) g ∙ sym (ap (due_words wide (due_after is (at ws k))) (drop_of_length-le vs (let z : length vs ≤ p + 2 = omega arith in z)) ∙ due_nothing wide (due_after is (at ws k))),
          ))
          (lt_or_le (p + 1) (length vs))

      go : (b : Bool) → wide ≡ b → (at ws k ≡ cond b (v * 65536 + at vs (p + 1)) (short_mark v)) × From (due_after is (at ws k)) (k + 1) (p + (1 + cond b 1 0))
      go true q = long q
      go false q =
          let g = e ∙ due_short wide is v (drop (p + 1) vs) q m in
          let h : at ws k ≡ short_mark v = ap (λ (xs : List ℕ). get_or xs 0 0) g in
          (h, rw h (ap (λ (xs : List ℕ). drop 1 xs) g))

  -- ---- where no mark is left, the rest is the file's

  pub rest : (is : List Item) (k p : ℕ) → unmarked is ≡ true → From is k p → drop k ws ≡ drop p vs
  rest is k p u f = f ∙ due_same wide is (drop p vs) u

  -- a pair of a name and its mark takes as many places
  abbrev pub pair : ℕ
  pair = 1 + mark_words wide

  -- n pairs
  pub record Pair (k p : ℕ) : Type 0 where
    pub name : at ws k ≡ at vs p
    pub mark : at ws (k + 1) ≡ mark_at wide vs (p + 1)

  one_pair : (is : List Item) (k p : ℕ) → From (one name ∷ one mark ∷ is) k p → k + 1 < length ws → Pair k p × From is (k + 2) (p + pair)
  unfolding marked kind_of due_after
  one_pair is k p f l =
      let a = plain (one name ∷ one mark ∷ is) k p refl f (omega arith) in
      let b = marks (one mark ∷ is) (k + 1) (p + 1) refl a.1 l in (
        record { name = a.0; mark = b.0 },
        subst (λ (m : ℕ). From is m (p + pair)) (let z : k + 1 + 1 ≡ k + 2 = omega arith in z) (subst (λ (m : ℕ). From is (k + 1 + 1) m) (let z : p + 1 + mark_words wide ≡ p + pair = omega arith in z) b.1),
      )

  pub pairs : (is : List Item) (n k p : ℕ) → From (copies n (name ∷ mark ∷ []) is) k p → k + 2 * n ≤ length ws
      → ((j : ℕ) → j < n → Pair (k + 2 * j) (p + pair * j)) × From is (k + 2 * n) (p + pair * n)
  pairs is zero k p f l = ((λ j h. absurd (omega arith)), subst (λ (m : ℕ). From is m (p + pair * 0)) (let z : k ≡ k + 2 * 0 = omega arith in z) (subst (λ (m : ℕ). From is k m) (let z : p ≡ p + pair * 0 = omega arith in z) f))
  pairs is (suc n) k p f l =
      let a = one_pair (copies n (name ∷ mark ∷ []) is) k p f (omega arith) in
      let r = pairs is n (k + 2) (p + pair) a.1 (omega arith) in (
        (λ j h. each j h a.0 r.0),
        subst (λ (m : ℕ). From is m (p + pair * suc n)) (let z : k + 2 + 2 * n ≡ k + 2 * suc n = omega arith in z) (subst (λ (m : ℕ). From is (k + 2 + 2 * n) m) (let z : p + pair + pair * n ≡ p + pair * suc n = sums n in z) r.1),
      )
    where
      sums : (n : ℕ) → p + pair + pair * n ≡ p + pair * suc n
      sums n = omega (arith, mul-suc pair n)

      each : (j : ℕ) → j < suc n → Pair k p → ((i : ℕ) → i < n → Pair (k + 2 + 2 * i) (p + pair + pair * i)) → Pair (k + 2 * j) (p + pair * j)
      each zero h a r = subst (λ (m : ℕ). Pair m (p + pair * 0)) (let z : k ≡ k + 2 * 0 = omega arith in z) (subst (λ (m : ℕ). Pair k m) (let z : p ≡ p + pair * 0 = omega arith in z) a)
      each (suc j) h a r = subst (λ (m : ℕ). Pair m (p + pair * suc j)) (let z : k + 2 + 2 * j ≡ k + 2 * suc j = omega arith in z) (subst (λ (m : ℕ). Pair (k + 2 + 2 * j) m) (sums j) (r j (omega arith)))

  first_pair : (is : List Item) (k p : ℕ) → From (many (name ∷ mark ∷ []) ∷ is) k p → k + 1 < length ws → Pair k p × From (many (name ∷ mark ∷ []) ∷ is) (k + 2) (p + pair)
  unfolding marked kind_of due_after
  first_pair is k p f l =
      let a = plain (many (name ∷ mark ∷ []) ∷ is) k p refl f (omega arith) in
      let b = marks (one mark ∷ many (name ∷ mark ∷ []) ∷ is) (k + 1) (p + 1) refl a.1 l in (
        record { name = a.0; mark = b.0 },
        subst (λ (m : ℕ). From (many (name ∷ mark ∷ []) ∷ is) m (p + pair)) (let z : k + 1 + 1 ≡ k + 2 = omega arith in z) (subst (λ (m : ℕ). From (many (name ∷ mark ∷ []) ∷ is) (k + 1 + 1) m) (let z : p + 1 + mark_words wide ≡ p + pair = omega arith in z) b.1),
      )

  -- pairs to the end, of which there are n
  pub many_pairs : (is : List Item) (n k p : ℕ) → From (many (name ∷ mark ∷ []) ∷ is) k p → length ws ≡ k + 2 * n → (j : ℕ) → j < n → Pair (k + 2 * j) (p + pair * j)
  many_pairs is zero k p f l j h = absurd (omega arith)
  many_pairs is (suc n) k p f l zero h =
      subst (λ (m : ℕ). Pair m (p + pair * 0)) (let z : k ≡ k + 2 * 0 = omega arith in z) (subst (λ (m : ℕ). Pair k m) (let z : p ≡ p + pair * 0 = omega arith in z) (first_pair is k p f (omega arith)).0)
  many_pairs is (suc n) k p f l (suc j) h =
      subst (λ (m : ℕ). Pair m (p + pair * suc j)) (let z : k + 2 + 2 * j ≡ k + 2 * suc j = omega arith in z)
      (subst (λ (m : ℕ). Pair (k + 2 + 2 * j) m) (let z : p + pair + pair * j ≡ p + pair * suc j = omega (arith, mul-suc pair j) in z) (many_pairs is n (k + 2) (p + pair) (first_pair is k p f (omega arith)).1 (omega arith) j (omega arith)))

-- ---- of a node

module _ (fs : List Field) (i : ℕ) where
  abbrev ws : List ℕ
  ws = words_at fs i

  abbrev vs : List ℕ
  vs = file_words fs i

  abbrev w : Bool
  w = wide_marks fs

  pub from_first : From w ws vs (items_of (tag_of fs i)) 0 0
  unfolding words_of
  from_first = refl

  -- what is equal from two places on is equal word by word
  pub shifted : (k p : ℕ) → drop k ws ≡ drop p vs → (j : ℕ) → at ws (k + j) ≡ at vs (p + j)
  shifted k p e j = sym (get_or-drop k ws j 0) ∙ ap (λ (l : List ℕ). get_or l j 0) e ∙ get_or-drop p vs j 0

  pub lengths : (k p : ℕ) → drop k ws ≡ drop p vs → k ≤ length ws → p ≤ length vs → length ws + p ≡ length vs + k
  lengths k p e a b = let n = ap length e in omega (arith, n, length-drop k ws, length-drop p vs)

  -- ---- the first words, by where the mark stands, and where the rest stands

  -- a word of a kind takes so many places, of which there must be as many
  least_one : (k : ℕ) (is : List Item) → least (spread w (one k ∷ is)) ≡ cond (eqb k markkind) (1 + extra w) 1 + least (spread w is)
  unfolding least spread spread_kinds
  least_one k is = go (eqb k markkind) w
    where
      go : (b c : Bool) → least (ones (cond b (cond c (any ∷ any ∷ []) (any ∷ [])) (k ∷ [])) (spread w is)) ≡ cond b (1 + cond c 1 0) 1 + least (spread w is)
      go true true = omega arith
      go true false = omega arith
      go false c = omega arith

  -- what is equal from k on
  after_by : (k d : ℕ) → drop k ws ≡ drop (k + d) vs → (j : ℕ) → k ≤ j → at ws j ≡ at vs (j + d)
  after_by k d e j l =
      subst (λ (m : ℕ). at ws m ≡ at vs (m + d)) (let z : k + (j - k) ≡ j = omega arith in z)
      (shifted k (k + d) e (j - k) ∙ ap (at vs) (let z : k + d + (j - k) ≡ k + (j - k) + d = omega arith in z))

  behind : (k d : ℕ) → drop k ws ≡ drop (k + d) vs → k ≤ length ws → k + d ≤ length vs → Behind fs i k d
  behind k d e a b = record { same = after_by k d e; size = let n = lengths k (k + d) e a b in omega (arith, n) }

  module _ (shape : shape_at fs i ≡ true) where
    file_many : (is : List Item) → items_of (tag_of fs i) ≡ is → least (spread w is) ≤ length vs
    unfolding items_in
    file_many is e = rw e at (file_least fs i shape)

    words_many : (is : List Item) → items_of (tag_of fs i) ≡ is → least is ≤ length ws
    words_many is e = rw e at (least_at fs i shape)

    pub heads_none : (is : List Item) → items_of (tag_of fs i) ≡ is → unmarked is ≡ true → Heads fs i 4 × Behind fs i 0 0
    heads_none is e u =
        let r = rest w ws vs is 0 0 u (rw e at from_first) in
        (record { before = λ k l m. simp zero-add at (shifted 0 0 r k); mark = λ l. absurd (omega arith); after = λ k l m. absurd (omega arith) }, behind 0 0 r (omega arith) (omega arith))

    -- the mark is the first word
    pub heads_0 : (is : List Item) → items_of (tag_of fs i) ≡ one markkind ∷ is → unmarked is ≡ true → Heads fs i 0 × Behind fs i 1 (extra w)
    unfolding least marked kind_of due_after
    heads_0 is e u =
        let n = words_many (one markkind ∷ is) e in
        let v = file_many (one markkind ∷ is) e in
        let m = marks w ws vs (one markkind ∷ is) 0 0 refl (rw e at from_first) (omega (arith, n)) in
        let r = rest w ws vs is 1 (1 + extra w) u (subst (From w ws vs is 1) (zero-add (1 + extra w)) m.1) in (
          record { before = λ k l h. absurd (omega arith); mark = λ l. m.0; after = λ k l h. after_by 1 (extra w) r k (omega arith) },
          behind 1 (extra w) r (omega (arith, n)) (omega (arith, v, least_one markkind is)),
        )

    -- the second, and what follows it
    second : (kind : ℕ) (is : List Item) → items_of (tag_of fs i) ≡ one kind ∷ one markkind ∷ is → eqb kind markkind ≡ false → 2 ≤ length ws
        → (at ws 0 ≡ at vs 0) × (at ws 1 ≡ mark_at w vs 1) × From w ws vs is 2 (2 + extra w)
    unfolding marked kind_of due_after
    second kind is e n l =
        let a = plain w ws vs (one kind ∷ one markkind ∷ is) 0 0 n (rw e at from_first) (omega arith) in
        let b = marks w ws vs (one markkind ∷ is) 1 1 refl a.1 l in
        (a.0, b.0, subst (From w ws vs is 2) (let z : 1 + (1 + extra w) ≡ 2 + extra w = omega arith in z) b.1)

    first : (k : ℕ) → k < 1 → at ws 0 ≡ at vs 0 → at ws k ≡ at vs k
    first k l h = subst (λ (m : ℕ). at ws m ≡ at vs m) (let z : 0 ≡ k = omega arith in z) h

    pub heads_1 : (kind : ℕ) (is : List Item) → items_of (tag_of fs i) ≡ one kind ∷ one markkind ∷ is → eqb kind markkind ≡ false → unmarked is ≡ true → Heads fs i 1 × Behind fs i 2 (extra w)
    unfolding least
    heads_1 kind is e n u =
        let l = words_many (one kind ∷ one markkind ∷ is) e in
        let v = file_many (one kind ∷ one markkind ∷ is) e in
        let s = second kind is e n (omega (arith, l)) in
        let r = rest w ws vs is 2 (2 + extra w) u s.2 in (
          record { before = λ k a b. first k a s.0; mark = λ a. s.1; after = λ k a b. after_by 2 (extra w) r k (omega arith) },
          behind 2 (extra w) r (omega (arith, l)) (let x = least_one kind (one markkind ∷ is) in let y = least_one markkind is in let z = rw n at x in omega (arith, v, z, y)),
        )

    -- the third, of a try
    pub heads_2 : (a b c : ℕ) → items_of (tag_of fs i) ≡ one a ∷ one b ∷ one markkind ∷ one c ∷ [] → eqb a markkind ≡ false → eqb b markkind ≡ false → eqb c markkind ≡ false → Heads fs i 2 × Behind fs i 3 (extra w)
    unfolding least marked kind_of due_after unmarked
    heads_2 a b c e na nb nc =
        let l = words_many (one a ∷ one b ∷ one markkind ∷ one c ∷ []) e in
        let v = file_many (one a ∷ one b ∷ one markkind ∷ one c ∷ []) e in
        let x = plain w ws vs (one a ∷ one b ∷ one markkind ∷ one c ∷ []) 0 0 na (rw e at from_first) (omega (arith, l)) in
        let y = plain w ws vs (one b ∷ one markkind ∷ one c ∷ []) 1 1 nb x.1 (omega (arith, l)) in
        let z = marks w ws vs (one markkind ∷ one c ∷ []) 2 2 refl y.1 (omega (arith, l)) in
        let r = rest w ws vs (one c ∷ []) 3 (3 + extra w) (rw nc) (subst (From w ws vs (one c ∷ []) 3) (let q : 2 + (1 + extra w) ≡ 3 + extra w = omega arith in q) z.1) in
        let la = rw na at (least_one a (one b ∷ one markkind ∷ one c ∷ [])) in
        let lb = rw nb at (least_one b (one markkind ∷ one c ∷ [])) in
        let lm = least_one markkind (one c ∷ []) in (
          record { before = λ k p q. two k p x.0 y.0; mark = λ p. z.0; after = λ k p q. after_by 3 (extra w) r k (omega arith) },
          behind 3 (extra w) r (omega (arith, l)) (omega (arith, v, la, lb, lm)),
        )
      where
        two : (k : ℕ) → k < 2 → at ws 0 ≡ at vs 0 → at ws 1 ≡ at vs 1 → at ws k ≡ at vs k
        two zero l p q = p
        two (suc zero) l p q = q
        two (suc (suc k)) l p q = absurd (omega arith)

    -- ---- pairs

    -- n places more, where marks are wide
    abbrev pub more : ℕ → ℕ
    more n = cond w n 0

    pair_more : (n : ℕ) → pair w ws vs * n ≡ 2 * n + more n
    pair_more n = go w
      where
        go : (b : Bool) → (1 + (1 + cond b 1 0)) * n ≡ 2 * n + cond b n 0
        go true = omega arith
        go false = omega arith

    -- the tokens of n pairs from word k on
    pub tokens_are : (n k p : ℕ) → ((j : ℕ) → j < n → Pair w ws vs (k + 2 * j) (p + pair w ws vs * j)) → k + 2 * n ≤ length ws → tokens (slice k (k + 2 * n) ws) ≡ pairs_in w vs p n
    tokens_are zero k p each l = ap tokens (subst (λ (m : ℕ). slice k m ws ≡ []) (let z : k ≡ k + 2 * 0 = omega arith in z) (slice_empty k ws))
    tokens_are (suc n) k p each l =
        ap tokens (two k (k + 2 * suc n) (omega arith) l)
        ∙ ap₂ (λ (t : Token) (ts : List Token). t ∷ ts) (ap₂ token e.name e.mark)
        (ap (λ (m : ℕ). tokens (slice (k + 2) m ws)) (let z : k + 2 * suc n ≡ k + 2 + 2 * n = omega arith in z)
        ∙ tokens_are n (k + 2) (p + 1 + mark_words w) (λ j h. further j (each (suc j) (omega arith))) (omega arith))
      where
        e : Pair w ws vs k p
        e = subst (λ (m : ℕ). Pair w ws vs m p) (let z : k + 2 * 0 ≡ k = omega arith in z) (subst (λ (m : ℕ). Pair w ws vs (k + 2 * 0) m) (let z : p + pair w ws vs * 0 ≡ p = omega arith in z) (each 0 (omega arith)))

        two : (a m : ℕ) → a + 1 < m → m ≤ length ws → slice a m ws ≡ at ws a ∷ at ws (a + 1) ∷ slice (a + 2) m ws
        two a m h q =
            let f : a + 1 ≡ suc a = omega arith in
            let g : a + 2 ≡ suc (suc a) = omega arith in
            rw (f, g) (slice-cons a m ws 0 (omega arith) q ∙ ap (λ (s : List ℕ). at ws a ∷ s) (slice-cons (suc a) m ws 0 (omega arith) q))

        further : (j : ℕ) → Pair w ws vs (k + 2 * suc j) (p + pair w ws vs * suc j) → Pair w ws vs (k + 2 + 2 * j) (p + 1 + mark_words w + pair w ws vs * j)
        further j x = subst (λ (m : ℕ). Pair w ws vs m (p + 1 + mark_words w + pair w ws vs * j)) (let z : k + 2 * suc j ≡ k + 2 + 2 * j = omega arith in z)
            (subst (λ (m : ℕ). Pair w ws vs (k + 2 * suc j) m) (let z : p + pair w ws vs * suc j ≡ p + 1 + mark_words w + pair w ws vs * j = omega (arith, mul-suc (pair w ws vs) j) in z) x)

    -- a count of pairs, and what follows them
    counted_pairs : (is : List Item) (k p : ℕ) → unmarked is ≡ true → From w ws vs (counted (name ∷ markkind ∷ []) ∷ is) k p → k + 1 + 2 * at ws k ≤ length ws
        → (at ws k ≡ at vs p) × (tokens (slice (k + 1) (k + 1 + 2 * at ws k) ws) ≡ pairs_in w vs (p + 1) (at ws k)) × (drop (k + 1 + 2 * at ws k) ws ≡ drop (p + 1 + pair w ws vs * at ws k) vs)
    unfolding marked kind_of due_after
    counted_pairs is k p u f l =
        let a = plain w ws vs (counted (name ∷ markkind ∷ []) ∷ is) k p refl f (omega arith) in
        let b = pairs w ws vs is (at ws k) (k + 1) (p + 1) a.1 l in
        (a.0, tokens_are (at ws k) (k + 1) (p + 1) b.0 l, rest w ws vs is (k + 1 + 2 * at ws k) (p + 1 + pair w ws vs * at ws k) u b.1)

    groups_pair : (n : ℕ) → groups (spread_kinds w (name ∷ markkind ∷ [])) n ≡ 2 * n + more n
    unfolding spread_kinds
    groups_pair n = go w
      where
        go : (b : Bool) → groups (name ∷ cond b (any ∷ any ∷ []) (any ∷ [])) n ≡ 2 * n + cond b n 0
        go true = omega arith
        go false = omega arith

    -- 09: the count, the parameters, the body
    pub function_places : items_of (tag_of fs i) ≡ items_of 0x09 → 1 + 2 * at ws 0 ≤ length ws
        → (at ws 0 ≡ at vs 0) × (tokens_at fs i 1 (1 + 2 * at ws 0) ≡ pairs_in w vs 1 (at ws 0)) × Behind fs i (1 + 2 * at ws 0) (more (at ws 0))
    unfolding items_in items_of grammar spread unmarked none_of tokens_at
    function_places e l =
        let n = at ws 0 in
        let c = counted_pairs (many (stmt ∷ []) ∷ []) 0 0 refl (rw e at from_first) (omega arith) in
        let d = rw e at (file_due fs i shape) in
        let size : 1 + (2 * n + more n) ≤ length vs = let z = d.0 in let q = groups_pair (at vs 0) in let h = ap (λ (m : ℕ). 2 * m + more m) c.0 in omega (arith, z, q, h) in
        let z : 0 + 1 + pair w ws vs * n ≡ 1 + 2 * n + more n = omega (arith, pair_more n) in
        let r : drop (1 + 2 * n) ws ≡ drop (1 + 2 * n + more n) vs = subst (λ (m : ℕ). drop (1 + 2 * n) ws ≡ drop m vs) z c.2 in
        (c.0, c.1, behind (1 + 2 * n) (more n) r l (omega arith))

    -- 1C: name and mark, the count, the parameters, the body
    pub define_places : items_of (tag_of fs i) ≡ items_of 0x1C → 3 + 2 * at ws 2 ≤ length ws
        → Heads fs i 1 × (tokens_at fs i 3 (3 + 2 * at ws 2) ≡ pairs_in w vs (3 + extra w) (at ws 2)) × Behind fs i (3 + 2 * at ws 2) (extra w + more (at ws 2))
    unfolding items_in items_of grammar spread spread_kinds unmarked none_of tokens_at marked kind_of due_after
    define_places e l =
        let n = at ws 2 in
        let s = second name (counted (name ∷ markkind ∷ []) ∷ many (stmt ∷ []) ∷ []) e refl (omega arith) in
        let c = counted_pairs (many (stmt ∷ []) ∷ []) 2 (2 + extra w) refl s.2 (omega arith) in
        let size : 3 + 2 * n + (extra w + more n) ≤ length vs = file_size c.0 in
        let z : 2 + extra w + 1 + pair w ws vs * n ≡ 3 + 2 * n + (extra w + more n) = omega (arith, pair_more n) in
        let r : drop (3 + 2 * n) ws ≡ drop (3 + 2 * n + (extra w + more n)) vs = subst (λ (m : ℕ). drop (3 + 2 * n) ws ≡ drop m vs) z c.2 in
        let t = subst (λ (m : ℕ). tokens (slice 3 (3 + 2 * n) ws) ≡ pairs_in w vs m n) (let z : 2 + extra w + 1 ≡ 3 + extra w = omega arith in z) c.1 in (
          record {
            before = λ k a b. first k a s.0;
            mark = λ a. s.1;
            after = λ k a b. fourth k a b c.0 n refl l (subst (λ (m : ℕ). From w ws vs (copies n (name ∷ markkind ∷ []) (many (stmt ∷ []) ∷ [])) 3 m) (let z : 2 + extra w + 1 ≡ 3 + extra w = omega arith in z)
                (plain w ws vs (counted (name ∷ markkind ∷ []) ∷ many (stmt ∷ []) ∷ []) 2 (2 + extra w) refl s.2 (omega arith)).1);
          },
          t,
          behind (3 + 2 * n) (extra w + more n) r l size,
        )
      where
        file_size : at ws 2 ≡ at vs (2 + extra w) → 3 + 2 * at ws 2 + (extra w + more (at ws 2)) ≤ length vs
        file_size h = go w (rw e at (file_due fs i shape)) h
          where
            go : (b : Bool) → Due (lawful (tags_of fs) i) vs (spread b (items_of 0x1C)) 0 → at ws 2 ≡ at vs (2 + cond b 1 0) → 3 + 2 * at ws 2 + (cond b 1 0 + cond b (at ws 2) 0) ≤ length vs
            go true d q = let z = d.1.1.1.0 in omega (arith, z, q)
            go false d q = let z = d.1.1.0 in omega (arith, z, q)

        fourth : (k : ℕ) → 1 < k → k ≤ 3 → at ws 2 ≡ at vs (2 + extra w) → (n : ℕ) → at ws 2 ≡ n → 3 + 2 * at ws 2 ≤ length ws → From w ws vs (copies n (name ∷ markkind ∷ []) (many (stmt ∷ []) ∷ [])) 3 (3 + extra w) → at ws k ≡ at vs (k + extra w)
        fourth k a b h n q l f = ⊎_elim (λ (c : k < 3). subst (λ (m : ℕ). at ws m ≡ at vs (m + extra w)) (let z : 2 ≡ k = omega arith in z) h) (λ (c : 3 ≤ k). subst (λ (m : ℕ). at ws m ≡ at vs (m + extra w)) (let z : 3 ≡ k = omega arith in z) (three n q f)) (lt_or_le k 3)
          where
            three : (n : ℕ) → at ws 2 ≡ n → From w ws vs (copies n (name ∷ markkind ∷ []) (many (stmt ∷ []) ∷ [])) 3 (3 + extra w) → at ws 3 ≡ at vs (3 + extra w)
            three zero q f = after_by 3 (extra w) (rest w ws vs (many (stmt ∷ []) ∷ []) 3 (3 + extra w) refl f) 3 (omega arith)
            three (suc m) q f = (plain w ws vs (one name ∷ one markkind ∷ copies m (name ∷ markkind ∷ []) (many (stmt ∷ []) ∷ [])) 3 (3 + extra w) refl f (omega arith)).0

    -- 15: the mark, two children, and n pairs
    triples : (xs : List ℕ) → Row (lawful (tags_of fs) i) (name ∷ any ∷ any ∷ []) [] xs
        → (m : ℕ) × (length xs ≡ 3 * m) × (length (due_words true (many (name ∷ markkind ∷ []) ∷ []) xs) ≡ 2 * m)
    unfolding due_words marked kind_of due_after
    triples [] r = (0, refl, refl)
    triples (a ∷ []) r = absurd r.1
    triples (a ∷ b ∷ []) r = absurd r.1.1
    triples (a ∷ b ∷ c ∷ xs) r = let t = triples xs r.1.1.1 in (suc t.0, omega (arith, t.1), omega (arith, t.2))

    due_as_many : (is : List Item) (xs : List ℕ) → length (due_words false is xs) ≡ length xs
    unfolding due_words
    due_as_many is [] = refl
    due_as_many is (a ∷ []) = refl
    due_as_many is (a ∷ b ∷ xs) = ap suc (due_as_many (due_after is (short is a)) (b ∷ xs))

    pub for_in_places : items_of (tag_of fs i) ≡ items_of 0x15 → (n : ℕ) → length ws ≡ 3 + 2 * n → 1 ≤ n
        → Heads fs i 0 × (tokens_at fs i 3 (length ws) ≡ pairs_in w vs (3 + extra w) n) × (length vs ≡ 3 + extra w + (2 * n + more n))
    unfolding items_in items_of grammar spread spread_kinds tokens_at marked kind_of due_after
    for_in_places e (suc n) size some =
        let a = marks w ws vs (items_of 0x15) 0 0 refl (rw e at from_first) (omega arith) in
        let f1 = subst (From w ws vs (one expr ∷ one stmt ∷ P) 1) (zero-add (1 + extra w)) a.1 in
        let b = plain w ws vs (one expr ∷ one stmt ∷ P) 1 (1 + extra w) refl f1 (omega arith) in
        let f2 = subst (From w ws vs (one stmt ∷ P) 2) (let z : 1 + extra w + 1 ≡ 2 + extra w = omega arith in z) b.1 in
        let c = plain w ws vs (one stmt ∷ P) 2 (2 + extra w) refl f2 (omega arith) in
        let f3 = subst (From w ws vs P 3) (let z : 2 + extra w + 1 ≡ 3 + extra w = omega arith in z) c.1 in
        let d = one_pair w ws vs (many (name ∷ markkind ∷ []) ∷ []) 3 (3 + extra w) f3 (omega arith) in
        let m = many_pairs w ws vs [] n 5 (3 + extra w + pair w ws vs) d.1 (omega arith) in (
          record { before = λ k l h. absurd (omega arith); mark = λ l. a.0; after = λ k l h. three k l h b.0 c.0 d.0.name },
          ap (λ (x : ℕ). tokens (slice 3 x ws)) size ∙ tokens_are (suc n) 3 (3 + extra w) (each d.0 m) (omega arith),
          file_size w (rw e at (file_due fs i shape)) d.1,
        )
      where
        P : List Item
        P = one name ∷ one markkind ∷ many (name ∷ markkind ∷ []) ∷ []

        three : (k : ℕ) → 0 < k → k ≤ 3 → at ws 1 ≡ at vs (1 + extra w) → at ws 2 ≡ at vs (2 + extra w) → at ws 3 ≡ at vs (3 + extra w) → at ws k ≡ at vs (k + extra w)
        three zero l h x y z = absurd (omega arith)
        three (suc zero) l h x y z = x
        three (suc (suc zero)) l h x y z = y
        three (suc (suc (suc zero))) l h x y z = z
        three (suc (suc (suc (suc k)))) l h x y z = absurd (omega arith)

        each : Pair w ws vs 3 (3 + extra w) → ((j : ℕ) → j < n → Pair w ws vs (5 + 2 * j) (3 + extra w + pair w ws vs + pair w ws vs * j)) → (j : ℕ) → j < suc n → Pair w ws vs (3 + 2 * j) (3 + extra w + pair w ws vs * j)
        each x r zero l = subst (λ (q : ℕ). Pair w ws vs 3 q) (let z : 3 + extra w ≡ 3 + extra w + pair w ws vs * 0 = omega arith in z) x
        each x r (suc j) l = subst (λ (q : ℕ). Pair w ws vs q (3 + extra w + pair w ws vs * suc j)) (let z : 5 + 2 * j ≡ 3 + 2 * suc j = omega arith in z)
            (subst (λ (q : ℕ). Pair w ws vs (5 + 2 * j) q) (let z : 3 + extra w + pair w ws vs + pair w ws vs * j ≡ 3 + extra w + pair w ws vs * suc j = omega (arith, mul-suc (pair w ws vs) j) in z) (r j (omega arith)))

        file_size : (b : Bool) → Due (lawful (tags_of fs) i) vs (spread b (items_of 0x15)) 0 → drop 5 ws ≡ due_words b (many (name ∷ markkind ∷ []) ∷ []) (drop (3 + cond b 1 0 + (1 + (1 + cond b 1 0))) vs)
            → length vs ≡ 3 + cond b 1 0 + (2 * suc n + cond b (suc n) 0)
        file_size true d f =
            let r = d.1.1.1.1.1.1.1 in
            let t = triples (drop 7 vs) r.1 in
            let z = ap length f in
            omega (arith, t.1, t.2, z, length-drop 5 ws, length-drop 7 vs, r.0)
        file_size false d f =
            let r = d.1.1.1.1.1 in
            let z = ap length f ∙ due_as_many (many (name ∷ markkind ∷ []) ∷ []) (drop 5 vs) in
            omega (arith, z, length-drop 5 ws, length-drop 5 vs, r.0)
    for_in_places e zero size some = absurd (omega arith)
