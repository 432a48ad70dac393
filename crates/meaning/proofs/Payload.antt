-- One law over the grammar: what the words of a payload that fits are, item by item, and what its children sum to.
--     Due ok ws is k     from word k on, the words ws are lawful for the items `is`
--     Sum g ws is k      the sum of g over the children that these words name
--     parsed             where the words fit, both hold; by induction on the items
-- At a tag of 01's table both compute, so what is known of a tag's payload needs no induction of its own.
use mathlib.Core.Path.{◌≡◌, refl, sym, ap, ap₂, ◌∙◌}
use mathlib.Core.Bool.{Bool, true, false, ◌&&◌, cond}
use mathlib.Core.Logic.{◌⊎◌, inl, inr, ⊎_elim}
use mathlib.Core.List.{List, [], ◌∷◌}
use Prim.Native.Nat.{ℕ, zero, suc, ◌+◌, ◌*◌, ◌<◌, ◌≤◌}
use native.Mathlib.Nat.{zero-add, suc-add}
use native.Mathlib.Numerals.{add-one}
use native.Mathlib.Omega.{arith}
use lib.ListN.{length, get_or, take, drop, length-drop, drop_of_length-le}
use lib.Seq.{drop-cons, drop-drop}
use lib.Dec.{ltb}
use borrow.Author.Tests.{lt-ltb, le-ltb}
use Rattle.meaning.specs.Fields.{Field, field_at, words}
use Rattle.meaning.specs.Grammar.{Item, one, perhaps, many, counted, none, names, ends, kind_of, due_after, ones, copies, items_of, items_in, grammar, lawful, wide_marks, tags_of, shape_at, words_of}
use Rattle.meaning.specs.Tree.{kids_of}
use Rattle.meaning.specs.Read.{at, words_at}
use Rattle.meaning.specs.At.{tag_of}
use Rattle.meaning.proofs.Lists.{lt_or_le, and_left, and_right, false_true, all_to, all_below, sum_of, sum_of_append}
use Rattle.meaning.proofs.Kids.{inside_none, shape_fits, shape_tag}
use Rattle.meaning.proofs.Spread.{fit, fits_words, least, fit_least, weigh, sum_in, Makes, tidy, due_fits, due_sum}

-- how many words n groups of these kinds are
abbrev pub groups : (ks : List ℕ) (n : ℕ) → ℕ
groups [] n = 0
groups (a ∷ []) n = n
groups (a ∷ b ∷ ks) n = (2 + length ks) * n

groups_none : (ks : List ℕ) → groups ks 0 ≡ 0
groups_none [] = refl
groups_none (a ∷ []) = refl
groups_none (a ∷ b ∷ ks) = omega arith

groups_more : (ks : List ℕ) (n : ℕ) → groups ks (suc n) ≡ length ks + groups ks n
groups_more [] n = refl
groups_more (a ∷ []) n = omega arith
groups_more (a ∷ b ∷ ks) n = omega arith

-- lawful at a kind
abbrev pub Allowed : (ok : ℕ → ℕ → Bool) (kind w : ℕ) → Type 0
Allowed ok kind w = ok kind w ≡ true

-- ---- what the words are

module _ (ok : ℕ → ℕ → Bool) where
  -- a row of groups of the kinds ks, of whose first group only `now` is left
  abbrev pub Row : (ks now : List ℕ) → List ℕ → Type 0
  Row ks [] [] = Unit {0}
  Row ks [] (w ∷ ws) = Allowed ok (get_or ks 0 none) w × Row ks (drop 1 ks) ws
  Row ks (k ∷ now) [] = ⊥
  Row ks (k ∷ now) (w ∷ ws) = Allowed ok k w × Row ks now ws

  abbrev pub Due : (ws : List ℕ) → List Item → (k : ℕ) → Type 0
  Due ws [] k = length ws ≡ k
  Due ws (one kind ∷ is) k = Allowed ok kind (at ws k) × Due ws is (k + 1)
  Due ws (perhaps kind ∷ is) k = (length ws ≡ k) ⊎ (Allowed ok kind (at ws k) × Due ws is (k + 1))
  Due ws (many ks ∷ is) k = (k ≤ length ws) × Row ks [] (drop k ws)
  Due ws (counted ks ∷ is) k =
      (k + 1 + groups ks (at ws k) ≤ length ws) × Row ks [] (take (groups ks (at ws k)) (drop (k + 1) ws)) × Due ws is (k + 1 + groups ks (at ws k))

-- ---- what the children sum to

module _ (g : ℕ → ℕ) where
  abbrev pub weigh_row : (ks now : List ℕ) → List ℕ → ℕ
  weigh_row ks [] [] = 0
  weigh_row ks [] (w ∷ ws) = weigh g (get_or ks 0 none) w + weigh_row ks (drop 1 ks) ws
  weigh_row ks (k ∷ now) [] = 0
  weigh_row ks (k ∷ now) (w ∷ ws) = weigh g k w + weigh_row ks now ws

  abbrev pub Sum : (ws : List ℕ) → List Item → (k : ℕ) → ℕ
  Sum ws [] k = 0
  Sum ws (one kind ∷ is) k = weigh g kind (at ws k) + Sum ws is (k + 1)
  Sum ws (perhaps kind ∷ is) k = cond (ltb k (length ws)) (weigh g kind (at ws k) + Sum ws is (k + 1)) 0
  Sum ws (many ks ∷ is) k = weigh_row ks [] (drop k ws)
  Sum ws (counted ks ∷ is) k = weigh_row ks [] (take (groups ks (at ws k)) (drop (k + 1) ws)) + Sum ws is (k + 1 + groups ks (at ws k))

-- ---- the law

module _ (ok : ℕ → ℕ → Bool) (nothing : (w : ℕ) → Allowed ok none w → ⊥) (g : ℕ → ℕ) where
  -- the first m words are a row, and the rest fits
  record Front (ks : List ℕ) (is : List Item) (now : List ℕ) (m : ℕ) (js : List Item) (ws : List ℕ) : Type 0 where
    within : m ≤ length ws
    row : Row ok ks now (take m ws)
    after : fit ok is (drop m ws) ≡ true
    sum : sum_in g js ws ≡ weigh_row g ks now (take m ws) + sum_in g is (drop m ws)

  -- the first group, and then what js is a row of
  ones_front : (ks : List ℕ) (is js : List Item) (m : ℕ) → ((vs : List ℕ) → fit ok js vs ≡ true → Front ks is [] m js vs)
      → (now ws : List ℕ) → fit ok (ones now js) ws ≡ true → Front ks is now (length now + m) (ones now js) ws
  unfolding fit sum_in ends kind_of due_after
  ones_front ks is js m later [] ws e = rw zero-add (later ws e)
  ones_front ks is js m later (k ∷ now) [] e = absurd (false_true e)
  ones_front ks is js m later (k ∷ now) (w ∷ ws) e =
      let r = ones_front ks is js m later now ws (and_right (ok k w) _ e) in
      rw suc-add (record { within = omega (arith, r.within); row = (and_left _ _ e, r.row); after = r.after; sum = omega (arith, r.sum) })

  -- n groups
  copies_front : (ks : List ℕ) (is : List Item) (n : ℕ) (ws : List ℕ) → fit ok (copies n ks is) ws ≡ true → Front ks is [] (groups ks n) (copies n ks is) ws
  unfolding fit sum_in ends kind_of due_after
  copies_front ks is zero ws e = rw (groups_none ks) (record { within = omega arith; row = tt; after = e; sum = omega arith })
  copies_front [] is (suc n) ws e = copies_front [] is n ws e
  copies_front (k ∷ ks) is (suc n) [] e = absurd (false_true e)
  copies_front (k ∷ ks) is (suc n) (w ∷ ws) e =
      let r = ones_front (k ∷ ks) is (copies n (k ∷ ks) is) (groups (k ∷ ks) n) (copies_front (k ∷ ks) is n) ks ws (and_right (ok k w) _ e) in
      rw (groups_more (k ∷ ks) n, suc-add (length ks) (groups (k ∷ ks) n)) (record { within = omega (arith, r.within); row = (and_left _ _ e, r.row); after = r.after; sum = omega (arith, r.sum) })

  -- groups to the end
  many_front : (ks : List ℕ) (is : List Item) (now ws : List ℕ) → fit ok (ones now (many ks ∷ is)) ws ≡ true
      → Row ok ks now ws × (sum_in g (ones now (many ks ∷ is)) ws ≡ weigh_row g ks now ws)
  unfolding fit sum_in ends kind_of due_after
  many_front ks is [] [] e = (tt, refl)
  many_front ks is [] (w ∷ ws) e =
      let r = many_front ks is (drop 1 ks) ws (and_right (ok (get_or ks 0 none) w) _ e) in ((and_left _ _ e, r.0), omega (arith, r.1))
  many_front ks is (k ∷ now) [] e = absurd (false_true e)
  many_front ks is (k ∷ now) (w ∷ ws) e = let r = many_front ks is now ws (and_right (ok k w) _ e) in ((and_left _ _ e, r.0), omega (arith, r.1))

  module _ (ws : List ℕ) where
    -- the word at k, taken off
    record Next (is : List Item) (k : ℕ) : Type 0 where
      here : Allowed ok (kind_of is) (at ws k)
      after : fit ok (due_after is (at ws k)) (drop (k + 1) ws) ≡ true
      sum : sum_in g is (drop k ws) ≡ weigh g (kind_of is) (at ws k) + sum_in g (due_after is (at ws k)) (drop (k + 1) ws)

    next : (is : List Item) (k : ℕ) → k < length ws → fit ok is (drop k ws) ≡ true → Next is k
    unfolding fit sum_in
    next is k h e =
        let d : drop k ws ≡ at ws k ∷ drop (k + 1) ws = rw add-one (drop-cons ws k 0 h) in
        let f = rw d at e in
        record { here = and_left _ _ f; after = and_right (ok (kind_of is) (at ws k)) _ f; sum = rw d }

    -- where the payload may not end yet, there is a word
    some : (is : List Item) (k : ℕ) → ends is ≡ false → fit ok is (drop k ws) ≡ true → k < length ws
    unfolding fit
    some is k n e = ⊎_elim (λ (q : k < length ws). q) (λ (q : length ws ≤ k). absurd (false_true (sym n ∙ (rw (drop_of_length-le ws q) at e)))) (lt_or_le k (length ws))

    pub parsed : (is : List Item) (k : ℕ) → k ≤ length ws → fit ok is (drop k ws) ≡ true → Due ok ws is k × (sum_in g is (drop k ws) ≡ Sum g ws is k)
    unfolding fit sum_in ends kind_of due_after names sum_of
    parsed [] k h e =
        let l : length ws ≤ k = ⊎_elim (λ (q : k < length ws). absurd (nothing (at ws k) (next [] k q e).here)) (λ (q : length ws ≤ k). q) (lt_or_le k (length ws)) in
        (omega arith, rw (drop_of_length-le ws l))
    parsed (one kind ∷ is) k h e =
        let l = some (one kind ∷ is) k refl e in
        let n = next (one kind ∷ is) k l e in
        let r = parsed is (k + 1) (omega arith) n.after in
        ((n.here, r.0), omega (arith, n.sum, r.1))
    parsed (perhaps kind ∷ is) k h e =
        ⊎_elim
        (λ (q : k < length ws).
        let n = next (perhaps kind ∷ is) k q e in
        let r = parsed is (k + 1) (omega arith) n.after in
        (inr (n.here, r.0), rw (lt-ltb k (length ws) q) (omega (arith, n.sum, r.1))))
        (λ (q : length ws ≤ k). (inl (omega arith), rw (drop_of_length-le ws q, le-ltb k (length ws) q)))
        (lt_or_le k (length ws))
    parsed (many ks ∷ is) k h e = let r = many_front ks is [] (drop k ws) e in ((h, r.0), r.1)
    parsed (counted ks ∷ is) k h e =
        let l = some (counted ks ∷ is) k refl e in
        let n = next (counted ks ∷ is) k l e in
        let f = copies_front ks is (at ws k) (drop (k + 1) ws) n.after in
        let w : k + 1 + groups ks (at ws k) ≤ length ws = omega (arith, f.within, length-drop (k + 1) ws) in
        let r = parsed is (k + 1 + groups ks (at ws k)) w (rw drop-drop at f.after) in
        ((w, f.row, r.0), omega (arith, n.sum, r.1, rw drop-drop at f.sum))

-- ---- the same of a node of the right shape

pub none_lawful : (ts : List ℕ) (i w : ℕ) → lawful ts i none w ≡ true → ⊥
unfolding lawful names
none_lawful ts i w e = inside_none w e

-- every mark is lawful
lawful_makes : (wide : Bool) (ts : List ℕ) (i : ℕ) → Makes wide (lawful ts i) (lawful ts i)
unfolding lawful names
lawful_makes wide ts i = record { same = λ kind w n e. e; short = λ v q e. refl; long = λ v u q e f. refl }

-- in 01's table no word that may be left out is a mark
tags_tidy : all_to (λ t. tidy (items_of t)) 63 ≡ true
unfolding all_to tidy items_of grammar
tags_tidy = refl

pub items_tidy : (tag : ℕ) → tag < 63 → tidy (items_of tag) ≡ true
items_tidy tag l = all_below (λ t. tidy (items_of t)) 63 tag tags_tidy l

module _ (fs : List Field) (i : ℕ) (shape : shape_at fs i ≡ true) where
  -- the words as they are due, by what is lawful there
  module _ (ok : ℕ → ℕ → Bool) (nothing : (w : ℕ) → Allowed ok none w → ⊥) (makes : Makes (wide_marks fs) (lawful (tags_of fs) i) ok) where
    words_fit : fit ok (items_of (tag_of fs i)) (words_at fs i) ≡ true
    unfolding words_of items_in
    words_fit = due_fits (wide_marks fs) (lawful (tags_of fs) i) ok makes (items_of (tag_of fs i)) (field_at fs i).payload (items_tidy _ (shape_tag fs i shape)) (shape_fits fs i shape)

    pub due_by : Due ok (words_at fs i) (items_of (tag_of fs i)) 0
    due_by = (parsed ok nothing (λ c. 0) (words_at fs i) (items_of (tag_of fs i)) 0 (omega arith) words_fit).0

  pub due_at : Due (lawful (tags_of fs) i) (words_at fs i) (items_of (tag_of fs i)) 0
  due_at = due_by (lawful (tags_of fs) i) (none_lawful (tags_of fs) i) (lawful_makes (wide_marks fs) (tags_of fs) i)

  -- of the words of the file
  file_fit : fit (lawful (tags_of fs) i) (items_in (wide_marks fs) (tag_of fs i)) (words (field_at fs i).payload) ≡ true
  file_fit = fits_words (lawful (tags_of fs) i) (items_in (wide_marks fs) (tag_of fs i)) (field_at fs i).payload (shape_fits fs i shape)

  pub file_due : Due (lawful (tags_of fs) i) (words (field_at fs i).payload) (items_in (wide_marks fs) (tag_of fs i)) 0
  file_due = (parsed (lawful (tags_of fs) i) (none_lawful (tags_of fs) i) (λ c. 0) (words (field_at fs i).payload) (items_in (wide_marks fs) (tag_of fs i)) 0 (omega arith) file_fit).0

  pub file_least : least (items_in (wide_marks fs) (tag_of fs i)) ≤ length (words (field_at fs i).payload)
  file_least = fit_least (lawful (tags_of fs) i) (items_in (wide_marks fs) (tag_of fs i)) (words (field_at fs i).payload) file_fit

  pub least_at : least (items_of (tag_of fs i)) ≤ length (words_at fs i)
  least_at = fit_least (lawful (tags_of fs) i) (items_of (tag_of fs i)) (words_at fs i) (words_fit (lawful (tags_of fs) i) (none_lawful (tags_of fs) i) (lawful_makes (wide_marks fs) (tags_of fs) i))

  pub sum_at : (g : ℕ → ℕ) → sum_of g (kids_of (wide_marks fs) (field_at fs i)) ≡ Sum g (words_at fs i) (items_of (tag_of fs i)) 0
  unfolding kids_of words_of items_in
  sum_at g =
      due_sum (wide_marks fs) g (items_of (tag_of fs i)) (field_at fs i).payload (items_tidy _ (shape_tag fs i shape))
      ∙ (parsed (lawful (tags_of fs) i) (none_lawful (tags_of fs) i) g (words_at fs i) (items_of (tag_of fs i)) 0 (omega arith)
      (words_fit (lawful (tags_of fs) i) (none_lawful (tags_of fs) i) (lawful_makes (wide_marks fs) (tags_of fs) i))).1
