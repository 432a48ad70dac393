-- Every check of a renamed file ends as that of the file: shapes, children, tags and depths are the same.
use mathlib.Core.Path.{◌≡◌, refl, sym, ap, ap₂, ◌∙◌}
use mathlib.Core.Bool.{Bool, true, false, ◌&&◌, cond}
use mathlib.Core.List.{List, [], ◌∷◌, ◌++◌, map}
use Prim.Native.Nat.{ℕ, zero, suc, ◌+◌, ◌-◌, ◌*◌, ◌<◌}
use native.Mathlib.Nat.{le_refl}
use native.Mathlib.Omega.{arith}
use lib.ListN.{length, length-map, get_or-map}
use lib.Dec.{eqb}
use borrow.Author.Tests.{le-leb, eqb-true}
use Rattle.meaning.specs.Fields.{Field, field_at, no_field, fields}
use Rattle.meaning.specs.Grammar.{Item, one, perhaps, many, counted, never, any, name, items_of, items_in, items_for, grammar, spread, spread_kinds, is_program, names, lawful, inside, bound, bounds, fits, kids, kind_of, due_after, tags_of, wide_marks, shape_at}
use Rattle.meaning.specs.Tree.{kids_of, all_kids, tree_at, parent_by, parent_of, depth_by, depth_of, depth_at}
use Rattle.meaning.specs.Check.{framed, unless, current_at, checked_fields, checked_tree, checked}
use Rattle.meaning.specs.Image.{word}
use Rattle.meaning.specs.declared.Cause.{Cause}
use Rattle.meaning.specs.Outcome.{Outcome}
use Rattle.meaning.proofs.Lists.{lowest_same}
use Rattle.meaning.proofs.Kids.{none_fits}
use Rattle.meaning.proofs.Images.Fielded.{Bytes, bytes_at, bytes_by, bytes_drop, Payloads, no_more, and_more, payloads}
use Rattle.meaning.proofs.Images.Written.{word_is}
use Rattle.names.specs.Rename.{Rule, naming_of, renamed_word, renamed_payload, renamed_field, renamed}
use Rattle.names.proofs.Steps.{same_name}
use Rattle.names.proofs.Files.{fields_renamed, left_renamed}

bool_same : (a b : Bool) → (a ≡ true → b ≡ true) → (b ≡ true → a ≡ true) → a ≡ b
bool_same true b h k = sym (h refl)
bool_same false true h k = k refl
bool_same false false h k = refl

count_not_name : ◌≡◌ {A = ℕ} 5 2 → ⊥
count_not_name e = omega arith

-- what is due after a name is the same whichever it is
pub due_name : (is : List Item) (v w : ℕ) → kind_of is ≡ name → due_after is v ≡ due_after is w
unfolding kind_of due_after
due_name [] v w e = refl
due_name (one k ∷ is) v w e = refl
due_name (perhaps k ∷ is) v w e = refl
due_name (many ks ∷ is) v w e = refl
due_name (counted ks ∷ is) v w e = absurd (count_not_name e)

module _ (f : ℕ → ℕ) (rule : Rule f) where
  -- a name is lawful where its change is
  name_lawful : (ts : List ℕ) (i w : ℕ) → w < 65536 → lawful ts i name (f w) ≡ lawful ts i name w
  unfolding lawful names inside bound bounds
  name_lawful ts i w h =
      let a = le-leb (f w) 65535 (let k = rule.kept.within w h in omega arith) in
      let b = le-leb w 65535 (omega arith) in
      let a0 = le-leb 0 (f w) (omega arith) in
      let b0 = le-leb 0 w (omega arith) in
      let c : eqb (f w) 65535 ≡ eqb w 65535 = ap (eqb (f w)) (sym rule.kept.empty) ∙ same_name f rule w 65535 in
      rw (a0, b0, a, b, c) refl

  -- so is any other word
  any_lawful : (ts : List ℕ) (i w : ℕ) → w < 65536 → lawful ts i any w ≡ true
  unfolding lawful names inside bound bounds
  any_lawful ts i w h =
      let b = le-leb w 65535 (omega arith) in
      let b0 = le-leb 0 w (omega arith) in
      let c : eqb w 65536 ≡ false = not_there w h in
      rw (b0, b, c) refl
    where
      not_there : (w : ℕ) → w < 65536 → eqb w 65536 ≡ false
      not_there w h = go (eqb w 65536) refl
        where
          go : (c : Bool) → eqb w 65536 ≡ c → c ≡ false
          go true e = let z = eqb-true w 65536 e in absurd (omega arith)
          go false e = refl

  module _ (ts : List ℕ) (i : ℕ) where
    fits_same : (is : List Item) (p : List ℕ) → Bytes p → fits (lawful ts i) is (renamed_payload f is p) ≡ fits (lawful ts i) is p
    unfolding fits renamed_payload renamed_word
    fits_same is [] b = refl
    fits_same is (a ∷ []) b = refl
    fits_same is (a ∷ c ∷ p) b = go (eqb (kind_of is) name) refl (fits_same (due_after is (a * 256 + c)) p (bytes_drop 2 (a ∷ c ∷ p) b))
      where
        small : a * 256 + c < 65536
        small = omega (arith, bytes_at (a ∷ c ∷ p) b 0, bytes_at (a ∷ c ∷ p) b 1)

        go : (d : Bool) → eqb (kind_of is) name ≡ d
            → fits (lawful ts i) (due_after is (a * 256 + c)) (renamed_payload f (due_after is (a * 256 + c)) p) ≡ fits (lawful ts i) (due_after is (a * 256 + c)) p
            → fits (lawful ts i) is (cond d (word (f (a * 256 + c))) (a ∷ c ∷ []) ++ renamed_payload f (due_after is (a * 256 + c)) p) ≡ (lawful ts i (kind_of is) (a * 256 + c) && fits (lawful ts i) (due_after is (a * 256 + c)) p)
        go true e rec =
            let k = eqb-true (kind_of is) name e in
            rw (word_is (f (a * 256 + c)) (rule.kept.within (a * 256 + c) small), due_name is (f (a * 256 + c)) (a * 256 + c) k, k, rec) (ap (λ (x : Bool). x && fits (lawful ts i) (due_after is (a * 256 + c)) p) (name_lawful ts i (a * 256 + c) small))
        go false e rec = ap (λ (x : Bool). lawful ts i (kind_of is) (a * 256 + c) && x) rec

  kids_same : (is : List Item) (p : List ℕ) → Bytes p → kids is (renamed_payload f is p) ≡ kids is p
  unfolding kids renamed_payload renamed_word names
  kids_same is [] b = refl
  kids_same is (a ∷ []) b = refl
  kids_same is (a ∷ c ∷ p) b = go (eqb (kind_of is) name) refl (kids_same (due_after is (a * 256 + c)) p (bytes_drop 2 (a ∷ c ∷ p) b))
    where
      small : a * 256 + c < 65536
      small = omega (arith, bytes_at (a ∷ c ∷ p) b 0, bytes_at (a ∷ c ∷ p) b 1)

      go : (d : Bool) → eqb (kind_of is) name ≡ d
          → kids (due_after is (a * 256 + c)) (renamed_payload f (due_after is (a * 256 + c)) p) ≡ kids (due_after is (a * 256 + c)) p
          → kids is (cond d (word (f (a * 256 + c))) (a ∷ c ∷ []) ++ renamed_payload f (due_after is (a * 256 + c)) p) ≡ cond (names (kind_of is) (a * 256 + c)) ((a * 256 + c) ∷ []) [] ++ kids (due_after is (a * 256 + c)) p
      go true e rec =
          let k = eqb-true (kind_of is) name e in
          rw (word_is (f (a * 256 + c)) (rule.kept.within (a * 256 + c) small), due_name is (f (a * 256 + c)) (a * 256 + c) k, k, rec) refl
      go false e rec = ap (λ (x : List ℕ). cond (names (kind_of is) (a * 256 + c)) ((a * 256 + c) ∷ []) [] ++ x) rec

  -- ---- a text is a name that may be empty

  renamed_none : (p : List ℕ) → renamed_payload f [] p ≡ p
  unfolding renamed_payload renamed_word kind_of due_after
  renamed_none [] = refl
  renamed_none (a ∷ []) = refl
  renamed_none (a ∷ c ∷ p) = ap (λ (x : List ℕ). a ∷ c ∷ x) (renamed_none p)

  kids_none : (p : List ℕ) → kids [] p ≡ []
  unfolding kids kind_of due_after names
  kids_none [] = refl
  kids_none (a ∷ []) = refl
  kids_none (a ∷ c ∷ p) = kids_none p

  text_fits : (ts : List ℕ) (i : ℕ) (p : List ℕ) → Bytes p → fits (lawful ts i) (one any ∷ []) (renamed_payload f (one name ∷ []) p) ≡ fits (lawful ts i) (one any ∷ []) p
  unfolding fits renamed_payload renamed_word kind_of due_after
  text_fits ts i [] b = refl
  text_fits ts i (a ∷ []) b = refl
  text_fits ts i (a ∷ c ∷ p) b =
      let small : a * 256 + c < 65536 = omega (arith, bytes_at (a ∷ c ∷ p) b 0, bytes_at (a ∷ c ∷ p) b 1) in
      let in_words_lem = rule.kept.within (a * 256 + c) small in
      rw (word_is (f (a * 256 + c)) in_words_lem, renamed_none p, any_lawful ts i (f (a * 256 + c)) in_words_lem, any_lawful ts i (a * 256 + c) small) refl

  text_kids : (p : List ℕ) → kids (one any ∷ []) (renamed_payload f (one name ∷ []) p) ≡ kids (one any ∷ []) p
  unfolding kids renamed_payload renamed_word kind_of due_after names
  text_kids [] = refl
  text_kids (a ∷ []) = refl
  text_kids (a ∷ c ∷ p) = rw (renamed_none p) refl

  -- ---- a field

  module _ (wide : Bool) (x : Field) (b : Bytes x.payload) where
    in_fits : (ts : List ℕ) (i : ℕ) → fits (lawful ts i) (items_in wide x.tag) (renamed_field f wide x).payload ≡ fits (lawful ts i) (items_in wide x.tag) x.payload
    unfolding renamed_field items_in naming_of items_of grammar spread spread_kinds
    in_fits ts i = go (eqb x.tag 0x02) refl
      where
        go : (c : Bool) → eqb x.tag 0x02 ≡ c
            → fits (lawful ts i) (spread wide (items_of x.tag)) (renamed_payload f (spread wide (cond c (one name ∷ []) (items_of x.tag))) x.payload) ≡ fits (lawful ts i) (spread wide (items_of x.tag)) x.payload
        go true e = rw (eqb-true x.tag 0x02 e) (text_fits ts i x.payload b)
        go false e = fits_same ts i (spread wide (items_of x.tag)) x.payload b

    pub kids_of_same : kids_of wide (renamed_field f wide x) ≡ kids_of wide x
    unfolding kids_of renamed_field items_in naming_of items_of grammar spread spread_kinds
    kids_of_same = go (eqb x.tag 0x02) refl
      where
        go : (c : Bool) → eqb x.tag 0x02 ≡ c
            → kids (spread wide (items_of x.tag)) (renamed_payload f (spread wide (cond c (one name ∷ []) (items_of x.tag))) x.payload) ≡ kids (spread wide (items_of x.tag)) x.payload
        go true e = rw (eqb-true x.tag 0x02 e) (text_kids x.payload)
        go false e = kids_same (spread wide (items_of x.tag)) x.payload b

    never_same : (ts : List ℕ) (i : ℕ) (p q : List ℕ) → fits (lawful ts i) never p ≡ fits (lawful ts i) never q
    never_same ts i p q = bool_same _ _ (λ e. absurd (none_fits ts i p e)) (λ e. absurd (none_fits ts i q e))

    shape_same : (ts : List ℕ) (i : ℕ) (last : Bool) → fits (lawful ts i) (items_for wide x.tag last) (renamed_field f wide x).payload ≡ fits (lawful ts i) (items_for wide x.tag last) x.payload
    unfolding items_for
    shape_same ts i true = go (is_program x.tag)
      where
        go : (c : Bool) → fits (lawful ts i) (cond c (items_in wide x.tag) never) (renamed_field f wide x).payload ≡ fits (lawful ts i) (cond c (items_in wide x.tag) never) x.payload
        go true = in_fits ts i
        go false = never_same ts i _ _
    shape_same ts i false = go (is_program x.tag)
      where
        go : (c : Bool) → fits (lawful ts i) (cond c never (items_in wide x.tag)) (renamed_field f wide x).payload ≡ fits (lawful ts i) (cond c never (items_in wide x.tag)) x.payload
        go true = never_same ts i _ _
        go false = in_fits ts i

  -- ---- all fields

  module _ (fs : List Field) (wide : Bool) (same_width_lem : wide ≡ wide_marks fs) where
    abbrev gs : List Field
    gs = map (renamed_field f wide) fs

    pub at_same : (i : ℕ) → field_at gs i ≡ renamed_field f wide (field_at fs i)
    unfolding renamed_field renamed_payload
    at_same i = get_or-map (renamed_field f wide) fs i no_field

    pub tag_same : (i : ℕ) → (field_at gs i).tag ≡ (field_at fs i).tag
    unfolding renamed_field
    tag_same i = ap (λ (x : Field). x.tag) (at_same i)

    tags_same : (xs : List Field) → tags_of (map (renamed_field f wide) xs) ≡ tags_of xs
    unfolding renamed_field
    tags_same [] = refl
    tags_same (x ∷ xs) = ap (λ (l : List ℕ). x.tag ∷ l) (tags_same xs)

    pub wide_same : wide_marks gs ≡ wide_marks fs
    unfolding wide_marks
    wide_same = rw (length-map fs (renamed_field f wide), tag_same (length fs - 1)) refl

    pub payload_at : (xs : List Field) → Payloads xs → (i : ℕ) → Bytes (field_at xs i).payload
    payload_at [] no_more i = bytes_by [] (λ k. omega arith)
    payload_at (x ∷ xs) (and_more h z) zero = h
    payload_at (x ∷ xs) (and_more h z) (suc i) = payload_at xs z i

    module _ (z : Payloads fs) where
      pub shapes_same : (i : ℕ) → shape_at gs i ≡ shape_at fs i
      unfolding shape_at renamed_field
      shapes_same i =
          rw (wide_same, length-map fs (renamed_field f wide), tags_same fs, at_same i, ← same_width_lem) (shape_same wide (field_at fs i) (payload_at fs z i) (tags_of fs) i (eqb (i + 1) (length fs)))

      all_same : (xs : List Field) → Payloads xs → all_kids wide (map (renamed_field f wide) xs) ≡ all_kids wide xs
      unfolding all_kids
      all_same [] y = refl
      all_same (x ∷ xs) (and_more h y) = ap₂ ◌++◌ (kids_of_same wide x h) (all_same xs y)

      parents_same : (c i : ℕ) (xs : List Field) → Payloads xs → parent_by wide c i (map (renamed_field f wide) xs) ≡ parent_by wide c i xs
      unfolding parent_by
      parents_same c i [] y = refl
      parents_same c i (x ∷ xs) (and_more h y) = rw (kids_of_same wide x h, parents_same c (suc i) xs y) refl

      tree_same : (c : ℕ) → tree_at gs c ≡ tree_at fs c
      unfolding tree_at
      tree_same c = rw (wide_same, ← same_width_lem, all_same fs z) refl

      parent_same : (c : ℕ) → parent_of gs c ≡ parent_of fs c
      unfolding parent_of
      parent_same c = rw (wide_same, ← same_width_lem) (parents_same c 0 fs z)

      depth_by_same : (last n c : ℕ) → depth_by (parent_of gs) last n c ≡ depth_by (parent_of fs) last n c
      unfolding depth_by
      depth_by_same last zero c = refl
      depth_by_same last (suc n) c = rw (parent_same c, depth_by_same last n (parent_of fs c)) refl

      depth_same : (c : ℕ) → depth_at gs c ≡ depth_at fs c
      unfolding depth_at depth_of
      depth_same c = rw (length-map fs (renamed_field f wide), depth_by_same (length fs - 1) (length fs) c) refl

      current_same : (mode i : ℕ) → current_at mode gs i ≡ current_at mode fs i
      unfolding current_at
      current_same mode i = rw (tag_same i) refl

      unless_same : (c : Cause) (p q : ℕ → Bool) (n : ℕ) (o o' : Outcome) → ((j : ℕ) → p j ≡ q j) → o ≡ o' → unless c p n o ≡ unless c q n o'
      unfolding unless
      unless_same c p q n o o' h e = rw (lowest_same p q n (λ j l. h j), e) refl

      pub checked_fields_same : (mode work : ℕ) → checked_fields mode gs work ≡ checked_fields mode fs work
      unfolding checked_fields
      checked_fields_same mode work =
          rw (length-map fs (renamed_field f wide))
          (unless_same _ _ _ (length fs) _ _ shapes_same
          (unless_same _ _ _ (length fs) _ _ (current_same mode)
          (unless_same _ _ _ (length fs - 1) _ _ tree_same
          (unless_same _ _ _ (length fs) _ _ depth_same refl))))

  -- THE CHECK of a renamed file
  pub checked_same : (mode : ℕ) (t : List ℕ) → Bytes t → (work : ℕ) → checked mode (renamed f t) work ≡ checked mode t work
  unfolding checked checked_tree framed
  checked_same mode t b work =
      rw (
        fields_renamed f t b,
        left_renamed f t b,
        length-map (fields t) (renamed_field f (wide_marks (fields t))),
        checked_fields_same (fields t) (wide_marks (fields t)) refl (payloads (length t) t (le_refl _) b) mode work,
      ) refl
