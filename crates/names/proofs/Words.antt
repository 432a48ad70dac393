-- The words of a renamed node as they are due: those of the node, names changed, at either width of marks.
use mathlib.Core.Path.{◌≡◌, refl, sym, ap, ◌∙◌}
use mathlib.Core.Bool.{Bool, true, false, not, ◌&&◌, cond}
use mathlib.Core.List.{List, [], ◌∷◌, ◌++◌, map}
use Prim.Native.Nat.{ℕ, zero, suc, ◌+◌, ◌*◌, ◌<◌}
use native.Mathlib.Omega.{arith}
use lib.ListN.{length, get_or, take, drop}
use lib.Dec.{eqb}
use borrow.Author.Tests.{eqb-true}
use Rattle.meaning.specs.Fields.{Field, field_at, words}
use Rattle.meaning.specs.Grammar.{Item, one, perhaps, many, counted, none, any, name, mark, items_of, grammar, spread, kind_of, due_after, ones, copies, marked, short_mark, short, due_words, words_of, wide_marks}
use Rattle.meaning.specs.Read.{at, token, tokens, words_at}
use Rattle.meaning.specs.Image.{word}
use Rattle.meaning.proofs.Lists.{and_left, and_right}
use Rattle.meaning.proofs.Payload.{items_tidy}
use Rattle.meaning.proofs.Spread.{tidy, tidy_after, plain_step, mark_step, due_same, due_plain, due_short, due_wide, due_half}
use Rattle.meaning.proofs.Images.Fielded.{Bytes, bytes_at, bytes_drop, Payloads}
use Rattle.meaning.proofs.Images.Written.{word_is}
use Rattle.names.specs.Rename.{Rule, naming_of, renamed_word, renamed_payload, renamed_field}
use Rattle.names.proofs.Changed.{token_by}
use Rattle.names.proofs.Checks.{due_name, at_same, wide_same, payload_at}

module _ (f : ℕ → ℕ) where
  abbrev pub changed_word : (kind w : ℕ) → ℕ
  changed_word kind w = cond (eqb kind name) (f w) w

  unfoldable pub changed : List Item → List ℕ → List ℕ
  changed is [] = []
  changed is (w ∷ ws) = changed_word (kind_of is) w ∷ changed (due_after is w) ws

  -- ---- from the words of the file

  module _ (rule : Rule f) (wide : Bool) where
    -- the words as they are due, of the renamed payload and of the payload
    abbrev Law : List Item → List ℕ → Type 0
    Law is p = due_words wide is (words (renamed_payload f (spread wide is) p)) ≡ changed is (due_words wide is (words p))

    mark_changed : (is : List Item) (m : ℕ) (ws : List ℕ) → kind_of is ≡ mark → changed is (m ∷ ws) ≡ m ∷ changed (due_after is m) ws
    unfolding changed
    mark_changed is m ws k = rw k refl

    first_law : (is : List Item) (a b : ℕ) (p : List ℕ) → tidy is ≡ true → a * 256 + b < 65536 → ((js : List Item) → tidy js ≡ true → Law js p)
        → (wide ≡ true → marked is ≡ true → due_words wide is ((a * 256 + b) ∷ words (renamed_payload f (one any ∷ spread wide (due_after is 0)) p)) ≡ changed is (due_words wide is ((a * 256 + b) ∷ words p)))
        → Law is (a ∷ b ∷ p)
    unfolding renamed_payload renamed_word words changed marked
    first_law is a b p t small next half = go (marked is) refl wide refl
      where
        v : ℕ
        v = a * 256 + b

        plain : (c : Bool) → eqb (kind_of is) name ≡ c → marked is ≡ false
            → due_words wide is (words (cond c (word (f v)) (a ∷ b ∷ []) ++ renamed_payload f (spread wide (due_after is v)) p)) ≡ cond c (f v) v ∷ changed (due_after is v) (due_words wide (due_after is v) (words p))
        plain true k e =
            let q = eqb-true (kind_of is) name k in
            rw (word_is (f v) (rule.kept.within v small), due_plain wide is (f v) (words (renamed_payload f (spread wide (due_after is v)) p)) e, due_name is (f v) v q)
            (ap (λ (l : List ℕ). f v ∷ l) (next (due_after is v) (tidy_after is v t)))
        plain false k e = rw (due_plain wide is v (words (renamed_payload f (spread wide (due_after is v)) p)) e) (ap (λ (l : List ℕ). v ∷ l) (next (due_after is v) (tidy_after is v t)))

        go : (m : Bool) → marked is ≡ m → (w : Bool) → wide ≡ w → Law is (a ∷ b ∷ p)
        go false e w q =
            let s = plain_step wide is v e in
            rw (s.kind, s.after, due_plain wide is v (words p) e) (plain (eqb (kind_of is) name) refl e)
        go true e false q =
            let m = short_mark v in
            let s = mark_step wide is v m t e in
            rw (s.kind, s.after)
            (ap (λ (x : Bool). due_words wide is (v ∷ words (renamed_payload f (cond x (one any ∷ spread wide (due_after is m)) (spread wide (due_after is m))) p))) q
            ∙ due_short wide is v (words (renamed_payload f (spread wide (due_after is m)) p)) q e
            ∙ ap (λ (l : List ℕ). m ∷ l) (next (due_after is m) (tidy_after is m t))
            ∙ sym (mark_changed is m (due_words wide (due_after is m) (words p)) s.is_mark)
            ∙ ap (changed is) (sym (due_short wide is v (words p) q e)))
        go true e true q =
            let s = mark_step wide is v 0 t e in
            rw (s.kind, s.after) (ap (λ (x : Bool). due_words wide is (v ∷ words (renamed_payload f (cond x (one any ∷ spread wide (due_after is 0)) (spread wide (due_after is 0))) p))) q ∙ half q e)

    half_law : (is : List Item) (v : ℕ) → tidy is ≡ true → wide ≡ true → marked is ≡ true → due_words wide is (v ∷ []) ≡ changed is (due_words wide is (v ∷ []))
    unfolding changed
    half_law is v t q e = rw (due_half wide is v q e) (sym (mark_changed is (v * 65536) [] (mark_step wide is v 0 t e).is_mark))

    in_word : (a b : ℕ) (p : List ℕ) → Bytes (a ∷ b ∷ p) → a * 256 + b < 65536
    in_word a b p h = omega (arith, bytes_at (a ∷ b ∷ p) h 0, bytes_at (a ∷ b ∷ p) h 1)

    pub due_changed : (is : List Item) (p : List ℕ) → tidy is ≡ true → Bytes p → Law is p
    unfolding renamed_payload renamed_word words changed due_words kind_of due_after
    due_changed is [] t h = refl
    due_changed is (a ∷ []) t h = refl
    due_changed is (a ∷ b ∷ []) t h = first_law is a b [] t (in_word a b [] h) (λ js s. due_changed js [] s (bytes_drop 2 (a ∷ b ∷ []) h)) (λ q e. half_law is (a * 256 + b) t q e)
    due_changed is (a ∷ b ∷ c ∷ []) t h = first_law is a b (c ∷ []) t (in_word a b (c ∷ []) h) (λ js s. due_changed js (c ∷ []) s (bytes_drop 2 (a ∷ b ∷ c ∷ []) h)) (λ q e. half_law is (a * 256 + b) t q e)
    due_changed is (a ∷ b ∷ c ∷ d ∷ p) t h =
        first_law is a b (c ∷ d ∷ p) t (in_word a b (c ∷ d ∷ p) h) (λ js s. due_changed js (c ∷ d ∷ p) s (bytes_drop 2 (a ∷ b ∷ c ∷ d ∷ p) h))
        (λ q e.
        let v = a * 256 + b in
        let u = c * 256 + d in
        let m = v * 65536 + u in
        rw (due_wide wide is v u (words (renamed_payload f (spread wide (due_after is 0)) p)) q e, due_wide wide is v u (words p) q e, mark_changed is m (due_words wide (due_after is m) (words p)) (mark_step wide is v m t e).is_mark, due_same is 0 m e)
        (ap (λ (l : List ℕ). m ∷ l) (due_changed (due_after is m) p (tidy_after is m t) (bytes_drop 4 (a ∷ b ∷ c ∷ d ∷ p) h))))

  -- ---- words without names stay

  unfoldable pub nameless_kinds : List ℕ → Bool
  nameless_kinds [] = true
  nameless_kinds (k ∷ ks) = not (eqb k name) && nameless_kinds ks

  unfoldable pub nameless : List Item → Bool
  nameless [] = true
  nameless (one k ∷ is) = not (eqb k name) && nameless is
  nameless (perhaps k ∷ is) = not (eqb k name) && nameless is
  nameless (many ks ∷ is) = nameless_kinds ks && nameless is
  nameless (counted ks ∷ is) = nameless_kinds ks && nameless is

  both_true : (a b : Bool) → a ≡ true → b ≡ true → (a && b) ≡ true
  both_true true b p q = q
  both_true false b p q = p

  nameless_ones : (ks : List ℕ) (is : List Item) → nameless_kinds ks ≡ true → nameless is ≡ true → nameless (ones ks is) ≡ true
  unfolding nameless nameless_kinds
  nameless_ones [] is h k = k
  nameless_ones (x ∷ ks) is h k = both_true (not (eqb x name)) _ (and_left (not (eqb x name)) _ h) (nameless_ones ks is (and_right (not (eqb x name)) _ h) k)

  nameless_copies : (n : ℕ) (ks : List ℕ) (is : List Item) → nameless_kinds ks ≡ true → nameless is ≡ true → nameless (copies n ks is) ≡ true
  nameless_copies zero ks is h k = k
  nameless_copies (suc n) ks is h k = nameless_ones ks (copies n ks is) h (nameless_copies n ks is h k)

  nameless_drop : (ks : List ℕ) → nameless_kinds ks ≡ true → nameless_kinds (drop 1 ks) ≡ true
  unfolding nameless_kinds
  nameless_drop [] h = refl
  nameless_drop (k ∷ ks) h = and_right (not (eqb k name)) _ h

  nameless_after : (is : List Item) (w : ℕ) → nameless is ≡ true → nameless (due_after is w) ≡ true
  unfolding nameless due_after
  nameless_after [] w h = refl
  nameless_after (one k ∷ is) w h = and_right (not (eqb k name)) _ h
  nameless_after (perhaps k ∷ is) w h = and_right (not (eqb k name)) _ h
  nameless_after (many ks ∷ is) w h = nameless_ones (drop 1 ks) (many ks ∷ is) (nameless_drop ks (and_left (nameless_kinds ks) _ h)) h
  nameless_after (counted ks ∷ is) w h = nameless_copies w ks is (and_left (nameless_kinds ks) _ h) (and_right (nameless_kinds ks) _ h)

  not_name : (b : Bool) → not b ≡ true → b ≡ false
  not_name true e = sym e
  not_name false e = refl

  first_kind : (ks : List ℕ) → nameless_kinds ks ≡ true → eqb (get_or ks 0 none) name ≡ false
  unfolding nameless_kinds
  first_kind [] h = refl
  first_kind (k ∷ ks) h = not_name (eqb k name) (and_left (not (eqb k name)) _ h)

  nameless_kind : (is : List Item) → nameless is ≡ true → eqb (kind_of is) name ≡ false
  unfolding nameless kind_of
  nameless_kind [] h = refl
  nameless_kind (one k ∷ is) h = not_name (eqb k name) (and_left (not (eqb k name)) _ h)
  nameless_kind (perhaps k ∷ is) h = not_name (eqb k name) (and_left (not (eqb k name)) _ h)
  nameless_kind (many ks ∷ is) h = first_kind ks (and_left (nameless_kinds ks) _ h)
  nameless_kind (counted ks ∷ is) h = refl

  pub nameless_same : (is : List Item) (ws : List ℕ) → nameless is ≡ true → changed is ws ≡ ws
  unfolding changed
  nameless_same is [] h = refl
  nameless_same is (w ∷ ws) h = rw (nameless_kind is h) (ap (λ (l : List ℕ). w ∷ l) (nameless_same (due_after is w) ws (nameless_after is w h)))

  -- ---- by place

  pub length_changed : (is : List Item) (ws : List ℕ) → length (changed is ws) ≡ length ws
  unfolding changed
  length_changed is [] = refl
  length_changed is (w ∷ ws) = ap suc (length_changed (due_after is w) ws)

  pub drop_ones : (ks : List ℕ) (is : List Item) (ws : List ℕ) → drop (length ks) (changed (ones ks is) ws) ≡ changed is (drop (length ks) ws)
  unfolding changed kind_of due_after
  drop_ones [] is ws = refl
  drop_ones (k ∷ ks) is [] = refl
  drop_ones (k ∷ ks) is (w ∷ ws) = drop_ones ks is ws

  module _ (rule : Rule f) where
    pub at_ones : (ks : List ℕ) (is : List Item) (ws : List ℕ) (j : ℕ) → j < length ks → at (changed (ones ks is) ws) j ≡ changed_word (get_or ks j none) (at ws j)
    unfolding changed kind_of due_after
    at_ones [] is ws j h = absurd (omega arith)
    at_ones (k ∷ ks) is [] j h = zeros (eqb (get_or (k ∷ ks) j none) name)
      where
        zeros : (b : Bool) → 0 ≡ cond b (f 0) 0
        zeros true = sym (rule.kept.builtin 0 (omega arith))
        zeros false = refl
    at_ones (k ∷ ks) is (w ∷ ws) zero h = refl
    at_ones (k ∷ ks) is (w ∷ ws) (suc j) h = at_ones ks is ws j (omega arith)

  -- ---- pairs

  twice : (n : ℕ) → 2 * suc n ≡ suc (suc (2 * n))
  twice n = omega arith

  -- to the end
  pub tokens_many : (ws : List ℕ) → tokens (changed (many (name ∷ mark ∷ []) ∷ []) ws) ≡ map (token_by f) (tokens ws)
  unfolding changed kind_of due_after
  tokens_many [] = refl
  tokens_many (n ∷ []) = refl
  tokens_many (n ∷ m ∷ ws) = ap (λ l. token (f n) m ∷ l) (tokens_many ws)

  -- n of them
  pub tokens_copies : (n : ℕ) (is : List Item) (ws : List ℕ) → tokens (take (2 * n) (changed (copies n (name ∷ mark ∷ []) is) ws)) ≡ map (token_by f) (tokens (take (2 * n) ws))
  unfolding changed kind_of due_after
  tokens_copies zero is ws = refl
  tokens_copies (suc n) is [] = rw (twice n) refl
  tokens_copies (suc n) is (a ∷ []) = rw (twice n) refl
  tokens_copies (suc n) is (a ∷ m ∷ ws) = rw (twice n) (ap (λ l. token (f a) m ∷ l) (tokens_copies n is ws))

  pub drop_copies : (n : ℕ) (is : List Item) (ws : List ℕ) → drop (2 * n) (changed (copies n (name ∷ mark ∷ []) is) ws) ≡ changed is (drop (2 * n) ws)
  unfolding changed kind_of due_after
  drop_copies zero is ws = refl
  drop_copies (suc n) is [] = rw (twice n) refl
  drop_copies (suc n) is (a ∷ []) = rw (twice n) refl
  drop_copies (suc n) is (a ∷ m ∷ ws) = rw (twice n) (drop_copies n is ws)

  -- ---- a node's words

  text_due : (wide : Bool) (vs : List ℕ) → due_words wide (one any ∷ []) vs ≡ due_words wide (one name ∷ []) vs
  unfolding due_words marked kind_of due_after short
  text_due true [] = refl
  text_due true (v ∷ []) = refl
  text_due true (v ∷ u ∷ vs) = refl
  text_due false [] = refl
  text_due false (v ∷ []) = refl
  text_due false (v ∷ u ∷ vs) = refl

  module _ (rule : Rule f) (fs : List Field) (wide : Bool) (same_width_lem : wide ≡ wide_marks fs) (z : Payloads fs) where
    pub words_changed : (i : ℕ) → (field_at fs i).tag < 63 → words_at (map (renamed_field f wide) fs) i ≡ changed (naming_of (field_at fs i).tag) (words_at fs i)
    unfolding words_of renamed_field naming_of items_of grammar tidy
    words_changed i l = rw (wide_same f rule fs wide same_width_lem, at_same f rule fs wide same_width_lem i, ← same_width_lem) (go (eqb (field_at fs i).tag 0x02) refl)
      where
        go : (c : Bool) → eqb (field_at fs i).tag 0x02 ≡ c
            → due_words wide (items_of (field_at fs i).tag) (words (renamed_payload f (spread wide (cond c (one name ∷ []) (items_of (field_at fs i).tag))) (field_at fs i).payload))
            ≡ changed (cond c (one name ∷ []) (items_of (field_at fs i).tag)) (due_words wide (items_of (field_at fs i).tag) (words (field_at fs i).payload))
        go true e =
            rw (eqb-true (field_at fs i).tag 0x02 e)
            (text_due wide (words (renamed_payload f (spread wide (one name ∷ [])) (field_at fs i).payload))
            ∙ due_changed rule wide (one name ∷ []) (field_at fs i).payload refl (payload_at f rule fs wide same_width_lem fs z i)
            ∙ ap (changed (one name ∷ [])) (sym (text_due wide (words (field_at fs i).payload))))
        go false e = due_changed rule wide (items_of (field_at fs i).tag) (field_at fs i).payload (items_tidy (field_at fs i).tag l) (payload_at f rule fs wide same_width_lem fs z i)
