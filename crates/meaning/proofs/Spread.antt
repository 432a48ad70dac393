-- A payload that fits in words of the file fits in words as they are due, and names the same children: one law over the grammar, for both widths.
--     plain_step, mark-step    what spreads, word by word: a word that is no mark, a mark of one word, a mark of two
--     due-fits, due-sum        the law, by induction on the bytes
use mathlib.Core.Path.{◌≡◌, refl, sym, ap, ap₂, ◌∙◌}
use mathlib.Core.Bool.{Bool, true, false, not, ◌&&◌, cond}
use mathlib.Core.List.{List, [], ◌∷◌, ◌++◌}
use Prim.Native.Nat.{ℕ, zero, suc, ◌+◌, ◌*◌, ◌≤◌}
use native.Mathlib.Nat.{zero-add}
use native.Mathlib.Omega.{arith}
use lib.ListN.{length, get_or, drop}
use lib.Dec.{eqb}
use borrow.Author.Tests.{eqb-true}
use Rattle.meaning.specs.Fields.{words}
use Rattle.meaning.specs.Grammar.{Item, one, perhaps, many, counted, none, any, mark, names, ends, kind_of, due_after, ones, copies, fits, kids, spread_kinds, spread, marked, short_mark, short, due_words}
use Rattle.meaning.proofs.Lists.{and_left, and_right, false_true, sum_of, sum_of_append}

-- ---- words that fit, and what the children that they name sum to

module _ (ok : ℕ → ℕ → Bool) where
  unfoldable pub fit : List Item → List ℕ → Bool
  fit is [] = ends is
  fit is (w ∷ ws) = ok (kind_of is) w && fit (due_after is w) ws

-- the same of bytes
pub fits_words : (ok : ℕ → ℕ → Bool) (is : List Item) (p : List ℕ) → fits ok is p ≡ true → fit ok is (words p) ≡ true
unfolding fits fit words
fits_words ok is [] e = e
fits_words ok is (a ∷ []) e = absurd (false_true e)
fits_words ok is (a ∷ b ∷ p) e =
    ap₂ ◌&&◌ (and_left (ok (kind_of is) (a * 256 + b)) _ e) (fits_words ok (due_after is (a * 256 + b)) p (and_right (ok (kind_of is) (a * 256 + b)) _ e))

-- so many words there must be
unfoldable pub least : List Item → ℕ
least [] = 0
least (one k ∷ is) = suc (least is)
least (perhaps k ∷ is) = 0
least (many ks ∷ is) = 0
least (counted ks ∷ is) = 1

pub fit_least : (ok : ℕ → ℕ → Bool) (is : List Item) (ws : List ℕ) → fit ok is ws ≡ true → least is ≤ length ws
unfolding fit least ends kind_of due_after
fit_least ok [] ws e = omega arith
fit_least ok (one k ∷ is) [] e = absurd (false_true e)
fit_least ok (one k ∷ is) (w ∷ ws) e = let h = fit_least ok is ws (and_right (ok k w) _ e) in omega arith
fit_least ok (perhaps k ∷ is) ws e = omega arith
fit_least ok (many ks ∷ is) ws e = omega arith
fit_least ok (counted ks ∷ is) [] e = absurd (false_true e)
fit_least ok (counted ks ∷ is) (w ∷ ws) e = omega arith

module _ (g : ℕ → ℕ) where
  abbrev pub weigh : (kind w : ℕ) → ℕ
  weigh kind w = sum_of g (cond (names kind w) (w ∷ []) [])

  unfoldable pub sum_in : List Item → List ℕ → ℕ
  sum_in is [] = 0
  sum_in is (w ∷ ws) = weigh (kind_of is) w + sum_in (due_after is w) ws

-- ---- what spreads

spread_ones : (wide : Bool) (ks : List ℕ) (is : List Item) → spread wide (ones ks is) ≡ ones (spread_kinds wide ks) (spread wide is)
unfolding spread spread_kinds
spread_ones wide [] is = refl
spread_ones wide (k ∷ ks) is = go (eqb k mark) wide (spread_ones wide ks is)
  where
    go : (b w : Bool) {x : List Item} → x ≡ ones (spread_kinds wide ks) (spread wide is)
        → ones (cond b (cond w (any ∷ any ∷ []) (any ∷ [])) (k ∷ [])) x ≡ ones (cond b (cond w (any ∷ any ∷ spread_kinds wide ks) (any ∷ spread_kinds wide ks)) (k ∷ spread_kinds wide ks)) (spread wide is)
    go true true e = ap (λ (x : List Item). one any ∷ one any ∷ x) e
    go true false e = ap (λ (x : List Item). one any ∷ x) e
    go false w e = ap (λ (x : List Item). one k ∷ x) e

spread_copies : (wide : Bool) (n : ℕ) (ks : List ℕ) (is : List Item) → spread wide (copies n ks is) ≡ copies n (spread_kinds wide ks) (spread wide is)
spread_copies wide zero ks is = refl
spread_copies wide (suc n) ks is = spread_ones wide ks (copies n ks is) ∙ ap (ones (spread_kinds wide ks)) (spread_copies wide n ks is)

spread_ends : (wide : Bool) (is : List Item) → ends (spread wide is) ≡ ends is
unfolding ends spread spread_kinds
spread_ends wide [] = refl
spread_ends wide (one k ∷ is) = go (eqb k mark) wide
  where
    go : (b w : Bool) → ends (ones (cond b (cond w (any ∷ any ∷ []) (any ∷ [])) (k ∷ [])) (spread wide is)) ≡ false
    go true true = refl
    go true false = refl
    go false w = refl
spread_ends wide (perhaps k ∷ is) = spread_ends wide is
spread_ends wide (many ks ∷ is) = spread_ends wide is
spread_ends wide (counted ks ∷ is) = refl

-- only a word that must stand there is a mark
unfoldable pub tidy : List Item → Bool
tidy [] = true
tidy (one k ∷ is) = tidy is
tidy (perhaps k ∷ is) = not (eqb k mark) && tidy is
tidy (many ks ∷ is) = tidy is
tidy (counted ks ∷ is) = tidy is

tidy_ones : (ks : List ℕ) (is : List Item) → tidy is ≡ true → tidy (ones ks is) ≡ true
unfolding tidy
tidy_ones [] is t = t
tidy_ones (k ∷ ks) is t = tidy_ones ks is t

tidy_copies : (n : ℕ) (ks : List ℕ) (is : List Item) → tidy is ≡ true → tidy (copies n ks is) ≡ true
tidy_copies zero ks is t = t
tidy_copies (suc n) ks is t = tidy_ones ks (copies n ks is) (tidy_copies n ks is t)

pub tidy_after : (is : List Item) (w : ℕ) → tidy is ≡ true → tidy (due_after is w) ≡ true
unfolding tidy due_after
tidy_after [] w t = t
tidy_after (one k ∷ is) w t = t
tidy_after (perhaps k ∷ is) w t = and_right (not (eqb k mark)) _ t
tidy_after (many ks ∷ is) w t = tidy_ones (drop 1 ks) (many ks ∷ is) t
tidy_after (counted ks ∷ is) w t = tidy_copies w ks is t

-- a word that is no mark
pub record Plain (wide : Bool) (is : List Item) (v : ℕ) : Type 0 where
  pub kind : kind_of (spread wide is) ≡ kind_of is
  pub after : due_after (spread wide is) v ≡ spread wide (due_after is v)

pub plain_step : (wide : Bool) (is : List Item) (v : ℕ) → marked is ≡ false → Plain wide is v
unfolding marked kind_of due_after spread spread_kinds
plain_step wide [] v e = record { kind = refl; after = refl }
plain_step wide (one k ∷ is) v e = record { kind = rw e; after = rw e }
plain_step wide (perhaps k ∷ is) v e = record { kind = refl; after = refl }
plain_step wide (many [] ∷ is) v e = record { kind = refl; after = refl }
plain_step wide (many (k ∷ ks) ∷ is) v e = record { kind = rw e; after = rw e (sym (spread_ones wide ks (many (k ∷ ks) ∷ is) ∙ rw e)) }
plain_step wide (counted ks ∷ is) v e = record { kind = refl; after = sym (spread_copies wide v ks is) }

-- a mark: of one word, or of two
pub record Mark (wide : Bool) (is : List Item) (v m : ℕ) : Type 0 where
  pub is_mark : kind_of is ≡ mark
  pub kind : kind_of (spread wide is) ≡ any
  pub after : due_after (spread wide is) v ≡ cond wide (one any ∷ spread wide (due_after is m)) (spread wide (due_after is m))

pub mark_step : (wide : Bool) (is : List Item) (v m : ℕ) → tidy is ≡ true → marked is ≡ true → Mark wide is v m
unfolding tidy marked kind_of due_after spread spread_kinds
mark_step wide [] v m t e = absurd (false_true e)
mark_step true (one k ∷ is) v m t e = record { is_mark = eqb-true k mark e; kind = rw e; after = rw e }
mark_step false (one k ∷ is) v m t e = record { is_mark = eqb-true k mark e; kind = rw e; after = rw e }
mark_step wide (perhaps k ∷ is) v m t e = absurd (false_true (sym (ap not e) ∙ and_left (not (eqb k mark)) _ t))
mark_step wide (many [] ∷ is) v m t e = absurd (false_true e)
mark_step true (many (k ∷ ks) ∷ is) v m t e =
    record { is_mark = eqb-true k mark e; kind = rw e; after = rw e (ap (λ (x : List Item). one any ∷ x) (sym (spread_ones true ks (many (k ∷ ks) ∷ is) ∙ rw e))) }
mark_step false (many (k ∷ ks) ∷ is) v m t e =
    record { is_mark = eqb-true k mark e; kind = rw e; after = rw e (sym (spread_ones false ks (many (k ∷ ks) ∷ is) ∙ rw e)) }
mark_step wide (counted ks ∷ is) v m t e = absurd (false_true e)

-- what is due after a mark is the same whichever it is
pub due_same : (is : List Item) (m n : ℕ) → marked is ≡ true → due_after is m ≡ due_after is n
unfolding marked kind_of due_after
due_same [] m n e = refl
due_same (one k ∷ is) m n e = refl
due_same (perhaps k ∷ is) m n e = refl
due_same (many ks ∷ is) m n e = refl
due_same (counted ks ∷ is) m n e = absurd (false_true e)

-- ---- words as they are due

pub due_plain : (wide : Bool) (is : List Item) (v : ℕ) (vs : List ℕ) → marked is ≡ false → due_words wide is (v ∷ vs) ≡ v ∷ due_words wide (due_after is v) vs
unfolding due_words short
due_plain true is v [] e = rw e
due_plain false is v [] e = rw e
due_plain true is v (u ∷ vs) e = rw e
due_plain false is v (u ∷ vs) e = rw e

pub due_short : (wide : Bool) (is : List Item) (v : ℕ) (vs : List ℕ) → wide ≡ false → marked is ≡ true
    → due_words wide is (v ∷ vs) ≡ short_mark v ∷ due_words wide (due_after is (short_mark v)) vs
unfolding due_words short
due_short wide is v [] q e = rw (e, q)
due_short wide is v (u ∷ vs) q e = rw (e, q)

pub due_wide : (wide : Bool) (is : List Item) (v u : ℕ) (vs : List ℕ) → wide ≡ true → marked is ≡ true
    → due_words wide is (v ∷ u ∷ vs) ≡ (v * 65536 + u) ∷ due_words wide (due_after is (v * 65536 + u)) vs
unfolding due_words
due_wide true is v u vs q e = rw e
due_wide false is v u vs q e = absurd (false_true q)

pub due_half : (wide : Bool) (is : List Item) (v : ℕ) → wide ≡ true → marked is ≡ true → due_words wide is (v ∷ []) ≡ v * 65536 ∷ []
unfolding due_words
due_half wide is v q e = rw (e, q)

-- ---- the law

-- what is lawful in words of the file, and as they are due: the same but for marks, which are made of lawful words
pub record Makes (wide : Bool) (ok ok' : ℕ → ℕ → Bool) : Type 0 where
  pub same : (kind w : ℕ) → eqb kind mark ≡ false → ok kind w ≡ true → ok' kind w ≡ true
  pub short : (v : ℕ) → wide ≡ false → ok any v ≡ true → ok' mark (short_mark v) ≡ true
  pub long : (v u : ℕ) → wide ≡ true → ok any v ≡ true → ok any u ≡ true → ok' mark (v * 65536 + u) ≡ true

module _ (wide : Bool) (ok ok' : ℕ → ℕ → Bool) (makes : Makes wide ok ok') where
  -- the words of a file, then the words as they are due
  abbrev Fits : List Item → List ℕ → Type 0
  Fits is p = fits ok (spread wide is) p ≡ true

  abbrev Fit : List Item → List ℕ → Type 0
  Fit is vs = fit ok' is (due_words wide is vs) ≡ true

  -- the first word: no mark, a mark of one word, the first half of a mark
  first_fits : (is : List Item) (a b : ℕ) (p : List ℕ) → tidy is ≡ true → ((js : List Item) → tidy js ≡ true → Fits js p → Fit js (words p))
      → (wide ≡ true → marked is ≡ true → ok any (a * 256 + b) ≡ true → fits ok (one any ∷ spread wide (due_after is 0)) p ≡ true → Fit is ((a * 256 + b) ∷ words p))
      → Fits is (a ∷ b ∷ p) → Fit is ((a * 256 + b) ∷ words p)
  unfolding fits fit marked
  first_fits is a b p t next half e = go (marked is) refl wide refl
    where
      v : ℕ
      v = a * 256 + b

      go : (m : Bool) → marked is ≡ m → (w : Bool) → wide ≡ w → Fit is (v ∷ words p)
      go false f w q =
          let s = plain_step wide is v f in
          let h : (ok (kind_of is) v && fits ok (spread wide (due_after is v)) p) ≡ true = rw (s.kind, s.after) at e in
          rw (due_plain wide is v (words p) f)
          (ap₂ ◌&&◌ (makes.same (kind_of is) v f (and_left (ok (kind_of is) v) _ h)) (next (due_after is v) (tidy_after is v t) (and_right (ok (kind_of is) v) _ h)))
      go true f false q =
          let m = short_mark v in
          let s = mark_step wide is v m t f in
          let h : (ok any v && fits ok (cond wide (one any ∷ spread wide (due_after is m)) (spread wide (due_after is m))) p) ≡ true = rw (s.kind, s.after) at e in
          let k = ap (λ (x : Bool). fits ok (cond x (one any ∷ spread wide (due_after is m)) (spread wide (due_after is m))) p) (sym q) ∙ and_right (ok any v) _ h in
          rw (due_short wide is v (words p) q f, s.is_mark) (ap₂ ◌&&◌ (makes.short v q (and_left (ok any v) _ h)) (next (due_after is m) (tidy_after is m t) k))
      go true f true q =
          let s = mark_step wide is v 0 t f in
          let h : (ok any v && fits ok (cond wide (one any ∷ spread wide (due_after is 0)) (spread wide (due_after is 0))) p) ≡ true = rw (s.kind, s.after) at e in
          half q f (and_left (ok any v) _ h) (ap (λ (x : Bool). fits ok (cond x (one any ∷ spread wide (due_after is 0)) (spread wide (due_after is 0))) p) (sym q) ∙ and_right (ok any v) _ h)

  pub due_fits : (is : List Item) (p : List ℕ) → tidy is ≡ true → Fits is p → Fit is (words p)
  unfolding fits fit words due_words ends kind_of due_after
  due_fits is [] t e = sym (spread_ends wide is) ∙ e
  due_fits is (a ∷ []) t e = absurd (false_true e)
  due_fits is (a ∷ b ∷ []) t e = first_fits is a b [] t (λ js s h. due_fits js [] s h) (λ q f o h. absurd (false_true h)) e
  due_fits is (a ∷ b ∷ c ∷ []) t e = first_fits is a b (c ∷ []) t (λ js s h. due_fits js (c ∷ []) s h) (λ q f o h. absurd (false_true h)) e
  due_fits is (a ∷ b ∷ c ∷ d ∷ p) t e =
      first_fits is a b (c ∷ d ∷ p) t (λ js s h. due_fits js (c ∷ d ∷ p) s h)
      (λ q f o h.
      let v = a * 256 + b in
      let u = c * 256 + d in
      let m = v * 65536 + u in
      rw (due_wide wide is v u (words p) q f, (mark_step wide is v m t f).is_mark) (ap₂ ◌&&◌ (makes.long v u q o (and_left (ok any u) _ h))
      (due_fits (due_after is m) p (tidy_after is m t) (rw (due_same is 0 m f) at (and_right (ok any u) _ h)))))
      e

module _ (wide : Bool) (g : ℕ → ℕ) where
  -- the sum over the children that a file's words name, then over those that the words name as they are due
  abbrev Named : List Item → List ℕ → ℕ
  Named is p = sum_of g (kids (spread wide is) p)

  abbrev Sums : List Item → List ℕ → ℕ
  Sums is vs = sum_in g is (due_words wide is vs)

  -- a mark names no child
  marks_sum : (is : List Item) (m : ℕ) (ws : List ℕ) → kind_of is ≡ mark → sum_in g (due_after is m) ws ≡ sum_in g is (m ∷ ws)
  unfolding sum_in names sum_of
  marks_sum is m ws k = rw k (sym (zero-add (sum_in g (due_after is m) ws)))

  any_sum : (js : List Item) (v : ℕ) (p : List ℕ) → sum_of g (cond (names any v) (v ∷ []) [] ++ kids js p) ≡ sum_of g (kids js p)
  unfolding names
  any_sum js v p = refl

  first_sum : (is : List Item) (a b : ℕ) (p : List ℕ) → tidy is ≡ true → ((js : List Item) → tidy js ≡ true → Named js p ≡ Sums js (words p))
      → (wide ≡ true → marked is ≡ true → sum_of g (kids (one any ∷ spread wide (due_after is 0)) p) ≡ Sums is ((a * 256 + b) ∷ words p))
      → Named is (a ∷ b ∷ p) ≡ Sums is ((a * 256 + b) ∷ words p)
  unfolding kids sum_in
  first_sum is a b p t next half = go (marked is) refl wide refl
    where
      v : ℕ
      v = a * 256 + b

      go : (m : Bool) → marked is ≡ m → (w : Bool) → wide ≡ w → Named is (a ∷ b ∷ p) ≡ Sums is (v ∷ words p)
      go false f w q =
          let s = plain_step wide is v f in
          rw (s.kind, s.after, due_plain wide is v (words p) f)
          (sum_of_append g (cond (names (kind_of is) v) (v ∷ []) []) (kids (spread wide (due_after is v)) p)
          ∙ ap (λ (n : ℕ). weigh g (kind_of is) v + n) (next (due_after is v) (tidy_after is v t)))
      go true f false q =
          let m = short_mark v in
          let s = mark_step wide is v m t f in
          rw (s.kind, s.after, due_short wide is v (words p) q f)
          (any_sum _ v p ∙ ap (λ (x : Bool). sum_of g (kids (cond x (one any ∷ spread wide (due_after is m)) (spread wide (due_after is m))) p)) q
          ∙ next (due_after is m) (tidy_after is m t) ∙ marks_sum is m (due_words wide (due_after is m) (words p)) s.is_mark)
      go true f true q =
          let s = mark_step wide is v 0 t f in
          rw (s.kind, s.after)
          (any_sum _ v p ∙ ap (λ (x : Bool). sum_of g (kids (cond x (one any ∷ spread wide (due_after is 0)) (spread wide (due_after is 0))) p)) q ∙ half q f)

  half_sum : (is : List Item) (v : ℕ) → wide ≡ true → marked is ≡ true → tidy is ≡ true → 0 ≡ Sums is (v ∷ [])
  unfolding sum_in
  half_sum is v q f t = rw (due_half wide is v q f) (marks_sum is (v * 65536) [] (mark_step wide is 0 0 t f).is_mark)

  pub due_sum : (is : List Item) (p : List ℕ) → tidy is ≡ true → Named is p ≡ Sums is (words p)
  unfolding kids words due_words sum_in sum_of kind_of due_after
  due_sum is [] t = refl
  due_sum is (a ∷ []) t = refl
  due_sum is (a ∷ b ∷ []) t = first_sum is a b [] t (λ js s. due_sum js [] s) (λ q f. half_sum is (a * 256 + b) q f t)
  due_sum is (a ∷ b ∷ c ∷ []) t = first_sum is a b (c ∷ []) t (λ js s. due_sum js (c ∷ []) s) (λ q f. half_sum is (a * 256 + b) q f t)
  due_sum is (a ∷ b ∷ c ∷ d ∷ p) t =
      first_sum is a b (c ∷ d ∷ p) t (λ js s. due_sum js (c ∷ d ∷ p) s)
      (λ q f.
      let v = a * 256 + b in
      let u = c * 256 + d in
      let m = v * 65536 + u in
      rw (due_wide wide is v u (words p) q f)
      (any_sum (spread wide (due_after is 0)) u p ∙ rw (due_same is 0 m f) (due_sum (due_after is m) p (tidy_after is m t)) ∙ marks_sum is m (due_words wide (due_after is m) (words p)) (mark_step wide is v m t f).is_mark))
