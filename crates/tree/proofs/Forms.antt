-- A payload of fixed length is told by its form: the loop over its words (`Fitting`) is followed over a first word, any words and the expressions at its
-- end, each of which says that the rest is as the rows say. That each start's form is its rows' is one test, computed over both tables.
use mathlib.Core.Path.{◌≡◌, refl, sym, ap, subst, ◌∙◌}
use mathlib.Core.Bool.{Bool, true, false, ◌&&◌, cond}
use mathlib.Core.Logic.{◌⊎◌, inl, inr, ⊎_elim}
use mathlib.Core.List.{List, [], ◌∷◌, ◌++◌}
use Prim.Native.Nat.{ℕ, zero, suc, ◌+◌, ◌-◌, ◌*◌, ◌/◌, ◌<◌, ◌≤◌}
use native.Mathlib.Omega.{arith}
use lib.ListN.{length, get_or, drop, replicate, length-drop}
use lib.Seq.{drop-drop, get_or-drop}
use lib.Dec.{leb, ltb, eqb}
use borrow.Author.Tests.{ltb-true, lt-ltb, le-leb, leb-true, not-true, eqb-true, eqb-false, eq-eqb, ne_eqb}
use Rattle.meaning.specs.Fields.{word_at}
use Rattle.meaning.specs.Grammar.{any, expr, bounds, bound, inside, names, lawful}
use Rattle.meaning.proofs.Lists.{tail_part, and_left, and_right, false_true, all_to, all_below}
use Rattle.std.specs.Prelude.{None, Some}
use Rattle.tree.specs.Rows.{number, flow_of, first_rows, row_at, kind_in, next_in, flow_in, next_left, next_row, fits_row}
use Rattle.tree.specs.Starts.{never, starts, like, led, reaches, lead, says, formed, Right}
use Rattle.tree.specs.declared.starts.Form.{Form}
use Rattle.tree.specs.declared.starts.Start.{Start}
use Rattle.tree.specs.Scratch.{tags_in, note_word, note_row}
use Rattle.tree.proofs.Payloads.{Fitting, fitting_start, fitting_more, fitting_stop, fitting_end}

-- ---- words that name no child

module _ (ts l : List ℕ) (i k w : ℕ) (h : k < 6) where
  plain_lawful : lawful ts i k w ≡ inside k w
  unfolding lawful names
  plain_lawful = simp (lt-ltb k 6 h)

  plain_noted : note_word l i k w ≡ l
  unfolding note_word names
  plain_noted = simp (lt-ltb k 6 h)

pub any_inside : (w : ℕ) → w < 65536 → inside any w ≡ true
unfolding inside bound bounds
any_inside w h = simp (le-leb 0 w (omega arith), le-leb w 65535 (omega arith), ne_eqb w 65536 (λ q. omega arith))

-- ---- the loop, a word at a time along rows of known kinds

module _ (l₀ : List ℕ) (i first : ℕ) (p : List ℕ) where
  -- what is answered and left of the scratch in the end
  abbrev pub Told : Bool → List ℕ → Type 0
  Told r l' = record { fits : r ≡ fits_row (lawful (tags_in l₀) i) first 0 p; noted : l' ≡ note_row (lawful (tags_in l₀) i) l₀ i first 0 p }

  module _ (l q : List ℕ) (r : ℕ) (v : Fitting l₀ i first p l q r 0) where
    -- the end
    at_end : like r [] ≡ true → length q ≡ 0 → Told true l
    unfolding like
    at_end e h = let d = fitting_end l₀ i first p l q r 0 v (row_at r) refl h in record { fits = sym e ∙ d.fits; noted = d.noted }

    module _ (k : ℕ) (ks : List ℕ) (e : like r (k ∷ ks) ≡ true) (two : 2 ≤ length q) where
      kind_is : kind_in (row_at r) ≡ k
      unfolding like
      kind_is = eqb-true _ _ (and_left _ _ (and_left _ (like (next_in (row_at r)) ks) e))

      flow_is : flow_in (row_at r) ≡ 0
      unfolding like
      flow_is = eqb-true _ _ (and_right (eqb (kind_in (row_at r)) k) _ (and_left _ (like (next_in (row_at r)) ks) e))

      after : like (next_in (row_at r)) ks ≡ true
      unfolding like
      after = and_right (eqb (kind_in (row_at r)) k && eqb (flow_in (row_at r)) 0) _ e

      word_more : (l' : List ℕ) → lawful (tags_in l) i k (word_at q 0) ≡ true → l' ≡ note_word l i k (word_at q 0) → Fitting l₀ i first p l' (drop 2 q) (next_in (row_at r)) 0
      unfolding next_left next_row
      word_more l' ok el = subst (λ (m : List ℕ). Fitting l₀ i first p l' m (next_in (row_at r)) 0) (tail_part 2 q)
          (fitting_more l₀ i first p l q r 0 v two (word_at q 0) (row_at r) refl refl l' (next_in (row_at r)) 0 (sym (rw kind_is ok)) (rw kind_is el) (simp flow_is) (simp flow_is))

      word_stop : (l' : List ℕ) → false ≡ lawful (tags_in l) i k (word_at q 0) → l' ≡ l → Told false l'
      word_stop l' bad el = fitting_stop l₀ i first p l q r 0 v two (word_at q 0) (row_at r) refl refl l' (rw kind_is bad) el

  -- ---- m words that may be any

  any_more : (m : ℕ) (l q : List ℕ) (r : ℕ) (ks : List ℕ) → Fitting l₀ i first p l q r 0 → like r (replicate m any ++ ks) ≡ true → 2 * m ≤ length q → ((j : ℕ) → get_or q j 0 < 256)
      → (r' : ℕ) × (like r' ks ≡ true) × Fitting l₀ i first p l (drop (2 * m) q) r' 0
  any_more zero l q r ks v e h bytes = (r, e, v)
  any_more (suc m) l q r ks v e h bytes =
      let ks' = replicate m any ++ ks in
      let two : 2 ≤ length q = omega arith in
      let w = word_at q 0 in
      let v' = word_more l q r v any ks' e two l (plain_lawful (tags_in l) l i any w (omega arith) ∙ any_inside w (omega (arith, bytes 0, bytes 1))) (sym (plain_noted (tags_in l) l i any w (omega arith))) in
      let x = any_more m l (drop 2 q) (next_in (row_at r)) ks v' (after l q r v any ks' e two) (omega (arith, length-drop 2 q)) (λ j. rw (get_or-drop 2 q j 0) (bytes (2 + j))) in
      let d : 2 + 2 * m ≡ 2 * suc m = omega arith in
      (x.0, x.1, subst (λ (n : List ℕ). Fitting l₀ i first p l n x.0 0) (drop-drop (2 * m) 2 q ∙ ap (λ (n : ℕ). drop n q) d) x.2)

  -- b words, the first one of a kind
  led_more : (b k : ℕ) (ks : List ℕ) → first < 122 → k < 6 → like first (led k b ++ ks) ≡ true → 2 * b ≤ length p → ((j : ℕ) → get_or p j 0 < 256) → (0 < b → inside k (word_at p 0) ≡ true)
      → (r' : ℕ) × (like r' ks ≡ true) × Fitting l₀ i first p l₀ (drop (2 * b) p) r' 0
  unfolding led
  led_more zero k ks low h e size bytes ok = (first, e, fitting_start l₀ i first p low)
  led_more (suc b) k ks low h e size bytes ok =
      let ks' = replicate b any ++ ks in
      let v = fitting_start l₀ i first p low in
      let two : 2 ≤ length p = omega arith in
      let v' = word_more l₀ p first v k ks' e two l₀ (plain_lawful (tags_in l₀) l₀ i k (word_at p 0) h ∙ ok (omega arith)) (sym (plain_noted (tags_in l₀) l₀ i k (word_at p 0) h)) in
      let x = any_more b l₀ (drop 2 p) (next_in (row_at first)) ks v' (after l₀ p first v k ks' e two) (omega (arith, length-drop 2 p)) (λ j. rw (get_or-drop 2 p j 0) (bytes (2 + j))) in
      let d : 2 + 2 * b ≡ 2 * suc b = omega arith in
      (x.0, x.1, subst (λ (n : List ℕ). Fitting l₀ i first p l₀ n x.0 0) (drop-drop (2 * b) 2 p ∙ ap (λ (n : ℕ). drop n p) d) x.2)

  -- the last expression, found lawful or not
  last_child : (l q : List ℕ) (r : ℕ) → Fitting l₀ i first p l q r 0 → like r (expr ∷ []) ≡ true → length q ≡ 2
      → (ok : Bool) (l' : List ℕ) → ok ≡ lawful (tags_in l) i expr (word_at q 0) → l' ≡ cond ok (note_word l i expr (word_at q 0)) l → Told ok l'
  last_child l q r v e h true l' eo el =
      at_end l' (drop 2 q) (next_in (row_at r)) (word_more l q r v expr [] e (omega arith) l' (sym eo) el) (after l q r v expr [] e (omega arith)) (omega (arith, length-drop 2 q))
  last_child l q r v e h false l' eo el = word_stop l q r v expr [] e (omega arith) l' eo el

-- ---- forms

word_drop : (n : ℕ) (p : List ℕ) → word_at (drop n p) 0 ≡ word_at p n
word_drop n p = let z : n + 0 ≡ n = omega arith in rw (get_or-drop n p 0 0, get_or-drop n p 1 0, z)

-- the bounds of a kind
module _ (k low high w : ℕ) (e : reaches k low high ≡ true) (h : w < 65536) where
  lowest : bound k 0 ≡ low
  unfolding reaches
  lowest = eqb-true _ _ (and_left _ _ e)

  highest : ((bound k 1 ≡ high) × (bound k 2 ≡ 65536)) ⊎ ((bound k 1 ≡ suc high) × (bound k 2 ≡ suc high))
  unfolding reaches
  highest = go (eqb (bound k 2) 65536) refl (and_right (eqb (bound k 0) low) _ e)
    where
      go : (b : Bool) → eqb (bound k 2) 65536 ≡ b → cond b (eqb (bound k 1) high) (eqb (bound k 1) (suc high) && eqb (bound k 2) (suc high)) ≡ true
          → ((bound k 1 ≡ high) × (bound k 2 ≡ 65536)) ⊎ ((bound k 1 ≡ suc high) × (bound k 2 ≡ suc high))
      go true q f = inl (eqb-true _ _ f, eqb-true _ _ q)
      go false q f = inr (eqb-true _ _ (and_left _ _ f), eqb-true _ _ (and_right (eqb (bound k 1) (suc high)) _ f))

  inside_yes : low ≤ w → w ≤ high → inside k w ≡ true
  unfolding inside
  inside_yes a b = simp (
    le-leb (bound k 0) w (omega (arith, lowest)),
    le-leb w (bound k 1) (⊎_elim (λ x. omega (arith, x.0)) (λ x. omega (arith, x.0)) highest),
    ne_eqb w (bound k 2) (λ q. ⊎_elim (λ x. omega (arith, x.1)) (λ x. omega (arith, x.1)) highest),
  )

  inside_only : inside k w ≡ true → (low ≤ w) × (w ≤ high)
  unfolding inside
  inside_only t =
      let both = and_left (leb (bound k 0) w && leb w (bound k 1)) _ t in
      let most = leb-true w (bound k 1) (and_right (leb (bound k 0) w) _ both) in
      let other = eqb-false w (bound k 2) (not-true _ (and_right (leb (bound k 0) w && leb w (bound k 1)) _ t)) in (
        omega (arith, lowest, leb-true (bound k 0) w (and_left _ _ both)),
        ⊎_elim (λ x. omega (arith, most, x.0)) (λ x. let z : (w ≡ suc high → ⊥) = λ q. other (q ∙ sym x.1) in omega (arith, most, x.0)) highest,
      )

  inside_not : (w < low) ⊎ (high < w) → inside k w ≡ false
  inside_not bad = go (inside k w) refl
    where
      go : (b : Bool) → inside k w ≡ b → b ≡ false
      go true t = absurd (⊎_elim (λ x. omega (arith, inside_only t)) (λ x. omega (arith, inside_only t)) bad)
      go false t = refl

-- a first word that is not within its bounds
first_stop : (l₀ : List ℕ) (i r : ℕ) (p : List ℕ) (n k : ℕ) (ks : List ℕ) → r < 122 → k < 6 → (n ≡ 0 → k ≡ any) → like r (led k n ++ ks) ≡ true → 2 * n ≤ length p → word_at p 0 < 65536
    → inside k (word_at p 0) ≡ false → Told l₀ i r p false l₀
unfolding led
first_stop l₀ i r p zero k ks low h none e size small bad = absurd (false_true (sym bad ∙ ap (λ (m : ℕ). inside m (word_at p 0)) (none refl) ∙ any_inside (word_at p 0) small))
first_stop l₀ i r p (suc n) k ks low h none e size small bad =
    word_stop l₀ i r p l₀ p r (fitting_start l₀ i r p low) k (replicate n any ++ ks) e (omega arith) l₀ (sym (plain_lawful (tags_in l₀) l₀ i k (word_at p 0) h ∙ bad)) refl

module _ (r size c low high : ℕ) (e : says r size c low high ≡ true) where
  abbrev n : ℕ
  n = size / 2 - c

  abbrev k : ℕ
  k = lead r n

  abbrev left_part : Bool
  left_part = like r (led k n ++ replicate c expr) && reaches k low high

  left_true : left_part ≡ true
  unfolding says
  left_true = and_left left_part _ e

  right_true : (ltb k expr && eqb size (2 * (n + c))) && (ltb 0 size && leb c 2) ≡ true
  unfolding says
  right_true = and_right left_part _ e

  rows : like r (led k n ++ replicate c expr) ≡ true
  rows = and_left _ _ left_true

  bounded : reaches k low high ≡ true
  bounded = and_right (like r (led k n ++ replicate c expr)) _ left_true

  small : k < 6
  small = ltb-true k 6 (and_left _ _ (and_left (ltb k expr && eqb size (2 * (n + c))) _ right_true))

  pub sizes : (size ≡ 2 * (n + c)) × (0 < size) × (c ≤ 2)
  sizes =
      let x = and_left (ltb k expr && eqb size (2 * (n + c))) _ right_true in
      let y = and_right (ltb k expr && eqb size (2 * (n + c))) _ right_true in
      (eqb-true size (2 * (n + c)) (and_right (ltb k expr) _ x), ltb-true 0 size (and_left _ _ y), leb-true c 2 (and_right (ltb 0 size) _ y))

  -- a payload of that size, with w for its first word
  module _ (l₀ : List ℕ) (i : ℕ) (p : List ℕ) (row : r < 122) (len : length p ≡ size) (bytes : (j : ℕ) → get_or p j 0 < 256) (w : ℕ) (ew : w ≡ word_at p 0) where
    word_small : word_at p 0 < 65536
    word_small = omega (arith, bytes 0, bytes 1)

    pub wrong_first : (w < low) ⊎ (high < w) → Told l₀ i r p false l₀
    wrong_first bad = first_stop l₀ i r p n k (replicate c expr) row small (λ q. simp (eq-eqb n 0 q)) rows (omega (arith, sizes)) word_small
        (inside_not k low high (word_at p 0) bounded word_small (rw ew at bad))

    -- the first word is right
    module _ (a : low ≤ w) (b : w ≤ high) where
      passed : (r' : ℕ) × (like r' (replicate c expr) ≡ true) × Fitting l₀ i r p l₀ (drop (2 * n) p) r' 0
      passed = led_more l₀ i r p n k (replicate c expr) row small rows (omega (arith, sizes)) bytes (λ _. inside_yes k low high (word_at p 0) bounded word_small (omega arith) (omega arith))

      kinds : (m : ℕ) → c ≡ m → like passed.0 (replicate m expr) ≡ true
      kinds m q = subst (λ (x : ℕ). like passed.0 (replicate x expr) ≡ true) q passed.1

      rest_size : length (drop (2 * n) p) ≡ 2 * c
      rest_size = omega (arith, length-drop (2 * n) p, sizes)

      pub no_child : c ≡ 0 → Told l₀ i r p true l₀
      no_child q = at_end l₀ i r p l₀ (drop (2 * n) p) passed.0 passed.2 (kinds 0 q) (omega (arith, rest_size))

      -- x is the last word
      module _ (x : ℕ) (ex : x ≡ word_at p (length p - 2)) where
        pub one_child : c ≡ 1 → (ok : Bool) (l' : List ℕ) → ok ≡ lawful (tags_in l₀) i expr x → l' ≡ cond ok (note_word l₀ i expr x) l₀ → Told l₀ i r p ok l'
        one_child q ok l' eo el =
            let z : 2 * n ≡ length p - 2 = omega (arith, sizes) in
            let f : word_at (drop (2 * n) p) 0 ≡ x = word_drop (2 * n) p ∙ ap (word_at p) z ∙ sym ex in
            last_child l₀ i r p l₀ (drop (2 * n) p) passed.0 passed.2 (kinds 1 q) (omega (arith, rest_size)) ok l' (rw f eo) (rw f el)

      -- and y the one before it
      module _ (q : c ≡ 2) (y : ℕ) (ey : y ≡ word_at p (length p - 4)) (ok : Bool) (l₁ : List ℕ) (eo : ok ≡ lawful (tags_in l₀) i expr y) (el : l₁ ≡ cond ok (note_word l₀ i expr y) l₀) where
        two : 2 ≤ length (drop (2 * n) p)
        two = omega (arith, rest_size)

        word_is : word_at (drop (2 * n) p) 0 ≡ y
        word_is = let z : 2 * n ≡ length p - 4 = omega (arith, sizes) in word_drop (2 * n) p ∙ ap (word_at p) z ∙ sym ey

        pub wrong_child : ok ≡ false → Told l₀ i r p false l₁
        wrong_child t = word_stop l₀ i r p l₀ (drop (2 * n) p) passed.0 passed.2 expr (expr ∷ []) (kinds 2 q) two l₁ (rw word_is (sym t ∙ eo)) (el ∙ rw t)

        pub two_children : ok ≡ true → (x : ℕ) → x ≡ word_at p (length p - 2) → (ok₂ : Bool) (l' : List ℕ) → ok₂ ≡ lawful (tags_in l₁) i expr x → l' ≡ cond ok₂ (note_word l₁ i expr x) l₁ → Told l₀ i r p ok₂ l'
        two_children t x ex ok₂ l' eo₂ el₂ =
            let v = word_more l₀ i r p l₀ (drop (2 * n) p) passed.0 passed.2 expr (expr ∷ []) (kinds 2 q) two l₁ (rw word_is (sym eo ∙ t)) (rw word_is (el ∙ rw t)) in
            let z : 2 * n + 2 ≡ length p - 2 = omega (arith, sizes) in
            let g : word_at (drop 2 (drop (2 * n) p)) 0 ≡ x = ap (λ (m : List ℕ). word_at m 0) (drop-drop 2 (2 * n) p) ∙ word_drop (2 * n + 2) p ∙ ap (word_at p) z ∙ sym ex in
            last_child l₀ i r p l₁ (drop 2 (drop (2 * n) p)) _ v (after l₀ i r p l₀ (drop (2 * n) p) passed.0 passed.2 expr (expr ∷ []) (kinds 2 q) two) (omega (arith, rest_size, length-drop 2 (drop (2 * n) p))) ok₂ l' (rw g eo₂) (rw g el₂)

pub form_says : (start : Start) → Right start → (f : Form) → start.form ≡ Some f → says start.row f.size f.children f.low f.high ≡ true
unfolding formed
form_says start r f e = ap (formed start.row) (sym e) ∙ r.form

-- ---- the table: one test for each width

start_right : (wide : Bool) (tag : ℕ) → Bool
start_right wide tag =
    let start = get_or (starts wide) tag never in
    (eqb start.row (get_or (first_rows wide) tag 0) && ltb start.row 122) && formed start.row start.form

all_right : (wide : Bool) → all_to (start_right wide) 30 ≡ true
unfolding all_to start_right first_rows number flow_of formed says like led reaches bound bounds
all_right true = refl
all_right false = refl

module _ (wide : Bool) (tag : ℕ) (h : tag < 30) where
  abbrev it : Start
  it = get_or (starts wide) tag never

  right : start_right wide tag ≡ true
  right = all_below (start_right wide) 30 tag (all_right wide) h

  pub start_row : it.row ≡ get_or (first_rows wide) tag 0
  unfolding start_right
  start_row = eqb-true _ _ (and_left _ _ (and_left (eqb it.row (get_or (first_rows wide) tag 0) && ltb it.row 122) _ right))

  pub start_is : Right it
  unfolding start_right
  start_is = record {
    low = ltb-true it.row 122 (and_right (eqb it.row (get_or (first_rows wide) tag 0)) _ (and_left (eqb it.row (get_or (first_rows wide) tag 0) && ltb it.row 122) _ right));
    form = and_right (eqb it.row (get_or (first_rows wide) tag 0) && ltb it.row 122) _ right;
  }

-- a start without a form
pub plain_right : (r : ℕ) → r < 122 → Right (record { row = r; form = None })
unfolding formed
plain_right r h = record { low = h; form = refl }
