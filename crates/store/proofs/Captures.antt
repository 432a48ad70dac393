-- Captures: an equal one is found, or one is added at the end. A capture is a half, an index or 256 and a register, and two are equal where the halves are.
use Rattle.std.proofs.Common.{◌≡◌, ℕ, zero, suc, ◌+◌, ◌-◌, ◌*◌, ◌/◌, ◌%◌, ◌<◌, ◌≤◌, ◌&&◌, eqb, List, [], ◌∷◌, ◌++◌, length, get_or, set, sym, refl, ap, ◌∙◌, ap₂, arith, length-set, get_or-set_other, get_or-set_same, le-ltb, lt-ltb, eq-eqb, ne_eqb, le-leb}
use mathlib.Core.Bool.{beq}
use native.Mathlib.Decide.{dec_lt}
use borrow.Author.Tests.{lt-leb}
use Rattle.std.specs.Prelude.{Some, Ok, Err}
use Rattle.store.specs.declared.capture.NoRoom.{NoRoom}
use Rattle.store.specs.Half.{with_half}
use Rattle.store.specs.Table.{tab, span}
use Rattle.store.specs.Layout.{first_edge, first_local, edge, block, first, held, capture_of, capture_word, capture_at}
use Rattle.store.specs.Store.{open_at, around}
use Rattle.store.specs.Search.{search_of, Caught, Added}
use Rattle.store.proofs.Tables.{tab_none, tab_suc, tab_front, tab_length, tab_ext, span_ext}
use Rattle.store.proofs.Halves.{half_same, half_other, half_apart, half_word, word_other, length_half}
use Rattle.store.proofs.Regions.{around_same, below_256}
use Rattle.meaning.specs.State.{capture_index, add_upvalue}

-- ---- equal captures

same_test : (a b c d : ℕ) → (a ≡ b → c ≡ d) → (c ≡ d → a ≡ b) → eqb a b ≡ eqb c d
same_test a b c d f g = cases (dec_lt c d) (dec_lt d c)
  where
    cases : Dec (c < d) → Dec (d < c) → eqb a b ≡ eqb c d
    cases (yes k) l = ne_eqb a b (λ e. let h = f e in omega arith) ∙ sym (ne_eqb c d (λ e. omega arith))
    cases (no k) (yes l) = ne_eqb a b (λ e. let h = f e in omega arith) ∙ sym (ne_eqb c d (λ e. omega arith))
    cases (no k) (no l) = let e : c ≡ d = omega arith in eq-eqb a b (g e) ∙ sym (eq-eqb c d e)

same_capture : (x y : ℕ) → (beq (capture_of x).is_local (capture_of y).is_local && eqb (capture_of x).index (capture_of y).index) ≡ eqb x y
same_capture x y = cases (dec_lt x 256) (dec_lt y 256)
  where
    cases : Dec (x < 256) → Dec (y < 256) → (beq (capture_of x).is_local (capture_of y).is_local && eqb (capture_of x).index (capture_of y).index) ≡ eqb x y
    cases (yes a) (yes b) = rw (lt-ltb x 256 a, lt-ltb y 256 b)
    cases (yes a) (no b) = rw (lt-ltb x 256 a, le-ltb y 256 (omega arith)) (sym (ne_eqb x y (λ e. omega arith)))
    cases (no a) (yes b) = rw (le-ltb x 256 (omega arith), lt-ltb y 256 b) (sym (ne_eqb x y (λ e. omega arith)))
    cases (no a) (no b) = rw (le-ltb x 256 (omega arith), le-ltb y 256 (omega arith)) (same_test (x - 256) (y - 256) x y (λ e. omega arith) (λ e. omega arith))

-- the index of the first equal one, or how many there are
index_none : (x : ℕ) (f : ℕ → ℕ) (n : ℕ) → ((k : ℕ) → k < n → f k ≡ x → ⊥) → capture_index (capture_of x) (tab (λ i. capture_of (f i)) n) ≡ n
index_none x f zero h = rw (tab_none (λ i. capture_of (f i)))
index_none x f (suc n) h =
    rw (tab_front (λ i. capture_of (f i)) n, same_capture x (f 0), ne_eqb x (f 0) (λ e. h 0 (omega arith) (sym e)))
    (ap suc (index_none x (λ i. f (suc i)) n (λ k l. h (suc k) (omega arith))))

index_at : (x : ℕ) (f : ℕ → ℕ) (n i : ℕ) → i < n → ((k : ℕ) → k < i → f k ≡ x → ⊥) → f i ≡ x → capture_index (capture_of x) (tab (λ j. capture_of (f j)) n) ≡ i
index_at x f zero i l h e = absurd (omega arith)
index_at x f (suc n) zero l h e = rw (tab_front (λ i. capture_of (f i)) n, same_capture x (f 0), eq-eqb x (f 0) (sym e))
index_at x f (suc n) (suc i) l h e =
    rw (tab_front (λ i. capture_of (f i)) n, same_capture x (f 0), ne_eqb x (f 0) (λ e. h 0 (omega arith) (sym e)))
    (ap suc (index_at x (λ i. f (suc i)) n i (omega arith) (λ k l. h (suc k) (omega arith)) e))

-- ---- what is caught

pub caught_refl : (w : List ℕ) (d : ℕ) → Caught w d w
caught_refl w d = record { same = refl; low = λ i h. refl; high = λ i h. refl; frames = λ j k a b c. refl; counts = λ j a b. refl; above = λ i a b. refl }

pub caught_wider : {w w' : List ℕ} {o d : ℕ} → o ≤ d → Caught w o w' → Caught w d w'
caught_wider le c = record { same = c.same; low = c.low; high = c.high; frames = c.frames; counts = λ j a b. c.counts j (omega arith) b; above = λ i a b. c.above i (omega arith) b }

pub caught_trans : {w w1 w2 : List ℕ} {d : ℕ} → Caught w d w1 → Caught w1 d w2 → Caught w d w2
caught_trans g h =
    record {
      same = h.same ∙ g.same;
      low = λ i a. h.low i a ∙ g.low i a;
      high = λ i a. h.high i a ∙ g.high i a;
      frames = λ j k a b c. h.frames j k a b c ∙ g.frames j k a b c;
      counts = λ j a b. h.counts j a b ∙ g.counts j a b;
      above = λ i a b. h.above i a b ∙ g.above i a b;
    }

-- the blocks lie above the captures
pub blocks_high : (w w' : List ℕ) → ((i : ℕ) → 4168 ≤ i → get_or w' i 0 ≡ get_or w i 0) → (n a e : ℕ) → span (block w' n) a e ≡ span (block w n) a e
blocks_high w w' h n a e = span_ext _ _ a e one
  where
    one : (i : ℕ) → a ≤ i → i < e → block w' n i ≡ block w n i
    one i k m =
        let e0 : edge w' n i ≡ edge w n i = h (first_edge n + i) (omega arith) in
        let e1 : edge w' n (suc i) ≡ edge w n (suc i) = h (first_edge n + suc i) (omega arith) in
        rw (e0, e1) (span_ext _ _ (edge w n i) (edge w n (suc i)) (λ x y z. rw (h (first_local n + x) (omega arith), half_word w w' (9376 + x) (h ((9376 + x) / 2) (omega arith)))))

-- ---- an equal capture, no room, one more

pub add_old : (w : List ℕ) (d x i : ℕ) → i < held w d → ((k : ℕ) → k < i → capture_word w d k ≡ x → ⊥) → capture_word w d i ≡ x → Added w d x w (Ok i)
unfolding open_at
add_old w d x i l h e = record { says = says; small = omega arith; caught = caught_refl w d }
  where
    idx : capture_index (capture_of x) (tab (capture_at w d) (held w d)) ≡ i
    idx = index_at x (capture_word w d) (held w d) i l h e

    says : (n e l : ℕ) → search_of w n d e l (Ok (Some i)) ≡ add_upvalue (open_at w n d e l) (capture_of x) (around w n d)
    says n e' l' = simp (idx, tab_length, lt-leb 255 i (omega arith), lt-ltb i (held w d) l)

pub add_full : (w : List ℕ) (d x : ℕ) (full : NoRoom) → held w d ≡ 255 → ((k : ℕ) → k < held w d → capture_word w d k ≡ x → ⊥) → Added w d x w (Err full)
unfolding open_at
add_full w d x full e h = record { says = says; small = tt; caught = caught_refl w d }
  where
    idx : capture_index (capture_of x) (tab (capture_at w d) (held w d)) ≡ held w d
    idx = index_none x (capture_word w d) (held w d) h

    says : (n e l : ℕ) → search_of w n d e l (Err full) ≡ add_upvalue (open_at w n d e l) (capture_of x) (around w n d)
    says n e' l' = simp (idx, le-leb 255 (held w d) (omega arith))

module _ (w : List ℕ) (d x : ℕ) (tiny : x < 512) (long : 4168 ≤ length w) (deep : d ≤ 7) (ne : ¬ (held w d ≡ 255)) (h : (k : ℕ) → k < held w d → capture_word w d k ≡ x → ⊥) where
  abbrev at : ℕ
  at = 6288 + 256 * d + held w d

  abbrev w1 : List ℕ
  w1 = with_half w (6288 + 256 * d + held w d) x

  abbrev pub w2 : List ℕ
  w2 = set w1 (3074 + 8 * d) (held w d + 1)

  few : held w d < 255
  few = omega (arith, below_256 (get_or w (3074 + 8 * d) 0))

  l1 : length w1 ≡ length w
  l1 = length_half w (6288 + 256 * d + held w d) x

  other : (i : ℕ) → ¬ (i ≡ 3074 + 8 * d) → (3144 + 128 * d ≤ i → 3144 + 128 * suc d ≤ i) → get_or w2 i 0 ≡ get_or w i 0
  other i a b =
      get_or-set_other w1 (3074 + 8 * d) i (held w d + 1) 0 a
      ∙ word_other w (6288 + 256 * d + held w d) i x (λ e. let f = few in let g = b (omega arith) in omega arith)

  caught : Caught w d w2
  caught =
      record {
        same = length-set w1 (3074 + 8 * d) (held w d + 1) ∙ l1;
        low = λ i a. other i (omega arith) (λ e. omega arith);
        high = λ i a. other i (omega arith) (λ e. omega arith);
        frames = λ j k a b e. other (3072 + 8 * j + k) (omega arith) (λ z. omega arith);
        counts = λ j a b. other (3074 + 8 * j) (omega arith) (λ z. omega arith);
        above = λ i a b. other i (omega arith) (λ z. omega arith);
      }

  count : held w2 d ≡ suc (held w d)
  count = let f = few in omega (arith, get_or-set_same w1 (3074 + 8 * d) (held w d + 1) 0 (omega (arith, l1)))

  -- the captures before, and the new one
  old_word : (k : ℕ) → k < held w d → capture_at w2 d k ≡ capture_at w d k
  old_word k l =
      let f = few in
      ap (λ y. capture_of (y % 512))
      (half_apart w1 (3074 + 8 * d) (held w d + 1) (6288 + 256 * d + k) (omega arith)
      ∙ half_other w (6288 + 256 * d + held w d) x (omega arith) (omega arith) (6288 + 256 * d + k) (omega arith))

  new_word : capture_at w2 d (held w d) ≡ capture_of x
  new_word =
      let f = few in
      let exact : x % 512 ≡ x = omega arith in
      ap (λ y. capture_of (y % 512))
      (half_apart w1 (3074 + 8 * d) (held w d + 1) (6288 + 256 * d + held w d) (omega arith)
      ∙ half_same w (6288 + 256 * d + held w d) x (omega arith) (omega arith))
      ∙ ap capture_of exact

  captures : tab (capture_at w2 d) (held w2 d) ≡ tab (capture_at w d) (held w d) ++ (capture_of x ∷ [])
  captures = ap (tab (capture_at w2 d)) count ∙ tab_suc (capture_at w2 d) (held w d) ∙ ap₂ (λ l y. l ++ (y ∷ [])) (tab_ext _ _ (held w d) old_word) new_word

  index : capture_index (capture_of x) (tab (capture_at w d) (held w d)) ≡ held w d
  index = index_none x (capture_word w d) (held w d) h

  around_kept : (n : ℕ) → around w2 n d ≡ around w n d
  around_kept n =
      around_same w w2 n d
      (record {
        frames = λ j k a b. other (3072 + 8 * j + k) (omega arith) (λ z. omega arith);
        firsts = λ j a. other (3075 + 8 * j) (omega arith) (λ z. omega arith);
        saves = λ j a. other (3076 + 8 * j) (omega arith) (λ z. omega arith);
        captures = λ j a. record { same = λ i b c. other i (omega arith) (λ z. omega arith) };
        blocks = λ j a. blocks_high w w2 caught.high n (first w j) (first w (suc j));
      })

  new_says : (n e l : ℕ) → search_of w2 n d e l (Ok (Some (held w d))) ≡ add_upvalue (open_at w n d e l) (capture_of x) (around w n d)
  unfolding open_at
  new_says n e l =
      let f = few in
      simp
      (index, captures, tab_length, lt-leb 255 (held w d) (omega arith), le-ltb (held w d) (held w d) (omega arith), other (3072 + 8 * d) (omega arith) (λ z. omega arith), other (3073 + 8 * d) (omega arith) (λ z. omega arith), other (3075 + 8 * d) (omega arith) (λ z. omega arith), blocks_high w w2 caught.high n (first w d) e, around_kept n)

  pub add_new : Added w d x w2 (Ok (held w d))
  add_new = record { says = new_says; small = few; caught = caught }
