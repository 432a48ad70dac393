-- Scopes that are opened: the main function's on words that held anything, and that of a function inside another.
use Rattle.std.proofs.Common.{◌≡◌, ℕ, suc, ◌+◌, ◌-◌, ◌*◌, ◌/◌, ◌%◌, ◌<◌, ◌≤◌, List, [], ◌∷◌, ◌++◌, length, get_or, take, drop, set, sym, refl, ap, ◌∙◌, ap₂, arith, length-set, get_or-set_other, get_or-set_same}
use native.Mathlib.Decide.{ℕ_discrete, dec_lt}
use borrow.Rule.Slice.PartMut.{put_mid}
use lib.ListN.{replicate, length-append, length-drop, get_or-append}
use Rattle.std.proofs.lemmas.List.{get_or-append_right, get_or-drop, get_or-replicate, get_or-take, length-replicate, length-take-le}
use Rattle.store.specs.Table.{tab, stack, span}
use Rattle.store.specs.Layout.{first_edge, top, first_head, beyond, all_words, edge, local_at, block, latest, head}
use Rattle.store.specs.Store.{open_at, around, state_of, config_of, run, main_scope, first_step, Linked, Sound, Fine}
use Rattle.store.specs.Promise.{taken, Space}
use Rattle.store.specs.Opening.{Zeroed, Framed, Begun}
use Rattle.store.proofs.Tables.{span_more, span_none}
use Rattle.store.proofs.Halves.{half_even, half_odd}
use Rattle.meaning.specs.Lower.{start}
use Rattle.forward.specs.Forward.{config, going}

-- ---- words that are cleared: s is what stands in their place

zeroed_fill : (w s : List ℕ) (a b : ℕ) → a ≤ b → b ≤ length w → s ≡ replicate (length (take (b - a) (drop a w))) 0 → Zeroed w a b (put_mid a (b - a) w s)
zeroed_fill w s a b le fits e = record { same = same; zeros = zeros; other = λ i h. other i h (dec_lt i a) }
  where
    front : length (take a w) ≡ a
    front = length-take-le a w (omega arith)

    part : length s ≡ b - a
    part = ap length e ∙ length-replicate (length (take (b - a) (drop a w))) 0 ∙ length-take-le (b - a) (drop a w) (omega (arith, length-drop a w))

    back : List ℕ
    back = drop (b - a) (drop a w)

    same : length (take a w ++ (s ++ back)) ≡ length w
    same = simp (length-append, length-drop) (omega (arith, front, part))

    after : (i : ℕ) → a ≤ i → get_or (take a w ++ (s ++ back)) i 0 ≡ get_or (s ++ back) (i - a) 0
    after i h = get_or-append_right (take a w) (s ++ back) a i 0 front h

    zeros : (i : ℕ) → a ≤ i → i < b → get_or (take a w ++ (s ++ back)) i 0 ≡ 0
    zeros i h k =
        after i h
        ∙ get_or-append s back 0 (i - a) (omega (arith, part))
        ∙ ap (λ l. get_or l (i - a) 0) e
        ∙ get_or-replicate _ (i - a) 0 0 (omega (arith, length-take-le (b - a) (drop a w) (omega (arith, length-drop a w))))

    other : (i : ℕ) → (a ≤ i → b ≤ i) → Dec (i < a) → get_or (take a w ++ (s ++ back)) i 0 ≡ get_or w i 0
    other i h (yes k) = get_or-append (take a w) (s ++ back) 0 i (omega (arith, front)) ∙ get_or-take a w i 0 k
    other i h (no k) =
        let l = h (omega arith) in
        let there : a + (b - a + (i - a - (b - a))) ≡ i = omega arith in
        after i (omega arith)
        ∙ get_or-append_right s back (b - a) (i - a) 0 part (omega arith)
        ∙ get_or-drop (b - a) (drop a w) (i - a - (b - a)) 0
        ∙ get_or-drop a w (b - a + (i - a - (b - a))) 0
        ∙ ap (λ j. get_or w j 0) there

pub zeroed_by : (w s : List ℕ) (x y a b : ℕ) → x ≡ a → y ≡ b → x ≤ y → y ≤ length w → s ≡ replicate (length (take (y - x) (drop x w))) 0 → Zeroed w a b (put_mid x (y - x) w s)
zeroed_by w s x y a b p q le fits e = rw (sym p, sym q) (zeroed_fill w s x y le fits e)

-- a word stays under a store to another
under : (w : List ℕ) (i v j : ℕ) {x : ℕ} → ¬ (j ≡ i) → get_or w j 0 ≡ x → get_or (set w i v) j 0 ≡ x
under w i v j ne e = get_or-set_other w i j v 0 ne ∙ e

-- ---- the start

-- the heads are cleared, then the first two edges, then main's frame is set up
module _ (w w1 w2 w' : List ℕ) (n : ℕ) (some : 1 ≤ n) (few : n ≤ 32768) (long : all_words n ≤ length w) (cleared : Zeroed w (top n) (beyond n) w1) (edged : w2 ≡ set (set w1 (first_edge n) 0) (5709 + n) 0) (framed : Framed w2 0 65535 0 0 w') where
  length_w2 : length w2 ≡ length w
  length_w2 = ap length edged ∙ length-set (set w1 (first_edge n) 0) (5709 + n) 0 ∙ length-set w1 (first_edge n) 0 ∙ cleared.same

  edges : (i : ℕ) → i ≤ 1 → edge w' n i ≡ 0
  edges i h = framed.other (first_edge n + i) (λ z. omega arith) ∙ ap (λ l. get_or l (first_edge n + i) 0) edged ∙ set_to (ℕ_discrete i 0)
    where
      l1 : length (set w1 (first_edge n) 0) ≡ length w
      l1 = length-set w1 (first_edge n) 0 ∙ cleared.same

      set_to : Dec (i ≡ 0) → get_or (set (set w1 (first_edge n) 0) (5709 + n) 0) (first_edge n + i) 0 ≡ 0
      set_to (yes e) =
          let at : first_edge n + i ≡ first_edge n = omega arith in
          rw at (under (set w1 (first_edge n) 0) (5709 + n) 0 (first_edge n) (omega arith) (get_or-set_same w1 (first_edge n) 0 0 (omega (arith, cleared.same))))
      set_to (no e) =
          let at : first_edge n + i ≡ 5709 + n = omega arith in
          rw at (get_or-set_same (set w1 (first_edge n) 0) (5709 + n) 0 0 (omega (arith, l1)))

  above : (i : ℕ) → top n ≤ i → get_or w' i 0 ≡ get_or w1 i 0
  above i h =
      framed.other i (λ z. omega arith)
      ∙ ap (λ l. get_or l i 0) edged
      ∙ under (set w1 (first_edge n) 0) (5709 + n) 0 i (omega arith) (get_or-set_other w1 (first_edge n) i 0 0 (omega arith))

  heads : (i : ℕ) → top n ≤ i → i < beyond n → get_or w' i 0 ≡ 0
  heads i h k = above i h ∙ cleared.zeros i h k

  same : length w' ≡ length w
  same = framed.same ∙ length_w2

  start_linked : Linked w' n 1
  unfolding latest
  start_linked =
      record {
        links = λ i h. absurd (omega (arith, edges 1 (omega arith)));
        heads = λ b h. empty b h (ℕ_discrete ((first_head n + b) % 2) 0) ∙ sym (ap (λ k. latest w' n b k) (edges 1 (omega arith)));
      }
    where
      empty : (b : ℕ) → b < 10 * n → Dec ((first_head n + b) % 2 ≡ 0) → head w' n b ≡ 0
      empty b h (yes e) = omega (arith, half_even w' (first_head n + b) e, heads ((first_head n + b) / 2) (omega arith) (omega arith))
      empty b h (no e) = omega (arith, half_odd w' (first_head n + b) e, heads ((first_head n + b) / 2) (omega arith) (omega arith))

  start_sound : (mode wide : ℕ) → Sound w' (main_scope mode wide n)
  start_sound mode wide =
      let e = edges 1 (omega arith) in
      record {
        some = some;
        few = few;
        long = omega (arith, same);
        deep = omega arith;
        blocks = omega arith;
        loops = omega arith;
        sorted = λ i h. omega (arith, edges i (omega arith), edges (suc i) (omega arith));
        main = framed.first_is;
        starts = λ j h. let z : j ≡ 0 = omega arith in rw z (omega (arith, framed.first_is));
        count = omega arith;
        linked = start_linked;
      }

  start_fine : (mode wide : ℕ) → Fine w' (main_scope mode wide n) first_step
  start_fine mode wide =
      let e = edges 1 (omega arith) in
      record { sound = start_sound mode wide; nested = omega arith; room = omega arith; constants = omega arith; globals = omega arith; functions = omega arith; written = omega arith; result = omega arith }

  start_room : (mode wide : ℕ) → Space w' (main_scope mode wide n) first_step n 0 0
  unfolding taken
  start_room mode wide =
      let e = edges 1 (omega arith) in
      record { roomy = record { words = omega (arith, framed.registers_none); locals = omega (arith, framed.registers_none); globals = omega arith } }

  start_blocks : span (block w' n) 0 1 ≡ [] ∷ []
  start_blocks =
      span_more (block w' n) 0 0 (omega arith)
      ∙ ap₂ (λ b l. b ∷ l) (rw (edges 1 (omega arith)) (span_none (local_at w' n) (edge w' n 0) 0 (omega arith))) (span_none (block w' n) 0 0 (omega arith))

  start_runs : (mode wide : ℕ) → run w' (main_scope mode wide n) first_step [] ≡ going (config [] 0 start)
  unfolding run config_of state_of open_at around tab stack
  start_runs mode wide = rw (framed.name_is, framed.registers_none, framed.held_none, framed.first_is, start_blocks)

  -- the count of visits is not among these words
  count : get_or w' 3077 0 ≡ get_or w 3077 0
  count =
      framed.other 3077 (λ z. omega arith)
      ∙ ap (λ l. get_or l 3077 0) edged
      ∙ under (set w1 (first_edge n) 0) (5709 + n) 0 3077 (omega arith) (get_or-set_other w1 (first_edge n) 3077 0 0 (omega arith) ∙ cleared.other 3077 (λ z. absurd (omega arith)))

  -- the program's visit was counted before
  pub begun : {w0 : List ℕ} → w ≡ set w0 3077 1 → Begun w0 n w'
  begun {w0} e =
      record {
        same = same ∙ ap length e ∙ length-set w0 3077 1;
        offsets = λ i h. above i (omega arith) ∙ cleared.other i (λ z. h) ∙ ap (λ l. get_or l i 0) e ∙ get_or-set_other w0 3077 i 1 0 (omega arith);
        fine = start_fine;
        room = start_room;
        runs = start_runs;
        image = λ mode wide o. record { counted = refl; sized = refl; bytes = λ h. refl };
        counts = ap (λ x. x % 4294967296) (count ∙ ap (λ l. get_or l 3077 0) e ∙ get_or-set_same w0 3077 1 0 (omega (arith, ap length e, length-set w0 3077 1)));
      }
