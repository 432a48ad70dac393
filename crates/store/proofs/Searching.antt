-- The search of the functions around, one at a time: what the search of the function around found is what lies beyond, and a capture is added on the way back.
use Rattle.std.proofs.Common.{◌≡◌, ℕ, suc, ◌+◌, ◌-◌, ◌*◌, ◌<◌, ◌≤◌, true, false, ◌&&◌, eqb, List, ◌∷◌, get_or, sym, refl, ap, ◌∙◌, arith, le-ltb, lt-ltb}
use mathlib.Core.Option as maybe
use Rattle.std.specs.Prelude.{Option, None, Some, Result, Ok, Err, IfOk}
use Rattle.store.specs.declared.capture.NoRoom.{NoRoom}
use Rattle.store.specs.declared.Scope.{Scope}
use Rattle.store.specs.Layout.{edge, local_at, first, saved, held, capture_of}
use Rattle.store.specs.Store.{open_at, around, Sound}
use Rattle.store.specs.Search.{found_of, in_byte, seek, search_of, added_of, Caught, Added, Sought, Ready}
use Rattle.store.proofs.Regions.{frame, captures_same, edges_below, below_256}
use Rattle.store.proofs.Links.{in_blocks}
use Rattle.store.proofs.Pools.{global_is}
use Rattle.store.proofs.Captures.{caught_refl, caught_wider, caught_trans, blocks_high}
use Rattle.meaning.specs.State.{Open, local_of, outward, search_outward, add_upvalue, local_capture, outer_capture}

-- ---- what a search leaves as it was

caught_word : {w w' : List ℕ} {o : ℕ} → Caught w o w' → (j k i : ℕ) → j < 9 → k < 8 → ¬ (k ≡ 2) → 3072 + 8 * j + k ≡ i → get_or w' i 0 ≡ get_or w i 0
caught_word {w} {w'} c j k i a b n e = sym (frame w' j k i e) ∙ c.frames j k a b n ∙ frame w j k i e

pub caught_first : {w w' : List ℕ} {o : ℕ} → Caught w o w' → (j : ℕ) → j < 9 → first w' j ≡ first w j
caught_first c j h = caught_word c j 3 (3075 + 8 * j) h (omega arith) (omega arith) (omega arith)

pub caught_saved : {w w' : List ℕ} {o : ℕ} → Caught w o w' → (j : ℕ) → j < 9 → saved w' j ≡ saved w j
caught_saved c j h = caught_word c j 4 (3076 + 8 * j) h (omega arith) (omega arith) (omega arith)

pub caught_registers : {w w' : List ℕ} {o : ℕ} → Caught w o w' → (j : ℕ) → j < 9 → get_or w' (3073 + 8 * j) 0 ≡ get_or w (3073 + 8 * j) 0
caught_registers c j h = caught_word c j 1 (3073 + 8 * j) h (omega arith) (omega arith) (omega arith)

-- a function within those that were searched
open_same : (w w' : List ℕ) (n o d e l : ℕ) → Caught w o w' → o < d → d < 8 → open_at w' n d e l ≡ open_at w n d e l
unfolding open_at
open_same w w' n o d e l c lt small =
    let nm = caught_word c d 0 (3072 + 8 * d) (omega arith) (omega arith) (omega arith) (omega arith) in
    let rg = caught_registers c d (omega arith) in
    let hd : get_or w' (3074 + 8 * d) 0 ≡ get_or w (3074 + 8 * d) 0 = c.counts d lt (omega arith) in
    let bl = blocks_high w w' c.high n (first w d) e in
    let cp = captures_same w w' d (held w d) (omega (arith, below_256 (get_or w (3074 + 8 * d) 0))) (record { same = λ i x y. c.above i (omega arith) (omega arith) }) in
    rw (nm, rg, hd, caught_first c d (omega arith), bl, cp)

-- what is added is found, below 255, or does not fit
added_small : (f : Result ℕ NoRoom) → IfOk f (λ i. i < 255) → IfOk (added_of f) in_byte
added_small (Ok i) h = h
added_small (Err full) h = tt

added_never : (f : Result ℕ NoRoom) → added_of f ≡ Ok None → ⊥
added_never (Ok i) g = cc
added_never (Err full) g = cc

-- ---- one step outward

pub sought_none : (w : List ℕ) (n name : ℕ) → Sought w n 0 name w (Ok None)
unfolding around search_outward
sought_none w n name = record { says = λ e l. refl; small = tt; caught = caught_refl w 0; unchanged = λ g. refl }

-- what the walk down the locals of function o, up to those of the function inside it, gives
abbrev pub walked : List ℕ → (n o name : ℕ) → maybe.Option ℕ
walked w n o name = seek name (local_at w n) (edge w n (first w o)) (edge w n (first w (suc o))) maybe.none

module _ (w : List ℕ) (n o name : ℕ) (ready : Ready w n (suc o)) where
  outer : Open
  outer = open_at w n o (first w (suc o)) (saved w (suc o))

  here_of : local_of name (open_at w n o (first w (suc o)) (saved w (suc o))).blocks ≡ walked w n o name
  unfolding open_at
  here_of = in_blocks w n name (first w o) (first w (suc o)) (ready.sorted o (omega arith)) (ready.sorted (suc o) (omega arith))

  one_out : (e l : ℕ) → search_outward name (open_at w n (suc o) e l) (around w n (suc o))
      ≡ outward (eqb o 0 && eqb (first w (suc o)) 1) (walked w n o name) (search_outward name (open_at w n o (first w (suc o)) (saved w (suc o))) (around w n o)) (open_at w n (suc o) e l) (open_at w n o (first w (suc o)) (saved w (suc o))) (around w n o)
  unfolding around search_outward
  one_out e l = rw (global_is w n o (first w (suc o)) (saved w (suc o)) ready.main, here_of)

  -- the main function with its first block alone
  pub sought_stop : (eqb o 0 && eqb (first w (suc o)) 1) ≡ true → Sought w n (suc o) name w (Ok None)
  sought_stop h = record { says = λ e l. sym (one_out e l ∙ rw h); small = tt; caught = caught_refl w (suc o); unchanged = λ g. refl }

  -- a local of the function around: captured here
  pub sought_local : (eqb o 0 && eqb (first w (suc o)) 1) ≡ false → (r : ℕ) → Some r ≡ found_of (walked w n o name) → (w' : List ℕ) (f : Result ℕ NoRoom) → Added w (suc o) (256 + r) w' f → Sought w n (suc o) name w' (added_of f)
  unfolding around
  sought_local h r here w' f a = record { says = says; small = added_small f a.small; caught = a.caught; unchanged = λ g. absurd (added_never f g) }
    where
      told : (x : maybe.Option ℕ) → Some r ≡ found_of x → x ≡ maybe.some r
      told maybe.none g = cc
      told (maybe.some i) g = let e : i ≡ r = cc in ap maybe.some e

      capture : capture_of (256 + r) ≡ local_capture r
      capture = let s : 256 + r - 256 ≡ r = omega arith in rw (le-ltb (256 + r) 256 (omega arith), s)

      says : (e l : ℕ) → search_of w' n (suc o) e l (added_of f) ≡ search_outward name (open_at w n (suc o) e l) (around w n (suc o))
      says e l =
          a.says n e l
          ∙ ap (λ c. add_upvalue (open_at w n (suc o) e l) c (around w n (suc o))) capture
          ∙ sym (one_out e l ∙ rw (h, told (walked w n o name) here))

  -- nothing here: what lies beyond
  beyond : (eqb o 0 && eqb (first w (suc o)) 1) ≡ false → None ≡ found_of (walked w n o name) → (w1 : List ℕ) (f1 : Result (Option ℕ) NoRoom) → Sought w n o name w1 f1 → (e l : ℕ)
      → search_outward name (open_at w n (suc o) e l) (around w n (suc o)) ≡ outward false maybe.none (search_of w1 n o (first w (suc o)) (saved w (suc o)) f1) (open_at w n (suc o) e l) (open_at w n o (first w (suc o)) (saved w (suc o))) (around w n o)
  beyond h here w1 f1 s e l = one_out e l ∙ rw (h, told (walked w n o name) here, ← (s.says (first w (suc o)) (saved w (suc o))))
    where
      told : (x : maybe.Option ℕ) → None ≡ found_of x → x ≡ maybe.none
      told maybe.none g = refl
      told (maybe.some i) g = cc

  pub sought_beyond : (eqb o 0 && eqb (first w (suc o)) 1) ≡ false → None ≡ found_of (walked w n o name) → (w1 : List ℕ) (f1 : Result (Option ℕ) NoRoom) → Sought w n o name w1 f1 → ((i : ℕ) → f1 ≡ Ok (Some i) → ⊥) → Sought w n (suc o) name w1 f1
  sought_beyond h here w1 f1 s nat = record { says = λ e l. says f1 refl e l ∙ sym (beyond h here w1 f1 s e l); small = s.small; caught = caught_wider (omega arith) s.caught; unchanged = s.unchanged }
    where
      says : (f : Result (Option ℕ) NoRoom) → f ≡ f1 → (e l : ℕ)
          → search_of w1 n (suc o) e l f ≡ outward false maybe.none (search_of w1 n o (first w (suc o)) (saved w (suc o)) f) (open_at w n (suc o) e l) (open_at w n o (first w (suc o)) (saved w (suc o))) (around w n o)
      says (Ok None) g e l = refl
      says (Ok (Some i)) g e l = absurd (nat i (sym g))
      says (Err full) g e l = refl

  -- a capture of the function around: captured here, on the way back
  pub sought_captured : (eqb o 0 && eqb (first w (suc o)) 1) ≡ false → None ≡ found_of (walked w n o name) → (w1 : List ℕ) (i : ℕ) → Sought w n o name w1 (Ok (Some i)) → (w2 : List ℕ) (f : Result ℕ NoRoom) → Added w1 (suc o) i w2 f → Sought w n (suc o) name w2 (added_of f)
  unfolding around
  sought_captured h here w1 i s w2 f a =
      record { says = says; small = added_small f a.small; caught = caught_trans (caught_wider (omega arith) s.caught) a.caught; unchanged = λ g. absurd (added_never f g) }
    where
      deep : suc o < 8
      deep = let d = ready.deep in omega arith

      capture : capture_of i ≡ outer_capture i
      capture = let m = s.small in rw (lt-ltb i 256 (omega arith))

      turn : (e l : ℕ) → add_upvalue (open_at w1 n (suc o) e l) (capture_of i) (around w1 n (suc o)) ≡ add_upvalue (open_at w n (suc o) e l) (outer_capture i) (open_at w1 n o (first w (suc o)) (saved w (suc o)) ∷ around w1 n o)
      turn e l = rw (capture, open_same w w1 n o (suc o) e l s.caught (omega arith) deep, caught_first s.caught (suc o) (omega arith), caught_saved s.caught (suc o) (omega arith))

      says : (e l : ℕ) → search_of w2 n (suc o) e l (added_of f) ≡ search_outward name (open_at w n (suc o) e l) (around w n (suc o))
      says e l = a.says n e l ∙ turn e l ∙ sym (beyond h here w1 (Ok (Some i)) s e l)

pub ready_less : {w : List ℕ} {n d : ℕ} (o : ℕ) → o ≤ d → Ready w n d → Ready w n o
ready_less o le r =
    record {
      few = r.few;
      long = r.long;
      deep = let h = r.deep in omega arith;
      main = r.main;
      starts = λ j h. r.starts j (omega arith);
      sorted = λ j h. r.sorted j (omega arith);
      walks = λ j h. r.walks j (omega arith);
    }

pub ready_of : {w : List ℕ} {p : Scope} → Sound w p → p.depth ≤ 7 → Ready w p.nodes p.depth
ready_of {w} {p} h deep =
    record {
      few = h.few;
      long = h.long;
      deep = deep;
      main = h.main;
      starts = λ j k. let st = h.starts j k in omega (arith, st, h.blocks);
      sorted = λ j k i l. let st = h.starts j k in h.sorted i (omega (arith, st));
      walks = λ j k.
          let st = h.starts j k in
          record {
            some = h.some;
            few = h.few;
            long = h.long;
            blocks = p.block;
            block = first w j;
            among = omega (arith, st);
            ends = refl;
            within = edges_below w p.nodes p.block h.sorted (first w j) (omega (arith, st));
            fits = h.count;
            linked = h.linked;
          };
    }

pub nothing_here : (x : maybe.Option ℕ) (f : Option ℕ) → f ≡ found_of x → ((i : ℕ) → f ≡ Some i → ⊥) → None ≡ found_of x
nothing_here maybe.none f e h = refl
nothing_here (maybe.some i) f e h = absurd (h i e)

-- ---- the same, of a number that is the successor of o

abbrev pub walked_to : List ℕ → (n o d name : ℕ) → maybe.Option ℕ
walked_to w n o d name = seek name (local_at w n) (edge w n (first w o)) (edge w n (first w d)) maybe.none

module _ (w : List ℕ) (n o name d : ℕ) (e : d ≡ suc o) (ready : Ready w n d) where
  pub stop_at : (eqb o 0 && eqb (first w d) 1) ≡ true → Sought w n d name w (Ok None)
  stop_at h = rw e (sought_stop w n o name (rw e at ready) (rw e at h))

  pub local_found : (eqb o 0 && eqb (first w d) 1) ≡ false → (r : ℕ) → Some r ≡ found_of (walked_to w n o d name) → (w' : List ℕ) (f : Result ℕ NoRoom) → Added w d (256 + r) w' f → Sought w n d name w' (added_of f)
  local_found h r here w' f a = rw e (sought_local w n o name (rw e at ready) (rw e at h) r (rw e at here) w' f (rw e at a))

  pub beyond_found : (eqb o 0 && eqb (first w d) 1) ≡ false → None ≡ found_of (walked_to w n o d name) → (w1 : List ℕ) (f1 : Result (Option ℕ) NoRoom) → Sought w n o name w1 f1 → ((i : ℕ) → f1 ≡ Ok (Some i) → ⊥) → Sought w n d name w1 f1
  beyond_found h here w1 f1 s nat = rw e (sought_beyond w n o name (rw e at ready) (rw e at h) (rw e at here) w1 f1 s nat)

  pub captured_found : (eqb o 0 && eqb (first w d) 1) ≡ false → None ≡ found_of (walked_to w n o d name) → (w1 : List ℕ) (i : ℕ) (f1 : Result (Option ℕ) NoRoom) → f1 ≡ Ok (Some i) → Sought w n o name w1 f1 → (w2 : List ℕ) (f : Result ℕ NoRoom) → Added w1 d i w2 f → Sought w n d name w2 (added_of f)
  captured_found h here w1 i f1 g s w2 f a = rw e (sought_captured w n o name (rw e at ready) (rw e at h) (rw e at here) w1 i (rw g at s) w2 f (rw e at a))
