-- Constants and globals: a table grows by one, and nothing else that the words stand for changes.
use Rattle.std.proofs.Common.{◌≡◌, ℕ, zero, suc, ◌+◌, ◌-◌, ◌*◌, ◌/◌, ◌<◌, ◌≤◌, Bool, true, false, ◌&&◌, ◌||◌, eqb, List, [], ◌∷◌, ◌++◌, length, get_or, set, sym, refl, ap, ◌∙◌, ap₂, subst, add-one, arith, length-set, get_or-set_other, get_or-set_same, eq-eqb, ne_eqb}
use native.Mathlib.Decide.{ℕ_discrete}
use Rattle.std.specs.Prelude.{MatchBool, ◌≢◌, Ok}
use Rattle.std.specs.List.{HoldsAt, AllWithin}
use Rattle.std.specs.declared.ops.Range.{Range}
use Rattle.std.specs.Iterator.Adapters.{rev_source, rev_steps}
use Rattle.std.proofs.iter.runs.Sources.{nat_range_steps_back}
use Rattle.std.proofs.lemmas.Iterator.{YieldsList}
use Rattle.std.proofs.lemmas.Iterator.Consumers.{YieldsList-from_shown}
use Rattle.store.specs.declared.Step.{Step}
use Rattle.store.specs.declared.Scope.{Scope}
use Rattle.store.specs.Half.{with_half}
use Rattle.store.specs.Table.{tab, stack, span}
use Rattle.store.specs.Layout.{constant_by, constant_at, global_at, first, block}
use Rattle.store.specs.Store.{top_of, open_at, around, state_of, global_scope, refused_step, constant_more, global_more, Sound, Fine}
use Rattle.store.specs.Promise.{a_constant, a_global, Moves, Leaf, Tells}
use Rattle.store.proofs.Tables.{tab_suc, tab_length, stack_none, stack_suc, stack_ext, span_more, span_none}
use Rattle.store.proofs.Halves.{length_half, word_other, half_same, half_other}
use Rattle.store.proofs.Regions.{Same, Only, only_set, only_trans, only_wider, below, above, same_count, constants_same, globals_same, code_same}
use Rattle.store.proofs.Runs.{promised, ran, ran_out, image_same, image_none}
use Rattle.store.proofs.Steady.{Clear, sound_apart, kept_apart, edge_apart, open_apart, around_apart, taken_apart, fine_words, fine_step}
use Rattle.store.proofs.Refusals.{refused_outcome, refused_moves}
use Rattle.store.proofs.Compose.{told_of}
use Rattle.meaning.specs.Constant.{Constant}
use Rattle.meaning.specs.State.{State, Proto, refused, done, refuse, if_then, add_constant, add_global, among, is_single, is_global, is_global_context, is_global_var}
use Rattle.meaning.specs.declared.Cause.TheVariants.{Constants}
use Rattle.forward.specs.Forward.{fwd_number, fwd_unit, give}
use Rattle.forward.proofs.Opened.{with_constant}

-- ---- constants

constant_done : (node : ℕ) (v : Constant) (σ : State) → ¬ (length σ.constants ≡ 1024) → add_constant node v σ ≡ done (length σ.constants) (with_constant σ v)
unfolding add_constant if_then
constant_done node v σ h = rw (ne_eqb (length σ.constants) 1024 h)

constant_full : (node : ℕ) (v : Constant) (σ : State) → length σ.constants ≡ 1024 → add_constant node v σ ≡ refused Constants node
unfolding add_constant if_then refuse
constant_full node v σ h = rw (eq-eqb (length σ.constants) 1024 h)

-- the three words of constant i
abbrev pub constant_words : (w : List ℕ) (i kind high low : ℕ) → List ℕ
constant_words w i kind high low = set (set (set w (3 * i) kind) (3 * i + 1) high) (3 * i + 2) low

constant_only : (w : List ℕ) (i kind high low : ℕ) → Only w (constant_words w i kind high low) (3 * i) (3 * i + 3)
constant_only w i kind high low =
    only_trans (only_wider (3 * i) (3 * i + 3) (omega arith) (omega arith) (only_set w (3 * i) kind))
    (only_trans (only_wider (3 * i) (3 * i + 3) (omega arith) (omega arith) (only_set _ (3 * i + 1) high)) (only_wider (3 * i) (3 * i + 3) (omega arith) (omega arith) (only_set _ (3 * i + 2) low)))

constant_here : (w : List ℕ) (i kind high low : ℕ) → 3 * i + 3 ≤ length w → constant_at (constant_words w i kind high low) i ≡ constant_by kind high low
constant_here w i kind high low fits =
    let w1 = set w (3 * i) kind in
    let w2 = set w1 (3 * i + 1) high in
    let l1 = length-set w (3 * i) kind in
    let l2 = length-set w1 (3 * i + 1) high in
    let k = get_or-set_other w2 (3 * i + 2) (3 * i) low 0 (omega arith) ∙ get_or-set_other w1 (3 * i + 1) (3 * i) high 0 (omega arith) ∙ get_or-set_same w (3 * i) kind 0 (omega arith) in
    let h = get_or-set_other w2 (3 * i + 2) (3 * i + 1) low 0 (omega arith) ∙ get_or-set_same w1 (3 * i + 1) high 0 (omega arith) in
    let l = get_or-set_same w2 (3 * i + 2) low 0 (omega arith) in
    rw (k, h, l)

module _ (w : List ℕ) (p : Scope) (s : Step) (fine : Fine w p s) (shallow : p.depth ≤ 7) (x : ℕ) (on : s.outcome ≡ Ok x) where
  -- no index is left
  out_of_constants : (node : ℕ) (v : Constant) → s.constants ≡ 1024 → (ps : List Proto) → add_constant node v (state_of w p s ps) ≡ refused Constants node
  unfolding state_of
  out_of_constants node v h ps = constant_full node v (state_of w p s ps) (tab_length (constant_at w) s.constants ∙ h)

  pub constant_none : (node : ℕ) (v : Constant) → s.constants ≡ 1024 → Leaf w p s w p (refused_step s Constants node) a_constant (fwd_number (add_constant node v))
  constant_none node v h =
      record {
        moves = refused_moves s Constants node a_constant fine on;
        runs = λ ps. ran_out w w p p s (refused_step s Constants node) (add_constant node v) ps give x Constants node on (refused_outcome s Constants node on) (out_of_constants node v h ps);
        image = image_none p s (refused_step s Constants node) (refused_outcome s Constants node on);
      }

  module _ (kind high low : ℕ) (left : ¬ (s.constants ≡ 1024)) where
    abbrev w' : List ℕ
    w' = constant_words w s.constants kind high low

    few : s.constants < 1024
    few = omega (arith, fine.constants)

    only : Only w w' (3 * s.constants) (3 * s.constants + 3)
    only = constant_only w s.constants kind high low

    clear : Clear w p (3 * s.constants) (3 * s.constants + 3)
    clear = (λ c a b e. omega (arith, few), λ c a e. omega (arith, few))

    frames : Same w w' 3072 4168
    frames = above 3072 4168 (omega (arith, few)) only

    constants_more : tab (constant_at w') (s.constants + 1) ≡ tab (constant_at w) s.constants ++ (constant_by kind high low ∷ [])
    constants_more =
        ap (λ n. tab (constant_at w') n) (add-one s.constants) ∙ tab_suc (constant_at w') s.constants
        ∙ ap₂ (λ l y. l ++ (y ∷ [])) (constants_same w w' s.constants (below 0 (3 * s.constants) (omega arith) only))
        (constant_here w s.constants kind high low (omega (arith, few, fine.sound.long)))

    constant_state : (ps : List Proto) → state_of w' p (constant_more s) ps ≡ with_constant (state_of w p s ps) (constant_by kind high low)
    unfolding state_of
    constant_state ps =
        rw
        (constants_more, globals_same w w' s.globals (omega (arith, fine.globals, fine.constants)) (above 4168 4688 (omega (arith, few)) only), open_apart fine.sound shallow only clear frames, around_apart fine.sound shallow only clear frames)

    constant_next : (node : ℕ) (ps : List Proto) → add_constant node (constant_by kind high low) (state_of w p s ps) ≡ done s.constants (state_of w' p (constant_more s) ps)
    unfolding state_of
    constant_next node ps =
        let n = tab_length (constant_at w) s.constants in
        constant_done node (constant_by kind high low) (state_of w p s ps) (λ e. left (sym n ∙ e)) ∙ ap₂ (λ i t. done i t) n (sym (constant_state ps))

    constant_moves : Moves w p s w' p (constant_more s) a_constant
    constant_moves =
        let e = edge_apart fine.sound shallow only clear frames in
        let t = taken_apart fine.sound shallow only clear frames in
        record {
          fine = fine_step (constant_more s) (fine_words fine (sound_apart fine.sound shallow only clear frames) e) fine.nested (omega arith) (omega (arith, few)) (omega (arith, fine.globals)) refl (omega arith) (rw on few);
          kept = kept_apart fine.sound shallow only clear frames;
          back = λ g. g;
          used = promised s.outcome (λ g. record { words = omega arith; locals = omega arith; names = omega arith; registers = omega arith; visits = same_count (frames.same 3077 (omega arith) (omega arith)) });
          longer = omega arith;
          still = λ z. e;
        }

    pub constant_leaf : (node : ℕ) → Leaf w p s w' p (constant_more s) a_constant (fwd_number (add_constant node (constant_by kind high low)))
    constant_leaf node =
        record {
          moves = constant_moves;
          runs = λ ps. ran w w' p p s (constant_more s) (add_constant node (constant_by kind high low)) ps s.constants (λ a b. a) x x on on
              (code_same w w' (top_of p) s.pc (omega (arith, fine.room)) (above (top_of p - 2 * s.pc) (top_of p) (omega (arith, fine.room, few)) only)) refl (constant_next node ps);
          image = image_same p s (constant_more s) refl refl;
        }

-- ---- globals

only_half : (w : List ℕ) (k v : ℕ) → Only w (with_half w k v) (k / 2) (k / 2 + 1)
only_half w k v = record { length = length_half w k v; other = λ i h. word_other w k i v (λ e. let l = h (omega arith) in omega arith) }

module _ (w : List ℕ) (p : Scope) (s : Step) (fine : Fine w p s) (shallow : p.depth ≤ 7) (x : ℕ) (on : s.outcome ≡ Ok x) (room : s.globals ≤ s.constants) (name : ℕ) (small : name < 65536) where
  abbrev global_words : List ℕ
  global_words = with_half w (8336 + s.globals) name

  global_only : Only w global_words ((8336 + s.globals) / 2) ((8336 + s.globals) / 2 + 1)
  global_only = only_half w (8336 + s.globals) name

  within : s.globals ≤ 1024
  within = omega (arith, fine.constants)

  global_clear : Clear w p ((8336 + s.globals) / 2) ((8336 + s.globals) / 2 + 1)
  global_clear = (λ c a b e. omega (arith, within), λ c a e. omega (arith, within))

  global_frames : Same w global_words 3072 4168
  global_frames = below 3072 4168 (omega arith) global_only

  globals_more : stack (global_at global_words) (s.globals + 1) ≡ name ∷ stack (global_at w) s.globals
  globals_more =
      let fits : (8336 + s.globals) / 2 < length w = omega (arith, within, fine.sound.long) in
      ap (λ n. stack (global_at global_words) n) (add-one s.globals) ∙ stack_suc (global_at global_words) s.globals
      ∙ ap₂ (λ y l. y ∷ l) (half_same w (8336 + s.globals) name fits small) (stack_ext _ _ s.globals (λ i k. half_other w (8336 + s.globals) name fits small (8336 + i) (omega arith)))

  global_next : (ps : List Proto) → add_global name (state_of w p s ps) ≡ done tt (state_of global_words p (global_more s) ps)
  unfolding state_of add_global
  global_next ps =
      rw
      (globals_more, constants_same w global_words s.constants (below 0 (3 * s.constants) (omega (arith, fine.constants)) global_only), open_apart fine.sound shallow global_only global_clear global_frames, around_apart fine.sound shallow global_only global_clear global_frames)

  global_moves : Moves w p s global_words p (global_more s) a_global
  global_moves =
      let e = edge_apart fine.sound shallow global_only global_clear global_frames in
      let t = taken_apart fine.sound shallow global_only global_clear global_frames in
      record {
        fine = fine_step (global_more s) (fine_words fine (sound_apart fine.sound shallow global_only global_clear global_frames) e) fine.nested (omega arith) fine.constants (omega arith) refl (omega arith) fine.result;
        kept = kept_apart fine.sound shallow global_only global_clear global_frames;
        back = λ g. g;
        used = promised s.outcome (λ g. record { words = omega arith; locals = omega arith; names = omega arith; registers = omega arith; visits = same_count (global_frames.same 3077 (omega arith) (omega arith)) });
        longer = omega arith;
        still = λ z. e;
      }

  pub global_leaf : Leaf w p s global_words p (global_more s) a_global (fwd_unit (add_global name))
  global_leaf =
      record {
        moves = global_moves;
        runs = λ ps. ran w global_words p p s (global_more s) (add_global name) ps tt (λ a b. b) x x on on
            (code_same w global_words (top_of p) s.pc (omega (arith, fine.room)) (above (top_of p - 2 * s.pc) (top_of p) (omega (arith, fine.room, within)) global_only)) refl (global_next ps);
        image = image_same p s (global_more s) refl refl;
      }

pub global_here : (p : Scope) → global_scope p ≡ true → (p.depth ≡ 0) × (p.block ≡ 1)
global_here p e = cases (ℕ_discrete p.depth 0) (ℕ_discrete p.block 1)
  where
    cases : Dec (p.depth ≡ 0) → Dec (p.block ≡ 1) → (p.depth ≡ 0) × (p.block ≡ 1)
    cases (yes a) (yes b) = (a, b)
    cases (yes a) (no b) = absurd (let f : false ≡ true = sym (rw (eq-eqb p.depth 0 a, ne_eqb p.block 1 b)) ∙ e in let z : ◌≡◌ {A = ℕ} 0 1 = cc in omega arith)
    cases (no a) b = absurd (let f : false ≡ true = sym (rw (ne_eqb p.depth 0 a)) ∙ e in let z : ◌≡◌ {A = ℕ} 0 1 = cc in omega arith)

-- ---- questions

-- one open block: the words say where the main function's blocks begin
single_by : {X : Type 0} (f : ℕ → X) (b : ℕ) → is_single (span f 0 b) ≡ eqb b 1
single_by f zero = rw (span_none f 0 0 (omega arith)) (sym (ne_eqb 0 1 (omega arith)))
single_by f (suc zero) = rw (span_more f 0 0 (omega arith), span_none f 0 0 (omega arith))
single_by f (suc (suc b)) = rw (span_more f 0 (suc b) (omega arith), span_more f 0 b (omega arith), ne_eqb (suc (suc b)) 1 (omega arith))

pub global_is : (w : List ℕ) (n d e l : ℕ) → first w 0 ≡ 0 → is_global (open_at w n d e l) (around w n d) ≡ eqb d 0 && eqb e 1
unfolding open_at around
global_is w n zero e l h = rw h (single_by (block w n) e)
global_is w n (suc d) e l h = rw (ne_eqb (suc d) 0 (omega arith))

pub context_told : (w : List ℕ) (p : Scope) (s : Step) → Sound w p → Tells w p s (global_scope p) is_global_context
unfolding is_global_context state_of
context_told w p s h = told_of w p s (λ t. is_global t.current t.outer) (global_scope p) (λ ps. global_is w p.nodes p.depth p.block p.loops h.main)

-- what a range yields from its end on, and f makes of it
span_all : (f : ℕ → ℕ) (n : ℕ) → span f 0 n ≡ stack f n
span_all f zero = span_none f 0 0 (omega arith) ∙ sym (stack_none f)
span_all f (suc n) = span_more f 0 n (omega arith) ∙ ap (λ l. f n ∷ l) (span_all f n) ∙ sym (stack_suc f n)

pub latest : (f : ℕ → ℕ) (n : ℕ) → {s : _} → ◌≡◌ {A = Range ℕ} (rev_source s) (record { start = 0; end = n }) → YieldsList (rev_steps nat_range_steps_back) f s (stack f n)
latest f n {s} e =
    subst (YieldsList (rev_steps nat_range_steps_back) f s) (ap (λ (r : Range ℕ). span f r.start r.end) e ∙ span_all f n)
    (YieldsList-from_shown (rev_steps nat_range_steps_back) f (λ u. span f (rev_source u).start (rev_source u).end)
    (λ u t p. ap length (span_none f _ _ (omega (arith, p.1.0))))
    (λ u x t p. ap₂ (span f) (sym p.0) (p.1.2 ∙ add-one _) ∙ span_more f _ _ (omega (arith, p.0, p.1.0, p.1.2)) ∙ ap (λ y. f y ∷ span f (rev_source t).start (rev_source t).end) (sym p.1.1)) s)

-- a name among others
among_some : (name : ℕ) (l : List ℕ) (k : ℕ) → k < length l → get_or l k 0 ≡ name → among name l ≡ true
among_some name [] k h e = absurd (omega arith)
among_some name (x ∷ xs) zero h e = rw (eq-eqb name x (sym e))
among_some name (x ∷ xs) (suc k) h e = by (eqb name x) (among_some name xs k (omega arith) e)
  where
    by : (b : Bool) → among name xs ≡ true → b || among name xs ≡ true
    by true q = refl
    by false q = q

among_none : (name : ℕ) (l : List ℕ) → ((k : ℕ) → k < length l → get_or l k 0 ≢ name) → among name l ≡ false
among_none name [] h = refl
among_none name (x ∷ xs) h = rw (ne_eqb name x (λ e. h 0 (omega arith) (sym e))) (among_none name xs (λ k l. h (suc k) (omega arith)))

pub among_by : (name : ℕ) (l : List ℕ) (r : Bool) → MatchBool r ((k : ℕ) × (k < length l) × HoldsAt (λ x. x ≡ name) l k) (AllWithin (λ x. x ≢ name) l 0 (length l)) → r ≡ among name l
among_by name l true h = sym (among_some name l h.0 h.1 (h.2 0))
among_by name l false h = sym (among_none name l (λ k b. h k 0 (omega arith) b))

pub global_told : (w : List ℕ) (p : Scope) (s : Step) (name : ℕ) (r : Bool) → r ≡ among name (stack (global_at w) s.globals) → Tells w p s r (is_global_var name)
unfolding is_global_var state_of
global_told w p s name r e = told_of w p s (λ t. among name t.globals) r (λ ps. sym e)
