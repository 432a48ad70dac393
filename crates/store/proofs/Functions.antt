-- A function inside another: its frame and its first block are set up.
use Rattle.std.proofs.Common.{◌≡◌, ℕ, suc, ◌+◌, ◌*◌, ◌%◌, ◌<◌, ◌≤◌, List, ◌∷◌, get_or, set, sym, refl, ap, ◌∙◌, ap₂, add-one, arith, length-set, get_or-set_other, get_or-set_same, le-leb}
use native.Mathlib.Decide.{dec_lt}
use borrow.Author.Tests.{lt-leb}
use Rattle.store.specs.declared.Step.{Step}
use Rattle.store.specs.declared.Scope.{Scope}
use Rattle.store.specs.Table.{tab}
use Rattle.store.specs.Layout.{first_edge, registers, held, first, saved, edge, block}
use Rattle.store.specs.Store.{top_of, open_at, around, state_of, run, goes_on, while_going, refused_by, refused_step, inner, Sound, Fine, Kept}
use Rattle.store.specs.Promise.{nothing, taken, Moves, Leaf}
use Rattle.store.specs.Opening.{Framed, Enters}
use Rattle.store.proofs.Tables.{span_none}
use Rattle.store.proofs.Regions.{same_count, constants_same, globals_same, code_same, captures_same, around_same, around_length, below_256}
use Rattle.store.proofs.Steady.{taken_by}
use Rattle.store.proofs.Runs.{promised, stays, ran, ran_out}
use Rattle.store.proofs.Refusals.{refused_outcome}
use Rattle.store.proofs.Compose.{refused_leaf}
use Rattle.store.proofs.Blocks.{Opened, opened_edge, opened_top, opened_blocks, opened_span, opened_sound}
use Rattle.meaning.specs.State.{Proto, refused, done, refuse, if_then, fresh, enter_function}
use Rattle.meaning.specs.declared.Cause.{Cause}
use Rattle.meaning.specs.declared.Cause.TheVariants.{Nesting}
use Rattle.std.specs.Prelude.{Ok, Err}
use Rattle.meaning.specs.Outcome.{Outcome}
use Rattle.forward.specs.Forward.{bind, fwd_unit, add_none}

-- ---- a function is entered: a frame, then an edge

-- nothing is due of a step that is refused now
never_due : (o : Outcome) (k : Cause) (n : ℕ) (P : Type 0) → while_going (refused_by o k n) P
never_due (Ok x) k n P = tt
never_due (Err why) k n P = tt

module _ (w w1 : List ℕ) (p : Scope) (s : Step) (name : ℕ) (fine : Fine w p s) (deep : p.depth ≤ 7) (lim : p.block < p.nodes + 10) (framed : Framed w (p.depth + 1) name p.block p.loops w1) where
  abbrev pub entered_words : List ℕ
  entered_words = set w1 (first_edge p.nodes + p.block + 1) (edge w1 p.nodes p.block)

  abbrev w' : List ℕ
  w' = entered_words

  -- below the edges
  low : (i : ℕ) → i < 5708 → get_or w' i 0 ≡ get_or w1 i 0
  low i l = get_or-set_other w1 (first_edge p.nodes + p.block + 1) i (edge w1 p.nodes p.block) 0 (omega arith)

  -- all but the frame
  word : (i : ℕ) → i < 5708 → (3080 + 8 * p.depth ≤ i → 3085 + 8 * p.depth ≤ i) → get_or w' i 0 ≡ get_or w i 0
  word i l h = low i l ∙ framed.other i (λ z. let k = h (omega arith) in omega arith)

  entered_opened : Opened w w' p
  entered_opened =
      let at : ℕ = first_edge p.nodes + p.block + 1 in
      let v : ℕ = edge w1 p.nodes p.block in
      let e : at ≡ first_edge p.nodes + suc p.block = omega arith in
      record {
        length = length-set w1 at v ∙ framed.same;
        here =
            ap (λ i. get_or w' i 0) (sym e)
            ∙ get_or-set_same w1 at v 0 (omega (arith, fine.sound.long, framed.same))
            ∙ framed.other (first_edge p.nodes + p.block) (λ z. omega arith);
        other = λ i a b. get_or-set_other w1 at i v 0 (λ z. b (omega arith)) ∙ framed.other i (λ z. omega arith);
        firsts = λ j l. word (3075 + 8 * j) (omega arith) (λ z. absurd (omega arith));
      }

  outer_registers : (j : ℕ) → j ≤ p.depth → registers w' j ≡ registers w j
  outer_registers j l = ap (λ x. x % 256) (word (3073 + 8 * j) (omega arith) (λ z. absurd (omega arith)))

  taken_outer : taken w' p.depth ≡ taken w p.depth
  taken_outer = taken_by w w' p.depth outer_registers

  -- the new frame
  new_registers : registers w' (suc p.depth) ≡ 0
  new_registers = ap (λ j. registers w' j) (sym (add-one p.depth)) ∙ ap (λ x. x % 256) (low (3073 + 8 * (p.depth + 1)) (omega arith)) ∙ framed.registers_none

  new_first : first w' (suc p.depth) ≡ p.block
  new_first = ap (λ j. first w' j) (sym (add-one p.depth)) ∙ low (3075 + 8 * (p.depth + 1)) (omega arith) ∙ framed.first_is

  new_saved : saved w' (suc p.depth) ≡ p.loops
  new_saved = ap (λ j. saved w' j) (sym (add-one p.depth)) ∙ low (3076 + 8 * (p.depth + 1)) (omega arith) ∙ framed.saved_is

  taken_new : taken w' (p.depth + 1) ≡ taken w p.depth
  unfolding taken
  taken_new = ap (λ d. taken w' d) (add-one p.depth) ∙ omega (arith, new_registers, taken_outer)

  entered_sound : Sound w' (inner p)
  entered_sound = opened_sound fine.sound lim entered_opened (p.depth + 1) 0 (omega arith) (omega arith) (λ j l. starts j l (dec_lt p.depth j))
    where
      starts : (j : ℕ) → j ≤ p.depth + 1 → Dec (p.depth < j) → first w' j < p.block + 1
      starts j l (yes a) = let e : j ≡ suc p.depth = omega arith in rw e (omega (arith, new_first))
      starts j l (no a) = omega (arith, fine.sound.starts j (omega arith), entered_opened.firsts j (omega arith))

  entered_kept : Kept w p w'
  entered_kept =
      record {
        same = entered_opened.length;
        firsts = entered_opened.firsts;
        saves = λ j l. word (3076 + 8 * j) (omega arith) (λ z. absurd (omega arith));
        outer = λ j l. outer_registers j (omega arith);
        edges = λ i l. opened_edge fine.sound lim entered_opened i (omega arith);
        offsets = λ i l. entered_opened.other i (omega arith) (omega arith);
      }

  -- the same step, or the refusal of a ninth
  entered_moves : (r : Step) → while_going r.outcome (p.depth + 1 ≤ 7) → Fine w p r → r.pc ≡ s.pc → r.constants ≡ s.constants → r.globals ≡ s.globals → (goes_on r.outcome → goes_on s.outcome) → Moves w p s w' (inner p) r nothing
  entered_moves r nested h ec ek eg back =
      let e = opened_top fine.sound lim entered_opened in
      record {
        fine = record { sound = entered_sound; nested = nested; room = omega (arith, h.room); constants = h.constants; globals = h.globals; functions = h.functions; written = h.written; result = h.result };
        kept = entered_kept;
        back = back;
        used = promised r.outcome (λ z. let t = taken_new in record { words = omega arith; locals = omega arith; names = omega arith; registers = omega arith; visits = same_count (word 3077 (omega arith) (λ z. absurd (omega arith))) });
        longer = omega arith;
        still = λ z. e;
      }

  -- ---- what the words stand for

  new_open : open_at w' p.nodes (p.depth + 1) (p.block + 1) 0 ≡ fresh name
  unfolding open_at tab
  new_open =
      let n = low (3072 + 8 * (p.depth + 1)) (omega arith) ∙ framed.name_is in
      let r = ap (λ x. x % 256) (low (3073 + 8 * (p.depth + 1)) (omega arith)) ∙ framed.registers_none in
      let h = ap (λ x. x % 256) (low (3074 + 8 * (p.depth + 1)) (omega arith)) ∙ framed.held_none in
      let f = low (3075 + 8 * (p.depth + 1)) (omega arith) ∙ framed.first_is in
      rw (n, r, h, f, opened_span fine.sound lim entered_opened p.block (omega arith), span_none (block w p.nodes) p.block p.block (omega arith))

  outer_open : open_at w' p.nodes p.depth p.block p.loops ≡ open_at w p.nodes p.depth p.block p.loops
  unfolding open_at
  outer_open =
      rw
      (word (3072 + 8 * p.depth) (omega arith) (λ z. absurd (omega arith)), word (3073 + 8 * p.depth) (omega arith) (λ z. absurd (omega arith)), word (3074 + 8 * p.depth) (omega arith) (λ z. absurd (omega arith)), word (3075 + 8 * p.depth) (omega arith) (λ z. absurd (omega arith)), opened_blocks fine.sound lim entered_opened (first w p.depth) p.block (omega arith), captures_same w w' p.depth (held w p.depth) (omega (arith, below_256 (get_or w (3074 + 8 * p.depth) 0))) (record { same = λ i a b. word i (omega arith) (λ z. omega arith) }))

  outer_around : around w' p.nodes p.depth ≡ around w p.nodes p.depth
  outer_around =
      around_same w w' p.nodes p.depth
      (record {
        frames = λ j k a b. word (3072 + 8 * j + k) (omega arith) (λ z. absurd (omega arith));
        firsts = entered_opened.firsts;
        saves = λ j a. word (3076 + 8 * j) (omega arith) (λ z. absurd (omega arith));
        captures = λ j a. record { same = λ i b c. word i (omega arith) (λ z. omega arith) };
        blocks = λ j a. opened_blocks fine.sound lim entered_opened (first w j) (first w (suc j)) (omega (arith, fine.sound.starts (suc j) a));
      })

  new_around : around w' p.nodes (p.depth + 1) ≡ open_at w p.nodes p.depth p.block p.loops ∷ around w p.nodes p.depth
  unfolding around
  new_around =
      ap (λ d. around w' p.nodes d) (add-one p.depth)
      ∙ ap₂ (λ e l. open_at w' p.nodes p.depth e l ∷ around w' p.nodes p.depth) new_first new_saved
      ∙ ap₂ (λ f fs. f ∷ fs) outer_open outer_around

  entered_state : p.depth < 7 → (node : ℕ) (ps : List Proto) → enter_function node name (state_of w p s ps) ≡ done tt (state_of w' (inner p) s ps)
  unfolding state_of enter_function if_then
  entered_state l node ps =
      rw
      (around_length w p.nodes p.depth, lt-leb 7 p.depth l, new_open, new_around, constants_same w w' s.constants (record { same = λ i a b. word i (omega (arith, fine.constants)) (λ z. absurd (omega (arith, fine.constants))) }), globals_same w w' s.globals (omega (arith, fine.globals, fine.constants)) (record { same = λ i a b. word i (omega arith) (λ z. omega arith) }))

  too_deep : p.depth ≡ 7 → (node : ℕ) (ps : List Proto) → enter_function node name (state_of w p s ps) ≡ refused Nesting node
  unfolding state_of enter_function if_then refuse
  too_deep e node ps = rw (around_length w p.nodes p.depth, le-leb 7 p.depth (omega arith))

  -- ---- both outcomes

  entered_in : p.depth < 7 → (node : ℕ) → Leaf w p s w' (inner p) s nothing (fwd_unit (enter_function node name))
  entered_in l node =
      record { moves = entered_moves s (promised s.outcome (λ z. omega arith)) fine refl refl refl (λ z. z); runs = runs s.outcome refl; image = λ o ps i. i }
    where
      runs : (o : Outcome) → s.outcome ≡ o → (ps : List Proto) → run w' (inner p) s ps ≡ bind (run w p s ps) (fwd_unit (enter_function node name))
      runs (Err why) e ps = stays w w' p (inner p) s s (fwd_unit (enter_function node name)) why.cause why.place e e ps
      runs (Ok x) e ps =
          ran w w' p (inner p) s s (enter_function node name) ps tt (λ a c. c) x x e e
          (code_same w w' (top_of p) s.pc (omega (arith, fine.room)) (record { same = λ i a b. entered_opened.other i (omega (arith, fine.room)) (omega (arith, fine.room)) })) refl (entered_state l node ps)

  entered_out : p.depth ≡ 7 → (node : ℕ) → Leaf w p s w' (inner p) (refused_step s Nesting node) nothing (fwd_unit (enter_function node name))
  entered_out e node =
      let out = refused_leaf s Nesting node nothing fine in
      record { moves = entered_moves (refused_step s Nesting node) (never_due s.outcome Nesting node _) out.moves.fine refl refl refl out.moves.back; runs = runs s.outcome refl; image = out.image }
    where
      runs : (o : Outcome) → s.outcome ≡ o → (ps : List Proto) → run w' (inner p) (refused_step s Nesting node) ps ≡ bind (run w p s ps) (fwd_unit (enter_function node name))
      runs (Err why) on ps = stays w w' p (inner p) s (refused_step s Nesting node) (fwd_unit (enter_function node name)) why.cause why.place on (rw on) ps
      runs (Ok x) on ps = ran_out w w' p (inner p) s (refused_step s Nesting node) (enter_function node name) ps add_none x Nesting node on (refused_outcome s Nesting node on) (too_deep e node ps)

  enters_by : (r : Step) (node : ℕ) → r.pc ≡ s.pc → Leaf w p s w' (inner p) r nothing (fwd_unit (enter_function node name)) → Enters w p s w' r node name
  enters_by r node e leaf =
      record { leaf = leaf; code = e; first_is = new_first; saved_is = new_saved; own = outer_registers p.depth (omega arith); start = opened_edge fine.sound lim entered_opened p.block (omega arith) }

  pub enters_in : ¬ (p.depth ≡ 7) → (node : ℕ) → Enters w p s w' s node name
  enters_in ne node = enters_by s node refl (entered_in (omega arith) node)

  pub enters_out : p.depth ≡ 7 → (node : ℕ) → Enters w p s w' (refused_step s Nesting node) node name
  enters_out e node = enters_by (refused_step s Nesting node) node refl (entered_out e node)
