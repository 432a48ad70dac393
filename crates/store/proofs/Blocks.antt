-- Blocks are entered by a new edge, where the edge before stands again, and left by popping the locals of the innermost one.
use Rattle.std.proofs.Common.{◌≡◌, ℕ, suc, ◌+◌, ◌*◌, ◌<◌, ◌≤◌, List, [], ◌∷◌, length, get_or, set, sym, refl, ap, ◌∙◌, ap₂, add-one, arith, length-set, get_or-set_other, get_or-set_same}
use native.Mathlib.Decide.{dec_lt}
use Rattle.store.specs.declared.Step.{Step}
use Rattle.store.specs.declared.Scope.{Scope}
use Rattle.store.specs.Table.{tab, span}
use Rattle.store.specs.Layout.{first_edge, first_local, all_words, first, edge, local_at, block, inst_at}
use Rattle.store.specs.Store.{top_of, open_at, around, state_of, run, deeper, Linked, Sound, Fine, Kept}
use Rattle.store.specs.Promise.{nothing, Used, Moves, Leaf}
use Rattle.store.proofs.Tables.{span_more, span_none}
use Rattle.store.proofs.Regions.{Same, same_part, same_count, locals_same, blocks_same, linked_same, constants_same, globals_same, code_same, around_by, open_by}
use Rattle.store.proofs.Steady.{kept_by, taken_same}
use Rattle.store.proofs.Runs.{due, promised, goes, stays, ran}
use Rattle.meaning.specs.State.{Proto, done, and_then, ◌>>=◌, get, set_current, with_blocks, enter_block}
use Rattle.std.specs.Prelude.{Ok, Err}
use Rattle.meaning.specs.Outcome.{Outcome}
use Rattle.forward.specs.Forward.{bind, fwd_unit}

-- ---- a new edge: what lies from the globals on is the same but for it

pub record Opened (w w' : List ℕ) (p : Scope) : Type 0 where
  pub length : length w' ≡ length w
  pub here : edge w' p.nodes (suc p.block) ≡ edge w p.nodes p.block
  pub other : (i : ℕ) → 4168 ≤ i → ¬ (i ≡ 5709 + p.nodes + p.block) → get_or w' i 0 ≡ get_or w i 0
  pub firsts : (j : ℕ) → j ≤ p.depth → first w' j ≡ first w j

module _ {w w' : List ℕ} {p : Scope} (h : Sound w p) (lim : p.block < p.nodes + 10) (g : Opened w w' p) where
  registers_same : Same w w' 4688 (first_edge p.nodes)
  registers_same = record { same = λ i a b. g.other i (omega arith) (omega arith) }

  words_same : Same w w' (first_local p.nodes) (first_local p.nodes + edge w p.nodes p.block)
  words_same = record { same = λ i a b. g.other i (omega arith) (omega arith) }

  pub opened_edge : (i : ℕ) → i ≤ p.block → edge w' p.nodes i ≡ edge w p.nodes i
  opened_edge i l = g.other (first_edge p.nodes + i) (omega arith) (omega arith)

  pub opened_top : edge w' p.nodes (p.block + 1) ≡ edge w p.nodes p.block
  opened_top = ap (λ i. edge w' p.nodes i) (add-one p.block) ∙ g.here

  pub opened_blocks : (a e : ℕ) → e ≤ p.block → span (block w' p.nodes) a e ≡ span (block w p.nodes) a e
  opened_blocks a e le =
      blocks_same w w' p.nodes p.block h.sorted (locals_same w w' p.nodes _ h.count registers_same words_same) a e le (record { same = λ i x y. g.other i (omega arith) (omega arith) })

  -- the new block is empty
  pub opened_new : block w' p.nodes p.block ≡ []
  opened_new = rw g.here (span_none (local_at w' p.nodes) (edge w' p.nodes p.block) (edge w p.nodes p.block) (omega (arith, opened_edge p.block (omega arith))))

  pub opened_span : (a : ℕ) → a ≤ p.block → span (block w' p.nodes) a (p.block + 1) ≡ [] ∷ span (block w p.nodes) a p.block
  opened_span a l =
      ap (λ e. span (block w' p.nodes) a e) (add-one p.block)
      ∙ span_more (block w' p.nodes) a p.block l
      ∙ ap₂ (λ x y. x ∷ y) opened_new (opened_blocks a p.block (omega arith))

  pub opened_sound : (d l : ℕ) → d ≤ 8 → l ≤ p.nodes + 10 → ((j : ℕ) → j ≤ d → first w' j < p.block + 1) → Sound w' (record { nodes = p.nodes; depth = d; block = p.block + 1; loops = l; mode = p.mode; wide = p.wide })
  opened_sound d l dl ll st =
      record {
        some = h.some;
        few = h.few;
        long = omega (arith, h.long, g.length);
        deep = dl;
        blocks = omega arith;
        loops = ll;
        sorted = λ i x. rises i x (dec_lt i p.block);
        main = g.firsts 0 (omega arith) ∙ h.main;
        starts = st;
        count = omega (arith, opened_top, h.count);
        linked =
            linked_same w w' p.nodes p.block (p.block + 1) h.count registers_same
            (record { same = λ i a b. g.other i (omega arith) (omega arith) })
            words_same
            opened_top
            (λ e x y. older e x y (dec_lt e (p.block + 1)))
            h.linked;
      }
    where
      rises : (i : ℕ) → i < p.block + 1 → Dec (i < p.block) → edge w' p.nodes i ≤ edge w' p.nodes (suc i)
      rises i x (yes a) = rw (opened_edge i (omega arith), opened_edge (suc i) a) (h.sorted i a)
      rises i x (no a) = let e : i ≡ p.block = omega arith in rw e (omega (arith, opened_edge p.block (omega arith), g.here))

      -- the new edge is where the locals end
      older : (e : ℕ) → e ≤ p.block + 1 → edge w' p.nodes e < edge w p.nodes p.block → Dec (e < p.block + 1) → (e ≤ p.block) × (edge w' p.nodes e ≡ edge w p.nodes e)
      older e x y (yes a) = (omega arith, opened_edge e (omega arith))
      older e x y (no a) = let z : e ≡ p.block + 1 = omega arith in absurd (omega (arith, opened_top, ap (λ k. edge w' p.nodes k) z))

-- ---- enter_block

pub opened_by : (w : List ℕ) (p : Scope) → Sound w p → p.block < p.nodes + 10 → Opened w (set w (first_edge p.nodes + p.block + 1) (edge w p.nodes p.block)) p
opened_by w p h lim =
    let at : ℕ = first_edge p.nodes + p.block + 1 in
    let v : ℕ = edge w p.nodes p.block in
    let e : at ≡ first_edge p.nodes + suc p.block = omega arith in
    record {
      length = length-set w at v;
      here = ap (λ i. get_or (set w at v) i 0) (sym e) ∙ get_or-set_same w at v 0 (omega (arith, h.long));
      other = λ i a b. get_or-set_other w at i v 0 (λ z. b (omega arith));
      firsts = λ j l. get_or-set_other w at (3075 + 8 * j) v 0 (λ z. absurd (omega (arith, h.deep)));
    }

module _ (w w' : List ℕ) (p : Scope) (s : Step) (fine : Fine w p s) (lim : p.block < p.nodes + 10) (g : Opened w w' p) (low : Same w w' 0 4168) where
  frames : Same w w' 3072 4168
  frames = same_part 3072 4168 (omega arith) (omega arith) low

  block_moves : Moves w p s w' (deeper p) s nothing
  block_moves =
      let h = fine.sound in
      let e = opened_top h lim g in
      let d = h.deep in
      record {
        fine =
            record {
              sound = opened_sound h lim g p.depth p.loops d h.loops (λ j l. let x = h.starts j l in omega (arith, x, g.firsts j l));
              nested = fine.nested;
              room = omega (arith, e, fine.room);
              constants = fine.constants;
              globals = fine.globals;
              functions = fine.functions;
              written = fine.written;
              result = fine.result;
            };
        kept = kept_by d g.length frames (λ i l. opened_edge h lim g i (omega arith)) (λ i l. g.other i (omega arith) (omega arith));
        back = λ z. z;
        used = promised s.outcome (λ z. used);
        longer = omega arith;
        still = λ z. e;
      }
    where
      used : Used w p s w' (deeper p) s nothing
      used =
          let e = opened_top fine.sound lim g in
          let t = taken_same w w' p.depth fine.sound.deep frames in
          record { words = omega arith; locals = omega arith; names = omega arith; registers = omega arith; visits = same_count (frames.same 3077 (omega arith) (omega arith)) }

  block_open : p.depth ≤ 7 → open_at w' p.nodes p.depth (p.block + 1) p.loops ≡ with_blocks (open_at w p.nodes p.depth p.block p.loops) ([] ∷ span (block w p.nodes) (first w p.depth) p.block)
  unfolding open_at
  block_open deep =
      open_by w w' p.nodes p.depth (p.block + 1) p.loops deep frames
      ∙ rw (opened_span fine.sound lim g (first w p.depth) (omega (arith, fine.sound.starts p.depth (omega arith))))

  pub opened_around : p.depth ≤ 7 → around w' p.nodes p.depth ≡ around w p.nodes p.depth
  opened_around deep =
      around_by w w' p.nodes p.depth p.block (omega arith) fine.sound.starts frames (λ a e l. opened_blocks fine.sound lim g a e (omega arith))

  block_state : p.depth ≤ 7 → (ps : List Proto) → enter_block (state_of w p s ps) ≡ done tt (state_of w' (deeper p) s ps)
  unfolding state_of open_at enter_block ◌>>=◌ and_then get set_current
  block_state deep ps =
      sym
      (rw
      (constants_same w w' s.constants (same_part 0 (3 * s.constants) (omega arith) (omega (arith, fine.constants)) low), globals_same w w' s.globals (omega (arith, fine.globals, fine.constants)) (record { same = λ i a b. g.other i a (omega arith) }), block_open deep, opened_around deep))

  block_runs : (o : Outcome) → s.outcome ≡ o → (ps : List Proto) → run w' (deeper p) s ps ≡ bind (run w p s ps) (fwd_unit enter_block)
  block_runs (Err why) e ps = stays w w' p (deeper p) s s (fwd_unit enter_block) why.cause why.place e e ps
  block_runs (Ok x) e ps = ran w w' p (deeper p) s s enter_block ps tt (λ a c. c) x x e e code refl (block_state (due s.outcome fine.nested (goes e)) ps)
    where
      code : tab (inst_at w' (top_of p)) s.pc ≡ tab (inst_at w (top_of p)) s.pc
      code = code_same w w' (top_of p) s.pc (omega (arith, fine.room)) (record { same = λ i a b. g.other i (omega (arith, fine.room)) (omega (arith, fine.room)) })

  pub block_leaf : Leaf w p s w' (deeper p) s nothing (fwd_unit enter_block)
  block_leaf = record { moves = block_moves; runs = block_runs s.outcome refl; image = λ o ps i. i }

-- nothing outside the new block changed
pub block_kept : {w w' : List ℕ} {p : Scope} → Sound w p → p.block < p.nodes + 10 → Opened w w' p → Same w w' 0 4168 → Kept w (deeper p) w'
block_kept {w} {w'} {p} h lim g low =
    kept_by h.deep g.length (same_part 3072 4168 (omega arith) (omega arith) low) (λ i l. opened_edge h lim g i (omega arith)) (λ i l. g.other i (omega arith) (omega arith))

-- ---- leave_block

-- what is popped, by the words that the code reads
pub record Leaving (w : List ℕ) (p : Scope) : Type 0 where
  pub some : 1 ≤ p.nodes
  pub few : p.nodes ≤ 32768
  pub long : all_words p.nodes ≤ length w
  pub ends : get_or w (first_edge p.nodes + p.block + 1) 0 ≡ edge w p.nodes (p.block + 1)
  pub rises : edge w p.nodes p.block ≤ get_or w (first_edge p.nodes + p.block + 1) 0
  pub fits : get_or w (first_edge p.nodes + p.block + 1) 0 ≤ p.nodes + 2040
  pub linked : Linked w p.nodes (p.block + 1)

pub leaving : {w : List ℕ} {p : Scope} → Sound w (deeper p) → Leaving w p
leaving {w} {p} h =
    let e : get_or w (first_edge p.nodes + p.block + 1) 0 ≡ edge w p.nodes (p.block + 1) = ap (λ i. get_or w i 0) (omega arith) in
    let f : get_or w (first_edge p.nodes + p.block + 1) 0 ≡ edge w p.nodes (suc p.block) = ap (λ i. get_or w i 0) (omega arith) in
    record {
      some = h.some;
      few = h.few;
      long = h.long;
      ends = e;
      rises = rw f (h.sorted p.block (omega arith));
      fits = rw e h.count;
      linked = h.linked;
    }
