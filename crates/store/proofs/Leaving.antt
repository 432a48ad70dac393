-- A block is left: its locals are popped, and what is left is the scope around it. Around a step: what the block's locals took is given back.
use Rattle.std.proofs.Common.{◌≡◌, ℕ, suc, ◌+◌, ◌*◌, ◌%◌, ◌<◌, ◌≤◌, List, get_or, sym, refl, ap, ◌∙◌, add-one, arith}
use Rattle.store.specs.declared.Step.{Step}
use Rattle.store.specs.declared.Scope.{Scope}
use Rattle.store.specs.Table.{tab, span}
use Rattle.store.specs.Layout.{first_edge, first_local, first, edge, block, inst_at}
use Rattle.store.specs.Store.{top_of, open_at, around, state_of, run, deeper, Sound, Fine, Kept}
use Rattle.store.specs.Promise.{Cost, boxed, taken, Used, Moves, Popped}
use Rattle.store.proofs.Tables.{span_more}
use Rattle.store.proofs.Regions.{Same, locals_same, blocks_same, constants_same, globals_same, code_same, around_by, open_by}
use Rattle.store.proofs.Steady.{kept_by, taken_same}
use Rattle.store.proofs.Runs.{due, promised, goes, stays, ran}
use Rattle.meaning.specs.State.{Proto, done, and_then, ◌>>=◌, get, set_current, with_blocks, leave_block, rest}
use Rattle.std.specs.Prelude.{Ok, Err}
use Rattle.meaning.specs.Outcome.{Outcome}
use Rattle.forward.specs.Forward.{bind, fwd_unit}

-- ---- the words after popping

pub popped_same : {w w' : List ℕ} {p : Scope} → Popped w p w' → Same w w' 0 (top_of p)
popped_same g = record { same = λ i a b. g.other i (λ z. absurd (omega arith)) }

-- everything but the heads
module _ {w w' : List ℕ} (p : Scope) (h : Sound w (deeper p)) (g : Popped w p w') where
  low : Same w w' 0 (top_of p)
  low = popped_same g

  word : (i : ℕ) → i < top_of p → get_or w' i 0 ≡ get_or w i 0
  word i l = low.same i (omega arith) l

  pub popped_edge : (i : ℕ) → i ≤ p.block + 1 → edge w' p.nodes i ≡ edge w p.nodes i
  popped_edge i l = word (first_edge p.nodes + i) (omega (arith, h.blocks))

  pub popped_rises : edge w p.nodes p.block ≤ edge w p.nodes (p.block + 1)
  popped_rises = let e = ap (λ i. edge w p.nodes i) (add-one p.block) in omega (arith, h.sorted p.block (omega arith), e)

  frames : Same w w' 3072 4168
  frames = record { same = λ i a b. word i (omega arith) }

  pub popped_taken : (d : ℕ) → d ≤ 8 → taken w' d ≡ taken w d
  popped_taken d l = taken_same w w' d l frames

  pub popped_count : get_or w' 3077 0 ≡ get_or w 3077 0
  popped_count = word 3077 (omega arith)

  -- the scope around is sound
  pub sound_left : ((j : ℕ) → j ≤ p.depth → first w j < p.block) → Sound w' p
  sound_left starts =
      let d = h.deep in
      record {
        some = h.some;
        few = h.few;
        long = omega (arith, h.long, g.same);
        deep = d;
        blocks = omega (arith, h.blocks);
        loops = h.loops;
        sorted = λ i l. rw (popped_edge i (omega arith), popped_edge (suc i) (omega arith)) (h.sorted i (omega arith));
        main = word 3075 (omega arith) ∙ h.main;
        starts = λ j l. let a = starts j l in omega (arith, a, word (3075 + 8 * j) (omega arith));
        count = omega (arith, popped_edge p.block (omega arith), popped_rises, h.count);
        linked = g.linked;
      }

  pub popped_kept : (q : Scope) → q.nodes ≡ p.nodes → q.depth ≤ 8 → q.block ≤ p.block + 1 → Kept w q w'
  popped_kept q e d b = kept_by d g.same frames (λ i l. word (first_edge q.nodes + i) (omega (arith, h.blocks))) (λ i l. g.other i (λ z. omega arith))

  pub popped_code : (k : ℕ) → 2 * k ≤ top_of p → tab (inst_at w' (top_of p)) k ≡ tab (inst_at w (top_of p)) k
  popped_code k l = code_same w w' (top_of p) k l (record { same = λ i a b. word i b })

  -- the blocks of the scope around
  pub popped_blocks : first_local p.nodes + edge w p.nodes p.block ≤ top_of p → (a e : ℕ) → e ≤ p.block → span (block w' p.nodes) a e ≡ span (block w p.nodes) a e
  popped_blocks room a e le =
      blocks_same w w' p.nodes p.block (λ i y. h.sorted i (omega arith))
      (locals_same w w' p.nodes _ (omega (arith, popped_rises, h.count)) (record { same = λ i x y. word i (omega arith) }) (record { same = λ i x y. word i (omega arith) }))
      a e le
      (record { same = λ i x y. word i (omega (arith, h.blocks)) })

-- ---- a block around a step

left_used : {w w2 w3 : List ℕ} {p : Scope} {s r : Step} {u : Cost} → Sound w2 (deeper p) → Popped w2 p w3 → p.depth ≤ 8 → edge w3 p.nodes p.block ≡ edge w p.nodes p.block → Used w p s w2 (deeper p) r u → Used w p s w3 p r (boxed u)
left_used {w} {w2} {w3} {p} h g d e i =
    let t = popped_taken p h g p.depth d in
    let a = popped_rises p h g in
    let b = popped_edge p h g p.block (omega arith) in
    record { words = omega (arith, i.words); locals = omega (arith, i.registers); names = i.names; registers = omega (arith, i.registers); visits = ap (λ x. x % 4294967296) (popped_count p h g) ∙ i.visits }

pub left_moves : {w w2 w3 : List ℕ} {p : Scope} {s r : Step} {u : Cost} → Sound w p → edge w2 p.nodes p.block ≡ edge w p.nodes p.block → Moves w p s w2 (deeper p) r u → Popped w2 p w3 → Moves w p s w3 p r (boxed u)
left_moves {w} {w2} {w3} {p} {s} {r} {u} k e m g =
    let h = m.fine.sound in
    let d = k.deep in
    let b = popped_edge p h g p.block (omega arith) in
    let kept = popped_kept p h g (deeper p) refl d (omega arith) in
    record {
      fine =
          record {
            sound = sound_left p h g (λ j l. let a = k.starts j l in omega (arith, a, m.kept.firsts j l));
            nested = m.fine.nested;
            room = omega (arith, m.fine.room, popped_rises p h g, b);
            constants = m.fine.constants;
            globals = m.fine.globals;
            functions = m.fine.functions;
            written = m.fine.written;
            result = m.fine.result;
          };
      kept =
          record {
            same = g.same ∙ m.kept.same;
            firsts = λ j l. kept.firsts j l ∙ m.kept.firsts j l;
            saves = λ j l. kept.saves j l ∙ m.kept.saves j l;
            outer = λ j l. kept.outer j l ∙ m.kept.outer j l;
            edges = λ i l. kept.edges i (omega arith) ∙ m.kept.edges i l;
            offsets = λ i l. kept.offsets i l ∙ m.kept.offsets i l;
          };
      back = m.back;
      used = promised r.outcome (λ z. left_used h g d (b ∙ e) (due r.outcome m.used z));
      longer = m.longer;
      still = λ z. b ∙ e;
    }

-- the run: leave_block
module _ {w w' : List ℕ} {p : Scope} {r : Step} (fine : Fine w (deeper p) r) (g : Popped w p w') where
  room : first_local p.nodes + edge w p.nodes p.block ≤ top_of p
  room = omega (arith, popped_rises p fine.sound g, fine.room)

  left_open : p.depth ≤ 7 → open_at w' p.nodes p.depth p.block p.loops ≡ with_blocks (open_at w p.nodes p.depth (p.block + 1) p.loops) (rest (span (block w p.nodes) (first w p.depth) (p.block + 1)))
  unfolding open_at
  left_open deep =
      open_by w w' p.nodes p.depth p.block p.loops deep (frames p fine.sound g)
      ∙ rw (popped_blocks p fine.sound g room (first w p.depth) p.block (omega arith), add-one p.block, span_more (block w p.nodes) (first w p.depth) p.block (omega (arith, fine.sound.starts p.depth (omega arith))))

  pub left_around : p.depth ≤ 7 → around w' p.nodes p.depth ≡ around w p.nodes p.depth
  left_around deep = around_by w w' p.nodes p.depth (p.block + 1) (omega arith) fine.sound.starts (frames p fine.sound g) (λ a e l. popped_blocks p fine.sound g room a e (omega arith))

  left_state : p.depth ≤ 7 → (ps : List Proto) → leave_block (state_of w (deeper p) r ps) ≡ done tt (state_of w' p r ps)
  unfolding state_of open_at leave_block ◌>>=◌ and_then get set_current
  left_state deep ps =
      sym
      (rw
      (constants_same w w' r.constants (record { same = λ i a b. word p fine.sound g i (omega (arith, fine.constants)) }), globals_same w w' r.globals (omega (arith, fine.globals, fine.constants)) (record { same = λ i a b. word p fine.sound g i (omega arith) }), left_open deep, left_around deep))

  left_by : (o : Outcome) → r.outcome ≡ o → (ps : List Proto) → run w' p r ps ≡ bind (run w (deeper p) r ps) (fwd_unit leave_block)
  left_by (Err why) e ps = stays w w' (deeper p) p r r (fwd_unit leave_block) why.cause why.place e e ps
  left_by (Ok x) e ps =
      ran w w' (deeper p) p r r leave_block ps tt (λ a c. c) x x e e (popped_code p fine.sound g r.pc (omega (arith, fine.room))) refl (left_state (due r.outcome fine.nested (goes e)) ps)

  pub left_runs : (ps : List Proto) → run w' p r ps ≡ bind (run w (deeper p) r ps) (fwd_unit leave_block)
  left_runs = left_by r.outcome refl
