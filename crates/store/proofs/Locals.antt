-- A local more in the innermost block: its register, the head of its bucket, its word with link and name, the edge.
use Rattle.std.proofs.Common.{◌≡◌, ℕ, suc, ◌+◌, ◌-◌, ◌*◌, ◌/◌, ◌%◌, ◌<◌, ◌≤◌, List, ◌∷◌, length, get_or, set, sym, refl, ap, ◌∙◌, ap₂, add-one, arith, length-set, get_or-set_other, get_or-set_same}
use native.Mathlib.Decide.{dec_lt, ℕ_discrete}
use Rattle.store.specs.declared.Step.{Step}
use Rattle.store.specs.declared.Scope.{Scope}
use Rattle.store.specs.Half.{half, with_half}
use Rattle.store.specs.Table.{tab, span}
use Rattle.store.specs.Layout.{first_edge, first_local, first_head, beyond, all_words, first, edge, local_at, block, latest, link, head, inst_at, top}
use Rattle.store.specs.Store.{top_of, open_at, around, state_of, Leads, Linked, Sound, Fine, Kept}
use Rattle.store.specs.Promise.{a_local, Roomy, Used, Moves, Leaf, Latest, Unlinked}
use Rattle.store.proofs.Tables.{span_more, span_ext}
use Rattle.store.proofs.Halves.{half_same, half_other, half_apart, word_other, length_half}
use Rattle.store.proofs.Regions.{Same, same_count, Locals, blocks_same, latest_same, leads_same, edges_below, constants_same, globals_same, code_same, around_by, open_by}
use Rattle.store.proofs.Steady.{kept_by, taken_same}
use Rattle.store.proofs.Runs.{promised, ran}
use Rattle.store.proofs.Compose.{taken_few}
use Rattle.store.proofs.Links.{latest_hit, latest_miss}
use Rattle.meaning.specs.State.{Local, Proto, done, and_then, ◌>>=◌, get, set_current, with_local, with_blocks, allocate_register}
use Rattle.std.specs.Prelude.{Ok}
use Rattle.forward.specs.Forward.{fwd_unit}

-- local i is pushed as l; its block's edge stands at `at`
pub record Pushed (w w' : List ℕ) (n at i : ℕ) (l : Local) : Type 0 where
  pub length : length w' ≡ length w
  -- all but registers of locals, the edge, the locals' words and the heads
  pub other : (j : ℕ) → (4688 ≤ j → first_edge n ≤ j) → ¬ (j ≡ at) → (first_local n ≤ j → first_local n + i < j) → (top n ≤ j → beyond n ≤ j) → get_or w' j 0 ≡ get_or w j 0
  pub edge : get_or w' at 0 ≡ i + 1
  pub local : local_at w' n i ≡ l
  pub older : Locals w w' n i

-- it is linked into bucket b
pub record Hung (w w' : List ℕ) (n i b : ℕ) : Type 0 where
  pub link_here : link w' n i ≡ head w n b
  pub link_other : (j : ℕ) → j < i → link w' n j ≡ link w n j
  pub head_here : head w' n b ≡ i + 1
  pub head_other : (c : ℕ) → c < 10 * n → ¬ (c ≡ b) → head w' n c ≡ head w n c

-- the four stores: the register, the head, the word, the edge
module _ (w : List ℕ) (n at i b name register : ℕ) (long : all_words n ≤ length w) (few : i ≤ n + 2040) (small : n ≤ 32768) (edges : first_edge n ≤ at) (below : at < first_local n) (room : first_local n + i < top n) (in-range : b < 10 * n) (named : name < 65536) (taken : register < 255) where
  abbrev x : ℕ
  x = head w n b * 65536 + name

  abbrev w1 : List ℕ
  w1 = with_half w (9376 + i) register

  abbrev w2 : List ℕ
  w2 = with_half w1 (first_head n + b) (i + 1)

  abbrev w3 : List ℕ
  w3 = set w2 (first_local n + i) x

  abbrev pub w4 : List ℕ
  w4 = set w3 at (i + 1)

  l1 : length w1 ≡ length w
  l1 = length_half w (9376 + i) register

  l2 : length w2 ≡ length w
  l2 = length_half w1 (first_head n + b) (i + 1) ∙ l1

  l3 : length w3 ≡ length w
  l3 = length-set w2 (first_local n + i) x ∙ l2

  -- a half of registers or heads: the last two stores are apart from it
  last_two : (k : ℕ) → ¬ (k / 2 ≡ at) → ¬ (k / 2 ≡ first_local n + i) → half w4 k ≡ half w2 k
  last_two k a c = half_apart w3 at (i + 1) k (λ e. a (sym e)) ∙ half_apart w2 (first_local n + i) x k (λ e. c (sym e))

  -- a register's half: the head's is apart from it too
  register_half : (j : ℕ) → j ≤ i → half w4 (9376 + j) ≡ half w1 (9376 + j)
  register_half j l = last_two (9376 + j) (omega arith) (omega arith) ∙ half_other w1 (first_head n + b) (i + 1) (omega (arith, l1)) (omega arith) (9376 + j) (omega arith)

  -- a head's half
  head_half : (c : ℕ) → c < 10 * n → half w4 (first_head n + c) ≡ half w2 (first_head n + c)
  head_half c l = last_two (first_head n + c) (omega arith) (omega arith)

  -- a word that is none of the last two
  word : (j : ℕ) → ¬ (j ≡ at) → ¬ (j ≡ first_local n + i) → ¬ (j ≡ (first_head n + b) / 2) → ¬ (j ≡ (9376 + i) / 2) → get_or w4 j 0 ≡ get_or w j 0
  word j a c e f = get_or-set_other w3 at j (i + 1) 0 a ∙ get_or-set_other w2 (first_local n + i) j x 0 c ∙ word_other w1 (first_head n + b) j (i + 1) e ∙ word_other w (9376 + i) j register f

  word_here : get_or w4 (first_local n + i) 0 ≡ x
  word_here = get_or-set_other w3 at (first_local n + i) (i + 1) 0 (omega arith) ∙ get_or-set_same w2 (first_local n + i) x 0 (omega (arith, l2))

  word_older : (j : ℕ) → j < i → get_or w4 (first_local n + j) 0 ≡ get_or w (first_local n + j) 0
  word_older j l = word (first_local n + j) (omega arith) (omega arith) (omega arith) (omega arith)

  pub pushed_by : Pushed w w4 n at i (record { name = name; register = register })
  pushed_by =
      record {
        length = length-set w3 at (i + 1) ∙ l3;
        other = λ j a c e f.
            word j c (λ z. let y = e (omega arith) in omega arith) (λ z. let y = f (omega arith) in omega arith) (λ z. let y = a (omega arith) in omega arith);
        edge = get_or-set_same w3 at (i + 1) 0 (omega (arith, l3));
        local = ap₂ (λ y z. record { name = y; register = z }) name_is register_is;
        older = record { same = λ j l. rw (word_older j l, register_half j (omega arith), half_other w (9376 + i) register (omega arith) (omega arith) (9376 + j) (omega arith)) };
      }
    where
      name_is : get_or w4 (first_local n + i) 0 % 65536 ≡ name
      name_is = omega (arith, word_here)

      register_is : half w4 (9376 + i) % 255 ≡ register
      register_is = omega (arith, register_half i (omega arith), half_same w (9376 + i) register (omega arith) (omega arith))

  pub hung_by : Hung w w4 n i b
  hung_by =
      record {
        link_here = omega (arith, word_here);
        link_other = λ j l. ap (λ y. y / 65536) (word_older j l);
        head_here = head_half b in-range ∙ half_same w1 (first_head n + b) (i + 1) (omega (arith, l1)) (omega arith);
        head_other = λ c l ne.
            head_half c l
            ∙ half_other w1 (first_head n + b) (i + 1) (omega (arith, l1)) (omega arith) (first_head n + c) (omega arith)
            ∙ half_other w (9376 + i) register (omega arith) (omega arith) (first_head n + c) (omega arith);
      }

-- ---- the links

module _ (w w' : List ℕ) (n k b : ℕ) (l : Local) (blocks : k ≤ n + 10) (range : b < 10 * n) (bx : l.name % (10 * n) ≡ b) (g : Pushed w w' n (first_edge n + k) (edge w n k) l) (hung : Hung w w' n (edge w n k) b) (h : Linked w n k) where
  lo : Locals w w' n (edge w n k)
  lo = g.older

  here : (local_at w' n (edge w n k)).name % (10 * n) ≡ b
  here = ap (λ y. y.name % (10 * n)) g.local ∙ bx

  one_more : edge w' n k ≡ suc (edge w n k)
  one_more = g.edge ∙ add-one (edge w n k)

  -- the edges of the locals that were there before
  older : (e : ℕ) → e ≤ k → edge w' n e < edge w n k → Dec (e < k) → (e ≤ k) × (edge w' n e ≡ edge w n e)
  older e l m (yes a) = (l, g.other (first_edge n + e) (λ z. omega arith) (omega arith) (λ z. absurd (omega arith)) (λ z. absurd (omega arith)))
  older e l m (no a) = let z : e ≡ k = omega arith in absurd (omega (arith, one_more, ap (λ y. edge w' n y) z))

  latest_old : (c : ℕ) → latest w' n c (edge w n k) ≡ latest w n c (edge w n k)
  latest_old c = latest_same w w' n c (edge w n k) lo

  pub linked_push : Linked w' n k
  linked_push = record { links = λ j l. link_at j l (ℕ_discrete j (edge w n k)); heads = λ c l. head_at c l (ℕ_discrete c b) }
    where
      link_at : (j : ℕ) → j < edge w' n k → Dec (j ≡ edge w n k) → Leads w' n k j
      link_at j l (no e) =
          let m : j < edge w n k = omega (arith, one_more) in
          leads_same w w' n k k lo (λ e y z. older e y z (dec_lt e k)) j m (hung.link_other j m) (λ i y s. omega (arith, s.inside, one_more)) (h.links j m)
      link_at j l (yes e) =
          rw e
          (record {
            back = edge w n k;
            before = omega arith;
            within = λ q x y. y;
            shadowed = λ i x y z. absurd (omega arith);
            leads = hung.link_here ∙ h.heads b range ∙ sym (ap (λ y. latest w' n y (edge w n k)) here ∙ latest_old b);
          })

      head_at : (c : ℕ) → c < 10 * n → Dec (c ≡ b) → head w' n c ≡ latest w' n c (edge w' n k)
      head_at c l (yes e) = rw (one_more, e) (hung.head_here ∙ add-one (edge w n k) ∙ sym (latest_hit w' n b (edge w n k) here))
      head_at c l (no e) = rw one_more (hung.head_other c l e ∙ h.heads c l ∙ sym (latest_miss w' n c (edge w n k) (λ z. e (sym z ∙ here)) ∙ latest_old c))

-- the links alone change once more
pub pushed_then : {w w1 w' : List ℕ} {p : Scope} {i : ℕ} {l : Local} → p.block ≤ p.nodes + 10 → Pushed w w1 p.nodes (first_edge p.nodes + p.block) i l → Unlinked w1 p w' → Pushed w w' p.nodes (first_edge p.nodes + p.block) i l
pushed_then {p = p} {i = i} blocks g u =
    record {
      length = u.same ∙ g.length;
      other = λ j a c e f. u.other j (λ z. omega (arith, e z, g.edge)) ∙ g.other j a c e f;
      edge = u.other (first_edge p.nodes + p.block) (λ z. absurd (omega arith)) ∙ g.edge;
      local = u.locals i (omega (arith, g.edge)) ∙ g.local;
      older = record { same = λ j y. u.locals j (omega (arith, g.edge)) ∙ g.older.same j y };
    }

-- ---- the blocks: the innermost has one local more, in front

pub block_pushed : (w w' : List ℕ) (n b : ℕ) → ((i : ℕ) → i < suc b → edge w n i ≤ edge w n (suc i)) → Same w w' (first_edge n) (first_edge n + suc b) → Locals w w' n (edge w n (suc b)) → edge w' n (suc b) ≡ suc (edge w n (suc b)) → (l : Local)
    → local_at w' n (edge w n (suc b)) ≡ l → (a : ℕ) → a < suc b → span (block w' n) a (suc b) ≡ with_local (span (block w n) a (suc b)) l
block_pushed w w' n b sorted ed lo more l here a h =
    let e0 : edge w' n b ≡ edge w n b = ed.same (first_edge n + b) (omega arith) (omega arith) in
    let le : edge w n b ≤ edge w n (suc b) = sorted b (omega arith) in
    let old : span (local_at w' n) (edge w n b) (edge w n (suc b)) ≡ span (local_at w n) (edge w n b) (edge w n (suc b)) = span_ext _ _ (edge w n b) (edge w n (suc b)) (λ i x y. lo.same i y) in
    let new : block w' n b ≡ l ∷ block w n b = rw (e0, more, span_more (local_at w' n) (edge w n b) (edge w n (suc b)) le, here, old) in
    let rest : span (block w' n) a b ≡ span (block w n) a b = blocks_same w w' n (suc b) sorted lo a b (omega arith) (record { same = λ i x y. ed.same i x (omega arith) }) in
    rw (span_more (block w' n) a b (omega arith), span_more (block w n) a b (omega arith), new, rest)

-- ---- the whole step

-- what the registers pay for
pub local_room : {w : List ℕ} {p : Scope} {s : Step} → p.depth ≤ 7 → Roomy w p s 0 1 1 → (5725 + 2 * p.nodes + 2 * s.pc + edge w p.nodes p.block ≤ top_of p) × (edge w p.nodes p.block + 1 ≤ p.nodes + 2040)
local_room {w} {p} {s} deep room = let t = taken_few w p.depth in (omega (arith, room.words), omega (arith, room.locals))

module _ (w w' : List ℕ) (p : Scope) (s : Step) (l : Local) (fine : Fine w p s) (deep : p.depth ≤ 7) (room : Roomy w p s 0 1 1) (g : Pushed w w' p.nodes (first_edge p.nodes + p.block) (edge w p.nodes p.block) l) (linked : Linked w' p.nodes p.block) where
  low_other : (j : ℕ) → j < 4688 → get_or w' j 0 ≡ get_or w j 0
  low_other j m = g.other j (λ z. omega arith) (omega arith) (λ z. absurd (omega arith)) (λ z. absurd (omega arith))

  firsts : (j : ℕ) → j ≤ p.depth → first w' j ≡ first w j
  firsts j l = low_other (3075 + 8 * j) (omega arith)

  edges : Same w w' (first_edge p.nodes) (first_edge p.nodes + p.block)
  edges = let k = fine.sound.blocks in record { same = λ j a c. g.other j (λ z. omega arith) (omega arith) (λ z. absurd (omega arith)) (λ z. absurd (omega arith)) }

  top_edge : edge w' p.nodes p.block ≡ suc (edge w p.nodes p.block)
  top_edge = g.edge ∙ add-one (edge w p.nodes p.block)

  frames : Same w w' 3072 4168
  frames = record { same = λ j a b. low_other j (omega arith) }

  local_kept : Kept w p w'
  local_kept =
      let k = fine.sound.blocks in
      let r = local_room deep room in
      kept_by (omega arith) g.length frames (λ i l. edges.same (first_edge p.nodes + i) (omega arith) (omega arith)) (λ i l. g.other i (λ z. omega arith) (omega arith) (λ z. omega arith) (λ z. l))

  pub local_sound : Sound w' p
  local_sound =
      let h = fine.sound in
      let r = local_room deep room in
      record {
        some = h.some;
        few = h.few;
        long = omega (arith, h.long, g.length);
        deep = h.deep;
        blocks = h.blocks;
        loops = h.loops;
        sorted = λ i l. rises i l (ℕ_discrete (suc i) p.block);
        main = firsts 0 (omega arith) ∙ h.main;
        starts = λ j l. rw (firsts j l) (h.starts j l);
        count = omega (arith, g.edge, r.1);
        linked = linked;
      }
    where
      rises : (i : ℕ) → i < p.block → Dec (suc i ≡ p.block) → edge w' p.nodes i ≤ edge w' p.nodes (suc i)
      rises i l (no a) = rw (local_kept.edges i l, local_kept.edges (suc i) (omega arith)) (fine.sound.sorted i l)
      rises i l (yes a) =
          let up : edge w' p.nodes (suc i) ≡ suc (edge w p.nodes (suc i)) = ap (λ k. edge w' p.nodes k) a ∙ top_edge ∙ ap (λ k. suc (edge w p.nodes k)) (sym a) in
          omega (arith, local_kept.edges i l, up, fine.sound.sorted i l)

  pub local_latest : Latest w' p l.name
  local_latest =
      let k = fine.sound.starts 0 (omega arith) in
      let below = edges_below w p.nodes p.block fine.sound.sorted (p.block - 1) (omega arith) in
      let e : edge w' p.nodes p.block - 1 ≡ edge w p.nodes p.block = omega (arith, top_edge) in
      record {
        here = omega (arith, top_edge, local_kept.edges (p.block - 1) (omega arith));
        named = ap (λ i. (local_at w' p.nodes i).name) e ∙ ap (λ y. y.name) g.local;
      }

  pub local_moves : Moves w p s w' p s a_local
  local_moves =
      let r = local_room deep room in
      record {
        fine = record { sound = local_sound; nested = fine.nested; room = omega (arith, g.edge, r.0); constants = fine.constants; globals = fine.globals; functions = fine.functions; written = fine.written; result = fine.result };
        kept = local_kept;
        back = λ z. z;
        used = promised s.outcome (λ z. used);
        longer = omega arith;
        still = λ z. absurd (omega arith);
      }
    where
      used : Used w p s w' p s a_local
      used =
          let t = taken_same w w' p.depth (omega arith) frames in
          let e = g.edge in
          record { words = omega arith; locals = omega arith; names = omega arith; registers = omega arith; visits = same_count (frames.same 3077 (omega arith) (omega arith)) }

  -- the blocks of a function
  own_blocks : (a : ℕ) → a < p.block → span (block w' p.nodes) a p.block ≡ with_local (span (block w p.nodes) a p.block) l
  own_blocks a m = by (p.block - 1) (omega arith)
    where
      by : (k : ℕ) → p.block ≡ suc k → span (block w' p.nodes) a p.block ≡ with_local (span (block w p.nodes) a p.block) l
      by k e =
          rw e
          (block_pushed w w' p.nodes k (rw e at fine.sound.sorted) (rw e at edges) (rw e at g.older) (rw e at top_edge) l (rw e at g.local) a (rw e at m))

  outer_blocks : (a e : ℕ) → e < p.block → span (block w' p.nodes) a e ≡ span (block w p.nodes) a e
  outer_blocks a e l = blocks_same w w' p.nodes p.block fine.sound.sorted g.older a e (omega arith) (record { same = λ i x y. edges.same i x (omega arith) })

  local_around : around w' p.nodes p.depth ≡ around w p.nodes p.depth
  local_around = around_by w w' p.nodes p.depth p.block (omega arith) fine.sound.starts frames outer_blocks

  local_open : open_at w' p.nodes p.depth p.block p.loops ≡ with_blocks (open_at w p.nodes p.depth p.block p.loops) (with_local (span (block w p.nodes) (first w p.depth) p.block) l)
  local_open =
      open_by w w' p.nodes p.depth p.block p.loops deep frames
      ∙ ap (λ bs. with_blocks (open_at w p.nodes p.depth p.block p.loops) bs) (own_blocks (first w p.depth) (fine.sound.starts p.depth (omega arith)))

  local_state : (ps : List Proto) → allocate_register l.name l.register (state_of w p s ps) ≡ done tt (state_of w' p s ps)
  unfolding state_of open_at allocate_register ◌>>=◌ and_then get set_current
  local_state ps =
      sym
      (rw
      (constants_same w w' s.constants (record { same = λ i c e. low_other i (omega (arith, fine.constants)) }), globals_same w w' s.globals (omega (arith, fine.globals, fine.constants)) (record { same = λ i c e. low_other i e }), local_open, local_around))

  pub local_leaf : (y : ℕ) → s.outcome ≡ Ok y → Leaf w p s w' p s a_local (fwd_unit (allocate_register l.name l.register))
  local_leaf y on =
      let r = local_room deep room in
      record {
        moves = local_moves;
        runs = λ ps. ran w w' p p s s (allocate_register l.name l.register) ps tt (λ a c. c) y y on on code refl (local_state ps);
        image = λ o ps i. i;
      }
    where
      code : tab (inst_at w' (top_of p)) s.pc ≡ tab (inst_at w (top_of p)) s.pc
      code = let r = local_room deep room in code_same w w' (top_of p) s.pc (omega (arith, fine.room)) (record { same = λ j a c. let k = fine.sound.blocks in g.other j (λ z. omega arith) (omega arith) (λ z. omega arith) (λ z. absurd (omega arith)) })
