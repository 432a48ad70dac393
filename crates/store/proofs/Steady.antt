-- The invariants after a change of some words: a step that changes few words shows which, and takes `Sound`, `Fine` and `Kept` from here.
use Rattle.std.proofs.Common.{◌≡◌, ℕ, zero, suc, ◌+◌, ◌*◌, ◌%◌, ◌<◌, ◌≤◌, List, length, get_or, ap, ◌∙◌, ap₂, arith}
use Rattle.store.specs.declared.Step.{Step}
use Rattle.store.specs.declared.Scope.{Scope}
use Rattle.store.specs.Table.{span}
use Rattle.store.specs.Layout.{first_edge, first_local, beyond, registers, first, saved, edge, block}
use Rattle.store.specs.Store.{top_of, open_at, around, while_going, written_by, result_limit, Linked, Sound, Fine, Kept}
use Rattle.store.specs.Promise.{taken}
use Rattle.store.proofs.Regions.{Same, Only, locals_same, blocks_same, linked_same, around_by, open_by}

-- ---- the invariants

-- other words: where functions begin, the edges, and the links of the locals
pub sound_again : {w w' : List ℕ} {p : Scope} → Sound w p → length w' ≡ length w → ((j : ℕ) → j ≤ p.depth → first w' j ≡ first w j) → ((i : ℕ) → i ≤ p.block → edge w' p.nodes i ≡ edge w p.nodes i)
    → Linked w' p.nodes p.block → Sound w' p
sound_again {w} {w'} {p} h len fs es ln =
    record {
      some = h.some;
      few = h.few;
      long = omega (arith, h.long, len);
      deep = h.deep;
      blocks = h.blocks;
      loops = h.loops;
      sorted = λ i x. rw (es i (omega arith), es (suc i) x) (h.sorted i x);
      main = fs 0 (omega arith) ∙ h.main;
      starts = λ j x. rw (fs j x) (h.starts j x);
      count = omega (arith, h.count, es p.block (omega arith));
      linked = ln;
    }

-- another step over the same words
pub fine_step : {w : List ℕ} {p : Scope} {s : Step} (r : Step) → Fine w p s → while_going r.outcome (p.depth ≤ 7) → r.pc ≤ s.pc → r.constants ≤ 1024 → r.globals ≤ r.constants + 1 → r.functions ≡ s.functions → written_by r.outcome ≤ written_by s.outcome → r.result < result_limit r.outcome → Fine w p r
fine_step r h n c k g f wr v =
    record { sound = h.sound; nested = n; room = omega (arith, h.room, c); constants = k; globals = g; functions = omega (arith, h.functions, f); written = omega (arith, h.written, wr, f); result = v }

-- other words, the same step
pub fine_words : {w w' : List ℕ} {p : Scope} {s : Step} → Fine w p s → Sound w' p → edge w' p.nodes p.block ≡ edge w p.nodes p.block → Fine w' p s
fine_words h k e =
    record { sound = k; nested = h.nested; room = omega (arith, h.room, e); constants = h.constants; globals = h.globals; functions = h.functions; written = h.written; result = h.result }

-- ---- frames that stay

pub taken_by : (w w' : List ℕ) (d : ℕ) → ((j : ℕ) → j ≤ d → registers w' j ≡ registers w j) → taken w' d ≡ taken w d
unfolding taken
taken_by w w' zero h = h 0 (omega arith)
taken_by w w' (suc d) h = ap₂ (λ x y. x + y) (h (suc d) (omega arith)) (taken_by w w' d (λ j l. h j (omega arith)))

pub taken_same : (w w' : List ℕ) (d : ℕ) → d ≤ 8 → Same w w' 3072 4168 → taken w' d ≡ taken w d
taken_same w w' d l g = taken_by w w' d (λ j k. ap (λ y. y % 256) (g.same (3073 + 8 * j) (omega arith) (omega arith)))

pub kept_by : {w w' : List ℕ} {p : Scope} → p.depth ≤ 8 → length w' ≡ length w → Same w w' 3072 4168 → ((i : ℕ) → i < p.block → edge w' p.nodes i ≡ edge w p.nodes i) → ((i : ℕ) → beyond p.nodes ≤ i → get_or w' i 0 ≡ get_or w i 0) → Kept w p w'
kept_by d len g es os =
    record {
      same = len;
      firsts = λ j l. g.same (3075 + 8 * j) (omega arith) (omega arith);
      saves = λ j l. g.same (3076 + 8 * j) (omega arith) (omega arith);
      outer = λ j l. ap (λ y. y % 256) (g.same (3073 + 8 * j) (omega arith) (omega arith));
      edges = es;
      offsets = os;
    }

-- ---- a change below the links, or between the locals and the heads

-- where the words from a up to b lie: constants, frames, captures, globals; or pending code
abbrev pub Clear : (w : List ℕ) (p : Scope) (a b : ℕ) → Type 0
Clear w p a b = ((c : ℕ) → 4688 ≤ c → c < first_local p.nodes + edge w p.nodes p.block → a ≤ c → b ≤ c) × ((c : ℕ) → top_of p ≤ c → a ≤ c → b ≤ c)

module _ {w w' : List ℕ} {p : Scope} {a b : ℕ} (h : Sound w p) (only : Only w w' a b) (clear : Clear w p a b) (firsts : (j : ℕ) → j ≤ p.depth → first w' j ≡ first w j) where
  clear_registers : Same w w' 4688 (first_edge p.nodes)
  clear_registers = record { same = λ i x y. only.other i (clear.0 i x (omega arith)) }

  clear_words : Same w w' (first_local p.nodes) (first_local p.nodes + edge w p.nodes p.block)
  clear_words = record { same = λ i x y. only.other i (clear.0 i (omega arith) y) }

  pub clear_edges : (i : ℕ) → i ≤ p.block → edge w' p.nodes i ≡ edge w p.nodes i
  clear_edges i x = only.other (first_edge p.nodes + i) (clear.0 (first_edge p.nodes + i) (omega arith) (omega (arith, h.blocks)))

  pub sound_clear : Sound w' p
  sound_clear =
      sound_again h only.length firsts clear_edges
      (linked_same w w' p.nodes p.block p.block h.count clear_registers
      (record { same = λ i x y. only.other i (clear.1 i x) })
      clear_words
      (clear_edges p.block (omega arith))
      (λ e l z. (l, clear_edges e l))
      h.linked)

  pub kept_clear : ((j : ℕ) → j ≤ p.depth → saved w' j ≡ saved w j) → ((j : ℕ) → j < p.depth → registers w' j ≡ registers w j) → Kept w p w'
  kept_clear ss rs =
      record { same = only.length; firsts = firsts; saves = ss; outer = rs; edges = λ i x. clear_edges i (omega arith); offsets = λ i x. only.other i (clear.1 i (omega arith)) }

  -- the blocks of the open functions
  pub clear_blocks : (x e : ℕ) → e ≤ p.block → span (block w' p.nodes) x e ≡ span (block w p.nodes) x e
  clear_blocks x e le =
      blocks_same w w' p.nodes p.block h.sorted (locals_same w w' p.nodes _ h.count clear_registers clear_words) x e le (record { same = λ i y z. only.other i (clear.0 i (omega arith) (omega (arith, h.blocks))) })

-- ---- a change that is apart from frames and captures too: the functions are as they were

module _ {w w' : List ℕ} {p : Scope} {a b : ℕ} (h : Sound w p) (shallow : p.depth ≤ 7) (only : Only w w' a b) (clear : Clear w p a b) (frames : Same w w' 3072 4168) where
  apart_firsts : (j : ℕ) → j ≤ p.depth → first w' j ≡ first w j
  apart_firsts j x = frames.same (3075 + 8 * j) (omega arith) (omega arith)

  pub sound_apart : Sound w' p
  sound_apart = sound_clear h only clear apart_firsts

  pub kept_apart : Kept w p w'
  kept_apart = kept_by (omega arith) only.length frames (λ i x. clear_edges h only clear apart_firsts i (omega arith)) (λ i x. only.other i (clear.1 i (omega arith)))

  pub edge_apart : edge w' p.nodes p.block ≡ edge w p.nodes p.block
  edge_apart = clear_edges h only clear apart_firsts p.block (omega arith)

  pub open_apart : open_at w' p.nodes p.depth p.block p.loops ≡ open_at w p.nodes p.depth p.block p.loops
  unfolding open_at
  open_apart = open_by w w' p.nodes p.depth p.block p.loops shallow frames ∙ rw (clear_blocks h only clear apart_firsts (first w p.depth) p.block (omega arith))

  pub around_apart : around w' p.nodes p.depth ≡ around w p.nodes p.depth
  around_apart = around_by w w' p.nodes p.depth p.block (omega arith) h.starts frames (λ x e l. clear_blocks h only clear apart_firsts x e (omega arith))

  pub taken_apart : taken w' p.depth ≡ taken w p.depth
  taken_apart = taken_same w w' p.depth (omega arith) frames
