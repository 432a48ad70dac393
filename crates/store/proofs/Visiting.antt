-- One visit more is counted: a word of main's frame that nothing else stands on, so all that the words stand for stays.
use Rattle.std.proofs.Common.{◌≡◌, ℕ, suc, ◌+◌, ◌-◌, ◌*◌, ◌%◌, ◌≤◌, List, get_or, refl, ap, arith}
use Rattle.store.specs.declared.Step.{Step}
use Rattle.store.specs.declared.Scope.{Scope}
use Rattle.store.specs.Layout.{registers, first, held, edge}
use Rattle.store.specs.Store.{top_of, open_at, around, state_of, config_of, run_by, run, while_going, Fine}
use Rattle.store.specs.Promise.{a_visit, Used, Moves, Ticked}
use Rattle.store.proofs.Regions.{Only, below, above, constants_same, globals_same, code_same, captures_same, around_same, below_256}
use Rattle.store.proofs.Runs.{promised}
use Rattle.store.proofs.Steady.{Clear, sound_clear, kept_clear, clear_edges, clear_blocks, fine_words, taken_by}
use Rattle.meaning.specs.State.{Proto}
use Rattle.std.specs.Prelude.{Ok, Err}
use Rattle.meaning.specs.Outcome.{Outcome}

module _ {w w' : List ℕ} {p : Scope} {s : Step} (fine : Fine w p s) (t : Ticked w w') where
  only : Only w w' 3077 3078
  only = record { length = t.same; other = λ i h. t.other i (λ e. let k = h (omega arith) in omega arith) }

  clear : Clear w p 3077 3078
  clear = (λ c a b e. omega arith, λ c a e. omega arith)

  firsts : (j : ℕ) → j ≤ p.depth → first w' j ≡ first w j
  firsts j l = t.other (3075 + 8 * j) (omega arith)

  all_registers : (j : ℕ) → registers w' j ≡ registers w j
  all_registers j = ap (λ y. y % 256) (t.other (3073 + 8 * j) (omega arith))

  edge_kept : edge w' p.nodes p.block ≡ edge w p.nodes p.block
  edge_kept = clear_edges fine.sound only clear firsts p.block (omega arith)

  pub ticked_moves : Moves w p s w' p s a_visit
  ticked_moves =
      record {
        fine = fine_words fine (sound_clear fine.sound only clear firsts) edge_kept;
        kept = kept_clear fine.sound only clear firsts (λ j a. t.other (3076 + 8 * j) (omega arith)) (λ j a. all_registers j);
        back = λ g. g;
        used = promised s.outcome (λ g. used);
        longer = omega arith;
        still = λ z. edge_kept;
      }
    where
      used : Used w p s w' p s a_visit
      used =
          let n = taken_by w w' p.depth (λ j l. all_registers j) in
          let e = edge_kept in
          record { words = omega arith; locals = omega arith; names = omega arith; registers = omega arith; visits = t.counts }

  ticked_around : p.depth ≤ 7 → around w' p.nodes p.depth ≡ around w p.nodes p.depth
  ticked_around deep =
      around_same w w' p.nodes p.depth
      (record {
        frames = λ j k a b. t.other (3072 + 8 * j + k) (omega arith);
        firsts = firsts;
        saves = λ j a. t.other (3076 + 8 * j) (omega arith);
        captures = λ j a. above (3144 + 128 * j) (3144 + 128 * suc j) (omega arith) only;
        blocks = λ j a. clear_blocks fine.sound only clear firsts (first w j) (first w (suc j)) (omega (arith, fine.sound.starts (suc j) a));
      })

  ticked_open : p.depth ≤ 7 → open_at w' p.nodes p.depth p.block p.loops ≡ open_at w p.nodes p.depth p.block p.loops
  unfolding open_at
  ticked_open deep =
      rw
      (all_registers p.depth, t.other (3072 + 8 * p.depth) (omega arith), t.other (3074 + 8 * p.depth) (omega arith), firsts p.depth (omega arith), clear_blocks fine.sound only clear firsts (first w p.depth) p.block (omega arith), captures_same w w' p.depth (held w p.depth) (omega (arith, below_256 (get_or w (3074 + 8 * p.depth) 0))) (above (3144 + 128 * p.depth) (3144 + 128 * suc p.depth) (omega arith) only))

  ticked_config : p.depth ≤ 7 → (ps : List Proto) → config_of w' p s ps ≡ config_of w p s ps
  unfolding config_of state_of
  ticked_config deep ps =
      rw (
        code_same w w' (top_of p) s.pc (omega (arith, fine.room)) (above (top_of p - 2 * s.pc) (top_of p) (omega (arith, fine.room)) only),
        constants_same w w' s.constants (below 0 (3 * s.constants) (omega (arith, fine.constants)) only),
        globals_same w w' s.globals (omega (arith, fine.globals, fine.constants)) (above 4168 4688 (omega arith) only),
        ticked_open deep,
        ticked_around deep,
      )

  -- the words stand for what they stood for
  pub ticked_runs : (ps : List Proto) → run w' p s ps ≡ run w p s ps
  unfolding run
  ticked_runs ps = cases s.outcome (λ d. ticked_config d ps) fine.nested
    where
      cases : (o : Outcome) → (p.depth ≤ 7 → config_of w' p s ps ≡ config_of w p s ps) → while_going o (p.depth ≤ 7) → run_by o (config_of w' p s ps) ≡ run_by o (config_of w p s ps)
      cases (Ok x) h d = ap (λ c. run_by (Ok x) c) (h d)
      cases (Err why) h d = refl
