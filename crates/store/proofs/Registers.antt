-- Registers: the count of the current function's frame goes up, by one or by several at once.
use Rattle.std.proofs.Common.{◌≡◌, ℕ, zero, suc, ◌+◌, ◌-◌, ◌*◌, ◌%◌, ◌<◌, ◌≤◌, List, length, get_or, set, sym, refl, ap, ◌∙◌, arith, get_or-set_same, eq-eqb, ne_eqb}
use native.Mathlib.Decide.{ℕ_discrete}
use Rattle.store.specs.declared.Step.{Step}
use Rattle.store.specs.declared.Scope.{Scope}
use Rattle.store.specs.Table.{tab}
use Rattle.store.specs.Layout.{registers, first, held, edge, inst_at}
use Rattle.store.specs.Store.{top_of, open_at, around, state_of, with_result, refused_step, Fine}
use Rattle.store.specs.Promise.{some_registers, a_register, taken, Used, Moves, Leaf}
use Rattle.store.proofs.Regions.{Only, below, above, same_count, constants_same, globals_same, code_same, captures_same, around_same, below_256}
use Rattle.store.proofs.Runs.{promised, ran, ran_out, image_same, image_none}
use Rattle.store.proofs.Steady.{Clear, sound_clear, kept_clear, clear_edges, clear_blocks, fine_words, fine_step, taken_by}
use Rattle.store.proofs.Refusals.{refused_outcome, refused_moves}
use Rattle.meaning.specs.State.{State, Proto, refused, done, and_then, ◌>>=◌, ◌>>◌, get, pure, refuse, if_then, set_current, with_registers, next_register}
use Rattle.meaning.specs.Expressions.{next_registers}
use Rattle.meaning.specs.declared.Cause.TheVariants.{Registers}
use Rattle.std.specs.Prelude.{Ok}
use Rattle.forward.specs.Forward.{fwd_number, fwd_zero, give, give_zero}

-- ---- the definition: the state with n registers more

abbrev pub more_registers : State → ℕ → State
more_registers σ n =
    record { constants = σ.constants; prototypes = σ.prototypes; globals = σ.globals; current = with_registers σ.current (σ.current.registers + n); outer = σ.outer }

pub register_done : (node : ℕ) (σ : State) → ¬ (σ.current.registers ≡ 255) → next_register node σ ≡ done σ.current.registers (more_registers σ 1)
unfolding next_register ◌>>=◌ ◌>>◌ and_then get if_then set_current pure
register_done node σ h = rw (ne_eqb σ.current.registers 255 h)

pub register_full : (node : ℕ) (σ : State) → σ.current.registers ≡ 255 → next_register node σ ≡ refused Registers node
unfolding next_register ◌>>=◌ ◌>>◌ and_then get if_then refuse
register_full node σ h = rw (eq-eqb σ.current.registers 255 h)

more_more : (σ : State) (n : ℕ) → more_registers (more_registers σ 1) n ≡ more_registers σ (suc n)
more_more σ n = let e : σ.current.registers + 1 + n ≡ σ.current.registers + suc n = omega arith in rw e

more_none : (σ : State) → σ ≡ more_registers σ 0
more_none σ = let e : σ.current.registers + 0 ≡ σ.current.registers = omega arith in rw e

pub registers_done : (node n : ℕ) (σ : State) → σ.current.registers + n ≤ 255 → next_registers node n σ ≡ done tt (more_registers σ n)
unfolding next_registers ◌>>=◌ and_then pure
registers_done node zero σ h = ap (λ t. done tt t) (more_none σ)
registers_done node (suc n) σ h =
    rw (register_done node σ (omega arith)) (registers_done node n (more_registers σ 1) (omega arith) ∙ ap (λ t. done tt t) (more_more σ n))

pub registers_full : (node n : ℕ) (σ : State) → σ.current.registers ≤ 255 → 255 < σ.current.registers + n → next_registers node n σ ≡ refused Registers node
unfolding next_registers ◌>>=◌ and_then
registers_full node zero σ l h = absurd (omega arith)
registers_full node (suc n) σ l h = cases (ℕ_discrete σ.current.registers 255) (λ e. registers_full node n (more_registers σ 1) (omega arith) (omega arith))
  where
    cases : Dec (σ.current.registers ≡ 255) → (¬ (σ.current.registers ≡ 255) → next_registers node n (more_registers σ 1) ≡ refused Registers node) → and_then (next_register node σ) (λ r. next_registers node n) ≡ refused Registers node
    cases (yes e) ih = rw (register_full node σ e)
    cases (no e) ih = rw (register_done node σ e) (ih e)

-- ---- the words: v registers more

module _ (w w' : List ℕ) (p : Scope) (s : Step) (v : ℕ) (fine : Fine w p s) (shallow : p.depth ≤ 7) (only : Only w w' (3073 + 8 * p.depth) (3073 + 8 * p.depth + 1)) (counted : registers w' p.depth ≡ registers w p.depth + v) where
  clear : Clear w p (3073 + 8 * p.depth) (3073 + 8 * p.depth + 1)
  clear = (λ c a b e. omega arith, λ c a e. omega arith)

  firsts : (j : ℕ) → j ≤ p.depth → first w' j ≡ first w j
  firsts j l = only.other (3075 + 8 * j) (λ e. omega arith)

  outer_registers : (j : ℕ) → j < p.depth → registers w' j ≡ registers w j
  outer_registers j l = ap (λ y. y % 256) (only.other (3073 + 8 * j) (λ e. omega arith))

  taken_more : (k : ℕ) → k ≡ p.depth → taken w' k ≡ taken w k + v
  unfolding taken
  taken_more zero e = ap (λ j. registers w' j) e ∙ counted ∙ ap (λ j. registers w j + v) (sym e)
  taken_more (suc k) e =
      let own : registers w' (suc k) ≡ registers w (suc k) + v = ap (λ j. registers w' j) e ∙ counted ∙ ap (λ j. registers w j + v) (sym e) in
      omega (arith, own, taken_by w w' k (λ j l. outer_registers j (omega arith)))

  edge_kept : edge w' p.nodes p.block ≡ edge w p.nodes p.block
  edge_kept = clear_edges fine.sound only clear firsts p.block (omega arith)

  registers_around : around w' p.nodes p.depth ≡ around w p.nodes p.depth
  registers_around =
      around_same w w' p.nodes p.depth
      (record {
        frames = λ j k a b. only.other (3072 + 8 * j + k) (λ e. omega arith);
        firsts = firsts;
        saves = λ j a. only.other (3076 + 8 * j) (λ e. omega arith);
        captures = λ j a. above (3144 + 128 * j) (3144 + 128 * suc j) (omega arith) only;
        blocks = λ j a. clear_blocks fine.sound only clear firsts (first w j) (first w (suc j)) (omega (arith, fine.sound.starts (suc j) a));
      })

  registers_open : open_at w' p.nodes p.depth p.block p.loops ≡ with_registers (open_at w p.nodes p.depth p.block p.loops) (registers w p.depth + v)
  unfolding open_at
  registers_open =
      rw
      (counted, only.other (3072 + 8 * p.depth) (λ e. omega arith), only.other (3074 + 8 * p.depth) (λ e. omega arith), firsts p.depth (omega arith), clear_blocks fine.sound only clear firsts (first w p.depth) p.block (omega arith), captures_same w w' p.depth (held w p.depth) (omega (arith, below_256 (get_or w (3074 + 8 * p.depth) 0))) (above (3144 + 128 * p.depth) (3144 + 128 * suc p.depth) (omega arith) only))

  pub registers_state : (r : Step) → r.constants ≡ s.constants → r.globals ≡ s.globals → (ps : List Proto) → state_of w' p r ps ≡ more_registers (state_of w p s ps) v
  unfolding state_of open_at
  registers_state r ek eg ps =
      rw
      (ek, eg, constants_same w w' s.constants (below 0 (3 * s.constants) (omega (arith, fine.constants)) only), globals_same w w' s.globals (omega (arith, fine.globals, fine.constants)) (above 4168 4688 (omega arith) only), registers_open, registers_around)

  pub registers_moves : (k x : ℕ) → k < 1024 → s.outcome ≡ Ok x → Moves w p s w' p (with_result s k) (some_registers v)
  registers_moves k x small on =
      record {
        fine = fine_step (with_result s k) (fine_words fine (sound_clear fine.sound only clear firsts) edge_kept) fine.nested (omega arith) fine.constants fine.globals refl (omega arith) (rw on small);
        kept = kept_clear fine.sound only clear firsts (λ j a. only.other (3076 + 8 * j) (λ e. omega arith)) outer_registers;
        back = λ g. g;
        used = promised s.outcome (λ g. used);
        longer = omega arith;
        still = λ z. edge_kept;
      }
    where
      used : Used w p s w' p (with_result s k) (some_registers v)
      used =
          let t = taken_more p.depth refl in
          let e = edge_kept in
          record { words = omega arith; locals = omega arith; names = omega arith; registers = omega arith; visits = same_count (only.other 3077 (λ e. omega arith)) }

  registers_code : tab (inst_at w' (top_of p)) s.pc ≡ tab (inst_at w (top_of p)) s.pc
  registers_code = code_same w w' (top_of p) s.pc (omega (arith, fine.room)) (above (top_of p - 2 * s.pc) (top_of p) (omega (arith, fine.room)) only)

  -- one register
  register_next : (node : ℕ) → v ≡ 1 → ¬ (registers w p.depth ≡ 255) → (ps : List Proto) → next_register node (state_of w p s ps) ≡ done (registers w p.depth) (state_of w' p (with_result s (registers w p.depth)) ps)
  unfolding state_of open_at
  register_next node one ne ps =
      register_done node (state_of w p s ps) ne ∙ ap (λ t. done (registers w p.depth) t) (sym (rw one at (registers_state (with_result s (registers w p.depth)) refl refl ps)))

  pub register_leaf : (node x : ℕ) → v ≡ 1 → s.outcome ≡ Ok x → ¬ (registers w p.depth ≡ 255) → Leaf w p s w' p (with_result s (registers w p.depth)) a_register (fwd_number (next_register node))
  register_leaf node x one on ne =
      record {
        moves = rw one at (registers_moves (registers w p.depth) x (omega (arith, below_256 (get_or w (3073 + 8 * p.depth) 0))) on);
        runs = λ ps. ran w w' p p s (with_result s (registers w p.depth)) (next_register node) ps (registers w p.depth) (λ a b. a) x x on on registers_code refl (register_next node one ne ps);
        image = image_same p s (with_result s (registers w p.depth)) refl refl;
      }

  -- several
  registers_next : (node : ℕ) → registers w p.depth + v ≤ 255 → (ps : List Proto) → next_registers node v (state_of w p s ps) ≡ done tt (state_of w' p (with_result s 0) ps)
  unfolding state_of open_at
  registers_next node fits ps = registers_done node v (state_of w p s ps) fits ∙ ap (λ t. done tt t) (sym (registers_state (with_result s 0) refl refl ps))

  pub registers_leaf : (node x : ℕ) → s.outcome ≡ Ok x → registers w p.depth + v ≤ 255 → Leaf w p s w' p (with_result s 0) (some_registers v) (fwd_zero (next_registers node v))
  registers_leaf node x on fits =
      record {
        moves = registers_moves 0 x (omega arith) on;
        runs = λ ps. ran w w' p p s (with_result s 0) (next_registers node v) ps tt (λ a b. 0) x x on on registers_code refl (registers_next node fits ps);
        image = image_same p s (with_result s 0) refl refl;
      }

-- ---- no register is left

module _ (w : List ℕ) (p : Scope) (s : Step) (fine : Fine w p s) (x : ℕ) (on : s.outcome ≡ Ok x) where
  out_of_one : (node : ℕ) → registers w p.depth ≡ 255 → (ps : List Proto) → next_register node (state_of w p s ps) ≡ refused Registers node
  unfolding state_of open_at
  out_of_one node h ps = register_full node (state_of w p s ps) h

  pub register_none : (node : ℕ) → registers w p.depth ≡ 255 → Leaf w p s w p (refused_step s Registers node) a_register (fwd_number (next_register node))
  register_none node h =
      record {
        moves = refused_moves s Registers node a_register fine on;
        runs = λ ps. ran_out w w p p s (refused_step s Registers node) (next_register node) ps give x Registers node on (refused_outcome s Registers node on) (out_of_one node h ps);
        image = image_none p s (refused_step s Registers node) (refused_outcome s Registers node on);
      }

  out_of_many : (node n : ℕ) → 255 < registers w p.depth + n → (ps : List Proto) → next_registers node n (state_of w p s ps) ≡ refused Registers node
  unfolding state_of open_at
  out_of_many node n h ps = registers_full node n (state_of w p s ps) (omega (arith, below_256 (get_or w (3073 + 8 * p.depth) 0))) h

  pub registers_none : (node n : ℕ) → 255 < registers w p.depth + n → Leaf w p s w p (refused_step s Registers node) (some_registers n) (fwd_zero (next_registers node n))
  registers_none node n h =
      record {
        moves = refused_moves s Registers node (some_registers n) fine on;
        runs = λ ps. ran_out w w p p s (refused_step s Registers node) (next_registers node n) ps give_zero x Registers node on (refused_outcome s Registers node on) (out_of_many node n h ps);
        image = image_none p s (refused_step s Registers node) (refused_outcome s Registers node on);
      }

-- the word that is stored
pub counted_by : (w : List ℕ) (d v : ℕ) → 3073 + 8 * d < length w → registers w d + v ≤ 255 → registers (set w (3073 + 8 * d) (registers w d + v)) d ≡ registers w d + v
counted_by w d v l fits = omega (arith, get_or-set_same w (3073 + 8 * d) (registers w d + v) 0 l)
