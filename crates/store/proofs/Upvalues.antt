-- get_upvalue: the search outward from the current function, as a step of the definition.
use Rattle.std.proofs.Common.{◌≡◌, ℕ, ◌+◌, ◌%◌, ◌≤◌, List, sym, refl, ap, ◌∙◌, arith}
use mathlib.Core.Option as maybe
use Rattle.std.specs.Prelude.{Option, None, Some, Result, Ok, Err}
use Rattle.store.specs.declared.capture.NoRoom.{NoRoom}
use Rattle.store.specs.declared.Step.{Step}
use Rattle.store.specs.declared.Scope.{Scope}
use Rattle.store.specs.Layout.{first_edge, first, edge}
use Rattle.store.specs.Store.{top_of, open_at, around, state_of, config_of, refused_step, Fine, Kept}
use Rattle.store.specs.Search.{option_of, search_of, Caught, Sought}
use Rattle.store.specs.Promise.{nothing, Used, Moves, Told}
use Rattle.store.proofs.Regions.{same_count, constants_same, globals_same, code_same, linked_same}
use Rattle.store.proofs.Runs.{promised, goes, run_going, run_stopped, absorbed, image_none}
use Rattle.store.proofs.Steady.{taken_by, sound_again, fine_words, fine_step}
use Rattle.store.proofs.Refusals.{refused_outcome}
use Rattle.store.proofs.Searching.{caught_first, caught_saved, caught_registers}
use Rattle.meaning.specs.State.{Proto, search_outward, get_upvalue}
use Rattle.meaning.specs.declared.Cause.{Cause}
use Rattle.meaning.specs.declared.Cause.TheVariants.{Captures}
use Rattle.meaning.specs.Outcome.{refusal}
use Rattle.forward.specs.Forward.{going, stopped, at, Answers}
use Rattle.forward.proofs.Opened.{with_functions, answers_stopped, upvalue_not_found, upvalue_full, upvalue_found}

-- refused at entry
pub upvalue_absorbed : {w : List ℕ} {p : Scope} {s : Step} (node name : ℕ) {k : Cause} {n : ℕ} → Fine w p s → s.outcome ≡ Err (refusal k n) → Told w p s w p s nothing maybe.none (get_upvalue node name)
upvalue_absorbed {w} {p} {s} node name {k} {n} h e =
    record { moves = absorbed nothing h e; tells = λ ps. rw (run_stopped w p s ps k n e) (answers_stopped k n (get_upvalue node name) maybe.none); image = λ o ps i. i }

module _ (w w' : List ℕ) (p : Scope) (s : Step) (fine : Fine w p s) (deep : p.depth ≤ 7) (name : ℕ) (f : Result (Option ℕ) NoRoom) (sought : Sought w p.nodes p.depth name w' f) where
  caught : Caught w p.depth w'
  caught = sought.caught

  firsts : (j : ℕ) → j ≤ p.depth → first w' j ≡ first w j
  firsts j l = caught_first caught j (omega arith)

  edge_kept : (i : ℕ) → edge w' p.nodes i ≡ edge w p.nodes i
  edge_kept i = caught.high (first_edge p.nodes + i) (omega arith)

  caught_fine : Fine w' p s
  caught_fine =
      fine_words fine
      (sound_again fine.sound caught.same firsts (λ i l. edge_kept i)
      (linked_same w w' p.nodes p.block p.block fine.sound.count
      (record { same = λ i a b. caught.high i (omega arith) })
      (record { same = λ i a b. caught.high i (omega arith) })
      (record { same = λ i a b. caught.high i (omega arith) })
      (edge_kept p.block)
      (λ e l z. (l, edge_kept e))
      fine.sound.linked))
      (edge_kept p.block)

  caught_kept : Kept w p w'
  caught_kept =
      record {
        same = caught.same;
        firsts = firsts;
        saves = λ j l. caught_saved caught j (omega arith);
        outer = λ j l. ap (λ y. y % 256) (caught_registers caught j (omega arith));
        edges = λ i l. edge_kept i;
        offsets = λ i l. caught.high i (omega arith);
      }

  pub caught_moves : Moves w p s w' p s nothing
  caught_moves = record { fine = caught_fine; kept = caught_kept; back = λ g. g; used = promised s.outcome (λ g. used); longer = omega arith; still = λ z. edge_kept p.block }
    where
      used : Used w p s w' p s nothing
      used =
          let e = edge_kept p.block in
          let t = taken_by w w' p.depth (λ j l. ap (λ y. y % 256) (caught_registers caught j (omega arith))) in
          record { words = omega arith; locals = omega arith; names = omega arith; registers = omega arith; visits = same_count (caught.frames 0 5 (omega arith) (omega arith) (λ z. absurd (omega arith))) }

  -- where a capture was found, only the functions changed
  caught_state : (ps : List Proto) → state_of w' p s ps ≡ with_functions (state_of w p s ps) (open_at w' p.nodes p.depth p.block p.loops) (around w' p.nodes p.depth)
  unfolding state_of
  caught_state ps =
      rw
      (constants_same w w' s.constants (record { same = λ i a b. caught.low i (omega (arith, fine.constants)) }), globals_same w w' s.globals (omega (arith, fine.globals, fine.constants)) (record { same = λ i a b. caught.high i a }))

  caught_config : (ps : List Proto) → config_of w' p s ps ≡ at (with_functions (state_of w p s ps) (open_at w' p.nodes p.depth p.block p.loops) (around w' p.nodes p.depth)) (config_of w p s ps)
  unfolding config_of
  caught_config ps =
      rw
      (caught_state ps, code_same w w' (top_of p) s.pc (omega (arith, fine.room)) (record { same = λ i a b. caught.high i (omega (arith, fine.room)) }))

  says : search_of w' p.nodes p.depth p.block p.loops f ≡ search_outward name (open_at w p.nodes p.depth p.block p.loops) (around w p.nodes p.depth)
  says = sought.says p.block p.loops

  tells_nothing : (node : ℕ) (ps : List Proto) → f ≡ Ok None → Answers (going (config_of w p s ps)) (get_upvalue node name) maybe.none (going (config_of w' p s ps))
  unfolding config_of state_of
  tells_nothing node ps e =
      rw (sought.unchanged e) (upvalue_not_found node name (config_of w p s ps) (sym (ap (λ x. search_of w' p.nodes p.depth p.block p.loops x) (sym e) ∙ says)))

  tells_found : (node i : ℕ) (ps : List Proto) → f ≡ Ok (Some i) → Answers (going (config_of w p s ps)) (get_upvalue node name) (maybe.some i) (going (config_of w' p s ps))
  unfolding config_of state_of
  tells_found node i ps e =
      rw (caught_config ps)
      (upvalue_found node name (config_of w p s ps) i (open_at w' p.nodes p.depth p.block p.loops) (around w' p.nodes p.depth) (sym (ap (λ x. search_of w' p.nodes p.depth p.block p.loops x) (sym e) ∙ says)))

  tells_full : (node : ℕ) (a : maybe.Option ℕ) (full : NoRoom) (ps : List Proto) → f ≡ Err full → Answers (going (config_of w p s ps)) (get_upvalue node name) a (stopped Captures node)
  unfolding config_of state_of
  tells_full node a full ps e = upvalue_full node name (config_of w p s ps) a (sym (ap (λ x. search_of w' p.nodes p.depth p.block p.loops x) (sym e) ∙ says))

  pub upvalue_told : (node x : ℕ) → s.outcome ≡ Ok x → (g : Option ℕ) → f ≡ Ok g → Told w p s w' p s nothing (option_of g) (get_upvalue node name)
  upvalue_told node x on g e = record { moves = caught_moves; tells = λ ps. rw (run_going w p s ps x on, run_going w' p s ps x on) (tells ps g e); image = λ o ps i. i }
    where
      tells : (ps : List Proto) (g : Option ℕ) → f ≡ Ok g → Answers (going (config_of w p s ps)) (get_upvalue node name) (option_of g) (going (config_of w' p s ps))
      tells ps None e = tells_nothing node ps e
      tells ps (Some i) e = tells_found node i ps e

  pub upvalue_none : (node x : ℕ) (full : NoRoom) → s.outcome ≡ Ok x → f ≡ Err full → Told w p s w' p (refused_step s Captures node) nothing maybe.none (get_upvalue node name)
  upvalue_none node x full on e =
      record {
        moves =
            record {
              fine = fine_step (refused_step s Captures node) caught_fine (rw on tt) (omega arith) fine.constants fine.globals refl (rw on (omega arith)) (rw on (omega arith));
              kept = caught_kept;
              back = λ g. goes on;
              used = rw on tt;
              longer = omega arith;
              still = λ z. edge_kept p.block;
            };
        tells = λ ps. rw (run_going w p s ps x on, run_stopped w' p (refused_step s Captures node) ps Captures node (refused_outcome s Captures node on)) (tells_full node maybe.none full ps e);
        image = image_none p s (refused_step s Captures node) (refused_outcome s Captures node on);
      }
