-- A function is left: its last block's locals are popped, and the same words, read in the scope around it, stand for the enclosing function again. What
-- leaving asks of the words (`Leavable`) still holds after the body.
use Rattle.std.proofs.Common.{◌≡◌, ℕ, suc, ◌+◌, ◌*◌, ◌<◌, List, ◌∷◌, get_or, sym, refl, ap, ◌∙◌, ap₂, add-one, arith}
use Rattle.store.specs.declared.Step.{Step}
use Rattle.store.specs.declared.Scope.{Scope}
use Rattle.store.specs.Store.{top_of, open_at, around, state_of, run, deeper, inner, Sound, Fine, Kept}
use Rattle.store.specs.Promise.{Cost, Moves, Popped}
use Rattle.store.specs.Opening.{Enters, Leavable}
use Rattle.store.proofs.Regions.{constants_same, globals_same}
use Rattle.store.proofs.Runs.{due, promised, goes, kept_in, stays, ran}
use Rattle.store.proofs.Leaving.{popped_same, popped_edge, popped_rises, popped_code, sound_left, left_around}
use Rattle.meaning.specs.State.{Proto, done, close_function}
use Rattle.std.specs.Prelude.{Ok, Err}
use Rattle.meaning.specs.Outcome.{Outcome}
use Rattle.forward.specs.Forward.{bind, fwd_unit}

-- what leave_block asks, where a function's last block is left
pub inner_deeper : {w : List ℕ} {p : Scope} → Sound w (inner p) → Leavable w p → Sound w (deeper p)
inner_deeper h l =
    record {
      some = h.some;
      few = h.few;
      long = h.long;
      deep = omega (arith, h.deep);
      blocks = h.blocks;
      loops = l.loops;
      sorted = h.sorted;
      main = h.main;
      starts = λ j k. h.starts j (omega arith);
      count = h.count;
      linked = h.linked;
    }

-- ---- the words of the function, read in the scope around it

module _ {w w' : List ℕ} {p : Scope} {r : Step} (fine : Fine w (inner p) r) (here : Leavable w p) (g : Popped w p w') where
  sound : Sound w (deeper p)
  sound = inner_deeper fine.sound here

  word : (i : ℕ) → i < top_of p → get_or w' i 0 ≡ get_or w i 0
  word i l = (popped_same g).same i (omega arith) l

  pub closed_fine : Fine w' p r
  closed_fine =
      record {
        sound = sound_left p sound g here.starts;
        nested = promised r.outcome (λ z. let d = due r.outcome fine.nested z in omega arith);
        room = omega (arith, fine.room, popped_rises p sound g, popped_edge p sound g p.block (omega arith));
        constants = fine.constants;
        globals = fine.globals;
        functions = fine.functions;
        written = fine.written;
        result = fine.result;
      }

  -- the functions around the inner one are this one and those around it
  closed_around : p.depth < 7 → around w p.nodes (p.depth + 1) ≡ open_at w' p.nodes p.depth p.block p.loops ∷ around w' p.nodes p.depth
  unfolding around
  closed_around deep =
      sym (left_around {p = record { nodes = p.nodes; depth = p.depth + 1; block = p.block; loops = 0; mode = p.mode; wide = p.wide }} fine (record { same = g.same; other = g.other; linked = g.linked }) (omega arith))
      ∙ ap (λ d. around w' p.nodes d) (add-one p.depth)
      ∙ ap₂ (λ e l. open_at w' p.nodes p.depth e l ∷ around w' p.nodes p.depth) (word (3075 + 8 * suc p.depth) (omega arith) ∙ here.first_is) (word (3076 + 8 * suc p.depth) (omega arith) ∙ here.saved_is)

  closed_state : p.depth < 7 → (ps : List Proto) → close_function (state_of w (inner p) r ps) ≡ done tt (state_of w' p r ps)
  unfolding state_of close_function
  closed_state deep ps =
      rw
      (closed_around deep, constants_same w w' r.constants (record { same = λ i a b. word i (omega (arith, fine.constants)) }), globals_same w w' r.globals (omega (arith, fine.globals, fine.constants)) (record { same = λ i a b. word i (omega arith) }))

  closed_by : (o : Outcome) → r.outcome ≡ o → (ps : List Proto) → run w' p r ps ≡ bind (run w (inner p) r ps) (fwd_unit close_function)
  closed_by (Err why) e ps = stays w w' (inner p) p r r (fwd_unit close_function) why.cause why.place e e ps
  closed_by (Ok x) e ps =
      let d = due r.outcome fine.nested (goes e) in
      ran w w' (inner p) p r r close_function ps tt (λ a c. c) x x e e (popped_code p sound g r.pc (omega (arith, fine.room))) refl (closed_state (omega arith) ps)

  pub closed_runs : (ps : List Proto) → run w' p r ps ≡ bind (run w (inner p) r ps) (fwd_unit close_function)
  closed_runs = closed_by r.outcome refl

-- ---- around a function's lowering: entered, lowered, its code cut off, left

module _ {w w1 w2 : List ℕ} {p : Scope} {s s1 s2 : Step} {v : Cost} {node name : ℕ} (fine : Fine w p s) (enters : Enters w p s w1 s1 node name) (m : Moves w1 (inner p) s1 w2 (inner p) s2 v) where
  around_kept : Kept w p w2
  around_kept = kept_in refl (omega arith) (omega arith) enters.leaf.moves.kept m.kept

  pub leavable : Leavable w2 p
  leavable =
      record {
        loops = fine.sound.loops;
        starts = λ j l. omega (arith, fine.sound.starts j l, around_kept.firsts j l);
        first_is = m.kept.firsts (suc p.depth) (omega arith) ∙ enters.first_is;
        saved_is = m.kept.saves (suc p.depth) (omega arith) ∙ enters.saved_is;
      }
