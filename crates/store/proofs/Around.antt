-- A block and a loop around a step, for those who call enter and leave around it: what is inside is promised in the scope inside, the whole in the scope around.
use Rattle.std.proofs.Common.{◌≡◌, ℕ, ◌+◌, ◌-◌, ◌<◌, ◌≤◌, List, refl, ◌∙◌, arith}
use Rattle.store.specs.declared.Step.{Step}
use Rattle.store.specs.declared.Scope.{Scope}
use Rattle.store.specs.Store.{open_at, state_of, run, deeper, looped, Sound, Fine, Kept}
use Rattle.store.specs.Promise.{Cost, nothing, boxed, Used, Moves, Leaf, Popped}
use Rattle.store.proofs.Regions.{same_count}
use Rattle.store.proofs.Runs.{due, promised, stays, ran, kept_refl}
use Rattle.store.proofs.Compose.{moves_then, moves_by}
use Rattle.store.proofs.Leaving.{left_moves}
use Rattle.meaning.specs.State.{Proto, and_then, ◌>>=◌, get, set_current, enter_loop, leave_loop}
use Rattle.std.specs.Prelude.{Ok, Err}
use Rattle.meaning.specs.Outcome.{Outcome}
use Rattle.forward.specs.Forward.{bind, fwd_unit}

-- ---- blocks

-- the words: entered, something inside, left
pub block_around : {w w1 w2 w3 : List ℕ} {p : Scope} {s r : Step} {u : Cost} → Fine w p s → Kept w (deeper p) w1 → Moves w p s w1 (deeper p) s nothing → Moves w1 (deeper p) s w2 (deeper p) r u → Popped w2 p w3 → Moves w p s w3 p r (boxed u)
block_around {p = p} {u = u} h k e m g =
    moves_by (boxed u) (omega arith) (omega arith) (omega arith) (λ z. refl) (omega arith)
    (left_moves h.sound (m.kept.edges p.block (omega arith) ∙ k.edges p.block (omega arith)) (moves_then refl (omega arith) (omega arith) e m) g)

-- ---- loops: another scope, no code

sound_loops : {w : List ℕ} (p q : Scope) → q.nodes ≡ p.nodes → q.depth ≡ p.depth → q.block ≡ p.block → q.loops ≤ p.nodes + 10 → Sound w p → Sound w q
sound_loops {w} p q n d b l h = again q.nodes q.depth q.block n d b
  where
    again : (x y z : ℕ) → x ≡ p.nodes → y ≡ p.depth → z ≡ p.block → Sound w (record { nodes = x; depth = y; block = z; loops = q.loops; mode = q.mode; wide = q.wide })
    again x y z e f g =
        rw (e, f, g)
        (record { some = h.some; few = h.few; long = h.long; deep = h.deep; blocks = h.blocks; loops = l; sorted = h.sorted; main = h.main; starts = h.starts; count = h.count; linked = h.linked })

fine_looped : {w : List ℕ} {p : Scope} {s : Step} → Fine w p s → p.loops < p.nodes + 10 → Fine w (looped p) s
fine_looped {w} {p} h l =
    record { sound = sound_loops p (looped p) refl refl refl (omega arith) h.sound; nested = h.nested; room = h.room; constants = h.constants; globals = h.globals; functions = h.functions; written = h.written; result = h.result }

fine_unlooped : {w : List ℕ} (p : Scope) {s : Step} → Fine w (looped p) s → Fine w p s
fine_unlooped {w} p h =
    record { sound = sound_loops (looped p) p refl refl refl (omega (arith, h.sound.loops)) h.sound; nested = h.nested; room = h.room; constants = h.constants; globals = h.globals; functions = h.functions; written = h.written; result = h.result }

pub loop_entered : {w : List ℕ} {p : Scope} {s : Step} → Fine w p s → p.loops < p.nodes + 10 → Leaf w p s w (looped p) s nothing (fwd_unit enter_loop)
unfolding state_of open_at enter_loop ◌>>=◌ and_then get set_current
loop_entered {w} {p} {s} h l =
    record {
      moves =
          record {
            fine = fine_looped h l;
            kept = kept_refl w p;
            back = λ z. z;
            used = promised s.outcome (λ z. record { words = omega arith; locals = omega arith; names = omega arith; registers = omega arith; visits = same_count refl });
            longer = omega arith;
            still = λ z. refl;
          };
      runs = runs s.outcome refl;
      image = λ o ps i. i;
    }
  where
    runs : (x : Outcome) → s.outcome ≡ x → (ps : List Proto) → run w (looped p) s ps ≡ bind (run w p s ps) (fwd_unit enter_loop)
    runs (Err why) e ps = stays w w p (looped p) s s (fwd_unit enter_loop) why.cause why.place e e ps
    runs (Ok x) e ps = ran w w p (looped p) s s enter_loop ps tt (λ a c. c) x x e e refl refl refl

pub loop_left : {w : List ℕ} (p : Scope) {s : Step} → Fine w (looped p) s → Leaf w (looped p) s w p s nothing (fwd_unit leave_loop)
unfolding state_of open_at leave_loop ◌>>=◌ and_then get set_current
loop_left {w} p {s} h =
    record {
      moves =
          record {
            fine = fine_unlooped p h;
            kept = kept_refl w (looped p);
            back = λ z. z;
            used = promised s.outcome (λ z. record { words = omega arith; locals = omega arith; names = omega arith; registers = omega arith; visits = same_count refl });
            longer = omega arith;
            still = λ z. refl;
          };
      runs = runs s.outcome refl;
      image = λ o ps i. i;
    }
  where
    runs : (x : Outcome) → s.outcome ≡ x → (ps : List Proto) → run w p s ps ≡ bind (run w (looped p) s ps) (fwd_unit leave_loop)
    runs (Err why) e ps = stays w w (looped p) p s s (fwd_unit leave_loop) why.cause why.place e e ps
    runs (Ok x) e ps =
        let z : p.loops + 1 - 1 ≡ p.loops = omega arith in
        ran w w (looped p) p s s leave_loop ps tt (λ a c. c) x x e e refl refl (rw z)

-- around a step
pub loop_around : {w w' : List ℕ} (p : Scope) {s r : Step} {u : Cost} → Fine w p s → Moves w (looped p) s w' (looped p) r u → Moves w p s w' p r u
loop_around {w} {w'} p {s} {r} {u} h m =
    let k = m.kept in
    record {
      fine = fine_unlooped p m.fine;
      kept = record { same = k.same; firsts = k.firsts; saves = k.saves; outer = k.outer; edges = k.edges; offsets = k.offsets };
      back = m.back;
      used = promised r.outcome (λ z. again (due r.outcome m.used z));
      longer = m.longer;
      still = m.still;
    }
  where
    again : Used w (looped p) s w' (looped p) r u → Used w p s w' p r u
    again i = record { words = i.words; locals = i.locals; names = i.names; registers = i.registers; visits = i.visits }
