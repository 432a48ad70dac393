-- The dropped pass of a numeral-left Minus: what was lowered is cut off again. The code is as long as it was and so is the list of locals, since an expression
-- leaves none; registers were only taken. So nothing is used; the visits stay counted.
use Prim.Native.Nat.{ℕ, ◌≤◌}
use mathlib.Core.Path.{◌≡◌}
use mathlib.Core.List.{List}
use native.Mathlib.Omega.{arith}
use Rattle.forward.specs.Forward.{Run, bind, sure, roll_back}
use Rattle.meaning.specs.State.{Proto}
use Rattle.store.specs.declared.Step.{Step}
use Rattle.store.specs.declared.Scope.{Scope}
use Rattle.store.specs.Store.{outcome_of, pc_of, constants_of, globals_of, run, goes_on, while_going, Image, Fine}
use Rattle.store.specs.Promise.{Cost, takes, Used, Moves, After}
use Rattle.store.proofs.Runs.{due, promised}
use Rattle.code.specs.Cuts.{rolled_step}
use Rattle.code.proofs.Dropping.{rolled_runs, rolled_image, rolled_fine, rolled_outcome, rolled_code, rolled_least, rolled_pools}
use Rattle.cycle.proofs.Way.{Way}

-- what roll_back leaves, as a step that follows others
pub record Rolls (s : Step) (first : ℕ) (r : Step) : Type 0 where
  pub runs : (w : List ℕ) (p : Scope) (ps : List Proto) → run w p r ps ≡ bind (run w p s ps) (sure (roll_back first))
  pub image : (p : Scope) (o : List ℕ) (ps : List Proto) → Image p o s ps → Image p o r ps
  pub fine : (w : List ℕ) (p : Scope) → Fine w p s → Fine w p r
  pub outcome : outcome_of r ≡ outcome_of s
  pub code : while_going (outcome_of s) (pc_of r ≡ first)
  pub least : first ≤ pc_of s → first ≤ pc_of r
  pub constants : constants_of r ≡ constants_of s
  pub globals : globals_of r ≡ globals_of s

pub rolls : (s : Step) (first : ℕ) {r : Step} → first ≤ pc_of s → r ≡ rolled_step s first → Rolls s first r
rolls s first h e =
    rw e
    (record {
      runs = λ w p ps. rolled_runs s first w p ps h;
      image = rolled_image s first;
      fine = λ w p. rolled_fine s first w p h;
      outcome = rolled_outcome s first;
      code = promised (outcome_of s) (rolled_code s first);
      least = rolled_least s first;
      constants = (rolled_pools s first).0;
      globals = (rolled_pools s first).1;
    })

rolled_moves : {w w2 : List ℕ} {p : Scope} {s s2 r : Step} {u : Cost} → Rolls s2 (pc_of s) r → u.locals ≡ 0 → u.names ≤ u.names_back → Moves w p s w2 p s2 u → Moves w p s w2 p r (takes 0 0 u.visits)
rolled_moves {w} {w2} {p} {s} {s2} {r} {u} x z n m =
    record {
      fine = x.fine w2 p m.fine;
      kept = m.kept;
      back = λ g. m.back (going g);
      used = promised (outcome_of r) (λ g. again (due (outcome_of s2) x.code (going g)) (due (outcome_of s2) m.used (going g)));
      longer = x.least m.longer;
      still = λ y. m.still z;
    }
  where
    going : goes_on (outcome_of r) → goes_on (outcome_of s2)
    going g = rw x.outcome at g

    again : pc_of r ≡ pc_of s → Used w p s w2 p s2 u → Used w p s w2 p r (takes 0 0 u.visits)
    again e h =
        record {
          words = omega (arith, e, m.still z, h.registers);
          locals = omega (arith, m.still z, h.registers);
          names = omega (arith, h.names, x.constants, x.globals);
          registers = h.registers;
          visits = h.visits;
        }

-- where a member stands after it
pub rolled : {t w w2 : List ℕ} {p : Scope} {s s2 r : Step} {k a b : ℕ} {u : Cost} → Rolls s2 (pc_of s) r → u.locals ≡ 0 → u.names ≤ u.names_back → Way t w p s k a b w2 p s2 u → Way t w p s k a b w2 p r (takes 0 0 u.visits)
rolled x z n y = record { ready = y.ready; moves = rolled_moves x z n y.moves; nodes = y.nodes; wide = y.wide; depth = y.depth; block = y.block }

-- what it does
pub next_rolled : {w o : List ℕ} {p : Scope} {s r : Step} {first : ℕ} {y : Run} → Rolls s first r → (a : After w o p s y) → After w o p r (bind (run w p s a.protos) (sure (roll_back first)))
next_rolled {w} {o} {p} x a = record { protos = a.protos; image = x.image p o a.protos a.image; runs = x.runs w p a.protos }
