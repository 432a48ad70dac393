-- A step that is refused.
use Rattle.std.proofs.Common.{◌≡◌, ℕ, ◌<◌, ◌≤◌, List, refl, arith}
use Rattle.store.specs.declared.Step.{Step}
use Rattle.store.specs.declared.Scope.{Scope}
use Rattle.store.specs.Store.{result_by, refused_step, result_limit, Fine}
use Rattle.store.specs.Promise.{Cost, Moves}
use Rattle.store.proofs.Runs.{kept_refl, goes, due}
use Rattle.store.proofs.Steady.{fine_step}
use Rattle.meaning.specs.declared.Cause.{Cause}
use Rattle.std.specs.Prelude.{Ok, Err}
use Rattle.meaning.specs.Outcome.{Outcome, refusal}

abbrev stepped : Outcome → (pc constants globals functions result : ℕ) → Step
stepped o c k g f r = record { outcome = o; pc = c; constants = k; globals = g; functions = f; result = r }

again_by : (o : Outcome) (c k g f r : ℕ) (cause : Cause) (node : ℕ) {x : Cause} {y : ℕ} → o ≡ Err (refusal x y) → stepped o c k g f r ≡ refused_step (stepped o c k g f r) cause node
again_by (Ok z) c k g f r cause node {x} {y} e = absurd (apart e)
  where
    apart : Ok z ≡ Err (refusal x y) → ⊥
    apart h = let n : ◌≡◌ {A = ℕ} 0 1 = cc in omega arith
again_by (Err why) c k g f r cause node e = refl

pub refused_again : (s : Step) (cause : Cause) (node : ℕ) {x : Cause} {y : ℕ} → s.outcome ≡ Err (refusal x y) → s ≡ refused_step s cause node
refused_again s cause node e = again_by s.outcome s.pc s.constants s.globals s.functions s.result cause node e

pub refused_outcome : (s : Step) (cause : Cause) (node : ℕ) {x : ℕ} → s.outcome ≡ Ok x → (refused_step s cause node).outcome ≡ Err (refusal cause node)
refused_outcome s cause node e = rw e

-- refused now: the words stay
pub refused_moves : {w : List ℕ} {p : Scope} (s : Step) (cause : Cause) (node : ℕ) (u : Cost) {x : ℕ} → Fine w p s → s.outcome ≡ Ok x → Moves w p s w p (refused_step s cause node) u
refused_moves {w} {p} s cause node u h e =
    record {
      fine = fine_step (refused_step s cause node) h (rw e tt) (omega arith) h.constants h.globals refl (rw e (omega arith)) (rw e (omega arith));
      kept = kept_refl w p;
      back = λ g. goes e;
      used = rw e tt;
      longer = omega arith;
      still = λ z. refl;
    }

-- the result of a refused step is a register
small_by : (o : Outcome) (r : ℕ) → r < result_limit o → result_by o r < 255
small_by (Ok x) r h = omega arith
small_by (Err why) r h = h

pub refused_small : {w : List ℕ} {p : Scope} (s : Step) (cause : Cause) (node : ℕ) → Fine w p s → (refused_step s cause node).result < 255
refused_small s cause node h = small_by s.outcome s.result h.result

pub stopped_small : {w : List ℕ} {p : Scope} (s : Step) {k : Cause} {n : ℕ} → Fine w p s → s.outcome ≡ Err (refusal k n) → s.result < 255
stopped_small s h e = rw e at h.result

-- the current function is no ninth while nothing is refused
pub shallow : {w : List ℕ} {p : Scope} (s : Step) {x : ℕ} → Fine w p s → s.outcome ≡ Ok x → p.depth ≤ 7
shallow s h e = due s.outcome h.nested (goes e)
