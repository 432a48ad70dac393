-- The dropped pass costs nothing: its code is cut off, and where it made no local all that stays are registers. Assumes nothing.
use mathlib.Core.Path.{◌≡◌, refl}
use mathlib.Core.List.{List}
use Prim.Native.Nat.{ℕ, ◌+◌, ◌-◌, ◌≤◌}
use native.Mathlib.Omega.{arith}
use lib.ListN.{take}
use Rattle.store.specs.declared.Step.{Step}
use Rattle.store.specs.declared.Scope.{Scope}
use Rattle.store.specs.Table.{tab}
use Rattle.store.specs.Layout.{inst_at}
use Rattle.store.specs.Store.{top_of, outcome_of, pc_of, constants_of, globals_of, functions_of, result_of, state_of, config_of, run, Image, goes_on, Fine}
use Rattle.store.proofs.Tables.{tab_take}
use Rattle.meaning.specs.State.{Proto}
use Rattle.std.specs.Prelude.{Ok, Err}
use Rattle.meaning.specs.Outcome.{Outcome}
use Rattle.forward.specs.Forward.{bind, sure, roll_back}
use Rattle.code.specs.Cuts.{rolled_by, rolled_step}

pub cut_tab : {X : Type 0} (f : ℕ → X) (first k : ℕ) → first ≤ k → take first (tab f k) ≡ tab f first
cut_tab f first k h = let e : k ≡ first + (k - first) = omega arith in rw e (tab_take f first (k - first))

-- ---- what roll_back does, by the outcome

module _ (s : Step) (first : ℕ) where
  abbrev stepped : Outcome → Step
  stepped o = record { outcome = o; pc = pc_of s; constants = constants_of s; globals = globals_of s; functions = functions_of s; result = result_of s }

  runs_by : (o : Outcome) (w : List ℕ) (p : Scope) (ps : List Proto) → first ≤ pc_of s → run w p (rolled_by o (stepped o) first) ps ≡ bind (run w p (stepped o) ps) (sure (roll_back first))
  unfolding run config_of state_of bind roll_back
  runs_by (Ok x) w p ps le = rw (cut_tab (inst_at w (top_of p)) first (pc_of s) le)
  runs_by (Err why) w p ps le = refl

  fine_by : (o : Outcome) (w : List ℕ) (p : Scope) → first ≤ pc_of s → Fine w p (stepped o) → Fine w p (rolled_by o (stepped o) first)
  fine_by (Ok x) w p le fine =
      record {
        sound = fine.sound;
        nested = fine.nested;
        room = omega (arith, fine.room);
        constants = fine.constants;
        globals = fine.globals;
        functions = fine.functions;
        written = fine.written;
        result = omega arith;
      }
  fine_by (Err why) w p le fine = fine

  outcome_by : (o : Outcome) → (rolled_by o (stepped o) first).outcome ≡ o
  outcome_by (Ok x) = refl
  outcome_by (Err why) = refl

  code_by : (o : Outcome) → goes_on o → (rolled_by o (stepped o) first).pc ≡ first
  code_by (Ok x) g = refl
  code_by (Err why) g = absurd g

  least_by : (o : Outcome) → first ≤ pc_of s → first ≤ (rolled_by o (stepped o) first).pc
  least_by (Ok x) le = omega arith
  least_by (Err why) le = le

  pools_by : (o : Outcome) → ((rolled_by o (stepped o) first).constants ≡ constants_of s) × ((rolled_by o (stepped o) first).globals ≡ globals_of s)
  pools_by (Ok x) = (refl, refl)
  pools_by (Err why) = (refl, refl)

  image_by_case : (x : Outcome) (p : Scope) (o : List ℕ) (ps : List Proto) → Image p o (stepped x) ps → Image p o (rolled_by x (stepped x) first) ps
  image_by_case (Ok x) p o ps i = i
  image_by_case (Err why) p o ps i = i

  -- no word changes, so that this holds of any
  pub rolled_runs : (w : List ℕ) (p : Scope) (ps : List Proto) → first ≤ pc_of s → run w p (rolled_step s first) ps ≡ bind (run w p s ps) (sure (roll_back first))
  rolled_runs = runs_by (outcome_of s)

  pub rolled_fine : (w : List ℕ) (p : Scope) → first ≤ pc_of s → Fine w p s → Fine w p (rolled_step s first)
  rolled_fine = fine_by (outcome_of s)

  pub rolled_image : (p : Scope) (o : List ℕ) (ps : List Proto) → Image p o s ps → Image p o (rolled_step s first) ps
  rolled_image = image_by_case (outcome_of s)

  pub rolled_outcome : (rolled_step s first).outcome ≡ outcome_of s
  rolled_outcome = outcome_by (outcome_of s)

  pub rolled_code : goes_on (outcome_of s) → (rolled_step s first).pc ≡ first
  rolled_code = code_by (outcome_of s)

  pub rolled_least : first ≤ pc_of s → first ≤ (rolled_step s first).pc
  rolled_least = least_by (outcome_of s)

  pub rolled_pools : ((rolled_step s first).constants ≡ constants_of s) × ((rolled_step s first).globals ≡ globals_of s)
  rolled_pools = pools_by (outcome_of s)
