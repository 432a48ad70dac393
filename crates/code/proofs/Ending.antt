-- A function is left: its prototype is there, its code is cut off, its locals are popped, and the words stand for the function around it. Assumes nothing.
use mathlib.Core.Path.{refl, ap, ◌∙◌}
use mathlib.Core.List.{List}
use Prim.Native.Nat.{ℕ}
use native.Mathlib.Omega.{arith}
use Rattle.store.specs.declared.Step.{Step}
use Rattle.store.specs.declared.Scope.{Scope}
use Rattle.store.specs.Store.{depth_of, block_of, outcome_of, run, inner, deeper, Sound}
use Rattle.store.specs.Promise.{nothing, Popped}
use Rattle.store.specs.Opening.{Leavable}
use Rattle.store.proofs.Regions.{same_count}
use Rattle.store.proofs.Runs.{due, promised}
use Rattle.store.proofs.Leaving.{popped_edge, popped_taken, popped_kept, popped_count}
use Rattle.store.proofs.Inside.{inner_deeper, closed_fine, closed_runs}
use Rattle.meaning.specs.State.{close_function}
use Rattle.forward.specs.Forward.{bind, fwd_unit, leave_function}
use Rattle.forward.proofs.Steps.{bind_assoc}
use Rattle.code.specs.Cuts.{adding, Adds, Leaves, Ends}

module _ {w w' o o' : List ℕ} {p : Scope} {s r : Step} {first node params : ℕ} (here : Leavable w p) (adds : Adds first w o (inner p) s o' r node params) (g : Popped w p w') where
  sound : Sound w (deeper p)
  sound = inner_deeper adds.fine.sound here

  leaves : Leaves first w p s w' r nothing
  leaves =
      let d = adds.fine.sound.deep in
      let e = popped_edge p sound g (block_of p) (omega arith) in
      let t = popped_taken p sound g (depth_of p) (omega arith) in
      record {
        fine = closed_fine adds.fine here g;
        kept = popped_kept p sound g p refl (omega arith) (omega arith);
        back = adds.back;
        used = promised (outcome_of r)
            (λ z.
            let k = due (outcome_of r) adds.code z in
            record { words = omega (arith, e, t, k); locals = omega (arith, e, t); names = omega (arith, adds.constants, adds.globals); registers = omega (arith, t); visits = same_count (popped_count p sound g) });
        longer = adds.longer;
        still = λ z. e;
      }

  pub ends_by : Ends first w o p s w' o' r nothing (leave_function first node params)
  unfolding leave_function
  ends_by =
      record {
        leaves = leaves;
        same = adds.same;
        does = λ ps i.
            let a = adds.does ps i in
            record {
              protos = a.protos;
              image = a.image;
              runs = closed_runs adds.fine here g a.protos
                  ∙ ap (λ z. bind z (fwd_unit close_function)) a.runs
                  ∙ bind_assoc (run w (inner p) s ps) (adding first node params) (fwd_unit close_function);
            };
      }
