-- A function is left, and calls in the scope around it follow. As on a line (PieceLine.antt) the room that a call asks for and the cost of the whole add up, but the function's code is
-- gone: what is used is measured from the words with the code cut off at `first`.
use Prim.Native.Nat.{ℕ, ◌+◌, ◌%◌, ◌≤◌}
use mathlib.Core.Path.{refl, ap, ◌∙◌}
use mathlib.Core.List.{List}
use native.Mathlib.Omega.{arith}
use Rattle.forward.specs.Forward.{Config, Run}
use Rattle.store.specs.declared.Step.{Step}
use Rattle.store.specs.declared.Scope.{Scope}
use Rattle.store.specs.Layout.{first_local, visited}
use Rattle.store.specs.Store.{nodes_of, top_of, depth_of, outcome_of, goes_on, while_going, Fine}
use Rattle.store.specs.Promise.{Cost, both, live, Used, Leaf}
use Rattle.store.proofs.Runs.{due, promised, kept_in}
use Rattle.store.proofs.Compose.{used_then, taken_few}
use Rattle.code.specs.Cuts.{cut_step, Leaves}
use Rattle.routines.specs.Pieces.{Owing}
use Rattle.routines.proofs.PieceLine.{Left, Within, spare_after}

module _ {first : ℕ} {w w1 : List ℕ} {p : Scope} {s s1 : Step} {u : Cost} (x : Leaves first w p s w1 s1 u) where
  -- one call more
  pub leaves_then : {w2 : List ℕ} {r : Step} {v : Cost} {op : Config → Run} → Leaf w1 p s1 w2 p r v op → Leaves first w p s w2 r (both u v)
  leaves_then {w2} {r} {v} m =
      let y = m.moves in
      record {
        fine = y.fine;
        kept = kept_in refl (omega arith) (omega arith) x.kept y.kept;
        back = λ g. x.back (y.back g);
        used = promised (outcome_of r) (λ g. used_then (due (outcome_of s1) x.used (y.back g)) (due (outcome_of r) y.used g));
        longer = λ h. omega (arith, x.longer h, y.longer);
        still = λ z. y.still (omega arith) ∙ x.still (omega arith);
      }

  -- its cost is no more than v
  pub leaves_within : (v : Cost) → Within u v → Leaves first w p s w1 s1 v
  leaves_within v k =
      record {
        fine = x.fine;
        kept = x.kept;
        back = x.back;
        used = promised (outcome_of s1) (λ g. again (due (outcome_of s1) x.used g));
        longer = x.longer;
        still = λ z. x.still (k.still z);
      }
    where
      again : Used w p (cut_step s first) w1 p s1 u → Used w p (cut_step s first) w1 p s1 v
      again h = record { words = omega (arith, h.words, k.words); locals = omega (arith, h.locals, k.locals); names = omega (arith, h.names, k.names); registers = h.registers; visits = h.visits ∙ ap (λ n. (visited w + n) % 4294967296) k.visits }

  -- what a call asks then
  pub owes_then : {a b e : ℕ} (a' b' e' : ℕ) → Owing w p (cut_step s first) a b e → Left a b e u a' b' e' → Owing w1 p s1 a' b' e'
  owes_then a' b' e' o l = record { spare = promised (outcome_of s1) (λ g. spare_after l (due (outcome_of s1) x.used g) (due (outcome_of s) o.spare (x.back g))) }

  -- a fact that is due then, while nothing is refused
  pub there : {P : Type 0} → (goes_on (outcome_of s1) → P) → while_going (outcome_of s1) P
  there h = promised (outcome_of s1) h

-- eight functions have at most 2,040 registers, so the words that are left are there
pub spare_words : {w : List ℕ} {p : Scope} {s : Step} {a b e : ℕ} → Fine w p s → Owing w p s a b e → goes_on (outcome_of s) → first_local (nodes_of p) + live w p s + a ≤ top_of p
spare_words {w} {p} {s} fine o g = omega (arith, (due (outcome_of s) o.spare g).words, taken_few w (depth_of p), due (outcome_of s) fine.nested g)
