-- A function inside a member: what is pending in the scope around it stays while the function is lowered, and when the function has left, only what its
-- end takes was used. So a member stands outside again as if nothing had happened between the function's register and its end.
use Prim.Native.Nat.{ℕ, ◌+◌, ◌*◌, ◌≤◌, ◌<◌}
use mathlib.Core.Path.{◌≡◌, refl, ◌∙◌}
use mathlib.Core.List.{List}
use mathlib.Core.Logic.{⊎_elim}
use native.Mathlib.Omega.{arith}
use Rattle.meaning.proofs.Lists.{lt_or_le}
use Rattle.store.specs.declared.Step.{Step}
use Rattle.store.specs.declared.Scope.{Scope}
use Rattle.store.specs.Layout.{registers, edge}
use Rattle.store.specs.Store.{nodes_of, depth_of, block_of, outcome_of, pc_of, goes_on, inner, Kept}
use Rattle.store.specs.Promise.{Cost, both, taken, Roomy, Space, Used, Moves}
use Rattle.store.specs.Opening.{Enters}
use Rattle.store.proofs.Runs.{due, promised, kept_in}
use Rattle.store.proofs.Steady.{taken_by}
use Rattle.code.specs.Cuts.{cut_step, Leaves}
use Rattle.routines.specs.Pieces.{Spare, Owing}
use Rattle.cycle.specs.Cycle.{Ready}

-- a cost with n visits more: those inside the function
abbrev pub visiting : Cost → ℕ → Cost
visiting u n = record { words = u.words; locals = u.locals; names = u.names; words_back = u.words_back; locals_back = u.locals_back; names_back = u.names_back; visits = u.visits + n }

-- the register, which is taken before the function is entered; the function is entered; its inside
module _ {w w1 w2 w4 : List ℕ} {p : Scope} {s s1 s2 s4 : Step} {u1 u : Cost} {node name : ℕ} (m1 : Moves w p s w1 p s1 u1) (e : Enters w1 p s1 w2 s2 node name) (m : Moves w2 (inner p) s2 w4 (inner p) s4 u)
    (z : u.names ≤ u.names_back) where
  edge_around : edge w4 (nodes_of p) (block_of p) ≡ edge w1 (nodes_of p) (block_of p)
  edge_around = m.kept.edges (block_of p) (omega arith) ∙ e.start

  registers_around : (j : ℕ) → j ≤ depth_of p → registers w4 j ≡ registers w1 j
  registers_around j l =
      m.kept.outer j (omega arith)
      ∙ ⊎_elim (λ (h : j < depth_of p). e.leaf.moves.kept.outer j h) (λ (h : depth_of p ≤ j). let z : j ≡ depth_of p = omega arith in rw z e.own) (lt_or_le j (depth_of p))

  taken_around : taken w4 (depth_of p) ≡ taken w1 (depth_of p)
  taken_around = taken_by w1 w4 (depth_of p) registers_around

  used_around : goes_on (outcome_of s4) → Used w p s w4 p (cut_step s4 (pc_of s1)) (visiting u1 u.visits)
  used_around g =
      let h2 = m.back g in
      let i1 = due (outcome_of s1) m1.used (e.leaf.moves.back h2) in
      let i2 = due (outcome_of s2) e.leaf.moves.used h2 in
      let i4 = due (outcome_of s4) m.used g in
      let a = edge_around in
      let b = taken_around in
      record { words = omega (arith, i1.words); locals = omega (arith, i1.locals); names = omega (arith, i1.names, i2.names, i4.names); registers = omega (arith, i1.registers); visits = omega (arith, i1.visits, i2.visits, i4.visits) }

  starts : goes_on (outcome_of s4) → goes_on (outcome_of s)
  starts g = m1.back (e.leaf.moves.back (m.back g))

  -- room outside, as soon as the function is gone
  pub cut_room : {t : List ℕ} {k a b : ℕ} (k' a' b' : ℕ) → Ready t w p s k a b → 8 * k' + a' + u1.words ≤ 8 * k + a + u1.words_back → k' + b' + u1.locals ≤ k + b + u1.locals_back → u1.names ≤ u1.names_back
      → Space w4 p (cut_step s4 (pc_of s1)) k' a' b'
  cut_room {t} {k} {a} {b} k' a' b' r l l' n = record { roomy = promised (outcome_of s4) (λ g. after (used_around g) (due (outcome_of s) r.room.roomy (starts g))) }
    where
      after : Used w p s w4 p (cut_step s4 (pc_of s1)) (visiting u1 u.visits) → Roomy w p s k a b → Roomy w4 p (cut_step s4 (pc_of s1)) k' a' b'
      after i j = record { words = omega (arith, i.words, j.words, l); locals = omega (arith, i.locals, j.locals, l'); globals = omega (arith, i.names, j.globals, n) }

  -- the same, where the name of a global function waits for its constant
  pub cut_owing : {t : List ℕ} {k a b : ℕ} (a' b' x : ℕ) → Ready t w p s k a b → a' + u1.words ≤ 8 * k + a + u1.words_back → b' + u1.locals ≤ k + b + u1.locals_back → u1.names ≤ x + u1.names_back
      → Owing w4 p (cut_step s4 (pc_of s1)) a' b' x
  cut_owing {t} {k} {a} {b} a' b' x r l l' n = record { spare = promised (outcome_of s4) (λ g. after (used_around g) (due (outcome_of s) r.room.roomy (starts g))) }
    where
      after : Used w p s w4 p (cut_step s4 (pc_of s1)) (visiting u1 u.visits) → Roomy w p s k a b → Spare w4 p (cut_step s4 (pc_of s1)) a' b' x
      after i j = record { words = omega (arith, i.words, j.words, l); locals = omega (arith, i.locals, j.locals, l'); globals = omega (arith, i.names, j.globals, n) }

  -- where the function's code begins
  pub begun : pc_of s1 ≤ pc_of s4
  begun = omega (arith, e.leaf.moves.longer, m.longer)

  -- the function's end
  pub ended : {w5 : List ℕ} {s5 : Step} {v : Cost} → Leaves (pc_of s1) w4 p s4 w5 s5 v → Moves w p s w5 p s5 (both (visiting u1 u.visits) v)
  ended {w5} {s5} {v} x =
      record {
        fine = x.fine;
        kept = kept_in refl (omega arith) (omega arith) (kept_in refl (omega arith) (omega arith) (kept_in refl (omega arith) (omega arith) m1.kept e.leaf.moves.kept) outside) x.kept;
        back = λ g. starts (x.back g);
        used = promised (outcome_of s5) (λ g. after (used_around (x.back g)) (due (outcome_of s5) x.used g));
        longer = omega (arith, m1.longer, x.longer begun);
        still = λ y. x.still (omega arith) ∙ edge_around ∙ m1.still (omega arith);
      }
    where
      outside : Kept w2 p w4
      outside = let k = m.kept in record { same = k.same; firsts = λ j l. k.firsts j (omega arith); saves = λ j l. k.saves j (omega arith); outer = λ j l. k.outer j (omega arith); edges = λ j l. k.edges j (omega arith); offsets = k.offsets }

      after : Used w p s w4 p (cut_step s4 (pc_of s1)) (visiting u1 u.visits) → Used w4 p (cut_step s4 (pc_of s1)) w5 p s5 v → Used w p s w5 p s5 (both (visiting u1 u.visits) v)
      after i j = record { words = omega (arith, i.words, j.words); locals = omega (arith, i.locals, j.locals); names = omega (arith, i.names, j.names); registers = omega (arith, i.registers, j.registers); visits = omega (arith, i.visits, j.visits) }
