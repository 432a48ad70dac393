-- What a function has written so far: an instruction behind the others, or over one of them. `Spelled` follows it. Assumes nothing.
use mathlib.Core.Path.{◌≡◌, refl, ap, ap₂, ◌∙◌}
use mathlib.Core.List.{List, [], ◌∷◌, ◌++◌}
use Prim.Native.Nat.{ℕ, ◌+◌, ◌*◌, ◌-◌, ◌<◌, ◌≤◌}
use native.Mathlib.Omega.{arith}
use lib.ListN.{length, set, length-set}
use Rattle.store.specs.Table.{tab}
use Rattle.store.specs.Layout.{inst_at}
use Rattle.store.specs.Cell.{Packs, Wrote}
use Rattle.store.proofs.Regions.{Only, only_refl, only_trans}
use Rattle.store.proofs.Cells.{only_inst, appended, patched}
use Rattle.meaning.specs.declared.Instruction.{Instruction}
use Rattle.code.specs.Words.{Recoded}

-- w' spells the k instructions l, and is w but for code, which lies from a on

pub record Spelled (w w' : List ℕ) (top a k : ℕ) (l : List Instruction) : Type 0 where
  pub only : Only w w' a top
  pub code : tab (inst_at w' top) k ≡ l
  pub room : a + 2 * k ≤ top
  pub long : top ≤ length w'

pub spelled : (w : List ℕ) (top a k : ℕ) → a + 2 * k ≤ top → top ≤ length w → Spelled w w top a k (tab (inst_at w top) k)
spelled w top a k room long = record { only = only_refl w a top; code = refl; room = room; long = long }

module _ {w w' u : List ℕ} {top a k x m : ℕ} {l : List Instruction} {i : ℕ → Instruction} (so_far : Spelled w w' top a k l) (packs : Packs x i) where
  pub spell : Wrote w' top k x m u → a + 2 * (k + 1) ≤ top → Spelled w u top a (k + 1) (l ++ i m ∷ [])
  spell e room =
      rw e.is
      (record {
        only = only_trans so_far.only (only_inst w' top k x m a (omega (arith, room)));
        code = appended w' top k x m (omega (arith, room)) so_far.long ∙ ap₂ (λ t y. t ++ (y ∷ [])) so_far.code (packs.is m);
        room = room;
        long = simp length-set so_far.long;
      })

  pub spell_over : {j : ℕ} → Wrote w' top j x m u → j < k → Spelled w u top a k (set l j (i m))
  spell_over {j} e h =
      let room = so_far.room in
      rw e.is
      (record {
        only = only_trans so_far.only (only_inst w' top j x m a (omega arith));
        code = patched w' top j x m (omega arith) so_far.long k (omega arith) ∙ ap₂ (λ t y. set t j y) so_far.code (packs.is m);
        room = room;
        long = simp length-set so_far.long;
      })

pub spell_anew : {w w' u : List ℕ} {top a k k' : ℕ} {l : List Instruction} {f : List Instruction → List Instruction} → Spelled w w' top a k l → Recoded w' top k k' f u → a + 2 * k' ≤ top → Spelled w u top a k' (f l)
spell_anew {f = f} so_far recoded room =
    record {
      only = only_trans so_far.only (record { length = recoded.same; other = λ i h. recoded.other i (λ j. h (omega arith)) });
      code = recoded.code ∙ ap f so_far.code;
      room = room;
      long = omega (arith, so_far.long, recoded.same);
    }

-- what a function wrote, as its own promise
pub anew : {w w' : List ℕ} {top k k' : ℕ} {l : List Instruction} (f : List Instruction → List Instruction) → Spelled w w' top (top - 2 * k') k' l → l ≡ f (tab (inst_at w top) k) → Recoded w top k k' f w'
anew f written e = record { same = written.only.length; other = written.only.other; code = written.code ∙ e }

pub as_many : {w w' : List ℕ} {top a k j : ℕ} {l : List Instruction} → k ≡ j → Spelled w w' top a k l → Spelled w w' top a j l
as_many e h = rw e at h
