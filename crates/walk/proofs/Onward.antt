-- Where an instruction goes on to: within the prototype, since every step of it stays inside.
use mathlib.Core.Path.{◌≡◌, refl, sym, ◌∙◌}
use mathlib.Core.Bool.{Bool, true, false, cond}
use mathlib.Core.Option.{Option, none, some}
use mathlib.Core.Logic.{⊎_elim}
use Prim.Native.Nat.{ℕ, ◌+◌, ◌<◌, ◌≤◌}
use native.Mathlib.Omega.{arith}
use lib.Dec.{eqb}
use borrow.Author.Tests.{eqb-true, eqb-false, ltb-true, le-ltb, lt-leb}
use Rattle.meaning.specs.Opcode.{bx, Jmp, Test, Return}
use Rattle.meaning.specs.Steps.{target}
use Rattle.meaning.specs.declared.Instruction.{Instruction}
use Rattle.meaning.proofs.Lists.{false_true, lt_or_le}
use Rattle.meaning.proofs.Images.Lawful.{next_in, skip_in, jump_in}
use Rattle.meaning.specs.Rules.{all, inside, leads}
use Rattle.meaning.specs.Paths.{landing}
use Rattle.walk.specs.Turn.{onward}

module _ (n i : ℕ) (x : Instruction) (stay : all (inside n) (leads i x) ≡ true) where
  -- a jump back does not lead before the first instruction
  pub jump_far : 32768 ≤ bx x → x.opcode ≡ Jmp → 65536 ≤ i + bx x
  jump_far h j = ⊎_elim (λ (k : i + bx x < 65536). absurd (false_true (sym (gone k) ∙ jump_in n i x stay j))) (λ (k : 65536 ≤ i + bx x). k) (lt_or_le (i + bx x) 65536)
    where
      gone : i + bx x < 65536 → inside n (target i (bx x)) ≡ false
      gone k = rw (le-ltb (bx x) 32768 h, lt-leb 65536 (i + bx x) k) refl

  lands : (o : Option ℕ) → inside n o ≡ true → landing o < n
  lands none e = absurd (false_true e)
  lands (some j) e = ltb-true j n e

  pub onward_in : (d : ℕ) → (x.opcode ≡ Test → d ≤ 1) → (x.opcode ≡ Return → ⊥) → onward x.opcode (bx x) i d < n
  onward_in d h r = go (eqb x.opcode 4) refl (eqb x.opcode 3) refl
    where
      go : (t : Bool) → eqb x.opcode 4 ≡ t → (j : Bool) → eqb x.opcode 3 ≡ j → cond t (i + 1 + d) (cond j (landing (target i (bx x))) (i + 1)) < n
      go true p j q = omega (arith, skip_in n i x stay (eqb-true x.opcode 4 p), h (eqb-true x.opcode 4 p))
      go false p true q = lands (target i (bx x)) (jump_in n i x stay (eqb-true x.opcode 3 q))
      go false p false q = next_in n i x stay (eqb-false x.opcode 3 q) r
