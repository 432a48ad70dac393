-- What the scans do with one packed word: a continue, a break and a jump to the end are set, all else stays. Assumes nothing.
use mathlib.Core.Path.{◌≡◌, refl, sym, ap, ◌∙◌}
use mathlib.Core.Bool.{Bool, true, false, ◌&&◌}
use Prim.Native.Nat.{ℕ, ◌+◌, ◌-◌, ◌*◌, ◌/◌, ◌%◌, ◌<◌}
use native.Mathlib.Omega.{arith}
use lib.Dec.{eqb}
use borrow.Author.Tests.{eqb-true, eq-eqb}
use Rattle.store.specs.Layout.{unpacked}
use Rattle.meaning.specs.Opcode.{inst_bx, Jmp, is_continue, is_break, is_end_jump}
use Rattle.meaning.specs.Chunk.{continue_offset, patch_jump, patch_end, jump_by}
use Rattle.meaning.proofs.Lists.{and_left}
use Rattle.store.specs.Cell.{Packs}
use Rattle.code.specs.Words.{Turns}

-- a jump's opcode
jump_opcode : (x k : ℕ) → eqb (x % 256) 3 && eqb (x / 256 % 256) k ≡ true → x % 256 ≡ 3
jump_opcode x k h = eqb-true (x % 256) 3 (and_left (eqb (x % 256) 3) (eqb (x / 256 % 256) k) h)

-- the low half of a word is the opcode and a
module _ (x k : ℕ) (small : k < 256) where
  pub kind_is : x % 65536 ≡ 3 + 256 * k → eqb (x % 256) 3 && eqb (x / 256 % 256) k ≡ true
  kind_is e = rw (eq-eqb (x % 256) 3 (omega arith), eq-eqb (x / 256 % 256) k (omega arith))

  pub kind_not : ¬ (x % 65536 ≡ 3 + 256 * k) → eqb (x % 256) 3 && eqb (x / 256 % 256) k ≡ false
  kind_not ne = cases (eqb (x % 256) 3) (eqb (x / 256 % 256) k) refl refl
    where
      cases : (b c : Bool) → eqb (x % 256) 3 ≡ b → eqb (x / 256 % 256) k ≡ c → b && c ≡ false
      cases true true p q = absurd (ne (omega (arith, eqb-true (x % 256) 3 p, eqb-true (x / 256 % 256) k q)))
      cases true false p q = refl
      cases false c p q = refl

module _ {x y : ℕ} (goal size i : ℕ) where
  pub turns_continue : is_continue (unpacked x 0) ≡ true → Packs y (inst_bx Jmp 0 (continue_offset goal i)) → Turns x (patch_jump goal size i) y
  turns_continue h packs = record { is = λ m. packs.is m ∙ sym (rw h (ap (λ o. inst_bx o 0 (continue_offset goal i) m) (jump_opcode x 1 h))) }

  pub turns_break : is_continue (unpacked x 0) ≡ false → is_break (unpacked x 0) ≡ true → Packs y (inst_bx Jmp 0 (size - i)) → Turns x (patch_jump goal size i) y
  turns_break n h packs = record { is = λ m. packs.is m ∙ sym (rw (n, h) (ap (λ o. inst_bx o 0 (size - i) m) (jump_opcode x 2 h))) }

-- ---- the word of a jump to the end is 3

pub end_is : (x : ℕ) → x ≡ 3 → is_end_jump (unpacked x 0) ≡ true
end_is x e = rw e

pub turns_end : {x y : ℕ} (size i : ℕ) → x ≡ 3 → Packs y (inst_bx Jmp 0 (size - i)) → Turns x (patch_end size i) y
turns_end size i e packs = record { is = λ m. packs.is m ∙ sym (rw e) }

pub turns_first : {x y : ℕ} (offset : ℕ) → x ≡ 3 → Packs y (inst_bx Jmp 0 offset) → Turns x (λ j. jump_by j offset) y
turns_first offset e packs = record { is = λ m. packs.is m ∙ sym (rw e) }
