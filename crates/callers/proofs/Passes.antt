-- "One thing is let pass" (E1): the Return that `let_pass` says is taken wherever it stands. With `lawful_facts` and `facts_lawful` this makes the reader's test
-- of an instruction whole: it has the facts of demand 3, or is that Return.
-- The idea: a Return asks for nothing but its registers, and that it is let pass stands beside them.
use Prim.Native.Nat.{ℕ}
use mathlib.Core.Path.{◌≡◌, refl, ap, ◌∙◌}
use mathlib.Core.Bool.{Bool, true, false, ◌&&◌, ◌||◌, cond}
use mathlib.Core.List.{List}
use lib.ListN.{length}
use lib.Dec.{eqb, ltb}
use borrow.Author.Tests.{eqb-true}
use Rattle.meaning.specs.Opcode.{opcodes_written, bx, LoadK, Jmp, Call, Return, GetUpval, Closure}
use Rattle.meaning.specs.Constant.{Constant}
use Rattle.meaning.specs.State.{Proto, among}
use Rattle.meaning.specs.Safety.{met, name_due}
use Rattle.meaning.specs.Rules.{all, passes_at, leads, inside, let_pass, if_opcode, is_text, lawful}
use Rattle.meaning.specs.declared.Instruction.{Instruction}
use Rattle.meaning.proofs.Lists.{and_left}

or_true : (a : Bool) → (a || true) ≡ true
or_true true = refl
or_true false = refl

and_two : (a b : Bool) → a ≡ true → b ≡ true → (a && b) ≡ true
and_two a b p q = ap (λ (t : Bool). t && b) p ∙ q

return_passes : (p : Proto) (i : ℕ) (x : Instruction) → let_pass p i x ≡ true → eqb x.opcode Return ≡ true
unfolding let_pass
return_passes p i x e = and_left _ _ (and_left _ _ e)

module _ (p : Proto) (i : ℕ) (x : Instruction) (e : let_pass p i x ≡ true) where
  is_return : x.opcode ≡ Return
  is_return = eqb-true x.opcode Return (return_passes p i x e)

  -- it is no other opcode
  other : (k : ℕ) → eqb Return k ≡ false → eqb x.opcode k ≡ false
  other k q = ap (λ (n : ℕ). eqb n k) is_return ∙ q

  off : (k : ℕ) (b : Bool) → eqb Return k ≡ false → if_opcode x k b ≡ true
  off k b q = rw (other k q) refl

  no_step : all (inside (length p.code)) (leads i x) ≡ true
  unfolding all leads
  no_step = rw (other Jmp refl, return_passes p i x e) refl

  pub passes_lawful : (ks : List Constant) (earlier : List Proto) → lawful ks earlier p i x ≡ true
  unfolding lawful
  passes_lawful ks earlier =
      and_two _ _ (ap (λ (n : ℕ). among n opcodes_written) is_return)
      (and_two _ _ no_step
      (and_two _ _ (off Jmp _ refl)
      (and_two _ _ (ap (λ (t : Bool). all (λ r. ltb r p.registers) (met x) || t) e ∙ or_true (all (λ r. ltb r p.registers) (met x)))
      (and_two _ _ (off Call _ refl)
      (and_two _ _ (off GetUpval _ refl)
      (and_two _ _ (off Closure _ refl)
      (and_two _ _ (off LoadK _ refl)
      (ap (λ (n : ℕ). cond (among n name_due) (passes_at is_text ks (bx x)) true) is_return))))))))
