-- The tests are the facts of demand 3: an instruction that passes, and is not the one that is let pass, has them; one that has them, with an opcode that is written, passes.
use mathlib.Core.Path.{◌≡◌, refl, sym, ap, ◌∙◌}
use mathlib.Core.Bool.{Bool, true, false, ◌&&◌, ◌||◌, cond}
use mathlib.Core.Option.{Option, none, some}
use mathlib.Core.List.{List, [], ◌∷◌}
use Prim.Native.Nat.{ℕ, zero, suc, ◌+◌, ◌<◌}
use native.Mathlib.Omega.{arith}
use lib.ListN.{length}
use lib.Dec.{eqb, ltb}
use borrow.Author.Tests.{eqb-true, eqb-false, eq-eqb, ne_eqb, ltb-true, lt-ltb}
use Rattle.meaning.specs.Opcode.{opcodes_written, bx, Jmp, Test, Return, Call, LoadK, GetUpval, Closure, RegisterTryCatch}
use Rattle.meaning.specs.Constant.{Constant, number, text, other}
use Rattle.meaning.specs.State.{Proto, among}
use Rattle.meaning.specs.Steps.{target, inst_at, StepOf01, next, jump, skip, handler}
use Rattle.meaning.specs.Safety.{met, name_due, IsText, All, Holds, Fits, Inside, Facts}
use Rattle.meaning.specs.declared.Instruction.{Instruction}
use Rattle.meaning.proofs.Lists.{and_left, and_right, false_true}
use Rattle.meaning.specs.Rules.{all, passes_at, inside, leads, let_pass, if_opcode, capture_fits, is_text, lawful}

-- ---- lists

module _ {A : Type 0} (p : A → Bool) (P : A → Type 0) where
  all_are : ((x : A) → p x ≡ true → P x) → (xs : List A) → all p xs ≡ true → All P xs
  unfolding all
  all_are f [] e = tt
  all_are f (x ∷ xs) e = (f x (and_left (p x) _ e), all_are f xs (and_right (p x) _ e))

  passes_are : ((x : A) → p x ≡ true → P x) → (xs : List A) (i : ℕ) → passes_at p xs i ≡ true → Holds P xs i
  unfolding passes_at
  passes_are f [] i e = absurd (false_true e)
  passes_are f (x ∷ xs) zero e = f x e
  passes_are f (x ∷ xs) (suc i) e = passes_are f xs i e

  are_all : ((x : A) → P x → p x ≡ true) → (xs : List A) → All P xs → all p xs ≡ true
  unfolding all
  are_all f [] e = refl
  are_all f (x ∷ xs) e = rw (f x e.0) (are_all f xs e.1)

  are_passes : ((x : A) → P x → p x ≡ true) → (xs : List A) (i : ℕ) → Holds P xs i → passes_at p xs i ≡ true
  unfolding passes_at
  are_passes f [] i e = absurd e
  are_passes f (x ∷ xs) zero e = f x e
  are_passes f (x ∷ xs) (suc i) e = are_passes f xs i e

text_is : (c : Constant) → is_text c ≡ true → IsText c
text_is (number b) e = absurd (false_true e)
text_is (text n) e = tt
text_is (other w) e = absurd (false_true e)

is_a_text : (c : Constant) → IsText c → is_text c ≡ true
is_a_text (number b) e = absurd e
is_a_text (text n) e = refl
is_a_text (other w) e = absurd e

inside_is : (n : ℕ) (o : Option ℕ) → inside n o ≡ true → Inside n o
inside_is n none e = absurd (false_true e)
inside_is n (some i) e = ltb-true i n e

is_inside : (n : ℕ) (o : Option ℕ) → Inside n o → inside n o ≡ true
is_inside n none e = absurd e
is_inside n (some i) e = lt-ltb i n e

-- ---- steps

module _ (n i : ℕ) (x : Instruction) (stay : all (inside n) (leads i x) ≡ true) where
  pub next_in : (x.opcode ≡ Jmp → ⊥) → (x.opcode ≡ Return → ⊥) → i + 1 < n
  unfolding all leads
  next_in j r = ltb-true (i + 1) n (and_left _ _ (rw (ne_eqb x.opcode Jmp j, ne_eqb x.opcode Return r) at stay))

  pub skip_in : x.opcode ≡ Test → i + 2 < n
  unfolding all leads
  skip_in t = ltb-true (i + 2) n (and_left _ _ (and_right (ltb (i + 1) n) _ (rw (ne_eqb x.opcode Jmp (λ e. omega arith), ne_eqb x.opcode Return (λ e. omega arith), eq-eqb x.opcode Test t) at stay)))

  pub jump_in : x.opcode ≡ Jmp → inside n (target i (bx x)) ≡ true
  unfolding all leads
  jump_in j = and_left _ _ (rw (eq-eqb x.opcode Jmp j) at stay)

  pub handler_in : x.opcode ≡ RegisterTryCatch → i + bx x < n
  unfolding all leads
  handler_in t = ltb-true (i + bx x) n (and_left _ _ (and_right (ltb (i + 1) n) _ (rw (ne_eqb x.opcode Jmp (λ e. omega arith), ne_eqb x.opcode Return (λ e. omega arith), ne_eqb x.opcode Test (λ e. omega arith), eq-eqb x.opcode RegisterTryCatch t) at stay)))

pub steps_inside : (code : List Instruction) (i : ℕ) → all (inside (length code)) (leads i (inst_at code i)) ≡ true → (o : Option ℕ) → StepOf01 code i o → Inside (length code) o
steps_inside code i stay _ (next h j r) = next_in (length code) i (inst_at code i) stay j r
steps_inside code i stay _ (jump h e) = inside_is (length code) (target i (bx (inst_at code i))) (jump_in (length code) i (inst_at code i) stay e)
steps_inside code i stay _ (skip h e) = skip_in (length code) i (inst_at code i) stay e
steps_inside code i stay _ (handler h e) = handler_in (length code) i (inst_at code i) stay e

-- ---- the facts

if_true : (x : Instruction) (o : ℕ) (b : Bool) → if_opcode x o b ≡ true → x.opcode ≡ o → b ≡ true
if_true x o b e q = rw (eq-eqb x.opcode o q) at e

or_left : (a b : Bool) → (a || b) ≡ true → b ≡ false → a ≡ true
or_left true b e f = refl
or_left false b e f = absurd (false_true (sym f ∙ e))

module _ (ks : List Constant) (earlier : List Proto) (p : Proto) (i : ℕ) where
  abbrev x : Instruction
  x = inst_at p.code i

  -- no step leads out
  pub lawful_stays : lawful ks earlier p i x ≡ true → all (inside (length p.code)) (leads i x) ≡ true
  unfolding lawful
  lawful_stays e = and_left _ _ (and_right (among x.opcode opcodes_written) _ e)

  -- theorem (d), of one instruction
  pub lawful_facts : lawful ks earlier p i x ≡ true → let_pass p i x ≡ false → Facts ks earlier p i x
  unfolding lawful
  lawful_facts e spared =
      let e1 = and_right (among x.opcode opcodes_written) _ e in
      let e2 = and_right (all (inside (length p.code)) (leads i x)) _ e1 in
      let e3 = and_right (if_opcode x Jmp (eqb x.a 0)) _ e2 in
      let e4 = and_right (all (λ r. ltb r p.registers) (met x) || let_pass p i x) _ e3 in
      let e5 = and_right (if_opcode x Call (ltb 0 x.b && ltb 0 x.c)) _ e4 in
      let e6 = and_right (if_opcode x GetUpval (ltb x.b (length p.captures))) _ e5 in
      let e7 = and_right (if_opcode x Closure (passes_at (λ q. all (capture_fits p.registers (length p.captures)) q.captures) earlier (bx x))) _ e6 in
      record {
        steps = steps_inside p.code i (and_left _ _ e1);
        jump = λ q. eqb-true x.a 0 (if_true x Jmp _ (and_left _ _ e2) q);
        registers = all_are (λ r. ltb r p.registers) (λ r. r < p.registers) (λ r q. ltb-true r p.registers q) (met x) (or_left _ _ (and_left _ _ e3) spared);
        call = λ q. let b = if_true x Call (ltb 0 x.b && ltb 0 x.c) (and_left _ _ e4) q in (ltb-true 0 x.b (and_left _ _ b), ltb-true 0 x.c (and_right (ltb 0 x.b) _ b));
        capture = λ q. ltb-true x.b (length p.captures) (if_true x GetUpval _ (and_left _ _ e5) q);
        closure = λ q. passes_are _ _ (λ r s. all_are (capture_fits p.registers (length p.captures)) (Fits p.registers (length p.captures)) (λ c t. ltb-true c.index (cond c.is_local p.registers (length p.captures)) t) r.captures s) earlier (bx x) (if_true x Closure _ (and_left _ _ e6) q);
        constant = λ q. ltb-true (bx x) (length ks) (if_true x LoadK _ (and_left _ _ e7) q);
        name = λ q. passes_are is_text IsText text_is ks (bx x) (named (among x.opcode name_due) q (and_right (if_opcode x LoadK (ltb (bx x) (length ks))) _ e7));
      }
    where
      named : (b : Bool) → b ≡ true → cond b (passes_at is_text ks (bx x)) true ≡ true → passes_at is_text ks (bx x) ≡ true
      named true q e = e
      named false q e = absurd (false_true q)

  -- the other way
  if_so : (o : ℕ) (b : Bool) → (x.opcode ≡ o → b ≡ true) → if_opcode x o b ≡ true
  if_so o b f = go (eqb x.opcode o) refl
    where
      go : (t : Bool) → eqb x.opcode o ≡ t → cond t b true ≡ true
      go true q = f (eqb-true x.opcode o q)
      go false q = refl

  leads_inside : i < length p.code → ((o : Option ℕ) → StepOf01 p.code i o → Inside (length p.code) o) → all (inside (length p.code)) (leads i x) ≡ true
  unfolding all leads
  leads_inside h f = go (eqb x.opcode Jmp) refl (eqb x.opcode Return) refl (eqb x.opcode Test) refl (eqb x.opcode RegisterTryCatch) refl
    where
      go : (j : Bool) → eqb x.opcode Jmp ≡ j → (r : Bool) → eqb x.opcode Return ≡ r → (t : Bool) → eqb x.opcode Test ≡ t → (k : Bool) → eqb x.opcode RegisterTryCatch ≡ k
          → all (inside (length p.code)) (cond j (target i (bx x) ∷ []) (cond r [] (some (i + 1) ∷ cond t (some (i + 2) ∷ []) (cond k (some (i + bx x) ∷ []) [])))) ≡ true
      go true qj r qr t qt k qk = rw (is_inside (length p.code) (target i (bx x)) (f (target i (bx x)) (jump h (eqb-true x.opcode Jmp qj)))) refl
      go false qj true qr t qt k qk = refl
      go false qj false qr true qt k qk = rw (lt-ltb (i + 1) (length p.code) (f (some (i + 1)) (next h (eqb-false x.opcode Jmp qj) (eqb-false x.opcode Return qr))), lt-ltb (i + 2) (length p.code) (f (some (i + 2)) (skip h (eqb-true x.opcode Test qt)))) refl
      go false qj false qr false qt true qk = rw (lt-ltb (i + 1) (length p.code) (f (some (i + 1)) (next h (eqb-false x.opcode Jmp qj) (eqb-false x.opcode Return qr))), lt-ltb (i + bx x) (length p.code) (f (some (i + bx x)) (handler h (eqb-true x.opcode RegisterTryCatch qk)))) refl
      go false qj false qr false qt false qk = rw (lt-ltb (i + 1) (length p.code) (f (some (i + 1)) (next h (eqb-false x.opcode Jmp qj) (eqb-false x.opcode Return qr)))) refl

  and_two : (a b : Bool) → a ≡ true → b ≡ true → (a && b) ≡ true
  and_two a b p q = ap (λ (t : Bool). t && b) p ∙ q

  pub facts_lawful : i < length p.code → among x.opcode opcodes_written ≡ true → Facts ks earlier p i x → lawful ks earlier p i x ≡ true
  unfolding lawful
  facts_lawful h w f =
      and_two _ _ w
      (and_two _ _ (leads_inside h f.steps)
      (and_two _ _ (if_so Jmp (eqb x.a 0) (λ q. eq-eqb x.a 0 (f.jump q)))
      (and_two _ _ (ap (λ (t : Bool). t || let_pass p i x) (are_all (λ r. ltb r p.registers) (λ r. r < p.registers) (λ r q. lt-ltb r p.registers q) (met x) f.registers))
      (and_two _ _ (if_so Call (ltb 0 x.b && ltb 0 x.c) (λ q. and_two _ _ (lt-ltb 0 x.b (f.call q).0) (lt-ltb 0 x.c (f.call q).1)))
      (and_two _ _ (if_so GetUpval (ltb x.b (length p.captures)) (λ q. lt-ltb x.b (length p.captures) (f.capture q)))
      (and_two _ _ (if_so Closure _ (λ q. are_passes _ _ (λ r s. are_all (capture_fits p.registers (length p.captures)) (Fits p.registers (length p.captures)) (λ c t. lt-ltb c.index (cond c.is_local p.registers (length p.captures)) t) r.captures s) earlier (bx x) (f.closure q)))
      (and_two _ _ (if_so LoadK (ltb (bx x) (length ks)) (λ q. lt-ltb (bx x) (length ks) (f.constant q)))
      (named (among x.opcode name_due) refl))))))))
    where
      named : (b : Bool) → among x.opcode name_due ≡ b → cond b (passes_at is_text ks (bx x)) true ≡ true
      named true q = are_passes is_text IsText is_a_text ks (bx x) (f.name q)
      named false q = refl
