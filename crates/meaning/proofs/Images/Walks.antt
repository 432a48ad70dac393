-- Theorem (d): in an image whose tests pass, every walk of the amended steps from the first instruction stands within its prototype, and the facts of
-- demand 3 hold where it stands. A handler that a failure leads to is entered by a step of 01 too, so the exception of E1 is not met there.
use mathlib.Core.Path.{◌≡◌, refl, sym, ap, ◌∙◌, subst}
use mathlib.Core.Bool.{Bool, true, false, not, ◌&&◌, ◌||◌}
use mathlib.Core.Option.{Option, none, some}
use mathlib.Core.List.{List, [], ◌∷◌, ◌++◌, append-nil, append_assoc}
use Prim.Native.Nat.{ℕ, zero, suc, ◌+◌, ◌<◌}
use native.Mathlib.Omega.{arith}
use lib.ListN.{length, get_or, replicate}
use lib.Dec.{eqb, ltb}
use borrow.Author.Tests.{eq-eqb, ne_eqb}
use Rattle.meaning.specs.Opcode.{inst, no_mark, Jmp, Test, Return, RegisterTryCatch}
use Rattle.meaning.specs.Constant.{Constant}
use Rattle.meaning.specs.State.{Proto}
use Rattle.meaning.specs.Steps.{inst_at, opcode_at, StepOf01, next, jump, skip, handler, Amended, ordinary, struck, Walk, here, and_on}
use Rattle.meaning.specs.Safety.{All, Facts, Inside, Stands}
use Rattle.meaning.specs.declared.Instruction.{Instruction}
use Rattle.meaning.proofs.Lists.{false_true}
use Rattle.meaning.specs.Images.{Image}
use Rattle.meaning.specs.Follow.{further}
use Rattle.meaning.specs.Rules.{some_of, inside, leads, is, entered_from, entered, let_pass, lawful, code_tests, proto_tests, first_false}
use Rattle.meaning.specs.Reader.{broken}
use Rattle.meaning.proofs.Safe.Walk.{goes_on, step_from}
use Rattle.meaning.proofs.Images.Lawful.{steps_inside, lawful_stays, lawful_facts}

-- ---- no test fails

none_further : (o : Option ℕ) → further o ≡ none → o ≡ none
none_further none e = refl
none_further (some k) e = absurd (let z : ◌≡◌ {A = ℕ} 0 1 = cc in omega arith)

none_head : (b : Bool) (bs : List Bool) → first_false (b ∷ bs) ≡ none → (b ≡ true) × (first_false bs ≡ none)
unfolding first_false
none_head true bs e = (refl, none_further (first_false bs) e)
none_head false bs e = absurd (let z : ◌≡◌ {A = ℕ} 0 1 = cc in omega arith)

none_later : (a b : List Bool) → first_false (a ++ b) ≡ none → first_false b ≡ none
none_later [] b e = e
none_later (x ∷ a) b e = none_later a b (none_head x (a ++ b) e).1

module _ (ks : List Constant) where
  code_none : (ps : List Proto) (p : Proto) (i : ℕ) (xs : List Instruction) (bs : List Bool) → first_false (code_tests ks ps p i xs ++ bs) ≡ none → (j : ℕ) → j < length xs → (d : Instruction) → lawful ks ps p (i + j) (get_or xs j d) ≡ true
  unfolding code_tests
  code_none ps p i [] bs e j h d = absurd (omega arith)
  code_none ps p i (x ∷ xs) bs e zero h d = subst (λ (m : ℕ). lawful ks ps p m x ≡ true) (let z : i ≡ i + 0 = omega arith in z) (none_head _ _ e).0
  code_none ps p i (x ∷ xs) bs e (suc j) h d = subst (λ (m : ℕ). lawful ks ps p m (get_or xs j d) ≡ true) (let z : i + 1 + j ≡ i + suc j = omega arith in z) (code_none ps p (i + 1) xs bs (none_head _ _ e).1 j (omega arith) d)

  -- `first` stand before them all
  pub tests_none : (first before : List Proto) (p : Proto) (after : List Proto) → first_false (proto_tests ks first (before ++ p ∷ after)) ≡ none → (i : ℕ) → i < length p.code → lawful ks (first ++ before) p i (inst_at p.code i) ≡ true
  unfolding proto_tests
  tests_none first [] p after e i h =
      subst (λ (l : List Proto). lawful ks l p i (inst_at p.code i) ≡ true) (sym (append-nil first))
      (subst (λ (m : ℕ). lawful ks first p m (inst_at p.code i) ≡ true) (let z : 0 + i ≡ i = omega arith in z)
      (code_none first p 0 p.code _ (none_later (replicate (length p.captures) true) _ (none_head _ _ e).1) i h (inst Return 0 0 0 no_mark)))
  tests_none first (q ∷ before) p after e i h =
      subst (λ (l : List Proto). lawful ks l p i (inst_at p.code i) ≡ true) (append_assoc first (q ∷ []) before)
      (tests_none (first ++ q ∷ []) before p after (none_later (code_tests ks first q 0 q.code) _ (none_later (replicate (length q.captures) true) _ (none_head _ _ e).1)) i h)

-- ---- a step enters

or_right : (a b : Bool) → b ≡ true → (a || b) ≡ true
or_right true b e = refl
or_right false b e = e

or_first : (a b : Bool) → a ≡ true → (a || b) ≡ true
or_first true b e = refl
or_first false b e = absurd (false_true e)

enters : (xs : List Instruction) (i j m : ℕ) → j < length xs → some_of (is m) (leads (i + j) (inst_at xs j)) ≡ true → entered_from i xs m ≡ true
unfolding entered_from
enters [] i j m h e = absurd (omega arith)
enters (x ∷ xs) i zero m h e = or_first _ _ (subst (λ (k : ℕ). some_of (is m) (leads k x) ≡ true) (let z : i + 0 ≡ i = omega arith in z) e)
enters (x ∷ xs) i (suc j) m h e = or_right (some_of (is m) (leads i x)) _ (enters xs (i + 1) j m (omega arith) (subst (λ (k : ℕ). some_of (is m) (leads k (inst_at xs j)) ≡ true) (let z : i + suc j ≡ i + 1 + j = omega arith in z) e))

is_self : (m : ℕ) → is m (some m) ≡ true
is_self m = eq-eqb m m refl

-- a step leads where `leads` says
leads_to : (code : List Instruction) (i m : ℕ) (o : Option ℕ) → StepOf01 code i o → o ≡ some m → some_of (is m) (leads i (inst_at code i)) ≡ true
unfolding some_of leads
leads_to code i m _ (next h j r) e = rw (ne_eqb (inst_at code i).opcode Jmp j, ne_eqb (inst_at code i).opcode Return r) (or_first _ _ (ap (is m) e ∙ is_self m))
leads_to code i m _ (jump h j) e = rw (eq-eqb (inst_at code i).opcode Jmp j) (or_first _ _ (ap (is m) e ∙ is_self m))
leads_to code i m _ (skip h t) e =
    rw (ne_eqb (inst_at code i).opcode Jmp (λ q. omega arith), ne_eqb (inst_at code i).opcode Return (λ q. omega arith), eq-eqb (inst_at code i).opcode Test t)
    (or_right (is m (some (i + 1))) _ (or_first _ _ (ap (is m) e ∙ is_self m)))
leads_to code i m _ (handler h t) e =
    rw (ne_eqb (inst_at code i).opcode Jmp (λ q. omega arith), ne_eqb (inst_at code i).opcode Return (λ q. omega arith), ne_eqb (inst_at code i).opcode Test (λ q. omega arith), eq-eqb (inst_at code i).opcode RegisterTryCatch t)
    (or_right (is m (some (i + 1))) _ (or_first _ _ (ap (is m) e ∙ is_self m)))

-- ---- walks

-- what is let pass is not the first instruction, and is not entered
spared_not : (p : Proto) (i : ℕ) → (ltb 0 i && not (entered p.code i)) ≡ false → let_pass p i (inst_at p.code i) ≡ false
unfolding let_pass
spared_not p i e = go (eqb (inst_at p.code i).opcode Return && eqb (inst_at p.code i).a 0) (eqb p.registers 0) (ltb 0 i && not (entered p.code i)) e
  where
    go : (a b c : Bool) → c ≡ false → (a && (b && c)) ≡ false
    go true true c e = e
    go true false c e = refl
    go false b c e = refl

-- of one of several
pub all_at : {A : Type 0} (P : A → Type 0) (before : List A) (x : A) (after : List A) → All P (before ++ x ∷ after) → P x
all_at P [] x after h = h.0
all_at P (y ∷ before) x after h = all_at P before x after h.1

module _ (im : Image) (good : broken im ≡ none) (before : List Proto) (p : Proto) (after : List Proto) (at : im.prototypes ≡ before ++ p ∷ after) where
  pub each : (i : ℕ) → i < length p.code → lawful im.constants before p i (inst_at p.code i) ≡ true
  each = tests_none im.constants [] before p after (subst (λ (l : List Proto). first_false (proto_tests im.constants [] l) ≡ none) at good)

  -- the facts, where an instruction is the first or is entered
  fine : (i : ℕ) → i < length p.code → (ltb 0 i && not (entered p.code i)) ≡ false → Facts im.constants before p i (inst_at p.code i)
  fine i h e = lawful_facts im.constants before p i (each i h) (spared_not p i e)

  entered_not : (i : ℕ) → entered p.code i ≡ true → (ltb 0 i && not (entered p.code i)) ≡ false
  entered_not i e = rw e (go (ltb 0 i))
    where
      go : (b : Bool) → (b && false) ≡ false
      go true = refl
      go false = refl

  -- from any instruction but Return there is a step
  on : (m : ℕ) → m < length p.code → (opcode_at p.code m ≡ Return → ⊥) → (further : Option ℕ) × Amended p.code m further
  on m h r = let g = goes_on p.code m h r in (g.0, ordinary g.1)

  after_step : (j : ℕ) (o : Option ℕ) → StepOf01 p.code j o → Inside (length p.code) o → Stands im.constants before p (Amended p.code) o
  after_step j none s h = absurd h
  after_step j (some m) s h = record {
    place = m;
    there = refl;
    inside = h;
    facts = fine m h (entered_not m (enters p.code 0 j m (step_from p.code j (some m) s) (subst (λ (k : ℕ). some_of (is m) (leads k (inst_at p.code j)) ≡ true) (let z : j ≡ 0 + j = omega arith in z) (leads_to p.code j m (some m) s refl))));
    goes_on = on m h;
  }

  stays : (j : ℕ) (o : Option ℕ) → StepOf01 p.code j o → Inside (length p.code) o
  stays j o s = steps_inside p.code j (lawful_stays im.constants before p j (each j (step_from p.code j o s))) o s

  pub stands : 0 < length p.code → (o : Option ℕ) → Walk (Amended p.code) 0 o → Stands im.constants before p (Amended p.code) o
  stands some-code _ here = record { place = 0; there = refl; inside = some-code; facts = fine 0 some-code refl; goes_on = on 0 some-code }
  stands some-code o (and_on {j = j} w (ordinary s)) = after_step j o s (stays j o s)
  stands some-code o (and_on w (struck k l r h e)) = after_step k o (handler h e) (stays k o (handler h e))
