-- The bytes say which instructions are entered.
use mathlib.Core.Path.{◌≡◌, refl, sym, ap, ap₂, ◌∙◌}
use mathlib.Core.Bool.{Bool, true, false, ◌||◌, cond}
use mathlib.Core.Option.{Option, none, some}
use mathlib.Core.Logic.{⊎_elim}
use mathlib.Core.List.{List, [], ◌∷◌}
use Prim.Native.Nat.{ℕ, zero, suc, ◌+◌, ◌*◌, ◌<◌, ◌≤◌}
use native.Mathlib.Omega.{arith}
use native.Mathlib.Numerals.{add-one}
use lib.ListN.{length, get_or, set, replicate, length-set, length-replicate}
use lib.Seq.{get_or-set_same, get_or-set_other}
use Rattle.std.proofs.lemmas.List.{get_or-replicate}
use lib.Dec.{eqb, ltb}
use borrow.Author.Tests.{eqb-true, eqb-false, ne_eqb, lt-ltb, le-ltb}
use Rattle.meaning.specs.Opcode.{bx, Jmp, Test, Return, RegisterTryCatch}
use Rattle.meaning.specs.Steps.{target, inst_at}
use Rattle.meaning.specs.declared.Instruction.{Instruction}
use Rattle.meaning.proofs.Lists.{lt_or_le}
use Rattle.meaning.specs.Rules.{some_of, is, leads, entered_from}
use Rattle.meaning.specs.Fields.{word_at}
use Rattle.reader.specs.Laid.{code_in}
use Rattle.reader.proofs.Scanned.{code_at}
use Rattle.reader.proofs.Scanned.{byte_at}
use Rattle.reader.specs.Marks.{first_lead, second_lead, mark, entered_by, Entered}

pub or_false : (x : Bool) → x || false ≡ x
or_false true = refl
or_false false = refl

-- the two leads are the steps
pub leads_are : (x : Instruction) (i j : ℕ) → some_of (is j) (leads i x) ≡ (is j (first_lead x.opcode (bx x) i) || is j (second_lead x.opcode (bx x) i))
unfolding some_of leads
leads_are x i j = go (eqb x.opcode Jmp) refl (eqb x.opcode Return) refl (eqb x.opcode Test) refl (eqb x.opcode RegisterTryCatch) refl
  where
    go : (a : Bool) → eqb x.opcode Jmp ≡ a → (r : Bool) → eqb x.opcode Return ≡ r → (t : Bool) → eqb x.opcode Test ≡ t → (k : Bool) → eqb x.opcode RegisterTryCatch ≡ k
        → some_of (is j) (cond a (target i (bx x) ∷ []) (cond r [] (some (i + 1) ∷ cond t (some (i + 2) ∷ []) (cond k (some (i + bx x) ∷ []) []))))
        ≡ (is j (cond a (target i (bx x)) (cond r none (some (i + 1)))) || is j (cond t (some (i + 2)) (cond k (some (i + bx x)) none)))
    go true p r q true s k u = absurd (let e = eqb-true x.opcode Jmp p in let f = eqb-true x.opcode Test s in omega arith)
    go true p r q false s true u = absurd (let e = eqb-true x.opcode Jmp p in let f = eqb-true x.opcode RegisterTryCatch u in omega arith)
    go true p r q false s false u = refl
    go false p true q true s k u = absurd (let e = eqb-true x.opcode Return q in let f = eqb-true x.opcode Test s in omega arith)
    go false p true q false s true u = absurd (let e = eqb-true x.opcode Return q in let f = eqb-true x.opcode RegisterTryCatch u in omega arith)
    go false p true q false s false u = refl
    go false p false q true s k u = ap (λ (b : Bool). eqb (i + 1) j || b) (or_false (eqb (i + 2) j))
    go false p false q false s true u = ap (λ (b : Bool). eqb (i + 1) j || b) (or_false (eqb (i + bx x) j))
    go false p false q false s false u = refl

-- one place marked
mark_at : (m : List ℕ) (o : Option ℕ) (j : ℕ) → j < length m → get_or (mark m o) j 0 ≡ cond (is j o) 1 (get_or m j 0)
mark_at m none j l = refl
mark_at m (some k) j l = ⊎_elim
    (λ (q : k < length m). rw (lt-ltb k (length m) q) (same (eqb k j) refl))
    (λ (q : length m ≤ k). rw (le-ltb k (length m) q, ne_eqb k j (λ e. omega arith)) refl)
    (lt_or_le k (length m))
  where
    same : (b : Bool) → eqb k j ≡ b → get_or (set m k 1) j 0 ≡ cond (eqb k j) 1 (get_or m j 0)
    same true e = rw e (rw (sym (eqb-true k j e)) (get_or-set_same m k 1 0 (omega (arith, eqb-true k j e))))
    same false e = rw e (get_or-set_other m k j 1 0 (λ z. eqb-false k j e (sym z)))

pub mark_length : (m : List ℕ) (o : Option ℕ) → length (mark m o) ≡ length m
mark_length m none = refl
mark_length m (some k) = go (ltb k (length m))
  where
    go : (b : Bool) → length (cond b (set m k 1) m) ≡ length m
    go true = length-set m k 1
    go false = refl

-- after k instructions
pub record Marked (code : List Instruction) (n k : ℕ) (m : List ℕ) : Type 0 where
  pub size : length m ≡ n
  pub each : (j : ℕ) → j < n → get_or m j 0 ≡ cond (entered_by code k j) 1 0

cond_or : (a b c : Bool) → cond b 1 (cond c 1 (cond a 1 0)) ≡ cond {A = ℕ} (a || (c || b)) 1 0
cond_or true true c = refl
cond_or true false true = refl
cond_or true false false = refl
cond_or false true true = refl
cond_or false true false = refl
cond_or false false true = refl
cond_or false false false = refl

pub marked_more : (code : List Instruction) (n k : ℕ) (m : List ℕ) → Marked code n k m
    → (a b : Option ℕ) → ((j : ℕ) → j < n → some_of (is j) (leads k (inst_at code k)) ≡ (is j a || is j b))
    → (m' m'' : List ℕ) → m' ≡ mark m a → m'' ≡ mark m' b → Marked code n (k + 1) m''
unfolding entered_by
marked_more code n k m v a b both m' m'' e e'' = record {
  size = ap length e'' ∙ mark_length m' b ∙ ap length e ∙ mark_length m a ∙ v.size;
  each = λ j h.
      let one : get_or m' j 0 ≡ cond (is j a) 1 (cond (entered_by code k j) 1 0) =
      ap (λ (y : List ℕ). get_or y j 0) e ∙ mark_at m a j (omega (arith, v.size)) ∙ ap (λ (y : ℕ). cond (is j a) 1 y) (v.each j h) in
      let two : get_or m'' j 0 ≡ cond (is j b) 1 (get_or m' j 0) =
      ap (λ (y : List ℕ). get_or y j 0) e'' ∙ mark_at m' b j (omega (arith, ap length e, mark_length m a, v.size)) in
      two ∙ ap (λ (y : ℕ). cond (is j b) 1 y) one
      ∙ cond_or (entered_by code k j) (is j b) (is j a)
      ∙ ap (λ (y : Bool). cond (entered_by code k j || y) 1 0) (sym (both j h))
      ∙ ap (λ (y : ℕ). cond (entered_by code y j) 1 0) (sym (add-one k));
}

-- all of them: the same from an index b on
by_from : (b : ℕ) → List Instruction → (k j : ℕ) → Bool
by_from b code zero j = false
by_from b code (suc k) j = by_from b code k j || some_of (is j) (leads (b + k) (inst_at code k))

or_assoc : (a b c : Bool) → ((a || b) || c) ≡ (a || (b || c))
or_assoc true b c = refl
or_assoc false b c = refl

leads_same : (j a b : ℕ) (x : Instruction) → a ≡ b → some_of (is j) (leads a x) ≡ some_of (is j) (leads b x)
leads_same j a b x e = ap (λ (i : ℕ). some_of (is j) (leads i x)) e

by_first : (b : ℕ) (x : Instruction) (xs : List Instruction) (k j : ℕ) → by_from b (x ∷ xs) (suc k) j ≡ (some_of (is j) (leads b x) || by_from (b + 1) xs k j)
unfolding by_from
by_first b x xs zero j = leads_same j (b + 0) b x (omega arith) ∙ sym (or_false _)
by_first b x xs (suc k) j =
    ap₂ (λ (y z : Bool). y || z) (by_first b x xs k j) (leads_same j (b + suc k) (b + 1 + k) (inst_at xs k) (omega arith))
    ∙ or_assoc (some_of (is j) (leads b x)) (by_from (b + 1) xs k j) (some_of (is j) (leads (b + 1 + k) (inst_at xs k)))

by_all : (b : ℕ) (xs : List Instruction) (j : ℕ) → by_from b xs (length xs) j ≡ entered_from b xs j
unfolding entered_from by_from
by_all b [] j = refl
by_all b (x ∷ xs) j = by_first b x xs (length xs) j ∙ ap (λ (y : Bool). some_of (is j) (leads b x) || y) (by_all (b + 1) xs j)

by_zero : (code : List Instruction) (k j : ℕ) → entered_by code k j ≡ by_from 0 code k j
unfolding entered_by by_from
by_zero code zero j = refl
by_zero code (suc k) j = ap₂ (λ (y z : Bool). y || z) (by_zero code k j) (leads_same j k (0 + k) (inst_at code k) (omega arith))

pub marked_start : (code : List Instruction) (n : ℕ) → Marked code n 0 (replicate n 0)
unfolding entered_by
marked_start code n = record { size = length-replicate n 0; each = λ j h. get_or-replicate n j 0 0 h }

pub marked_end : (code : List Instruction) (n k : ℕ) (m : List ℕ) → k ≡ length code → Marked code n k m → Entered code n m
marked_end code n k m e v = record { each = λ j h. v.each j h ∙ ap (λ (y : Bool). cond y 1 0) (ap (λ (y : ℕ). entered_by code y j) e ∙ by_zero code (length code) j ∙ by_all 0 code j) }

pub code_length : (s : List ℕ) (tag span at n : ℕ) → length (code_in s tag span at n) ≡ n
unfolding code_in
code_length s tag span at zero = refl
code_length s tag span at (suc n) = ap suc (code_length s tag span (at + span) n)

-- what the code reads of instruction i
module _ (s : List ℕ) (tag span at n i : ℕ) (h : i < n) where
  pub opcode_there : (inst_at (code_in s tag span at n) i).opcode ≡ get_or s (at + i * span + 3) 0
  opcode_there = ap (λ (x : Instruction). x.opcode) (code_at s tag span at n i h) ∙ byte_at s (at + i * span + 3) 0 (at + i * span + 3) (omega arith)

  pub a_there : (inst_at (code_in s tag span at n) i).a ≡ get_or s (at + i * span + 4) 0
  a_there = ap (λ (x : Instruction). x.a) (code_at s tag span at n i h) ∙ byte_at s (at + i * span + 3) 1 (at + i * span + 4) (omega arith)

  pub bx_there : bx (inst_at (code_in s tag span at n) i) ≡ word_at s (at + i * span + 5)
  bx_there = ap bx (code_at s tag span at n i h) ∙ ap₂ (λ (x y : ℕ). x * 256 + y)
      (byte_at s (at + i * span + 3) 2 (at + i * span + 5) (omega arith)) (byte_at s (at + i * span + 3) 3 (at + i * span + 5 + 1) (omega arith))
