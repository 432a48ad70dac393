-- From finished prototypes to the facts of every instruction, and to walks.
-- The idea: an instruction of the body is fine with i instructions before it and f after it, and the last Return stands beyond those; so
-- where its jumps lead just past the body they lead to that Return. A walk stays inside because each step does.
use Prim.Native.Nat.{ℕ, zero, suc, ◌+◌, ◌≤◌, ◌<◌}
use mathlib.Core.Path.{◌≡◌, refl, sym, ap, ◌∙◌, subst}
use mathlib.Core.Bool.{Bool, true, false, cond, true≢false}
use mathlib.Core.List.{List, [], ◌∷◌, ◌++◌, append-nil, append_assoc}
use mathlib.Core.Option.{Option, none, some}
use native.Mathlib.Nat.{le_refl}
use native.Mathlib.Omega.{arith}
use lib.ListN.{length, length-append}
use lib.Dec.{eqb, leb, ltb}
use borrow.Author.Tests.{eqb-true, eqb-false, ltb-true, ltb-false, leb-false}
use Rattle.meaning.specs.Opcode.{inst, bx, no_mark, Jmp, Test, Call, Return, GetUpval, Closure, LoadK, RegisterTryCatch}
use Rattle.meaning.specs.Constant.{Constant}
use Rattle.meaning.specs.State.{Proto, among}
use Rattle.meaning.specs.Steps.{inst_at, opcode_at, target, StepOf01, next, jump, skip, handler, Amended, ordinary, struck, Walk, here, and_on}
use Rattle.meaning.specs.Safety.{met, name_due, All, Inside, Facts, Safe, Stands}
use Rattle.meaning.specs.declared.Instruction.{Instruction}
use Rattle.meaning.proofs.Safe.Obeys.{View, Obeys, ObeysAs, Kind, kind, name_of, Sane, Leap, lands, continues, breaks, Lands, Any, holds_below, obeys_at}
use Rattle.meaning.proofs.Safe.Patches.{choice}
use Rattle.meaning.proofs.Safe.Sound.{Finished, Protos, proto_view}

-- ---- one instruction

abbrev last_return : Instruction
last_return = inst Return 0 0 0 no_mark

-- an instruction of a prototype of n instructions: fine, with f more after it and then the last Return; or that Return itself
data Placed (v : View) (n i : ℕ) (x : Instruction) : Type 0 where
  within : (f : ℕ) → i + suc f < n → Obeys v i f x → Placed v n i x
  ending : x ≡ last_return → Placed v n i x

target_inside : (n i f w : ℕ) → i + suc f < n → Lands i f w → Inside n (target i w)
target_inside n i f w h k =
    choice (Inside n) (ltb w 32768) (λ e. let r = k.0 (ltb-true w 32768 e) in omega (arith, r)) λ e.
    let big = ltb-false w 32768 e in let r = k.1 big in
    choice (Inside n) (leb 65536 (i + w)) (λ e'. omega (arith, r)) (λ e'. absurd (let l = leb-false 65536 (i + w) e' in omega (arith, l, r)))

-- outside all loops a jump is finished
leap_inside : (n i f : ℕ) (x : Instruction) → i + suc f < n → n ≤ 32767 → Leap 0 i f x → (x.a ≡ 0) × Inside n (target i (bx x))
leap_inside n i f x h s (lands z k) = (z, target_inside n i f (bx x) h (k (omega arith)))
leap_inside n i f x h s (continues z k) = absurd (omega arith)
leap_inside n i f x h s (breaks z k) = absurd (omega arith)

cond_true : {A : Type 0} (b : Bool) (x y : A) → b ≡ true → cond b x y ≡ x
cond_true true x y e = refl
cond_true false x y e = absurd (true≢false (sym e))

-- an instruction that is fine, with f more after it and then the last Return
module _ (cs : List Constant) (earlier : List Proto) (p : Proto) (i f : ℕ) (h : i + suc f < length p.code) (s : length p.code ≤ 32767) (k : Obeys (proto_view cs earlier p) i f (inst_at p.code i)) where
  -- what it needs, if its opcode is that
  needs : (op : ℕ) → opcode_at p.code i ≡ op → ObeysAs (kind op) (proto_view cs earlier p) i f (inst_at p.code i)
  needs op e = subst (λ (o : ℕ). ObeysAs (kind o) (proto_view cs earlier p) i f (inst_at p.code i)) e k.1

  needs_name : among (opcode_at p.code i) name_due ≡ true → ObeysAs name_of (proto_view cs earlier p) i f (inst_at p.code i)
  needs_name e = subst (λ (κ : Kind). ObeysAs κ (proto_view cs earlier p) i f (inst_at p.code i)) (cond_true (among (opcode_at p.code i) name_due) _ _ e) k.1

  steps_inside : (o : Option ℕ) → StepOf01 p.code i o → Inside (length p.code) o
  steps_inside o (next l j r) = omega arith
  steps_inside o (jump l e) = (leap_inside _ i f _ h s (needs Jmp e)).1
  steps_inside o (skip l e) = let r = needs Test e in omega (arith, r)
  steps_inside o (handler l e) = let r = needs RegisterTryCatch e in omega (arith, r)

  fine_facts : Facts cs earlier p i (inst_at p.code i)
  fine_facts =
      record {
        steps = steps_inside;
        jump = λ e. (leap_inside _ i f _ h s (needs Jmp e)).0;
        registers = k.0;
        call = needs Call;
        capture = needs GetUpval;
        closure = needs Closure;
        constant = λ e. holds_below Any cs _ (needs LoadK e);
        name = needs_name;
      }

-- none after Return
pub return_ends : (code : List Instruction) (i : ℕ) (o : Option ℕ) → opcode_at code i ≡ Return → StepOf01 code i o → ⊥
return_ends code i o z (next l j r) = r z
return_ends code i o z (jump l e) = omega arith
return_ends code i o z (skip l e) = omega arith
return_ends code i o z (handler l e) = omega arith

return_facts : (cs : List Constant) (earlier : List Proto) (p : Proto) (i : ℕ) (x : Instruction) → inst_at p.code i ≡ x → x ≡ last_return → Facts cs earlier p i x
return_facts cs earlier p i x q z =
    let op : x.opcode ≡ Return = ap (λ (y : Instruction). y.opcode) z in
    record {
      steps = λ o s. absurd (return_ends p.code i o (ap (λ (y : Instruction). y.opcode) q ∙ op) s);
      jump = λ e. absurd (omega arith);
      registers = subst (λ (y : Instruction). All (λ r. r < p.registers) (met y)) (sym z) tt;
      call = λ e. absurd (omega arith);
      capture = λ e. absurd (omega arith);
      closure = λ e. absurd (omega arith);
      constant = λ e. absurd (omega arith);
      name = λ e. absurd (true≢false (sym e ∙ ap (λ (o : ℕ). among o name_due) op));
    }

placed_facts : (cs : List Constant) (earlier : List Proto) (p : Proto) (i : ℕ) → length p.code ≤ 32767
    → Placed (proto_view cs earlier p) (length p.code) i (inst_at p.code i) → Facts cs earlier p i (inst_at p.code i)
placed_facts cs earlier p i s (within f h k) = fine_facts cs earlier p i f h s k
placed_facts cs earlier p i s (ending z) = return_facts cs earlier p i _ refl z

-- ---- one prototype

-- the i-th instruction of a sane body, which stands b instructions after the start
placed_at : (v : View) (n b : ℕ) (xs : List Instruction) (i j : ℕ) → j ≡ b + i → b + length xs < n → Sane v b 0 xs → i < length (xs ++ last_return ∷ []) → Placed v n j (inst_at (xs ++ last_return ∷ []) i)
placed_at v n b [] zero j e h k l = ending refl
placed_at v n b [] (suc i) j e h k l = absurd (omega arith)
placed_at v n b (x ∷ xs) zero j e h k l = within (length xs + 0) (omega arith) (obeys_at v b _ j _ x (omega arith) (le_refl _) k.0)
placed_at v n b (x ∷ xs) (suc i) j e h k l = placed_at v n (suc b) xs i j (omega arith) (omega arith) k.1 (omega arith)

pub finished_safe : (cs : List Constant) (earlier : List Proto) (p : Proto) → Finished cs earlier p → Safe cs earlier p
finished_safe cs earlier p h =
    let n : length p.code ≡ length h.body + 1 = ap (λ (l : List Instruction). length l) h.code ∙ length-append h.body (last_return ∷ []) in
    let short = h.short in
    record {
      short = omega (arith, n, short);
      last = (h.body, h.code);
      facts = λ i k.
          placed_facts cs earlier p i (omega (arith, n, short))
          (subst (λ (l : List Instruction). Placed (proto_view cs earlier p) (length p.code) i (inst_at l i)) (sym h.code)
          (placed_at (proto_view cs earlier p) (length p.code) 0 h.body i i (omega arith) (omega (arith, n)) h.sane (subst (λ (l : List Instruction). i < length l) h.code k)));
    }

-- each of several
pub protos_safe : (cs : List Constant) (earlier before : List Proto) (p : Proto) (after : List Proto) → Protos cs earlier (before ++ p ∷ after) → Safe cs (earlier ++ before) p
protos_safe cs earlier [] p after h = subst (λ (l : List Proto). Safe cs l p) (sym (append-nil earlier)) (finished_safe cs earlier p h.0)
protos_safe cs earlier (q ∷ before) p after h =
    subst (λ (l : List Proto). Safe cs l p) (append_assoc earlier (q ∷ []) before) (protos_safe cs (earlier ++ q ∷ []) before p after h.1)

-- ---- walks

by_test {ℓ} : {A : Type ℓ} (b : Bool) → (b ≡ true → A) → (b ≡ false → A) → A
by_test true h k = h refl
by_test false h k = k refl

-- from any instruction but Return there is a step
pub goes_on : (code : List Instruction) (i : ℕ) → i < length code → (opcode_at code i ≡ Return → ⊥) → (o : Option ℕ) × StepOf01 code i o
goes_on code i h r = by_test (eqb (opcode_at code i) Jmp) (λ e. (target i (bx (inst_at code i)), jump h (eqb-true _ _ e))) (λ e. (some (i + 1), next h (eqb-false _ _ e) r))

-- a prototype has a first instruction
pub first_inside : (cs : List Constant) (earlier : List Proto) (p : Proto) → Safe cs earlier p → 0 < length p.code
first_inside cs earlier p σ =
    let n = ap (λ (l : List Instruction). length l) σ.last.1 ∙ length-append σ.last.0 (last_return ∷ []) in
    omega (arith, n)

inside_stands : (cs : List Constant) (earlier : List Proto) (p : Proto) (step : ℕ → Option ℕ → Type 0) → Safe cs earlier p → ((i : ℕ) (o : Option ℕ) → StepOf01 p.code i o → step i o)
    → (o : Option ℕ) → Inside (length p.code) o → Stands cs earlier p step o
inside_stands cs earlier p step σ more none h = absurd h
inside_stands cs earlier p step σ more (some i) h =
    record { place = i; there = refl; inside = h; facts = σ.facts i h; goes_on = λ r. let g = goes_on p.code i h r in (g.0, more i g.0 g.1) }

-- whatever steps there are beside 01's, if none of them leaves the prototype, no walk does
pub walk_stands : (cs : List Constant) (earlier : List Proto) (p : Proto) (step : ℕ → Option ℕ → Type 0) → Safe cs earlier p → ((i : ℕ) (o : Option ℕ) → StepOf01 p.code i o → step i o)
    → ((i : ℕ) (o : Option ℕ) → step i o → Inside (length p.code) o) → (o : Option ℕ) → Walk step 0 o → Stands cs earlier p step o
walk_stands cs earlier p step σ more stays o here = inside_stands cs earlier p step σ more (some 0) (first_inside cs earlier p σ)
walk_stands cs earlier p step σ more stays o (and_on {j} w s) = inside_stands cs earlier p step σ more o (stays j o s)

pub step_from : (code : List Instruction) (i : ℕ) (o : Option ℕ) → StepOf01 code i o → i < length code
step_from code i o (next l j r) = l
step_from code i o (jump l e) = l
step_from code i o (skip l e) = l
step_from code i o (handler l e) = l

-- ---- the amended steps

-- a failure leads where a step of the RegisterTryCatch leads that has the handler
pub amended_inside : (code : List Instruction) → ((i : ℕ) (o : Option ℕ) → StepOf01 code i o → Inside (length code) o) → (i : ℕ) (o : Option ℕ) → Amended code i o → Inside (length code) o
amended_inside code stays i o (ordinary s) = stays i o s
amended_inside code stays i o (struck k l r h e) = stays k _ (handler h e)

pub safe_inside : (cs : List Constant) (earlier : List Proto) (p : Proto) → Safe cs earlier p → (i : ℕ) (o : Option ℕ) → StepOf01 p.code i o → Inside (length p.code) o
safe_inside cs earlier p σ i o s = (σ.facts i (step_from p.code i o s)).steps o s

pub amended_stand : (cs : List Constant) (earlier : List Proto) (p : Proto) → Safe cs earlier p → (o : Option ℕ) → Walk (Amended p.code) 0 o → Stands cs earlier p (Amended p.code) o
amended_stand cs earlier p σ = walk_stands cs earlier p (Amended p.code) σ (λ i o s. ordinary s) (amended_inside p.code (safe_inside cs earlier p σ))

-- ---- the older statement, from that

pub walk_amended : (code : List Instruction) (o : Option ℕ) → Walk (StepOf01 code) 0 o → Walk (Amended code) 0 o
walk_amended code _ here = here
walk_amended code o (and_on {j} w s) = and_on (walk_amended code (some j) w) (ordinary s)

-- a walk of 01's steps is one of the amended steps, and stands where that stands; from there 01 has a step too, but from a Return
pub stands_01 : (cs : List Constant) (earlier : List Proto) (p : Proto) → ((o : Option ℕ) → Walk (Amended p.code) 0 o → Stands cs earlier p (Amended p.code) o)
    → (o : Option ℕ) → Walk (StepOf01 p.code) 0 o → Stands cs earlier p (StepOf01 p.code) o
stands_01 cs earlier p amended o w =
    let s = amended o (walk_amended p.code o w) in
    record { place = s.place; there = s.there; inside = s.inside; facts = s.facts; goes_on = goes_on p.code s.place s.inside }
