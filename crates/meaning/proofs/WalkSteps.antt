-- The path of a walk goes by the steps that E8 amends: every instruction that it visits is led to by a walk of them from the first. So what demand 3 and a
-- taken image promise of such walks holds of every recorded run.
-- The idea: each move is a step, by its cases; and what a move needs, decisions of 0 and 1 and handlers that a RegisterTryCatch of the prototype has, it keeps.
use Prim.Native.Nat.{ℕ, zero, suc, ◌+◌, ◌<◌, ◌≤◌}
use mathlib.Core.Path.{◌≡◌, refl, sym, subst}
use mathlib.Core.Bool.{Bool, true, false, ◌||◌, cond}
use mathlib.Core.List.{List, [], ◌∷◌}
use mathlib.Core.Option.{Option, none, some}
use native.Mathlib.Omega.{arith}
use lib.ListN.{length}
use lib.Dec.{eqb, ltb}
use borrow.Author.Tests.{eqb-true, eqb-false}
use Rattle.meaning.specs.Opcode.{bx, Jmp, Test, Return, RegisterTryCatch, DeregisterTryCatch}
use Rattle.meaning.specs.State.{among}
use Rattle.meaning.specs.Steps.{inst_at, opcode_at, target, next, jump, skip, Amended, ordinary, struck, Walk, here, and_on}
use Rattle.meaning.specs.Safety.{All, Inside}
use Rattle.meaning.specs.Paths.{Point, start, onto, Path, Move, ends, fails, goes, landing, decide, register, without_last, strike, ordinary as usual, move, stop, step_from, after_move, path, visited}
use Rattle.meaning.specs.declared.Instruction.{Instruction}
use Rattle.meaning.specs.declared.Ending.{Ending}
use Rattle.meaning.specs.declared.Ending.TheVariants.{AtReturn, NoBudget, Handlers}

module _ (code : List Instruction) (stays : (i : ℕ) (o : Option ℕ) → Amended code i o → Inside (length code) o) (ss : List ℕ) where
  -- a handler of the prototype
  record Handler (h : ℕ) : Type 0 where
    by : ℕ
    there : by < length code
    registers : opcode_at code by ≡ RegisterTryCatch
    is : h ≡ by + bx (inst_at code by)

  record Sound (p : Point) : Type 0 where
    inside : p.place < length code
    fair : All (λ d. d ≤ 1) p.decisions
    known : All Handler p.handlers

  ends_not : {e : Ending} {q : Point} → ends e ≡ goes q → ⊥
  ends_not e = let z : ◌≡◌ {A = ℕ} 0 1 = cc in omega arith

  fails_not : {e : Ending} {q : Point} → fails e ≡ goes q → ⊥
  fails_not e = let z : ◌≡◌ {A = ℕ} 0 1 = cc in omega arith

  -- what a move that goes on to q is
  record Moved (p q : Point) : Type 0 where
    step : Amended code p.place (some q.place)
    sound : Sound q

  moved : (p : Point) (j : ℕ) (ds hs : List ℕ) (q : Point) → Amended code p.place (some j) → All (λ d. d ≤ 1) ds → All Handler hs → goes (onto j ds hs p) ≡ goes q → Moved p q
  moved p j ds hs q s f k e = let z : onto j ds hs p ≡ q = cc in subst (Moved p) z (record { step = s; sound = record { inside = stays p.place (some j) s; fair = f; known = k } })

  module _ (p : Point) (t : Sound p) (q : Point) where
    abbrev x : Instruction
    x = inst_at code p.place

    by_next : (x.opcode ≡ Jmp → ⊥) → (x.opcode ≡ Return → ⊥) → Amended code p.place (some (p.place + 1))
    by_next j r = ordinary (next t.inside j r)

    struck_moves : (hs : List ℕ) → All Handler hs → (x.opcode ≡ Return → ⊥) → strike p hs ≡ goes q → Moved p q
    struck_moves [] k r e = absurd (fails_not e)
    struck_moves (h ∷ hs) k r e = let a = k.0 in
        moved p h p.decisions p.handlers q (subst (λ (y : ℕ). Amended code p.place (some y)) (sym a.is) (struck a.by t.inside r a.there a.registers)) t.fair t.known e

    test_moves : x.opcode ≡ Test → (ds : List ℕ) → All (λ d. d ≤ 1) ds → decide p ds ≡ goes q → Moved p q
    test_moves o [] f e = absurd (ends_not e)
    test_moves o (zero ∷ ds) f e = moved p (p.place + 1 + 0) ds p.handlers q
        (subst (λ (y : ℕ). Amended code p.place (some y)) (let z : p.place + 1 ≡ p.place + 1 + 0 = omega arith in z) (by_next (λ r. omega arith) (λ r. omega arith))) f.1 t.known e
    test_moves o (suc d ∷ ds) f e = moved p (p.place + 1 + suc d) ds p.handlers q
        (subst (λ (y : ℕ). Amended code p.place (some y)) (let z : p.place + 2 ≡ p.place + 1 + suc d = omega (arith, f.0) in z) (ordinary (skip t.inside o))) f.1 t.known e

    jump_moves : x.opcode ≡ Jmp → (o : Option ℕ) → target p.place (bx x) ≡ o → goes (onto (landing o) p.decisions p.handlers p) ≡ goes q → Moved p q
    jump_moves j none w e = absurd (stays p.place none (subst (Amended code p.place) w (ordinary (jump t.inside j))))
    jump_moves j (some m) w e = moved p m p.decisions p.handlers q (subst (Amended code p.place) w (ordinary (jump t.inside j))) t.fair t.known e

    register_moves : x.opcode ≡ RegisterTryCatch → (b : Bool) → cond b (goes (onto (p.place + 1) p.decisions ((p.place + bx x) ∷ p.handlers) p)) (fails Handlers) ≡ goes q → Moved p q
    register_moves o true e = moved p (p.place + 1) p.decisions _ q (by_next (λ r. omega arith) (λ r. omega arith)) t.fair (record { by = p.place; there = t.inside; registers = o; is = refl }, t.known) e
    register_moves o false e = absurd (fails_not e)

    all_but : (hs : List ℕ) → All Handler hs → All Handler (without_last hs)
    all_but [] k = tt
    all_but (h ∷ hs) k = k.1

    usual_moves : (x.opcode ≡ Return → ⊥) → usual x p ≡ goes q → Moved p q
    usual_moves r = go (eqb x.opcode Test) refl (eqb x.opcode Jmp) refl (eqb x.opcode RegisterTryCatch) refl (eqb x.opcode DeregisterTryCatch)
      where
        go : (b4 : Bool) → eqb x.opcode Test ≡ b4 → (b3 : Bool) → eqb x.opcode Jmp ≡ b3 → (b48 : Bool) → eqb x.opcode RegisterTryCatch ≡ b48 → (b49 : Bool)
            → cond b4 (decide p p.decisions) (cond b3 (goes (onto (landing (target p.place (bx x))) p.decisions p.handlers p)) (cond b48 (register (bx x) p)
            (cond b49 (goes (onto (p.place + 1) p.decisions (without_last p.handlers) p)) (goes (onto (p.place + 1) p.decisions p.handlers p))))) ≡ goes q → Moved p q
        go true e4 b3 e3 b48 e48 b49 e = test_moves (eqb-true x.opcode Test e4) p.decisions t.fair e
        go false e4 true e3 b48 e48 b49 e = jump_moves (eqb-true x.opcode Jmp e3) (target p.place (bx x)) refl e
        go false e4 false e3 true e48 b49 e = register_moves (eqb-true x.opcode RegisterTryCatch e48) (ltb (length p.handlers) 256) e
        go false e4 false e3 false e48 true e = moved p (p.place + 1) p.decisions _ q (by_next (eqb-false x.opcode Jmp e3) r) t.fair (all_but p.handlers t.known) e
        go false e4 false e3 false e48 false e = moved p (p.place + 1) p.decisions _ q (by_next (eqb-false x.opcode Jmp e3) r) t.fair t.known e

    moves : move ss x p ≡ goes q → Moved p q
    moves = go (eqb x.opcode Return) refl (among p.taken ss)
      where
        go : (r : Bool) → eqb x.opcode Return ≡ r → (s : Bool) → cond r (ends AtReturn) (cond s (strike p p.handlers) (usual x p)) ≡ goes q → Moved p q
        go true er s e = absurd (ends_not e)
        go false er true e = struck_moves p.handlers t.known (eqb-false x.opcode Return er) e
        go false er false e = usual_moves (eqb-false x.opcode Return er) e

  -- where a walk of the steps leads
  abbrev Reached : ℕ → Type 0
  Reached j = Walk (Amended code) 0 (some j)

  -- every place that a path visits
  abbrev AllReached : Path → Type 0
  AllReached r = (j : ℕ) → visited r j ≡ true → Reached j

  stopped_reached : (p : Point) → Reached p.place → (e : Ending) → (j : ℕ) → (false || eqb j p.place) ≡ true → Reached j
  stopped_reached p w e j v = subst Reached (sym (eqb-true j p.place v)) w

  step_reached : (p : Point) → Reached p.place → (r : Path) → AllReached r → (j : ℕ) → ((eqb j p.place || among j r.left) || eqb j r.stood) ≡ true → Reached j
  step_reached p w r all j v = go (eqb j p.place) refl v
    where
      go : (b : Bool) → eqb j p.place ≡ b → ((b || among j r.left) || eqb j r.stood) ≡ true → Reached j
      go true e v = subst Reached (sym (eqb-true j p.place e)) w
      go false e v = all j v

  path_reached : (b : ℕ) (p : Point) → Sound p → Reached p.place → AllReached (path b code ss p)
  unfolding path
  path_reached zero p t w = go (move ss (inst_at code p.place) p)
    where
      go : (m : Move) → AllReached (after_move p m (λ e. stop p NoBudget) (λ q. stop p NoBudget))
      go (ends e) = stopped_reached p w e
      go (fails e) = stopped_reached p w e
      go (goes q) = stopped_reached p w NoBudget
  path_reached (suc b) p t w = go (λ n s v. path_reached b n s v) (move ss (inst_at code p.place) p) refl
    where
      go : ((n : Point) → Sound n → Reached n.place → AllReached (path b code ss n)) → (m : Move) → move ss (inst_at code p.place) p ≡ m
          → AllReached (after_move p m (λ e. stop p e) (λ n. step_from p (path b code ss n)))
      go rest (ends e) q = stopped_reached p w e
      go rest (fails e) q = stopped_reached p w e
      go rest (goes n) q = let v = moves p t n q in step_reached p w (path b code ss n) (rest n v.sound (and_on w v.step))

  pub visited_reached : (b : ℕ) (ds : List ℕ) → 0 < length code → All (λ d. d ≤ 1) ds → (j : ℕ) → visited (path b code ss (start ds)) j ≡ true → Walk (Amended code) 0 (some j)
  visited_reached b ds l f = path_reached b (start ds) (record { inside = l; fair = f; known = tt }) here
