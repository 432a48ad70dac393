-- A turn of the code is the definition's move: one law says what is asked before a step and where it leads, in the code's numbers; two others say what
-- that makes of the path.
use mathlib.Core.Path.{◌≡◌, refl, sym, ap, ap₂, ◌∙◌}
use mathlib.Core.Bool.{Bool, true, false, not, ◌&&◌, cond}
use mathlib.Core.List.{List, ◌∷◌}
use Prim.Native.Nat.{ℕ, zero, suc, ◌+◌, ◌-◌, ◌<◌, ◌≤◌}
use native.Mathlib.Numerals.{add-one}
use native.Mathlib.Omega.{arith}
use lib.ListN.{length, get_or, set, drop}
use lib.Seq.{drop-cons, drop-length, get_or-set_same, get_or-set_other}
use lib.Dec.{eqb, ltb}
use borrow.Author.Tests.{eqb-true, eq-eqb, ne_eqb, ltb-true, ltb-false, lt-ltb}
use Rattle.meaning.specs.Opcode.{bx}
use Rattle.meaning.specs.State.{among}
use Rattle.meaning.specs.Steps.{target, inst_at}
use Rattle.meaning.specs.Paths.{Point, onto, Move, ends, fails, goes, landing, decide, register, without_last, strike, ordinary, move, stop, step_from, path}
use Rattle.meaning.specs.declared.Instruction.{Instruction}
use Rattle.meaning.specs.declared.Ending.{Ending}
use Rattle.meaning.specs.declared.Ending.TheVariants.{AtReturn, NoDecision, NoBudget, Failed, Handlers}
use Rattle.meaning.proofs.Lists.{false_true}
use Rattle.walk.specs.Turn.{undecided, handled, onward, registered_after, registered}

abbrev pub standing : (i : ℕ) → (decisions : List ℕ) → (taken : ℕ) → (handlers : List ℕ) → Point
standing i ds t hs = record { place = i; decisions = ds; taken = t; handlers = hs }

-- ---- the handlers registered

registered_length : (hs : List ℕ) (h : ℕ) → length (registered hs h) ≡ h
registered_length hs zero = refl
registered_length hs (suc h) = ap suc (registered_length hs h)

registered_set : (hs : List ℕ) (h v t : ℕ) → t ≤ h → registered (set hs h v) t ≡ registered hs t
registered_set hs h v zero l = refl
registered_set hs h v (suc t) l = ap₂ (λ (a : ℕ) (b : List ℕ). a ∷ b) (get_or-set_other hs h t v 0 (λ e. omega arith)) (registered_set hs h v t (omega arith))

-- one more
registered_put : (hs : List ℕ) (h v : ℕ) → h < length hs → registered (set hs h v) (h + 1) ≡ v ∷ registered hs h
registered_put hs h v l = ap (registered (set hs h v)) (add-one h) ∙ ap₂ (λ (a : ℕ) (b : List ℕ). a ∷ b) (get_or-set_same hs h v 0 l) (registered_set hs h v h (omega arith))

-- one less
registered_off : (hs : List ℕ) (h : ℕ) → without_last (registered hs h) ≡ registered hs (h - 1)
registered_off hs zero = refl
registered_off hs (suc h) = ap (registered hs) (let z : h ≡ suc h - 1 = omega arith in z)

-- ---- the move

cond_true : (b : Bool) (u v : Move) → b ≡ true → cond b u v ≡ u
cond_true true u v e = refl
cond_true false u v e = absurd (false_true e)

cond_false : (b : Bool) (u v : Move) → b ≡ false → cond b u v ≡ v
cond_false true u v e = absurd (false_true (sym e))
cond_false false u v e = refl

module _ (x : Instruction) (ds : List ℕ) (k i steps : ℕ) (hs : List ℕ) (h : ℕ) (o w d : ℕ) where
  abbrev pub here_at : Point
  here_at = standing i (drop k ds) steps (registered hs h)

  -- where the code stands after the turn
  abbrev pub next_at : (s : Bool) → Point
  next_at s =
      standing (cond s (get_or hs (h - 1) 0) (onward o w i d)) (drop (cond (not s && eqb o 4) (k + 1) k) ds) (steps + 1)
      (registered (cond (not s && eqb o 48) (set hs h (i + w)) hs) (registered_after o s h))

  -- a struck step
  strikes_at : strike here_at (registered hs h) ≡ cond (handled o true h) (goes (next_at true)) (fails Failed)
  strikes_at = go h refl
    where
      go : (n : ℕ) → h ≡ n → strike here_at (registered hs h) ≡ cond (handled o true h) (goes (next_at true)) (fails Failed)
      go zero e = rw e refl
      go (suc n) e =
          rw (lt-ltb 0 h (omega arith))
          (ap (strike here_at) (ap (registered hs) e) ∙ ap (λ (j : ℕ). goes (onto j (drop k ds) (registered hs h) here_at)) (ap (λ (m : ℕ). get_or hs m 0) (let z : n ≡ h - 1 = omega arith in z)))

  module _ (used : k ≤ length ds) (full : length hs ≡ 256) (ed : eqb o 4 ≡ true → d ≡ get_or ds k 0) where
    abbrev says : Move
    says = cond (undecided o false (ltb k (length ds))) (ends NoDecision) (cond (handled o false h) (goes (next_at false)) (fails Handlers))

    tests : o ≡ 4 → (b : Bool) → ltb k (length ds) ≡ b → decide here_at (drop k ds) ≡ says
    tests e true l = rw (l, eq-eqb o 4 e, ne_eqb o 48 (λ q. omega arith), ne_eqb o 49 (λ q. omega arith))
        (ap (decide here_at) (drop-cons ds k 0 (ltb-true k (length ds) l) ∙ ap₂ (λ (y : ℕ) (z : List ℕ). y ∷ z) (sym (ed (eq-eqb o 4 e))) (ap (λ (m : ℕ). drop m ds) (sym (add-one k)))))
    tests e false l = rw (l, eq-eqb o 4 e) (ap (decide here_at) (ap (λ (m : ℕ). drop m ds) (let z : k ≡ length ds = omega (arith, ltb-false k (length ds) l, used) in z) ∙ drop-length ds))

    registers : o ≡ 48 → (b : Bool) → ltb h 256 ≡ b → register w here_at ≡ says
    registers e true l = rw (registered_length hs h, l, ne_eqb o 4 (λ q. omega arith), ne_eqb o 3 (λ q. omega arith), eq-eqb o 48 e)
        (ap (λ (y : List ℕ). goes (standing (i + 1) (drop k ds) (steps + 1) y)) (sym (registered_put hs h (i + w) (omega (arith, ltb-true h 256 l, full)))))
    registers e false l = rw (registered_length hs h, l, ne_eqb o 4 (λ q. omega arith), eq-eqb o 48 e) refl

    -- an ordinary step
    ordinary_at : x.opcode ≡ o → bx x ≡ w → ordinary x here_at ≡ says
    ordinary_at eo ew = rw (eo, ew) (go (eqb o 4) refl (eqb o 3) refl (eqb o 48) refl (eqb o 49) refl)
      where
        go : (b4 : Bool) → eqb o 4 ≡ b4 → (b3 : Bool) → eqb o 3 ≡ b3 → (b48 : Bool) → eqb o 48 ≡ b48 → (b49 : Bool) → eqb o 49 ≡ b49
            → cond (eqb o 4) (decide here_at (drop k ds)) (cond (eqb o 3) (goes (onto (landing (target i w)) (drop k ds) (registered hs h) here_at)) (cond (eqb o 48) (register w here_at)
            (cond (eqb o 49) (goes (onto (i + 1) (drop k ds) (without_last (registered hs h)) here_at)) (goes (onto (i + 1) (drop k ds) (registered hs h) here_at))))) ≡ says
        go true e4 b3 e3 b48 e48 b49 e49 = cond_true (eqb o 4) _ _ e4 ∙ tests (eqb-true o 4 e4) (ltb k (length ds)) refl
        go false e4 true e3 b48 e48 b49 e49 = let q = eqb-true o 3 e3 in rw (e4, e3, ne_eqb o 48 (λ z. omega arith), ne_eqb o 49 (λ z. omega arith)) refl
        go false e4 false e3 true e48 b49 e49 = cond_false (eqb o 4) _ _ e4 ∙ cond_false (eqb o 3) _ _ e3 ∙ cond_true (eqb o 48) _ _ e48 ∙ registers (eqb-true o 48 e48) (ltb h 256) refl
        go false e4 false e3 false e48 true e49 = rw (e4, e3, e48, e49) (ap (λ (y : List ℕ). goes (standing (i + 1) (drop k ds) (steps + 1) y)) (registered_off hs h))
        go false e4 false e3 false e48 false e49 = rw (e4, e3, e48, e49) refl

  -- what is asked before a step, and where it leads
  pub moves : k ≤ length ds → length hs ≡ 256 → (ss : List ℕ) (s : Bool) → ((not s && eqb o 4) ≡ true → d ≡ get_or ds k 0) → among steps ss ≡ s → x.opcode ≡ o → bx x ≡ w
      → move ss x here_at ≡ cond (eqb o 20) (ends AtReturn) (cond (undecided o s (ltb k (length ds))) (ends NoDecision) (cond (handled o s h) (goes (next_at s)) (fails (cond s Failed Handlers))))
  moves used full ss s ed es eo ew =
      ap₂ (λ (r t : Bool). cond r (ends AtReturn) (cond t (strike here_at (registered hs h)) (ordinary x here_at))) (ap (λ (y : ℕ). eqb y 20) eo) es ∙ go (eqb o 20) s ed
    where
      go : (r t : Bool) → ((not t && eqb o 4) ≡ true → d ≡ get_or ds k 0) → cond r (ends AtReturn) (cond t (strike here_at (registered hs h)) (ordinary x here_at))
          ≡ cond r (ends AtReturn) (cond (undecided o t (ltb k (length ds))) (ends NoDecision) (cond (handled o t h) (goes (next_at t)) (fails (cond t Failed Handlers))))
      go true t ed = refl
      go false true ed = strikes_at
      go false false ed = ordinary_at used full ed eo ew

-- ---- what a move makes of the path

module _ (code : List Instruction) (ss : List ℕ) (p : Point) (q : Point) (e : Ending) where
  abbrev first : Move
  first = move ss (inst_at code p.place) p

  path_ends : (b : ℕ) (f : Ending) → first ≡ ends f → path b code ss p ≡ stop p f
  unfolding path
  path_ends zero f m = rw m refl
  path_ends (suc b) f m = rw m refl

  path_spent : (c : Bool) → first ≡ cond c (goes q) (fails e) → path 0 code ss p ≡ stop p NoBudget
  unfolding path
  path_spent true m = rw m refl
  path_spent false m = rw m refl

  path_fails : (b : ℕ) → first ≡ fails e → path (suc b) code ss p ≡ stop p e
  unfolding path
  path_fails b m = rw m refl

  pub path_goes : (b : ℕ) → first ≡ goes q → path (suc b) code ss p ≡ step_from p (path b code ss q)
  unfolding path
  path_goes b m = rw m refl

  -- the verdict in the code's Booleans
  abbrev pub verdict : (r n c : Bool) → Move
  verdict r n c = cond r (ends AtReturn) (cond n (ends NoDecision) (cond c (goes q) (fails e)))

  -- it goes on
  pub goes_so : (r n w c : Bool) → first ≡ verdict r n c → (not r && (not n && (w && c))) ≡ true → first ≡ goes q
  goes_so true n w c m t = absurd (false_true t)
  goes_so false true w c m t = absurd (false_true t)
  goes_so false false true true m t = m
  goes_so false false true false m t = absurd (false_true t)
  goes_so false false false c m t = absurd (false_true t)

  -- it does not, b being what is left of the budget
  pub ends_so : (b : ℕ) (r n w c : Bool) → (w ≡ false → b ≡ 0) → (w ≡ true → 0 < b) → first ≡ verdict r n c → (not r && (not n && (w && c))) ≡ false
      → path b code ss p ≡ stop p (cond r AtReturn (cond n NoDecision (cond (not w) NoBudget e)))
  ends_so b true n w c z y m t = path_ends b AtReturn m
  ends_so b false true w c z y m t = path_ends b NoDecision m
  ends_so b false false false c z y m t = ap (λ (a : ℕ). path a code ss p) (z refl) ∙ path_spent c m
  ends_so b false false true true z y m t = absurd (false_true (sym t))
  ends_so b false false true false z y m t = ap (λ (a : ℕ). path a code ss p) (let u = y refl in let v : b ≡ suc (b - 1) = omega arith in v) ∙ path_fails (b - 1) m
