-- The tests of numbers say what Rules says. The idea: what an opcode's row says is told by its kind and its number, by one computed test of every byte.
use mathlib.Core.Path.{◌≡◌, refl, sym, ap, ap₂, ◌∙◌}
use mathlib.Core.Bool.{Bool, true, false, not, ◌&&◌, ◌||◌, cond}
use mathlib.Core.Option.{some}
use mathlib.Core.Logic.{⊎_elim}
use mathlib.Core.List.{List, [], ◌∷◌, ◌++◌}
use Prim.Native.Nat.{ℕ, zero, suc, ◌+◌, ◌-◌, max, ◌<◌, ◌≤◌}
use native.Mathlib.Omega.{arith}
use lib.ListN.{length}
use lib.Dec.{eqb, leb, ltb}
use borrow.Author.Tests.{eqb-true, ltb-true, leb-true, lt-ltb, le-ltb, le-leb, lt-leb}
use Rattle.meaning.specs.Opcode.{Meets, of_none, of_a, of_ab, of_abc, of_return, of_call, meets, opcodes_written, bx, LoadK, GetUpval, Closure, Jmp, Test, Call, Return, RegisterTryCatch}
use Rattle.meaning.specs.State.{Capture, Proto, among}
use Rattle.meaning.specs.Steps.{target}
use Rattle.meaning.specs.Safety.{from, met_by, met, name_due}
use Rattle.meaning.specs.declared.Instruction.{Instruction}
use Rattle.meaning.proofs.Lists.{and_left, and_right, lt_or_le, same, same_is, all_to, all_below}
use Rattle.meaning.specs.Constant.{Constant}
use Rattle.meaning.specs.Mend.{replaced}
use Rattle.meaning.specs.Rules.{all, passes_at, inside, leads, let_pass, if_opcode, capture_fits, is_text, lawful}
use Rattle.reader.specs.Tests.{kind_seen, steps_seen, replaced_seen, none_seen, registers_seen, operands_seen, local_need, outer_need}

-- ---- booleans

and_true : (x : Bool) → x && true ≡ x
and_true true = refl
and_true false = refl

or_false : (x : Bool) → x || false ≡ x
or_false true = refl
or_false false = refl

-- two tests with the same meaning
both : (a b : Bool) → (a ≡ true → b ≡ true) → (b ≡ true → a ≡ true) → a ≡ b
both true b f g = sym (f refl)
both false true f g = g refl
both false false f g = refl

-- ---- the opcode

-- a number for what a row says of registers
abbrev form : Meets → ℕ
form of_none = 0
form of_a = 1
form of_ab = 2
form of_abc = 3
form of_return = 4
form of_call = 5

-- what kind and number tell of an opcode is what its row says
abbrev agrees : ℕ → Bool
agrees o =
    same (among o opcodes_written) (ltb (kind_seen o) 4)
    && (same (eqb (form (meets o)) 0) (none_seen o)
    && (same (eqb (form (meets o)) 2) (eqb (kind_seen o) 1)
    && (same (eqb (form (meets o)) 3) (eqb (kind_seen o) 2)
    && (same (eqb (form (meets o)) 4) (eqb o 20)
    && same (eqb (form (meets o)) 5) (eqb o 19)))))

-- one computed test, of every byte
agreed : (o : ℕ) → o < 256 → agrees o ≡ true
unfolding same all_to kind_seen
agreed o h = all_below agrees 256 o refl h

-- its first clause, and the rest
split : (a b rest : Bool) → (same a b && rest) ≡ true → (a ≡ b) × (rest ≡ true)
split a b rest e = (same_is a b (and_left (same a b) rest e), and_right (same a b) rest e)

-- ---- steps

less_is : (a b c d : ℕ) → (a < b → c < d) → (c < d → a < b) → ltb a b ≡ ltb c d
less_is a b c d f g = both (ltb a b) (ltb c d) (λ e. lt-ltb c d (f (ltb-true a b e))) (λ e. lt-ltb a b (g (ltb-true c d e)))

far : (m n : ℕ) → 65536 ≤ m → ltb (m - 65536) n ≡ ltb m (n + 65536)
far m n h = less_is (m - 65536) n m (n + 65536) (λ k. omega arith) (λ k. omega arith)

module _ (i n : ℕ) (x : Instruction) where
  to_is : inside n (target i (bx x)) ≡ ((ltb (bx x) 32768 && ltb (i + bx x) n) || (leb 32768 (bx x) && (leb 65536 (i + bx x) && ltb (i + bx x) (n + 65536))))
  to_is = ⊎_elim
      (λ (h : bx x < 32768). rw (lt-ltb (bx x) 32768 h, lt-leb 32768 (bx x) h) (sym (or_false _)))
      (λ (h : 32768 ≤ bx x). rw (le-ltb (bx x) 32768 h, le-leb 32768 (bx x) h) (⊎_elim
      (λ (k : i + bx x < 65536). rw (lt-leb 65536 (i + bx x) k) refl)
      (λ (k : 65536 ≤ i + bx x). rw (le-leb 65536 (i + bx x) k) (far (i + bx x) n k))
      (lt_or_le (i + bx x) 65536)))
      (lt_or_le (bx x) 32768)

  pub steps_is : all (inside n) (leads i x) ≡ steps_seen x.opcode (bx x) i n
  unfolding all leads
  steps_is = go (eqb x.opcode Jmp) (eqb x.opcode Return) (eqb x.opcode Test) refl (eqb x.opcode RegisterTryCatch) refl
    where
      go : (j r t : Bool) → eqb x.opcode Test ≡ t → (h : Bool) → eqb x.opcode RegisterTryCatch ≡ h
          → all (inside n) (cond j (target i (bx x) ∷ []) (cond r [] (some (i + 1) ∷ cond t (some (i + 2) ∷ []) (cond h (some (i + bx x) ∷ []) []))))
          ≡ ((j && ((ltb (bx x) 32768 && ltb (i + bx x) n) || (leb 32768 (bx x) && (leb 65536 (i + bx x) && ltb (i + bx x) (n + 65536)))))
          || (not j && (r || (ltb (i + 1) n && ((not t || ltb (i + 2) n) && (not h || ltb (i + bx x) n))))))
      go true r t p h q = and_true _ ∙ to_is ∙ sym (or_false _)
      go false true t p h q = refl
      go false false true p true q = absurd (let e = eqb-true x.opcode Test p in let f = eqb-true x.opcode RegisterTryCatch q in omega arith)
      go false false true p false q = refl
      go false false false p true q = ap (λ (b : Bool). ltb (i + 1) n && b) (and_true _)
      go false false false p false q = refl

  -- a jump that is replaced
  pub replaced_is : replaced n i x ≡ replaced_seen x.opcode x.a (bx x) i n
  unfolding replaced
  replaced_is = go (eqb x.opcode Jmp)
    where
      go : (j : Bool) → (j && ((eqb x.a 1 || eqb x.a 2) || not (inside n (target i (bx x)))))
          ≡ (j && ((eqb x.a 1 || eqb x.a 2) || not ((j && ((ltb (bx x) 32768 && ltb (i + bx x) n) || (leb 32768 (bx x) && (leb 65536 (i + bx x) && ltb (i + bx x) (n + 65536)))))
          || (not j && (eqb x.opcode Return || (ltb (i + 1) n && ((not (eqb x.opcode Test) || ltb (i + 2) n) && (not (eqb x.opcode RegisterTryCatch) || ltb (i + bx x) n))))))))
      go true = ap (λ (b : Bool). (eqb x.a 1 || eqb x.a 2) || not b) (to_is ∙ sym (or_false _))
      go false = refl

-- ---- registers

all_from : (n r k : ℕ) → r ≤ n → all (λ (m : ℕ). ltb m n) (from r k) ≡ leb (r + k) n
unfolding all
all_from n r zero h = sym (le-leb (r + 0) n (omega arith))
all_from n r (suc k) h = ⊎_elim
    (λ (q : r < n). rw (lt-ltb r n q) (all_from n (suc r) k q ∙ leb_same (suc r + k) (r + suc k) n (omega arith)))
    (λ (q : n ≤ r). rw (le-ltb r n q) (sym (lt-leb (r + suc k) n (omega arith))))
    (lt_or_le r n)
  where
    leb_same : (a b n : ℕ) → a ≡ b → leb a n ≡ leb b n
    leb_same a b n e = ap (λ (x : ℕ). leb x n) e

all_append : (p : ℕ → Bool) (a b : List ℕ) → all p (a ++ b) ≡ (all p a && all p b)
unfolding all
all_append p [] b = refl
all_append p (x ∷ a) b = ap (λ (t : Bool). p x && t) (all_append p a b) ∙ assoc (p x) (all p a) (all p b)
  where
    assoc : (x y z : Bool) → x && (y && z) ≡ (x && y) && z
    assoc true y z = refl
    assoc false y z = refl

-- a Call's: where a is below n
call_is : (a b c n : ℕ) → a < n → all (λ (m : ℕ). ltb m n) (from (a + 1) (b - 1) ++ (c - 1) ∷ []) ≡ (leb (a + b) n && leb c n)
unfolding all
call_is a b c n h = all_append (λ (m : ℕ). ltb m n) (from (a + 1) (b - 1)) ((c - 1) ∷ []) ∙ ap₂ (λ (x y : Bool). x && y)
    (all_from n (a + 1) (b - 1) (omega arith) ∙ both (leb (a + 1 + (b - 1)) n) (leb (a + b) n) (λ e. le-leb (a + b) n (omega (arith, leb-true (a + 1 + (b - 1)) n e))) (λ e. le-leb (a + 1 + (b - 1)) n (omega (arith, leb-true (a + b) n e))))
    (and_true _ ∙ both (ltb (c - 1) n) (leb c n) (λ e. le-leb c n (omega (arith, ltb-true (c - 1) n e))) (λ e. lt-ltb (c - 1) n (omega (arith, leb-true c n e))))

module _ (x : Instruction) (n : ℕ) where
  abbrev below : List ℕ → Bool
  below l = all (λ (m : ℕ). ltb m n) l

  -- registers met, by the tests of a row's form
  abbrev by_form : (none two three return call : Bool) → Bool
  by_form none two three return call =
      none || ((return && eqb x.b 0)
      || (ltb x.a n && ((not (two || three) || ltb x.b n) && ((not three || ltb x.c n) && (not call || (leb (x.a + x.b) n && leb x.c n))))))

  form_is : (m : Meets) → below (met_by m x) ≡ by_form (eqb (form m) 0) (eqb (form m) 2) (eqb (form m) 3) (eqb (form m) 4) (eqb (form m) 5)
  unfolding all
  form_is of_none = refl
  form_is of_a = refl
  form_is of_ab = refl
  form_is of_abc = refl
  form_is of_return = go (eqb x.b 0)
    where
      go : (b : Bool) → below (cond b [] (x.a ∷ [])) ≡ (b || (ltb x.a n && true))
      go true = refl
      go false = refl
  form_is of_call = ⊎_elim
      (λ (h : x.a < n). rw (lt-ltb x.a n h) (call_is x.a x.b x.c n h))
      (λ (h : n ≤ x.a). rw (le-ltb x.a n h) refl)
      (lt_or_le x.a n)

  pub registers_is : x.opcode < 256 → below (met x) ≡ registers_seen (kind_seen x.opcode) x.opcode x.a x.b x.c n
  registers_is small =
      let none = split _ _ _ (split _ _ _ (agreed x.opcode small)).1 in
      let two = split _ _ _ none.1 in
      let three = split _ _ _ two.1 in
      let last = split _ _ _ three.1 in
      form_is (meets x.opcode) ∙ rw (none.0, two.0, three.0, last.0, same_is _ _ last.1) refl

-- ---- captures

max_is : (a b n : ℕ) → (ltb a n && leb b n) ≡ leb (max (a + 1) b) n
max_is a b n = ⊎_elim
    (λ (h : a < n). rw (lt-ltb a n h) (both (leb b n) (leb (max (a + 1) b) n) (λ e. le-leb (max (a + 1) b) n (omega (arith, leb-true b n e))) (λ e. le-leb b n (omega (arith, leb-true (max (a + 1) b) n e)))))
    (λ (h : n ≤ a). rw (le-ltb a n h) (sym (lt-leb (max (a + 1) b) n (omega arith))))
    (lt_or_le a n)

pub needs_are : (rs ks : ℕ) (cs : List Capture) → all (capture_fits rs ks) cs ≡ (leb (local_need cs) rs && leb (outer_need cs) ks)
unfolding all local_need outer_need
needs_are rs ks [] = sym (ap₂ (λ (x y : Bool). x && y) (le-leb 0 rs (omega arith)) (le-leb 0 ks (omega arith)))
needs_are rs ks (c ∷ cs) = ap (λ (b : Bool). capture_fits rs ks c && b) (needs_are rs ks cs) ∙ go c.is_local
  where
    front_left : (x y z : Bool) → x && (y && z) ≡ (x && y) && z
    front_left true y z = refl
    front_left false y z = refl

    middle : (x y z : Bool) → x && (y && z) ≡ y && (x && z)
    middle true y z = refl
    middle false true z = refl
    middle false false z = refl

    go : (l : Bool) → (ltb c.index (cond l rs ks) && (leb (local_need cs) rs && leb (outer_need cs) ks))
        ≡ (leb (cond l (max (c.index + 1) (local_need cs)) (local_need cs)) rs && leb (cond l (outer_need cs) (max (c.index + 1) (outer_need cs))) ks)
    go true = front_left (ltb c.index rs) (leb (local_need cs) rs) (leb (outer_need cs) ks) ∙ ap (λ (b : Bool). b && leb (outer_need cs) ks) (max_is c.index (local_need cs) rs)
    go false = middle (ltb c.index ks) (leb (local_need cs) rs) (leb (outer_need cs) ks) ∙ ap (λ (b : Bool). leb (local_need cs) rs && b) (max_is c.index (outer_need cs) ks)

-- ---- an instruction

module _ (ks : List Constant) (earlier : List Proto) (p : Proto) (i : ℕ) (x : Instruction) (small : x.opcode < 256) where
  abbrev made : Bool
  made = passes_at (λ q. all (capture_fits p.registers (length p.captures)) q.captures) earlier (bx x)

  abbrev named : Bool
  named = passes_at is_text ks (bx x)

  if_is : (o : ℕ) (b : Bool) → if_opcode x o b ≡ (not (eqb x.opcode o) || b)
  if_is o b = go (eqb x.opcode o)
    where
      go : (t : Bool) → cond t b true ≡ (not t || b)
      go true = refl
      go false = refl

  name_is : cond (among x.opcode name_due) named true ≡ (not (eqb x.opcode 44 || (eqb x.opcode 45 || eqb x.opcode 47)) || named)
  name_is = go (eqb x.opcode 44) (eqb x.opcode 45) (eqb x.opcode 47)
    where
      go : (a b c : Bool) → cond (a || (b || (c || false))) named true ≡ (not (a || (b || c)) || named)
      go true b c = refl
      go false true c = refl
      go false false true = refl
      go false false false = refl

  pub lawful_is : lawful ks earlier p i x
      ≡ (ltb (kind_seen x.opcode) 4
      && (steps_seen x.opcode (bx x) i (length p.code)
      && ((registers_seen (kind_seen x.opcode) x.opcode x.a x.b x.c p.registers || let_pass p i x)
      && operands_seen x.opcode x.a x.b x.c (bx x) (length p.captures) made named (length ks))))
  unfolding lawful
  lawful_is =
      simp ((split _ _ _ (agreed x.opcode small)).0, steps_is i (length p.code) x, registers_is x p.registers small, if_is Jmp (eqb x.a 0), if_is Call (ltb 0 x.b && ltb 0 x.c), if_is GetUpval (ltb x.b (length p.captures)), if_is Closure made, if_is LoadK (ltb (bx x) (length ks)), name_is)
      (ap (λ (b : Bool). ltb (kind_seen x.opcode) 4 && (steps_seen x.opcode (bx x) i (length p.code) && b)) (swap (not (eqb x.opcode Jmp) || eqb x.a 0) (registers_seen (kind_seen x.opcode) x.opcode x.a x.b x.c p.registers || let_pass p i x) _))
    where
      swap : (x y z : Bool) → x && (y && z) ≡ y && (x && z)
      swap true y z = refl
      swap false true z = refl
      swap false false z = refl
