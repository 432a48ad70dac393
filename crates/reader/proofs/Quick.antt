-- What is told at once: the kinds of the opcodes, and that what they ask is enough.
use mathlib.Core.Path.{◌≡◌, refl, ap}
use mathlib.Core.Bool.{Bool, true, false, not, ◌&&◌, ◌||◌}
use Prim.Native.Nat.{ℕ, ◌+◌, ◌<◌, ◌≤◌}
use native.Mathlib.Omega.{arith}
use mathlib.Core.List.{List}
use lib.ListN.{get_or}
use lib.Dec.{eqb, leb, ltb}
use borrow.Author.Tests.{eqb-true, ltb-true, lt-ltb, le-ltb}
use Rattle.meaning.proofs.Lists.{and_left, and_right, false_true, all_to, all_below}
use Rattle.reader.specs.declared.facts.Kind.{Kind}
use Rattle.reader.specs.declared.facts.Kind.TheVariants.{A, Ab, Abc, Asking, Unwritten}
use Rattle.reader.specs.Around.{number}
use Rattle.reader.specs.Tests.{Bounds, none_seen, lawful_seen, kind_seen, plain_seen, enough_seen, Kinds}

-- behind the table
pub kind_beyond : (o : ℕ) → o < 256 → 51 ≤ o → kind_seen o ≡ 4
unfolding all_to kind_seen
kind_beyond o h k = eqb-true (kind_seen o) 4 (rw (le-ltb o 51 k) at (all_below (λ (o : ℕ). ltb o 51 || eqb (kind_seen o) 4) 256 o refl h))

-- the table says the kinds
pub table_right : (m : List ℕ) → all_to (λ (o : ℕ). eqb (get_or m o 0) (kind_seen o)) 51 ≡ true → Kinds m
table_right m e = record { each = λ o h. eqb-true (get_or m o 0) (kind_seen o) (all_below (λ (o : ℕ). eqb (get_or m o 0) (kind_seen o)) 51 o e h) }

-- what the code asks of an opcode of a kind below 3 is that
pub enough_plain : (k : Kind) → number k < 3 → (i n a b c r : ℕ) → enough_seen (number k) i n a b c r ≡ plain_seen (number k) i n a b c r
enough_plain A h i n a b c r = refl
enough_plain Ab h i n a b c r = refl
enough_plain Abc h i n a b c r = refl
enough_plain Asking h i n a b c r = absurd (omega arith)
enough_plain Unwritten h i n a b c r = absurd (omega arith)

-- the facts, by the tests of numbers
abbrev told_by : (kind o : ℕ) → (to next after far a b c b-none call pass a-none some up closure load text : Bool) → Bool
told_by k o to next after far a b c b-none call pass a-none some up closure load text =
    ltb k 4
    && (((eqb o 3 && to) || (not (eqb o 3) && (eqb o 20 || (next && ((not (eqb o 4) || after) && (not (eqb o 48) || far))))))
    && (((none_seen o || ((eqb o 20 && b-none) || (a && ((not (eqb k 1 || eqb k 2) || b) && ((not (eqb k 2) || c) && (not (eqb o 19) || call)))))) || pass)
    && ((not (eqb o 3) || a-none) && ((not (eqb o 19) || some) && ((not (eqb o 22) || up) && ((not (eqb o 23) || closure) && ((not (eqb o 1) || load) && (not (eqb o 44 || (eqb o 45 || eqb o 47)) || text))))))))

implies : (x y : Bool) → (not x || y) ≡ true → x ≡ true → y ≡ true
implies true y e q = e
implies false y e q = absurd (false_true q)

module _ (to far call pass a-none some up closure load text : Bool) where
  abbrev test : (b c b-none : Bool) → (kind o : ℕ) → Bool
  test b c b-none k o = not (ltb k 3 && ((eqb k 0 || b) && (leb k 1 || c))) || told_by k o to true true far true b c b-none call pass a-none some up closure load text

  -- of every opcode
  tested : (b c b-none : Bool) → all_to (λ (o : ℕ). test b c b-none (kind_seen o) o) 256 ≡ true
  unfolding all_to kind_seen
  tested true true true = refl
  tested true true false = refl
  tested true false true = refl
  tested true false false = refl
  tested false true true = refl
  tested false true false = refl
  tested false false true = refl
  tested false false false = refl

module _ (v : Bounds) (i n o a b c w : ℕ) (small : o < 256) (closure text entered : Bool) where
  -- what an opcode of a kind below 3 asks at most
  pub plain_lawful : kind_seen o < 3 → plain_seen (kind_seen o) i n a b c v.registers ≡ true → lawful_seen v i n o a b c w closure text entered ≡ true
  plain_lawful k e =
      let r = v.registers in
      let e2 = and_left (ltb (i + 2) n) _ e in
      let more = and_right (ltb (i + 2) n) _ e in
      let ea = and_left (ltb a r) _ more in
      let met = and_right (ltb a r) _ more in
      let e1 = lt-ltb (i + 1) n (omega (arith, ltb-true (i + 2) n e2)) in
      let eb = and_left (eqb (kind_seen o) 0 || ltb b r) _ met in
      let ec = and_right (eqb (kind_seen o) 0 || ltb b r) _ met in
      let asked : (ltb (kind_seen o) 3 && ((eqb (kind_seen o) 0 || ltb b r) && (leb (kind_seen o) 1 || ltb c r))) ≡ true = rw (lt-ltb (kind_seen o) 3 k, eb, ec) refl in
      rw (e1, e2, ea) (implies _ _ (all_below (λ (o : ℕ). test _ _ _ _ _ _ _ _ _ _ (ltb b r) (ltb c r) (eqb b 0) (kind_seen o) o) 256 o (tested _ _ _ _ _ _ _ _ _ _ (ltb b r) (ltb c r) (eqb b 0)) small) asked)

  -- of a name's three opcodes the facts ask the same
  pub name_lawful : (eqb o 44 || (eqb o 45 || eqb o 47)) ≡ true → lawful_seen v i n o a b c w closure text entered ≡ lawful_seen v i n 44 a b c w false text false
  unfolding kind_seen
  name_lawful h = go (eqb o 44) refl (eqb o 45) refl (eqb o 47) refl h
    where
      go : (x : Bool) → eqb o 44 ≡ x → (y : Bool) → eqb o 45 ≡ y → (z : Bool) → eqb o 47 ≡ z → (x || (y || z)) ≡ true → lawful_seen v i n o a b c w closure text entered ≡ lawful_seen v i n 44 a b c w false text false
      go true p y q z r e = ap (λ (k : ℕ). lawful_seen v i n k a b c w closure text entered) (eqb-true o 44 p)
      go false p true q z r e = ap (λ (k : ℕ). lawful_seen v i n k a b c w closure text entered) (eqb-true o 45 q)
      go false p false q true r e = ap (λ (k : ℕ). lawful_seen v i n k a b c w closure text entered) (eqb-true o 47 r)
      go false p false q false r e = absurd (false_true e)
