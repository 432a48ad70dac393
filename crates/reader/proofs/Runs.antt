-- Instructions at once: a run of fields of one size is in order as each of them is.
use mathlib.Core.Path.{◌≡◌, refl, sym, ap, ap₂, ◌∙◌}
use mathlib.Core.Bool.{Bool, true, false, not, ◌||◌, cond}
use mathlib.Core.List.{List}
use Prim.Native.Nat.{ℕ, zero, suc, ◌+◌, ◌-◌, ◌*◌, ◌/◌, ◌<◌, ◌≤◌}
use native.Mathlib.Nat.{div-mul-le_self, zero-mul, suc-mul, mul-le-mul_right, not-suc-le-zero}
use native.Mathlib.Numerals.{add-one}
use native.Mathlib.Omega.{arith}
use lib.ListN.{length, get_or, drop, length-drop}
use lib.Seq.{drop-drop}
use lib.Dec.{eqb}
use borrow.Author.Count.{below_more}
use borrow.Author.Tests.{eqb-true, eq-eqb, lt-ltb, le-leb}
use Rattle.meaning.specs.Fields.{word_at, span, whole, front}
use Rattle.meaning.proofs.FieldLaws.{from}
use Rattle.meaning.proofs.Lists.{false_true, tail_part}
use Rattle.meaning.specs.declared.Due.{Due}
use Rattle.meaning.specs.Images.{inst_size}
use Rattle.meaning.specs.Follow.{due}
use Rattle.reader.specs.declared.order.Seen.{Seen}
use Rattle.reader.specs.Glance.{Glanced, follows_seen, due_seen, ready, less, Run}
use Rattle.reader.proofs.Scanned.{byte_at, inst_size_small}
use Rattle.reader.proofs.Glances.{Ordering, ordering_more, front_size}

pub run_start : (s : List ℕ) (tag size n : ℕ) → Run s tag size n 0
run_start s tag size n = record { few = omega arith; room = omega (arith, zero-mul (3 + size)); each = λ j h. absurd (not-suc-le-zero h) }

pub run_next : (i z : ℕ) → (i + 1) * z ≡ i * z + z
run_next i z = ap (λ (k : ℕ). k * z) (add-one i) ∙ suc-mul i z

pub run_moved : (s : List ℕ) (tag z z' n n' r : ℕ) → z ≡ z' → n ≡ n' → Run s tag z n r → Run s tag z' n' r
run_moved s tag z z' n n' r e f x = rw (sym e, sym f) x

pub ready_low : (d : Due) → ready d ≤ d.code
ready_low d = go (eqb d.captures 0)
  where
    go : (b : Bool) → cond b d.code 0 ≤ d.code
    go true = omega arith
    go false = omega arith

pub from_low : (q : ℕ) (t : List ℕ) → length (from q t) ≤ length t
from_low q t = omega (arith, ap length (tail_part q t), length-drop q t)

-- one of so many as there is room for lies within
pub run_within : (len z most i : ℕ) → most ≤ len / z → i < most → i * z + z ≤ len
run_within len z most i m h = omega (arith, mul-le-mul_right {m = suc i} {n = len / z} z (omega arith), suc-mul i z, div-mul-le_self len z)

neither : (x y : Bool) → (not x || not y) ≡ false → (x ≡ true) × (y ≡ true)
neither true true e = (refl, refl)
neither true false e = absurd (false_true (sym e))
neither false y e = absurd (false_true (sym e))

-- one field more
pub run_more : (s : List ℕ) (tag size n i at w : ℕ) → at ≡ i * (3 + size) → Run s tag size n i → i < n → at + (3 + size) ≤ length s
    → w ≡ word_at s (at + 1) → (not (eqb (get_or s at 0) tag) || not (eqb w size)) ≡ false → Run s tag size n (i + 1)
run_more s tag size n i at w e r h room ew test =
    let both = neither (eqb (get_or s at 0) tag) (eqb w size) test in
    record {
      few = omega arith;
      room = omega (arith, run_next i (3 + size));
      each = below_more (λ (j : ℕ). (get_or s (j * (3 + size)) 0 ≡ tag) × (word_at s (j * (3 + size) + 1) ≡ size)) i r.each
          (ap (λ (k : ℕ). get_or s k 0) (sym e) ∙ eqb-true _ _ both.0, ap (λ (k : ℕ). word_at s (k + 1)) (sym e) ∙ sym ew ∙ eqb-true _ _ both.1);
    }

-- ---- in order

moved : (s : List ℕ) (tag : ℕ) (t t' : List ℕ) (d d' : Due) (i i' : ℕ) → t ≡ t' → d ≡ d' → i ≡ i' → Ordering s tag t d i → Ordering s tag t' d' i'
moved s tag t t' d d' i i' e f g o = rw (sym e, sym f, sym g) o

module _ (s : List ℕ) (tag : ℕ) (t : List ℕ) where
  -- what is read of an instruction
  abbrev seen : Seen
  seen = record { tag = tag; size = inst_size tag; first = 0; captures = 0; code = 0 }

  module _ (k : ℕ) (room : k * (3 + inst_size tag) + (3 + inst_size tag) ≤ length t) (et : get_or t (k * (3 + inst_size tag)) 0 ≡ tag) (ew : word_at t (k * (3 + inst_size tag) + 1) ≡ inst_size tag) where
    abbrev here : List ℕ
    here = drop (k * (3 + inst_size tag)) t

    length_here : word_at here 1 ≡ inst_size tag
    length_here = ap₂ (λ (x y : ℕ). x * 256 + y) (byte_at t (k * (3 + inst_size tag)) 1 _ refl) (byte_at t (k * (3 + inst_size tag)) 2 _ (omega arith)) ∙ ew

    whole_here : whole here ≡ true
    unfolding whole
    whole_here = le-leb (span here) (length here) (omega (arith, length_here, length-drop (k * (3 + inst_size tag)) t))

    seen_here : Glanced (front here) seen
    seen_here =
        let n = front_size here whole_here ∙ length_here in
        let z = inst_size_small tag in
        record {
          tag = sym (byte_at t (k * (3 + inst_size tag)) 0 _ (omega arith) ∙ et);
          size = sym n;
          first = λ q. absurd (omega (arith, n, z.0));
          captures = λ q. absurd (omega (arith, n, z.1));
          code = λ q. absurd (omega (arith, n, z.1));
        }

    can_follow : (x p c : ℕ) → 0 < x → follows_seen tag (inst_size tag) (due 0 x p c) seen ≡ true
    can_follow x p c h = rw (lt-ltb 0 x h, eq-eqb tag tag refl, eq-eqb (inst_size tag) (inst_size tag) refl) refl

    one_fewer : (x p c : ℕ) → 0 < x → due 0 (x - 1) p c ≡ due_seen (due 0 x p c) seen
    one_fewer x p c h = rw (lt-ltb 0 x h) refl

    step : (x p c i : ℕ) → 0 < x → Ordering s tag here (due 0 x p c) i → Ordering s tag (from (3 + inst_size tag) here) (due 0 (x - 1) p c) (i + 1)
    step x p c i h o = ordering_more s tag here (due 0 x p c) i o whole_here seen seen_here (can_follow x p c h) (3 + inst_size tag) (ap (λ (n : ℕ). 3 + n) (sym length_here)) (due 0 (x - 1) p c) (one_fewer x p c h)

  -- so many of them
  steps : (x p c i n m : ℕ) → Ordering s tag t (due 0 x p c) i → Run t tag (inst_size tag) n m → n ≤ x → (k : ℕ) → k ≤ m → Ordering s tag (drop (k * (3 + inst_size tag)) t) (due 0 (x - k) p c) (i + k)
  steps x p c i n m o r f zero h =
      moved s tag t _ (due 0 x p c) _ i _ (ap (λ (b : ℕ). drop b t) (sym (zero-mul (3 + inst_size tag)))) (ap (λ (b : ℕ). due 0 b p c) (let z : x ≡ x - 0 = omega arith in z)) (omega arith) o
  steps x p c i n m o r f (suc k) h =
      let z = 3 + inst_size tag in
      let e = r.each k h in
      let room : k * (3 + inst_size tag) + (3 + inst_size tag) ≤ length t = omega (arith, mul-le-mul_right {m = suc k} {n = m} z h, suc-mul k z, r.room) in
      moved s tag _ _ _ _ _ _ (tail_part z _ ∙ drop-drop z (k * z) t ∙ ap (λ (b : ℕ). drop b t) (sym (suc-mul k z))) (ap (λ (b : ℕ). due 0 b p c) (let w : x - k - 1 ≡ x - suc k = omega arith in w)) (omega arith)
      (step k room e.0 e.1 (x - k) p c (i + k) (omega (arith, r.few)) (steps x p c i n m o r f k (omega arith)))

  -- the run that is due
  pub ordering_run : (d : Due) (i m q : ℕ) → Ordering s tag t d i → Run t tag (inst_size tag) (ready d) m → q ≡ m * (3 + inst_size tag) → (d' : Due) → d' ≡ less d m → Ordering s tag (from q t) d' (i + m)
  ordering_run d i m q o r eq d' ed = go (eqb d.captures 0) refl
    where
      go : (b : Bool) → eqb d.captures 0 ≡ b → Ordering s tag (from q t) d' (i + m)
      go true e =
          let z = eqb-true d.captures 0 e in
          let first = moved s tag t t d (due 0 d.code d.prototypes d.constants) i i refl (ap (λ (n : ℕ). due n d.code d.prototypes d.constants) z) refl o in
          moved s tag _ _ _ _ _ _ (ap (λ (n : ℕ). drop n t) (sym eq) ∙ sym (tail_part q t)) (ap (λ (n : ℕ). due n (d.code - m) d.prototypes d.constants) (sym z) ∙ sym ed) refl
          (steps d.code d.prototypes d.constants i (ready d) m first r (ready_low d) m (omega arith))
      go false e =
          let none : m ≡ 0 = omega (arith, rw e at r.few) in
          let nought : q ≡ 0 = eq ∙ ap (λ (n : ℕ). n * (3 + inst_size tag)) none ∙ zero-mul (3 + inst_size tag) in
          moved s tag t _ d _ i _ (ap (λ (n : ℕ). drop n t) (sym nought) ∙ sym (tail_part q t)) (ap (λ (n : ℕ). due d.captures n d.prototypes d.constants) (let z : d.code ≡ d.code - m = omega arith in z) ∙ sym ed) (omega arith) o
