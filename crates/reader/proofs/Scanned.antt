-- The facts of instructions as they lie in an image.
use mathlib.Core.Path.{◌≡◌, refl, sym, ap, ap₂, ◌∙◌}
use mathlib.Core.Bool.{Bool, true, false, cond}
use mathlib.Core.List.{List, [], ◌∷◌}
use borrow.Author.Tests.{eq-eqb, ne_eqb}
use Rattle.meaning.specs.State.{Capture}
use Prim.Native.Nat.{ℕ, zero, suc, max, ◌+◌, ◌-◌, ◌*◌, ◌<◌, ◌≤◌}
use native.Mathlib.Omega.{arith}
use native.Mathlib.Nat.{suc-mul, zero-mul, mul-le-mul_right}
use lib.ListN.{length, get_or, drop}
use lib.Seq.{get_or-drop}
use lib.Dec.{eqb}
use Rattle.meaning.specs.Opcode.{inst}
use Rattle.meaning.specs.Steps.{inst_at}
use Rattle.reader.specs.Tests.{Bounds}
use Rattle.meaning.specs.Fields.{word_at}
use Rattle.meaning.specs.Grammar.{short_mark}
use Rattle.meaning.specs.Images.{inst_size, inst_of, capture_of}
use Rattle.reader.specs.Laid.{code_in, captures_in, proto_in, proto_span}
use Rattle.reader.specs.Tests.{closure_seen, text_seen, lawful_seen, seen_test, local_need, outer_need}

-- ---- the instruction at an index

next_at : (at span j : ℕ) → at + span + j * span + 3 ≡ at + suc j * span + 3
next_at at span j = omega (arith, suc-mul j span)

first_at : (at span : ℕ) → at + 3 ≡ at + 0 * span + 3
first_at at span = omega (arith, zero-mul span)

pub code_at : (s : List ℕ) (tag span at n i : ℕ) → i < n → inst_at (code_in s tag span at n) i ≡ inst_of tag (drop (at + i * span + 3) s)
unfolding code_in
code_at s tag span at zero i h = absurd (omega arith)
code_at s tag span at (suc n) zero h = ap (λ (k : ℕ). inst_of tag (drop k s)) (first_at at span)
code_at s tag span at (suc n) (suc j) h = code_at s tag span (at + span) n j (omega arith) ∙ ap (λ (k : ℕ). inst_of tag (drop k s)) (next_at at span j)

-- the field of instruction i lies within
pub lies_in : (span at n i len : ℕ) → i < n → at + n * span ≤ len → at + i * span + span ≤ len
lies_in span at n i len h r = omega (arith, mul-le-mul_right {m = suc i} {n = n} span h, suc-mul i span)

pub byte_at : (s : List ℕ) (k j m : ℕ) → k + j ≡ m → get_or (drop k s) j 0 ≡ get_or s m 0
byte_at s k j m e = get_or-drop k s j 0 ∙ ap (λ (n : ℕ). get_or s n 0) e

module _ (s : List ℕ) (tag span at n i : ℕ) (h : i < n) (v : Bounds) (locals outers texts marks : List ℕ) where
  -- the test of the bytes is the test of the instruction
  pub seen_is : (a b c : ℕ) → a ≡ get_or s (at + i * span + 4) 0 → b ≡ get_or s (at + i * span + 5) 0 → c ≡ get_or s (at + i * span + 6) 0
      → (closure text r : Bool) → closure ≡ closure_seen v locals outers (b * 256 + c) → text ≡ text_seen v texts (b * 256 + c)
      → r ≡ lawful_seen v i n (get_or s (at + i * span + 3) 0) a b c (b * 256 + c) closure text (eqb (get_or marks i 0) 1)
      → r ≡ seen_test v locals outers texts marks n i (inst_at (code_in s tag span at n) i)
  unfolding seen_test
  seen_is a b c ea eb ec closure text r el et er =
      let o_is = byte_at s (at + i * span + 3) 0 (at + i * span + 3) (omega arith) in
      let a-is = byte_at s (at + i * span + 3) 1 (at + i * span + 4) (omega arith) ∙ sym ea in
      let b-is = byte_at s (at + i * span + 3) 2 (at + i * span + 5) (omega arith) ∙ sym eb in
      let c_is = byte_at s (at + i * span + 3) 3 (at + i * span + 6) (omega arith) ∙ sym ec in
      er ∙ sym (rw (code_at s tag span at n i h) (rw (o_is, a-is, b-is, c_is, el, et) refl))

-- ---- an instruction by its index

pub inst_size_small : (tag : ℕ) → (6 ≤ inst_size tag) × (inst_size tag ≤ 8)
inst_size_small tag = go (eqb tag 0x47)
  where
    go : (b : Bool) → (6 ≤ cond b 8 6) × (cond b 8 6 ≤ 8)
    go true = (omega arith, omega arith)
    go false = (omega arith, omega arith)

-- what stands from a place on, byte by byte
pub inst_read : (s : List ℕ) (tag at m : ℕ) → m ≡ cond (eqb tag 0x47) (word_at s (at + 4) * 65536 + word_at s (at + 4 + 2)) (short_mark (word_at s (at + 4)))
    → inst (get_or s at 0) (get_or s (at + 1) 0) (get_or s (at + 2) 0) (get_or s (at + 3) 0) m ≡ inst_of tag (drop at s)
inst_read s tag at m e =
    let b0 = byte_at s at 0 at (omega arith) in
    let b4 = byte_at s at 4 (at + 4) refl in
    let b5 = byte_at s at 5 (at + 4 + 1) (omega arith) in
    let b6 = byte_at s at 6 (at + 4 + 2) (omega arith) in
    let b7 = byte_at s at 7 (at + 4 + 2 + 1) (omega arith) in
    sym (rw (b0, byte_at s at 1 (at + 1) refl, byte_at s at 2 (at + 2) refl, byte_at s at 3 (at + 3) refl, b4, b5, b6, b7)
    (ap (inst (get_or s at 0) (get_or s (at + 1) 0) (get_or s (at + 2) 0) (get_or s (at + 3) 0)) (sym e)))

module _ (t : List ℕ) (tag i at : ℕ) (h : i < word_at t 11) (e : at ≡ 13 + word_at t 9 * 5 + i * (3 + inst_size tag)) where
  pub inst_there : inst_of tag (drop (at + 3) t) ≡ inst_at (proto_in t tag).code i
  unfolding proto_in
  inst_there = ap (λ (k : ℕ). inst_of tag (drop (k + 3) t)) e ∙ sym (code_at t tag (3 + inst_size tag) (13 + word_at t 9 * 5) (word_at t 11) i h)

  pub inst_room : proto_span t tag ≤ length t → at + 3 + inst_size tag ≤ length t
  inst_room r = omega (arith, lies_in (3 + inst_size tag) (13 + word_at t 9 * 5) (word_at t 11) i (length t) h r)

-- ---- captures, from the last to the first

captures_open : (t : List ℕ) (a b m : ℕ) → a + 5 ≡ b → captures_in t a (suc m) ≡ capture_of (drop (a + 3) t) ∷ captures_in t b m
unfolding captures_in
captures_open t a b m e = ap (λ (k : ℕ). capture_of (drop (a + 3) t) ∷ captures_in t k m) e

captures_front : (t : List ℕ) (at n j : ℕ) → j < n → captures_in t (at + j * 5) (n - j) ≡ capture_of (drop (at + j * 5 + 3) t) ∷ captures_in t (at + (j + 1) * 5) (n - (j + 1))
captures_front t at n j h =
    ap (captures_in t (at + j * 5)) (let z : n - j ≡ suc (n - (j + 1)) = omega arith in z)
    ∙ captures_open t (at + j * 5) (at + (j + 1) * 5) (n - (j + 1)) (omega arith)

-- the needs of the captures from i on
pub record Needed (t : List ℕ) (at n i l o : ℕ) : Type 0 where
  pub low : i ≤ n
  pub locals : l ≡ local_need (captures_in t (at + i * 5) (n - i))
  pub outers : o ≡ outer_need (captures_in t (at + i * 5) (n - i))

pub needed_start : (t : List ℕ) (at n : ℕ) → Needed t at n n 0 0
unfolding local_need outer_need captures_in
needed_start t at n = record { low = omega arith; locals = sym (ap local_need none_left); outers = sym (ap outer_need none_left) }
  where
    none_left : captures_in t (at + n * 5) (n - n) ≡ []
    none_left = ap (captures_in t (at + n * 5)) (let z : n - n ≡ 0 = omega arith in z)

pub needed_end : (t : List ℕ) (at n i locals outers : ℕ) → i ≡ 0 → Needed t at n i locals outers → (locals ≡ local_need (captures_in t at n)) × (outers ≡ outer_need (captures_in t at n))
needed_end t at n i l o e v =
    let all_of : captures_in t (at + i * 5) (n - i) ≡ captures_in t at n = ap₂ (captures_in t) (let z : at + i * 5 ≡ at = omega arith in z) (let z : n - i ≡ n = omega arith in z) in
    (v.locals ∙ ap local_need all_of, v.outers ∙ ap outer_need all_of)

module _ (t : List ℕ) (at n i j locals outers index : ℕ) (e : i ≡ j + 1) (v : Needed t at n i locals outers) (ei : index ≡ get_or t (at + j * 5 + 4) 0 + 1) where
  abbrev c : Capture
  c = capture_of (drop (at + j * 5 + 3) t)

  abbrev more : List Capture
  more = captures_in t (at + i * 5) (n - i)

  all_now : captures_in t (at + j * 5) (n - j) ≡ c ∷ more
  all_now = captures_front t at n j (omega (arith, v.low)) ∙ ap₂ (λ (a b : ℕ). c ∷ captures_in t a b) (let z : at + (j + 1) * 5 ≡ at + i * 5 = omega arith in z) (let z : n - (j + 1) ≡ n - i = omega arith in z)

  index_is : c.index + 1 ≡ index
  index_is = ap (λ (m : ℕ). m + 1) (byte_at t (at + j * 5 + 3) 1 (at + j * 5 + 4) (omega arith)) ∙ sym ei

  flag_is : get_or (drop (at + j * 5 + 3) t) 0 0 ≡ get_or t (at + j * 5 + 3) 0
  flag_is = byte_at t (at + j * 5 + 3) 0 (at + j * 5 + 3) (omega arith)

  pub needed_local : get_or t (at + j * 5 + 3) 0 ≡ 1 → (l : ℕ) → l ≡ max index locals → Needed t at n j l outers
  unfolding local_need outer_need
  needed_local f l el = record {
    low = omega (arith, v.low);
    locals = el ∙ sym (rw (all_now, eq-eqb (get_or (drop (at + j * 5 + 3) t) 0 0) 1 (flag_is ∙ f)) (rw (index_is, sym v.locals) refl));
    outers = v.outers ∙ sym (rw (all_now, eq-eqb (get_or (drop (at + j * 5 + 3) t) 0 0) 1 (flag_is ∙ f)) refl);
  }

  pub needed_outer : (get_or t (at + j * 5 + 3) 0 ≡ 1 → ⊥) → (o : ℕ) → o ≡ max index outers → Needed t at n j locals o
  unfolding local_need outer_need
  needed_outer f o eo = record {
    low = omega (arith, v.low);
    locals = v.locals ∙ sym (rw (all_now, ne_eqb (get_or (drop (at + j * 5 + 3) t) 0 0) 1 (λ q. f (sym flag_is ∙ q))) refl);
    outers = eo ∙ sym (rw (all_now, ne_eqb (get_or (drop (at + j * 5 + 3) t) 0 0) 1 (λ q. f (sym flag_is ∙ q))) (rw (index_is, sym v.outers) refl));
  }
