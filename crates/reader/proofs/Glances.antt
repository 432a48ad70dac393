-- What the code reads of a field says what Follow says.
use mathlib.Core.Path.{◌≡◌, refl, sym, ap, ap₂, ◌∙◌}
use mathlib.Core.Bool.{Bool, true, false, ◌&&◌, ◌||◌, cond}
use mathlib.Core.Option.{Option, none, some}
use mathlib.Core.Logic.{⊎_elim}
use mathlib.Core.List.{List, [], ◌∷◌}
use Prim.Native.Nat.{ℕ, ◌+◌, ◌-◌, ◌*◌, ◌<◌, ◌≤◌}
use native.Mathlib.Omega.{arith}
use lib.Seq.{get_or-take, get_or-drop}
use lib.ListN.{length, get_or, drop, length-take, length-drop}
use lib.Dec.{eqb, leb, ltb}
use borrow.Author.Tests.{eqb-true, eqb-false, eq-eqb, ne_eqb, lt-ltb, le-ltb}
use Rattle.meaning.specs.Fields.{Field, word_at, span, whole, payload_of, front, rest, fields}
use Rattle.meaning.proofs.FieldLaws.{whole_true, fields_whole, fields_cut, from, FieldWalk, walk_start, walk_part}
use Rattle.meaning.proofs.Lists.{and_left, and_right, lt_or_le, tail_part}
use Rattle.meaning.specs.declared.Due.{Due}
use Rattle.reader.specs.declared.order.Seen.{Seen}
use Rattle.meaning.specs.Images.{inst_size}
use Rattle.meaning.specs.Follow.{due, at_first, sized, is_capture, is_inst, is_header, is_constant, follows_whole, follows, due_after, may_end, further, stray}
use Rattle.reader.specs.Glance.{Glanced, sized_seen, whole_seen, follows_seen, due_seen}

-- ---- the field at the front

module _ (t : List ℕ) (w : whole t ≡ true) where
  pub front_size : length (payload_of t) ≡ word_at t 1
  front_size = simp (length-take, length-drop) (omega (arith, whole_true t w))

  pub front_at : (k : ℕ) → k < word_at t 1 → get_or (payload_of t) k 0 ≡ get_or t (3 + k) 0
  front_at k h = get_or-take (word_at t 1) (drop 3 t) k 0 h ∙ get_or-drop 3 t k 0

  pub front_word : (k : ℕ) → k + 1 < word_at t 1 → word_at (payload_of t) k ≡ word_at t (3 + k)
  front_word k h = ap₂ (λ (x y : ℕ). x * 256 + y) (front_at k (omega arith)) (front_at (k + 1) h ∙ ap (λ (n : ℕ). get_or t n 0) (omega arith))

-- ---- the tests

and_same : (a a' b b' : Bool) → a ≡ a' → (a' ≡ true → b ≡ b') → a && b ≡ a' && b'
and_same a true b b' e f = ap (λ (x : Bool). x && b) e ∙ f refl
and_same a false b b' e f = ap (λ (x : Bool). x && b) e

or_false : (x : Bool) → x || false ≡ x
or_false true = refl
or_false false = refl

module _ (tag : ℕ) (d : Due) (f : Field) (r : Seen) (g : Glanced f r) where
  sized_is : (t n : ℕ) → sized_seen r t n ≡ sized f t n
  sized_is t n = ap₂ (λ (x y : ℕ). eqb x t && eqb y n) g.tag g.size

  size_true : (t n : ℕ) → sized f t n ≡ true → length f.payload ≡ n
  size_true t n e = eqb-true _ _ (and_right (eqb f.tag t) _ e)

  capture_is : (sized_seen r 0x42 2 && leb r.first 1) ≡ is_capture f
  unfolding is_capture
  capture_is = and_same _ _ _ _ (sized_is 0x42 2) (λ e. ap (λ (x : ℕ). leb x 1) (g.first (size_true 0x42 2 e)))

  header_is : (sized_seen r 0x41 10 && ltb 0 r.code) ≡ is_header f
  unfolding is_header
  header_is = and_same _ _ _ _ (sized_is 0x41 10) (λ e. ap (λ (x : ℕ). ltb 0 x) (g.code (size_true 0x41 10 e)))

  constant_is : (sized_seen r 0x44 8 || (sized_seen r 0x45 2 || sized_seen r 0x46 2)) ≡ is_constant f
  unfolding is_constant
  constant_is = ap₂ (λ (x y : Bool). x || y) (sized_is 0x44 8) (ap₂ (λ (x y : Bool). x || y) (sized_is 0x45 2) (sized_is 0x46 2))

  no_constant : f.tag ≡ 0x41 → is_constant f ≡ false
  unfolding is_constant
  no_constant e = simp (ne_eqb f.tag 0x44 (λ q. omega arith), ne_eqb f.tag 0x45 (λ q. omega arith), ne_eqb f.tag 0x46 (λ q. omega arith))

  no_header : (f.tag ≡ 0x41 → ⊥) → is_header f ≡ false
  unfolding is_header
  no_header n = simp (ne_eqb f.tag 0x41 n)

  whole_is : whole_seen d r ≡ follows_whole d f
  unfolding follows_whole
  whole_is = ap₂ (λ (x y : Bool). (x && (ltb d.prototypes 256 && eqb d.constants 0)) || (y && (ltb 0 d.prototypes && ltb d.constants 1024))) header_is constant_is ∙ by_tag (eqb f.tag 0x41) refl
    where
      by_tag : (b : Bool) → eqb f.tag 0x41 ≡ b → ((is_header f && (ltb d.prototypes 256 && eqb d.constants 0)) || (is_constant f && (ltb 0 d.prototypes && ltb d.constants 1024))) ≡ follows_whole d f
      by_tag true e = rw (e, no_constant (eqb-true _ _ e)) (or_false _)
      by_tag false e = rw (e, no_header (eqb-false _ _ e)) refl

  pub follows_is : follows_seen tag (inst_size tag) d r ≡ follows tag d f
  unfolding follows is_inst
  follows_is =
      ap₂ (λ (x y : Bool). (ltb 0 d.captures && x) || (eqb d.captures 0 && y)) capture_is
      (ap₂ (λ (x y : Bool). (ltb 0 d.code && x) || (eqb d.code 0 && y)) (sized_is tag (inst_size tag)) whole_is)
      ∙ ⊎_elim
      (λ (h : 0 < d.captures). simp (lt-ltb 0 d.captures h, ne_eqb d.captures 0 (λ q. omega arith)) (or_false _))
      (λ (h : d.captures ≤ 0). ⊎_elim
      (λ (k : 0 < d.code). simp (le-ltb 0 d.captures h, eq-eqb d.captures 0 (omega arith), lt-ltb 0 d.code k, ne_eqb d.code 0 (λ q. omega arith)) (or_false _))
      (λ (k : d.code ≤ 0). simp (le-ltb 0 d.captures h, eq-eqb d.captures 0 (omega arith), le-ltb 0 d.code k, eq-eqb d.code 0 (omega arith)))
      (lt_or_le 0 d.code))
      (lt_or_le 0 d.captures)

  pub due_is : follows tag d f ≡ true → due_seen d r ≡ due_after d f
  unfolding follows due_after follows_whole is_header
  due_is go = ⊎_elim
      (λ (h : 0 < d.captures). simp (lt-ltb 0 d.captures h))
      (λ (h : d.captures ≤ 0). ⊎_elim
      (λ (k : 0 < d.code). simp (le-ltb 0 d.captures h, lt-ltb 0 d.code k))
      (λ (k : d.code ≤ 0). simp (le-ltb 0 d.captures h, le-ltb 0 d.code k, g.tag) (by_tag (eqb f.tag 0x41) refl (rw (le-ltb 0 d.captures h, le-ltb 0 d.code k) at go)))
      (lt_or_le 0 d.code))
      (lt_or_le 0 d.captures)
    where
      by_tag : (b : Bool) → eqb f.tag 0x41 ≡ b → cond b (is_header f && (ltb d.prototypes 256 && eqb d.constants 0)) (is_constant f && (ltb 0 d.prototypes && ltb d.constants 1024)) ≡ true
          → cond b (due r.captures r.code (d.prototypes + 1) 0) (due 0 0 d.prototypes (d.constants + 1)) ≡ cond b (due (word_at f.payload 6) (word_at f.payload 8) (d.prototypes + 1) 0) (due 0 0 d.prototypes (d.constants + 1))
      by_tag true e q = let n = size_true 0x41 10 (and_left _ _ (and_left _ _ q)) in rw (g.captures n, g.code n) refl
      by_tag false e q = refl

-- at most one prototype and one constant more
pub due_grows : (d : Due) (r : Seen) → ((due_seen d r).prototypes ≤ d.prototypes + 1) × ((due_seen d r).constants ≤ d.constants + 1)
due_grows d r = go (ltb 0 d.captures) (ltb 0 d.code) (eqb r.tag 0x41)
  where
    go : (a b c : Bool) → let e = cond a (due (d.captures - 1) d.code d.prototypes d.constants) (cond b (due 0 (d.code - 1) d.prototypes d.constants) (cond c (due r.captures r.code (d.prototypes + 1) 0) (due 0 0 d.prototypes (d.constants + 1)))) in
        (e.prototypes ≤ d.prototypes + 1) × (e.constants ≤ d.constants + 1)
    go true b c = (omega arith, omega arith)
    go false true c = (omega arith, omega arith)
    go false false true = (omega arith, omega arith)
    go false false false = (omega arith, omega arith)

-- ---- a walk over the fields in order

abbrev pub shift : ℕ → Option ℕ → Option ℕ
shift i none = none
shift i (some k) = some (i + k)

pub shift_zero : (o : Option ℕ) → shift 0 o ≡ o
shift_zero none = refl
shift_zero (some k) = ap (λ (n : ℕ). some n) (omega arith)

shift_further : (i : ℕ) (o : Option ℕ) → shift i (further o) ≡ shift (i + 1) o
shift_further i none = refl
shift_further i (some k) = ap (λ (n : ℕ). some n) (omega arith)

-- the walk stands before field i, with d due; what is strayed from here on is what strays at all
pub record Ordering (s : List ℕ) (tag : ℕ) (t : List ℕ) (d : Due) (i : ℕ) : Type 0 where
  pub walk : FieldWalk s i t
  pub same : shift i (stray tag d (fields t)) ≡ stray tag at_first (fields s)
  pub prototypes : d.prototypes ≤ i
  pub constants : d.constants ≤ i

pub ordering_start : (s : List ℕ) (tag : ℕ) → Ordering s tag s at_first 0
ordering_start s tag = record { walk = walk_start s; same = shift_zero _; prototypes = omega arith; constants = omega arith }

module _ (s : List ℕ) (tag : ℕ) (t : List ℕ) (d : Due) (i : ℕ) (o : Ordering s tag t d i) where
  module _ (w : whole t ≡ true) (r : Seen) (g : Glanced (front t) r) where
    here : stray tag d (fields t) ≡ stray tag d (front t ∷ fields (rest t))
    here = ap (stray tag d) (fields_whole t w)

    astray : follows tag d (front t) ≡ false → stray tag d (front t ∷ fields (rest t)) ≡ some 0
    unfolding stray
    astray e = rw e refl

    onward : follows tag d (front t) ≡ true → stray tag d (front t ∷ fields (rest t)) ≡ further (stray tag (due_after d (front t)) (fields (rest t)))
    unfolding stray
    onward e = rw e refl

    pub ordering_stop : follows_seen tag (inst_size tag) d r ≡ false → some i ≡ stray tag at_first (fields s)
    ordering_stop e =
        let z : i ≡ i + 0 = omega arith in
        ap (λ (n : ℕ). some n) z ∙ sym (ap (shift i) (here ∙ astray (sym (follows_is tag d (front t) r g) ∙ e))) ∙ o.same

    pub ordering_more : follows_seen tag (inst_size tag) d r ≡ true → (k : ℕ) → k ≡ span t → (d' : Due) → d' ≡ due_seen d r → Ordering s tag (from k t) d' (i + 1)
    ordering_more e k q d' m =
        let go : follows tag d (front t) ≡ true = sym (follows_is tag d (front t) r g) ∙ e in
        let p = due_grows d r in
        let rest_is : from k t ≡ rest t = tail_part k t ∙ ap (λ (n : ℕ). drop n t) q in
        rw m record {
          walk = walk_part s i t k o.walk w q;
          same = ap₂ (λ (x : Due) (l : List ℕ). shift (i + 1) (stray tag x (fields l))) (due_is tag d (front t) r g go) rest_is ∙ sym (shift_further i (stray tag (due_after d (front t)) (fields (rest t)))) ∙ sym (ap (shift i) (here ∙ onward go)) ∙ o.same;
          prototypes = omega (arith, o.prototypes, p.0);
          constants = omega (arith, o.constants, p.1);
        }

  pub ordering_end : whole t ≡ false → shift i (cond {A = Option ℕ} (eqb d.captures 0 && (eqb d.code 0 && ltb 0 d.prototypes)) none (some 0)) ≡ stray tag at_first (fields s)
  unfolding stray may_end
  ordering_end w =
      let z : stray tag d (fields t) ≡ stray tag d [] = ap (stray tag d) (fields_cut t w) in
      sym (ap (shift i) z) ∙ o.same
