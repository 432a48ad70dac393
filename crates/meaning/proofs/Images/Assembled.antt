-- Fields that follow one another are those of the image that they stand for.
use mathlib.Core.Path.{◌≡◌, refl, sym, ap, ap₂, ◌∙◌, subst}
use mathlib.Core.Bool.{Bool, true, false, ◌&&◌, ◌||◌, cond}
use mathlib.Core.Option.{Option, none, some}
use mathlib.Core.Logic.{◌⊎◌, inl, inr, ⊎_elim}
use mathlib.Core.List.{List, [], ◌∷◌, ◌++◌, map, append_assoc}
use Prim.Native.Nat.{ℕ, zero, suc, ◌+◌, ◌-◌, ◌*◌, ◌/◌, ◌%◌, ◌<◌, ◌≤◌}
use native.Mathlib.Omega.{arith}
use lib.ListN.{length, get_or}
use lib.Dec.{eqb, ltb}
use borrow.Author.Tests.{eqb-true, eq-eqb, ne_eqb, ltb-true, leb-true, lt-ltb, le-ltb}
use Rattle.meaning.specs.Fields.{Field, word_at}
use Rattle.meaning.specs.Grammar.{short_mark}
use Rattle.meaning.specs.Constant.{number, text, other}
use Rattle.meaning.specs.State.{Capture, Proto}
use Rattle.meaning.specs.Image.{word, flag, number_bytes}
use Rattle.meaning.proofs.Lists.{and_left, and_right, lt_or_le, empty}
use Rattle.meaning.specs.declared.Instruction.{Instruction}
use Rattle.meaning.specs.declared.Due.{Due}
use Rattle.meaning.specs.Images.{capture_of, inst_of, bits_of, constant_in, Parts, proto_of, add_field, parts, image_of}
use Rattle.meaning.proofs.Images.Listed.{header_field, capture_field, inst_field, constant_field, proto_fields, image_fields}
use Rattle.meaning.specs.Follow.{due, at_first, sized, is_capture, is_inst, is_header, is_constant, follows_whole, follows, due_after, may_end, further, stray}
use Rattle.meaning.specs.Safety.{All}
use Rattle.meaning.proofs.Ranges.Fits.{ConstantFits, MarkIn, short_in, long_in}
use Rattle.meaning.proofs.Images.Fielded.{Bytes, bytes_at, word_back, spell, spelled, Payloads, and_more}

-- ---- one field and what it stands for

field_is : (f : Field) (t : ℕ) (p : List ℕ) → f.tag ≡ t → f.payload ≡ p → record { tag = t; payload = p } ≡ f
field_is f t p e q = ap₂ (λ (t : ℕ) (p : List ℕ). (let r : Field = record { tag = t; payload = p } in r)) (sym e) (sym q)

at_length : (p : List ℕ) (n : ℕ) → length p ≡ n → p ≡ spell p 0 n
at_length p n e = sym (spelled p) ∙ ap (spell p 0) e

flag_back : (a : ℕ) → a ≤ 1 → flag (eqb a 1) ≡ a
flag_back zero h = refl
flag_back (suc zero) h = refl
flag_back (suc (suc a)) h = absurd (omega arith)

capture_back : (f : Field) → is_capture f ≡ true → capture_field (capture_of f.payload) ≡ f
unfolding is_capture spell
capture_back f e =
    let p = f.payload in
    let s = and_left _ _ e in
    field_is f 0x42 _ (eqb-true _ _ (and_left _ _ s))
    (at_length p 2 (eqb-true _ _ (and_right (eqb f.tag 0x42) _ s)) ∙ ap (λ (a : ℕ). a ∷ get_or p 1 0 ∷ []) (sym (flag_back _ (leb-true _ _ (and_right (sized f 0x42 2) _ e)))))

-- the word at a place, written
two : (p : List ℕ) → Bytes p → (k : ℕ) → word (word_at p k) ≡ get_or p k 0 ∷ get_or p (k + 1) 0 ∷ []
two p b k = word_back _ _ (bytes_at p b k) (bytes_at p b (k + 1))

abbrev join : {a b c d : List ℕ} → a ≡ c → b ≡ d → a ++ b ≡ c ++ d
join p q = ap₂ (λ (x y : List ℕ). x ++ y) p q

header_back : (f : Field) → Bytes f.payload → is_header f ≡ true → (cs : List Capture) (xs : List Instruction)
    → length cs ≡ word_at f.payload 6 → length xs ≡ word_at f.payload 8 → header_field (proto_of f.payload cs xs) ≡ f
unfolding is_header spell
header_back f b e cs xs m n =
    let p = f.payload in
    let s = and_left _ _ e in
    field_is f 0x41 _ (eqb-true _ _ (and_left _ _ s))
    (at_length p 10 (eqb-true _ _ (and_right (eqb f.tag 0x41) _ s))
    ∙ sym (join (two p b 0) (join (two p b 2) (join (two p b 4) (join (ap word m ∙ two p b 6) (ap word n ∙ two p b 8))))))

-- four bytes as one number
high : (a b : ℕ) → b < 65536 → (a * 65536 + b) / 65536 ≡ a
high a b h = omega arith

low : (a b c : ℕ) → b < 256 → c < 256 → word (a * 65536 + (b * 256 + c)) ≡ b ∷ c ∷ []
low a b c p q = ap₂ (λ (x y : ℕ). x ∷ y ∷ []) (let e : (a * 65536 + (b * 256 + c)) / 256 % 256 ≡ b = omega arith in e) (let e : (a * 65536 + (b * 256 + c)) % 256 ≡ c = omega arith in e)

-- the tag of instructions
abbrev pub Tagged : ℕ → Type 0
Tagged tag = (tag ≡ 0x43) ⊎ (tag ≡ 0x47)

-- a mark of two bytes: 65,535 is written as it was read, though it stands for none
short_back : (a b : ℕ) → word (short_mark (a * 256 + b)) ≡ word (a * 256 + b)
short_back a b = go (eqb (a * 256 + b) 65535) refl
  where
    go : (c : Bool) → eqb (a * 256 + b) 65535 ≡ c → word (cond c 4294967295 (a * 256 + b)) ≡ word (a * 256 + b)
    go true e = ap word (sym (eqb-true (a * 256 + b) 65535 e))
    go false e = refl

inst_43 : (f : Field) → Bytes f.payload → is_inst 0x43 f ≡ true → inst_field 0x43 (inst_of 0x43 f.payload) ≡ f
unfolding is_inst spell
inst_43 f b e =
    let p = f.payload in
    field_is f 0x43 _ (eqb-true _ _ (and_left _ _ e))
    (at_length p 6 (eqb-true _ _ (and_right (eqb f.tag 0x43) _ e)) ∙ ap (λ (l : List ℕ). get_or p 0 0 ∷ get_or p 1 0 ∷ get_or p 2 0 ∷ get_or p 3 0 ∷ l) (sym (short_back _ _ ∙ two p b 4)))

inst_47 : (f : Field) → Bytes f.payload → is_inst 0x47 f ≡ true → inst_field 0x47 (inst_of 0x47 f.payload) ≡ f
unfolding is_inst spell
inst_47 f b e =
    let p = f.payload in
    field_is f 0x47 _ (eqb-true _ _ (and_left _ _ e))
    (at_length p 8 (eqb-true _ _ (and_right (eqb f.tag 0x47) _ e)) ∙ ap (λ (l : List ℕ). get_or p 0 0 ∷ get_or p 1 0 ∷ get_or p 2 0 ∷ get_or p 3 0 ∷ l)
    (sym (join (ap word (high (word_at p 4) (word_at p 6) (omega (arith, bytes_at p b 6, bytes_at p b 7))) ∙ two p b 4) (low (word_at p 4) _ _ (bytes_at p b 6) (bytes_at p b 7)))))

inst_back : (tag : ℕ) (f : Field) → Tagged tag → Bytes f.payload → is_inst tag f ≡ true → inst_field tag (inst_of tag f.payload) ≡ f
inst_back tag f (inl e) b = subst (λ (t : ℕ). is_inst t f ≡ true → inst_field t (inst_of t f.payload) ≡ f) (sym e) (inst_43 f b)
inst_back tag f (inr e) b = subst (λ (t : ℕ). is_inst t f ≡ true → inst_field t (inst_of t f.payload) ≡ f) (sym e) (inst_47 f b)

-- eight bytes as one number
bits_back : (p : List ℕ) → Bytes p → number_bytes (bits_of p) ≡ spell p 0 8
unfolding spell
bits_back p b =
    let w0 : word_at p 0 < 65536 = omega (arith, bytes_at p b 0, bytes_at p b 1) in
    let w2 : word_at p 2 < 65536 = omega (arith, bytes_at p b 2, bytes_at p b 3) in
    let w4 : word_at p 4 < 65536 = omega (arith, bytes_at p b 4, bytes_at p b 5) in
    let w6 : word_at p 6 < 65536 = omega (arith, bytes_at p b 6, bytes_at p b 7) in
    join (ap word (first (word_at p 0) (word_at p 2) (word_at p 4) (word_at p 6) w2 w4 w6) ∙ two p b 0)
    (join (ap word (second (word_at p 0) (word_at p 2) (word_at p 4) (word_at p 6) w4 w6) ∙ low (word_at p 0) _ _ (bytes_at p b 2) (bytes_at p b 3))
    (join (ap word (high ((word_at p 0 * 65536 + word_at p 2) * 65536 + word_at p 4) (word_at p 6) w6) ∙ low _ _ _ (bytes_at p b 4) (bytes_at p b 5))
    (low ((word_at p 0 * 65536 + word_at p 2) * 65536 + word_at p 4) _ _ (bytes_at p b 6) (bytes_at p b 7))))
  where
    first : (a b c d : ℕ) → b < 65536 → c < 65536 → d < 65536 → (((a * 65536 + b) * 65536 + c) * 65536 + d) / 281474976710656 ≡ a
    first a b c d p q r = omega arith

    second : (a b c d : ℕ) → c < 65536 → d < 65536 → (((a * 65536 + b) * 65536 + c) * 65536 + d) / 4294967296 ≡ a * 65536 + b
    second a b c d p q = omega arith

-- one of three tests
or_three : (a b c : Bool) → a || (b || c) ≡ true → (a ≡ true) ⊎ ((b ≡ true) ⊎ (c ≡ true))
or_three true b c e = inl refl
or_three false true c e = inr (inl refl)
or_three false false c e = inr (inr e)

-- a field of a tag and a length
pub tag_of : (f : Field) (t n : ℕ) → sized f t n ≡ true → f.tag ≡ t
tag_of f t n e = eqb-true _ _ (and_left _ _ e)

pub size_of : (f : Field) (t n : ℕ) → sized f t n ≡ true → length f.payload ≡ n
size_of f t n e = eqb-true _ _ (and_right (eqb f.tag t) _ e)

pub other_tag : (f : Field) (t u : ℕ) → f.tag ≡ t → (t ≡ u → ⊥) → eqb f.tag u ≡ false
other_tag f t u e n = ne_eqb _ _ (λ q. n (sym e ∙ q))

pub same_tag : (f : Field) (t : ℕ) → f.tag ≡ t → eqb f.tag t ≡ true
same_tag f t e = eq-eqb _ _ e

constant_back : (f : Field) → Bytes f.payload → is_constant f ≡ true → constant_field (constant_in f) ≡ f
unfolding is_constant spell
constant_back f b e = ⊎_elim
    (λ (s : sized f 0x44 8 ≡ true). let t = tag_of f 0x44 8 s in
    rw (same_tag f 0x44 t) (field_is f 0x44 _ t (at_length f.payload 8 (size_of f 0x44 8 s) ∙ sym (bits_back f.payload b))))
    (λ r. ⊎_elim
    (λ (s : sized f 0x45 2 ≡ true). let t = tag_of f 0x45 2 s in
    rw (other_tag f 0x45 0x44 t (λ q. omega arith), same_tag f 0x45 t) (field_is f 0x45 _ t (at_length f.payload 2 (size_of f 0x45 2 s) ∙ sym (two f.payload b 0))))
    (λ (s : sized f 0x46 2 ≡ true). let t = tag_of f 0x46 2 s in
    rw (other_tag f 0x46 0x44 t (λ q. omega arith), other_tag f 0x46 0x45 t (λ q. omega arith)) (field_is f 0x46 _ t (at_length f.payload 2 (size_of f 0x46 2 s) ∙ sym (two f.payload b 0))))
    r)
    (or_three _ _ _ e)

pub constant_tag : (f : Field) → is_constant f ≡ true → (0x44 ≤ f.tag) × (f.tag ≤ 0x46)
unfolding is_constant
constant_tag f e = ⊎_elim
    (λ (s : sized f 0x44 8 ≡ true). let t = tag_of f 0x44 8 s in (omega arith, omega arith))
    (λ r. ⊎_elim (λ (s : sized f 0x45 2 ≡ true). let t = tag_of f 0x45 2 s in (omega arith, omega arith)) (λ (s : sized f 0x46 2 ≡ true). let t = tag_of f 0x46 2 s in (omega arith, omega arith)) r)
    (or_three _ _ _ e)

-- ---- a field, and those that follow it

pub stray_head : (tag : ℕ) (d : Due) (f : Field) (fs : List Field) → stray tag d (f ∷ fs) ≡ none → (follows tag d f ≡ true) × (stray tag (due_after d f) fs ≡ none)
unfolding stray
stray_head tag d f fs e = go (follows tag d f) refl (stray tag (due_after d f) fs) refl e
  where
    go : (b : Bool) → follows tag d f ≡ b → (o : Option ℕ) → stray tag (due_after d f) fs ≡ o → cond b (further o) (some 0) ≡ none → (follows tag d f ≡ true) × (stray tag (due_after d f) fs ≡ none)
    go true p none q r = (p, q)
    go true p (some k) q r = absurd (let z : ◌≡◌ {A = ℕ} 0 1 = cc in omega arith)
    go false p o q r = absurd (let z : ◌≡◌ {A = ℕ} 0 1 = cc in omega arith)

-- ---- numbers in their ranges

-- a mark, by the width
abbrev pub MarkFits : (tag : ℕ) → Instruction → Type 0
MarkFits tag x = MarkIn tag x.mark

pub record HeaderFits (tag : ℕ) (p : Proto) : Type 0 where
  pub name : p.name < 65536
  pub params : p.params < 65536
  pub registers : p.registers < 65536
  pub captures : length p.captures < 65536
  pub some : 0 < length p.code
  pub code : length p.code < 65536
  pub marks : All (MarkFits tag) p.code

word_below : (p : List ℕ) → Bytes p → (k : ℕ) → word_at p k < 65536
word_below p b k = omega (arith, bytes_at p b k, bytes_at p b (k + 1))

mark_in : (tag : ℕ) → Tagged tag → (p : List ℕ) → Bytes p → MarkFits tag (inst_of tag p)
mark_in tag (inl e) p b = subst (λ (t : ℕ). MarkFits t (inst_of t p)) (sym e) (short_in (word_at p 4) (word_below p b 4))
mark_in tag (inr e) p b = subst (λ (t : ℕ). MarkFits t (inst_of t p)) (sym e) (long_in (word_at p 4) (word_at p 6) (word_below p b 4) (word_below p b 6))

header_fits : (tag : ℕ) (f : Field) → Bytes f.payload → is_header f ≡ true → (cs : List Capture) (xs : List Instruction)
    → length cs ≡ word_at f.payload 6 → length xs ≡ word_at f.payload 8 → All (MarkFits tag) xs → HeaderFits tag (proto_of f.payload cs xs)
unfolding is_header
header_fits tag f b e cs xs m n h =
    let p = f.payload in
    let some-code = ltb-true 0 (word_at p 8) (and_right (sized f 0x41 10) _ e) in
    record {
      name = word_below p b 0;
      params = word_below p b 2;
      registers = word_below p b 4;
      captures = omega (arith, m, word_below p b 6);
      some = omega (arith, n, some-code);
      code = omega (arith, n, word_below p b 8);
      marks = h;
    }

constant_fits : (f : Field) → Bytes f.payload → ConstantFits (constant_in f)
constant_fits f b = go (eqb f.tag 0x44) (eqb f.tag 0x45)
  where
    two_words : (x y : ℕ) (m : ℕ) → x < m → y < 65536 → x * 65536 + y < m * 65536
    two_words x y m h k = omega arith

    eight : bits_of f.payload < 18446744073709551616
    eight =
        let p = f.payload in
        two_words _ (word_at p 6) 281474976710656 (two_words _ (word_at p 4) 4294967296 (two_words (word_at p 0) (word_at p 2) 65536 (word_below p b 0) (word_below p b 2)) (word_below p b 4)) (word_below p b 6)

    go : (x y : Bool) → ConstantFits (cond x (number (bits_of f.payload)) (cond y (text (word_at f.payload 0)) (other (word_at f.payload 0))))
    go true y = eight
    go false true = word_below f.payload b 0
    go false false = word_below f.payload b 0

-- what the parts of fields in order are
pub record Made (tag : ℕ) (d : Due) (r : Parts) (fs : List Field) : Type 0 where
  pub captures : length r.captures ≡ d.captures
  pub code : length r.code ≡ d.code
  pub late : 0 < d.constants → d.captures ≡ 0 → d.code ≡ 0 → r.prototypes ≡ []
  pub some : 0 < d.prototypes + length r.prototypes
  pub few : d.prototypes ≤ 256 → d.prototypes + length r.prototypes ≤ 256
  pub few_constants : d.constants ≤ 1024 → d.constants + length r.constants ≤ 1024
  pub marks : All (MarkFits tag) r.code
  pub numbers : All (HeaderFits tag) r.prototypes
  pub values : All ConstantFits r.constants
  pub fields : map capture_field r.captures ++ (map (inst_field tag) r.code ++ (proto_fields tag r.prototypes ++ map constant_field r.constants)) ≡ fs

-- a field before the others
cons : {f g : Field} {fs gs : List Field} → f ≡ g → fs ≡ gs → f ∷ fs ≡ g ∷ gs
cons p q = ap₂ (λ (x : Field) (y : List Field). x ∷ y) p q

module _ (tag : ℕ) (ok : Tagged tag) where
  not_tag : (t : ℕ) → (t ≡ 0x43 → ⊥) → (t ≡ 0x47 → ⊥) → t ≡ tag → ⊥
  not_tag t n m e = ⊎_elim (λ (q : tag ≡ 0x43). n (e ∙ q)) (λ (q : tag ≡ 0x47). m (e ∙ q)) ok

  module _ (d : Due) (f : Field) (fs : List Field) (b : Bytes f.payload) (r : Parts) where
    -- where captures are due
    with_capture : is_capture f ≡ true → 0 < d.captures → Made tag (due (d.captures - 1) d.code d.prototypes d.constants) r fs → Made tag d (add_field tag f r) (f ∷ fs)
    unfolding add_field is_capture
    with_capture e h a =
        let t = tag_of f 0x42 2 (and_left _ _ e) in
        rw (other_tag f 0x42 0x41 t (λ q. omega arith), same_tag f 0x42 t)
        record { captures = omega (arith, a.captures); code = a.code; late = λ p q. absurd (omega arith); some = a.some; few = a.few; few_constants = a.few_constants; marks = a.marks; numbers = a.numbers; values = a.values; fields = cons (capture_back f e) a.fields }

    -- where instructions are
    with_inst : is_inst tag f ≡ true → d.captures ≡ 0 → 0 < d.code → Made tag (due 0 (d.code - 1) d.prototypes d.constants) r fs → Made tag d (add_field tag f r) (f ∷ fs)
    unfolding add_field is_inst
    with_inst e z h a =
        let t = tag_of f tag _ e in
        let none = empty r.captures (omega (arith, a.captures)) in
        rw (other_tag f tag 0x41 t (λ q. not_tag 0x41 (λ v. omega arith) (λ v. omega arith) (sym q)), other_tag f tag 0x42 t (λ q. not_tag 0x42 (λ v. omega arith) (λ v. omega arith) (sym q)), same_tag f tag t)
        record { captures = omega (arith, a.captures); code = omega (arith, a.code); late = λ p q s. absurd (omega arith); some = a.some; few = a.few; few_constants = a.few_constants; marks = (mark_in tag ok f.payload b, a.marks); numbers = a.numbers; values = a.values; fields = rw none (cons (inst_back tag f ok b e) (rw none at a.fields)) }

    -- where a header is
    with_header : is_header f ≡ true → d.captures ≡ 0 → d.code ≡ 0 → d.prototypes < 256 → d.constants ≡ 0 → Made tag (due (word_at f.payload 6) (word_at f.payload 8) (d.prototypes + 1) 0) r fs → Made tag d (add_field tag f r) (f ∷ fs)
    unfolding add_field is_header proto_fields
    with_header e z y l x a =
        let t = tag_of f 0x41 10 (and_left _ _ e) in
        rw (same_tag f 0x41 t)
        record { captures = sym z; code = sym y; late = λ p q s. absurd (omega arith); some = omega arith; few = λ p. omega (arith, a.few (omega arith)); few_constants = λ p. omega (arith, a.few_constants (omega arith)); marks = tt; numbers = (header_fits tag f b e r.captures r.code a.captures a.code a.marks, a.numbers); values = a.values; fields = cons (header_back f b e r.captures r.code a.captures a.code) (simp append_assoc a.fields) }

    -- where a constant is
    with_constant : is_constant f ≡ true → d.captures ≡ 0 → d.code ≡ 0 → d.constants < 1024 → Made tag (due 0 0 d.prototypes (d.constants + 1)) r fs → Made tag d (add_field tag f r) (f ∷ fs)
    unfolding add_field proto_fields
    with_constant e z y l a =
        let t = constant_tag f e in
        let no-captures = empty r.captures (omega (arith, a.captures)) in
        let no_code = empty r.code (omega (arith, a.code)) in
        let no-protos = a.late (omega arith) refl refl in
        rw (ne_eqb f.tag 0x41 (λ q. omega arith), ne_eqb f.tag 0x42 (λ q. omega arith), ne_eqb f.tag tag (λ q. ⊎_elim (λ (v : tag ≡ 0x43). omega arith) (λ (v : tag ≡ 0x47). omega arith) ok))
        record { captures = omega (arith, a.captures); code = omega (arith, a.code); late = λ p q s. no-protos; some = a.some; few = a.few; few_constants = λ p. omega (arith, a.few_constants (omega arith)); marks = a.marks; numbers = a.numbers; values = (constant_fits f b, a.values); fields = rw (no-captures, no_code, no-protos) (cons (constant_back f b e) (rw (no-captures, no_code, no-protos) at a.fields)) }

    -- whichever it is
    with_field : follows tag d f ≡ true → Made tag (due_after d f) r fs → Made tag d (add_field tag f r) (f ∷ fs)
    unfolding follows due_after follows_whole
    with_field go on = ⊎_elim
        (λ (h : 0 < d.captures). with_capture (rw (lt-ltb 0 d.captures h) at go) h (rw (lt-ltb 0 d.captures h) at on))
        (λ (h : d.captures ≤ 0). ⊎_elim
        (λ (k : 0 < d.code). with_inst (rw (le-ltb 0 d.captures h, lt-ltb 0 d.code k) at go) (omega arith) k (rw (le-ltb 0 d.captures h, lt-ltb 0 d.code k) at on))
        (λ (k : d.code ≤ 0). by_tag (omega arith) (omega arith) (eqb f.tag 0x41) refl (rw (le-ltb 0 d.captures h, le-ltb 0 d.code k) at go) (rw (le-ltb 0 d.captures h, le-ltb 0 d.code k) at on))
        (lt_or_le 0 d.code))
        (lt_or_le 0 d.captures)
      where
        by_tag : d.captures ≡ 0 → d.code ≡ 0 → (t : Bool) → eqb f.tag 0x41 ≡ t
            → cond t (is_header f && (ltb d.prototypes 256 && eqb d.constants 0)) (is_constant f && (ltb 0 d.prototypes && ltb d.constants 1024)) ≡ true
            → Made tag (cond t (due (word_at f.payload 6) (word_at f.payload 8) (d.prototypes + 1) 0) (due 0 0 d.prototypes (d.constants + 1))) r fs
            → Made tag d (add_field tag f r) (f ∷ fs)
        by_tag z y true t e a = with_header (and_left _ _ e) z y (ltb-true d.prototypes 256 (and_left _ _ (and_right (is_header f) _ e))) (eqb-true _ _ (and_right (ltb d.prototypes 256) _ (and_right (is_header f) _ e))) a
        by_tag z y false t e a = with_constant (and_left _ _ e) z y (ltb-true d.constants 1024 (and_right (ltb 0 d.prototypes) _ (and_right (is_constant f) _ e))) a

  -- fields in order are those of their parts
  pub assembled : (fs : List Field) (d : Due) → Payloads fs → stray tag d fs ≡ none → Made tag d (parts tag fs) fs
  unfolding parts stray may_end proto_fields
  assembled [] d bs e = last (eqb d.captures 0) refl (eqb d.code 0) refl (ltb 0 d.prototypes) refl e
    where
      last : (x : Bool) → eqb d.captures 0 ≡ x → (y : Bool) → eqb d.code 0 ≡ y → (z : Bool) → ltb 0 d.prototypes ≡ z → cond {A = Option ℕ} (x && (y && z)) none (some 0) ≡ none
          → Made tag d (record { captures = []; code = []; prototypes = []; constants = [] }) []
      last true p true q true w r =
          let l = ltb-true 0 d.prototypes w in
          record {
            captures = sym (eqb-true _ _ p);
            code = sym (eqb-true _ _ q);
            late = λ s t u. refl;
            some = omega arith;
            few = λ h. omega arith;
            few_constants = λ h. omega arith;
            marks = tt;
            numbers = tt;
            values = tt;
            fields = refl;
          }
      last true p true q false w r = absurd (let z : ◌≡◌ {A = ℕ} 0 1 = cc in omega arith)
      last true p false q z w r = absurd (let z : ◌≡◌ {A = ℕ} 0 1 = cc in omega arith)
      last false p y q z w r = absurd (let z : ◌≡◌ {A = ℕ} 0 1 = cc in omega arith)
  assembled (f ∷ fs) d (and_more b bs) e =
      let h = stray_head tag d f fs e in
      with_field d f fs b (parts tag fs) h.0 (assembled fs (due_after d f) bs h.1)

  -- what is read is written as it was
  pub image_back : (fs : List Field) → Payloads fs → stray tag at_first fs ≡ none → image_fields tag (image_of tag fs) ≡ fs
  image_back fs bs e =
      let a = assembled fs at_first bs e in
      let no-captures = empty (parts tag fs).captures (omega (arith, a.captures)) in
      let no_code = empty (parts tag fs).code (omega (arith, a.code)) in
      rw (no-captures, no_code) at a.fields
