-- What is written is read: the fields of written fields, and the image of an image's fields.
use mathlib.Core.Path.{◌≡◌, refl, sym, ap, ap₂, ◌∙◌, subst}
use mathlib.Core.Bool.{Bool, true, false, ◌||◌}
use mathlib.Core.Option.{none, some}
use mathlib.Core.Logic.{inl, inr, ⊎_elim}
use mathlib.Core.List.{List, [], ◌∷◌, ◌++◌, map, append_assoc}
use Prim.Native.Nat.{ℕ, suc, ◌+◌, ◌-◌, ◌*◌, ◌/◌, ◌%◌, ◌<◌, ◌≤◌}
use native.Mathlib.Nat.{le_refl}
use native.Mathlib.Omega.{arith}
use lib.ListN.{length, drop, length-append}
use lib.Seq.{take_at, drop_at, drop-drop}
use lib.Dec.{eqb, leb, ltb}
use borrow.Author.Tests.{eqb-true, ltb-true, eq-eqb, ne_eqb, lt-ltb, le-leb}
use Rattle.meaning.specs.Fields.{Field, word_at, span, whole, front, rest, fields, left}
use Rattle.meaning.specs.Check.{framed}
use Rattle.meaning.specs.Constant.{Constant, number, text, other}
use Rattle.meaning.specs.State.{Capture, Proto}
use Rattle.meaning.specs.Image.{flag}
use Rattle.meaning.specs.Safety.{All}
use Rattle.meaning.specs.declared.Instruction.{Instruction}
use Rattle.meaning.proofs.FieldLaws.{fields_whole, fields_cut, left_whole, left_cut, whole_false}
use Rattle.meaning.specs.declared.Due.{Due}
use Rattle.meaning.specs.Images.{Image, inst_size, capture_of, inst_of, constant_in, Parts, proto_of, add_field, parts, image_of}
use Rattle.meaning.specs.Image.{written}
use Rattle.meaning.proofs.Images.Listed.{written_is, header_field, capture_field, inst_field, constant_field, proto_fields, image_fields, field_bytes, bytes_of}
use Rattle.meaning.specs.Follow.{due, at_first, sized, is_capture, is_inst, is_header, is_constant, follows_whole, follows, due_after, may_end, stray}
use Rattle.meaning.specs.Reader.{taken, ruled, broken, read_as}
use Rattle.meaning.specs.Grammar.{short_mark}
use Rattle.meaning.proofs.Ranges.Fits.{MarkIn}
use Rattle.meaning.proofs.Images.Assembled.{Tagged, MarkFits, HeaderFits, assembled}
use Rattle.meaning.proofs.Ranges.Fits.{ConstantFits}
use Rattle.meaning.proofs.Images.Back.{taken_is}
use Rattle.meaning.proofs.Images.Fielded.{Bytes, payloads}

-- ---- fields

-- every payload's length is a word
pub data Sized : List Field → Type 0 where
  none_more : Sized []
  one_more : {f : Field} {fs : List Field} → length f.payload < 65536 → Sized fs → Sized (f ∷ fs)

pub word_is : (n : ℕ) → n < 65536 → n / 256 % 256 * 256 + n % 256 ≡ n
word_is n h = omega arith

module _ (f : Field) (r : List ℕ) (h : length f.payload < 65536) where
  abbrev s : List ℕ
  s = field_bytes f ++ r

  count_is : word_at s 1 ≡ length f.payload
  count_is = word_is (length f.payload) h

  pub whole_is : whole s ≡ true
  unfolding whole
  whole_is = le-leb (span s) (length s) (omega (arith, count_is, length-append f.payload r))

  pub front_is : front s ≡ f
  front_is = ap (λ (p : List ℕ). (let x : Field = record { tag = f.tag; payload = p } in x)) (take_at f.payload r (word_at s 1) (sym count_is))

  pub rest_is : rest s ≡ r
  rest_is = ap (λ (n : ℕ). drop (3 + n) s) count_is ∙ drop_more
    where
      drop_more : drop (3 + length f.payload) s ≡ r
      drop_more = sym (drop-drop (length f.payload) 3 s) ∙ drop_at f.payload r (length f.payload) refl

pub fields_of : (fs : List Field) → Sized fs → fields (bytes_of fs) ≡ fs
unfolding bytes_of
fields_of [] z = fields_cut [] (whole_false [] (omega arith))
fields_of (f ∷ fs) (one_more h z) =
    fields_whole _ (whole_is f (bytes_of fs) h) ∙ ap₂ (λ (x : Field) (l : List Field). x ∷ l) (front_is f (bytes_of fs) h) (ap fields (rest_is f (bytes_of fs) h) ∙ fields_of fs z)

pub left_of : (fs : List Field) → Sized fs → left (bytes_of fs) ≡ []
unfolding bytes_of
left_of [] z = left_cut [] (whole_false [] (omega arith))
left_of (f ∷ fs) (one_more h z) = left_whole _ (whole_is f (bytes_of fs) h) ∙ ap left (rest_is f (bytes_of fs) h) ∙ left_of fs z

-- ---- what a written field stands for

capture_again : (c : Capture) → capture_of (capture_field c).payload ≡ c
capture_again c = go c.is_local refl
  where
    go : (b : Bool) → c.is_local ≡ b → (let r : Capture = record { is_local = eqb (flag c.is_local) 1; index = c.index } in r) ≡ c
    go true e = ap (λ (b : Bool). (let r : Capture = record { is_local = eqb (flag b) 1; index = c.index } in r)) e ∙ sym (ap (λ (b : Bool). (let r : Capture = record { is_local = b; index = c.index } in r)) e)
    go false e = ap (λ (b : Bool). (let r : Capture = record { is_local = eqb (flag b) 1; index = c.index } in r)) e ∙ sym (ap (λ (b : Bool). (let r : Capture = record { is_local = b; index = c.index } in r)) e)

-- a mark of two bytes, or none
short_again : (m : ℕ) → MarkIn 0x43 m → short_mark (m / 256 % 256 * 256 + m % 256) ≡ m
short_again m h = go (ltb m 65535) refl h
  where
    go : (b : Bool) → ltb m 65535 ≡ b → (b || eqb m 4294967295) ≡ true → short_mark (m / 256 % 256 * 256 + m % 256) ≡ m
    go true e k = let l = ltb-true m 65535 e in rw (word_is m (omega arith), ne_eqb m 65535 (λ q. omega arith)) refl
    go false e k = rw (eqb-true m 4294967295 k) refl

with_mark : Instruction → ℕ → Instruction
with_mark x m = record { opcode = x.opcode; a = x.a; b = x.b; c = x.c; mark = m }

inst_43 : (x : Instruction) → MarkFits 0x43 x → inst_of 0x43 (inst_field 0x43 x).payload ≡ x
unfolding with_mark
inst_43 x h = ap (with_mark x) (short_again x.mark h)

inst_47 : (x : Instruction) → MarkFits 0x47 x → inst_of 0x47 (inst_field 0x47 x).payload ≡ x
unfolding with_mark
inst_47 x h = ap (with_mark x) (four x.mark (ltb-true _ _ h))
  where
    four : (m : ℕ) → m < 4294967296 → (m / 65536 / 256 % 256 * 256 + m / 65536 % 256) * 65536 + (m / 256 % 256 * 256 + m % 256) ≡ m
    four m h = omega arith

pub inst_again : (tag : ℕ) → Tagged tag → (x : Instruction) → MarkFits tag x → inst_of tag (inst_field tag x).payload ≡ x
inst_again tag (inl e) x = subst (λ (t : ℕ). MarkFits t x → inst_of t (inst_field t x).payload ≡ x) (sym e) (inst_43 x)
inst_again tag (inr e) x = subst (λ (t : ℕ). MarkFits t x → inst_of t (inst_field t x).payload ≡ x) (sym e) (inst_47 x)

proto_again : (tag : ℕ) (p : Proto) → HeaderFits tag p → proto_of (header_field p).payload p.captures p.code ≡ p
proto_again tag p h =
    ap₂ (λ (n : ℕ) (m : ℕ). (let r : Proto = record { name = n; params = m; registers = word_at (header_field p).payload 4; captures = p.captures; code = p.code } in r)) (word_is p.name h.name) (word_is p.params h.params)
    ∙ ap (λ (k : ℕ). (let r : Proto = record { name = p.name; params = p.params; registers = k; captures = p.captures; code = p.code } in r)) (word_is p.registers h.registers)

word_low : (n : ℕ) → n / 256 % 256 * 256 + n % 256 ≡ n % 65536
word_low n = omega arith

-- a number and the word above it
lower : (n q r : ℕ) → q ≡ n / 65536 → r ≡ n % 65536 → q * 65536 + r ≡ n
lower n q r a b = omega arith

top : (b : ℕ) → b < 18446744073709551616 → b / 281474976710656 % 65536 ≡ b / 4294967296 / 65536
top b h = omega arith

constant_again : (c : Constant) → ConstantFits c → constant_in (constant_field c) ≡ c
constant_again (number b) h = ap number eight
  where
    second : b / 4294967296 ≡ b / 65536 / 65536
    second = omega arith

    eight : ((((b / 281474976710656 / 256 % 256 * 256 + b / 281474976710656 % 256) * 65536 + (b / 4294967296 / 256 % 256 * 256 + b / 4294967296 % 256)) * 65536 + (b / 65536 / 256 % 256 * 256 + b / 65536 % 256)) * 65536 + (b / 256 % 256 * 256 + b % 256)) ≡ b
    eight =
        lower b _ _
        (lower (b / 65536) _ _ (lower (b / 4294967296) _ _ (word_low (b / 281474976710656) ∙ top b h) (word_low (b / 4294967296)) ∙ second) (word_low (b / 65536)))
        (word_low b)
constant_again (text n) h = ap text (word_is n h)
constant_again (other w) h = ap other (word_is w h)

-- ---- parts

module _ (tag : ℕ) (ok : Tagged tag) where
  differs : (t : ℕ) → (t ≡ 0x43 → ⊥) → (t ≡ 0x47 → ⊥) → tag ≡ t → ⊥
  differs t n m e = ⊎_elim (λ (q : tag ≡ 0x43). n (sym e ∙ q)) (λ (q : tag ≡ 0x47). m (sym e ∙ q)) ok

  not_41 : eqb tag 0x41 ≡ false
  not_41 = ne_eqb tag 0x41 (differs 0x41 (λ q. omega arith) (λ q. omega arith))

  not_42 : eqb tag 0x42 ≡ false
  not_42 = ne_eqb tag 0x42 (differs 0x42 (λ q. omega arith) (λ q. omega arith))

  abbrev made : List Capture → List Instruction → List Proto → List Constant → Parts
  made cs xs ps ks = record { captures = cs; code = xs; prototypes = ps; constants = ks }

  add_inst : (x : Instruction) → MarkFits tag x → (r : Parts) → add_field tag (inst_field tag x) r ≡ made r.captures (x ∷ r.code) r.prototypes r.constants
  unfolding add_field
  add_inst x h r = rw (not_41, not_42, eq-eqb tag tag refl) (ap (λ (y : Instruction). made r.captures (y ∷ r.code) r.prototypes r.constants) (inst_again tag ok x h))

  add_capture : (c : Capture) (r : Parts) → add_field tag (capture_field c) r ≡ made (c ∷ r.captures) r.code r.prototypes r.constants
  unfolding add_field
  add_capture c r = ap (λ (y : Capture). made (y ∷ r.captures) r.code r.prototypes r.constants) (capture_again c)

  constant_other : (c : Constant) (t : ℕ) → (0x44 ≡ t → ⊥) → (0x45 ≡ t → ⊥) → (0x46 ≡ t → ⊥) → eqb (constant_field c).tag t ≡ false
  constant_other (number b) t p q r = ne_eqb 0x44 t p
  constant_other (text n) t p q r = ne_eqb 0x45 t q
  constant_other (other w) t p q r = ne_eqb 0x46 t r

  add_constant : (c : Constant) → ConstantFits c → (r : Parts) → add_field tag (constant_field c) r ≡ made r.captures r.code r.prototypes (c ∷ r.constants)
  unfolding add_field
  add_constant c h r =
      rw (
        constant_other c 0x41 (λ q. omega arith) (λ q. omega arith) (λ q. omega arith),
        constant_other c 0x42 (λ q. omega arith) (λ q. omega arith) (λ q. omega arith),
        constant_other c tag (λ q. differs 0x44 (λ z. omega arith) (λ z. omega arith) (sym q)) (λ q. differs 0x45 (λ z. omega arith) (λ z. omega arith) (sym q)) (λ q. differs 0x46 (λ z. omega arith) (λ z. omega arith) (sym q)),
      )
      (ap (λ (y : Constant). made r.captures r.code r.prototypes (y ∷ r.constants)) (constant_again c h))

  parts_constants : (ks : List Constant) → All ConstantFits ks → parts tag (map constant_field ks) ≡ made [] [] [] ks
  unfolding parts
  parts_constants [] h = refl
  parts_constants (c ∷ ks) h = ap (add_field tag (constant_field c)) (parts_constants ks h.1) ∙ add_constant c h.0 (made [] [] [] ks)

  parts_code : (xs : List Instruction) → All (MarkFits tag) xs → (fs : List Field) (ps : List Proto) (ks : List Constant) → parts tag fs ≡ made [] [] ps ks → parts tag (map (inst_field tag) xs ++ fs) ≡ made [] xs ps ks
  unfolding parts
  parts_code [] h fs ps ks e = e
  parts_code (x ∷ xs) h fs ps ks e = ap (add_field tag (inst_field tag x)) (parts_code xs h.1 fs ps ks e) ∙ add_inst x h.0 (made [] xs ps ks)

  parts_captures : (cs : List Capture) (fs : List Field) (xs : List Instruction) (ps : List Proto) (ks : List Constant) → parts tag fs ≡ made [] xs ps ks → parts tag (map capture_field cs ++ fs) ≡ made cs xs ps ks
  unfolding parts
  parts_captures [] fs xs ps ks e = e
  parts_captures (c ∷ cs) fs xs ps ks e = ap (add_field tag (capture_field c)) (parts_captures cs fs xs ps ks e) ∙ add_capture c (made cs xs ps ks)

  parts_protos : (ps : List Proto) → All (HeaderFits tag) ps → (fs : List Field) (ks : List Constant) → parts tag fs ≡ made [] [] [] ks → parts tag (proto_fields tag ps ++ fs) ≡ made [] [] ps ks
  unfolding parts proto_fields add_field
  parts_protos [] h fs ks e = e
  parts_protos (p ∷ ps) h fs ks e =
      let inner = parts_captures p.captures (map (inst_field tag) p.code ++ (proto_fields tag ps ++ fs)) p.code ps ks (parts_code p.code h.0.marks (proto_fields tag ps ++ fs) ps ks (parts_protos ps h.1 fs ks e)) in
      simp append_assoc (ap (add_field tag (header_field p)) inner ∙ ap (λ (q : Proto). made [] [] (q ∷ ps) ks) (proto_again tag p h.0))

  -- an image's fields stand for it
  pub image_again : (im : Image) → All (HeaderFits tag) im.prototypes → All ConstantFits im.constants → image_of tag (image_fields tag im) ≡ im
  image_again im h k =
      let e = parts_protos im.prototypes h (map constant_field im.constants) im.constants (parts_constants im.constants k) in
      ap (λ (r : Parts). (let i : Image = record { prototypes = r.prototypes; constants = r.constants } in i)) e

-- ---- order

stray_cons : (tag : ℕ) (d e : Due) (f : Field) (fs : List Field) → follows tag d f ≡ true → due_after d f ≡ e → stray tag e fs ≡ none → stray tag d (f ∷ fs) ≡ none
unfolding stray
stray_cons tag d e f fs go n on = rw (go, n, on) refl

flag_small : (b : Bool) → leb (flag b) 1 ≡ true
flag_small true = refl
flag_small false = refl

inst_sized : (tag : ℕ) → Tagged tag → (x : Instruction) → is_inst tag (inst_field tag x) ≡ true
unfolding is_inst
inst_sized tag (inl e) x = subst (λ (t : ℕ). sized (inst_field t x) t (inst_size t) ≡ true) (sym e) refl
inst_sized tag (inr e) x = subst (λ (t : ℕ). sized (inst_field t x) t (inst_size t) ≡ true) (sym e) refl

constant_sized : (c : Constant) → is_constant (constant_field c) ≡ true
unfolding is_constant
constant_sized (number b) = refl
constant_sized (text n) = refl
constant_sized (other w) = refl

due_same : (a b c d a' b' c' d' : ℕ) → a ≡ a' → b ≡ b' → c ≡ c' → d ≡ d' → due a b c d ≡ due a' b' c' d'
due_same a b c d a' b' c' d' p q r s = cc

module _ (tag : ℕ) (ok : Tagged tag) where
  stray_constants : (ks : List Constant) (n m : ℕ) → 0 < n → m + length ks ≤ 1024 → stray tag (due 0 0 n m) (map constant_field ks) ≡ none
  unfolding stray may_end follows follows_whole due_after
  stray_constants [] n m h k = rw (lt-ltb 0 n h) refl
  stray_constants (c ∷ ks) n m h k =
      stray_cons tag (due 0 0 n m) (due 0 0 n (m + 1)) (constant_field c) (map constant_field ks)
      (rw (constant_not c, constant_sized c, lt-ltb 0 n h, lt-ltb m 1024 (omega arith)) refl)
      (rw (constant_not c) refl)
      (stray_constants ks n (m + 1) h (omega arith))
    where
      constant_not : (c : Constant) → eqb (constant_field c).tag 0x41 ≡ false
      constant_not (number b) = refl
      constant_not (text n) = refl
      constant_not (other w) = refl

  stray_code : (xs : List Instruction) (fs : List Field) (n : ℕ) → stray tag (due 0 0 n 0) fs ≡ none → stray tag (due 0 (length xs) n 0) (map (inst_field tag) xs ++ fs) ≡ none
  unfolding follows due_after
  stray_code [] fs n e = e
  stray_code (x ∷ xs) fs n e =
      stray_cons tag (due 0 (suc (length xs)) n 0) (due 0 (length xs) n 0) (inst_field tag x) (map (inst_field tag) xs ++ fs)
      (rw (lt-ltb 0 (suc (length xs)) (omega arith), inst_sized tag ok x) refl)
      (rw (lt-ltb 0 (suc (length xs)) (omega arith)) (due_same _ _ _ _ _ _ _ _ refl (let z : suc (length xs) - 1 ≡ length xs = omega arith in z) refl refl))
      (stray_code xs fs n e)

  stray_captures : (cs : List Capture) (fs : List Field) (k n : ℕ) → stray tag (due 0 k n 0) fs ≡ none → stray tag (due (length cs) k n 0) (map capture_field cs ++ fs) ≡ none
  unfolding follows due_after is_capture
  stray_captures [] fs k n e = e
  stray_captures (c ∷ cs) fs k n e =
      stray_cons tag (due (suc (length cs)) k n 0) (due (length cs) k n 0) (capture_field c) (map capture_field cs ++ fs)
      (rw (lt-ltb 0 (suc (length cs)) (omega arith), flag_small c.is_local) refl)
      (rw (lt-ltb 0 (suc (length cs)) (omega arith)) (due_same _ _ _ _ _ _ _ _ (let z : suc (length cs) - 1 ≡ length cs = omega arith in z) refl refl refl))
      (stray_captures cs fs k n e)

  stray_protos : (ps : List Proto) → All (HeaderFits tag) ps → (fs : List Field) (n : ℕ) → n + length ps ≤ 256 → stray tag (due 0 0 (n + length ps) 0) fs ≡ none → stray tag (due 0 0 n 0) (proto_fields tag ps ++ fs) ≡ none
  unfolding proto_fields follows follows_whole due_after is_header
  stray_protos [] h fs n k e = subst (λ (m : ℕ). stray tag (due 0 0 m 0) fs ≡ none) (let z : n + 0 ≡ n = omega arith in z) e
  stray_protos (p ∷ ps) h fs n k e =
      let f = h.0 in
      let more = stray_protos ps h.1 fs (n + 1) (omega arith) (subst (λ (m : ℕ). stray tag (due 0 0 m 0) fs ≡ none) (let z : n + suc (length ps) ≡ n + 1 + length ps = omega arith in z) e) in
      let inner = stray_captures p.captures (map (inst_field tag) p.code ++ (proto_fields tag ps ++ fs)) (length p.code) (n + 1) (stray_code p.code (proto_fields tag ps ++ fs) (n + 1) more) in
      simp append_assoc (stray_cons tag (due 0 0 n 0) (due (length p.captures) (length p.code) (n + 1) 0) (header_field p) (map capture_field p.captures ++ (map (inst_field tag) p.code ++ (proto_fields tag ps ++ fs)))
      (rw (word_is (length p.code) f.code, lt-ltb 0 (length p.code) f.some, lt-ltb n 256 (omega arith)) refl)
      (due_same _ _ _ _ _ _ _ _ (word_is (length p.captures) f.captures) (word_is (length p.code) f.code) refl refl)
      inner)

-- ---- an image that is written is taken

sized_append : {a b : List Field} → Sized a → Sized b → Sized (a ++ b)
sized_append none_more y = y
sized_append (one_more h x) y = one_more h (sized_append x y)

sized_captures : (cs : List Capture) → Sized (map capture_field cs)
sized_captures [] = none_more
sized_captures (c ∷ cs) = one_more {f = capture_field c} (omega arith) (sized_captures cs)

sized_constants : (ks : List Constant) → Sized (map constant_field ks)
sized_constants [] = none_more
sized_constants (number b ∷ ks) = one_more {f = constant_field (number b)} (omega arith) (sized_constants ks)
sized_constants (text n ∷ ks) = one_more {f = constant_field (text n)} (omega arith) (sized_constants ks)
sized_constants (other w ∷ ks) = one_more {f = constant_field (other w)} (omega arith) (sized_constants ks)

module _ (tag : ℕ) (ok : Tagged tag) where
  inst_short : (x : Instruction) → length (inst_field tag x).payload < 65536
  inst_short x = ⊎_elim
      (λ (e : tag ≡ 0x43). subst (λ (t : ℕ). length (inst_field t x).payload < 65536) (sym e) (omega arith))
      (λ (e : tag ≡ 0x47). subst (λ (t : ℕ). length (inst_field t x).payload < 65536) (sym e) (omega arith))
      ok

  sized_code : (xs : List Instruction) → Sized (map (inst_field tag) xs)
  sized_code [] = none_more
  sized_code (x ∷ xs) = one_more (inst_short x) (sized_code xs)

  sized_protos : (ps : List Proto) → Sized (proto_fields tag ps)
  unfolding proto_fields
  sized_protos [] = none_more
  sized_protos (p ∷ ps) = one_more {f = header_field p} (omega arith) (sized_append (sized_captures p.captures) (sized_append (sized_code p.code) (sized_protos ps)))

-- what the form of an image asks: its counts, and that every number fits its field
pub record Formed (tag : ℕ) (im : Image) : Type 0 where
  pub width : Tagged tag
  pub some : 0 < length im.prototypes
  pub few : length im.prototypes ≤ 256
  pub numbers : All (HeaderFits tag) im.prototypes
  pub constants : length im.constants ≤ 1024
  pub values : All ConstantFits im.constants

-- the rules of an image
pub record Good (tag : ℕ) (im : Image) : Type 0 where
  pub width : Tagged tag
  pub some : 0 < length im.prototypes
  pub few : length im.prototypes ≤ 256
  pub numbers : All (HeaderFits tag) im.prototypes
  pub constants : length im.constants ≤ 1024
  pub values : All ConstantFits im.constants
  pub facts : broken im ≡ none

some_fields : (tag : ℕ) (im : Image) → 0 < length im.prototypes → 0 < length (image_fields tag im)
unfolding proto_fields
some_fields tag im h = go im.prototypes h
  where
    go : (ps : List Proto) → 0 < length ps → 0 < length (proto_fields tag ps ++ map constant_field im.constants)
    go [] h = absurd (omega arith)
    go (p ∷ ps) h = omega arith

-- the fields of what is written
pub fields_written : (tag : ℕ) (im : Image) → Tagged tag → fields (written tag im) ≡ image_fields tag im
fields_written tag im ok = ap fields (written_is tag im) ∙ fields_of (image_fields tag im) (sized_append (sized_protos tag ok im.prototypes) (sized_constants im.constants))

-- the writing of a formed image is whole and in order, and is read as that image, which is then judged
pub formed_read : (tag : ℕ) (im : Image) → Formed tag im → read_as tag (written tag im) ≡ ruled im (broken im)
unfolding framed read_as
formed_read tag im g =
    let fs = image_fields tag im in
    let z = sized_append (sized_protos tag g.width im.prototypes) (sized_constants im.constants) in
    let e : fields (written tag im) ≡ fs = fields_written tag im g.width in
    let l : left (written tag im) ≡ [] = ap left (written_is tag im) ∙ left_of fs z in
    let order : stray tag at_first fs ≡ none =
    stray_protos tag g.width im.prototypes g.numbers (map constant_field im.constants) 0 (omega (arith, g.few)) (stray_constants tag g.width im.constants (0 + length im.prototypes) 0 (omega (arith, g.some)) (omega (arith, g.constants))) in
    rw (e, l, lt-ltb 0 (length fs) (some_fields tag im g.some), order)
    (ap (λ (i : Image). ruled i (broken i)) (image_again tag g.width im g.numbers g.values))

-- theorem (a), from right to left: the writing of an image with the rules is taken, as that image
pub exact : (tag : ℕ) (im : Image) → Good tag im → read_as tag (written tag im) ≡ taken im
exact tag im g =
    formed_read tag im record { width = g.width; some = g.some; few = g.few; numbers = g.numbers; constants = g.constants; values = g.values }
    ∙ ap (ruled im) g.facts

-- what bytes in order stand for is formed
pub ordered_formed : (tag : ℕ) → Tagged tag → (bytes : List ℕ) → Bytes bytes → stray tag at_first (fields bytes) ≡ none → Formed tag (image_of tag (fields bytes))
ordered_formed tag ok bytes b e =
    let a = assembled tag ok (fields bytes) at_first (payloads (length bytes) bytes (le_refl _) b) e in
    record {
      width = ok;
      some = omega (arith, a.some);
      few = omega (arith, a.few (omega arith));
      numbers = a.numbers;
      constants = omega (arith, a.few_constants (omega arith));
      values = a.values;
    }

-- from left to right: what is taken has the rules
pub taken_good : (tag : ℕ) → Tagged tag → (bytes : List ℕ) (im : Image) → Bytes bytes → read_as tag bytes ≡ taken im → Good tag im
taken_good tag ok bytes im b e =
    let t = taken_is tag bytes im e in
    let f = ordered_formed tag ok bytes b t.order in
    rw t.image record {
      width = ok;
      some = f.some;
      few = f.few;
      numbers = f.numbers;
      constants = f.constants;
      values = f.values;
      facts = ap broken (sym t.image) ∙ t.facts;
    }
