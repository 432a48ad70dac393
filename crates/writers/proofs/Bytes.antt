-- The bytes of an image's parts: of a list they are those of its parts, one after the other; and how many they are. Assumes nothing.
use mathlib.Core.Path.{◌≡◌, refl, sym, ap, ◌∙◌}
use mathlib.Core.Bool.{Bool, true, false}
use mathlib.Core.List.{List, [], ◌∷◌, ◌++◌, append_assoc, append-nil}
use Prim.Native.Nat.{ℕ, ◌+◌, ◌*◌, ◌/◌, ◌%◌}
use native.Mathlib.Omega.{arith}
use lib.ListN.{length, length-append}
use borrow.Author.Tests.{eq-eqb, ne_eqb}
use Rattle.std.specs.Int.{to_be_bytes, byte_at, w32, w64}
use lib.Dec.{eqb}
use mir.Val.{bool_byte}
use Rattle.meaning.specs.Constant.{Constant, number, text, other}
use Rattle.meaning.specs.State.{Capture, Proto}
use Rattle.meaning.specs.Images.{inst_size}
use Rattle.meaning.specs.Image.{word, field, flag, mark_bytes, capture_bytes, inst_bytes, proto_bytes, number_bytes, constant_bytes}
use Rattle.meaning.specs.declared.Instruction.{Instruction}
use Rattle.writers.specs.declared.Header.{Header}
use Rattle.writers.specs.Values.{header_bytes}

-- ---- one after the other

pub captures_append : (a b : List Capture) → capture_bytes (a ++ b) ≡ capture_bytes a ++ capture_bytes b
captures_append [] b = refl
captures_append (c ∷ cs) b = ap (λ l. field 0x42 (flag c.is_local ∷ c.index ∷ []) ++ l) (captures_append cs b)

pub constants_append : (a b : List Constant) → constant_bytes (a ++ b) ≡ constant_bytes a ++ constant_bytes b
constants_append [] b = refl
constants_append (number x ∷ cs) b = ap (λ l. field 0x44 (number_bytes x) ++ l) (constants_append cs b)
constants_append (text x ∷ cs) b = ap (λ l. field 0x45 (word x) ++ l) (constants_append cs b)
constants_append (other x ∷ cs) b = ap (λ l. field 0x46 (word x) ++ l) (constants_append cs b)

abbrev head : Proto → List ℕ
head p = field 0x41 (word p.name ++ (word p.params ++ (word p.registers ++ (word (length p.captures) ++ word (length p.code)))))

module _ (tag : ℕ) where
  pub insts_append : (a b : List Instruction) → inst_bytes tag (a ++ b) ≡ inst_bytes tag a ++ inst_bytes tag b
  insts_append [] b = refl
  insts_append (i ∷ is) b =
      ap (λ l. field tag (i.opcode ∷ i.a ∷ i.b ∷ i.c ∷ mark_bytes tag i.mark) ++ l) (insts_append is b)
      ∙ sym (append_assoc (field tag (i.opcode ∷ i.a ∷ i.b ∷ i.c ∷ mark_bytes tag i.mark)) (inst_bytes tag is) (inst_bytes tag b))

  pub protos_append : (a b : List Proto) → proto_bytes tag (a ++ b) ≡ proto_bytes tag a ++ proto_bytes tag b
  protos_append [] b = refl
  protos_append (p ∷ ps) b =
      ap (λ l. head p ++ (capture_bytes p.captures ++ (inst_bytes tag p.code ++ l))) (protos_append ps b)
      ∙ ap (λ l. head p ++ (capture_bytes p.captures ++ l)) (sym (append_assoc (inst_bytes tag p.code) (proto_bytes tag ps) (proto_bytes tag b)))
      ∙ ap (λ l. head p ++ l) (sym (append_assoc (capture_bytes p.captures) (inst_bytes tag p.code ++ proto_bytes tag ps) (proto_bytes tag b)))

-- ---- how many

pub captures_size : (cs : List Capture) → length (capture_bytes cs) ≡ 5 * length cs
captures_size [] = refl
captures_size (c ∷ cs) = let e = captures_size cs in omega (arith, e)

-- ---- the four bytes of a mark, the eight of a number

pub four_bytes : (x : ℕ) → to_be_bytes w32 x ≡ word (x / 65536) ++ word x
four_bytes x =
    let a : byte_at 3 x ≡ x / 65536 / 256 % 256 = omega arith in
    let b : byte_at 2 x ≡ x / 65536 % 256 = omega arith in
    let c : byte_at 1 x ≡ x / 256 % 256 = omega arith in
    let d : byte_at 0 x ≡ x % 256 = omega arith in
    cc

pub eight_bytes : (b : ℕ) → to_be_bytes w64 b ≡ number_bytes b
eight_bytes b =
    let h : byte_at 7 b ≡ b / 281474976710656 / 256 % 256 = omega arith in
    let f : byte_at 5 b ≡ b / 4294967296 / 256 % 256 = omega arith in
    let d : byte_at 3 b ≡ b / 65536 / 256 % 256 = omega arith in
    cc

-- ---- an instruction by its tag

pub wide_size : (tag : ℕ) → tag ≡ 0x47 → inst_size tag ≡ 8
wide_size tag e = rw (eq-eqb tag 0x47 e)

module _ (tag : ℕ) (x : Instruction) where
  pub wide_bytes : tag ≡ 0x47 → ((0x47 ∷ word 8) ++ (x.opcode ∷ x.a ∷ x.b ∷ x.c ∷ [])) ++ (word (x.mark / 65536) ++ word x.mark) ≡ inst_bytes tag (x ∷ [])
  wide_bytes e = rw e refl

  pub narrow_bytes : (tag ≡ 0x47 → ⊥) → ((tag ∷ word 6) ++ (x.opcode ∷ x.a ∷ x.b ∷ x.c ∷ [])) ++ word x.mark ≡ inst_bytes tag (x ∷ [])
  narrow_bytes n = rw (ne_eqb tag 0x47 n) refl

  pub inst_long : length (inst_bytes tag (x ∷ [])) ≡ 3 + inst_size tag
  inst_long = go (eqb tag 0x47) refl
    where
      go : (b : Bool) → eqb tag 0x47 ≡ b → length (inst_bytes tag (x ∷ [])) ≡ 3 + inst_size tag
      go true e = rw e
      go false e = rw e

pub insts_size : (tag : ℕ) (is : List Instruction) → length (inst_bytes tag is) ≡ (3 + inst_size tag) * length is
insts_size tag [] = omega arith
insts_size tag (i ∷ is) = ap length (insts_append tag (i ∷ []) is) ∙ length-append (inst_bytes tag (i ∷ [])) (inst_bytes tag is) ∙ omega (arith, inst_long tag i, insts_size tag is)

-- ---- a capture's first byte

pub flag_is : (b : Bool) → bool_byte b ≡ flag b
flag_is true = refl
flag_is false = refl

-- ---- a prototype is its header, its captures and its instructions

abbrev pub header_of : Proto → Header
header_of p = record { name = p.name; params = p.params; registers = p.registers; captures = length p.captures; code = length p.code }

pub proto_parts : (tag : ℕ) (p : Proto) → header_bytes (header_of p) ++ (capture_bytes p.captures ++ inst_bytes tag p.code) ≡ proto_bytes tag (p ∷ [])
proto_parts tag p = ap (λ l. header_bytes (header_of p) ++ (capture_bytes p.captures ++ l)) (sym (append-nil (inst_bytes tag p.code)))
