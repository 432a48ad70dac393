-- The fields of an image. Writing it is writing them one after the other.
use Prim.Native.Nat.{ℕ}
use mathlib.Core.Path.{◌≡◌, refl, sym, ap, ◌∙◌}
use mathlib.Core.List.{List, [], ◌∷◌, ◌++◌, map, append_assoc}
use lib.ListN.{length}
use Rattle.meaning.specs.Fields.{Field}
use Rattle.meaning.specs.Constant.{Constant, number, text, other}
use Rattle.meaning.specs.State.{Capture, Proto}
use Rattle.meaning.specs.Images.{Image}
use Rattle.meaning.specs.Image.{word, field, flag, mark_bytes, capture_bytes, inst_bytes, proto_bytes, number_bytes, constant_bytes, written}
use Rattle.meaning.specs.declared.Instruction.{Instruction}

abbrev pub header_field : Proto → Field
header_field p = record { tag = 0x41; payload = word p.name ++ (word p.params ++ (word p.registers ++ (word (length p.captures) ++ word (length p.code)))) }

abbrev pub capture_field : Capture → Field
capture_field c = record { tag = 0x42; payload = flag c.is_local ∷ c.index ∷ [] }

abbrev pub inst_field : (tag : ℕ) → Instruction → Field
inst_field tag x = record { tag = tag; payload = x.opcode ∷ x.a ∷ x.b ∷ x.c ∷ mark_bytes tag x.mark }

abbrev pub constant_field : Constant → Field
constant_field (number b) = record { tag = 0x44; payload = number_bytes b }
constant_field (text n) = record { tag = 0x45; payload = word n }
constant_field (other w) = record { tag = 0x46; payload = word w }

unfoldable pub proto_fields : (tag : ℕ) → List Proto → List Field
proto_fields tag [] = []
proto_fields tag (p ∷ ps) = header_field p ∷ (map capture_field p.captures ++ (map (inst_field tag) p.code ++ proto_fields tag ps))

abbrev pub image_fields : (tag : ℕ) → Image → List Field
image_fields tag im = proto_fields tag im.prototypes ++ map constant_field im.constants

abbrev pub field_bytes : Field → List ℕ
field_bytes f = field f.tag f.payload

-- fields, one after the other
unfoldable pub bytes_of : List Field → List ℕ
bytes_of [] = []
bytes_of (f ∷ fs) = field_bytes f ++ bytes_of fs

bytes_append : (xs ys : List Field) → bytes_of (xs ++ ys) ≡ bytes_of xs ++ bytes_of ys
unfolding bytes_of
bytes_append [] ys = refl
bytes_append (x ∷ xs) ys = ap (λ (l : List ℕ). field_bytes x ++ l) (bytes_append xs ys) ∙ sym (append_assoc (field_bytes x) (bytes_of xs) (bytes_of ys))

captures_are : (cs : List Capture) → bytes_of (map capture_field cs) ≡ capture_bytes cs
unfolding bytes_of
captures_are [] = refl
captures_are (c ∷ cs) = ap (λ (l : List ℕ). field_bytes (capture_field c) ++ l) (captures_are cs)

constants_are : (ks : List Constant) → bytes_of (map constant_field ks) ≡ constant_bytes ks
unfolding bytes_of
constants_are [] = refl
constants_are (number b ∷ ks) = ap (λ (l : List ℕ). field_bytes (constant_field (number b)) ++ l) (constants_are ks)
constants_are (text n ∷ ks) = ap (λ (l : List ℕ). field_bytes (constant_field (text n)) ++ l) (constants_are ks)
constants_are (other w ∷ ks) = ap (λ (l : List ℕ). field_bytes (constant_field (other w)) ++ l) (constants_are ks)

module _ (tag : ℕ) where
  insts_are : (xs : List Instruction) → bytes_of (map (inst_field tag) xs) ≡ inst_bytes tag xs
  unfolding bytes_of
  insts_are [] = refl
  insts_are (x ∷ xs) = ap (λ (l : List ℕ). field_bytes (inst_field tag x) ++ l) (insts_are xs)

  protos_are : (ps : List Proto) → bytes_of (proto_fields tag ps) ≡ proto_bytes tag ps
  unfolding bytes_of proto_fields
  protos_are [] = refl
  protos_are (p ∷ ps) =
      let a = bytes_append (map capture_field p.captures) (map (inst_field tag) p.code ++ proto_fields tag ps) in
      let b = bytes_append (map (inst_field tag) p.code) (proto_fields tag ps) in
      ap (λ (l : List ℕ). field_bytes (header_field p) ++ l) (rw (a, b, captures_are p.captures, insts_are p.code, protos_are ps) refl)

  pub written_is : (im : Image) → written tag im ≡ bytes_of (image_fields tag im)
  written_is im = sym (rw (bytes_append (proto_fields tag im.prototypes) (map constant_field im.constants), protos_are im.prototypes, constants_are im.constants) refl)
