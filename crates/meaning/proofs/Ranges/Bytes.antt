-- Every number of an image whose prototypes and constants fit is a byte.
use Prim.Native.Nat.{ℕ, ◌<◌, ◌≤◌, ◌/◌}
use mathlib.Core.Bool.{Bool, true, false, cond}
use mathlib.Core.List.{List, [], ◌∷◌, ◌++◌}
use native.Mathlib.Omega.{arith}
use lib.ListN.{length}
use lib.Dec.{eqb}
use Rattle.meaning.specs.Constant.{Constant, number, text, other}
use Rattle.meaning.specs.State.{Capture, Proto, State}
use Rattle.meaning.specs.Images.{inst_tag}
use Rattle.meaning.specs.Image.{word, field, flag, mark_bytes, capture_bytes, inst_bytes, proto_bytes, number_bytes, constant_bytes, image}
use Rattle.meaning.specs.Safety.{All}
use Rattle.meaning.specs.declared.Instruction.{Instruction}
use Rattle.meaning.proofs.Safe.Obeys.{all_append}
use Rattle.meaning.proofs.Ranges.Fits.{InstFits, ProtoFits, Ranged}
use Rattle.meaning.proofs.Ranges.Code.{written_below}

abbrev pub Bytes : List ℕ → Type 0
Bytes = All (λ b. b < 256)

both : (xs ys : List ℕ) → Bytes xs → Bytes ys → Bytes (xs ++ ys)
both xs ys h k = all_append (λ b. b < 256) xs ys h k

word_bytes : (n : ℕ) → Bytes (word n)
word_bytes n = (omega arith, (omega arith, tt))

-- a field, then more
field_bytes : (tag : ℕ) (p more : List ℕ) → tag < 256 → Bytes p → Bytes more → Bytes (field tag p ++ more)
field_bytes tag p more h k l = both (field tag p) more (h, both (word (length p)) p (word_bytes (length p)) k) l

flag_byte : (b : Bool) → flag b < 256
flag_byte true = omega arith
flag_byte false = omega arith

captures_bytes : (cs : List Capture) → All (λ (c : Capture). c.index ≤ 255) cs → Bytes (capture_bytes cs)
captures_bytes [] h = tt
captures_bytes (c ∷ cs) h =
    let i = h.0 in
    field_bytes 0x42 (flag c.is_local ∷ c.index ∷ []) (capture_bytes cs) (omega arith) (flag_byte c.is_local, (omega (arith, i), tt)) (captures_bytes cs h.1)

four_bytes : (a b c d : ℕ) → Bytes (word a ++ (word b ++ (word c ++ word d)))
four_bytes a b c d = both (word a) (word b ++ (word c ++ word d)) (word_bytes a) (both (word b) (word c ++ word d) (word_bytes b) (both (word c) (word d) (word_bytes c) (word_bytes d)))

constants_bytes : (ks : List Constant) → Bytes (constant_bytes ks)
constants_bytes [] = tt
constants_bytes (number b ∷ ks) = field_bytes 0x44 (number_bytes b) (constant_bytes ks) (omega arith) (four_bytes (b / 281474976710656) (b / 4294967296) (b / 65536) b) (constants_bytes ks)
constants_bytes (text n ∷ ks) = field_bytes 0x45 (word n) (constant_bytes ks) (omega arith) (word_bytes n) (constants_bytes ks)
constants_bytes (other w ∷ ks) = field_bytes 0x46 (word w) (constant_bytes ks) (omega arith) (word_bytes w) (constants_bytes ks)

mark_is_bytes : (tag m : ℕ) → Bytes (mark_bytes tag m)
mark_is_bytes tag m = go (eqb tag 0x47)
  where
    go : (b : Bool) → Bytes (cond b (word (m / 65536) ++ word m) (word m))
    go true = both (word (m / 65536)) (word m) (word_bytes (m / 65536)) (word_bytes m)
    go false = word_bytes m

module _ (Marks : ℕ → Type 0) (tag : ℕ) (byte : tag < 256) where
  insts_bytes : (xs : List Instruction) → All (InstFits Marks) xs → Bytes (inst_bytes tag xs)
  insts_bytes [] h = tt
  insts_bytes (x ∷ xs) h =
      let f = h.0 in
      let o = written_below x.opcode f.written in
      field_bytes tag (x.opcode ∷ x.a ∷ x.b ∷ x.c ∷ mark_bytes tag x.mark) (inst_bytes tag xs) byte (omega (arith, o), (f.a, (f.b, (f.c, mark_is_bytes tag x.mark)))) (insts_bytes xs h.1)

  protos_bytes : (ps : List Proto) → All (ProtoFits Marks) ps → Bytes (proto_bytes tag ps)
  protos_bytes [] h = tt
  protos_bytes (p ∷ ps) h =
      field_bytes 0x41 (word p.name ++ (word p.params ++ (word p.registers ++ (word (length p.captures) ++ word (length p.code)))))
      (capture_bytes p.captures ++ (inst_bytes tag p.code ++ proto_bytes tag ps))
      (omega arith)
      (both (word p.name) (word p.params ++ (word p.registers ++ (word (length p.captures) ++ word (length p.code)))) (word_bytes _) (four_bytes p.params p.registers (length p.captures) (length p.code)))
      (both (capture_bytes p.captures) (inst_bytes tag p.code ++ proto_bytes tag ps) (captures_bytes p.captures h.0.captures)
      (both (inst_bytes tag p.code) (proto_bytes tag ps) (insts_bytes p.code h.0.code) (protos_bytes ps h.1)))

inst_byte : (wide : Bool) → inst_tag wide < 256
inst_byte true = omega arith
inst_byte false = omega arith

pub image_bytes : (Marks : ℕ → Type 0) (wide : Bool) (s : State) → Ranged Marks s → Bytes (image wide s)
unfolding image
image_bytes Marks wide s r = both (proto_bytes (inst_tag wide) s.prototypes) (constant_bytes s.constants) (protos_bytes Marks (inst_tag wide) (inst_byte wide) s.prototypes r.prototypes) (constants_bytes s.constants)
