-- 01, "Image file": the bytes of an image. `tag` is that of instructions.
use Rattle.std.specs.Prelude.{ℕ, ◌/◌, ◌%◌, Bool, true, false, cond, List, [], ◌∷◌, ◌++◌, length, eqb}
use Rattle.meaning.specs.Constant.{Constant, number, text, other}
use Rattle.meaning.specs.State.{Capture, Proto, State}
use Rattle.meaning.specs.Images.{Image, image_of_state, inst_tag}
use Rattle.meaning.specs.declared.Instruction.{Instruction}

-- two bytes, high first
abbrev pub word : ℕ → List ℕ
word n = n / 256 % 256 ∷ n % 256 ∷ []

-- a field: its tag, its length, its payload
abbrev pub field : ℕ → List ℕ → List ℕ
field tag payload = tag ∷ (word (length payload) ++ payload)

-- 1 for local else 0
abbrev pub flag : Bool → ℕ
flag true = 1
flag false = 0

-- tag 42
abbrev pub capture_bytes : List Capture → List ℕ
capture_bytes [] = []
capture_bytes (c ∷ cs) = field 0x42 (flag c.is_local ∷ c.index ∷ []) ++ capture_bytes cs

-- a mark: two bytes, with 47 four
abbrev pub mark_bytes : (tag mark : ℕ) → List ℕ
mark_bytes tag m = cond (eqb tag 0x47) (word (m / 65536) ++ word m) (word m)

-- tag 43 or 47
abbrev pub inst_bytes : (tag : ℕ) → List Instruction → List ℕ
inst_bytes tag [] = []
inst_bytes tag (i ∷ is) = field tag (i.opcode ∷ i.a ∷ i.b ∷ i.c ∷ mark_bytes tag i.mark) ++ inst_bytes tag is

-- tag 41, then its captures and its instructions
abbrev pub proto_bytes : (tag : ℕ) → List Proto → List ℕ
proto_bytes tag [] = []
proto_bytes tag (p ∷ ps) =
    field 0x41 (word p.name ++ (word p.params ++ (word p.registers ++ (word (length p.captures) ++ word (length p.code)))))
    ++ (capture_bytes p.captures ++ (inst_bytes tag p.code ++ proto_bytes tag ps))

-- a number's eight bytes
abbrev pub number_bytes : ℕ → List ℕ
number_bytes b = word (b / 281474976710656) ++ (word (b / 4294967296) ++ (word (b / 65536) ++ word b))

-- tags 44, 45, 46
abbrev pub constant_bytes : List Constant → List ℕ
constant_bytes [] = []
constant_bytes (number b ∷ cs) = field 0x44 (number_bytes b) ++ constant_bytes cs
constant_bytes (text n ∷ cs) = field 0x45 (word n) ++ constant_bytes cs
constant_bytes (other w ∷ cs) = field 0x46 (word w) ++ constant_bytes cs

-- "Prototypes by index, the main one last, then constants"
abbrev pub written : (tag : ℕ) → Image → List ℕ
written tag im = proto_bytes tag im.prototypes ++ constant_bytes im.constants

-- what the lowering writes
unfoldable pub image : (wide : Bool) → State → List ℕ
image wide s = written (inst_tag wide) (image_of_state s)
