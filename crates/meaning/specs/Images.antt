-- 01, "Image file": an image as a value, and the value that fields stand for. `tag` is that of instructions: 43, or 47 with wide marks.
use Rattle.std.specs.Prelude.{ℕ, ◌+◌, ◌*◌, Bool, cond, List, [], ◌∷◌, get_or, eqb}
use Rattle.meaning.specs.Fields.{Field, word_at}
use Rattle.meaning.specs.Grammar.{short_mark}
use Rattle.meaning.specs.Opcode.{inst}
use Rattle.meaning.specs.Constant.{Constant, number, text, other}
use Rattle.meaning.specs.State.{Capture, Proto, State}
use Rattle.meaning.specs.declared.Instruction.{Instruction}

-- "Prototypes by index, the main one last, then constants"
pub record Image : Type 0 where
  pub prototypes : List Proto
  pub constants : List Constant

-- what a lowering ended with
abbrev pub image_of_state : State → Image
image_of_state s = record { prototypes = s.prototypes; constants = s.constants }

-- E5: "its image uses tag 47 .. for every instruction"
abbrev pub inst_tag : (wide : Bool) → ℕ
inst_tag wide = cond wide 0x47 0x43

-- the bytes of an instruction's payload: 43 has a mark of two bytes, 47 of four
abbrev pub inst_size : (tag : ℕ) → ℕ
inst_size tag = cond (eqb tag 0x47) 8 6

-- a mark, by the payload: two bytes, of which 65,535 says that there is none, or four
abbrev pub mark_of : (tag : ℕ) → List ℕ → ℕ
mark_of tag p = cond (eqb tag 0x47) (word_at p 4 * 65536 + word_at p 6) (short_mark (word_at p 4))

-- an instruction
abbrev pub inst_of : (tag : ℕ) → List ℕ → Instruction
inst_of tag p = inst (get_or p 0 0) (get_or p 1 0) (get_or p 2 0) (get_or p 3 0) (mark_of tag p)

-- a capture
abbrev pub capture_of : List ℕ → Capture
capture_of p = record { is_local = eqb (get_or p 0 0) 1; index = get_or p 1 0 }

-- a number's bits
abbrev pub bits_of : List ℕ → ℕ
bits_of p = ((word_at p 0 * 65536 + word_at p 2) * 65536 + word_at p 4) * 65536 + word_at p 6

-- a constant
abbrev pub constant_in : Field → Constant
constant_in f = cond (eqb f.tag 0x44) (number (bits_of f.payload)) (cond (eqb f.tag 0x45) (text (word_at f.payload 0)) (other (word_at f.payload 0)))

-- what stands from a field on: captures and instructions that belong to the header before it, then prototypes, then constants
pub record Parts : Type 0 where
  pub captures : List Capture
  pub code : List Instruction
  pub prototypes : List Proto
  pub constants : List Constant

-- the prototype of a header with its captures and instructions
abbrev pub proto_of : (header : List ℕ) → List Capture → List Instruction → Proto
proto_of h cs xs = record { name = word_at h 0; params = word_at h 2; registers = word_at h 4; captures = cs; code = xs }

-- a field before them
unfoldable pub add_field : (tag : ℕ) → Field → Parts → Parts
add_field tag f r =
    cond (eqb f.tag 0x41) (record { captures = []; code = []; prototypes = proto_of f.payload r.captures r.code ∷ r.prototypes; constants = r.constants })
    (cond (eqb f.tag 0x42) (record { captures = capture_of f.payload ∷ r.captures; code = r.code; prototypes = r.prototypes; constants = r.constants })
    (cond (eqb f.tag tag) (record { captures = r.captures; code = inst_of tag f.payload ∷ r.code; prototypes = r.prototypes; constants = r.constants })
    (record { captures = r.captures; code = r.code; prototypes = r.prototypes; constants = constant_in f ∷ r.constants })))

-- fields, from the last to the first
unfoldable pub parts : (tag : ℕ) → List Field → Parts
parts tag [] = record { captures = []; code = []; prototypes = []; constants = [] }
parts tag (f ∷ fs) = add_field tag f (parts tag fs)

-- the image that fields stand for
abbrev pub image_of : (tag : ℕ) → List Field → Image
image_of tag fs = record { prototypes = (parts tag fs).prototypes; constants = (parts tag fs).constants }
