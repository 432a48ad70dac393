-- E9: "Mend the images the Rust left on old cards". `tag` is that of instructions.
use Rattle.std.specs.Prelude.{ℕ, ◌+◌, ◌-◌, ◌*◌, Bool, not, ◌&&◌, ◌||◌, cond, List, [], ◌∷◌, ◌++◌, map, length, replicate, eqb, ltb}
use Rattle.std.proofs.Math.Option.{Option, none, some}
use Rattle.meaning.specs.Fields.{fields}
use Rattle.meaning.specs.Check.{framed}
use Rattle.meaning.specs.Opcode.{inst, bx, Jmp, Return, jmp_continue, jmp_break}
use Rattle.meaning.specs.State.{Proto}
use Rattle.meaning.specs.Images.{Image, image_of}
use Rattle.meaning.specs.Image.{word, written}
use Rattle.meaning.specs.Answer.{cause_number}
use Rattle.meaning.specs.Steps.{target}
use Rattle.meaning.specs.Follow.{at_first, stray}
use Rattle.meaning.specs.Rules.{inside}
use Rattle.meaning.specs.Reader.{Read, refused, taken, read_as}
use Rattle.meaning.specs.declared.Instruction.{Instruction}
use Rattle.meaning.specs.declared.MendAnswer.{MendAnswer}
use Rattle.meaning.specs.declared.Cause.{Cause}
use Rattle.meaning.specs.declared.Cause.TheVariants.{Room, ImageFrame, ImageRule, ListRoom}

-- ---- what is replaced

-- "each Jmp whose a is 1 or 2, or whose target leaves its prototype", x standing at index i of n instructions
unfoldable pub replaced : (n i : ℕ) → Instruction → Bool
replaced n i x = eqb x.opcode Jmp && ((eqb x.a jmp_continue || eqb x.a jmp_break) || not (inside n (target i (bx x))))

-- "by Return 0 0 0 with its mark kept"
unfoldable pub mended : (n i : ℕ) → Instruction → Instruction
mended n i x = cond (replaced n i x) (inst Return 0 0 0 x.mark) x

-- instructions from index i on, of n
unfoldable pub mended_from : (n i : ℕ) → List Instruction → List Instruction
mended_from n i [] = []
mended_from n i (x ∷ xs) = mended n i x ∷ mended_from n (i + 1) xs

-- a prototype: nothing but its code
abbrev pub mended_proto : Proto → Proto
mended_proto p = record { name = p.name; params = p.params; registers = p.registers; captures = p.captures; code = mended_from (length p.code) 0 p.code }

-- an image
abbrev pub mended_image : Image → Image
mended_image im = record { prototypes = map mended_proto im.prototypes; constants = im.constants }

-- ---- the list

-- a jump that was replaced: its prototype, its index there, and what stood there
pub record Entry : Type 0 where
  pub prototype : ℕ
  pub index : ℕ
  pub old : Instruction

-- "list each, in order": those of prototype q, which has n instructions, from index i on
unfoldable pub listed_from : (q n i : ℕ) → List Instruction → List Entry
listed_from q n i [] = []
listed_from q n i (x ∷ xs) = cond (replaced n i x) (record { prototype = q; index = i; old = x } ∷ listed_from q n (i + 1) xs) (listed_from q n (i + 1) xs)

-- those of prototypes, the first being number q
unfoldable pub listed : (q : ℕ) → List Proto → List Entry
listed q [] = []
listed q (p ∷ ps) = listed_from q (length p.code) 0 p.code ++ listed (q + 1) ps

-- "in eight bytes: prototype and index as words, the old four bytes"
unfoldable pub entry_bytes : Entry → List ℕ
entry_bytes e = word e.prototype ++ (word e.index ++ (e.old.opcode ∷ e.old.a ∷ e.old.b ∷ e.old.c ∷ []))

-- one after the other
unfoldable pub list_bytes : List Entry → List ℕ
list_bytes [] = []
list_bytes (e ∷ es) = entry_bytes e ++ list_bytes es

-- ---- of the bytes of an image in order

-- its mended copy
abbrev pub mended_copy : (tag : ℕ) → List ℕ → List ℕ
mended_copy tag s = written tag (mended_image (image_of tag (fields s)))

-- what is listed
abbrev pub listed_in : (tag : ℕ) → List ℕ → List Entry
listed_in tag s = listed 0 (image_of tag (fields s)).prototypes

-- ---- refusals

-- 20 "if a rule is broken other than by these jumps": what E1 says of the mended copy
abbrev pub read_copy : (tag : ℕ) → List ℕ → Option ℕ → Read
read_copy tag s none = read_as tag (mended_copy tag s)
read_copy tag s (some place) = refused ImageRule place

-- "19, then 20": a field that cannot follow is told first, as by E1
unfoldable pub read_mended : (tag : ℕ) → List ℕ → Read
read_mended tag s = cond (framed s) (read_copy tag s (stray tag at_first (fields s))) (refused ImageFrame (length (fields s)))

-- what mending ends with: a cause with its place, or the image's bytes and what is listed
pub data Mending : Type 0 where
  unmended : Cause → (place : ℕ) → Mending
  mended_to : List ℕ → List Entry → Mending

-- "then 26 List room when the lent list is too short, then 18", at place 0
abbrev pub mending_in : (room list : ℕ) → List ℕ → List Entry → Mending
mending_in room list bytes es = cond (ltb list (8 * length es)) (unmended ListRoom 0) (cond (ltb room (length bytes)) (unmended Room 0) (mended_to bytes es))

-- after 19 and 20
abbrev pub mending_after : (tag : ℕ) → List ℕ → (room list : ℕ) → Read → Mending
mending_after tag s room list (refused c place) = unmended c place
mending_after tag s room list (taken im) = mending_in room list (mended_copy tag s) (listed_in tag s)

-- the image's bytes, and how many bytes the lent output and the lent list have
unfoldable pub mend_as : (tag : ℕ) → List ℕ → (room list : ℕ) → Mending
mend_as tag s room list = mending_after tag s room list (read_mended tag s)

-- ---- what a call answers, and what it leaves

-- number, place, length of the image, entries in the list
abbrev pub mend_answer : Mending → MendAnswer
mend_answer (unmended c place) = record { number = cause_number c; place = place; length = 0; entries = 0 }
mend_answer (mended_to bytes es) = record { number = 0; place = 0; length = length bytes; entries = length es }

-- the bytes, then zeros; "output and list are then zero" where it is refused
abbrev pub mend_output : (room : ℕ) → Mending → List ℕ
mend_output room (unmended c place) = replicate room 0
mend_output room (mended_to bytes es) = bytes ++ replicate (room - length bytes) 0

-- the entries; "the rest of the list is zero"
abbrev pub mend_list : (list : ℕ) → Mending → List ℕ
mend_list list (unmended c place) = replicate list 0
mend_list list (mended_to bytes es) = list_bytes es ++ replicate (list - length (list_bytes es)) 0
