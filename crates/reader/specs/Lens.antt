-- What the facts are asked of: an image as it stands (E1, the lens that changes nothing), or as it is mended (E9).
use Rattle.std.specs.Prelude.{ℕ, Bool, cond, List, map, length}
use Rattle.std.proofs.Math.Option.{Option, none, some}
use Rattle.meaning.specs.Fields.{Field, fields}
use Rattle.meaning.specs.Check.{framed}
use Rattle.meaning.specs.State.{Proto}
use Rattle.meaning.specs.Images.{Image, image_of}
use Rattle.meaning.specs.Follow.{at_first, stray}
use Rattle.meaning.specs.Reader.{Read, refused, ruled, broken}
use Rattle.meaning.specs.Mend.{mended, mended_from}
use Rattle.meaning.specs.declared.Instruction.{Instruction}
use Rattle.meaning.specs.declared.Cause.TheVariants.{ImageFrame, ImageRule}

-- an instruction at index i of n
abbrev pub lens : (mend : Bool) → (n i : ℕ) → Instruction → Instruction
lens mend n i x = cond mend (mended n i x) x

-- the instructions of a prototype
abbrev pub lens_code : (mend : Bool) → List Instruction → List Instruction
lens_code mend code = cond mend (mended_from (length code) 0 code) code

-- a prototype: nothing but its code
abbrev pub lens_proto : (mend : Bool) → Proto → Proto
lens_proto mend p = record { name = p.name; params = p.params; registers = p.registers; captures = p.captures; code = lens_code mend p.code }

-- an image
abbrev pub lens_image : (mend : Bool) → Image → Image
lens_image mend im = record { prototypes = map (lens_proto mend) im.prototypes; constants = im.constants }

-- E1's reading through the lens: frame and order as they are, the facts of what is seen
abbrev pub ordered_by : (mend : Bool) → (tag : ℕ) → List Field → Option ℕ → Read
ordered_by mend tag fs none = ruled (lens_image mend (image_of tag fs)) (broken (lens_image mend (image_of tag fs)))
ordered_by mend tag fs (some place) = refused ImageRule place

unfoldable pub read_by : (mend : Bool) → (tag : ℕ) → List ℕ → Read
read_by mend tag s = cond (framed s) (ordered_by mend tag (fields s) (stray tag at_first (fields s))) (refused ImageFrame (length (fields s)))
