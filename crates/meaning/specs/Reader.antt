-- E1: what reading an image back answers. It "takes exactly the images in 01's order .. and all facts of demand 3 at every instruction".
use Rattle.std.specs.Prelude.{ℕ, cond, List, [], ◌∷◌, length, eqb, Ok, Err}
use Rattle.std.proofs.Math.Option.{Option, none, some}
use Rattle.meaning.specs.Fields.{Field, fields}
use Rattle.meaning.specs.Check.{framed}
use Rattle.meaning.specs.Images.{Image, image_of}
use Rattle.meaning.specs.Follow.{at_first, stray}
use Rattle.meaning.specs.Rules.{proto_tests, first_false}
use Rattle.meaning.specs.declared.Cause.{Cause}
use Rattle.meaning.specs.declared.Cause.TheVariants.{ImageFrame, ImageRule}
use Rattle.meaning.specs.Outcome.{Outcome, refusal}

-- an image, or a cause with its place
pub data Read : Type 0 where
  refused : Cause → (place : ℕ) → Read
  taken : Image → Read

-- the lowest field whose fact fails
abbrev pub broken : Image → Option ℕ
broken im = first_false (proto_tests im.constants [] im.prototypes)

-- 20 "the lowest field whose fact fails"
abbrev pub ruled : Image → Option ℕ → Read
ruled im none = taken im
ruled im (some place) = refused ImageRule place

-- 20 "the first field that cannot follow, or the field count when the end comes too soon", then the facts
abbrev pub ordered : (tag : ℕ) → List Field → Option ℕ → Read
ordered tag fs none = ruled (image_of tag fs) (broken (image_of tag fs))
ordered tag fs (some place) = refused ImageRule place

-- 19 "judged and placed as Frame", then 20
unfoldable pub read_as : (tag : ℕ) → List ℕ → Read
read_as tag s = cond (framed s) (ordered tag (fields s) (stray tag at_first (fields s))) (refused ImageFrame (length (fields s)))

-- E5, 43 and 47 "never mixed": the first field that has one of these tags decides; one of the other cannot follow
unfoldable pub tag_in : List Field → ℕ
tag_in [] = 0x43
tag_in (f ∷ fs) = cond (eqb f.tag 0x47) 0x47 (cond (eqb f.tag 0x43) 0x43 (tag_in fs))

-- the tag of an image's instructions
abbrev pub image_tag : List ℕ → ℕ
image_tag s = tag_in (fields s)

-- an image of either width
abbrev pub read_image : List ℕ → Read
read_image s = read_as (image_tag s) s

-- a taken image answers how many fields it has
abbrev pub read_outcome : (count : ℕ) → Read → Outcome
read_outcome count (refused c place) = Err (refusal c place)
read_outcome count (taken im) = Ok count
