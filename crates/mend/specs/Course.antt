-- The walk over the fields of an image. Only contracts of inner functions cite this; proofs/Courses proves that it finds what Mend lists.
use Rattle.std.specs.Prelude.{ℕ, ◌+◌, ◌-◌, Bool, ◌&&◌, cond, List, [], ◌∷◌, length, eqb, leb, ltb, Ok, Err}
use Rattle.meaning.specs.Fields.{Field, word_at}
use Rattle.fields.specs.declared.Field as walked
use Rattle.meaning.specs.Images.{inst_of}
use Rattle.meaning.specs.Mend.{replaced, Entry, Mending, unmended, mended_to}
use Rattle.meaning.specs.Outcome.{Outcome, refusal}
use Rattle.mend.specs.declared.walk.Course.{Course}

-- where the walk stands, as the struct has it
abbrev pub course : (met code index : ℕ) → Course
course q n i = record { met = q; code = n; index = i }

-- a field as the walk meets it
abbrev pub met_field : walked.Field → Field
met_field f = record { tag = f.tag; payload = f.payload.now }

-- the field is an instruction that is replaced
unfoldable pub hit : (tag : ℕ) → Course → Field → Bool
hit tag c f = (eqb f.tag tag && leb 4 (length f.payload)) && ((ltb 0 c.met && ltb c.index c.code) && replaced c.code c.index (inst_of tag f.payload))

-- what is listed of it
unfoldable pub hits : (tag : ℕ) → Course → Field → List Entry
hits tag c f = cond (hit tag c f) (record { prototype = c.met - 1; index = c.index; old = inst_of tag f.payload } ∷ []) []

-- where the walk stands behind it
unfoldable pub after : (tag : ℕ) → Course → Field → Course
after tag c f =
    cond (eqb f.tag 0x41 && leb 10 (length f.payload)) (course (c.met + 1) (word_at f.payload 8) 0)
    (cond (eqb f.tag tag) (course c.met c.code (c.index + 1)) c)

-- how many jumps are replaced, or the cause
abbrev pub mend_outcome : Mending → Outcome
mend_outcome (unmended c place) = Err (refusal c place)
mend_outcome (mended_to bytes es) = Ok (length es)
