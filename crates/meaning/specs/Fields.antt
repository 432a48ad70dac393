-- 01, "Tree file": a file is a list of bytes. A field is a one-byte tag, a two-byte length, the high byte first, and the payload.
use Rattle.std.specs.Prelude.{ℕ, zero, suc, ◌+◌, ◌*◌, Bool, cond, List, [], ◌∷◌, length, get_or, take, drop, leb}

-- the big-endian word at a byte offset
abbrev pub word_at : List ℕ → ℕ → ℕ
word_at s at = get_or s at 0 * 256 + get_or s (at + 1) 0

-- the bytes of the field at the front: its header and as many as the header says
abbrev pub span : List ℕ → ℕ
span s = 3 + word_at s 1

-- a whole field stands at the front; a header that is cut off says 3 or more as well, so this one test is enough
unfoldable pub whole : List ℕ → Bool
whole s = leb (span s) (length s)

-- a field without its length, which the payload has
pub record Field : Type 0 where
  pub tag : ℕ
  pub payload : List ℕ

-- the payload of the field at the front: as many bytes as its header says, after the header
abbrev pub payload_of : List ℕ → List ℕ
payload_of s = take (word_at s 1) (drop 3 s)

-- the field at the front, with its tag
abbrev pub front : List ℕ → Field
front s = record { tag = get_or s 0 0; payload = payload_of s }

-- "the rest of the tree, from the next header on"
abbrev pub rest : List ℕ → List ℕ
rest s = drop (span s) s

-- the whole fields from the front on, `fuel` of them at most
unfoldable pub fields_by : (fuel : ℕ) → List ℕ → List Field
fields_by zero s = []
fields_by (suc f) s = cond (whole s) (front s ∷ fields_by f (rest s)) []

-- what stands after those
unfoldable pub left_by : (fuel : ℕ) → List ℕ → List ℕ
left_by zero s = s
left_by (suc f) s = cond (whole s) (left_by f (rest s)) s

-- the whole fields from the front on; each takes three bytes or more, so the length is fuel enough
unfoldable pub fields : List ℕ → List Field
fields s = fields_by (length s) s

-- what stands after them
unfoldable pub left : List ℕ → List ℕ
left s = left_by (length s) s

-- what stands where no field is
abbrev pub no_field : Field
no_field = record { tag = 0; payload = [] }

-- field i is node i
abbrev pub field_at : List Field → ℕ → Field
field_at fs i = get_or fs i no_field

-- the payload's words
unfoldable pub words : List ℕ → List ℕ
words [] = []
words (a ∷ []) = []
words (a ∷ b ∷ p) = (a * 256 + b) ∷ words p

-- the byte at which the header of field i starts
unfoldable pub header : List ℕ → ℕ → ℕ
header s zero = 0
header s (suc i) = span s + header (rest s) i
