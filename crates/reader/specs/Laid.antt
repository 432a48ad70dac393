-- Prototypes as they lie in an image: captures and instructions are fields of one size each, one after the other.
use Rattle.std.specs.Prelude.{ℕ, zero, suc, ◌+◌, ◌*◌, ◌<◌, ◌≤◌, ◌≡◌, true, ◌&&◌, cond, eqb, List, [], ◌∷◌, length, get_or, drop, ◌⊎◌}
use Rattle.meaning.specs.Safety.{Holds}
use Rattle.meaning.specs.declared.Instruction.{Instruction}
use Rattle.std.proofs.Math.Option.{none}
use Rattle.meaning.specs.Fields.{word_at, fields, whole}
use Rattle.meaning.specs.Constant.{Constant}
use Rattle.meaning.specs.Follow.{due, at_first, stray}
use Rattle.meaning.specs.State.{Capture, Proto}
use Rattle.meaning.specs.Images.{Image, inst_of, inst_size, capture_of, parts}

-- n instructions from the field at `at` on, a field taking `span` bytes
unfoldable pub code_in : List ℕ → (tag span at n : ℕ) → List Instruction
code_in s tag span at zero = []
code_in s tag span at (suc n) = inst_of tag (drop (at + 3) s) ∷ code_in s tag span (at + span) n

-- n captures from the field at `at` on, a field taking five bytes
unfoldable pub captures_in : List ℕ → (at n : ℕ) → List Capture
captures_in s at zero = []
captures_in s at (suc n) = capture_of (drop (at + 3) s) ∷ captures_in s (at + 5) n

-- the prototype whose header stands at the front
unfoldable pub proto_in : List ℕ → (tag : ℕ) → Proto
proto_in t tag = record {
  name = word_at t 3;
  params = word_at t 5;
  registers = word_at t 7;
  captures = captures_in t 13 (word_at t 9);
  code = code_in t tag (3 + inst_size tag) (13 + word_at t 9 * 5) (word_at t 11);
}

-- the bytes that it takes
abbrev pub proto_span : List ℕ → (tag : ℕ) → ℕ
proto_span t tag = 13 + word_at t 9 * 5 + word_at t 11 * (3 + inst_size tag)

-- the part of an image from prototype q on; where there are not so many, that behind the last
unfoldable pub part_from : (tag : ℕ) → List ℕ → (q : ℕ) → List ℕ
part_from tag s zero = s
part_from tag s (suc q) = cond (whole s && eqb (get_or s 0 0) 0x41) (part_from tag (drop (proto_span s tag) s) q) s

-- prototype q stands at the front, its header first
pub record There (ps : List Proto) (tag q : ℕ) (r : List ℕ) : Type 0 where
  pub is : Holds (λ p. p ≡ proto_in r tag) ps q
  pub room : proto_span r tag ≤ length r
  pub some : 0 < word_at r 11
  pub few : q < 256
  pub whole_one : whole r ≡ true
  pub header : get_or r 0 0 ≡ 0x41

-- the part behind `count` prototypes, where no other follows: constants alone
pub record Behind (ks : List Constant) (tag count : ℕ) (r : List ℕ) : Type 0 where
  pub order : stray tag (due 0 0 count 0) (fields r) ≡ none
  pub constants : (parts tag (fields r)).constants ≡ ks
  pub no_header : whole r ≡ true → get_or r 0 0 ≡ 0x41 → ⊥

-- what that part says
pub record Located (im : Image) (tag q : ℕ) (r : List ℕ) : Type 0 where
  pub there : q < length im.prototypes → There im.prototypes tag q r
  pub beyond : length im.prototypes ≤ q → Behind im.constants tag (length im.prototypes) r

-- an image in order, its instructions having this tag
pub record Ordered (s : List ℕ) (tag : ℕ) : Type 0 where
  pub width : (tag ≡ 0x43) ⊎ (tag ≡ 0x47)
  pub order : stray tag at_first (fields s) ≡ none
