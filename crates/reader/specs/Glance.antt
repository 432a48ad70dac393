-- What the code reads of a field to judge whether it can follow: five numbers. Only contracts of inner functions cite this; proofs/Glances proves that it says what Follow says.
use Rattle.std.specs.Prelude.{ℕ, ◌+◌, ◌-◌, ◌*◌, ◌<◌, ◌≤◌, ◌≡◌, Bool, ◌&&◌, ◌||◌, cond, List, length, get_or, eqb, leb, ltb}
use Rattle.meaning.specs.Fields.{Field, word_at}
use Rattle.meaning.specs.declared.Due.{Due}
use Rattle.reader.specs.declared.order.Seen.{Seen}
use Rattle.meaning.specs.Follow.{due}

-- its tag and its length; of two bytes the first; of a header the counts
pub record Glanced (f : Field) (r : Seen) : Type 0 where
  pub tag : r.tag ≡ f.tag
  pub size : r.size ≡ length f.payload
  pub first : length f.payload ≡ 2 → r.first ≡ get_or f.payload 0 0
  pub captures : length f.payload ≡ 10 → r.captures ≡ word_at f.payload 6
  pub code : length f.payload ≡ 10 → r.code ≡ word_at f.payload 8

-- of this tag and length
abbrev pub sized_seen : Seen → (tag size : ℕ) → Bool
sized_seen r tag size = eqb r.tag tag && eqb r.size size

-- it can follow where a prototype is whole
abbrev pub whole_seen : Due → Seen → Bool
whole_seen d r =
    ((sized_seen r 0x41 10 && ltb 0 r.code) && (ltb d.prototypes 256 && eqb d.constants 0))
    || ((sized_seen r 0x44 8 || (sized_seen r 0x45 2 || sized_seen r 0x46 2)) && (ltb 0 d.prototypes && ltb d.constants 1024))

-- it can follow
abbrev pub follows_seen : (tag size : ℕ) → Due → Seen → Bool
follows_seen tag size d r =
    (ltb 0 d.captures && (sized_seen r 0x42 2 && leb r.first 1))
    || (eqb d.captures 0 && ((ltb 0 d.code && sized_seen r tag size) || (eqb d.code 0 && whole_seen d r)))

-- what is due after it
abbrev pub due_seen : Due → Seen → Due
due_seen d r =
    cond (ltb 0 d.captures) (due (d.captures - 1) d.code d.prototypes d.constants)
    (cond (ltb 0 d.code) (due 0 (d.code - 1) d.prototypes d.constants)
    (cond (eqb r.tag 0x41) (due r.captures r.code (d.prototypes + 1) 0)
    (due 0 0 d.prototypes (d.constants + 1))))

-- ---- instructions at once

-- the instructions that are due at once: none while captures are
abbrev pub ready : Due → ℕ
ready d = cond (eqb d.captures 0) d.code 0

-- so many fewer
abbrev pub less : Due → ℕ → Due
less d m = due d.captures (d.code - m) d.prototypes d.constants

-- r of n fields from the front on are whole instructions
pub record Run (s : List ℕ) (tag size n r : ℕ) : Type 0 where
  pub few : r ≤ n
  pub room : r * (3 + size) ≤ length s
  pub each : (j : ℕ) → j < r → (get_or s (j * (3 + size)) 0 ≡ tag) × (word_at s (j * (3 + size) + 1) ≡ size)
