-- A word of a command line as a number.
use Rattle.std.specs.Prelude.{ℕ, ◌+◌, ◌-◌, ◌*◌, Bool, ◌&&◌, cond, List, [], ◌∷◌, leb, Option, Some, None}

-- a byte is one of the characters 0 to 9
abbrev pub is_digit : ℕ → Bool
is_digit d = leb 48 d && leb d 57

-- the number so far with one digit more
abbrev pub and_digit : (value digit : ℕ) → ℕ
and_digit v d = v * 10 + (d - 48)

-- what the digits make of the number so far; none where a byte is no digit, or where the number has more than 64 bits
unfoldable pub spelled_on : ℕ → List ℕ → Option ℕ
spelled_on v [] = Some v
spelled_on v (d ∷ ds) = cond (is_digit d && leb (and_digit v d) 18446744073709551615) (spelled_on (and_digit v d) ds) None

-- the number that a word spells, in decimal; none where it has no digit
unfoldable pub spelled : List ℕ → Option ℕ
spelled [] = None
spelled (d ∷ ds) = spelled_on 0 (d ∷ ds)
