-- A walk over the whole fields from the front on: the field that a call of `next` hands on, and what is left behind it.
use Rattle.std.specs.Prelude.{ℕ, ◌≡◌, true, false, List, get_or, Option, MatchOption}
use Rattle.meaning.specs.Fields.{whole, payload_of, rest}
use Rattle.fields.specs.declared.Field.{Field}
use Rattle.fields.specs.declared.Fields.{Fields}

-- the field at the front of s, by its tag and its payload
abbrev pub IsFront : List ℕ → Field → Type 0
IsFront s x = (x.tag ≡ get_or s 0 0) × (x.payload.now ≡ payload_of s)

-- the whole field at the front, of which the rest is left; none where none is whole
abbrev pub StepsOver : Fields → Option Field → Fields → Type 0
StepsOver s r t =
    MatchOption r ((whole s.rest.now ≡ false) × (t.rest.now ≡ s.rest.now)) (λ x. (whole s.rest.now ≡ true) × IsFront s.rest.now x × (t.rest.now ≡ rest s.rest.now))
