-- Promise strength: any two outcomes that one promise allows are equal. `Post` is the promise itself, as it stands in src/: of what is lent (κs, args),
-- what is returned (r) and what is left behind each reference (s).
use mathlib.Core.Path.{◌≡◌, refl, sym, ap₂, ◌∙◌}
use mathlib.Core.Bool.{true≢false}
use mathlib.Core.List.{List}
use Prim.Native.Nat.{ℕ}
use Rattle.std.specs.Prelude.{Option, Some, None}
use Rattle.std.specs.Option.{option_map}
use Rattle.fields.specs.Walk.{StepsOver}
use Rattle.fields.specs.declared.Field.{Field}
use Rattle.fields.specs.declared.Fields.{Fields}
use Rattle.fields.proofs.as_size.Reads as as-size
use Rattle.fields.proofs.word.Reads as word
use Rattle.fields.proofs.is_whole.Reads as is_whole
use Rattle.fields.proofs.span_of.Reads as Span-of
use Rattle.fields.proofs.payload.Reads as payload
use Rattle.fields.proofs.Fields.new.Reads as new
use Rattle.fields.proofs.FieldsIterator.next.Reads as next

pub as_size_determined : (κs : _) (args : _) (r r' : _) (s s' : _) → as-size.Post κs args r s → as-size.Post κs args r' s' → r ≡ r'
as_size_determined κs args r r' s s' p q = p.0 ∙ sym q.0

pub word_determined : (κs : _) (args : _) (r r' : _) (s s' : _) → word.Post κs args r s → word.Post κs args r' s' → r ≡ r'
word_determined κs args r r' s s' p q = p.0 ∙ sym q.0

pub is_whole_determined : (κs : _) (args : _) (r r' : _) (s s' : _) → is_whole.Post κs args r s → is_whole.Post κs args r' s' → r ≡ r'
is_whole_determined κs args r r' s s' p q = p ∙ sym q

pub span_of_determined : (κs : _) (args : _) (r r' : _) (s s' : _) → Span-of.Post κs args r s → Span-of.Post κs args r' s' → r ≡ r'
span_of_determined κs args r r' s s' p q = p ∙ sym q

-- the bytes that are lent on
pub payload_determined : (κs : _) (args : _) (r r' : _) (s s' : _) → payload.Post κs args r s → payload.Post κs args r' s' → r.now ≡ r'.now
payload_determined κs args r r' s s' p q = p ∙ sym q

-- which bytes are left to walk over
pub new_determined : (κs : _) (args : _) (r r' : _) (s s' : _) → new.Post κs args r s → new.Post κs args r' s' → r.rest.now ≡ r'.rest.now
new_determined κs args r r' s s' p q = p ∙ sym q

-- what a call hands on: a field's tag and the bytes of its payload
abbrev seen : Field → ℕ × List ℕ
seen x = (x.tag, x.payload.now)

-- a whole field stands at the front or none does; the law tells its tag, its payload and what is left behind it
steps : (s : Fields) (r r' : Option Field) (t t' : Fields) → StepsOver s r t → StepsOver s r' t' → (option_map seen r ≡ option_map seen r') × (t.rest.now ≡ t'.rest.now)
steps s None None t t' p q = (refl, p.1 ∙ sym q.1)
steps s None (Some y) t t' p q = absurd (true≢false (sym q.0 ∙ p.0))
steps s (Some x) None t t' p q = absurd (true≢false (sym p.0 ∙ q.0))
steps s (Some x) (Some y) t t' (_, (tag, payload), left) (_, (tag', payload'), left') = (ap₂ (λ a b. Some (a, b)) (tag ∙ sym tag') (payload ∙ sym payload'), left ∙ sym left')

-- which field is handed on, if one is, and which bytes are left to walk over
pub next_determined : (κs : _) (args : _) (r r' : _) (s s' : _) → next.Post κs args r s → next.Post κs args r' s'
    → (option_map seen r ≡ option_map seen r') × (s.0.now.rest.now ≡ s'.0.now.rest.now)
next_determined κs args r r' s s' p q = steps args.0.now r r' s.0.now s'.0.now p.0 q.0
