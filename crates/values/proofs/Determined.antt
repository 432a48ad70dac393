-- Promise strength: any two outcomes that one promise allows are equal. `Post` is the promise itself, as it stands in src/: of what is lent (κs, args),
-- what is returned (r) and what is left behind each reference (s).
use mathlib.Core.Path.{◌≡◌, sym, ◌∙◌}
use Rattle.values.proofs.answer.cause_number.Reads as cause_number
use Rattle.values.proofs.answer.answer_of.Reads as answer-of
use Rattle.values.proofs.literal.bits_at.Reads as bits_at
use Rattle.values.proofs.literal.number_of.Reads as number_of_lem
use Rattle.values.proofs.literal.literal_of.Reads as literal_of
use Rattle.values.proofs.literal.small_bits.Reads as small-bits
use Rattle.values.proofs.literal.small.Reads as small

pub cause_number_determined : (κs : _) (args : _) (r r' : _) (s s' : _) → cause_number.Post κs args r s → cause_number.Post κs args r' s' → r ≡ r'
cause_number_determined κs args r r' s s' p q = p ∙ sym q

pub answer_of_determined : (κs : _) (args : _) (r r' : _) (s s' : _) → answer-of.Post κs args r s → answer-of.Post κs args r' s' → r ≡ r'
answer_of_determined κs args r r' s s' p q = p ∙ sym q

pub bits_at_determined : (κs : _) (args : _) (r r' : _) (s s' : _) → bits_at.Post κs args r s → bits_at.Post κs args r' s' → r ≡ r'
bits_at_determined κs args r r' s s' p q = p ∙ sym q

pub number_of_determined : (κs : _) (args : _) (r r' : _) (s s' : _) → number_of_lem.Post κs args r s → number_of_lem.Post κs args r' s' → r ≡ r'
number_of_determined κs args r r' s s' p q = p.0 ∙ sym q.0

pub literal_of_determined : (κs : _) (args : _) (r r' : _) (s s' : _) → literal_of.Post κs args r s → literal_of.Post κs args r' s' → r ≡ r'
literal_of_determined κs args r r' s s' p q = p.0 ∙ sym q.0

pub small_bits_determined : (κs : _) (args : _) (r r' : _) (s s' : _) → small-bits.Post κs args r s → small-bits.Post κs args r' s' → r ≡ r'
small_bits_determined κs args r r' s s' p q = p ∙ sym q

pub small_determined : (κs : _) (args : _) (r r' : _) (s s' : _) → small.Post κs args r s → small.Post κs args r' s' → r ≡ r'
small_determined κs args r r' s s' p q = p ∙ sym q
