-- Promise strength: any two outcomes that one promise allows are equal. `Post` is the promise itself, as it stands in src/: of what is lent (κs, args),
-- what is returned (r) and what is left behind each reference (s).
use Rattle.std.proofs.Common.{◌≡◌, sym, ◌∙◌}
use Rattle.instruction.proofs.numbers.Reads as numbers
use Rattle.instruction.proofs.bx.Reads as bx
use Rattle.instruction.proofs.sbx.Reads as sbx
use Rattle.instruction.proofs.is_continue.Reads as is_continue
use Rattle.instruction.proofs.is_break.Reads as is_break
use Rattle.instruction.proofs.HalvesFromU16.from.Reads as from
use Rattle.instruction.proofs.forward.Reads as forward
use Rattle.instruction.proofs.backward.Reads as backward

pub numbers_determined : (κs : _) (args : _) (r r' : _) (s s' : _) → numbers.Post κs args r s → numbers.Post κs args r' s' → r ≡ r'
numbers_determined κs args r r' s s' p q = p ∙ sym q

pub bx_determined : (κs : _) (args : _) (r r' : _) (s s' : _) → bx.Post κs args r s → bx.Post κs args r' s' → r ≡ r'
bx_determined κs args r r' s s' p q = p ∙ sym q

pub sbx_determined : (κs : _) (args : _) (r r' : _) (s s' : _) → sbx.Post κs args r s → sbx.Post κs args r' s' → r ≡ r'
sbx_determined κs args r r' s s' p q = p ∙ sym q

pub is_continue_determined : (κs : _) (args : _) (r r' : _) (s s' : _) → is_continue.Post κs args r s → is_continue.Post κs args r' s' → r ≡ r'
is_continue_determined κs args r r' s s' p q = p ∙ sym q

pub is_break_determined : (κs : _) (args : _) (r r' : _) (s s' : _) → is_break.Post κs args r s → is_break.Post κs args r' s' → r ≡ r'
is_break_determined κs args r r' s s' p q = p ∙ sym q

pub from_determined : (κs : _) (args : _) (r r' : _) (s s' : _) → from.Post κs args r s → from.Post κs args r' s' → r ≡ r'
from_determined κs args r r' s s' p q = p ∙ sym q

pub forward_determined : (κs : _) (args : _) (r r' : _) (s s' : _) → forward.Post κs args r s → forward.Post κs args r' s' → r ≡ r'
forward_determined κs args r r' s s' p q = p ∙ sym q

pub backward_determined : (κs : _) (args : _) (r r' : _) (s s' : _) → backward.Post κs args r s → backward.Post κs args r' s' → r ≡ r'
backward_determined κs args r r' s s' p q = p ∙ sym q
