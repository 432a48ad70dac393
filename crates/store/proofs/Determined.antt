-- Promise strength: any two outcomes that one promise allows are equal. `Post` is the promise itself, as it stands in src/: of what is lent (κs, args),
-- what is returned (r) and what is left behind each reference (s).
use Rattle.std.proofs.Common.{◌≡◌, sym, ◌∙◌}
use Rattle.store.proofs.Step.refuse.Reads as refuse
use Rattle.store.proofs.Step.advance.Reads as advance
use Rattle.store.proofs.Step.settle.Reads as settle
use Rattle.store.proofs.global.is_global_context.Reads as is_global_context
use Rattle.store.proofs.global.is_global_var.Reads as is_global_var

pub refuse_determined : (κs : _) (args : _) (r r' : _) (s s' : _) → refuse.Post κs args r s → refuse.Post κs args r' s' → r ≡ r'
refuse_determined κs args r r' s s' p q = p ∙ sym q

pub advance_determined : (κs : _) (args : _) (r r' : _) (s s' : _) → advance.Post κs args r s → advance.Post κs args r' s' → r ≡ r'
advance_determined κs args r r' s s' p q = p ∙ sym q

pub settle_determined : (κs : _) (args : _) (r r' : _) (s s' : _) → settle.Post κs args r s → settle.Post κs args r' s' → r ≡ r'
settle_determined κs args r r' s s' p q = p ∙ sym q

pub is_global_context_determined : (κs : _) (args : _) (r r' : _) (s s' : _) → is_global_context.Post κs args r s → is_global_context.Post κs args r' s' → r ≡ r'
is_global_context_determined κs args r r' s s' p q = p.0 ∙ sym q.0

pub is_global_var_determined : (κs : _) (args : _) (r r' : _) (s s' : _) → is_global_var.Post κs args r s → is_global_var.Post κs args r' s' → r ≡ r'
is_global_var_determined κs args r r' s s' p q = p.0 ∙ sym q.0
