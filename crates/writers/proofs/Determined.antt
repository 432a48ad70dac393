-- Promise strength: any two outcomes that one promise allows are equal. `Post` is the promise itself, as it stands in src/: of what is lent (κs, args),
-- what is returned (r) and what is left behind each reference (s).
use mathlib.Core.Path.{◌≡◌, sym, ◌∙◌}
use Rattle.writers.proofs.Constant.size.Reads as size
use Rattle.writers.proofs.put_word.Reads as put_word
use Rattle.writers.proofs.put_field.Reads as put-field
use Rattle.writers.proofs.put_header.Reads as put-header
use Rattle.writers.proofs.put_capture.Reads as put-capture
use Rattle.writers.proofs.put_inst.Reads as put-inst
use Rattle.writers.proofs.put_constant.Reads as put-constant

pub size_determined : (κs : _) (args : _) (r r' : _) (s s' : _) → size.Post κs args r s → size.Post κs args r' s' → r ≡ r'
size_determined κs args r r' s s' p q = p.0 ∙ sym q.0

pub put_word_determined : (κs : _) (args : _) (r r' : _) (s s' : _) → put_word.Post κs args r s → put_word.Post κs args r' s' → s.0.now ≡ s'.0.now
put_word_determined κs args r r' s s' p q = p.is ∙ sym q.is

pub put_field_determined : (κs : _) (args : _) (r r' : _) (s s' : _) → put-field.Post κs args r s → put-field.Post κs args r' s' → s.0.now ≡ s'.0.now
put_field_determined κs args r r' s s' p q = p.is ∙ sym q.is

pub put_header_determined : (κs : _) (args : _) (r r' : _) (s s' : _) → put-header.Post κs args r s → put-header.Post κs args r' s' → s.0.now ≡ s'.0.now
put_header_determined κs args r r' s s' p q = p.is ∙ sym q.is

pub put_capture_determined : (κs : _) (args : _) (r r' : _) (s s' : _) → put-capture.Post κs args r s → put-capture.Post κs args r' s' → s.0.now ≡ s'.0.now
put_capture_determined κs args r r' s s' p q = p.is ∙ sym q.is

pub put_inst_determined : (κs : _) (args : _) (r r' : _) (s s' : _) → put-inst.Post κs args r s → put-inst.Post κs args r' s' → s.0.now ≡ s'.0.now
put_inst_determined κs args r r' s s' p q = p.is ∙ sym q.is

pub put_constant_determined : (κs : _) (args : _) (r r' : _) (s s' : _) → put-constant.Post κs args r s → put-constant.Post κs args r' s' → s.0.now ≡ s'.0.now
put_constant_determined κs args r r' s s' p q = p.is ∙ sym q.is
