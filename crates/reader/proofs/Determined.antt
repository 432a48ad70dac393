-- Promise strength: any two outcomes that one promise allows are equal. `Post` is the promise itself, as it stands in src/: of what is lent (κs, args),
-- what is returned (r) and what is left behind each reference (s).
use mathlib.Core.Path.{◌≡◌, sym, ◌∙◌}
use Rattle.reader.proofs.read.Reads as read
use Rattle.reader.proofs.read_mended.Reads as read_mended
use Rattle.reader.proofs.width.image_tag.Reads as image_tag
use Rattle.reader.proofs.facts.is_replaced.Reads as is_replaced
use Rattle.reader.proofs.locate.prototype.Reads as prototype
use Rattle.reader.proofs.instruction.Reads as instruction

pub read_determined : (κs : _) (args : _) (r r' : _) (s s' : _) → read.Post κs args r s → read.Post κs args r' s' → r ≡ r'
read_determined κs args r r' s s' p q = p ∙ sym q

pub read_mended_determined : (κs : _) (args : _) (r r' : _) (s s' : _) → read_mended.Post κs args r s → read_mended.Post κs args r' s' → r ≡ r'
read_mended_determined κs args r r' s s' p q = p ∙ sym q

pub image_tag_determined : (κs : _) (args : _) (r r' : _) (s s' : _) → image_tag.Post κs args r s → image_tag.Post κs args r' s' → r ≡ r'
image_tag_determined κs args r r' s s' p q = p.0 ∙ sym q.0

pub is_replaced_determined : (κs : _) (args : _) (r r' : _) (s s' : _) → is_replaced.Post κs args r s → is_replaced.Post κs args r' s' → r ≡ r'
is_replaced_determined κs args r r' s s' p q = p ∙ sym q

-- the bytes that are lent on
pub prototype_determined : (κs : _) (args : _) (r r' : _) (s s' : _) → prototype.Post κs args r s → prototype.Post κs args r' s' → r.now ≡ r'.now
prototype_determined κs args r r' s s' p q = p.1 ∙ sym q.1

pub instruction_determined : (κs : _) (args : _) (r r' : _) (s s' : _) → instruction.Post κs args r s → instruction.Post κs args r' s' → r ≡ r'
instruction_determined κs args r r' s s' p q = p ∙ sym q
