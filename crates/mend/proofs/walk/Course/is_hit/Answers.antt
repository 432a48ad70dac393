-- Where the field is an instruction of the prototype in hand, it is asked whether it is replaced (Seen).
use mathlib.Core.Path.{◌∙◌}
use Rattle.mend.specs.Course.{met_field}
use Rattle.mend.proofs.Seen.{hit_not, hit_if}
use Rattle.mend.proofs.walk.Course.is_hit.Goals as goal

pub returns-then-is_in_hand : goal.returns-then-is_in_hand
returns-then-is_in_hand c = hit_if (met_field c.args.field) c.args.tag c.args.self c.if-is_in_hand.true _ _ _ c.from.ensures c.word.ensures.0 c.is_replaced.ensures

pub returns-else-is_in_hand : goal.returns-else-is_in_hand
returns-else-is_in_hand c = c.if-is_in_hand.false ∙ hit_not (met_field c.args.field) c.args.tag c.args.self c.if-is_in_hand.false
