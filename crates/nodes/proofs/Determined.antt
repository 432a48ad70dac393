-- Promise strength: any two outcomes that one promise allows are equal. `Post` is the promise itself, as it stands in src/: of what is lent (κs, args),
-- what is returned (r) and what is left behind each reference (s).
use mathlib.Core.Path.{◌≡◌, sym, ◌∙◌}
use Rattle.nodes.proofs.offsets.tag_of.Reads as tag_of
use Rattle.nodes.proofs.offsets.payload_of.Reads as payload_of
use Rattle.nodes.proofs.offsets.count_of.Reads as count_of
use Rattle.nodes.proofs.words.child.Reads as child
use Rattle.nodes.proofs.words.pair.Reads as pair
use Rattle.nodes.proofs.expressions.variable_of.Reads as variable_of
use Rattle.nodes.proofs.expressions.unary_of.Reads as unary_of
use Rattle.nodes.proofs.expressions.binary_of.Reads as binary_of
use Rattle.nodes.proofs.expressions.logical_of.Reads as logical_of
use Rattle.nodes.proofs.expressions.call_of.Reads as call_of
use Rattle.nodes.proofs.expressions.function_of.Reads as Function-of
use Rattle.nodes.proofs.statements.expr_stmt_of.Reads as expr_stmt_of
use Rattle.nodes.proofs.statements.let_of.Reads as let_of
use Rattle.nodes.proofs.statements.while_of.Reads as while_of
use Rattle.nodes.proofs.statements.for_of.Reads as for_of
use Rattle.nodes.proofs.statements.initializer_end.Reads as initializer-end
use Rattle.nodes.proofs.statements.for_in_of.Reads as for_in_of
use Rattle.nodes.proofs.statements.jump_of.Reads as jump_of
use Rattle.nodes.proofs.statements.return_of.Reads as Return-of
use Rattle.nodes.proofs.statements.if_of.Reads as if_of
use Rattle.nodes.proofs.statements.elif_of.Reads as elif_of
use Rattle.nodes.proofs.statements.try_of.Reads as try_of
use Rattle.nodes.proofs.statements.define_of.Reads as define_of
use Rattle.nodes.proofs.statements.class_of.Reads as class_of

pub tag_of_determined : (κs : _) (args : _) (r r' : _) (s s' : _) → tag_of.Post κs args r s → tag_of.Post κs args r' s' → r ≡ r'
tag_of_determined κs args r r' s s' p q = p ∙ sym q

pub payload_of_determined : (κs : _) (args : _) (r r' : _) (s s' : _) → payload_of.Post κs args r s → payload_of.Post κs args r' s' → r.now ≡ r'.now
payload_of_determined κs args r r' s s' p q = p ∙ sym q

pub count_of_determined : (κs : _) (args : _) (r r' : _) (s s' : _) → count_of.Post κs args r s → count_of.Post κs args r' s' → r ≡ r'
count_of_determined κs args r r' s s' p q = p.0 ∙ sym q.0

pub child_determined : (κs : _) (args : _) (r r' : _) (s s' : _) → child.Post κs args r s → child.Post κs args r' s' → r ≡ r'
child_determined κs args r r' s s' p q = p.0 ∙ sym q.0

pub pair_determined : (κs : _) (args : _) (r r' : _) (s s' : _) → pair.Post κs args r s → pair.Post κs args r' s' → r ≡ r'
pair_determined κs args r r' s s' p q = p.0 ∙ sym q.0

pub variable_of_determined : (κs : _) (args : _) (r r' : _) (s s' : _) → variable_of.Post κs args r s → variable_of.Post κs args r' s' → r ≡ r'
variable_of_determined κs args r r' s s' p q = p ∙ sym q

pub unary_of_determined : (κs : _) (args : _) (r r' : _) (s s' : _) → unary_of.Post κs args r s → unary_of.Post κs args r' s' → r ≡ r'
unary_of_determined κs args r r' s s' p q = p ∙ sym q

pub binary_of_determined : (κs : _) (args : _) (r r' : _) (s s' : _) → binary_of.Post κs args r s → binary_of.Post κs args r' s' → r ≡ r'
binary_of_determined κs args r r' s s' p q = p ∙ sym q

pub logical_of_determined : (κs : _) (args : _) (r r' : _) (s s' : _) → logical_of.Post κs args r s → logical_of.Post κs args r' s' → r ≡ r'
logical_of_determined κs args r r' s s' p q = p ∙ sym q

pub call_of_determined : (κs : _) (args : _) (r r' : _) (s s' : _) → call_of.Post κs args r s → call_of.Post κs args r' s' → r ≡ r'
call_of_determined κs args r r' s s' p q = p.0 ∙ sym q.0

pub function_of_determined : (κs : _) (args : _) (r r' : _) (s s' : _) → Function-of.Post κs args r s → Function-of.Post κs args r' s' → r ≡ r'
function_of_determined κs args r r' s s' p q = p.0 ∙ sym q.0

pub expr_stmt_of_determined : (κs : _) (args : _) (r r' : _) (s s' : _) → expr_stmt_of.Post κs args r s → expr_stmt_of.Post κs args r' s' → r ≡ r'
expr_stmt_of_determined κs args r r' s s' p q = p ∙ sym q

pub let_of_determined : (κs : _) (args : _) (r r' : _) (s s' : _) → let_of.Post κs args r s → let_of.Post κs args r' s' → r ≡ r'
let_of_determined κs args r r' s s' p q = p.0 ∙ sym q.0

pub while_of_determined : (κs : _) (args : _) (r r' : _) (s s' : _) → while_of.Post κs args r s → while_of.Post κs args r' s' → r ≡ r'
while_of_determined κs args r r' s s' p q = p ∙ sym q

pub for_of_determined : (κs : _) (args : _) (r r' : _) (s s' : _) → for_of.Post κs args r s → for_of.Post κs args r' s' → r ≡ r'
for_of_determined κs args r r' s s' p q = p ∙ sym q

pub initializer_end_determined : (κs : _) (args : _) (r r' : _) (s s' : _) → initializer-end.Post κs args r s → initializer-end.Post κs args r' s' → r ≡ r'
initializer_end_determined κs args r r' s s' p q = p ∙ sym q

pub for_in_of_determined : (κs : _) (args : _) (r r' : _) (s s' : _) → for_in_of.Post κs args r s → for_in_of.Post κs args r' s' → r ≡ r'
for_in_of_determined κs args r r' s s' p q = p.0 ∙ sym q.0

pub jump_of_determined : (κs : _) (args : _) (r r' : _) (s s' : _) → jump_of.Post κs args r s → jump_of.Post κs args r' s' → r ≡ r'
jump_of_determined κs args r r' s s' p q = p ∙ sym q

pub return_of_determined : (κs : _) (args : _) (r r' : _) (s s' : _) → Return-of.Post κs args r s → Return-of.Post κs args r' s' → r ≡ r'
return_of_determined κs args r r' s s' p q = p ∙ sym q

pub if_of_determined : (κs : _) (args : _) (r r' : _) (s s' : _) → if_of.Post κs args r s → if_of.Post κs args r' s' → r ≡ r'
if_of_determined κs args r r' s s' p q = p.0 ∙ sym q.0

pub elif_of_determined : (κs : _) (args : _) (r r' : _) (s s' : _) → elif_of.Post κs args r s → elif_of.Post κs args r' s' → r ≡ r'
elif_of_determined κs args r r' s s' p q = p ∙ sym q

pub try_of_determined : (κs : _) (args : _) (r r' : _) (s s' : _) → try_of.Post κs args r s → try_of.Post κs args r' s' → r ≡ r'
try_of_determined κs args r r' s s' p q = p ∙ sym q

pub define_of_determined : (κs : _) (args : _) (r r' : _) (s s' : _) → define_of.Post κs args r s → define_of.Post κs args r' s' → r ≡ r'
define_of_determined κs args r r' s s' p q = p.0 ∙ sym q.0

pub class_of_determined : (κs : _) (args : _) (r r' : _) (s s' : _) → class_of.Post κs args r s → class_of.Post κs args r' s' → r ≡ r'
class_of_determined κs args r r' s s' p q = p.0 ∙ sym q.0
