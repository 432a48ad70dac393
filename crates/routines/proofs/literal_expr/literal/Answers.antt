-- fn visit_literal_expr: the register, then the constant, then LoadK.
use mathlib.Core.Path.{ap, ◌∙◌}
use native.Mathlib.Omega.{arith}
use Rattle.meaning.specs.Fields.{fields, words}
use Rattle.meaning.specs.At.{file_words}
use Rattle.meaning.specs.Lower.{lower_expr}
use Rattle.values.specs.Literals.{constant_at}
use Rattle.forward.proofs.Chains.{literal_chain}
use Rattle.store.specs.Promise.{uses}
use Rattle.store.proofs.Compose.{known}
use Rattle.routines.proofs.Held.{literal_is}
use Rattle.routines.proofs.NodeLine.{one, ◌▹◌, small_put, gives}
use Rattle.routines.proofs.literal_expr.literal.Goals as goal

pub returns : goal.returns
unfolding lower_expr
returns c = let next_register = c.next_register-register in
    let add_constant = c.add_constant-constant in
    let put-bx = c.put_bx in
    let literal_of = c.literal_of-value in
    let tag_of = c.tag_of-tag in
    let payload_of = c.payload_of-payload in
    let a = next_register.ensures.0 in
    let b = add_constant.ensures in
    let d = put-bx.ensures in
    let given = c.requires.0 in
    let is = literal_is given.lawful given.known c.requires.1 c.requires.2 in
    let value = literal_of.ensures.constant.0 ∙ ap (λ p. constant_at tag_of.result (words p)) payload_of.ensures ∙ ap (λ k. constant_at k (file_words (fields c.args.tree.now) c.args.node)) tag_of.ensures in
    gives (uses 8 0 0) (one a ▹ one b ▹ one d) (omega arith) (omega arith) (omega arith) (λ z. omega arith) (omega arith)
    (λ ps. rw (is, ← value) (literal_chain _ _ _ _ (a.runs ps) _ (known _ _ _ ps) _ (b.runs ps) _ (known _ _ _ ps) _ (d.runs ps)))
    (small_put d next_register.ensures.1)
