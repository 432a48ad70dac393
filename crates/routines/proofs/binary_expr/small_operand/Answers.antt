-- A number's literal, by its test; no other node is a number.
use mathlib.Core.Path.{sym, ap, ◌∙◌}
use native.Mathlib.Omega.{arith}
use Rattle.meaning.specs.Fields.{fields, words}
use Rattle.meaning.specs.Syntax.{small_operand}
use Rattle.meaning.specs.Read.{bits}
use Rattle.meaning.proofs.Reading.{number_node}
use Rattle.meaning.specs.Constant.{small as small-test}
use Rattle.values.specs.Literals.{small_as, small_constant}
use Rattle.routines.proofs.Held.{inside, literal_words, plain_operand}
use Rattle.routines.proofs.binary_expr.small_operand.Goals as goal

pub returns-then-tag_of-ne1 : goal.returns-then-tag_of-ne1
returns-then-tag_of-ne1 c = sym (ap small_as (plain_operand (fields c.args.tree.now) c.args.node (λ e. c.if-tag_of-ne1.true (c.tag_of.ensures ∙ e))))

pub returns : goal.returns
unfolding small_operand
returns c = let tag = sym c.tag_of.ensures ∙ c.if-tag_of-ne1.false in
    let held = number_node (fields c.args.tree.now) c.requires.0.shapes c.args.node (inside c.requires.0 c.requires.1) tag in
    let n = c.bits_at.ensures ∙ ap (λ p. bits (words p)) c.payload_of-payload.ensures ∙ ap bits (sym (literal_words c.requires.0 c.requires.1 (omega arith) (omega arith))) in
    rw held.is (c.small.ensures ∙ ap small_constant c.number_of.ensures.constant.0 ∙ ap (λ b. small_as (small-test b)) n)
