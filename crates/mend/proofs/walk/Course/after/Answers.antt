-- By the field's tag (Seen).
use mathlib.Core.Bool.{true, false}
use borrow.Author.Tests.{eq-eqb, ne_eqb}
use Rattle.mend.specs.Course.{met_field}
use Rattle.mend.proofs.Seen.{after_header, after_other}
use Rattle.mend.proofs.walk.Course.after.Goals as goal

pub returns-then-field : goal.returns-then-field
returns-then-field c = after_header (met_field c.args.field) c.args.tag c.args.self c.if-field.true _ c.word.ensures.0

pub returns-then-field-tag : goal.returns-then-field-tag
returns-then-field-tag c = after_other (met_field c.args.field) c.args.tag c.args.self c.if-field.false true (eq-eqb _ _ c.if-field-tag.true)

pub returns : goal.returns
returns c = after_other (met_field c.args.field) c.args.tag c.args.self c.if-field.false false (ne_eqb _ _ c.if-field-tag.false)
