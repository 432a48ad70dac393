-- What is left of the file tells the same tag.
use mathlib.Core.Path.{refl, sym, ap, ◌∙◌}
use mathlib.Core.Logic.{inl, inr}
use Rattle.meaning.specs.Reader.{image_tag}
use Rattle.fields.proofs.Walks.{left_behind}
use Rattle.reader.proofs.Widths.{tells_wide, tells_short, tells_none, tells_end}
use Rattle.reader.proofs.width.image_tag.Goals as goal

pub returns-then-field-eq71 : goal.returns-then-field-eq71
returns-then-field-eq71 c = let s = c.in-Some.ensures.steps in
    (sym (c.loop-field.invariant ∙ tells_wide _ s.0 (sym s.1.0 ∙ c.if-field-eq71.true)), inr refl)

pub returns-then-field-eq67 : goal.returns-then-field-eq67
returns-then-field-eq67 c = let s = c.in-Some.ensures.steps in
    (sym (c.loop-field.invariant ∙ tells_short _ s.0 (λ e. c.if-field-eq71.false (s.1.0 ∙ e)) (sym s.1.0 ∙ c.if-field-eq67.true)), inl refl)

pub loop-field-preserved : goal.loop-field-preserved
loop-field-preserved c = let s = c.in-Some.ensures.steps in
    c.loop-field.invariant ∙ tells_none _ s.0 (λ e. c.if-field-eq71.false (s.1.0 ∙ e)) (λ e. c.if-field-eq67.false (s.1.0 ∙ e)) _ refl ∙ ap image_tag (left_behind c.loop-field.field-iterator.rest.now s.2)

pub returns : goal.returns
returns c = (sym (c.loop-field.invariant ∙ tells_end _ c.in-None.ensures.steps.0), inl refl)
