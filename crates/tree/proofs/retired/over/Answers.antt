-- The invariant is `Sought`: no field that was passed is a class.
use mathlib.Core.Path.{◌≡◌, refl, sym, ap, subst, ◌∙◌}
use mathlib.Core.Bool.{true, false}
use mathlib.Core.List.{List}
use Prim.Native.Nat.{ℕ, ◌+◌}
use native.Mathlib.Omega.{arith}
use Rattle.meaning.specs.Fields.{span, rest}
use Rattle.meaning.proofs.FieldLaws.{from, whole_true}
use Rattle.fields.specs.declared.Fields.{Fields}
use Rattle.fields.proofs.Walks.{left_behind}
use Rattle.tree.specs.Retired.{early}
use Rattle.tree.proofs.Over.{Sought, number_early, over_early, sought_start, sought_more, sought_found, sought_none}
use Rattle.tree.proofs.retired.over.Goals as goal

pub returns-then-number : goal.returns-then-number
returns-then-number c = over_early _ _ (number_early _ _ true c.answer_of-number.ensures c.if-number.true)

pub returns-then-field-eq29 : goal.returns-then-field-eq29
returns-then-field-eq29 c = let s = c.in-Some.ensures.steps in
    sought_found _ _ _ c.loop-field.invariant s.0 _ (number_early _ _ false c.answer_of-number.ensures c.if-number.false) (sym s.1.0 ∙ c.if-field-eq29.true)

pub loop-field-preserved : goal.loop-field-preserved
loop-field-preserved c = let s = c.in-Some.ensures.steps in
    subst (λ (t : List ℕ). Sought c.args.tree.now t (c.loop-field.i + 1)) (left_behind c.loop-field.field-iterator.rest.now s.2)
    (sought_more _ _ _ c.loop-field.invariant s.0 (λ e. c.if-field-eq29.false (s.1.0 ∙ e)) _ refl)

pub returns : goal.returns
returns c = sought_none _ _ _ c.loop-field.invariant c.in-None.ensures.steps.0 _ (number_early _ _ false c.answer_of-number.ensures c.if-number.false)

pub loop-field-init : goal.loop-field-init
loop-field-init c = subst (λ (t : List ℕ). Sought c.args.tree.now t 0) (sym (ap (λ (w : Fields). w.rest.now) c.into_iter-field-iterator.ensures.into_iter_gives ∙ c.new-field-items.ensures)) (sought_start _)

pub overflow_add-i : goal.overflow_add-i
overflow_add-i c = omega (arith, whole_true _ c.in-Some.ensures.steps.0, c.loop-field.invariant.walk.room, c.well_formed.0.0)
