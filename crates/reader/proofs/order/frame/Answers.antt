-- The invariant is a walk over the fields.
use mathlib.Core.Path.{sym, ap, ◌∙◌, subst}
use Prim.Native.Nat.{◌+◌}
use native.Mathlib.Omega.{arith}
use lib.ListN.{length, length-drop}
use Rattle.fields.specs.declared.Fields.{Fields}
use Rattle.meaning.specs.Fields.{span}
use Rattle.meaning.proofs.FieldLaws.{FieldWalk, walk_start, walk_more, walk_end, whole_true}
use Rattle.reader.proofs.Glances.{front_size}
use Rattle.reader.proofs.order.frame.Goals as goal

pub loop-field-init : goal.loop-field-init
loop-field-init c = let e = ap (λ (s : Fields). s.rest.now) c.into_iter-field-iterator.ensures.into_iter_gives ∙ c.new-field-items.ensures in
    (subst (FieldWalk c.args.image.now 0) (sym e) (walk_start _), ap length (sym e))

pub loop-field-preserved : goal.loop-field-preserved
loop-field-preserved c = let s = c.in-Some.ensures.steps in
    let t = c.loop-field.field-iterator.rest.now in (
      subst (FieldWalk c.args.image.now (c.loop-field.count + 1)) (sym s.2) (walk_more _ _ _ c.loop-field.invariant.0 s.0),
      omega (arith, c.loop-field.invariant.1, ap length s.2, length-drop (span t) t, ap length s.1.1, front_size t s.0),
    )

pub returns : goal.returns
returns c = let e = walk_end _ _ _ c.loop-field.invariant.0 c.in-None.ensures.steps.0 in (e.0, c.loop-field.invariant.1 ∙ e.1)

pub overflow_sub-after : goal.overflow_sub-after
overflow_sub-after c = let s = c.in-Some.ensures.steps in
    let t = c.loop-field.field-iterator.rest.now in
    omega (arith, c.loop-field.invariant.1, whole_true t s.0, ap length s.1.1, front_size t s.0)
