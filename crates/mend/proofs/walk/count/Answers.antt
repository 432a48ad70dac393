-- The invariant is `Counting`: what is left to count is what was.
use mathlib.Core.Path.{sym, ap, ◌∙◌, subst}
use mathlib.Core.List.{List}
use Prim.Native.Nat.{ℕ}
use native.Mathlib.Omega.{arith}
use lib.ListN.{length}
use Rattle.meaning.proofs.Images.Fielded.{bytes_by}
use Rattle.fields.specs.declared.Fields.{Fields}
use Rattle.mend.specs.declared.walk.Course.{Course}
use Rattle.mend.specs.Course.{met_field, course}
use Rattle.mend.proofs.Courses.{entries_are}
use Rattle.mend.proofs.Seen.{hits_few, hits_one}
use Rattle.mend.proofs.Coursing.{Counting, is_front, begun, counting_start, counting_more, counting_end}
use Rattle.mend.proofs.walk.count.Goals as goal

pub loop-field-init : goal.loop-field-init
loop-field-init c = let s = c.args.image.now in
    subst (λ (x : Course). Counting s c.args.tag c.into_iter-field-iterator.result.rest.now x 0) (begun _ c.default-course.ensures)
    (subst (λ (t : List ℕ). Counting s c.args.tag t (course 0 0 0) 0) (sym (ap (λ (w : Fields). w.rest.now) c.into_iter-field-iterator.ensures.into_iter_gives ∙ c.new-field-items.ensures))
    (counting_start _ _ (bytes_by s (λ i. omega (arith, c.type_inv.image i)))))

pub loop-field-preserved : goal.loop-field-preserved
loop-field-preserved c = let s = c.in-Some.ensures.steps in
    let f = met_field c.in-Some.field in
    counting_more _ _ _ _ _ c.loop-field.invariant s.0 f (is_front c.loop-field.field-iterator.rest.now c.in-Some.field s.1) _ (c.from-entries.ensures ∙ hits_one f c.args.tag c.loop-field.course c.is_hit.result c.is_hit.ensures) _ c.after-course.ensures _ s.2

pub returns : goal.returns
returns c = counting_end _ _ _ _ _ c.loop-field.invariant c.in-None.ensures.steps.0
    ∙ ap length (entries_are c.args.tag c.args.image.now (bytes_by c.args.image.now (λ i. omega (arith, c.type_inv.image i))) c.requires)

pub overflow_add-entries : goal.overflow_add-entries
overflow_add-entries c = omega (
  arith,
  c.from-entries.ensures ∙ hits_one (met_field c.in-Some.field) c.args.tag c.loop-field.course c.is_hit.result c.is_hit.ensures,
  hits_few c.args.tag c.loop-field.course (met_field c.in-Some.field),
  c.loop-field.invariant.few,
  c.well_formed,
)
