-- The invariant is `Putting`: what is done, with what will become of the rest, is the whole copy and the whole list.
use mathlib.Core.Path.{◌≡◌, sym, ap, ◌∙◌, subst}
use mathlib.Core.Bool.{true}
use mathlib.Core.List.{List, [], ◌++◌}
use Prim.Native.Nat.{ℕ, ◌+◌, ◌*◌, ◌≤◌}
use native.Mathlib.Omega.{arith}
use lib.ListN.{length, drop}
use lib.Dec.{ltb}
use borrow.Author.Tests.{eqb-true}
use Rattle.meaning.specs.Fields.{Field, front, fields, left}
use Rattle.meaning.specs.Check.{framed}
use Rattle.meaning.specs.Mend.{Entry, list_bytes, listed_in}
use Rattle.meaning.proofs.Lists.{and_right, empty}
use Rattle.meaning.proofs.FieldLaws.{whole_true}
use Rattle.meaning.proofs.Images.Fielded.{Bytes, bytes_by}
use Rattle.reader.specs.Laid.{Ordered}
use Rattle.reader.proofs.Glances.{front_size}
use Rattle.fields.specs.declared.Fields.{Fields}
use Rattle.mend.specs.declared.walk.Course.{Course}
use Rattle.mend.specs.Course.{met_field, course, hits}
use Rattle.mend.proofs.Courses.{entries_in, entries_are, copies_are}
use Rattle.mend.proofs.Coursing.{is_front, begun}
use Rattle.mend.proofs.Putting.{Putting, list_size, putting_start, fits, room, putting_more, out_all, list_all}
use Rattle.mend.proofs.put.put_all.Goals as goal
use Rattle.mend.proofs.put.put_all.Goals.{In-Some}

-- the list has room for every entry
enough : (s : List ℕ) (tag : ℕ) → Bytes s → Ordered s tag → (n : ℕ) → 8 * length (listed_in tag s) ≤ n → length (list_bytes (entries_in tag (course 0 0 0) (fields s))) ≤ n
enough s tag b o n h = omega (arith, list_size (entries_in tag (course 0 0 0) (fields s)), ap length (entries_are tag s b o))

nothing_left : (s : List ℕ) → framed s ≡ true → left s ≡ []
unfolding framed
nothing_left s f = empty (left s) (omega (arith, eqb-true (length (left s)) 0 (and_right (ltb 0 (length (fields s))) _ f)))

-- the field that the walk hands on
abbrev f : goal.In-Some → Field
f c = met_field c.in-Some.field

at_front : (c : goal.In-Some) → f c ≡ front c.loop-field.field-iterator.rest.now
at_front c = is_front c.loop-field.field-iterator.rest.now c.in-Some.field c.in-Some.ensures.steps.1

listing : (c : goal.In-Some) → let l = c.loop-field in l.listed + length (list_bytes (hits c.args.tag l.course (f c))) ≤ length l.list
listing c = let l = c.loop-field in
    omega (arith, room _ _ _ _ _ _ _ _ _ _ l.invariant c.in-Some.ensures.steps.0, ap (λ (x : Field). length (list_bytes (hits c.args.tag l.course x))) (at_front c))

within : (c : goal.In-Some) → let l = c.loop-field in l.at + (3 + length (f c).payload) ≤ length l.out
within c = let l = c.loop-field in
    let t = l.field-iterator.rest.now in
    omega (arith, fits _ _ _ _ _ _ _ _ _ _ l.invariant, ap (λ (x : Field). length x.payload) (at_front c), front_size t c.in-Some.ensures.steps.0, whole_true t c.in-Some.ensures.steps.0)

pub loop-field-init : goal.loop-field-init
loop-field-init c = let b = bytes_by c.args.image.now (λ i. omega (arith, c.type_inv.image i)) in
    subst (λ (x : Course). Putting c.args.image.now c.args.tag c.args.out.now c.args.list.now c.into_iter-field-iterator.result.rest.now x 0 0 c.args.out.now c.args.list.now) (begun _ c.default-course.ensures)
    (subst (λ (t : List ℕ). Putting c.args.image.now c.args.tag c.args.out.now c.args.list.now t (course 0 0 0) 0 0 c.args.out.now c.args.list.now) (sym (ap (λ (w : Fields). w.rest.now) c.into_iter-field-iterator.ensures.into_iter_gives ∙ c.new-field-items.ensures))
    (putting_start _ _ _ _ b c.requires.2 (enough c.args.image.now c.args.tag b c.requires.0 _ c.requires.3)))

pub loop-field-preserved : goal.loop-field-preserved
loop-field-preserved c = let p = (goal.at.loop-field-preserved c).In-Some in
    putting_more _ _ _ _ _ _ _ _ _ _ c.loop-field.invariant c.in-Some.ensures.steps.0 (f p) (at_front p) _ _ c.put_field-listed.ensures.1 c.put_field-listed.ensures.2 _ c.put_field-listed.ensures.0 _ c.after-course.ensures _ c.in-Some.ensures.steps.2

pub returns : goal.returns
returns c = let image = c.args.image.now in
    let b = bytes_by image (λ i. omega (arith, c.type_inv.image i)) in
    let cut = c.in-None.ensures.steps.0 in (
      out_all _ _ _ _ _ _ _ _ _ _ c.loop-field.invariant cut (nothing_left image c.requires.1) ∙ ap (λ (x : List ℕ). x ++ drop (length image) c.args.out.now) (copies_are c.args.tag image b c.requires.0),
      list_all _ _ _ _ _ _ _ _ _ _ c.loop-field.invariant cut ∙ ap (λ (es : List Entry). list_bytes es ++ drop (length (list_bytes es)) c.args.list.now) (entries_are c.args.tag image b c.requires.0),
    )

pub put_field-listed-requires : goal.put_field-listed-requires
put_field-listed-requires c = let p = (goal.at.put_field-listed-requires c).In-Some in (c.loop-field.invariant.course_is.code, within p, listing p)

pub overflow_add-listed : goal.overflow_add-listed
overflow_add-listed c = omega (arith, c.put_field-listed.ensures.0, listing (goal.at.overflow_add-listed c).In-Some, c.loop-field.invariant.list_size_is, c.well_formed)

pub overflow_add-at : goal.overflow_add-at
overflow_add-at c = omega (arith, within (goal.at.overflow_add-at c).In-Some, c.loop-field.invariant.out_size, c.well_formed)

pub overflow_add-at-in-loop-field : goal.overflow_add-at-in-loop-field
overflow_add-at-in-loop-field c = omega (arith, within (goal.at.overflow_add-at-in-loop-field c).In-Some, c.loop-field.invariant.out_size, c.well_formed)

pub after-course-requires : goal.after-course-requires
after-course-requires c = let v = c.loop-field.invariant.course_is in
    let t = whole_true c.loop-field.field-iterator.rest.now c.in-Some.ensures.steps.0 in (omega (arith, v.met, t, c.well_formed), omega (arith, v.index, t, c.well_formed))

pub shape_of-out : goal.shape_of-out
shape_of-out c = c.loop-field.invariant.out_size

pub shape_of-list : goal.shape_of-list
shape_of-list c = c.loop-field.invariant.list_size_is
