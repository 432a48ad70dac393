-- The whole field at the front is handed on, and the rest is left.
use mathlib.Core.Path.{◌≡◌, refl, sym, ◌∙◌}
use Prim.Native.Nat.{◌+◌, ◌-◌}
use native.Mathlib.Omega.{arith}
use Rattle.meaning.specs.Fields.{span, word_at}
use Rattle.meaning.proofs.FieldLaws.{whole_true, part_less}
use Rattle.meaning.proofs.Lists.{tail_part}
use Rattle.fields.proofs.FieldsIterator.next.Goals as goal

pub span_of-span-requires : goal.span_of-span-requires
span_of-span-requires c = omega (arith, whole_true _ (sym c.is_whole.ensures ∙ c.if-not-is_whole.false))

pub bounds-self-0 : goal.bounds-self-0
bounds-self-0 c = omega (arith, whole_true _ (sym c.is_whole.ensures ∙ c.if-not-is_whole.false))

pub slice_bounds-field-end : goal.slice_bounds-field-end
slice_bounds-field-end c = omega (arith, c.span_of-span.ensures, whole_true _ (sym c.is_whole.ensures ∙ c.if-not-is_whole.false))

pub slice_bounds-self-count : goal.slice_bounds-self-count
slice_bounds-self-count c = omega (arith, c.span_of-span.ensures, whole_true _ (sym c.is_whole.ensures ∙ c.if-not-is_whole.false))

pub slice_bounds-self-start : goal.slice_bounds-self-start
slice_bounds-self-start c = omega (arith, c.span_of-span.ensures, whole_true _ (sym c.is_whole.ensures ∙ c.if-not-is_whole.false))

pub returns-clause-steps : goal.returns-clause-steps
returns-clause-steps c = let n : 3 + word_at c.args.self.now.rest.now 1 - 3 ≡ word_at c.args.self.now.rest.now 1 = omega arith in
    rw c.span_of-span.ensures (sym c.is_whole.ensures ∙ c.if-not-is_whole.false, (refl, rw n refl), tail_part (span c.args.self.now.rest.now) c.args.self.now.rest.now)

pub returns-clause-goes : goal.returns-clause-goes
returns-clause-goes c = record {
  on = λ f. (tt, tt, part_less _ _ (sym c.is_whole.ensures ∙ c.if-not-is_whole.false) c.span_of-span.ensures);
  keeps = tt;
  rests = λ f. tt;
}
