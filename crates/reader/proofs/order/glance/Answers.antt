use mathlib.Core.Path.{refl, sym, ◌∙◌}
use native.Mathlib.Omega.{arith}
use Rattle.meaning.proofs.FieldLaws.{whole_true}
use Rattle.reader.proofs.Glances.{front_size, front_at, front_word}
use Rattle.reader.proofs.order.glance.Goals as goal

pub returns-in-10 : goal.returns-in-10
returns-in-10 c = let n = front_size _ c.requires in
    let e = c.word.ensures.0 in
    record {
      tag = refl;
      size = e ∙ sym n;
      first = λ q. absurd (omega (arith, c.in-10.is, e, n));
      captures = λ q. c.word-in-10.ensures.0 ∙ sym (front_word _ c.requires 6 (omega (arith, c.in-10.is, e)));
      code = λ q. c.word-in-10-2.ensures.0 ∙ sym (front_word _ c.requires 8 (omega (arith, c.in-10.is, e)));
    }

pub returns-in-2 : goal.returns-in-2
returns-in-2 c = let n = front_size _ c.requires in
    let e = c.word.ensures.0 in
    record {
      tag = refl;
      size = e ∙ sym n;
      first = λ q. c.from.ensures ∙ sym (front_at _ c.requires 0 (omega (arith, c.in-2.is, e)));
      captures = λ q. absurd (omega (arith, c.in-2.is, e, n));
      code = λ q. absurd (omega (arith, c.in-2.is, e, n));
    }

pub returns-in_default : goal.returns-in_default
returns-in_default c = let n = front_size _ c.requires in
    let e = c.word.ensures.0 in
    record {
      tag = refl;
      size = e ∙ sym n;
      first = λ q. absurd (omega (arith, e, n));
      captures = λ q. absurd (omega (arith, e, n));
      code = λ q. absurd (omega (arith, e, n));
    }

pub bounds-t-0 : goal.bounds-t-0
bounds-t-0 c = omega (arith, whole_true _ c.requires)

pub word-requires : goal.word-requires
word-requires c = omega (arith, whole_true _ c.requires)

pub word-requires-in-10 : goal.word-requires-in-10
word-requires-in-10 c = omega (arith, whole_true _ c.requires, c.word.ensures.0, c.in-10.is)

pub word-requires-in-10-2 : goal.word-requires-in-10-2
word-requires-in-10-2 c = omega (arith, whole_true _ c.requires, c.word.ensures.0, c.in-10.is)

pub bounds-t-3 : goal.bounds-t-3
bounds-t-3 c = omega (arith, whole_true _ c.requires, c.word.ensures.0, c.in-2.is)
