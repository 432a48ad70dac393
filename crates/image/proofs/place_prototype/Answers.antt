-- `image::place_prototype` meets its contract: it is written if it ends within the output. Assumes nothing.
use mathlib.Core.Path.{refl}
use native.Mathlib.Omega.{arith}
use Rattle.store.specs.Store.{top_of}
use Rattle.writers.proofs.Splicing.{spliced_length}
use Rattle.image.proofs.Bytes.{proto_ends}
use Rattle.image.proofs.place_prototype.Goals as goal

pub returns-then-end-out : goal.returns-then-end-out
returns-then-end-out c = let span = c.span-size in
    let put-prototype = c.put_prototype in
    let test = c.if-end-out in
    let a = c.args in
    record {
      ends = proto_ends a.tag a.work.now (top_of a.scope) a.j a.first a.count a.params a.at span.result span.ensures.0;
      same = spliced_length put-prototype.ensures;
      fits = λ h. put-prototype.ensures;
      beyond = λ h. absurd (omega (arith, h, test.true));
    }

pub returns-else-end-out : goal.returns-else-end-out
returns-else-end-out c = let span = c.span-size in
    let a = c.args in
    record {
      ends = proto_ends a.tag a.work.now (top_of a.scope) a.j a.first a.count a.params a.at span.result span.ensures.0;
      same = refl;
      fits = λ h. absurd (omega (arith, h, c.if-end-out.false));
      beyond = λ h. refl;
    }
