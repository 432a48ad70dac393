-- What is broken is what is ruled.
use Prim.Native.Nat.{ℕ}
use native.Mathlib.Omega.{arith}
use lib.ListN.{length-replicate}
use Rattle.meaning.specs.Fields.{fields}
use Rattle.meaning.specs.Images.{image_of}
use Rattle.reader.specs.Lens.{lens_image}
use Rattle.reader.proofs.Answered.{facts_are}
use Rattle.reader.proofs.judge.Goals as goal

pub returns : goal.returns
returns g c = let im = lens_image c.args.mend (image_of c.args.tag (fields c.args.image.now)) in facts_are _ im c.first_broken.result _ (c.ruled.ensures im) c.first_broken.ensures

pub first_broken-requires : goal.first_broken-requires
first_broken-requires g c = let p = c.requires in record {
  ordered = (p.ordered.0, λ n h k. omega (arith, p.ordered.1 n h k, length-replicate {A = ℕ} g.row.N 0));
  table = p.table;
}

pub whole_as_slice-first_broken : goal.whole_as_slice-first_broken
whole_as_slice-first_broken g c = omega (arith, c.requires.few)
