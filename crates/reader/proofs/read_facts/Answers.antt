-- The tables are those that `judge` asks for: an instruction takes nine bytes at least, so a short image has few.
use mathlib.Core.Path.{◌≡◌}
use Prim.Native.Nat.{ℕ}
use native.Mathlib.Omega.{arith}
use lib.ListN.{length, take, length-take, length-replicate}
use Rattle.meaning.specs.Fields.{fields}
use Rattle.meaning.specs.Image.{flag}
use Rattle.meaning.specs.Images.{parts}
use Rattle.meaning.specs.Rules.{is_text}
use Rattle.reader.specs.Right.{Table}
use Rattle.reader.proofs.Tables.{table_front}
use Rattle.reader.proofs.read_facts.Goals as goal
use Rattle.reader.proofs.read_facts.Goals.{After-texts_of-constants}

-- which constants are texts
named : (c : goal.After-texts_of-constants) → let ks = (parts c.args.tag (fields c.args.image.now)).constants in
    let texts = take c.texts_of-constants.result c.texts_of-constants.new.texts in
    Table (λ k. flag (is_text k)) texts ks × (length texts ≡ length ks)
named c = let e = c.texts_of-constants.ensures in (
  table_front (λ k. flag (is_text k)) _ _ _ (omega (arith, e.1)) e.0,
  simp length-take (omega (arith, e.1, e.2, c.texts_of-constants.auto.texts, length-replicate {A = ℕ} 1024 0)),
)

pub judge-requires : goal.judge-requires
judge-requires c = record {
  few = omega arith;
  ordered = (c.requires, λ n h k. omega (arith, h, k, c.if-image-le36864.true));
  table = named (goal.at.judge-requires c).After-texts_of-constants;
}

pub judge-requires-2 : goal.judge-requires-2
judge-requires-2 c = record {
  few = omega arith;
  ordered = (c.requires, λ n h k. omega (arith, h));
  table = named (goal.at.judge-requires-2 c).After-texts_of-constants;
}
