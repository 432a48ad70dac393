use mathlib.Core.Path.{refl, sym, ap, ◌∙◌}
use mathlib.Core.List.{map}
use Prim.Native.Nat.{ℕ}
use native.Mathlib.Omega.{arith}
use lib.ListN.{get_or}
use Rattle.std.proofs.Math.ListN.{get_or-map}
use Rattle.meaning.proofs.Lists.{all_to}
use Rattle.reader.specs.declared.facts.TheConstants.{KINDS}
use Rattle.reader.specs.declared.facts.Kind.TheVariants.{A}
use Rattle.reader.specs.Around.{number}
use Rattle.reader.specs.Tests.{kind_seen}
use Rattle.reader.proofs.Quick.{kind_beyond, table_right}
use Rattle.reader.proofs.facts.kind_of.Goals as goal

pub returns-then-o-lt51 : goal.returns-then-o-lt51
unfolding all_to kind_seen
returns-then-o-lt51 c = ap (λ (k : ℕ). number (get_or KINDS k A)) c.from.ensures ∙ sym (get_or-map number KINDS c.args.o A) ∙ (table_right (map number KINDS) refl).each c.args.o c.if-o-lt51.true

pub returns : goal.returns
returns c = sym (kind_beyond c.args.o (omega (arith, c.well_formed)) c.if-o-lt51.false)
