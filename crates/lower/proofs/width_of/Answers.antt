-- The last node's tag, which is what `wide_marks` asks.
use mathlib.Core.Path.{◌≡◌, refl, ◌∙◌}
use mathlib.Core.Bool.{Bool, true, false}
use Prim.Native.Nat.{ℕ, ◌-◌}
use mathlib.Core.List.{List}
use lib.ListN.{length}
use lib.Dec.{eqb}
use Rattle.std.specs.Int.{from_bool}
use Rattle.meaning.specs.Fields.{Field, fields}
use Rattle.meaning.specs.Grammar.{wide_marks}
use Rattle.meaning.specs.At.{extra, tag_of}
use Rattle.lower.proofs.width_of.Goals as goal

counted : (b : Bool) → from_bool b ≡ extra b
counted true = refl
counted false = refl

wide : (fs : List Field) (n tag : ℕ) → n ≡ length fs → tag ≡ tag_of fs (n - 1) → from_bool (eqb tag 0x3E) ≡ extra (wide_marks fs)
unfolding wide_marks
wide fs n tag e h = rw (h, e) (counted _)

pub returns : goal.returns
returns c = let a = c.args in
    c.from.ensures ∙ wide (fields a.tree.now) a.n c.tag_of.result c.requires.1 c.tag_of.ensures
