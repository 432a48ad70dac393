-- Through the lens E1's reading is that of the mended copy, at the image's own width.
use mathlib.Core.Path.{ap, ◌∙◌}
use Prim.Native.Nat.{ℕ}
use native.Mathlib.Omega.{arith}
use lib.ListN.{length}
use Rattle.meaning.specs.Fields.{fields}
use Rattle.meaning.specs.Reader.{read_outcome}
use Rattle.meaning.specs.Mend.{read_mended}
use Rattle.meaning.proofs.Images.Fielded.{bytes_by}
use Rattle.reader.proofs.Lenses.{read_through}
use Rattle.reader.proofs.read_mended.Goals as goal

pub returns : goal.returns
returns c = let s = c.args.image.now in
    c.read_as.ensures
    ∙ ap (read_outcome (length (fields s))) (read_through _ s c.image_tag.ensures.1 (bytes_by s (λ j. omega (arith, c.type_inv.image j))))
    ∙ ap (λ (tag : ℕ). read_outcome (length (fields s)) (read_mended tag s)) c.image_tag.ensures.0
