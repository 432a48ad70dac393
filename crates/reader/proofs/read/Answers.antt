-- E1's is the lens that changes nothing, at the image's own width.
use mathlib.Core.Path.{ap, ◌∙◌}
use Prim.Native.Nat.{ℕ}
use lib.ListN.{length}
use Rattle.meaning.specs.Fields.{fields}
use Rattle.meaning.specs.Reader.{read_outcome}
use Rattle.reader.proofs.Answered.{outcome_of}
use Rattle.reader.proofs.Lenses.{read_plain}
use Rattle.reader.proofs.read.Goals as goal

pub returns : goal.returns
returns c = let s = c.args.image.now in
    c.read_as.ensures ∙ ap (read_outcome (length (fields s))) (read_plain _ s) ∙ ap (λ (tag : ℕ). outcome_of tag s) c.image_tag.ensures.0
