-- The invariant: what is left of the file tells the same tag.
use mathlib.Core.Path.{◌≡◌}
use Rattle.meaning.specs.Reader.{image_tag}
use Rattle.reader.proofs.width.image_tag.Given as goal

abbrev pub invariant-loop-field : goal.invariant-loop-field
invariant-loop-field l = image_tag l.image ≡ image_tag l.field-iterator.rest.now
