-- The invariant is `Naming`: the table says which of the constants before what is left are texts.
use lib.ListN.{length}
use Rattle.meaning.specs.Fields.{fields}
use Rattle.meaning.specs.Images.{parts}
use Rattle.reader.proofs.Naming.{Naming}
use Rattle.reader.proofs.texts.texts_of.Given as goal

abbrev pub invariant-loop-field : goal.invariant-loop-field
invariant-loop-field l = let im = parts l.tag (fields l.image) in Naming im.constants l.tag (length im.prototypes) l.field-iterator.rest.now l.count l.texts
