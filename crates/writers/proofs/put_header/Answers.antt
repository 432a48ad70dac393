-- The field's tag and length, then five words. Assumes nothing.
use native.Mathlib.Omega.{arith}
use Rattle.writers.proofs.Splicing.{spliced_then}
use Rattle.writers.proofs.put_header.Goals as goal

pub returns : goal.returns
returns c = let b1 = spliced_then c.put_field.ensures c.put_word.ensures (omega arith) in
    let b2 = spliced_then b1 c.put_word-2.ensures (omega arith) in
    let b3 = spliced_then b2 c.put_word-3.ensures (omega arith) in
    let b4 = spliced_then b3 c.put_word-4.ensures (omega arith) in
    spliced_then b4 c.put_word-5.ensures (omega arith)
