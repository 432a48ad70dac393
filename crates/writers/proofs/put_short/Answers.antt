-- The header, then the word.
use native.Mathlib.Omega.{arith}
use Rattle.writers.proofs.Splicing.{spliced_then}
use Rattle.writers.proofs.put_short.Goals as goal

pub returns : goal.returns
returns c = let put-field = c.put_field in
    let put_word = c.put_word in
    spliced_then put-field.ensures put_word.ensures (omega arith)
