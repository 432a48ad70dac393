-- `nodes::words::pair` meets its contract: two words a pair, or three.
use mathlib.Core.Path.{◌≡◌}
use mathlib.Core.Bool.{not}
use Prim.Native.Nat.{ℕ, zero, suc, ◌+◌, ◌*◌, ◌<◌, ◌≤◌}
use native.Mathlib.Omega.{arith}
use lib.ListN.{length}
use lib.Dec.{eqb}
use Rattle.meaning.specs.Fields.{words}
use Rattle.meaning.specs.At.{pair_place}
use Rattle.nodes.proofs.Bytes.{word_inside}
use Rattle.nodes.proofs.words.pair.Goals as goal
use Rattle.nodes.proofs.words.pair.Goals.{Start}

place : (wide k : ℕ) → wide ≤ 1 → k * (2 + wide) ≡ pair_place (not (eqb wide 0)) k
place zero k l = omega arith
place (suc zero) k l = omega arith
place (suc (suc w)) k l = absurd (omega arith)

-- the word, as the code comes to it
there : (c : goal.Start) → c.args.k * (2 + c.args.wide) ≡ pair_place (not (eqb c.args.wide 0)) c.args.k
there c = place c.args.wide c.args.k c.requires.1

-- its bytes are in the payload, so its number fits
inside : (c : goal.Start) → c.args.from + c.args.k * (2 + c.args.wide) < length (words c.args.payload.now)
inside c = rw (there c) c.requires.0

pub overflow_mul-k : goal.overflow_mul-k
overflow_mul-k c = omega (arith, inside (goal.at.overflow_mul-k c).Start, word_inside c.args.payload.now _ (inside (goal.at.overflow_mul-k c).Start))

pub overflow_add-from : goal.overflow_add-from
overflow_add-from c = omega (arith, inside (goal.at.overflow_add-from c).Start, word_inside c.args.payload.now _ (inside (goal.at.overflow_add-from c).Start))

pub returns : goal.returns
returns c = let a = c.args in rw (there (goal.at.returns c).Start) at c.child.ensures

pub child-requires : goal.child-requires
child-requires c = inside (goal.at.child-requires c).Start
