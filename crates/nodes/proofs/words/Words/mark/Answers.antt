-- `nodes::words::Words::mark` meets its contract: one word, of which 65,535 is none, or two.
use mathlib.Core.Path.{◌≡◌, refl}
use mathlib.Core.Bool.{not}
use mathlib.Core.List.{List}
use Prim.Native.Nat.{ℕ, ◌+◌, ◌*◌, ◌<◌}
use native.Mathlib.Omega.{arith}
use lib.ListN.{length}
use lib.Dec.{eqb}
use borrow.Author.Tests.{eq-eqb, ne_eqb}
use Rattle.meaning.specs.Fields.{words}
use Rattle.meaning.specs.Grammar.{short_mark}
use Rattle.meaning.specs.Read.{at}
use Rattle.meaning.specs.At.{mark_at}
use Rattle.nodes.proofs.Bytes.{word_inside}
use Rattle.nodes.proofs.words.Words.mark.Goals as goal

-- by the width
narrow : (wide k v : ℕ) (vs : List ℕ) → wide ≡ 0 → v ≡ short_mark (at vs k) → v ≡ mark_at (not (eqb wide 0)) vs k
narrow wide k v vs e h = rw (eq-eqb wide 0 e) h

long : (wide k v : ℕ) (vs : List ℕ) → (wide ≡ 0 → ⊥) → v ≡ at vs k * 65536 + at vs (k + 1) → v ≡ mark_at (not (eqb wide 0)) vs k
long wide k v vs e h = rw (ne_eqb wide 0 e) h

none : (v u : ℕ) → v ≡ 65535 → v ≡ u → 4294967295 ≡ short_mark u
none v u e q = rw (eq-eqb u 65535 (omega arith)) refl

some : (v u : ℕ) → (v ≡ 65535 → ⊥) → v ≡ u → v ≡ short_mark u
some v u e q = rw (ne_eqb u 65535 (λ z. e (omega arith))) q

pub returns-then-first-eq65535 : goal.returns-then-first-eq65535
returns-then-first-eq65535 c = let a = c.args in
    narrow a.self.now.wide a.k _ (words a.self.now.payload.now) c.if-self-eq0.true (none _ _ c.if-first-eq65535.true c.word-first.ensures.0)

pub returns-then-self-eq0 : goal.returns-then-self-eq0
returns-then-self-eq0 c = let a = c.args in
    narrow a.self.now.wide a.k _ (words a.self.now.payload.now) c.if-self-eq0.true (some _ _ c.if-first-eq65535.false c.word-first.ensures.0)

pub overflow_add-k : goal.overflow_add-k
overflow_add-k c = let k : c.args.k < length (words c.args.self.now.payload.now) = omega (arith, c.requires) in
    omega (arith, word_inside c.args.self.now.payload.now c.args.k k)

pub word-requires : goal.word-requires
word-requires c = omega (arith, c.requires, c.if-self-eq0.false)

pub returns : goal.returns
returns c = let a = c.args in
    long a.self.now.wide a.k _ (words a.self.now.payload.now) c.if-self-eq0.false (omega (arith, c.word-first.ensures.0, c.word.ensures.0))
