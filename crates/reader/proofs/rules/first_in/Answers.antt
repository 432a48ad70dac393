-- The lowest instruction that the code's test refuses is the lowest that is not lawful, since the tables are right, and the marks where they are asked for.
use mathlib.Core.Path.{◌≡◌, refl, sym, ap, ◌∙◌}
use mathlib.Core.Bool.{Bool}
use mathlib.Core.List.{List}
use Prim.Native.Nat.{ℕ, ◌+◌, ◌*◌, ◌≤◌}
use native.Mathlib.Omega.{arith}
use lib.ListN.{length, take, length-take}
use Rattle.meaning.specs.Base.{lowest}
use Rattle.meaning.specs.Fields.{word_at}
use Rattle.meaning.specs.Images.{inst_size}
use Rattle.meaning.specs.Steps.{inst_at}
use Rattle.meaning.proofs.Lists.{lowest_same}
use Rattle.reader.specs.Laid.{code_in, proto_span}
use Rattle.reader.specs.Lens.{lens_code}
use Rattle.reader.specs.Marks.{Entered}
use Rattle.reader.specs.Spots.{below}
use Rattle.reader.specs.Tests.{Bounds, seen_test}
use Rattle.reader.proofs.Tables.{front_lawful}
use Rattle.reader.proofs.rules.first_in.Goals as goal
use Rattle.reader.proofs.rules.first_in.Goals.{After-word, After-first_unlawful, then-v-eq0, else-v-eq0}

-- the same places, named by the bytes
moved : (mend : Bool) (t m m' : List ℕ) (tag z n n' c c' : ℕ) → n ≡ n' → c ≡ c' → m' ≡ m → Entered (lens_code mend (code_in t tag z (13 + c * 5) n)) n m → Entered (lens_code mend (code_in t tag z (13 + c' * 5) n')) n' m'
moved mend t m m' tag z n n' c c' p q w h = rw (w, sym p, sym q) h

answer : (mend : Bool) (v : Bounds) (l o x m t : List ℕ) (tag z n n' c c' : ℕ) → n ≡ n' → c ≡ c'
    → below n (lowest (λ (i : ℕ). seen_test v l o x m n i (inst_at (lens_code mend (code_in t tag z (13 + c * 5) n)) i)) n)
    ≡ below n' (lowest (λ (i : ℕ). seen_test v l o x m n' i (inst_at (lens_code mend (code_in t tag z (13 + c' * 5) n')) i)) n')
answer mend v l o x m t tag z n n' c c' p q = rw (p, q) refl

-- a mark for each instruction
many : (c : goal.After-word) → length (take c.word.result c.args.marks.now) ≡ word_at c.args.t.now 11
many c = simp length-take (omega (arith, c.word.ensures.0, c.requires.1))

-- an instruction's places lie within
room : (t : List ℕ) (tag captures n len : ℕ) → captures ≡ word_at t 9 → n ≡ word_at t 11 → proto_span t tag ≤ len → 13 + captures * 5 + n * (3 + inst_size tag) ≤ len
room t tag captures n len p q h = rw (p, q) h

-- the marks are right where they are asked for
marked : (c : goal.After-first_unlawful) → let x = c.args in
    word_at x.t.now 7 ≡ 0 → Entered (lens_code x.mend (code_in x.t.now x.tag (3 + inst_size x.tag) (13 + word_at x.t.now 9 * 5) (word_at x.t.now 11))) (word_at x.t.now 11) c.if-v-eq0.marks
marked c z = let x = c.args in
    let p = c.requires in
    elim c.if-v-eq0.branch [
      | then-v-eq0 w ↦ moved x.mend x.t.now _ _ x.tag _ _ _ _ _ (many (goal.at.After-first_unlawful c).After-word) p.3 w.marks-is w.mark_entered.ensures
      | else-v-eq0 w ↦ absurd (w.if-v-eq0.false (p.2 ∙ z))
    ]

pub returns : goal.returns
returns c = λ ks ps right protos constants. let x = c.args in
    let p = c.requires in
    c.first_unlawful.ensures
    ∙ answer x.mend _ _ _ _ _ x.t.now x.tag _ _ _ _ _ (c.if-v-eq0.auto.marks ∙ many (goal.at.returns c).After-word) p.3
    ∙ ap (below (word_at x.t.now 11)) (lowest_same _ _ _ (front_lawful ks ps _ _ _ _ right _ protos constants x.t.now x.tag x.mend (λ i. omega (arith, c.type_inv.t i)) p.2 p.3 (marked (goal.at.returns c).After-first_unlawful)))

pub mark_entered-requires : goal.mark_entered-requires
mark_entered-requires c = let x = c.args in
    let n = many (goal.at.mark_entered-requires c).After-word in
    (omega (arith, n, c.word.ensures), room x.t.now x.tag _ _ _ c.requires.3 n c.requires.0)

pub first_unlawful-requires : goal.first_unlawful-requires
first_unlawful-requires c = let x = c.args in
    let n = c.if-v-eq0.auto.marks ∙ many (goal.at.first_unlawful-requires c).After-word in
    (omega (arith, n, c.word.ensures), room x.t.now x.tag _ _ _ c.requires.3 n c.requires.0)
