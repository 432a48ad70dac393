-- The invariant is `Ruling`: what is left to judge is what was. The measure is what is left.
use mathlib.Core.Path.{◌≡◌, refl, sym, ap, ◌∙◌}
use Prim.Native.Nat.{ℕ, ◌+◌, ◌*◌, ◌<◌, ◌≤◌}
use native.Mathlib.Omega.{arith}
use mathlib.Core.Bool.{Bool, true, false, cond}
use mathlib.Core.List.{List}
use lib.ListN.{length, get_or, take, length-take, length-drop}
use lib.Dec.{eqb}
use Rattle.meaning.specs.Base.{lowest}
use Rattle.meaning.specs.Fields.{word_at, whole, fields}
use Rattle.meaning.specs.Images.{parts}
use Rattle.meaning.specs.Rules.{lawful}
use Rattle.meaning.specs.Steps.{inst_at}
use Rattle.meaning.proofs.FieldLaws.{from}
use Rattle.meaning.proofs.Lists.{tail_part}
use Rattle.reader.specs.Tests.{local_need, outer_need}
use Rattle.reader.specs.Laid.{captures_in, proto_in, proto_span}
use Rattle.reader.specs.Lens.{lens_proto}
use Rattle.reader.specs.Spots.{spot_of, below}
use Rattle.meaning.proofs.Images.Fielded.{bytes_by}
use Rattle.reader.proofs.Belows.{below_is, below_not}
use Rattle.reader.proofs.Blocks.{Headed}
use Rattle.reader.proofs.Ruling.{seen, ruling_start, right, right_front, needs_set, many, front, ruling_fails, ruling_more, ruling_end}
use Rattle.reader.proofs.rules.first_broken.Goals as goal
use Rattle.reader.proofs.rules.first_broken.Goals.{In-loop-t, After-first_in}

-- in a turn a header stands at the front
header : (c : goal.In-loop-t) → let t = c.loop-t.t.now in (whole t ≡ true) × (get_or t 0 0 ≡ 0x41)
header c = c.heads.ensures.0 c.loop-t-test.true

top : (c : goal.In-loop-t) → Headed c.args.tag c.requires.ordered.0.width c.loop-t.t.now c.loop-t.k
top c = front _ _ _ c.requires.ordered.0.width _ _ _ _ _ c.loop-t.invariant.1 (header c).0 (header c).1

-- an instruction takes nine bytes at least
nine : (t : List ℕ) (tag len : ℕ) → proto_span t tag ≤ length t → length t ≤ len → 9 * word_at t 11 ≤ len
nine t tag len h k = omega (arith, h, k, wide_enough (word_at t 11) (eqb tag 0x47))
  where
    wide_enough : (n : ℕ) (b : Bool) → 9 * n ≤ n * (3 + cond b 8 6)
    wide_enough n true = omega arith
    wide_enough n false = omega arith

-- what is left gets less
less : (t : List ℕ) (n : ℕ) → 13 ≤ n → n ≤ length t → length (from n t) < length t
less t n h k = rw (tail_part n t) (simp length-drop (omega arith))

-- the facts of the prototype at the front
abbrev test : (c : goal.In-loop-t) → ℕ → Bool
test c j = let x = c.args in
    let s = x.image.now in
    let p = lens_proto x.mend (proto_in c.loop-t.t.now x.tag) in
    lawful (parts x.tag (fields s)).constants (take c.loop-t.k (seen x.mend x.tag s)) p j (inst_at p.code j)

-- the lowest that fails is told
told : (c : goal.After-first_in) → let n = word_at c.loop-t.t.now 11 in spot_of c.first_in.result ≡ below n (lowest (test (goal.at.After-first_in c).In-loop-t) n)
told c = let o = c.loop-t.invariant.1 in
    let w = c.requires.ordered.0.width in
    let k = many _ _ _ w _ _ _ _ _ o in
    let few = (top (goal.at.After-first_in c).In-loop-t).few in
    let entries : length (take c.loop-t.k c.loop-t.needs) ≡ c.loop-t.k = simp length-take (omega (arith, c.word-n.array_long, few)) in
    c.first_in.ensures _ _ (right_front _ _ _ _ _ (omega (arith, k)) (right _ _ _ w _ _ _ _ _ o _ c.requires.table.0)) (entries ∙ k) c.requires.table.1

pub loop-t-init : goal.loop-t-init
loop-t-init c = (refl, ruling_start _ _ _ _ _ (bytes_by c.args.image.now (λ i. omega (arith, c.type_inv.image i))) c.requires.ordered.0 refl refl)

pub loop-t-preserved : goal.loop-t-preserved
loop-t-preserved c = let h = header (goal.at.loop-t-preserved c).In-loop-t in (
  c.first_in.auto.marks ∙ c.loop-t.invariant.0,
  needs_set _ _ _ _ _ _ _ _ _ (ruling_more _ _ _ c.requires.ordered.0.width _ _ _ _ _ c.loop-t.invariant.1 h.0 h.1 _ refl
      (below_not _ _ (sym (ap spot_of c.in_default.is) ∙ told (goal.at.loop-t-preserved c).After-first_in)) _ _
      (c.needs_of.ensures.0 ∙ ap (λ (m : ℕ). local_need (captures_in c.loop-t.t.now 13 m)) c.word-captures.ensures.0)
      (c.needs_of.ensures.1 ∙ ap (λ (m : ℕ). outer_need (captures_in c.loop-t.t.now 13 m)) c.word-captures.ensures.0)
      _ c.proto_span.ensures _ (omega (arith, c.word-captures.ensures.0, c.word-n.ensures.0))),
)

pub loop-t-smaller : goal.loop-t-smaller
loop-t-smaller c = less c.loop-t.t.now _ (omega (arith, c.proto_span.ensures)) (omega (arith, c.proto_span.ensures, (top (goal.at.loop-t-smaller c).In-loop-t).room))

pub returns-in-Some : goal.returns-in-Some
returns-in-Some c = let h = header (goal.at.returns-in-Some c).In-loop-t in
    let i = below_is _ _ _ (sym (ap spot_of c.in-Some.is) ∙ told (goal.at.returns-in-Some c).After-first_in) in
    ruling_fails _ _ _ c.requires.ordered.0.width _ _ _ _ _ c.loop-t.invariant.1 h.0 h.1 _ i.0 i.1 _ (omega (arith, c.word-captures.ensures.0))

pub returns : goal.returns
returns c = ruling_end _ _ _ c.requires.ordered.0.width _ _ _ _ _ c.loop-t.invariant.1 (c.heads.ensures.1 c.loop-t-test.false)

pub first_in-requires : goal.first_in-requires
first_in-requires c = let p = c.requires in
    let o = c.loop-t.invariant.1 in
    let r = (top (goal.at.first_in-requires c).In-loop-t).room in (
      r,
      omega (arith, p.ordered.1 _ (omega (arith, c.word-n.ensures)) (nine c.loop-t.t.now c.args.tag (length c.args.image.now) r (omega (arith, o.room))), c.loop-t.invariant.0),
      c.word-registers.ensures.0,
      c.word-captures.ensures.0,
    )

pub overflow_add-result-in-Some-2 : goal.overflow_add-result-in-Some-2
overflow_add-result-in-Some-2 c = let i = below_is _ _ _ (sym (ap spot_of c.in-Some.is) ∙ told (goal.at.overflow_add-result-in-Some-2 c).After-first_in) in
    omega (arith, i.1, c.word-n.ensures, c.loop-t.invariant.1.room, c.word-captures.ensures)

pub word-registers-requires : goal.word-registers-requires
word-registers-requires c = omega (arith, (top (goal.at.word-registers-requires c).In-loop-t).room)

pub word-captures-requires : goal.word-captures-requires
word-captures-requires c = omega (arith, (top (goal.at.word-captures-requires c).In-loop-t).room)

pub word-n-requires : goal.word-n-requires
word-n-requires c = omega (arith, (top (goal.at.word-n-requires c).In-loop-t).room)

pub proto_span-requires : goal.proto_span-requires
proto_span-requires c = omega (arith, (top (goal.at.proto_span-requires c).In-loop-t).room)

pub needs_of-requires : goal.needs_of-requires
needs_of-requires c = omega (arith, c.word-captures.ensures.0, (top (goal.at.needs_of-requires c).In-loop-t).room)

pub slice_bounds-t-count : goal.slice_bounds-t-count
slice_bounds-t-count c = omega (arith, c.proto_span.ensures, (top (goal.at.slice_bounds-t-count c).In-loop-t).room)

pub slice_bounds-t-start : goal.slice_bounds-t-start
slice_bounds-t-start c = omega (arith, c.proto_span.ensures, (top (goal.at.slice_bounds-t-start c).In-loop-t).room)

pub bounds-needs-k : goal.bounds-needs-k
bounds-needs-k c = omega (arith, (top (goal.at.bounds-needs-k c).In-loop-t).few)
