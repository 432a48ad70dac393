-- The invariant is `Judged`: below field i every shape is right and the scratch is as after those nodes, or the lowest wrong node is found; and the
-- offsets are noted, as many as are asked for. The measure is the rest of the file.
use mathlib.Core.Path.{◌≡◌, refl, sym, ap, ◌∙◌}
use mathlib.Core.Bool.{true}
use mathlib.Core.Logic.{inl, inr}
use Prim.Native.Nat.{ℕ, ◌<◌, ◌≤◌}
use native.Mathlib.Omega.{arith}
use lib.ListN.{length, get_or, drop, length-take}
use Rattle.meaning.specs.Fields.{word_at, whole}
use Rattle.meaning.proofs.FieldLaws.{part_less, whole_true}
use Rattle.tree.proofs.Shapes.{judged_start, judged_offset, judged_over, judged_more, judged_count, judged_end, last_end, passed_at, passed_size}
use Rattle.tree.proofs.shape.walk_by.Goals as goal
use Rattle.tree.proofs.shape.walk_by.Goals.{After-payload-p, After-span_of-k, In-loop-last, Then-i-end, then-i-end, then-not-fits, else-not-fits, else-i-end}

-- in a turn a whole field stands at the front
is : (c : goal.In-loop-last) → whole c.loop-last.t.now ≡ true
is c = sym c.is_whole.ensures ∙ c.loop-last-test.true

header : (c : goal.In-loop-last) → 3 ≤ length c.loop-last.t.now
header c = omega (arith, whole_true _ (is c))

fit : (c : goal.After-span_of-k) → c.span_of-k.result ≤ length c.loop-last.t.now
fit c = omega (arith, c.span_of-k.ensures, whole_true _ (sym c.is_whole.ensures ∙ c.loop-last-test.true))

-- the offset of node i, behind which three bytes stand at least, is noted, and it fits a word
pub note_offset-requires : goal.note_offset-requires
note_offset-requires c = let pre = c.requires in let p = c.loop-last.invariant.passed in
    (omega (arith, pre.room, passed_size _ _ _ _ _ _ _ p), λ h. omega (arith, h, pre.noted, p.low, passed_at _ _ _ _ _ _ _ p (is (goal.at.note_offset-requires c).In-loop-last)))

-- a node that is tested has a word
low : (c : goal.Then-i-end) → (c.loop-last.i < c.args.limit) × (c.args.limit ≤ length c.note_offset.new.scratch) × (c.loop-last.i < 32768)
low c = let pre = c.requires in let j = c.loop-last.invariant in
    (omega (arith, j.most, c.if-i-end.true), omega (arith, pre.room, passed_size _ _ _ _ _ _ _ j.passed, c.note_offset.auto.scratch), omega (arith, j.most, c.if-i-end.true, pre.judged))

bytes : (c : goal.After-payload-p) → (j : ℕ) → get_or c.loop-last.t.now j 0 < 256
bytes c j = omega (arith, c.type_inv.t j)

-- a payload has at most 65,535 bytes
payload_low : (c : goal.After-payload-p) → length c.payload-p.result.now < 65536
payload_low c = let t = c.loop-last.t.now in
    omega (arith, ap length c.payload-p.ensures, length-take (word_at t 1) (drop 3 t), bytes c 1, bytes c 2)

-- and a field at most 65,538
short : (c : goal.After-payload-p) → c.span_of-k.result ≤ 65538
short c = omega (arith, c.span_of-k.ensures, bytes c 1, bytes c 2)

pub fits-requires : goal.fits-requires
fits-requires c = let word = low (goal.at.fits-requires c).Then-i-end in (word.2, omega (arith, word), c.start_of-start.ensures.1)

pub bounds-scratch-i : goal.bounds-scratch-i
bounds-scratch-i c = omega (arith, low (goal.at.bounds-scratch-i c).Then-i-end, c.fits.auto.scratch)

pub loop-last-preserved : goal.loop-last-preserved
loop-last-preserved c = let p = (goal.at.loop-last-preserved c).After-payload-p in
    let whole = is (goal.at.loop-last-preserved c).In-loop-last in
    let noted = judged_offset _ _ _ _ _ _ _ _ _ _ c.requires.room c.loop-last.invariant whole _ (passed_at _ _ _ _ _ _ _ c.loop-last.invariant.passed whole) _ c.note_offset.ensures in
    let span = c.span_of-k.ensures in
    elim c.if-i-end.branch [
      | then-i-end w ↦ judged_more _ _ _ _ _ _ _ _ _ _ noted whole _ span (short p) _ refl (omega (arith, w.if-i-end.true)) (omega (arith, c.requires.room)) (bytes p 0)
          _ _ _ _ w.start_of-start.ensures.0 c.payload-p.ensures _ w.fits.ensures.fits w.fits.ensures.noted w.scratch-is _
          (elim w.if-not-fits.branch [ then-not-fits y ↦ inl (y.if-not-fits.true, w.end-is ∙ y.end-is) | else-not-fits y ↦ inr (y.if-not-fits.false, w.end-is ∙ y.end-is) ])
      | else-i-end w ↦ judged_over _ _ _ _ _ _ _ _ _ _ noted whole _ span (short p) _ refl (omega (arith, w.if-i-end.false)) _ _ w.scratch-is w.end-is
    ]

pub returns : goal.returns
returns c = let j = c.loop-last.invariant in
    let cut = sym c.is_whole.ensures ∙ c.loop-last-test.false in record {
      count = judged_count _ _ _ _ _ _ _ _ _ _ j cut;
      found = λ all. rw c.then_some.ensures (judged_end _ _ _ _ _ _ _ _ _ _ j cut (omega (arith, c.requires.room)) all);
      last = last_end _ _ _ _ _ _ _ _ _ _ j cut;
      beyond = j.passed.beyond;
    }

pub loop-last-init : goal.loop-last-init
loop-last-init c = judged_start _ _ _ _ _

pub span_of-k-requires : goal.span_of-k-requires
span_of-k-requires c = header c

pub bounds-t-0 : goal.bounds-t-0
bounds-t-0 c = omega (arith, header (goal.at.bounds-t-0 c).In-loop-last)

pub payload-p-requires : goal.payload-p-requires
payload-p-requires c = whole_true _ (is (goal.at.payload-p-requires c).In-loop-last)

pub overflow_sub-tree : goal.overflow_sub-tree
overflow_sub-tree c = omega (arith, c.loop-last.invariant.passed.walk.room)

pub slice_bounds-t-count : goal.slice_bounds-t-count
slice_bounds-t-count c = fit (goal.at.slice_bounds-t-count c).After-span_of-k

pub slice_bounds-t-start : goal.slice_bounds-t-start
slice_bounds-t-start c = fit (goal.at.slice_bounds-t-start c).After-span_of-k

pub overflow_add-i : goal.overflow_add-i
overflow_add-i c = omega (arith, header (goal.at.overflow_add-i c).In-loop-last, c.loop-last.invariant.passed.walk.room, c.well_formed.1.0.0)

pub loop-last-smaller : goal.loop-last-smaller
loop-last-smaller c = part_less _ _ (is (goal.at.loop-last-smaller c).In-loop-last) c.span_of-k.ensures
