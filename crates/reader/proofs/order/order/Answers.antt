-- The invariant is `Ordering`: what strays from here on is what strays at all. The measure is the rest of the file.
use mathlib.Core.Path.{◌≡◌, refl, sym, ap, ◌∙◌}
use mathlib.Core.Bool.{Bool, true}
use mathlib.Core.List.{List}
use mathlib.Core.Option.{some}
use Prim.Native.Nat.{ℕ, ◌+◌, ◌*◌, ◌≤◌}
use native.Mathlib.Omega.{arith}
use lib.ListN.{length}
use Rattle.meaning.specs.Fields.{fields, left, whole, span, front}
use Rattle.meaning.proofs.FieldLaws.{from, walk_end, part_less, whole_true}
use Rattle.meaning.specs.declared.Due.{Due}
use Rattle.meaning.specs.Images.{inst_size}
use Rattle.reader.specs.declared.order.Seen.{Seen}
use Rattle.reader.specs.Glance.{Glanced, follows_seen, ready, Run}
use Rattle.reader.proofs.Glances.{Ordering, ordering_start, ordering_stop, ordering_more, ordering_end, front_size}
use Rattle.reader.proofs.Runs.{ordering_run, run_moved, from_low}
use Rattle.reader.proofs.order.order.Goals as goal
use Rattle.reader.proofs.order.order.Goals.{After-due_seen-d, After-run-m, After-loop-seen}

-- the field's bytes
spans : (t : List ℕ) (r : Seen) → whole t ≡ true → Glanced (front t) r → 3 + r.size ≡ span t
spans t r w g = ap (λ (n : ℕ). 3 + n) (g.size ∙ front_size t w)

fit : (t : List ℕ) (r : Seen) → whole t ≡ true → Glanced (front t) r → 3 + r.size ≤ length t
fit t r w g = omega (arith, spans t r w g, whole_true t w)

-- the test, by the tag's own size
test : (tag n : ℕ) (d : Due) (r : Seen) (b y : Bool) → b ≡ follows_seen tag n d r → n ≡ inst_size tag → b ≡ y → follows_seen tag (inst_size tag) d r ≡ y
test tag n d r b y e f g = ap (λ (k : ℕ). follows_seen tag k d r) (sym f) ∙ sym e ∙ g

-- the field passed
mid : (c : goal.After-due_seen-d) → Ordering c.args.image.now c.args.tag (from (3 + c.glance-seen.result.size) c.loop-seen.t.now) c.due_seen-d.result (c.loop-seen.i + 1)
mid c =
    let w = sym c.is_whole.ensures ∙ c.loop-seen-test.true in
    ordering_more _ _ _ _ _ c.loop-seen.invariant w _ c.glance-seen.ensures
    (test _ _ c.loop-seen.d c.glance-seen.result _ _ c.follows_seen.ensures c.inst_size-size.ensures c.if-not-follows_seen.false) _
    (spans _ _ w c.glance-seen.ensures) _ c.due_seen-d.ensures

-- the run behind it, by the tag's own size
ran : (c : goal.After-run-m) → Run (from (3 + c.glance-seen.result.size) c.loop-seen.t.now) c.args.tag (inst_size c.args.tag) (ready c.due_seen-d.result) c.run-m.result
ran c = run_moved _ _ _ _ _ _ _ c.inst_size-size.ensures c.ready.ensures c.run-m.ensures

pub loop-seen-init : goal.loop-seen-init
loop-seen-init c = ordering_start _ _

pub loop-seen-preserved : goal.loop-seen-preserved
loop-seen-preserved c = ordering_run _ _ _ _ _ _ _ (mid (goal.at.loop-seen-preserved c).After-due_seen-d) (ran (goal.at.loop-seen-preserved c).After-run-m) (ap (λ (n : ℕ). c.run-m.result * (3 + n)) c.inst_size-size.ensures) _ c.less-d.ensures

pub loop-seen-smaller : goal.loop-seen-smaller
loop-seen-smaller c =
    let w = sym c.is_whole.ensures ∙ c.loop-seen-test.true in
    omega (arith, from_low (c.run-m.result * (3 + c.inst_size-size.result)) (from (3 + c.glance-seen.result.size) c.loop-seen.t.now), part_less _ _ w (spans _ _ w c.glance-seen.ensures))

pub returns-then-not-follows_seen : goal.returns-then-not-follows_seen
returns-then-not-follows_seen c = (
  c.frame.ensures.0,
  c.frame.ensures.1,
  ordering_stop _ _ _ _ _ c.loop-seen.invariant (sym c.is_whole.ensures ∙ c.loop-seen-test.true) _ c.glance-seen.ensures
      (test _ _ c.loop-seen.d c.glance-seen.result _ _ c.follows_seen.ensures c.inst_size-size.ensures c.if-not-follows_seen.true),
)

-- the end of the walk
ended : (e : goal.After-loop-seen) → (e.loop-seen.i ≡ length (fields e.args.image.now)) × (length e.loop-seen.t.now ≡ length (left e.args.image.now))
ended e = walk_end _ _ _ e.loop-seen.invariant.walk (sym e.is_whole.ensures ∙ e.loop-seen-test.false)

pub returns-then-may_end : goal.returns-then-may_end
returns-then-may_end c = let e = ended (goal.at.returns-then-may_end c).After-loop-seen in
    (e.0, e.1, rw (sym c.may_end.ensures ∙ c.if-may_end.true) at (ordering_end _ _ _ _ _ c.loop-seen.invariant (sym c.is_whole.ensures ∙ c.loop-seen-test.false)))

pub returns : goal.returns
returns c = let e = ended (goal.at.returns c).After-loop-seen in
    let z : c.loop-seen.i ≡ c.loop-seen.i + 0 = omega arith in
    (e.0, e.1, ap (λ (n : ℕ). some n) z ∙ rw (sym c.may_end.ensures ∙ c.if-may_end.false) at (ordering_end _ _ _ _ _ c.loop-seen.invariant (sym c.is_whole.ensures ∙ c.loop-seen-test.false)))

pub glance-seen-requires : goal.glance-seen-requires
glance-seen-requires c = sym c.is_whole.ensures ∙ c.loop-seen-test.true

-- there are no more fields than bytes
pub due_seen-d-requires : goal.due_seen-d-requires
due_seen-d-requires c = let v = c.loop-seen.invariant in
    let w = whole_true _ (sym c.is_whole.ensures ∙ c.loop-seen-test.true) in
    (omega (arith, v.prototypes, v.walk.room, w), omega (arith, v.constants, v.walk.room, w))

pub slice_bounds-t-count : goal.slice_bounds-t-count
slice_bounds-t-count c = fit _ _ (sym c.is_whole.ensures ∙ c.loop-seen-test.true) c.glance-seen.ensures

pub slice_bounds-t-start : goal.slice_bounds-t-start
slice_bounds-t-start c = fit _ _ (sym c.is_whole.ensures ∙ c.loop-seen-test.true) c.glance-seen.ensures

pub overflow_add-i-in-loop-seen : goal.overflow_add-i-in-loop-seen
overflow_add-i-in-loop-seen c = let o = ordering_run _ _ _ _ _ _ _ (mid (goal.at.overflow_add-i-in-loop-seen c).After-due_seen-d) (ran (goal.at.overflow_add-i-in-loop-seen c).After-run-m) refl _ refl in
    omega (arith, o.walk.room)
