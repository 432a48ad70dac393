-- The invariant is `Locating`: k prototypes stand before what is left. The measure is what is left.
use mathlib.Core.Path.{◌≡◌}
use mathlib.Core.Bool.{true}
use Prim.Native.Nat.{◌≤◌}
use native.Mathlib.Omega.{arith}
use lib.ListN.{length, get_or}
use Rattle.meaning.specs.Fields.{whole}
use Rattle.reader.specs.Laid.{proto_span}
use Rattle.meaning.proofs.Images.Fielded.{bytes_by}
use Rattle.reader.proofs.Locates.{locating_start, locating_more, here, not_located, part_behind, placed}
use Rattle.reader.proofs.locate.prototype.Goals as goal
use Rattle.reader.proofs.locate.prototype.Goals.{Else-not-heads}

-- in a turn a header stands at the front
header : (c : goal.Else-not-heads) → (whole c.loop.t.now ≡ true) × (get_or c.loop.t.now 0 0 ≡ 0x41)
header c = c.heads.ensures.0 c.if-not-heads.false

room : (c : goal.Else-not-heads) → proto_span c.loop.t.now c.args.tag ≤ length c.loop.t.now
room c = (here _ _ _ _ _ c.requires.width c.loop.invariant (header c).0 (header c).1).room

pub loop-init : goal.loop-init
loop-init c = locating_start _ _ _ (bytes_by c.args.image.now (λ i. omega (arith, c.type_inv.image i))) c.requires

pub loop-preserved : goal.loop-preserved
loop-preserved c = let h = header (goal.at.loop-preserved c).Else-not-heads in
    locating_more _ _ _ _ _ c.requires.width c.loop.invariant h.0 h.1 (λ e. omega (arith, e, c.loop-test.true)) _ c.proto_span.ensures

pub returns-then-not-heads : goal.returns-then-not-heads
returns-then-not-heads c = let n = c.heads.ensures.1 c.if-not-heads.true in
    (not_located _ _ _ _ _ c.requires.width c.loop.invariant n, part_behind _ _ _ _ _ c.requires.width c.loop.invariant n)

pub returns : goal.returns
returns c = placed _ _ _ _ _ c.requires.width c.loop.invariant (omega (arith, c.loop-test.false, c.loop.auto))

pub proto_span-requires : goal.proto_span-requires
proto_span-requires c = omega (arith, room (goal.at.proto_span-requires c).Else-not-heads)

pub slice_bounds-t-count : goal.slice_bounds-t-count
slice_bounds-t-count c = omega (arith, c.proto_span.ensures, room (goal.at.slice_bounds-t-count c).Else-not-heads)

pub slice_bounds-t-start : goal.slice_bounds-t-start
slice_bounds-t-start c = omega (arith, c.proto_span.ensures, room (goal.at.slice_bounds-t-start c).Else-not-heads)
