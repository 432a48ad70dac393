-- `nodes::offsets::payload_of` meets its contract: the payload stands after the three bytes of the header, as long as these say.
use Prim.Native.Nat.{◌+◌, ◌≤◌}
use native.Mathlib.Nat.{add-sub_cancel_left}
use native.Mathlib.Omega.{arith}
use lib.ListN.{length}
use Rattle.meaning.specs.Fields.{word_at}
use Rattle.nodes.proofs.Headers.{entry_inside, field_inside, payload_is}
use Rattle.nodes.proofs.offsets.payload_of.Goals as goal
use Rattle.nodes.proofs.offsets.payload_of.Goals.{After-start_of-start}

pub start_of-start-requires : goal.start_of-start-requires
start_of-start-requires c = entry_inside c.requires

-- the field at the offset is whole
inside : (c : goal.After-start_of-start) → c.start_of-start.result + 3 + word_at c.args.tree.now (c.start_of-start.result + 1) ≤ length c.args.tree.now
inside c = field_inside c.requires _ c.start_of-start.ensures

pub overflow_add-start : goal.overflow_add-start
overflow_add-start c = omega (arith, inside c)

pub word-size-requires : goal.word-size-requires
word-size-requires c = omega (arith, inside c)

pub overflow_add-from : goal.overflow_add-from
overflow_add-from c = omega (arith, inside (goal.at.overflow_add-from c).After-start_of-start)

pub overflow_add-end : goal.overflow_add-end
overflow_add-end c = omega (arith, inside (goal.at.overflow_add-end c).After-start_of-start, c.word-size.ensures.0)

pub slice_bounds-result-count : goal.slice_bounds-result-count
slice_bounds-result-count c = omega arith

pub slice_bounds-result-start : goal.slice_bounds-result-start
slice_bounds-result-start c = omega arith

pub slice_bounds-result-end : goal.slice_bounds-result-end
slice_bounds-result-end c = omega (arith, inside (goal.at.slice_bounds-result-end c).After-start_of-start, c.word-size.ensures.0)

pub returns : goal.returns
returns c = let start = c.start_of-start.result in
    rw (add-sub_cancel_left (start + 3) c.word-size.result, c.word-size.ensures.0) (payload_is c.requires start c.start_of-start.ensures)
