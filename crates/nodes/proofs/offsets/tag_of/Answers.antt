-- `nodes::offsets::tag_of` meets its contract.
use native.Mathlib.Omega.{arith}
use Rattle.nodes.proofs.Headers.{entry_inside, field_inside, tag_is}
use Rattle.nodes.proofs.offsets.tag_of.Goals as goal

pub start_of-start-requires : goal.start_of-start-requires
start_of-start-requires c = entry_inside c.requires

pub bounds-tree-start : goal.bounds-tree-start
bounds-tree-start c = omega (arith, field_inside c.requires _ c.start_of-start.ensures)

pub returns : goal.returns
returns c = tag_is c.requires _ c.start_of-start.ensures
