-- One store: the new edge is the edge before it (Blocks.antt).
use Rattle.std.proofs.Common.{◌+◌, arith}
use Rattle.store.specs.Layout.{first_edge, edge}
use Rattle.store.proofs.Regions.{only_set, below}
use Rattle.store.proofs.Blocks.{opened_by, block_kept, block_leaf}
use Rattle.store.proofs.block.enter_block.Goals as goal

pub returns : goal.returns
returns c = let a = c.args in
    let w = a.work.now in
    let p = a.scope in
    let low = below 0 4168 (omega arith) (only_set w (first_edge p.nodes + p.block + 1) (edge w p.nodes p.block)) in
    let opened = opened_by w p c.requires.0 c.requires.1 in
    (c.deeper.ensures, block_kept c.requires.0 c.requires.1 opened low, λ s fine. block_leaf w _ p s fine c.requires.1 opened low)
