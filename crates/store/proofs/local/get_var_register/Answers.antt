-- The current function's blocks are the locals from its first block's edge to the innermost block's: `look` walks them.
use Rattle.std.proofs.Common.{◌+◌, arith}
use Rattle.store.specs.Layout.{first_edge, edge, first}
use Rattle.store.proofs.Finding.{walkable_of, found_small, variable_told}
use Rattle.store.proofs.local.get_var_register.Goals as goal

pub overflow_cast-first : goal.overflow_cast-first
overflow_cast-first c = omega (arith, c.requires.starts c.args.scope.depth (omega arith), c.requires.blocks, c.requires.few)

pub overflow_add-start : goal.overflow_add-start
overflow_add-start c = omega (arith, c.requires.starts c.args.scope.depth (omega arith), c.requires.blocks, c.requires.few)

pub offset_bounds-work-edges : goal.offset_bounds-work-edges
offset_bounds-work-edges c = omega (arith, c.requires.starts c.args.scope.depth (omega arith), c.requires.blocks, c.requires.few)

pub bounds-work-edges : goal.bounds-work-edges
bounds-work-edges c = omega (arith, c.requires.starts c.args.scope.depth (omega arith), c.requires.blocks, c.requires.long)

pub overflow_cast-start : goal.overflow_cast-start
overflow_cast-start c = let a = c.args in
    omega (arith, c.type_inv.work (first_edge a.scope.nodes + first a.work.now a.scope.depth))

pub look-requires : goal.look-requires
look-requires c = walkable_of c.requires

pub returns : goal.returns
returns c = let a = c.args in
    let w = a.work.now in
    let n = a.scope.nodes in
    (variable_told w a.scope c.requires a.name c.look.result c.look.ensures, found_small w n a.name (edge w n (first w a.scope.depth)) (edge w n a.scope.block) c.look.result c.look.ensures)
