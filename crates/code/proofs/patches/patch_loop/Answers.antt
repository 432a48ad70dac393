-- `code::patches::patch_loop` meets its contract: the scan's law, at `patch_jump`. Assumes nothing.
use mathlib.Core.Path.{ap}
use borrow.Author.Rules.{rules}
use Rattle.meaning.specs.Chunk.{each_at, patch_jump, patch_loop}
use Rattle.code.proofs.Scans.{scan_ends}
use Rattle.code.proofs.patches.patch_loop.Goals as goal

pub returns : goal.returns
returns c = let a = c.args in
    scan_ends (patch_loop a.goal) a.end c.patch_each.ensures (λ x i y h p. search rules) c.requires.2 c.requires.1 (λ l h. ap (λ k. each_at (patch_jump a.goal k) 0 l) h)
