-- The loop pops one local a turn (Links.antt, Popping): of the locals that were there the first i are left, and no head leads below the block's start
-- before it should; at the start it leads to the latest there.
use Rattle.std.proofs.Common.{◌≡◌, ℕ, suc, ◌+◌, ◌-◌, ◌*◌, ◌%◌, get_or, sym, refl, ap, ◌∙◌, arith}
use Rattle.store.specs.Layout.{first_edge, first_local, local_at}
use Rattle.store.proofs.Links.{popping_start, popping_next, popping_end}
use Rattle.store.proofs.Blocks.{leaving}
use Rattle.store.proofs.block.leave_block.Goals as goal

pub overflow_cast-from : goal.overflow_cast-from
overflow_cast-from c = omega (arith, (leaving c.requires).rises, (leaving c.requires).fits, (leaving c.requires).few)

pub loop-i-init : goal.loop-i-init
loop-i-init c = ((leaving c.requires).rises, popping_start _ _ (leaving c.requires).rises (leaving c.requires).ends (leaving c.requires).linked)

pub loop-i-preserved : goal.loop-i-preserved
loop-i-preserved c = let loop = c.loop-i in
    let bucket = c.bucket-b in
    let set-head = c.set_head in
    let a = c.args in
    let w = a.work.now in
    let n = a.scope.nodes in
    let i : ℕ = loop.i - 1 in
    let l = leaving c.requires in
    let inv = loop.invariant in
    let u : loop.i ≡ suc i = omega arith in
    let own : (local_at w n i).name % (10 * n) ≡ bucket.result = ap (λ x. x % 65536 % (10 * n)) (sym (inv.1.other (first_local n + i) (λ z. absurd (omega (arith, l.fits))))) ∙ sym bucket.ensures.0 in
    (omega arith, rw set-head.ensures (popping_next w loop.work n a.scope.block i bucket.result _ (a.scope.block + 1) l.linked (omega arith) (omega (arith, inv.0)) (omega (arith, l.ends)) (omega (arith, l.fits, l.ends)) l.long bucket.ensures.1 own refl (omega (arith, c.type_inv.work (first_local n + i))) (rw u at inv.1)))

pub returns : goal.returns
returns c = let loop = c.loop-i in
    let l = leaving c.requires in
    let e : loop.i ≡ get_or c.args.work.now (first_edge c.args.scope.nodes + c.args.scope.block) 0 = omega (arith, loop.invariant.0) in
    record {
      same = loop.invariant.1.same;
      other = loop.invariant.1.other;
      linked = popping_end c.args.scope.block e (omega (arith, c.requires.blocks)) (omega (arith, l.rises, l.ends)) (omega (arith, l.fits, l.ends)) l.linked loop.invariant.1;
    }
