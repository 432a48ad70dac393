-- The walk along the links from the latest local, within its block: local `last` leads to `next`, and nothing has changed so far. The one that is found is taken out
-- (Shadows.antt).
use Rattle.std.proofs.Common.{◌≡◌, ℕ, ◌+◌, ◌-◌, ◌<◌, ◌≤◌, List, length, get_or, refl, ap, arith, length-set}
use Rattle.store.specs.declared.Scope.{Scope}
use Rattle.store.specs.Layout.{first_edge, first_local, edge, local_at, link}
use Rattle.store.specs.Store.{Sound}
use Rattle.store.specs.Promise.{Latest}
use Rattle.store.proofs.Shadows.{link_le, taken_out}
use Rattle.store.proofs.local.unlink.Goals as goal

-- the walk stays among the locals
module _ {w : List ℕ} {p : Scope} {name last next : ℕ} (s : Sound w p) (g : Latest w p name) (le : last ≤ edge w p.nodes p.block - 1) (to : next ≡ link w p.nodes last) where
  last_in : last < edge w p.nodes p.block
  last_in = omega (arith, g.here)

  next_in : next ≤ last
  next_in = omega (arith, to, link_le last s.linked last_in)

pub overflow_cast-from : goal.overflow_cast-from
overflow_cast-from c = let a = c.args in
    omega (arith, c.type_inv.work (first_edge a.scope.nodes + a.scope.block - 1))

pub overflow_add-next : goal.overflow_add-next
overflow_add-next c = let s = c.requires.0 in
    omega (arith, s.count, s.few)

pub offset_bounds-work-base : goal.offset_bounds-work-base
offset_bounds-work-base c = let s = c.requires.0 in
    omega (arith, s.count, s.few)

pub bounds-work-base : goal.bounds-work-base
bounds-work-base c = let s = c.requires.0 in
    omega (arith, s.count, s.long)

pub overflow_cast-next : goal.overflow_cast-next
overflow_cast-next c = let a = c.args in
    omega (arith, c.type_inv.work (first_local a.scope.nodes + (edge a.work.now a.scope.nodes a.scope.block - 1)))

pub loop-next-init : goal.loop-next-init
loop-next-init c = (refl, omega arith, refl)

pub overflow_add-x : goal.overflow_add-x
overflow_add-x c = let inv = c.loop-next.invariant in
    omega (arith, next_in c.requires.0 c.requires.1 inv.1 inv.2, c.requires.0.count, c.requires.0.few, inv.1)

pub offset_bounds-work-base-in-loop-next : goal.offset_bounds-work-base-in-loop-next
offset_bounds-work-base-in-loop-next c = let inv = c.loop-next.invariant in
    omega (arith, next_in c.requires.0 c.requires.1 inv.1 inv.2, c.requires.0.count, c.requires.0.few, inv.1)

pub bounds-work-base-in-loop-next : goal.bounds-work-base-in-loop-next
bounds-work-base-in-loop-next c = let inv = c.loop-next.invariant in
    omega (arith, ap length inv.0, next_in c.requires.0 c.requires.1 inv.1 inv.2, inv.1, c.requires.0.count, c.requires.0.long)

pub overflow_mul-work : goal.overflow_mul-work
overflow_mul-work c = omega (arith, c.type_inv.work (first_local c.args.scope.nodes + (c.loop-next.next - 1)))

pub overflow_add-work : goal.overflow_add-work
overflow_add-work c = omega (arith, c.requires.0.count, c.requires.0.few, c.loop-next.invariant.1)

pub offset_bounds-work-base-then-its-name : goal.offset_bounds-work-base-then-its-name
offset_bounds-work-base-then-its-name c = omega (arith, c.requires.0.count, c.requires.0.few, c.loop-next.invariant.1)

pub bounds-work-base-then-its-name : goal.bounds-work-base-then-its-name
bounds-work-base-then-its-name c = let inv = c.loop-next.invariant in
    omega (arith, ap length inv.0, inv.1, c.requires.0.count, c.requires.0.long)

pub overflow_add-work-then-its-name-2 : goal.overflow_add-work-then-its-name-2
overflow_add-work-then-its-name-2 c = omega (arith, c.requires.0.count, c.requires.0.few, c.loop-next.invariant.1)

pub offset_bounds-work-base-then-its-name-2 : goal.offset_bounds-work-base-then-its-name-2
offset_bounds-work-base-then-its-name-2 c = omega (arith, c.requires.0.count, c.requires.0.few, c.loop-next.invariant.1)

pub bounds-work-base-then-its-name-2 : goal.bounds-work-base-then-its-name-2
bounds-work-base-then-its-name-2 c = let inv = c.loop-next.invariant in
    omega (arith, ap length inv.0, inv.1, c.requires.0.count, c.requires.0.long)

pub shape_of-work-then-its-name : goal.shape_of-work-then-its-name
shape_of-work-then-its-name c = simp length-set (ap length c.loop-next.invariant.0)

pub returns-then-its-name : goal.returns-then-its-name
returns-then-its-name c = let loop = c.loop-next in
    let taken = c.loop-next-test.true in
    let a = c.args in
    let w = a.work.now in
    let p = a.scope in
    let n = p.nodes in
    let s = c.requires.0 in
    let some = s.starts 0 (omega arith) in
    let e : get_or w (first_edge n + p.block - 1) 0 ≡ edge w n (p.block - 1) = ap (λ i. get_or w i 0) (omega arith) in
    let own : (local_at w n (loop.next - 1)).name ≡ a.name = rw loop.invariant.0 at c.if-its-name.true in
    rw loop.invariant.0 (taken_out loop.last (loop.next - 1) s c.requires.1 (omega (arith, loop.invariant.1, c.requires.1.here)) (omega (arith, loop.invariant.2)) (omega (arith, e)) own)

pub overflow_cast-next-in-loop-next : goal.overflow_cast-next-in-loop-next
overflow_cast-next-in-loop-next c = omega (arith, c.type_inv.work (first_local c.args.scope.nodes + (c.loop-next.next - 1)))

pub loop-next-smaller : goal.loop-next-smaller
loop-next-smaller c = let loop = c.loop-next in
    let inv = loop.invariant in
    let n = c.args.scope.nodes in
    let u = next_in c.requires.0 c.requires.1 inv.1 inv.2 in
    let l = last_in c.requires.0 c.requires.1 inv.1 inv.2 in
    omega (arith, ap (λ x. link x n (loop.next - 1)) inv.0, link_le (loop.next - 1) c.requires.0.linked (omega arith))

pub loop-next-preserved : goal.loop-next-preserved
loop-next-preserved c = let loop = c.loop-next in
    let inv = loop.invariant in
    let u = next_in c.requires.0 c.requires.1 inv.1 inv.2 in
    (inv.0, omega (arith, inv.1), ap (λ x. link x c.args.scope.nodes (loop.next - 1)) inv.0)

pub shape_of-work : goal.shape_of-work
shape_of-work c = ap length c.loop-next.invariant.0

pub returns : goal.returns
returns c = let loop = c.loop-next in
    rw loop.invariant.0 (record { same = refl; other = λ i l. refl; locals = λ i l. refl; linked = c.requires.0.linked })
