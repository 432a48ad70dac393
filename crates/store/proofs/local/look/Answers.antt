-- The walk along the links of the name's bucket (Links.antt). First loop: i is the latest of the bucket below the larger of i and `end`, so where it ends
-- i is the latest below `end`. Second loop: the locals from i up to `end` have another name.
use Rattle.std.proofs.Common.{ℕ, ◌+◌, ◌-◌, ◌*◌, ◌%◌, ◌≤◌, sym, refl, ap, ◌∙◌, arith}
use Rattle.store.specs.Layout.{first_local, edge, head}
use Rattle.store.specs.Search.{found_of}
use Rattle.store.proofs.Links.{head_within, turn_less, turn_self, walk_self, walk_start, walk_hit, walk_none, walk_miss, skip_start, skip_self, skip_next, skip_end}
use Rattle.store.proofs.local.look.Goals as goal

pub bucket-b-requires : goal.bucket-b-requires
bucket-b-requires c = (c.requires.some, c.requires.few)

pub head_at-i-requires : goal.head_at-i-requires
head_at-i-requires c = (c.requires.long, c.requires.few, c.bucket-b.ensures.1)

pub loop-i-init : goal.loop-i-init
loop-i-init c = let bucket = c.bucket-b in
    let a = c.args in
    let w = a.work.now in
    let k : ℕ = a.name % (10 * a.nodes) in
    let p = c.requires in
    let b = bucket.ensures in
    let e = c.head_at-i.ensures ∙ ap (λ x. head w a.nodes x) b.0 in
    (omega arith, rw e (skip_start w a.nodes p.blocks k p.linked (omega (arith, b.0, b.1)) a.end p.within))

pub bounds-work-base : goal.bounds-work-base
bounds-work-base c = let bucket = c.bucket-b in
    let head_at = c.head_at-i in
    let loop = c.loop-i in
    let a = c.args in
    let w = a.work.now in
    let p = c.requires in
    let b = bucket.ensures in
    omega (arith, head_at.ensures, head_within w a.nodes p.blocks bucket.result p.linked b.1, p.long, p.fits, loop.invariant.0)

pub overflow_cast-i-in-loop-i : goal.overflow_cast-i-in-loop-i
overflow_cast-i-in-loop-i c = omega (arith, c.type_inv.work (first_local c.args.nodes + (c.loop-i.i - 1)))

pub loop-i-smaller : goal.loop-i-smaller
loop-i-smaller c = let bucket = c.bucket-b in
    let loop = c.loop-i in
    let loop-test = c.loop-i-test in
    let head_at = c.head_at-i in
    let a = c.args in
    let w = a.work.now in
    let k : ℕ = a.name % (10 * a.nodes) in
    let p = c.requires in
    let b = bucket.ensures in
    let u = head_within w a.nodes p.blocks bucket.result p.linked b.1 in
    let s = skip_self w a.nodes k loop.i a.end loop-test.true loop.invariant.1 in
    omega (arith, turn_less w a.nodes p.blocks k loop.i p.linked (omega arith) (omega (arith, head_at.ensures, loop.invariant.0)) s)

pub loop-i-preserved : goal.loop-i-preserved
loop-i-preserved c = let bucket = c.bucket-b in
    let loop = c.loop-i in
    let loop-test = c.loop-i-test in
    let head_at = c.head_at-i in
    let a = c.args in
    let w = a.work.now in
    let k : ℕ = a.name % (10 * a.nodes) in
    let p = c.requires in
    let b = bucket.ensures in
    let u = head_within w a.nodes p.blocks bucket.result p.linked b.1 in
    let s = skip_self w a.nodes k loop.i a.end loop-test.true loop.invariant.1 in
    let l : loop.i ≤ edge w a.nodes p.blocks = omega (arith, head_at.ensures, loop.invariant.0) in (
      omega (arith, loop.invariant.0, turn_less w a.nodes p.blocks k loop.i p.linked (omega arith) l s),
      skip_next w a.nodes p.blocks k loop.i p.linked (omega arith) l s p.block a.end p.among p.ends loop-test.true,
    )

pub loop-i-2-init : goal.loop-i-2-init
loop-i-2-init c = let loop = c.loop-i in
    let a = c.args in
    let w = a.work.now in
    let k : ℕ = a.name % (10 * a.nodes) in
    let p = c.requires in
    let e = skip_end w a.nodes k loop.i a.end c.loop-i-test.false loop.invariant.1 in
    (c.loop-i-test.false, walk_self w a.nodes k loop.i a.end e, walk_start w a.nodes a.name a.end loop.i e)

pub bounds-work-base-in-loop-i-2 : goal.bounds-work-base-in-loop-i-2
bounds-work-base-in-loop-i-2 c = let loop2 = c.loop-i-2 in
    omega (arith, c.requires.long, c.requires.within, c.requires.fits, loop2.invariant.0)

pub half_at-requires : goal.half_at-requires
half_at-requires c = let loop2 = c.loop-i-2 in
    omega (arith, c.requires.long, c.requires.within, c.requires.fits, loop2.invariant.0)

pub returns-then-its-name : goal.returns-then-its-name
returns-then-its-name c = let loop2 = c.loop-i-2 in
    let loop2-test = c.loop-i-2-test in
    let a = c.args in
    let w = a.work.now in
    rw c.half_at.ensures
    (ap found_of (sym (walk_hit w a.nodes a.name a.start a.end loop2.i loop2.invariant.0 loop2.invariant.2 loop2-test.true c.if-its-name.true)))

pub overflow_cast-i-in-loop-i-2 : goal.overflow_cast-i-in-loop-i-2
overflow_cast-i-in-loop-i-2 c = omega (arith, c.type_inv.work (first_local c.args.nodes + (c.loop-i-2.i - 1)))

pub loop-i-2-smaller : goal.loop-i-2-smaller
loop-i-2-smaller c = let loop2 = c.loop-i-2 in
    let a = c.args in
    let w = a.work.now in
    let k : ℕ = a.name % (10 * a.nodes) in
    let p = c.requires in
    turn_less w a.nodes p.blocks k loop2.i p.linked (omega arith) (omega (arith, p.within, loop2.invariant.0)) loop2.invariant.1

pub loop-i-2-preserved : goal.loop-i-2-preserved
loop-i-2-preserved c = let loop2 = c.loop-i-2 in
    let a = c.args in
    let w = a.work.now in
    let k : ℕ = a.name % (10 * a.nodes) in
    let p = c.requires in
    let l : loop2.i ≤ edge w a.nodes p.blocks = omega (arith, p.within, loop2.invariant.0) in (
      omega (arith, loop2.invariant.0, turn_less w a.nodes p.blocks k loop2.i p.linked (omega arith) l loop2.invariant.1),
      turn_self w a.nodes p.blocks k loop2.i p.linked (omega arith) l loop2.invariant.1,
      walk_miss w a.nodes p.blocks k loop2.i p.linked (omega arith) l loop2.invariant.1 a.name p.block a.end refl p.among p.ends loop2.invariant.0 loop2.invariant.2 c.if-its-name.false,
    )

pub returns : goal.returns
returns c = let loop2 = c.loop-i-2 in
    let a = c.args in
    let w = a.work.now in
    ap found_of (sym (walk_none w a.nodes a.name a.start a.end loop2.i loop2.invariant.0 loop2.invariant.2 c.loop-i-2-test.false))
