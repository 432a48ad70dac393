-- Refused at entry; else the four stores of `pushed_by` (Locals.antt): register, head, word, edge; then `unlink`. Registers and nodes have paid for the word.
use Rattle.std.proofs.Common.{ℕ, ◌+◌, ◌<◌, sym, arith}
use Rattle.store.specs.Layout.{first_edge, first_local, top, first_head, edge}
use Rattle.store.specs.Promise.{a_local}
use Rattle.store.proofs.Halves.{half_small}
use Rattle.store.proofs.Runs.{due, goes, leaf_absorbed}
use Rattle.store.proofs.Refusals.{shallow}
use Rattle.store.proofs.Locals.{pushed_by, hung_by, linked_push, pushed_then, local_room, local_sound, local_latest, local_leaf}
use Rattle.meaning.specs.State.{allocate_register}
use Rattle.forward.specs.Forward.{fwd_unit}
use Rattle.store.proofs.local.allocate_register.Goals as goal

pub returns-in_default : goal.returns-in_default
returns-in_default c = leaf_absorbed a_local (fwd_unit (allocate_register c.args.name c.args.register)) c.requires.0 c.in_default.is

pub set_half-requires : goal.set_half-requires
set_half-requires c = let small = due c.args.step.outcome c.requires.3 (goes c.in-Ok.is) in
    (omega (arith, c.requires.0.sound.long, c.requires.0.sound.count), omega (arith, small))

-- the head fits a half
pub overflow_mul-work : goal.overflow_mul-work
overflow_mul-work c = let bucket = c.bucket-b in
    let head_at = c.head_at-before in
    omega (arith, head_at.ensures, half_small c.args.work.now (first_head c.args.scope.nodes + bucket.result))

pub overflow_add-work : goal.overflow_add-work
overflow_add-work c = let bucket = c.bucket-b in
    let head_at = c.head_at-before in
    omega (arith, head_at.ensures, half_small c.args.work.now (first_head c.args.scope.nodes + bucket.result), c.requires.2)

pub unlink-requires : goal.unlink-requires
unlink-requires c = let bucket = c.bucket-b in
    let set-head = c.set_head in
    let set-half = c.set_half in
    let head_at = c.head_at-before in
    let a = c.args in
    let w = a.work.now in
    let p = a.scope in
    let n = p.nodes in
    let i : ℕ = edge w n p.block in
    let b = bucket.result in
    let fine = c.requires.0 in
    let s = fine.sound in
    let deep = shallow a.step fine c.in-Ok.is in
    let room = due a.step.outcome c.requires.1.roomy (goes c.in-Ok.is) in
    let small = due a.step.outcome c.requires.3 (goes c.in-Ok.is) in
    let r : first_local n + i < top n = omega (arith, (local_room deep room).0) in
    let pushed = pushed_by w n (first_edge n + p.block) i b a.name a.register s.long s.count s.few (omega arith) (omega (arith, s.blocks)) r bucket.ensures.1 c.requires.2 small in
    let hung = hung_by w n (first_edge n + p.block) i b a.name a.register s.long s.count s.few (omega arith) (omega (arith, s.blocks)) r bucket.ensures.1 c.requires.2 small in
    let linked = linked_push w _ n p.block b _ s.blocks bucket.ensures.1 (sym bucket.ensures.0) pushed hung s.linked in
    rw (set-head.ensures, set-half.ensures, head_at.ensures) (local_sound w _ p a.step _ fine deep room pushed linked, local_latest w _ p a.step _ fine deep room pushed linked)

pub returns : goal.returns
returns c = let unlink = c.unlink in
    let bucket = c.bucket-b in
    let set-head = c.set_head in
    let set-half = c.set_half in
    let head_at = c.head_at-before in
    let a = c.args in
    let w = a.work.now in
    let p = a.scope in
    let n = p.nodes in
    let i : ℕ = edge w n p.block in
    let b = bucket.result in
    let fine = c.requires.0 in
    let s = fine.sound in
    let deep = shallow a.step fine c.in-Ok.is in
    let room = due a.step.outcome c.requires.1.roomy (goes c.in-Ok.is) in
    let small = due a.step.outcome c.requires.3 (goes c.in-Ok.is) in
    let r : first_local n + i < top n = omega (arith, (local_room deep room).0) in
    let pushed = pushed_by w n (first_edge n + p.block) i b a.name a.register s.long s.count s.few (omega arith) (omega (arith, s.blocks)) r bucket.ensures.1 c.requires.2 small in
    let u = rw (set-head.ensures, set-half.ensures, head_at.ensures) at unlink.ensures in
    local_leaf w _ p a.step _ fine deep room (pushed_then s.blocks pushed u) u.linked _ c.in-Ok.is
