-- The class's register and name, the register of names, the name's constant and its LoadK: forward's line `open_class_calls`. The constant pays for the name.
use native.Mathlib.Omega.{arith}
use Rattle.forward.proofs.Leaves.{open_class_chain}
use Rattle.store.proofs.Runs.{due}
use Rattle.store.proofs.Compose.{known}
use Rattle.routines.proofs.PieceLine.{from, ◌▹◌, room, here, ends}
use Rattle.routines.proofs.Results.{put_keeps, takes, declare_takes}
use Rattle.store.specs.Store.{outcome_of}
use Rattle.routines.proofs.class_stmt.open_class.Goals as goal

pub put_bx-requires : goal.put_bx-requires
put_bx-requires c = let one = c.requires.0.sound.starts 0 (omega arith) in
    let line = from c.requires.0 c.requires.1 ▹ c.declare-class.ensures.0 ▹ c.next_register-tmp.ensures.0 ▹ c.add_name-k.ensures in (
      line.moves.fine,
      room 2 0 line (record { words = omega arith; locals = omega arith; names = omega (arith, one) }),
      here line (λ g. (omega arith, omega (arith, c.next_register-tmp.ensures.1))),
      here line (λ g. omega (arith, due (outcome_of c.declare-class.result) c.declare-class.ensures.1 (c.next_register-tmp.ensures.0.moves.back (c.add_name-k.ensures.moves.back g)))),
    )

pub returns : goal.returns
returns c = let s = c.args in
    let one = c.requires.0.sound.starts 0 (omega arith) in
    let class = c.declare-class.ensures.0 in
    let names = c.next_register-tmp.ensures in
    let constant = c.add_name-k.ensures in
    let last = c.put_bx.ensures in
    let line = from c.requires.0 c.requires.1 ▹ class ▹ names.0 ▹ constant ▹ last in (
      ends _ line (record { words = omega arith; locals = omega arith; names = omega (arith, one); still = λ z. z; visits = omega arith })
          (λ ps. open_class_chain s.node s.token _ _ (class.runs ps) _ (known _ _ _ ps) _ (names.0.runs ps) _ (known _ _ _ ps) _ (constant.runs ps) _ (known _ _ _ ps) _ (last.runs ps)),
      here line (λ g.
          let g2 = constant.moves.back (last.moves.back g) in
          let f = declare_takes _ _ class (names.0.moves.back g2) in
          omega (arith, f.result, f.counted, (takes _ names.0 g2).result, names.1, (put_keeps _ _ last g).result)),
    )
