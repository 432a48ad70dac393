-- The statements of the program, the prototype of main, the constants: `whole`.
use mathlib.Core.Path.{◌≡◌, refl}
use mathlib.Core.List.{List}
use Prim.Native.Nat.{ℕ}
use native.Mathlib.Omega.{arith}
use lib.ListN.{length}
use Rattle.meaning.specs.Check.{checked}
use Rattle.std.specs.Prelude.{Ok}
use Rattle.meaning.proofs.Accepted.{accepted}
use Rattle.nodes.specs.Offsets.{Offsets}
use Rattle.store.specs.Opening.{Begun}
use Rattle.lower.specs.Open.{Opened}
use Rattle.lower.proofs.Start.{opened, last_readable, program_counted, row_asked}
use Rattle.lower.proofs.Whole.{whole}
use Rattle.lower.proofs.lower_checked.Goals as goal

-- the store is begun, beside the offsets
ready : (mode : ℕ) {n : ℕ} {t w w' : List ℕ} → (checked mode t (length w) ≡ Ok n) × Offsets t w → Begun w n w' → Opened t n w'
ready mode {n} {t} {w} given begun = opened mode t (length w) n given.0 refl given.1 begun

pub begin-first-requires : goal.begin-first-requires
begin-first-requires c = let a = c.args in
    let ok = accepted a.mode a.tree.now (length a.work.now) a.n c.requires.0 in
    (omega (arith, ok.nodes, ok.some), omega (arith, ok.nodes, ok.few), omega (arith, ok.nodes, ok.room))

pub width_of-wide-requires : goal.width_of-wide-requires
width_of-wide-requires c = let a = c.args in
    let ok = accepted a.mode a.tree.now (length a.work.now) a.n c.requires.0 in
    (last_readable a.mode a.tree.now (length a.work.now) a.n c.requires.0 (ready a.mode c.requires c.begin-first.ensures.1), ok.nodes, omega (arith, ok.nodes, ok.some))

pub count_of-count-requires : goal.count_of-count-requires
count_of-count-requires c = let a = c.args in
    program_counted a.mode a.tree.now (length a.work.now) a.n c.requires.0 (ready a.mode c.requires c.begin-first.ensures.1)

pub row-rowed-requires : goal.row-rowed-requires
row-rowed-requires c = let main_scope = c.main-main in
    let count_of = c.count_of-count in
    let a = c.args in
    rw (main_scope.ensures, c.begin-first.ensures.0, count_of.ensures.0) (row_asked a.mode a.tree.now (length a.work.now) a.n c.requires.0 (ready a.mode c.requires c.begin-first.ensures.1) c.width_of-wide.ensures)

pub returns : goal.returns
returns c = let main_scope = c.main-main in
    let count_of = c.count_of-count in
    let row = c.row-rowed in
    let end_program = c.end_program-ended in
    let finish = c.finish in
    let a = c.args in
    let rows = rw (main_scope.ensures, c.begin-first.ensures.0, count_of.ensures.0) at row.ensures in
    whole a.mode a.tree.now (length a.work.now) a.n c.requires.0 c.width_of-wide.ensures (ready a.mode c.requires c.begin-first.ensures.1) rows (rw main_scope.ensures at end_program.ensures) finish.ensures

pub overflow_sub-last : goal.overflow_sub-last
overflow_sub-last c = omega (arith, ((ready c.args.mode c.requires c.begin-first.ensures.1).fine 0 0).sound.some)
