-- 02, E6, of every accepted tree: the visits are at most the number of nodes times 1,025, since there are at most 1,024 constants (Safe) and each
-- visit beyond a node's first is paid for by one (Gains). So a count of 32 bits never wraps.
use Prim.Native.Nat.{ℕ, ◌+◌, ◌-◌, ◌*◌, ◌≤◌, ◌<◌}
use mathlib.Core.Path.{◌≡◌, ap, subst}
use mathlib.Core.List.{List}
use native.Mathlib.Nat.{mul-le-mul_left, mul-le-mul_right}
use native.Mathlib.Omega.{arith}
use lib.ListN.{length}
use Rattle.meaning.specs.Fields.{fields}
use Rattle.meaning.specs.Check.{checked}
use Rattle.meaning.specs.Read.{read_program}
use Rattle.meaning.specs.Syntax.{Stmts}
use Rattle.meaning.specs.State.{State, Res, done, ◌>>=◌}
use Rattle.meaning.specs.Chunk.{joined}
use Rattle.meaning.specs.Lower.{lower_stmts, lower_program, start}
use Rattle.meaning.specs.Weight.{size_stmts}
use Rattle.meaning.specs.Visits.{visits_stmts, visits_program}
use Rattle.meaning.specs.Answer.{Finished, imaged, finished}
use Rattle.std.specs.Prelude.{Ok}
use Rattle.meaning.proofs.Accepted.{accepted}
use Rattle.meaning.proofs.Weights.{accepted_size}
use Rattle.meaning.proofs.Keeps.{Along}
use Rattle.meaning.proofs.Gains.{Gained, Costs, stmts_cost, prototyped, bind, more_few}
use Rattle.meaning.proofs.Imaged.{finished_lowered}
use Rattle.meaning.proofs.Safe.Program.{program_whole}

-- a lowering that is done gained what its state has
program_gained : (mode node : ℕ) (ss : Stmts) (i : ℕ) (t : State) → lower_program mode node ss ≡ done i t → Gained (size_stmts ss + 0) (visits_stmts ss + 0) start t
unfolding lower_program
program_gained mode node ss i t e = subst (λ (r : Res ℕ). Along (Gained (size_stmts ss + 0) (visits_stmts ss + 0)) start r) e ((bind (stmts_cost mode ss) (λ cs. prototyped node 0 (joined cs))).at start)

pub program_most : (mode node : ℕ) (ss : Stmts) (i : ℕ) (t : State) → lower_program mode node ss ≡ done i t → visits_program ss ≤ (1 + size_stmts ss) * 1025
program_most mode node ss i t e =
    let g = program_gained mode node ss i t e in
    let c = (program_whole mode node ss i t e).pools.few_constants in
    let a = more_few (size_stmts ss + 0) 1 g.gain (visits_stmts ss + 0) g.few in
    let n : size_stmts ss + 0 + 1 ≡ 1 + size_stmts ss = omega arith in
    let b : (1 + size_stmts ss) * (1 + g.gain) ≤ (1 + size_stmts ss) * 1025 = mul-le-mul_left (1 + size_stmts ss) (omega (arith, c, g.constants)) in
    omega (arith, subst (λ k. visits_stmts ss + 0 + 1 ≤ k * (1 + g.gain)) n a, b)

-- THE BOUND IN ANY CASE
pub visits_most : (mode : ℕ) (tree : List ℕ) (work room : ℕ) (bytes : List ℕ) → finished mode tree work room ≡ imaged bytes → visits_program (read_program (fields tree)) ≤ length (fields tree) * 1025
visits_most mode tree work room bytes e =
    let l = finished_lowered mode tree work room bytes e in
    let s = accepted_size mode tree work l.nodes l.accepted in
    let n = (accepted mode tree work l.nodes l.accepted).nodes in
    let z : 1 + size_stmts (read_program (fields tree)) ≡ length (fields tree) = omega (arith, s, n) in
    subst (λ k. visits_program (read_program (fields tree)) ≤ k * 1025) z (program_most mode (l.nodes - 1) _ l.main l.state l.lowering)

-- the same of a lowering: 32,768 nodes at most
pub program_exact : (mode : ℕ) (tree : List ℕ) (work n i : ℕ) (t : State) → checked mode tree work ≡ Ok n → lower_program mode (n - 1) (read_program (fields tree)) ≡ done i t → visits_program (read_program (fields tree)) < 4294967296
program_exact mode tree work n i t a e =
    let s = accepted_size mode tree work n a in
    let h = accepted mode tree work n a in
    let b = program_most mode (n - 1) _ i t e in
    omega (arith, s, h.nodes, h.few, b)
