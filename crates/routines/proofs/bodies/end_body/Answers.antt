-- `routines::bodies::end_body` meets its contract: the refusals in their order, Return with the last instruction's mark, or nothing. Assumes nothing.
use mathlib.Core.Path.{◌≡◌, sym, ap}
use mathlib.Core.List.{List}
use borrow.Author.Tests.{eq-eqb, ne_eqb}
use lib.ListN.{length, get_or}
use Prim.Native.Nat.{ℕ, ◌-◌, ◌≤◌}
use Rattle.meaning.specs.Opcode.{inst}
use Rattle.store.specs.Table.{tab}
use Rattle.store.specs.Layout.{mark_cell, inst_at}
use native.Mathlib.Omega.{arith}
use Rattle.store.specs.Promise.{uses}
use Rattle.store.specs.Store.{top_of, pc_of, result_of}
use Rattle.store.proofs.Runs.{leaf_absorbed}
use Rattle.store.proofs.Tables.{tab_length, tab_getD}
use Rattle.meaning.specs.declared.Cause.TheVariants.{Returned, Empty}
use Rattle.forward.specs.Forward.{pick, end_body}
use Rattle.code.proofs.Coded.{met, starts, coded, leaf_as, refusing}
use Rattle.routines.proofs.bodies.end_body.Goals as goal

-- the mark of the last instruction
last_mark : (w : List ℕ) (top k : ℕ) → 1 ≤ k → get_or w (mark_cell top (k - 1)) 0 ≡ (get_or (tab (inst_at w top) k) (length (tab (inst_at w top) k) - 1) (inst 0 0 0 0 0)).mark
last_mark w top k h =
    rw (tab_length (inst_at w top) k) (sym (ap (λ i. i.mark) (tab_getD (inst_at w top) k (k - 1) (inst 0 0 0 0 0) (omega arith))))

pub returns-in_default : goal.returns-in_default
returns-in_default c = leaf_absorbed (uses 2 0 0) _ c.requires.0 c.in_default.is

pub returns-then-result-eq254 : goal.returns-then-result-eq254
unfolding end_body pick
returns-then-result-eq254 c = let a = c.args in
    rw c.refuse.ensures
    (refusing (uses 2 0 0) _ Returned a.node c.requires.0 c.in-Ok.is (λ t. rw (eq-eqb a.count 1 c.if-count-eq1.true, eq-eqb (result_of a.step) 254 c.if-result-eq254.true)))

pub returns-then-pc-first : goal.returns-then-pc-first
unfolding end_body pick
returns-then-pc-first c = let a = c.args in
    let size = tab_length (inst_at a.work.now (top_of a.scope)) (pc_of a.step) in
    rw c.refuse-then-pc-first.ensures
    (refusing (uses 2 0 0) _ Empty a.node c.requires.0 c.in-Ok.is (λ t. rw (eq-eqb a.count 1 c.if-count-eq1.true, ne_eqb (result_of a.step) 254 c.if-result-eq254.false, size, eq-eqb (pc_of a.step) a.first c.if-pc-first.true)))

pub returns-then-count-eq1 : goal.returns-then-count-eq1
unfolding end_body pick
returns-then-count-eq1 c = let if1 = c.if-count-eq1 in
    let if2 = c.if-result-eq254 in
    let if3 = c.if-pc-first in
    let a = c.args in
    let w = a.work.now in
    let h = met c.in-Ok.is c.requires.2 in
    let some : 1 ≤ pc_of a.step = omega (arith, h, if3.false) in
    let size = tab_length (inst_at w (top_of a.scope)) (pc_of a.step) in
    leaf_as _ _
    (λ t. rw (c.mark_at-mark.ensures, eq-eqb a.count 1 if1.true, ne_eqb (result_of a.step) 254 if2.false, ← (last_mark w (top_of a.scope) (pc_of a.step) some), size, ne_eqb (pc_of a.step) a.first if3.false))
    c.put.ensures

pub returns : goal.returns
unfolding end_body pick
returns c = let a = c.args in
    let fine = c.requires.0 in
    rw c.advance.ensures (coded 0 2 _ fine c.in-Ok.is (starts fine) (omega arith) (omega arith) (omega arith) (λ t. rw (ne_eqb a.count 1 c.if-count-eq1.false)))
