-- A local, then a capture, then what stands outside the functions.
use mathlib.Core.Path.{ap}
use native.Mathlib.Omega.{arith}
use lib.Dec.{lit<}
use Rattle.forward.proofs.Chains.{variable_chain}
use Rattle.store.specs.Search.{option_of}
use Rattle.store.specs.Promise.{nothing}
use Rattle.store.proofs.Compose.{known, settled}
use Rattle.store.specs.Cell.{Bytes}
use Rattle.store.specs.Store.{outcome_of, result_of}
use Rattle.routines.proofs.Held.{found_small}
use Rattle.routines.proofs.NodeLine.{one, asked, ◌▹◌, room_after, always, small_emit, gives, told_by}
use Rattle.routines.proofs.variable_expr.visit_variable_expr.Goals as goal

pub returns-in-Some : goal.returns-in-Some
returns-in-Some c = let get_var_register = c.get_var_register in
    let settle = c.settle in
    let a = c.args in
    let e = c.in-Some.is in
    let small = found_small e get_var_register.ensures.1 in
    let d = settled a.step c.in-Some.register (omega arith) c.requires.0 in
    rw settle.ensures (gives nothing (one d) (omega arith) (omega arith) (omega arith) (λ z. omega arith) (omega arith)
    (λ ps. variable_chain _ _ _ _ _ (told_by (ap option_of e) (get_var_register.ensures.0 a.step ps)) _ (d.runs ps)) (always (outcome_of a.step) small))

pub visit_outside-requires : goal.visit_outside-requires
visit_outside-requires c = let get_upvalue = c.get_upvalue-sought in
    let sought = asked get_upvalue.ensures.0 in
    (sought.moves.fine, room_after 0 0 0 sought c.requires.1 (omega arith) (omega arith) (omega arith), c.requires.2)

pub returns-in_default-found : goal.returns-in_default-found
returns-in_default-found c = let get_upvalue = c.get_upvalue-sought in
    let visit_outside = c.visit_outside in
    let match = c.in_default in
    let get_var_register = c.get_var_register in
    let match2 = c.in_default-found in
    let a = c.args in
    let b = get_upvalue.ensures.0 in
    let d = visit_outside.ensures in
    gives nothing (asked b ▹ one d.leaf) (omega arith) (omega arith) (omega arith) (λ z. omega arith) (omega arith)
    (λ ps. variable_chain _ _ _ _ _ (told_by (ap option_of match.is) (get_var_register.ensures.0 a.step ps)) _ _ (told_by (ap option_of match2.is) (b.tells ps)) _ (d.leaf.runs ps)) d.small

pub emit-requires : goal.emit-requires
emit-requires c = let get_upvalue = c.get_upvalue-sought in
    let next_register = c.next_register-register in
    let line = asked get_upvalue.ensures.0 ▹ one next_register.ensures.0 in
    let register = result_of next_register.result in
    let small = next_register.ensures.1 in
    let index = found_small c.in-Some-found.is get_upvalue.ensures.1 in
    let bytes : Bytes 22 register c.in-Some-found.index 0 = record { op_small = lit< tt; a_small = omega arith; b_small = omega arith; c_small = lit< tt } in
    (line.moves.fine, room_after 0 2 0 line c.requires.1 (omega arith) (omega arith) (omega arith), always (outcome_of next_register.result) bytes)

pub returns : goal.returns
returns c = let get_upvalue = c.get_upvalue-sought in
    let next_register = c.next_register-register in
    let emit = c.emit in
    let match = c.in_default in
    let get_var_register = c.get_var_register in
    let a = c.args in
    let b = get_upvalue.ensures.0 in
    let n = next_register.ensures.0 in
    let d = emit.ensures in
    gives nothing (asked b ▹ one n ▹ one d) (omega arith) (omega arith) (omega arith) (λ z. omega arith) (omega arith)
    (λ ps. variable_chain _ _ _ _ _ (told_by (ap option_of match.is) (get_var_register.ensures.0 a.step ps)) _ _ (told_by (ap option_of c.in-Some-found.is) (b.tells ps)) _ (n.runs ps) _ (known _ _ _ ps) _ (d.runs ps))
    (small_emit d next_register.ensures.1)
