-- Each way back is one law of Searching.antt: nothing around; main with its first block alone; a local of the function around; nothing beyond, or no room
-- there; a capture of the function around.
use Rattle.std.proofs.Common.{◌≡◌, ℕ, ◌-◌, ◌<◌, List, sym, refl, ap, ◌∙◌, arith}
use mathlib.Core.Option.{none}
use Rattle.std.specs.Prelude.{Option, Some, Result, Ok, Err, IsErr}
use Rattle.store.specs.declared.capture.NoRoom.{NoRoom}
use Rattle.store.specs.Layout.{local_at}
use Rattle.store.specs.Search.{found_of, seek}
use Rattle.store.proofs.Finding.{found_small}
use Rattle.store.proofs.Searching.{walked_to, sought_none, stop_at, local_found, beyond_found, captured_found, nothing_here}
use Rattle.store.proofs.capture.+search.Goals as goal

-- a register that `look` gives is a byte
register_small : (w : List ℕ) (n name a k : ℕ) (f : Option ℕ) (i : ℕ) → f ≡ found_of (seek name (local_at w n) a k none) → f ≡ Some i → i < 255
register_small w n name a k f i h e = rw e at (found_small w n name a k f h)

-- there is one refusal alone
no_room : {T : Type 0} (r : Result T NoRoom) (e : NoRoom) → IsErr r → r ≡ Err e
no_room (Ok x) e h = cc
no_room (Err x) e h = refl

pub returns-then-depth-eq0 : goal.returns-then-depth-eq0
returns-then-depth-eq0 t c = let a = c.args in
    rw c.if-depth-eq0.true (sought_none a.work.now a.nodes a.name)

pub returns-then-main_alone : goal.returns-then-main_alone
returns-then-main_alone t c = let a = c.args in
    stop_at a.work.now a.nodes (a.depth - 1) a.name a.depth (omega (arith, c.if-depth-eq0.false)) c.requires (sym c.main_alone.ensures ∙ c.if-main_alone.true)

pub returns-in_err-index : goal.returns-in_err-index
returns-in_err-index t c = let a = c.args in
    let w = a.work.now in
    let o : ℕ = a.depth - 1 in
    let here = nothing_here (walked_to w a.nodes o a.depth a.name) c.look.result c.look.ensures c.in_default.not-Some in
    rw (no_room c.from_residual.result c.in_err-index.field-0.0 c.from_residual.ensures.0) (beyond_found w a.nodes o a.name a.depth (omega (arith, c.if-depth-eq0.false)) c.requires (sym c.main_alone.ensures ∙ c.if-main_alone.false) here _ _ (rw c.in_err-index.was at c.search.ensures) (λ i e. cc))

pub returns-in_default-2 : goal.returns-in_default-2
returns-in_default-2 t c = let a = c.args in
    let w = a.work.now in
    let o : ℕ = a.depth - 1 in
    let here = nothing_here (walked_to w a.nodes o a.depth a.name) c.look.result c.look.ensures c.in_default.not-Some in
    rw (sym c.in_default-2.is) (beyond_found w a.nodes o a.name a.depth (omega (arith, c.if-depth-eq0.false)) c.requires (sym c.main_alone.ensures ∙ c.if-main_alone.false) here _ _ (rw c.in_ok-index.was at c.search.ensures) (λ i e. cc))

pub returns-in_err-add_upvalue : goal.returns-in_err-add_upvalue
returns-in_err-add_upvalue t c = let a = c.args in
    let w = a.work.now in
    let o : ℕ = a.depth - 1 in
    let here = nothing_here (walked_to w a.nodes o a.depth a.name) c.look.result c.look.ensures c.in_default.not-Some in
    rw (no_room c.from_residual-in_err-add_upvalue.result c.in_err-add_upvalue.field-0.0 c.from_residual-in_err-add_upvalue.ensures.0) (captured_found w a.nodes o a.name a.depth (omega (arith, c.if-depth-eq0.false)) c.requires (sym c.main_alone.ensures ∙ c.if-main_alone.false) here _ _ _ (c.in_ok-index.was ∙ ap Ok c.in-Some-2.is) c.search.ensures _ _ (rw c.in_err-add_upvalue.was at c.add_upvalue.ensures))

pub returns-in_default : goal.returns-in_default
returns-in_default t c = let a = c.args in
    let w = a.work.now in
    let o : ℕ = a.depth - 1 in
    let here = nothing_here (walked_to w a.nodes o a.depth a.name) c.look.result c.look.ensures c.in_default.not-Some in
    captured_found w a.nodes o a.name a.depth (omega (arith, c.if-depth-eq0.false)) c.requires (sym c.main_alone.ensures ∙ c.if-main_alone.false) here _ _ _ (c.in_ok-index.was ∙ ap Ok c.in-Some-2.is) c.search.ensures _ _ (rw c.in_ok-add_upvalue.was at c.add_upvalue.ensures)

pub overflow_add-register : goal.overflow_add-register
overflow_add-register t c = let small : c.in-Some.register < 255 = register_small _ _ _ _ _ _ _ c.look.ensures c.in-Some.is in
    omega arith

pub add_upvalue-requires-2 : goal.add_upvalue-requires-2
add_upvalue-requires-2 t c = let small : c.in-Some.register < 255 = register_small _ _ _ _ _ _ _ c.look.ensures c.in-Some.is in
    (omega (arith, c.requires.long), c.requires.deep, omega arith)

pub returns : goal.returns
returns t c = let a = c.args in
    local_found a.work.now a.nodes (a.depth - 1) a.name a.depth (omega (arith, c.if-depth-eq0.false)) c.requires (sym c.main_alone.ensures ∙ c.if-main_alone.false) _ (sym c.in-Some.is ∙ c.look.ensures) _ _ (rw c.in_ok-add_upvalue-2.was at c.add_upvalue-2.ensures)

pub returns-in_err-add_upvalue-2 : goal.returns-in_err-add_upvalue-2
returns-in_err-add_upvalue-2 t c = let a = c.args in
    rw (no_room c.from_residual-in_err-add_upvalue-2.result c.in_err-add_upvalue-2.field-0.0 c.from_residual-in_err-add_upvalue-2.ensures.0) (local_found a.work.now a.nodes (a.depth - 1) a.name a.depth (omega (arith, c.if-depth-eq0.false)) c.requires (sym c.main_alone.ensures ∙ c.if-main_alone.false) _ (sym c.in-Some.is ∙ c.look.ensures) _ _ (rw c.in_err-add_upvalue-2.was at c.add_upvalue-2.ensures))
