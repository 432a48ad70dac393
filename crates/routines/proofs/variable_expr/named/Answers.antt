-- The register, then the name's constant.
use native.Mathlib.Omega.{arith}
use Rattle.forward.proofs.Chains.{named_chain}
use Rattle.store.specs.Promise.{nothing}
use Rattle.store.proofs.Compose.{known}
use Rattle.routines.proofs.NodeLine.{one, ◌▹◌, small_put, gives}
use Rattle.routines.proofs.variable_expr.named.Goals as goal

pub returns : goal.returns
returns c = let next_register = c.next_register-register in
    let add-name = c.add_name-constant in
    let put-bx = c.put_bx in
    let a = next_register.ensures.0 in
    let b = add-name.ensures in
    let d = put-bx.ensures in
    gives nothing (one a ▹ one b ▹ one d) (omega arith) (omega arith) (omega arith) (λ z. omega arith) (omega arith)
    (λ ps. named_chain _ _ _ _ _ (a.runs ps) _ (known _ _ _ ps) _ (b.runs ps) _ (known _ _ _ ps) _ (d.runs ps))
    (small_put d next_register.ensures.1)
