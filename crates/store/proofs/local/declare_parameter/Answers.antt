-- The register pays for the local; the second step reads the first's result (`leaf_read`).
use Rattle.std.proofs.Common.{refl, arith}
use Rattle.store.proofs.Runs.{promised}
use Rattle.store.proofs.Compose.{room_then, room_by, leaf_read}
use Rattle.meaning.specs.State as definition
use Rattle.forward.specs.Forward.{fwd_number, fwd_unit}
use Rattle.store.proofs.local.declare_parameter.Goals as goal

pub allocate_register-requires : goal.allocate_register-requires
allocate_register-requires c = let next_register = c.next_register-taken in
    let n = next_register.ensures in
    let room = room_then 0 0 0 refl (omega arith) n.0.moves (room_by 0 0 0 (omega arith) (omega arith) c.requires.1) in
    (n.0.moves.fine, room_by 0 1 1 (omega arith) (omega arith) room, c.requires.2, promised next_register.result.outcome (λ g. n.1))

pub returns : goal.returns
returns c = let next_register = c.next_register-taken in
    let allocate_register = c.allocate_register in
    let a = c.args in
    (leaf_read (fwd_number (definition.next_register a.node)) (λ s. fwd_unit (definition.allocate_register a.name s.result)) refl (omega arith) (omega arith) next_register.ensures.0 allocate_register.ensures, next_register.ensures.1)
