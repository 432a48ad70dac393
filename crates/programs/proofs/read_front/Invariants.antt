-- What was read stands in the room, and the room keeps the limit.
use Rattle.std.proofs.Common.{◌≤◌, vec_len}
use Rattle.programs.proofs.read_front.Given as goal

abbrev pub invariant-loop : goal.invariant-loop
invariant-loop g l = (l.count ≤ vec_len l.bytes) × (vec_len l.bytes ≤ l.limit)
