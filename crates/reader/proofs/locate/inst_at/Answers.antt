-- The bytes from the place on are those of what stands from there on.
use native.Mathlib.Omega.{arith}
use Rattle.reader.proofs.Scanned.{inst_read}
use Rattle.reader.proofs.locate.inst_at.Goals as goal

pub mark_at-requires : goal.mark_at-requires
mark_at-requires c = let h = c.requires in (omega (arith, h.0), λ q. omega (arith, h.1 q))

pub returns : goal.returns
returns c = inst_read c.args.s.now c.args.tag c.args.at _ c.mark_at.ensures
