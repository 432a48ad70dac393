use native.Mathlib.Omega.{arith}
use mathlib.Core.Path.{ap, ◌∙◌}
use mathlib.Core.List.{[], ◌∷◌}
use Prim.Native.Nat.{◌+◌, ◌-◌}
use borrow.Rule.Slice.PartMut.{put_mid}
use Rattle.mend.proofs.Stored.{stored}
use Rattle.mend.proofs.put.put_return.Goals as goal

pub returns : goal.returns
returns c = let at = c.args.at in
    ap (put_mid at (at + 4 - at) c.args.out.now) c.copy_from_slice.ensures.after ∙ stored at (at + 4 - at) c.args.out.now (20 ∷ 0 ∷ 0 ∷ 0 ∷ []) (omega arith) (omega (arith, c.requires))
