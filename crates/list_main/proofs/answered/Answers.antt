-- An image that is accepted is in order, at its own tag.
use mathlib.Core.Path.{sym, ap, ◌∙◌}
use Prim.Native.Nat.{ℕ}
use Rattle.reader.proofs.Answered.{outcome_of, accepted_ordered}
use Rattle.list_main.proofs.answered.Goals as goal

pub listed-requires : goal.listed-requires
listed-requires g c = let t = c.image_tag.ensures in
    accepted_ordered _ _ _ (ap (λ (tag : ℕ). outcome_of tag c.args.image.now) t.0 ∙ sym c.read-outcome.ensures ∙ c.in-Ok.is) t.1
