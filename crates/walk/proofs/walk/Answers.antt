-- The lent bytes are cleared; then the answer is the reader's refusal, or that of `walk_taken`.
use mathlib.Core.Path.{◌≡◌, sym, ap, ◌∙◌}
use mathlib.Core.Option.{none}
use Prim.Native.Nat.{ℕ}
use lib.ListN.{length, replicate}
use Rattle.meaning.specs.Fields.{fields}
use Rattle.meaning.specs.Images.{image_of}
use Rattle.meaning.specs.Reader.{broken, image_tag, read_as}
use Rattle.meaning.specs.Walker.{Walking, Asked, asked, walk_in, walk_image, walk_read}
use Rattle.std.specs.Prelude.{Ok}
use Rattle.reader.proofs.Answered.{outcome_of, accepted_ordered}
use Rattle.walk.proofs.Arrived.{answered_so, read_taken}
use Rattle.walk.proofs.walk.Goals as goal
use Rattle.walk.proofs.walk.Goals.{After-walk_taken-arg-1, Start}

abbrev A : goal.Start → (lent : ℕ) → Asked
A s n = asked s.args.decisions.now s.args.strikes.now s.args.budget n

-- the walk of an image read at a tag; at its own, by which it is answered
abbrev W-as : goal.Start → (tag : ℕ) → Walking
W-as s tag = walk_image tag s.args.image.now s.args.prototype s.args.decisions.now s.args.strikes.now s.args.budget (length s.args.visited.now)

abbrev W : goal.Start → Walking
W s = W-as s (image_tag s.args.image.now)

-- where it is accepted
accepted : (c : goal.After-walk_taken-arg-1) → outcome_of c.image_tag-tag.result c.args.image.now ≡ Ok c.in-Ok.field-0
accepted c = ap (λ (tag : ℕ). outcome_of tag c.args.image.now) c.image_tag-tag.ensures.0 ∙ sym c.read-outcome.ensures ∙ c.in-Ok.is

taken : (c : goal.After-walk_taken-arg-1) (a : Asked)
    → (broken (image_of c.image_tag-tag.result (fields c.args.image.now)) ≡ none) × (walk_in (image_of c.image_tag-tag.result (fields c.args.image.now)) c.args.prototype a ≡ walk_read (read_as c.image_tag-tag.result c.args.image.now) c.args.prototype a)
taken c a = read_taken c.image_tag-tag.result c.args.image.now c.args.prototype a _ (accepted c)

pub returns-in-Ok : goal.returns-in-Ok
returns-in-Ok c = let p = goal.at.returns-in-Ok c in
    let s = p.Start in
    let tag = c.image_tag-tag.result in
    let a = answered_so _ (W s) c.args.budget _ (length c.args.visited.now) _ _
    (ap (λ (m : ℕ). walk_in (image_of tag (fields c.args.image.now)) c.args.prototype (A s m)) c.clear.auto.bytes
    ∙ (taken p.After-walk_taken-arg-1 (A s (length c.args.visited.now))).1 ∙ ap (W-as s) c.image_tag-tag.ensures.0)
    c.clear.auto.bytes (c.walk_taken.ensures.answer, (c.walk_taken.ensures.visited, c.walk_taken.ensures.within)) in
    record { answer = a.0; visited = a.1.0; within = a.1.1 }

pub walk_taken-requires : goal.walk_taken-requires
walk_taken-requires c = (
  accepted_ordered c.image_tag-tag.result c.args.image.now _ (accepted c) c.image_tag-tag.ensures.1,
  (taken c (asked c.args.decisions.now c.args.strikes.now c.args.budget 0)).0,
  c.clear.ensures ∙ ap (λ (n : ℕ). replicate n 0) (sym c.clear.auto.bytes),
)
