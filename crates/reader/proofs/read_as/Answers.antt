-- Each stage's answer is that of the definition (Answered).
use mathlib.Core.Path.{◌≡◌, ◌∙◌}
use mathlib.Core.Bool.{true}
use Rattle.meaning.specs.Check.{framed}
use Rattle.reader.proofs.Answered.{frame_fails, frame_whole, order_fails, order_holds, facts_tell}
use Rattle.reader.proofs.read_as.Goals as goal
use Rattle.reader.proofs.read_as.Goals.{Else-framed}

framed_is : (c : goal.Else-framed) → framed c.args.image.now ≡ true
framed_is c = let f = c.order-walked in frame_whole _ _ _ f.ensures.0 f.ensures.1 c.if-framed.false

pub returns-then-framed : goal.returns-then-framed
returns-then-framed c = let x = c.args in frame_fails _ _ _ c.order-walked.ensures.0 c.order-walked.ensures.1 c.if-framed.true x.mend x.tag

pub read_facts-requires : goal.read_facts-requires
read_facts-requires c = record {
  width = c.requires;
  order = order_holds _ _ _ c.order-walked.ensures.2 c.in-None.is;
}

pub returns-in-None : goal.returns-in-None
returns-in-None c = c.read_facts.ensures ∙ facts_tell _ _ (framed_is (goal.at.returns-in-None c).Else-framed) _ _ c.order-walked.ensures.2 _ c.order-walked.ensures.0 c.in-None.is

pub returns-in-Some : goal.returns-in-Some
returns-in-Some c = order_fails _ _ (framed_is (goal.at.returns-in-Some c).Else-framed) _ _ c.order-walked.ensures.2 _ c.in-Some.is
