use mathlib.Core.Path.{sym, ◌∙◌}
use native.Mathlib.Omega.{arith}
use borrow.Author.Tests.{eqb-true, eqb-false}
use Rattle.meaning.proofs.FieldLaws.{whole_true}
use Rattle.meaning.proofs.Lists.{false_true}
use Rattle.reader.proofs.locate.heads.Goals as goal

pub returns-then-is_whole : goal.returns-then-is_whole
returns-then-is_whole c = (λ e. (sym c.is_whole.ensures ∙ c.if-is_whole.true, eqb-true _ _ e), λ e w q. eqb-false _ _ e q)

pub returns : goal.returns
returns c = (λ e. absurd (false_true e), λ e w q. false_true (sym c.if-is_whole.false ∙ c.is_whole.ensures ∙ w))

pub bounds-t-0 : goal.bounds-t-0
bounds-t-0 c = omega (arith, whole_true _ (sym c.is_whole.ensures ∙ c.if-is_whole.true))
