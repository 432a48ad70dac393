-- With 47 four bytes stand there.
use mathlib.Core.Path.{ap, ap₂, ◌∙◌}
use Prim.Native.Nat.{ℕ, ◌+◌, ◌*◌}
use borrow.Author.Tests.{eq-eqb, ne_eqb}
use Rattle.meaning.specs.Grammar.{short_mark}
use Rattle.reader.proofs.locate.mark_at.Goals as goal

pub returns-then-tag-eq71 : goal.returns-then-tag-eq71
returns-then-tag-eq71 c = rw (eq-eqb c.args.tag 0x47 c.if-tag-eq71.true) (ap₂ (λ (x y : ℕ). x * 65536 + y) c.word.ensures.0 c.word-then-tag-eq71.ensures.0)

pub returns : goal.returns
returns c = rw (ne_eqb c.args.tag 0x47 c.if-tag-eq71.false) (c.short_mark.ensures ∙ ap short_mark c.word-2.ensures.0)
