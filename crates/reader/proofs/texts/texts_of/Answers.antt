-- The invariant is `Naming`: the table says which of the constants before what is left are texts.
use mathlib.Core.Path.{refl, sym, ap, ◌∙◌, subst}
use mathlib.Core.Bool.{cond}
use mathlib.Core.List.{List}
use mathlib.Core.Logic.{⊎_elim}
use Prim.Native.Nat.{ℕ, ◌<◌, ◌≤◌}
use native.Mathlib.Omega.{arith}
use lib.ListN.{length}
use lib.Dec.{eqb}
use Rattle.fields.specs.declared.Fields.{Fields}
use Rattle.meaning.specs.Fields.{fields}
use Rattle.meaning.specs.Images.{parts}
use Rattle.meaning.proofs.Lists.{lt_or_le}
use Rattle.reader.proofs.Naming.{Naming, naming_start, naming_more, room, named_table}
use Rattle.reader.proofs.texts.texts_of.Goals as goal
use Rattle.reader.proofs.texts.texts_of.Goals.{After-prototype}

few : (c : goal.After-prototype) → length (parts c.args.tag (fields c.args.image.now)).prototypes ≤ 256
few c = ⊎_elim
    (λ (h : 256 < length (parts c.args.tag (fields c.args.image.now)).prototypes). absurd (let z = (c.prototype.ensures.0.there h).few in omega arith))
    (λ (h : length (parts c.args.tag (fields c.args.image.now)).prototypes ≤ 256). h)
    (lt_or_le 256 (length (parts c.args.tag (fields c.args.image.now)).prototypes))

pub loop-field-init : goal.loop-field-init
loop-field-init c = let im = parts c.args.tag (fields c.args.image.now) in
    let e = ap (λ (s : Fields). s.rest.now) c.into_iter-field-iterator.ensures.into_iter_gives ∙ c.new-field-items.ensures in
    subst (λ (t : List ℕ). Naming im.constants c.args.tag (length im.prototypes) t 0 c.args.texts.now) (sym e)
    (naming_start _ _ _ _ _ (c.prototype.ensures.0.beyond (few (goal.at.loop-field-init c).After-prototype)) c.requires.1)

pub loop-field-preserved : goal.loop-field-preserved
loop-field-preserved c = let s = c.in-Some.ensures.steps in
    naming_more _ _ _ c.requires.0.width _ _ _ c.loop-field.invariant s.0 _ s.2 _ (c.text_flag.ensures ∙ ap (λ (n : ℕ). cond {A = ℕ} (eqb n 0x45) 1 0) s.1.0) _ refl

pub returns : goal.returns
returns c = named_table _ _ _ c.requires.0.width _ _ _ c.loop-field.invariant c.in-None.ensures.steps.0

pub bounds-texts-count : goal.bounds-texts-count
bounds-texts-count c = omega (arith, room _ _ _ c.requires.0.width _ _ _ c.loop-field.invariant c.in-Some.ensures.steps.0, c.loop-field.invariant.size)
