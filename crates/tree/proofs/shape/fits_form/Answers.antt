-- Each way through the code is a law of forms.
use mathlib.Core.Path.{◌≡◌, refl, ◌∙◌}
use mathlib.Core.Bool.{true}
use mathlib.Core.Logic.{inl, inr}
use Prim.Native.Nat.{ℕ, ◌<◌, ◌≤◌}
use native.Mathlib.Omega.{arith}
use lib.ListN.{length, get_or}
use Rattle.meaning.specs.Grammar.{names}
use Rattle.tree.specs.Rows.{number}
use Rattle.tree.specs.Starts.{says}
use Rattle.tree.proofs.Forms.{form_says, sizes, wrong_first, no_child, one_child, wrong_child, two_children}
use Rattle.tree.proofs.shape.fits_form.Goals as goal
use Rattle.tree.proofs.shape.fits_form.Goals.{After-word-w, Start, then-w-form-via-then-w-form, then-w-form-via-else-w-form+then-form-w, else-form-eq2-via-then-form-eq2+else-not-child, else-form-eq2-via-else-form-eq2}

-- what the payload's form says
said : (s : goal.Start) → let f = s.args.form.now in says s.args.start.now.row f.size f.children f.low f.high ≡ true
said s = form_says _ s.requires.2 _ s.requires.3

bytes : (c : goal.After-word-w) → (j : ℕ) → get_or c.args.p.now j 0 < 256
bytes c j = omega (arith, c.type_inv.p j)

-- the payload has a word, and as many more as it has children
long : (s : goal.Start) → (2 ≤ length s.args.p.now) × (s.args.form.now.children ≡ 2 → 4 ≤ length s.args.p.now)
long s = let z = sizes _ _ _ _ _ (said s) in (omega (arith, z, s.requires.4), λ q. omega (arith, q, z, s.requires.4))

pub returns-then-w-form : goal.returns-then-w-form
returns-then-w-form c = let s = (goal.at.returns-then-w-form c).Start in let k = (goal.at.returns-then-w-form c).After-word-w in elim c.then-w-form.branch [
  | then-w-form-via-then-w-form w ↦ wrong_first _ _ _ _ _ (said s) _ _ _ c.requires.2.low c.requires.4 (bytes k) _ c.word-w.ensures.0 (inl w.if-w-form.true)
  | then-w-form-via-else-w-form+then-form-w w ↦ wrong_first _ _ _ _ _ (said s) _ _ _ c.requires.2.low c.requires.4 (bytes k) _ c.word-w.ensures.0 (inr w.if-form-w.true)
]

pub returns-then-form-eq0 : goal.returns-then-form-eq0
returns-then-form-eq0 c = no_child _ _ _ _ _ (said (goal.at.returns-then-form-eq0 c).Start) _ _ _ c.requires.2.low c.requires.4 (bytes (goal.at.returns-then-form-eq0 c).After-word-w) _ c.word-w.ensures.0 c.if-w-form.false c.if-form-w.false c.if-form-eq0.true

pub returns-then-not-child : goal.returns-then-not-child
unfolding number
returns-then-not-child c = wrong_child _ _ _ _ _ (said (goal.at.returns-then-not-child c).Start) _ _ _ c.requires.2.low c.requires.4 (bytes (goal.at.returns-then-not-child c).After-word-w) _ c.word-w.ensures.0 c.if-w-form.false c.if-form-w.false
    c.if-form-eq2.true _ c.word.ensures.0 _ _ c.child.ensures.lawful c.child.ensures.noted c.if-not-child.true

pub returns : goal.returns
unfolding number
returns c = let s = (goal.at.returns c).Start in let k = (goal.at.returns c).After-word-w in elim c.else-form-eq2.branch [
  | else-form-eq2-via-then-form-eq2+else-not-child w ↦ two_children _ _ _ _ _ (said s) _ _ _ c.requires.2.low c.requires.4 (bytes k) _ c.word-w.ensures.0 c.if-w-form.false c.if-form-w.false
      w.if-form-eq2.true _ w.word.ensures.0 _ _ w.child.ensures.lawful (w.scratch-is ∙ w.child.ensures.noted) w.if-not-child.false _ c.word-2.ensures.0 _ _ c.child-2.ensures.lawful c.child-2.ensures.noted
  | else-form-eq2-via-else-form-eq2 w ↦ one_child _ _ _ _ _ (said s) _ _ _ c.requires.2.low c.requires.4 (bytes k) _ c.word-w.ensures.0 c.if-w-form.false c.if-form-w.false
      _ c.word-2.ensures.0 (omega (arith, c.if-form-eq0.false, w.if-form-eq2.false, sizes _ _ _ _ _ (said s))) _ _ (rw w.scratch-is at c.child-2.ensures.lawful) (rw w.scratch-is at c.child-2.ensures.noted)
]

pub word-w-requires : goal.word-w-requires
word-w-requires c = (long (goal.at.word-w-requires c).Start).0

pub overflow_sub-p : goal.overflow_sub-p
overflow_sub-p c = (long (goal.at.overflow_sub-p c).Start).1 c.if-form-eq2.true

pub word-requires : goal.word-requires
word-requires c = omega (arith, (long (goal.at.word-requires c).Start).1 c.if-form-eq2.true)

pub child-requires : goal.child-requires
unfolding names number
child-requires c = (c.requires.0, c.requires.1, refl)

pub overflow_sub-p-2 : goal.overflow_sub-p-2
overflow_sub-p-2 c = (long (goal.at.overflow_sub-p-2 c).Start).0

pub word-requires-2 : goal.word-requires-2
word-requires-2 c = omega (arith, (long (goal.at.word-requires-2 c).Start).0)

pub child-requires-2 : goal.child-requires-2
unfolding names number
child-requires-2 c = (c.requires.0, omega (arith, c.requires.1, c.else-form-eq2.auto.scratch), refl)
