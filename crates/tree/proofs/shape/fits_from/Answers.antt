-- The invariant is `Fitting`: what is to be answered and noted from here on is what was at the start. The measure is the rest of the payload.
use mathlib.Core.Path.{◌≡◌, refl, sym, ap, ◌∙◌}
use mathlib.Core.Bool.{Bool, true, false, cond}
use mathlib.Core.List.{List}
use Prim.Native.Nat.{ℕ, ◌+◌, ◌*◌}
use native.Mathlib.Omega.{arith}
use lib.ListN.{get_or}
use borrow.Author.Tests.{eqb-true, eqb-false}
use Rattle.meaning.specs.Fields.{word_at}
use Rattle.tree.proofs.Payloads.{fitting_start, fitting_more, fitting_stop, fitting_odd, fitting_end}
use Rattle.tree.proofs.shape.fits_from.Goals as goal

pair : (q : List ℕ) (a b : ℕ) → a ≡ get_or q 0 0 → b ≡ get_or q 1 0 → a * 256 + b ≡ word_at q 0
pair q a b ea eb = rw (ea, eb) refl

-- the scratch after a word, by whether it was lawful
left : (b : Bool) (r : Bool) (l x y : List ℕ) → l ≡ cond r x y → r ≡ b → l ≡ cond b x y
left b r l x y e f = e ∙ ap (λ (t : Bool). cond t x y) f

pub loop-q-preserved : goal.loop-q-preserved
loop-q-preserved c = fitting_more _ _ _ _ _ _ _ _ c.loop-q.invariant c.in-len2-up.len_at_least _ _ (pair c.loop-q.q.now _ _ c.from.ensures c.from-in-len2-up.ensures) refl _ _ _
    (sym c.if-not-admit.false ∙ c.admit.ensures.lawful)
    (left true _ _ _ _ c.admit.ensures.noted c.if-not-admit.false)
    c.after-place.ensures.0
    c.after-place.ensures.1

pub returns-then-not-admit : goal.returns-then-not-admit
returns-then-not-admit c = fitting_stop _ _ _ _ _ _ _ _ c.loop-q.invariant c.in-len2-up.len_at_least _ _ (pair c.loop-q.q.now _ _ c.from.ensures c.from-in-len2-up.ensures) refl _
    (sym c.if-not-admit.true ∙ c.admit.ensures.lawful)
    (left false _ _ _ _ c.admit.ensures.noted c.if-not-admit.true)

pub returns-then-is_empty : goal.returns-then-is_empty
returns-then-is_empty c = fitting_end _ _ _ _ _ _ _ _ c.loop-q.invariant _ refl (eqb-true _ 0 (sym c.is_empty.ensures ∙ c.if-is_empty.true))

pub returns-else-is_empty : goal.returns-else-is_empty
returns-else-is_empty c = rw c.if-is_empty.false (fitting_odd _ _ _ _ _ _ _ _ c.loop-q.invariant (omega (arith, c.in_default.len_below, eqb-false _ 0 (sym c.is_empty.ensures ∙ c.if-is_empty.false))))
