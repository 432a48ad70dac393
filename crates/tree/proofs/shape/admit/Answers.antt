-- Each way through the code is a law of `lawful` and `note_word`.
use mathlib.Core.Path.{◌≡◌, refl, sym, ◌∙◌}
use mathlib.Core.Bool.{Bool, true, false, not, ◌&&◌}
use Prim.Native.Nat.{ℕ, ◌<◌, ◌≤◌}
use denote.Enum.Bare.{sameb, same_true}
use Rattle.std.proofs.Common.{rules}
use Rattle.tree.specs.contracts.rows.Kind.{the_type}
use native.Mathlib.Omega.{arith}
use lib.Dec.{leb}
use borrow.Author.Tests.{leb-false}
use Rattle.meaning.specs.Grammar.{any, expr, super, absent, names}
use Rattle.meaning.proofs.Lists.{false_true}
use Rattle.tree.specs.declared.rows.Kind.{Kind}
use Rattle.tree.specs.declared.rows.Kind.TheVariants.{Nothing, Any, Name, Op, Op12, Count, Expr, Stmt, Elif, Method, Super, Init}
use Rattle.tree.specs.Rows.{number}
use Rattle.tree.proofs.Words.{word_lawful, child_absent}
use Rattle.tree.proofs.Forms.{any_inside}
use Rattle.tree.proofs.shape.admit.Goals as goal

there : (b : Bool) → b && true ≡ false → not b ≡ true
there true e = sym e
there false e = refl

none : (b c : Bool) → b && c ≡ true → not b ≡ false
none true c e = refl
none false c e = absurd (false_true e)

-- a word of a child that is not absent names it
named : (k : Kind) (w : ℕ) → leb expr (number k) ≡ true → absent w && leb super (number k) ≡ false → names (number k) w ≡ true
unfolding names number
named Nothing w e a = absurd (false_true e)
named Any w e a = absurd (false_true e)
named Name w e a = absurd (false_true e)
named Op w e a = absurd (false_true e)
named Op12 w e a = absurd (false_true e)
named Count w e a = absurd (false_true e)
named Expr w e a = refl
named Stmt w e a = refl
named Elif w e a = refl
named Method w e a = refl
named Super w e a = there (absent w) a
named Init w e a = there (absent w) a

both : (b : Bool) → b && false ≡ true → ⊥
both true e = false_true e
both false e = false_true e

unnamed : (k : Kind) (w : ℕ) → absent w && leb super (number k) ≡ true → (names (number k) w ≡ false) × (6 ≤ number k)
unfolding names number
unnamed Nothing w e = absurd (both (absent w) e)
unnamed Any w e = absurd (both (absent w) e)
unnamed Name w e = absurd (both (absent w) e)
unnamed Op w e = absurd (both (absent w) e)
unnamed Op12 w e = absurd (both (absent w) e)
unnamed Count w e = absurd (both (absent w) e)
unnamed Expr w e = absurd (both (absent w) e)
unnamed Stmt w e = absurd (both (absent w) e)
unnamed Elif w e = absurd (both (absent w) e)
unnamed Method w e = absurd (both (absent w) e)
unnamed Super w e = (none (absent w) true e, omega arith)
unnamed Init w e = (none (absent w) true e, omega arith)

-- no other word names one
plain : (k : Kind) (w : ℕ) → leb expr (number k) ≡ false → (names (number k) w ≡ false) × (number k < 6)
unfolding names number
plain Nothing w e = (refl, omega arith)
plain Any w e = (refl, omega arith)
plain Name w e = (refl, omega arith)
plain Op w e = (refl, omega arith)
plain Op12 w e = (refl, omega arith)
plain Count w e = (refl, omega arith)
plain Expr w e = absurd (false_true (sym e))
plain Stmt w e = absurd (false_true (sym e))
plain Elif w e = absurd (false_true (sym e))
plain Method w e = absurd (false_true (sym e))
plain Super w e = absurd (false_true (sym e))
plain Init w e = absurd (false_true (sym e))

pub child-requires : goal.child-requires
unfolding names number
child-requires c = (c.requires.0, c.requires.1, refl)

pub child-requires-then-eq-3 : goal.child-requires-then-eq-3
unfolding names number
child-requires-then-eq-3 c = (c.requires.0, c.requires.1, refl)

pub child-requires-then-is_child : goal.child-requires-then-is_child
child-requires-then-is_child c = (c.requires.0, c.requires.1, named _ _ (sym c.is_child.ensures ∙ c.if-is_child.true) (sym c.is_absent.ensures ∙ c.if-is_absent.false))

any_names : (w : ℕ) → names any w ≡ false
unfolding names
any_names w = refl

same : (k j : Kind) (r : Bool) → r ≡ sameb the_type k j → r ≡ true → k ≡ j
same k j r e t = same_true the_type (search rules) k j (sym e ∙ t)

pub returns-then-eq : goal.returns-then-eq
unfolding number
returns-then-eq c = let q : c.args.kind ≡ Any = same c.args.kind Any _ c.eq.ensures c.if-eq.true in rw q (word_lawful _ _ any _ (any_names _) true (omega arith) (sym (any_inside _ c.requires.2)))

pub returns-then-eq-2 : goal.returns-then-eq-2
returns-then-eq-2 c = let q : c.args.kind ≡ Expr = same c.args.kind Expr _ c.eq-2.ensures c.if-eq-2.true in rw q c.child.ensures

pub returns-then-eq-3 : goal.returns-then-eq-3
returns-then-eq-3 c = let q : c.args.kind ≡ Stmt = same c.args.kind Stmt _ c.eq-3.ensures c.if-eq-3.true in rw q c.child-then-eq-3.ensures

pub returns-then-is_absent : goal.returns-then-is_absent
returns-then-is_absent c = let a = unnamed _ _ (sym c.is_absent.ensures ∙ c.if-is_absent.true) in child_absent _ _ _ _ a.0 a.1

pub returns : goal.returns
returns c = let p = plain _ _ (sym c.is_child.ensures ∙ c.if-is_child.false) in word_lawful _ _ _ _ p.0 _ p.1 c.admits.ensures
