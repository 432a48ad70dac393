-- A leaf of several calls is a line of smaller leaves in one scope. At each call it stands somewhere on its line, and what the call asks follows from the
-- room at the entry and from what was used since; at the end its equation follows from theirs (forward's chains), and its cost is the sum of theirs.
use Prim.Native.Nat.{ℕ, ◌+◌, ◌≤◌, ◌<◌}
use mathlib.Core.Path.{◌≡◌, refl}
use mathlib.Core.List.{List}
use native.Mathlib.Omega.{arith}
use Rattle.meaning.specs.State.{Proto}
use Rattle.forward.specs.Forward.{Config, Run, stopped, going, bind, sure, give}
use Rattle.store.specs.declared.Step.{Step}
use Rattle.store.specs.declared.Scope.{Scope}
use Rattle.store.specs.Store.{outcome_of, run, with_result, goes_on, while_going, Image, Fine}
use Rattle.store.specs.Promise.{Cost, nothing, both, Used, Roomy, Space, Moves, Leaf}
use Rattle.store.proofs.Runs.{due, promised}
use Rattle.store.proofs.Compose.{none_moved, moves_then, moves_by, settled}
use Rattle.routines.specs.Pieces.{Spare, Owing}

-- ---- the line

pub record PieceLine (w : List ℕ) (p : Scope) (s : Step) (a b e : ℕ) (w' : List ℕ) (r : Step) (u : Cost) : Type 0 where
  pub owing : Owing w p s a b e
  pub moves : Moves w p s w' p r u
  pub image : (o : List ℕ) (ps : List Proto) → Image p o s ps → Image p o r ps

pub owing_from : {w : List ℕ} {p : Scope} {s : Step} {a b e : ℕ} → Fine w p s → Owing w p s a b e → PieceLine w p s a b e w s nothing
owing_from h o = record { owing = o; moves = none_moved h; image = λ l ps i. i }

pub room_owing : {w : List ℕ} {p : Scope} {s : Step} {a b : ℕ} (e : ℕ) → Space w p s 0 a b → Owing w p s a b e
room_owing {w} {p} {s} {a} {b} e h = record { spare = promised (outcome_of s) (λ g. spare (due (outcome_of s) h.roomy g)) }
  where
    spare : Roomy w p s 0 a b → Spare w p s a b e
    spare j = record { words = omega (arith, j.words); locals = omega (arith, j.locals); globals = omega (arith, j.globals) }

pub from : {w : List ℕ} {p : Scope} {s : Step} {a b : ℕ} → Fine w p s → Space w p s 0 a b → PieceLine w p s a b 0 w s nothing
from h o = owing_from h (room_owing 0 o)

-- one call more
infixl 5 ◌▹◌
pub ◌▹◌ : {w w1 w2 : List ℕ} {p : Scope} {s s1 s2 : Step} {a b e : ℕ} {u v : Cost} {op : Config → Run} → PieceLine w p s a b e w1 s1 u → Leaf w1 p s1 w2 p s2 v op → PieceLine w p s a b e w2 s2 (both u v)
◌▹◌ x m = record { owing = x.owing; moves = moves_then refl (omega arith) (omega arith) x.moves m.moves; image = λ o ps i. m.image o ps (x.image o ps i) }

-- ---- what a call asks

-- what was used leaves a' words, b' locals and e' names
pub record Left (a b e : ℕ) (u : Cost) (a' b' e' : ℕ) : Type 0 where
  pub words : a' + u.words ≤ a + u.words_back
  pub locals : b' + u.locals ≤ b + u.locals_back
  pub names : e + u.names ≤ e' + u.names_back

pub spare_after : {w w' : List ℕ} {p : Scope} {s r : Step} {a b e a' b' e' : ℕ} {u : Cost} → Left a b e u a' b' e' → Used w p s w' p r u → Spare w p s a b e → Spare w' p r a' b' e'
spare_after l i j = record { words = omega (arith, i.words, j.words, l.words); locals = omega (arith, i.locals, j.locals, l.locals); globals = omega (arith, i.names, j.globals, l.names) }

pub owes : {w w' : List ℕ} {p : Scope} {s r : Step} {a b e : ℕ} {u : Cost} (a' b' e' : ℕ) → PieceLine w p s a b e w' r u → Left a b e u a' b' e' → Owing w' p r a' b' e'
owes {s = s} {r = r} a' b' e' x l = record { spare = promised (outcome_of r) (λ g. spare_after l (due (outcome_of r) x.moves.used g) (due (outcome_of s) x.owing.spare (x.moves.back g))) }

pub spared : {w : List ℕ} {p : Scope} {s : Step} {a b e : ℕ} → Owing w p s a b e → goes_on (outcome_of s) → Spare w p s a b e
spared {s = s} o g = due (outcome_of s) o.spare g

pub owing_room : {w : List ℕ} {p : Scope} {s : Step} {a b : ℕ} → Owing w p s a b 0 → Space w p s 0 a b
owing_room {w} {p} {s} {a} {b} o = record { roomy = promised (outcome_of s) (λ g. roomy (due (outcome_of s) o.spare g)) }
  where
    roomy : Spare w p s a b 0 → Roomy w p s 0 a b
    roomy j = record { words = omega (arith, j.words); locals = omega (arith, j.locals); globals = omega (arith, j.globals) }

pub room : {w w' : List ℕ} {p : Scope} {s r : Step} {a b e : ℕ} {u : Cost} (a' b' : ℕ) → PieceLine w p s a b e w' r u → Left a b e u a' b' 0 → Space w' p r 0 a' b'
room a' b' x l = owing_room (owes a' b' 0 x l)

-- a fact that is due here, while nothing is refused
pub here : {w w' : List ℕ} {p : Scope} {s r : Step} {a b e : ℕ} {u : Cost} {P : Type 0} → PieceLine w p s a b e w' r u → (goes_on (outcome_of r) → P) → while_going (outcome_of r) P
here {r = r} x h = promised (outcome_of r) h

-- from one that was due at the entry: nothing was refused there either
pub given : {w w' : List ℕ} {p : Scope} {s r : Step} {a b e : ℕ} {u : Cost} {P Q : Type 0} → PieceLine w p s a b e w' r u → while_going (outcome_of s) Q → (Q → P) → while_going (outcome_of r) P
given {s = s} x d h = here x (λ g. h (due (outcome_of s) d (x.moves.back g)))

-- settle, here
pub settling : {w w' : List ℕ} {p : Scope} {s r : Step} {a b e : ℕ} {u : Cost} {v : ℕ} → PieceLine w p s a b e w' r u → v < 255 → Leaf w' p r w' p (with_result r v) nothing (sure (give v))
settling {r = r} {v = v} x small = settled r v small x.moves.fine

-- ---- the end

-- the cost of the line is no more than v
pub record Within (u v : Cost) : Type 0 where
  pub words : u.words + v.words_back ≤ v.words + u.words_back
  pub locals : u.locals + v.locals_back ≤ v.locals + u.locals_back
  pub names : u.names + v.names_back ≤ v.names + u.names_back
  pub still : v.locals ≡ 0 → u.locals ≡ 0
  pub visits : u.visits ≡ v.visits

pub ends : {w w' : List ℕ} {p : Scope} {s r : Step} {a b e : ℕ} {u : Cost} {op : Config → Run} (v : Cost) → PieceLine w p s a b e w' r u → Within u v → ((ps : List Proto) → run w' p r ps ≡ bind (run w p s ps) op) → Leaf w p s w' p r v op
ends v x k h = record { moves = moves_by v k.words k.locals k.names k.still k.visits x.moves; runs = h; image = x.image }

-- a line that ends with no call
pub stays_put : (r : Run) → r ≡ bind r (sure (λ c. c))
unfolding bind
stays_put (stopped k n) = refl
stays_put (going c) = refl
