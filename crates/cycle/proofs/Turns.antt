-- Loops over children. At the head of a loop some of the children are lowered; what is said of the rest is said in a form that waits for it: whatever follows
-- this run by the rest follows the first run by the whole. A turn puts its own chain in front; at the end nothing is left.
use Prim.Native.Nat.{ℕ}
use mathlib.Core.Path.{◌≡◌, refl}
use mathlib.Core.List.{List, []}
use lib.ListN.{length}
use lib.Dec.{lit<}
use Rattle.meaning.specs.State.{Proto, pure}
use Rattle.forward.specs.Forward.{Config, Run, bind, fwd_code}
use Rattle.forward.proofs.Chains.{code_end}
use Rattle.store.specs.declared.Step.{Step}
use Rattle.store.specs.declared.Scope.{Scope}
use Rattle.store.specs.Store.{run, Image, Fine, with_result}
use Rattle.store.proofs.Compose.{none_moved, leaf_after, settled}
use Rattle.store.specs.Promise.{Cost, nothing, Moves, After}

-- the rest is to follow, and then y is reached
pub record Pending (w o : List ℕ) (p : Scope) (s : Step) (y : Run) (rest : Config → Run) : Type 0 where
  pub protos : List Proto
  pub image : Image p o s protos
  pub then : (r : Run) → r ≡ bind (run w p s protos) rest → r ≡ y

-- at the head of a loop that began at w0, o0, s0
pub record Turning (w0 o0 : List ℕ) (p : Scope) (s0 : Step) (w o : List ℕ) (s : Step) (u : Cost) (all rest : Config → Run) : Type 0 where
  pub moves : Moves w0 p s0 w p s u
  pub same : length o ≡ length o0
  pub does : (ps : List Proto) → Image p o0 s0 ps → Pending w o p s (bind (run w0 p s0 ps) all) rest

-- after a turn: the chain of the turn says how the rest before it is the turn and the rest after it
pub turned : {w o w1 o1 : List ℕ} {p : Scope} {s s1 : Step} {y x : Run} {rest rest' : Config → Run} (a : Pending w o p s y rest) (b : After w1 o1 p s1 x)
    → ((r : Run) → r ≡ bind (run w1 p s1 b.protos) rest' → r ≡ bind (run w p s a.protos) rest) → Pending w1 o1 p s1 y rest'
turned a b h = record { protos = b.protos; image = b.image; then = λ r e. a.then r (h r e) }

-- no turn yet
pub none_turned : {w o : List ℕ} {p : Scope} {s : Step} {all : Config → Run} → Fine w p s → Turning w o p s w o s nothing all all
none_turned h = record { moves = none_moved h; same = refl; does = λ ps i. record { protos = ps; image = i; then = λ r e. e } }

-- the end of a loop over code: the result is 0
pub closed : {w0 o0 w o : List ℕ} {p : Scope} {s0 s : Step} {u : Cost} {all : Config → Run} → Turning w0 o0 p s0 w o s u all (fwd_code (pure [])) → (ps : List Proto) → Image p o0 s0 ps → After w o p (with_result s 0) (bind (run w0 p s0 ps) all)
closed {o = o} {s = s} v ps i =
    let a = v.does ps i in
    let b = leaf_after (settled s 0 (lit< tt) v.moves.fine) o a.protos a.image in
    record { protos = b.protos; image = b.image; runs = a.then _ (code_end _ _ b.runs) }
