-- A line of calls in one scope: what they use adds up and leaves room for the next call, and what the last of them says of its result.
use Prim.Native.Nat.{ℕ, ◌+◌, ◌*◌, ◌≤◌, ◌<◌}
use mathlib.Core.Path.{◌≡◌, refl, sym, ap, subst, ◌∙◌}
use mathlib.Core.List.{List, []}
use native.Mathlib.Omega.{arith}
use Rattle.meaning.specs.State.{Proto, M}
use Rattle.std.specs.Prelude.{Ok, Err}
use Rattle.meaning.specs.Outcome.{Outcome}
use Rattle.meaning.specs.declared.Instruction.{Instruction}
use Rattle.meaning.specs.declared.Cause.{Cause}
use Rattle.forward.specs.Forward.{Config, Run, going, bind, sure, put, emit, Answers}
use Rattle.store.specs.declared.Step.{Step}
use Rattle.store.specs.declared.Scope.{Scope}
use Rattle.store.specs.Store.{outcome_of, result_of, run, config_of, while_going, refused_by, refused_step, Image, Fine}
use Rattle.store.specs.Promise.{Cost, a_visit, both, Used, Roomy, Space, Moves, Leaf, Told, Ticked}
use Rattle.store.proofs.Runs.{due, promised, going_is, run_going}
use Rattle.store.proofs.Compose.{moves_then, moves_by}
use Rattle.store.proofs.Visiting.{ticked_moves}
use Rattle.routines.specs.Pieces.{Small}
use Rattle.routines.specs.Node.{Gives}

-- ---- what is used, and room

-- the calls so far
pub record NodeLine (w : List ℕ) (p : Scope) (s : Step) (w' : List ℕ) (r : Step) (u : Cost) : Type 0 where
  pub moves : Moves w p s w' p r u
  pub image : (o : List ℕ) (ps : List Proto) → Image p o s ps → Image p o r ps

pub one : {w w' : List ℕ} {p : Scope} {s r : Step} {u : Cost} {op : Config → Run} → Leaf w p s w' p r u op → NodeLine w p s w' r u
one l = record { moves = l.moves; image = l.image }

pub asked : {A : Type 0} {w w' : List ℕ} {p : Scope} {s r : Step} {u : Cost} {a : A} {m : M A} → Told w p s w' p r u a m → NodeLine w p s w' r u
asked l = record { moves = l.moves; image = l.image }

-- an answer, said with another term
pub told_by : {A : Type 0} {r r1 : Run} {m : M A} {a b : A} → a ≡ b → Answers r m a r1 → Answers r m b r1
told_by {r = r} {r1 = r1} {m = m} e h = subst (λ x. Answers r m x r1) e h

-- a visit that is counted
pub counting : {w w' : List ℕ} {p : Scope} {s : Step} → Fine w p s → Ticked w w' → NodeLine w p s w' s a_visit
counting f x = record { moves = ticked_moves f x; image = λ o ps i. i }

infixl 5 ◌▹◌
pub ◌▹◌ : {w w1 w2 : List ℕ} {p : Scope} {s s1 s2 : Step} {u v : Cost} → NodeLine w p s w1 s1 u → NodeLine w1 p s1 w2 s2 v → NodeLine w p s w2 s2 (both u v)
◌▹◌ x y = record { moves = moves_then refl (omega arith) (omega arith) x.moves y.moves; image = λ o ps i. y.image o ps (x.image o ps i) }

-- what is used so far leaves room for k' nodes, a' words and b' locals
pub room_after : {w w' : List ℕ} {p : Scope} {s r : Step} {u : Cost} {k a b : ℕ} (k' a' b' : ℕ) → NodeLine w p s w' r u → Space w p s k a b → 8 * k' + a' + u.words ≤ 8 * k + a + u.words_back → k' + b' + u.locals ≤ k + b + u.locals_back → u.names ≤ u.names_back
    → Space w' p r k' a' b'
room_after {w} {w'} {p} {s} {r} {u} {k} {a} {b} k' a' b' l h x y z = record { roomy = promised (outcome_of r) (λ g. after (due (outcome_of r) l.moves.used g) (due (outcome_of s) h.roomy (l.moves.back g))) }
  where
    after : Used w p s w' p r u → Roomy w p s k a b → Roomy w' p r k' a' b'
    after i j = record { words = omega (arith, i.words, j.words); locals = omega (arith, i.locals, j.locals); globals = omega (arith, i.names, j.globals) }

-- what holds anyway is due while nothing is refused
pub always : {P : Type 0} (o : Outcome) → P → while_going o P
always o x = promised o (λ g. x)

-- ---- the result, from what the last call does

pub result_by : {w w' : List ℕ} {p q : Scope} {s r : Step} {u : Cost} {op : Config → Run} (P : ℕ → ℕ → Type 0) → Leaf w p s w' q r u op → ((c d : Config) → op c ≡ going d → P c.result d.result)
    → while_going (outcome_of r) (P (result_of s) (result_of r))
unfolding bind config_of
result_by {w} {w'} {p} {q} {s} {r} {u} {op} P l h = promised (outcome_of r) λ g.
    let e = going_is (outcome_of r) g in
    let f = going_is (outcome_of s) (l.moves.back g) in
    let cs = run_going w p s [] f.0 f.1 in
    h (config_of w p s []) (config_of w' q r []) (sym (ap (λ (x : Run). bind x op) cs) ∙ sym (l.runs []) ∙ run_going w' q r [] e.0 e.1)

-- one instruction more and a register; the register as it was
pub small_put : {w w' : List ℕ} {p : Scope} {s r : Step} {u : Cost} {x : ℕ} {i : Instruction} → Leaf w p s w' p r u (sure (put x i)) → x < 255 → Small r
small_put {r = r} {x = x} {i = i} l h = promised (outcome_of r) (λ g. rw (due (outcome_of r) (result_by (λ a b. b ≡ x) l is) g) h)
  where
    is : (c d : Config) → sure (put x i) c ≡ going d → d.result ≡ x
    is c d e = let f : put x i c ≡ d = cc in sym (ap (λ (y : Config). y.result) f)

pub small_emit : {w w' : List ℕ} {p : Scope} {s r : Step} {u : Cost} {i : Instruction} → Leaf w p s w' p r u (sure (emit i)) → result_of s < 255 → Small r
small_emit {r = r} {i = i} l h = promised (outcome_of r) (λ g. rw (due (outcome_of r) (result_by (λ a b. b ≡ a) l is) g) h)
  where
    is : (c d : Config) → sure (emit i) c ≡ going d → d.result ≡ c.result
    is c d e = let f : emit i c ≡ d = cc in sym (ap (λ (y : Config). y.result) f)

-- a refused step has no result
pub small_refused : (s : Step) (k : Cause) (n : ℕ) → Small (refused_step s k n)
small_refused s k n = by (outcome_of s)
  where
    by : (o : Outcome) → while_going (refused_by o k n) ((refused_step s k n).result < 255)
    by (Ok x) = tt
    by (Err why) = tt

-- ---- the whole

pub gives : {w w' : List ℕ} {p : Scope} {s r : Step} {u : Cost} {op : Config → Run} (v : Cost) → NodeLine w p s w' r u → u.words + v.words_back ≤ v.words + u.words_back → u.locals + v.locals_back ≤ v.locals + u.locals_back → u.names + v.names_back ≤ v.names + u.names_back → (v.locals ≡ 0 → u.locals ≡ 0) → u.visits ≡ v.visits
    → ((ps : List Proto) → run w' p r ps ≡ bind (run w p s ps) op) → Small r → Gives w p s w' r v op
gives v l a b c z y runs small = record { leaf = record { moves = moves_by v a b c z y l.moves; runs = runs; image = l.image }; small = small }
