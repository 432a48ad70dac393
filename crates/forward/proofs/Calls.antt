-- A function as the straight line of its calls. Each call promises `run after ≡ bind (run before) operation`, where the operation may speak of numbers
-- that the code read from earlier steps. `Calls` writes such a line down once; `does` is its meaning as one operation; `Chain` is the statement that the
-- equations of the calls, in their order, make one equation of the whole; `chain` proves it for every line at once.
use Prim.Native.Nat.{ℕ}
use mathlib.Core.Path.{◌≡◌, refl, sym, ap, ap₂, ◌∙◌}
use mathlib.Core.Bool.{Bool, true, false}
use lib.ListN.{length}
use Rattle.meaning.specs.State.{State, M, Res, refused, done}
use Rattle.forward.specs.Forward.{Config, Run, stopped, going, bind, pick, on, at, fwd_by, ask, add_none, Answers}
use Rattle.forward.proofs.Steps.{bind_assoc, bind_ext}

-- what the code may read from a step: the length of the pending code, the result
pub record Seen : Type 0 where
  pub code : ℕ
  pub result : ℕ

abbrev pub seen : Config → Seen
seen c = record { code = length c.code; result = c.result }

-- where r goes on, s is what is seen of it
pub record Known (r : Run) (s : Seen) : Type 0 where
  pub size : (c : Config) → r ≡ going c → s.code ≡ length c.code
  pub value : (c : Config) → r ≡ going c → s.result ≡ c.result

pub data Calls : Type 1 where
  -- the last call
  finally : (Config → Run) → Calls
  -- a call, of which nothing is read, something is read, an answer is asked
  call : (Config → Run) → Calls → Calls
  read : (Config → Run) → (Seen → Calls) → Calls
  answer : {A : Type 0} → M A → (A → Calls) → Calls
  -- one of two lines
  choose : Bool → Calls → Calls → Calls
  -- what is read at the start
  entry : (Seen → Calls) → Calls

-- `s ← f` in a `do` block of calls is read f (λ s. ..), a line f alone is call f ..
infixl 10 ◌>>=◌
infixl 10 ◌>>◌
abbrev pub ◌>>=◌ : (Config → Run) → (Seen → Calls) → Calls
◌>>=◌ f p = read f p

abbrev pub ◌>>◌ : (Config → Run) → Calls → Calls
◌>>◌ f p = call f p

-- the whole line as one operation
abbrev pub does : Calls → Config → Run
does (finally f) c = f c
does (call f p) c = bind (f c) (λ d. does p d)
does (read f p) c = bind (f c) (λ d. does (p (seen d)) d)
does (answer m p) c = ask m c (λ a d. does (p a) d)
does (choose b p q) c = pick b (does p c) (does q c)
does (entry p) c = does (p (seen c)) c

-- from the equations of the calls after r to that of the whole line after r0
abbrev pub ChainFrom : Calls → Run → Run → (Config → Run) → Type 0
ChainFrom (finally f) r r0 F = (r1 : Run) → r1 ≡ bind r f → r1 ≡ bind r0 F
ChainFrom (call f p) r r0 F = (r1 : Run) → r1 ≡ bind r f → ChainFrom p r1 r0 F
ChainFrom (read f p) r r0 F = (r1 : Run) → r1 ≡ bind r f → (s : Seen) → Known r1 s → ChainFrom (p s) r1 r0 F
ChainFrom (answer {A} m p) r r0 F = (r1 : Run) (a : A) → Answers r m a r1 → ChainFrom (p a) r1 r0 F
ChainFrom (choose b p q) r r0 F = ((b ≡ true) → ChainFrom p r r0 F) × ((b ≡ false) → ChainFrom q r r0 F)
ChainFrom (entry p) r r0 F = (s : Seen) → Known r s → ChainFrom (p s) r r0 F

abbrev pub Chain : Calls → Run → (Config → Run) → Type 0
Chain p r F = ChainFrom p r r F

-- ---- the numbers that were read are those of the run

seen_is : (c : Config) (s : Seen) (P : Seen → Config → Run) → s.code ≡ length c.code → s.result ≡ c.result → P s c ≡ P (seen c) c
seen_is c s P h k = ap₂ (λ x y. P (record { code = x; result = y }) c) h k

read_is : (r : Run) (s : Seen) (P : Seen → Config → Run) → Known r s → bind r (P s) ≡ bind r (λ c. P (seen c) c)
unfolding bind
read_is (stopped k p) s P h = refl
read_is (going c) s P h = seen_is c s P (h.size c refl) (h.value c refl)

answer_on : {A : Type 0} (r : Res A) (a : A) (c : Config) (K : A → Config → Run) → ((b : A) (t : State) → r ≡ done b t → b ≡ a) → bind (on r (λ b t. going (at t c))) (K a) ≡ on r (λ b t. K b (at t c))
unfolding bind on
answer_on (refused k p) a c K h = refl
answer_on (done b t) a c K h = ap (λ x. K x (at t c)) (sym (h b t refl))

-- what follows an answer, for whatever follows
answered_on : {A : Type 0} (r : Run) (m : M A) (a : A) (K : A → Config → Run) → ((c : Config) (b : A) (t : State) → r ≡ going c → m c.state ≡ done b t → b ≡ a)
    → bind (bind r (λ c. fwd_by add_none m c)) (K a) ≡ bind r (λ c. ask m c K)
unfolding bind fwd_by ask
answered_on (stopped k p) m a K h = refl
answered_on (going c) m a K h = answer_on (m c.state) a c K (λ b t. h c b t refl)

pub answered : {A : Type 0} (r r1 : Run) (m : M A) (a : A) (K : A → Config → Run) → Answers r m a r1 → bind r1 (K a) ≡ bind r (λ c. ask m c K)
answered r r1 m a K h = ap (λ x. bind x (K a)) h.follows ∙ answered_on r m a K h.answer

picked_true : (b : Bool) (r : Run) (f g : Config → Run) → b ≡ true → bind r f ≡ bind r (λ c. pick b (f c) (g c))
unfolding pick
picked_true b r f g e = rw e

picked_false : (b : Bool) (r : Run) (f g : Config → Run) → b ≡ false → bind r g ≡ bind r (λ c. pick b (f c) (g c))
unfolding pick
picked_false b r f g e = rw e

-- ---- the one proof for every line of calls

chain_from : (p : Calls) (r r0 : Run) (F : Config → Run) → ((r1 : Run) → r1 ≡ bind r (λ c. does p c) → r1 ≡ bind r0 F) → ChainFrom p r r0 F
chain_from (finally f) r r0 F h = h
chain_from (call f p) r r0 F h = λ r1 e. chain_from p r1 r0 F (λ r2 l. h r2 (l ∙ ap (λ x. bind x (λ d. does p d)) e ∙ bind_assoc r f (λ d. does p d)))
chain_from (read f p) r r0 F h =
    λ r1 e s n. chain_from (p s) r1 r0 F (λ r2 l. h r2 (l ∙ read_is r1 s (λ s d. does (p s) d) n ∙ ap (λ x. bind x (λ d. does (p (seen d)) d)) e ∙ bind_assoc r f (λ d. does (p (seen d)) d)))
chain_from (answer m p) r r0 F h = λ r1 a n. chain_from (p a) r1 r0 F (λ r2 l. h r2 (l ∙ answered r r1 m a (λ a d. does (p a) d) n))
chain_from (choose b p q) r r0 F h =
    (λ e. chain_from p r r0 F (λ r1 l. h r1 (l ∙ picked_true b r _ _ e)), λ e. chain_from q r r0 F (λ r1 l. h r1 (l ∙ picked_false b r _ _ e)))
chain_from (entry p) r r0 F h = λ s n. chain_from (p s) r r0 F (λ r1 l. h r1 (l ∙ read_is r s (λ s c. does (p s) c) n))

pub chain : (p : Calls) (F : Config → Run) → ((c : Config) → does p c ≡ F c) → (r : Run) → Chain p r F
chain p F h r = chain_from p r r F (λ r1 l. l ∙ bind_ext r (λ c. does p c) F h)
