-- What a step stands for, refused or not; what a refused step does, and what is due while none is.
use Rattle.std.proofs.Common.{◌≡◌, ℕ, ◌≤◌, List, sym, refl, ap, ◌∙◌, arith}
use Rattle.store.specs.declared.Step.{Step}
use Rattle.store.specs.declared.Scope.{Scope}
use Rattle.store.specs.Table.{tab}
use Rattle.store.specs.Layout.{inst_at}
use Rattle.store.specs.Store.{top_of, state_of, config_of, run, code_tag, image_by, Image, goes_on, while_going, Fine, Kept}
use Rattle.store.specs.Promise.{Cost, Moves, Leaf}
use Rattle.meaning.specs.State.{Proto, M, refused, done}
use Rattle.meaning.specs.declared.Cause.{Cause}
use Rattle.std.specs.Prelude.{Ok, Err}
use Rattle.meaning.specs.Outcome.{Outcome, refusal}
use Rattle.forward.specs.Forward.{Config, config, Run, stopped, going, bind, on, fwd_by}

-- ---- facts that are due while nothing is refused

pub due : (o : Outcome) {P : Type 0} → while_going o P → goes_on o → P
due (Ok x) h g = h
due (Err why) h g = absurd g

pub promised : (o : Outcome) {P : Type 0} → (goes_on o → P) → while_going o P
promised (Ok x) h = h tt
promised (Err why) h = tt

pub goes : {o : Outcome} {x : ℕ} → o ≡ Ok x → goes_on o
goes e = rw e tt

pub going_is : (o : Outcome) → goes_on o → (x : ℕ) × (o ≡ Ok x)
going_is (Ok x) g = (x, refl)
going_is (Err why) g = absurd g

pub none_due : {o : Outcome} {k : Cause} {n : ℕ} (P : Type 0) → o ≡ Err (refusal k n) → while_going o P
none_due P e = rw e tt

-- ---- runs

pub run_going : (w : List ℕ) (p : Scope) (s : Step) (ps : List Proto) (x : ℕ) → s.outcome ≡ Ok x → run w p s ps ≡ going (config_of w p s ps)
unfolding run
run_going w p s ps x e = rw e

pub run_stopped : (w : List ℕ) (p : Scope) (s : Step) (ps : List Proto) (k : Cause) (n : ℕ) → s.outcome ≡ Err (refusal k n) → run w p s ps ≡ stopped k n
unfolding run
run_stopped w p s ps k n e = rw e

-- a refused step stays, whatever follows
pub stays : (w w' : List ℕ) (p q : Scope) (s r : Step) (op : Config → Run) (k : Cause) (n : ℕ) → s.outcome ≡ Err (refusal k n) → r.outcome ≡ Err (refusal k n) → (ps : List Proto) → run w' q r ps ≡ bind (run w p s ps) op
unfolding run bind
stays w w' p q s r op k n e f ps = rw (e, f)

-- a step of the definition is done: the code stays, the result is `g` of the answer and the result before
module _ {A : Type 0} (w w' : List ℕ) (p q : Scope) (s r : Step) (m : M A) (ps : List Proto) where
  done_by : (a : A) (g : A → ℕ → ℕ) → tab (inst_at w' (top_of q)) r.pc ≡ tab (inst_at w (top_of p)) s.pc → r.result ≡ g a s.result → m (state_of w p s ps) ≡ done a (state_of w' q r ps)
      → going (config_of w' q r ps) ≡ bind (going (config_of w p s ps)) (λ c. fwd_by (λ b d. config d.code (g b d.result) d.state) m c)
  unfolding config_of bind fwd_by on
  done_by a g c v h = rw (h, c, v)

  refused_by : (g : A → Config → Config) (k : Cause) (n : ℕ) → m (state_of w p s ps) ≡ refused k n → stopped k n ≡ bind (going (config_of w p s ps)) (λ c. fwd_by g m c)
  unfolding config_of bind fwd_by on
  refused_by g k n h = rw h

  pub ran : (a : A) (g : A → ℕ → ℕ) (x y : ℕ) → s.outcome ≡ Ok x → r.outcome ≡ Ok y → tab (inst_at w' (top_of q)) r.pc ≡ tab (inst_at w (top_of p)) s.pc → r.result ≡ g a s.result
      → m (state_of w p s ps) ≡ done a (state_of w' q r ps) → run w' q r ps ≡ bind (run w p s ps) (λ c. fwd_by (λ b d. config d.code (g b d.result) d.state) m c)
  ran a g x y e f c v h =
      run_going w' q r ps y f
      ∙ done_by a g c v h
      ∙ sym (ap (λ z. bind z (λ c. fwd_by (λ b d. config d.code (g b d.result) d.state) m c)) (run_going w p s ps x e))

  -- a step of the definition is refused
  pub ran_out : (g : A → Config → Config) (x : ℕ) (k : Cause) (n : ℕ) → s.outcome ≡ Ok x → r.outcome ≡ Err (refusal k n) → m (state_of w p s ps) ≡ refused k n → run w' q r ps ≡ bind (run w p s ps) (λ c. fwd_by g m c)
  ran_out g x k n e f h = run_stopped w' q r ps k n f ∙ refused_by g k n h ∙ sym (ap (λ z. bind z (λ c. fwd_by g m c)) (run_going w p s ps x e))

-- ---- what stays

pub kept_refl : (w : List ℕ) (p : Scope) → Kept w p w
kept_refl w p = record { same = refl; firsts = λ j h. refl; saves = λ j h. refl; outer = λ j h. refl; edges = λ i h. refl; offsets = λ i h. refl }

-- the second step in a scope that lies within the first's
pub kept_in : {w w1 w2 : List ℕ} {p q : Scope} → p.nodes ≡ q.nodes → p.depth ≤ q.depth → p.block ≤ q.block → Kept w p w1 → Kept w1 q w2 → Kept w p w2
kept_in {w} {w1} {w2} {p} {q} e dl bl g h =
    record {
      same = h.same ∙ g.same;
      firsts = λ j i. h.firsts j (omega arith) ∙ g.firsts j i;
      saves = λ j i. h.saves j (omega arith) ∙ g.saves j i;
      outer = λ j i. h.outer j (omega arith) ∙ g.outer j i;
      edges = λ j i. (rw (← e) at (h.edges j (omega arith))) ∙ g.edges j i;
      offsets = λ j i. h.offsets j (omega arith) ∙ g.offsets j i;
    }

-- ---- a refused step keeps everything

pub absorbed : {w : List ℕ} {p : Scope} {s : Step} (u : Cost) {k : Cause} {n : ℕ} → Fine w p s → s.outcome ≡ Err (refusal k n) → Moves w p s w p s u
absorbed u h e = record { fine = h; kept = kept_refl _ _; back = λ g. g; used = none_due _ e; longer = omega arith; still = λ z. refl }

pub leaf_absorbed : {w : List ℕ} {p : Scope} {s : Step} (u : Cost) (op : Config → Run) {k : Cause} {n : ℕ} → Fine w p s → s.outcome ≡ Err (refusal k n) → Leaf w p s w p s u op
leaf_absorbed {w} {p} {s} u op {k} {n} h e = record { moves = absorbed u h e; runs = stays w w p p s s op k n e e; image = λ o ps i. i }

-- ---- the image: prototypes and their bytes stay

image_of : (t : ℕ) (o : List ℕ) (x y : Outcome) (f g : ℕ) (ps : List Proto) → y ≡ x → g ≡ f → image_by t x o f ps → image_by t y o g ps
image_of t o x y f g ps e h i = rw (e, h) i

pub image_same : (p : Scope) (s r : Step) → r.outcome ≡ s.outcome → r.functions ≡ s.functions → (o : List ℕ) (ps : List Proto) → Image p o s ps → Image p o r ps
image_same p s r e h o ps i = image_of (code_tag p) o s.outcome r.outcome s.functions r.functions ps e h i

pub image_none : (p : Scope) (s r : Step) {k : Cause} {n : ℕ} → r.outcome ≡ Err (refusal k n) → (o : List ℕ) (ps : List Proto) → Image p o s ps → Image p o r ps
image_none p s r e o ps i = rw e tt
