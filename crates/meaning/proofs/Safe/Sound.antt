-- What holds of the lowering's state between two steps, and the laws by which steps are put together.
-- The idea: from a sound state a step that is done gives a sound state that has no less than before, and a value of which Q holds there
-- (Gives). Q speaks of what instructions may name (View), so it passes through blocks, loops and captures. A visitor's law follows its
-- `do` block line by line: `bind` for each `←`, `by_pure` at the end. Numbers are left to omega.
use Prim.Native.Nat.{ℕ, ◌+◌, ◌≤◌, ◌<◌, max}
use mathlib.Core.Path.{◌≡◌, refl, sym, ◌∙◌, subst}
use mathlib.Core.Bool.{Bool, true, false}
use mathlib.Core.List.{List, [], ◌∷◌, ◌++◌}
use native.Mathlib.Nat.{le_refl, le_trans}
use native.Mathlib.Omega.{arith}
use lib.ListN.{length}
use lib.Dec.{eqb}
use borrow.Author.Tests.{eqb-false}
use Rattle.meaning.specs.Opcode.{inst, no_mark, Return}
use Rattle.meaning.specs.Constant.{Constant}
use Rattle.meaning.specs.State.{State, Open, Local, Capture, Proto, Chunk, M, Res, refused, done, and_then, ◌>>=◌, ◌>>◌, pure, refuse, if_then, get, set_current, next_register, allocate_register, with_local, add_constant, add_global}
use Rattle.meaning.specs.Chunk.{joined}
use Rattle.meaning.specs.Safety.{All, Holds, Fits}
use Rattle.meaning.specs.declared.Cause.{Cause}
use Rattle.meaning.specs.declared.Instruction.{Instruction}
use Rattle.meaning.proofs.Grows.{Outer, outer_same, outer_chain}
use Rattle.meaning.proofs.Safe.Obeys.{View, view, Sane, Wider, all_more, grown_same, holds_last, one_more, wider_same, wider_chain, widen, join}
use Rattle.meaning.proofs.Safe.Patches.{encoded, encoded_small}

-- ---- what holds between steps

-- every local of every block names one of n registers
abbrev pub Locals : ℕ → List (List Local) → Type 0
Locals n = All (All (λ (l : Local). l.register < n))

-- the captures of an open function name what the function around it has, and so on outward
abbrev pub Chain : List Capture → List Open → Type 0
Chain cs [] = Unit {0}
Chain cs (f ∷ fs) = All (Fits f.registers (length f.captures)) cs × Locals f.registers f.blocks × Chain f.captures fs

-- what the code of a finished function may speak of: the prototypes before its own, and no loop
abbrev pub proto_view : List Constant → (earlier : List Proto) → Proto → View
proto_view cs earlier p = record { registers = p.registers; captures = length p.captures; loops = 0; constants = cs; prototypes = earlier }

-- a finished function: a sane body, then its last Return
pub record Finished (cs : List Constant) (earlier : List Proto) (p : Proto) : Type 0 where
  pub body : List Instruction
  pub code : p.code ≡ body ++ inst Return 0 0 0 no_mark ∷ []
  pub short : length body ≤ 32766
  pub sane : Sane (proto_view cs earlier p) 0 0 body

abbrev pub Protos : List Constant → (earlier : List Proto) → List Proto → Type 0
Protos cs earlier [] = Unit {0}
Protos cs earlier (p ∷ ps) = Finished cs earlier p × Protos cs (earlier ++ p ∷ []) ps

-- the constants and prototypes are few, and every prototype is finished
pub record Pools (constants : List Constant) (prototypes : List Proto) : Type 0 where
  pub few_constants : length constants ≤ 1024
  pub few_prototypes : length prototypes ≤ 256
  pub protos : Protos constants [] prototypes

pub record Sound (s : State) : Type 0 where
  pub locals : Locals s.current.registers s.current.blocks
  pub chain : Chain s.current.captures s.outer
  pub pools : Pools s.constants s.prototypes

-- t has all that s has
pub record More (s t : State) : Type 0 where
  pub wider : Wider (view s) (view t)
  pub loops : t.current.loops ≡ s.current.loops
  pub outer : Outer s.outer t.outer

pub more_same : (s : State) → More s s
more_same s = record { wider = wider_same (view s); loops = refl; outer = outer_same s.outer }

pub more_chain : {s t u : State} → More s t → More t u → More s u
more_chain {s} {t} {u} p q =
    record { wider = wider_chain p.wider q.wider; loops = q.loops ∙ p.loops; outer = outer_chain s.outer t.outer u.outer p.outer q.outer }

pub locals_more : (n m : ℕ) (bs : List (List Local)) → n ≤ m → Locals n bs → Locals m bs
locals_more n m bs h = all_more _ _ bs (λ b. all_more _ _ b (λ l k. le_trans k h))

-- ---- steps put together

-- what holds of a step that is done
abbrev pub OnDone : {A : Type 0} → (A → State → Type 0) → Res A → Type 0
OnDone X (refused c p) = Unit {0}
OnDone X (done a t) = X a t

abbrev pub Post : {A : Type 0} → (A → View → Type 0) → State → Res A → Type 0
Post Q s r = OnDone (λ a t. Sound t × More s t × Q a (view t)) r

pub record Gives {A : Type 0} (m : M A) (s : State) (Q : A → View → Type 0) : Type 0 where
  pub at : Post Q s (m s)

-- from every sound state
abbrev pub Always : {A : Type 0} → M A → (A → View → Type 0) → Type 0
Always m Q = (s : State) → Sound s → Gives m s Q

-- the general step: what holds of the first, then the rest
pub then_done : {A B : Type 0} (X : A → State → Type 0) (Y : B → State → Type 0) (r : Res A) (f : A → M B)
    → OnDone X r → ((a : A) (t : State) → X a t → OnDone Y (f a t)) → OnDone Y (and_then r f)
unfolding and_then
then_done X Y (refused c p) f h k = tt
then_done X Y (done a t) f h k = k a t h

pub on_done : {A : Type 0} (X Y : A → State → Type 0) (r : Res A) → OnDone X r → ((a : A) (t : State) → X a t → Y a t) → OnDone Y r
on_done X Y (refused c p) h k = tt
on_done X Y (done a t) h k = k a t h

then_post : {A B : Type 0} (Q : A → View → Type 0) (P : B → View → Type 0) (s : State) (r : Res A) (f : A → M B)
    → Post Q s r → ((a : A) (t : State) → Sound t → More s t → Q a (view t) → Gives (f a) t P) → Post P s (and_then r f)
then_post Q P s r f h k =
    then_done _ _ r f h λ a t x.
    on_done _ _ (f a t) (k a t x.0 x.1 x.2).at (λ b u y. (y.0, more_chain x.1 y.1, y.2))

pub bind : {A B : Type 0} {m : M A} {f : A → M B} {s : State} {Q : A → View → Type 0} {P : B → View → Type 0}
    → Gives m s Q → ((a : A) (t : State) → Sound t → More s t → Q a (view t) → Gives (f a) t P) → Gives (m >>= f) s P
unfolding ◌>>=◌
bind {m} {f} {s} {Q} {P} h k = record { at = then_post Q P s (m s) f h.at k }

pub next : {A B : Type 0} {m : M A} {n : M B} {s : State} {Q : A → View → Type 0} {P : B → View → Type 0}
    → Gives m s Q → ((a : A) (t : State) → Sound t → More s t → Q a (view t) → Gives n t P) → Gives (m >> n) s P
unfolding ◌>>◌
next {m} {n} {s} {Q} {P} h k = record { at = then_post Q P s (m s) (λ a. n) h.at k }

pub by_pure : {A : Type 0} (a : A) {s : State} {Q : A → View → Type 0} → Sound s → Q a (view s) → Gives (pure a) s Q
unfolding pure
by_pure a {s} σ q = record { at = (σ, more_same s, q) }

pub by_refuse : {A : Type 0} {Q : A → View → Type 0} (c : Cause) (node : ℕ) (s : State) → Gives (refuse {A = A} c node) s Q
unfolding refuse
by_refuse c node s = record { at = tt }

pub weaken : {A : Type 0} {m : M A} {s : State} {Q P : A → View → Type 0} → Gives m s Q → ((a : A) (t : State) → More s t → Q a (view t) → P a (view t)) → Gives m s P
weaken {m} {s} {Q} {P} h f = record { at = on_done _ _ (m s) h.at (λ a t x. (x.0, x.1, f a t x.1 x.2)) }

-- one of two steps, with what the test says
pub either_known : {A : Type 0} (b : Bool) {m n : M A} {s : State} {Q : A → View → Type 0} → (b ≡ true → Gives m s Q) → (b ≡ false → Gives n s Q) → Gives (if_then b m n) s Q
unfolding if_then
either_known true h k = h refl
either_known false h k = k refl

pub either : {A : Type 0} (b : Bool) {m n : M A} {s : State} {Q : A → View → Type 0} → Gives m s Q → Gives n s Q → Gives (if_then b m n) s Q
either b h k = either_known b (λ e. h) (λ e. k)

pub if_done : {A : Type 0} (X : A → State → Type 0) (b : Bool) (m n : M A) (t : State) → (b ≡ true → OnDone X (m t)) → (b ≡ false → OnDone X (n t)) → OnDone X (if_then b m n t)
unfolding if_then
if_done X true m n t h k = h refl
if_done X false m n t h k = k refl

-- ---- the primitives

abbrev pub regs : State → ℕ
regs s = s.current.registers

-- nothing is said of the value
abbrev pub Whatever : {A : Type 0} → A → View → Type 0
Whatever a v = Unit {0}

-- the register count stays
abbrev pub Still : {A : Type 0} → State → A → View → Type 0
Still s a v = v.registers ≡ regs s

-- the next register, and one more of them
abbrev pub Taken : State → ℕ → View → Type 0
Taken s r v = (r ≡ regs s) × (v.registers ≡ r + 1)

-- a constant of which P holds, by its index as an instruction has it
abbrev pub Stored : (Constant → Type 0) → State → ℕ → View → Type 0
Stored P s k v = (v.registers ≡ regs s) × Holds P v.constants (encoded k)

pub encoded_holds : {A : Type 0} (P : A → Type 0) (xs : List A) (k : ℕ) → k < 65536 → Holds P xs k → Holds P xs (encoded k)
encoded_holds P xs k h p = subst (λ (n : ℕ). Holds P xs n) (sym (encoded_small k h)) p

-- the view where the registers alone grow
wider_registers : (v : View) (n : ℕ) → v.registers ≤ n → Wider v (record { registers = n; captures = v.captures; loops = v.loops; constants = v.constants; prototypes = v.prototypes })
wider_registers v n h = record { registers = h; captures = le_refl _; loops = le_refl _; constants = grown_same _; prototypes = grown_same _ }

pub takes : (node : ℕ) (s : State) → Sound s → Gives (next_register node) s (Taken s)
unfolding next_register ◌>>=◌ ◌>>◌ and_then get set_current pure refuse
takes node s σ =
    record {
      at = if_done _ (eqb (regs s) 255) _ _ s (λ e. tt) λ e. (
        record { locals = locals_more (regs s) (regs s + 1) s.current.blocks (omega arith) σ.locals; chain = σ.chain; pools = σ.pools },
        record { wider = wider_registers (view s) (regs s + 1) (omega arith); loops = refl; outer = outer_same s.outer },
        (refl, refl),
      );
    }

locals_with : (n : ℕ) (bs : List (List Local)) (l : Local) → l.register < n → Locals n bs → Locals n (with_local bs l)
locals_with n [] l h k = ((h, tt), tt)
locals_with n (b ∷ bs) l h k = ((h, k.0), k.1)

pub allocates : (name r : ℕ) (s : State) → Sound s → r < regs s → Gives (allocate_register name r) s (Still s)
unfolding allocate_register ◌>>=◌ and_then get set_current
allocates name r s σ h =
    record {
      at = (
        record { locals = locals_with (regs s) s.current.blocks (record { name = name; register = r }) h σ.locals; chain = σ.chain; pools = σ.pools },
        record { wider = wider_same (view s); loops = refl; outer = outer_same s.outer },
        refl,
      );
    }

pub globals : (name : ℕ) (s : State) → Sound s → Gives (add_global name) s (Still s)
unfolding add_global
globals name s σ =
    record {
      at = (record { locals = σ.locals; chain = σ.chain; pools = σ.pools }, record { wider = wider_same (view s); loops = refl; outer = outer_same s.outer }, refl);
    }

pub gets : {A : Type 0} (f : State → A) (s : State) → Sound s → Gives (get f) s (λ a v. (a ≡ f s) × (v.registers ≡ regs s))
unfolding get
gets f s σ = record { at = (σ, more_same s, (refl, refl)) }

-- every prototype is finished, with one constant more
protos_constant : (cs : List Constant) (c : Constant) (earlier ps : List Proto) → Protos cs earlier ps → Protos (cs ++ c ∷ []) earlier ps
protos_constant cs c earlier [] h = tt
protos_constant cs c earlier (p ∷ ps) h = (
  record {
    body = h.0.body;
    code = h.0.code;
    short = h.0.short;
    sane = widen h.0.body (record { registers = le_refl _; captures = le_refl _; loops = le_refl _; constants = record { more = c ∷ []; is = refl }; prototypes = grown_same _ }) h.0.sane;
  },
  protos_constant cs c (earlier ++ p ∷ []) ps h.1,
)

pub stores : (node : ℕ) (c : Constant) (P : Constant → Type 0) → P c → (s : State) → Sound s → Gives (add_constant node c) s (Stored P s)
unfolding add_constant refuse
stores node c P p s σ =
    record {
      at = if_done _ (eqb (length s.constants) 1024) _ _ s (λ e. tt) λ e.
          let ne = eqb-false (length s.constants) 1024 e in
          let few = σ.pools.few_constants in
          let less : length s.constants < 1024 = omega (arith, few, ne) in (
            record {
              locals = σ.locals;
              chain = σ.chain;
              pools = record {
                few_constants = one_more s.constants c less;
                few_prototypes = σ.pools.few_prototypes;
                protos = protos_constant s.constants c [] s.prototypes σ.pools.protos;
              };
            },
            record {
              wider = record { registers = le_refl _; captures = le_refl _; loops = le_refl _; constants = record { more = c ∷ []; is = refl }; prototypes = grown_same _ };
              loops = refl;
              outer = outer_same s.outer;
            },
            (refl, encoded_holds P (s.constants ++ c ∷ []) (length s.constants) (omega (arith, less)) (holds_last P s.constants c p)),
          );
    }

-- ---- what the visitors give

-- finished code
abbrev pub Code : List Instruction → View → Type 0
Code code v = Sane v 0 0 code

-- an expression's chunk: its result is one of the registers
pub record Good (c : Chunk) (v : View) : Type 0 where
  pub code : Code c.code v
  pub result : c.result < v.registers

-- a statement's chunk: its result is one of the registers, or 0
pub record Loose (c : Chunk) (v : View) : Type 0 where
  pub code : Code c.code v
  pub result : c.result < max v.registers 1

-- a row of statements
abbrev pub Row : List Chunk → View → Type 0
Row cs v = All (λ c. Loose c v) cs

pub loose : (c : Chunk) (v : View) → Good c v → Loose c v
loose c v h = record { code = h.code; result = omega (arith, h.result) }

-- a chunk that was finished earlier
pub good_more : (c : Chunk) (s t : State) → More s t → Good c (view s) → Good c (view t)
good_more c s t g h = record { code = widen c.code g.wider h.code; result = omega (arith, g.wider.registers, h.result) }

pub loose_more : (c : Chunk) (s t : State) → More s t → Loose c (view s) → Loose c (view t)
loose_more c s t g h = record { code = widen c.code g.wider h.code; result = omega (arith, g.wider.registers, h.result) }

pub row_sane : (cs : List Chunk) (v : View) → Row cs v → Code (joined cs) v
row_sane [] v h = tt
row_sane (c ∷ cs) v h = join v c.code _ h.0.code (row_sane cs v h.1)
