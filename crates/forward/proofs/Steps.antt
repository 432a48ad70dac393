-- From a `do` block of the definition to runs. A law `program c ≡ fwd (visit-.. ..) c` follows the block line by line: `start` opens the right side as
-- `on (block c.state) write`, each line of the block is one `step` (`next`: no answer; `asked`: the program asks for the answer; `step_known`: that the
-- line is done is used), and the end is `last`, `tail`, `more`, `closing` or `halt`. Every argument but the last is found as `_`.
use Prim.Native.Nat.{ℕ}
use mathlib.Core.Path.{◌≡◌, refl, sym, ap, ◌∙◌}
use mathlib.Core.Bool.{Bool, true, false}
use mathlib.Core.List.{List}
use Rattle.meaning.specs.State.{State, M, Res, refused, done, and_then, ◌>>=◌, ◌>>◌, pure, refuse, if_then}
use Rattle.meaning.specs.declared.Cause.{Cause}
use Rattle.meaning.specs.declared.Instruction.{Instruction}
use Rattle.forward.specs.Forward.{Config, config, Run, stopped, going, bind, pick, on, at, fwd_by, ask, add_none}

-- ---- runs

pub bind_assoc : (r : Run) (f g : Config → Run) → bind (bind r f) g ≡ bind r (λ c. bind (f c) g)
unfolding bind
bind_assoc (stopped k p) f g = refl
bind_assoc (going c) f g = refl

pub bind_ext : (r : Run) (f g : Config → Run) → ((c : Config) → f c ≡ g c) → bind r f ≡ bind r g
unfolding bind
bind_ext (stopped k p) f g h = refl
bind_ext (going c) f g h = h c

-- a run that is known to go on
pub now : (c : Config) (K : Config → Run) (x : Run) → K c ≡ x → bind (going c) K ≡ x
unfolding bind
now c K x h = h

-- an operation of several parts, then K
pub inner : (r : Run) (f K : Config → Run) (x : Run) → bind r (λ c. bind (f c) K) ≡ x → bind (bind r f) K ≡ x
inner r f K x h = bind_assoc r f K ∙ h

-- a part of a program in place of which another stands
pub joint : (r : Run) (f K : Config → Run) (x : Run) → bind r f ≡ x → bind r (λ c. bind (f c) K) ≡ bind x K
joint r f K x h = sym (bind_assoc r f K) ∙ ap (λ y. bind y K) h

-- two configurations with the same code
pub same : (l m : List Instruction) (r : ℕ) (t : State) → l ≡ m → going (config l r t) ≡ going (config m r t)
same l m r t e = ap (λ x. going (config x r t)) e

-- ---- lines of a block

pub start : {A : Type 0} (w : A → Config → Config) (m : M A) (c : Config) (x : Run) → x ≡ on (m c.state) (λ a t. going (w a (at t c))) → x ≡ fwd_by w m c
unfolding fwd_by
start w m c x h = h

step_on : {A B : Type 0} (r : Res A) (w : A → State → Config) (K : Config → Run) (f : A → M B) (E : B → State → Run)
    → ((a : A) (t : State) → r ≡ done a t → K (w a t) ≡ on (f a t) E) → bind (on r (λ a t. going (w a t))) K ≡ on (and_then r f) E
unfolding bind on and_then
step_on (refused k p) w K f E h = refl
step_on (done a t) w K f E h = h a t refl

pub step_known : {A B : Type 0} (w : A → Config → Config) (m : M A) (d : Config) (K : Config → Run) (f : A → M B) (E : B → State → Run)
    → ((a : A) (t : State) → m d.state ≡ done a t → K (w a (at t d)) ≡ on (f a t) E) → bind (fwd_by w m d) K ≡ on ((m >>= f) d.state) E
unfolding fwd_by ◌>>=◌
step_known w m d K f E h = step_on (m d.state) (λ a t. w a (at t d)) K f E h

pub step : {A B : Type 0} (w : A → Config → Config) (m : M A) (d : Config) (K : Config → Run) (f : A → M B) (E : B → State → Run)
    → ((a : A) (t : State) → K (w a (at t d)) ≡ on (f a t) E) → bind (fwd_by w m d) K ≡ on ((m >>= f) d.state) E
step w m d K f E h = step_known w m d K f E (λ a t e. h a t)

-- a line that the program writes otherwise
pub step_as : {A B : Type 0} (w : A → Config → Config) (m n : M A) (d : Config) (K : Config → Run) (f : A → M B) (E : B → State → Run)
    → m ≡ n → ((a : A) (t : State) → K (w a (at t d)) ≡ on (f a t) E) → bind (fwd_by w m d) K ≡ on ((n >>= f) d.state) E
step_as w m n d K f E e h = ap (λ x. bind (fwd_by w x d) K) e ∙ step w n d K f E h

pub next_known : {A B : Type 0} (w : A → Config → Config) (m : M A) (d : Config) (K : Config → Run) (n : M B) (E : B → State → Run)
    → ((a : A) (t : State) → m d.state ≡ done a t → K (w a (at t d)) ≡ on (n t) E) → bind (fwd_by w m d) K ≡ on ((m >> n) d.state) E
unfolding fwd_by ◌>>◌
next_known w m d K n E h = step_on (m d.state) (λ a t. w a (at t d)) K (λ a. n) E h

pub next : {A B : Type 0} (w : A → Config → Config) (m : M A) (d : Config) (K : Config → Run) (n : M B) (E : B → State → Run)
    → ((a : A) (t : State) → K (w a (at t d)) ≡ on (n t) E) → bind (fwd_by w m d) K ≡ on ((m >> n) d.state) E
next w m d K n E h = next_known w m d K n E (λ a t e. h a t)

ask_on : {A B : Type 0} (r : Res A) (K : A → State → Run) (f : A → M B) (E : B → State → Run)
    → ((a : A) (t : State) → K a t ≡ on (f a t) E) → on r K ≡ on (and_then r f) E
unfolding on and_then
ask_on (refused k p) K f E h = refl
ask_on (done a t) K f E h = h a t

pub asked : {A B : Type 0} (m : M A) (d : Config) (K : A → Config → Run) (f : A → M B) (E : B → State → Run)
    → ((a : A) (t : State) → K a (at t d) ≡ on (f a t) E) → ask m d K ≡ on ((m >>= f) d.state) E
unfolding ask ◌>>=◌
asked m d K f E h = ask_on (m d.state) (λ a t. K a (at t d)) f E h

-- ---- what holds where a step is done

abbrev pub Such : {A : Type 0} → (A → State → Type 0) → Res A → Type 0
Such P (refused k p) = Unit {0}
Such P (done a t) = P a t

pub such : {A : Type 0} (P : A → State → Type 0) (r : Res A) (a : A) (t : State) → Such P r → r ≡ done a t → P a t
such P r a t h e = rw e at h

-- ---- blocks in blocks

group_on : {A B C : Type 0} (r : Res A) (f : A → M B) (g : B → M C) → and_then (and_then r f) g ≡ and_then r (λ a. λ s. and_then (f a s) g)
unfolding and_then
group_on (refused k p) f g = refl
group_on (done a t) f g = refl

pub group : {A B C : Type 0} (m : M A) (f : A → M B) (g : B → M C) (s : State) (E : C → State → Run) (x : Run) → x ≡ on ((m >>= λ a. f a >>= g) s) E → x ≡ on (((m >>= f) >>= g) s) E
unfolding ◌>>=◌
group m f g s E x h = h ∙ sym (ap (λ r. on r E) (group_on (m s) f g))

pub group_next : {A B C : Type 0} (m : M A) (n : M B) (g : B → M C) (s : State) (E : C → State → Run) (x : Run) → x ≡ on ((m >> (n >>= g)) s) E → x ≡ on (((m >> n) >>= g) s) E
unfolding ◌>>=◌ ◌>>◌
group_next m n g s E x h = h ∙ sym (ap (λ r. on r E) (group_on (m s) (λ a. n) g))

pub group_then : {A B C : Type 0} (m : M A) (f : A → M B) (n : M C) (s : State) (E : C → State → Run) (x : Run) → x ≡ on ((m >>= λ a. f a >> n) s) E → x ≡ on (((m >>= f) >> n) s) E
unfolding ◌>>=◌ ◌>>◌
group_then m f n s E x h = h ∙ sym (ap (λ r. on r E) (group_on (m s) f (λ b. n)))

pub pass_next : {A B : Type 0} (a : A) (n : M B) (s : State) (E : B → State → Run) (x : Run) → x ≡ on (n s) E → x ≡ on ((pure a >> n) s) E
unfolding ◌>>◌ and_then pure
pass_next a n s E x h = h

pub pass : {A B : Type 0} (a : A) (g : A → M B) (s : State) (E : B → State → Run) (x : Run) → x ≡ on (g a s) E → x ≡ on ((pure a >>= g) s) E
unfolding ◌>>=◌ and_then pure
pass a g s E x h = h

-- ---- the end of a block

-- its last line, handed on
pub tail : {B : Type 0} (w : B → Config → Config) (m : M B) (d : Config) → fwd_by w m d ≡ on (m d.state) (λ b t. going (w b (at t d)))
unfolding fwd_by
tail w m d = refl

pub last : {B : Type 0} (b : B) (t : State) (E : B → State → Run) (x : Run) → x ≡ E b t → x ≡ on (pure b t) E
unfolding on pure
last b t E x h = h

pub halt : {B : Type 0} (k : Cause) (p : ℕ) (t : State) (E : B → State → Run) → stopped k p ≡ on (refuse k p t) E
unfolding on refuse
halt k p t E = refl

pub either : {B : Type 0} (b : Bool) (m n : M B) (t : State) (E : B → State → Run) (x y : Run) → x ≡ on (m t) E → y ≡ on (n t) E → pick b x y ≡ on (if_then b m n t) E
unfolding pick if_then
either true m n t E x y h k = h
either false m n t E x y h k = k

-- a line after which the answer of an earlier one is handed on
pub closing : {A B : Type 0} (m : M A) (d : Config) (b : B) (E : B → State → Run) → ((t : State) → going (at t d) ≡ E b t) → fwd_by add_none m d ≡ on ((m >> pure b) d.state) E
unfolding fwd_by ◌>>◌
closing m d b E h = ask_on (m d.state) (λ a t. going (at t d)) (λ a. pure b) E (λ a t. last _ _ _ _ (h t))

-- the program's last step, whose answer the block changes before it is handed on
pub more : {A B : Type 0} (w : A → Config → Config) (m : M A) (d : Config) (g : A → B) (E : B → State → Run) → ((a : A) (t : State) → going (w a (at t d)) ≡ E (g a) t) → fwd_by w m d ≡ on ((m >>= λ a. pure (g a)) d.state) E
unfolding fwd_by ◌>>=◌
more w m d g E h = ask_on (m d.state) (λ a t. going (w a (at t d))) (λ a. pure (g a)) E (λ a t. last _ _ _ _ (h a t))
