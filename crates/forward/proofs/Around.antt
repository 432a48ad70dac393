-- Brackets: a block and a loop are entered and left around a step (one law for both), a function is entered and left around its code. In a program
-- enter, step and leave are lines of their own, then comes K.
use Prim.Native.Nat.{ℕ}
use mathlib.Core.Path.{◌≡◌, refl, ◌∙◌}
use mathlib.Core.List.{List, ◌++◌}
use lib.ListN.{length}
use lib.Seq.{take_at, drop_at}
use Rattle.meaning.specs.State.{State, M, ◌>>=◌, ◌>>◌, pure, enter_function, add_prototype, close_function, in_function}
use Rattle.meaning.specs.declared.Instruction.{Instruction}
use Rattle.forward.specs.Forward.{Config, config, Run, bind, on, at, fwd_by, give, fwd_code, fwd_number, fwd_unit, leave_function}
use Rattle.forward.proofs.Steps.{step, next, inner, group, group_next, pass}

-- an answer that is written as code and a result
abbrev pub write : {A : Type 0} → (A → List Instruction) → (A → ℕ → ℕ) → A → Config → Config
write l r a c = config (c.code ++ l a) (r a c.result) c.state

-- a block or a loop: enter, m, leave
pub bracket : {A B : Type 0} (enter leave : M (Unit {0})) (l : A → List Instruction) (r : A → ℕ → ℕ) (m : M A) (d : Config) (K : Config → Run) (g : A → M B) (E : B → State → Run)
    → ((a : A) (u : State) → K (write l r a (at u d)) ≡ on (g a u) E)
    → bind (fwd_unit enter d) (λ e. bind (fwd_by (write l r) m e) (λ f. bind (fwd_unit leave f) K)) ≡ on (((enter >> (m >>= λ x. leave >> pure x)) >>= g) d.state) E
bracket enter leave l r m d K g E h =
    group_next _ _ _ _ _ _ (next _ _ _ _ _ _ λ z s. group _ _ _ _ _ _ (step _ _ _ _ _ _ λ a t. group_next _ _ _ _ _ _ (next _ _ _ _ _ _ λ y u. pass _ _ _ _ _ (h a u))))

leave_is : (node params : ℕ) (c l : List Instruction) (r : ℕ) (u : State) (K : Config → Run)
    → bind (leave_function (length c) node params (config (c ++ l) r u)) K ≡ bind (fwd_number (add_prototype node params l) (config c r u)) (λ f. bind (fwd_unit close_function f) K)
unfolding leave_function
leave_is node params c l r u K = rw (take_at c l (length c) refl, drop_at c l (length c) refl) (inner _ _ _ _ refl)

-- a function: enter, its code, leave
pub in_function_bracket : {B : Type 0} (node name params : ℕ) (x : M (List Instruction)) (d : Config) (K : Config → Run) (g : ℕ → M B) (E : B → State → Run)
    → ((i : ℕ) (t : State) → K (give i (at t d)) ≡ on (g i t) E)
    → bind (fwd_unit (enter_function node name) d) (λ e. bind (fwd_code x e) (λ f. bind (leave_function (length d.code) node params f) K)) ≡ on ((in_function node name params x >>= g) d.state) E
unfolding in_function
in_function_bracket node name params x d K g E h =
    group_next _ _ _ _ _ _ (next _ _ _ _ _ _ λ z s. group _ _ _ _ _ _ (step _ _ _ _ _ _ λ l t.
    leave_is node params d.code l 0 t K ∙ group _ _ _ _ _ _ (step _ _ _ _ _ _ λ i u. group_next _ _ _ _ _ _ (next _ _ _ _ _ _ λ y v. pass _ _ _ _ _ (h i v)))))
