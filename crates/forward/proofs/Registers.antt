-- Registers follow one another: the register after r is r + 1. So one number names all the registers that a function takes in a row.
use Prim.Native.Nat.{ℕ, ◌+◌}
use mathlib.Core.Path.{◌≡◌, refl, sym, ap, ◌∙◌}
use mathlib.Core.Bool.{Bool, true, false}
use lib.Dec.{eqb}
use Rattle.meaning.specs.declared.Token.{Token}
use Rattle.meaning.specs.State.{State, M, done, and_then, ◌>>=◌, ◌>>◌, pure, refuse, if_then, only_if, get, set_current, next_register, is_global, is_global_context, add_global}
use Rattle.meaning.specs.Functions.{declare_name}
use Rattle.forward.proofs.Steps.{Such, such}

abbrev registers : State → ℕ
registers s = s.current.registers

either_such : {A : Type 0} (b : Bool) (m n : M A) (s : State) (P : A → State → Type 0) → Such P (m s) → Such P (n s) → Such P (if_then b m n s)
unfolding if_then
either_such true m n s P h k = h
either_such false m n s P h k = k

-- next_register gives the count, and counts
register_counts : (node : ℕ) (s : State) → Such (λ r t. (r ≡ registers s) × (registers t ≡ registers s + 1)) (next_register node s)
unfolding next_register ◌>>=◌ ◌>>◌ and_then get set_current pure refuse
register_counts node s = either_such (eqb (registers s) 255) _ _ s _ tt (refl, refl)

-- a global's name changes no register
declare_keeps : (x : Token) (s : State) → Such (λ u t. registers t ≡ registers s) (declare_name x s)
unfolding declare_name ◌>>=◌ and_then get is_global_context only_if add_global pure
declare_keeps x s = either_such (is_global s.current s.outer) _ _ s _ refl refl

pub registers_follow : (node node' : ℕ) (s t u : State) (r q : ℕ) → next_register node s ≡ done r t → next_register node' t ≡ done q u → q ≡ r + 1
registers_follow node node' s t u r q e f =
    let g = such _ _ r t (register_counts node s) e in
    let h = such _ _ q u (register_counts node' t) f in
    h.0 ∙ g.1 ∙ sym (ap (λ n. n + 1) g.0)

-- the same with declare-name between
pub declared_follow : (node node' : ℕ) (x : Token) (s t u v : State) (r q : ℕ) → next_register node s ≡ done r t → declare_name x t ≡ done tt u → next_register node' u ≡ done q v → q ≡ r + 1
declared_follow node node' x s t u v r q e d f =
    let g = such _ _ r t (register_counts node s) e in
    let h = such _ _ q v (register_counts node' u) f in
    h.0 ∙ such _ _ tt u (declare_keeps x t) d ∙ g.1 ∙ sym (ap (λ n. n + 1) g.0)
