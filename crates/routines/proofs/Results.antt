-- What a leaf's equation tells of the step after it, while nothing is refused: its result, and how many registers the current function has then.
use Prim.Native.Nat.{ℕ, zero, suc, ◌+◌}
use mathlib.Core.Path.{◌≡◌, refl, sym, ap, ◌∙◌}
use mathlib.Core.Bool.{Bool, true, false}
use mathlib.Core.List.{List, []}
use native.Mathlib.Omega.{arith}
use lib.Dec.{eqb}
use Rattle.meaning.specs.Opcode.{inst_bx, Closure}
use Rattle.meaning.specs.State.{◌>>=◌, and_then, pure, if_then, only_if, get, next_register, is_global, is_global_context, add_global}
use Rattle.meaning.specs.declared.Token.{Token}
use Rattle.meaning.specs.Expressions.{next_registers}
use Rattle.meaning.specs.Functions.{declare_name}
use Rattle.meaning.specs.declared.Cause.{Cause}
use Rattle.meaning.specs.declared.Cause.TheVariants.{Registers}
use Rattle.meaning.specs.declared.Instruction.{Instruction}
use Rattle.forward.specs.Forward.{Config, Run, stopped, going, bind, pick, on, at, fwd_by, sure, emit, put, closure, add_none, fwd_number, fwd_unit, fwd_zero, declare}
use Rattle.forward.proofs.ExpressionsForward.{register_none, register_forward}
use Rattle.forward.proofs.Opened.{register_opened, allocate_opened, global_opened}
use Rattle.store.specs.declared.Step.{Step}
use Rattle.store.specs.declared.Scope.{Scope}
use Rattle.store.specs.Layout.{registers}
use Rattle.store.specs.Store.{depth_of, outcome_of, result_of, open_at, state_of, config_of, goes_on}
use Rattle.store.specs.Promise.{Cost, Leaf, a_parameter}
use Rattle.store.proofs.Runs.{going_is, run_going}

abbrev count : Config → ℕ
count c = c.state.current.registers

-- of an operation: the result and the count before, the result and the count after
abbrev Always : (Config → Run) → ((result count result' count' : ℕ) → Type 0) → Type 0
Always op P = (c d : Config) → op c ≡ going d → P c.result (count c) d.result (count d)

-- THE LAW: what always holds of an operation holds of a leaf that does it
tells : {w w' : List ℕ} {p q : Scope} {s r : Step} {u : Cost} {op : Config → Run} (P : (result count result' count' : ℕ) → Type 0) → Always op P → Leaf w p s w' q r u op → goes_on (outcome_of r) → P (result_of s) (registers w (depth_of p)) (result_of r) (registers w' (depth_of q))
unfolding bind config_of state_of open_at
tells {w} {w'} {p} {q} {s} {r} {u} {op} P h l g =
    let e = going_is (outcome_of r) g in
    let f = going_is (outcome_of s) (l.moves.back g) in
    let before = run_going w p s [] f.0 f.1 in
    let after = run_going w' q r [] e.0 e.1 in
    h (config_of w p s []) (config_of w' q r []) (sym (ap (λ (x : Run). bind x op) before) ∙ sym (l.runs []) ∙ after)

-- ---- from an operation that goes on to its parts

un_going : {c d : Config} → going c ≡ going d → c ≡ d
un_going e = cc

un_bind : (r : Run) (K : Config → Run) (d : Config) → bind r K ≡ going d → (y : Config) × (r ≡ going y) × (K y ≡ going d)
unfolding bind
un_bind (stopped k n) K d e = absurd (let z : ◌≡◌ {A = ℕ} 0 1 = cc in omega arith)
un_bind (going y) K d e = (y, refl, e)

un_pick : (b : Bool) (k : Cause) (n : ℕ) (x d : Config) → pick b (stopped k n) (going x) ≡ going d → x ≡ d
unfolding pick
un_pick true k n x d e = absurd (let z : ◌≡◌ {A = ℕ} 0 1 = cc in omega arith)
un_pick false k n x d e = cc

-- ---- steps that take no register

pub record Keeps (x n x' n' : ℕ) : Type 0 where
  pub result : x' ≡ x
  pub counted : n' ≡ n

keeps_by : {c d : Config} → c ≡ d → Keeps c.result (count c) d.result (count d)
keeps_by e = record { result = sym (ap (λ (y : Config). y.result) e); counted = sym (ap (λ (y : Config). count y) e) }

pub emit_keeps : {w w' : List ℕ} {p q : Scope} {s r : Step} {u : Cost} (i : Instruction) → Leaf w p s w' q r u (sure (emit i)) → goes_on (outcome_of r) → Keeps (result_of s) (registers w (depth_of p)) (result_of r) (registers w' (depth_of q))
emit_keeps i = tells Keeps (λ c d e. keeps_by {c = emit i c} (un_going e))

pub put_keeps : {w w' : List ℕ} {p q : Scope} {s r : Step} {u : Cost} (v : ℕ) (i : Instruction) → Leaf w p s w' q r u (sure (put v i)) → goes_on (outcome_of r) → Keeps v (registers w (depth_of p)) (result_of r) (registers w' (depth_of q))
put_keeps v i = tells (λ x n x' n'. Keeps v n x' n') (λ c d e. keeps_by {c = put v i c} (un_going e))

pub closure_keeps : {w w' : List ℕ} {p q : Scope} {s r : Step} {u : Cost} (register mark : ℕ) → Leaf w p s w' q r u (sure (closure register mark)) → goes_on (outcome_of r) → Keeps register (registers w (depth_of p)) (result_of r) (registers w' (depth_of q))
unfolding closure
closure_keeps register mark = tells (λ x n x' n'. Keeps register n x' n') (λ c d e. keeps_by {c = put register (inst_bx Closure register c.result mark) c} (un_going e))

pub global_keeps : {w w' : List ℕ} {p q : Scope} {s r : Step} {u : Cost} (name : ℕ) → Leaf w p s w' q r u (fwd_unit (add_global name)) → goes_on (outcome_of r) → Keeps (result_of s) (registers w (depth_of p)) (result_of r) (registers w' (depth_of q))
global_keeps name = tells Keeps (λ c d e. keeps_by (un_going (sym (global_opened name c) ∙ e)))

-- a global's name, where the context is global
name_by : (b : Bool) (name : ℕ) (c d : Config) → on (only_if b (add_global name) c.state) (λ a t. going (add_none a (at t c))) ≡ going d → Keeps c.result (count c) d.result (count d)
unfolding on only_if if_then add_global pure
name_by true name c d e = keeps_by (un_going e)
name_by false name c d e = keeps_by (un_going e)

name_keeps : (x : Token) → Always (fwd_unit (declare_name x)) Keeps
unfolding fwd_by declare_name is_global_context ◌>>=◌ and_then get
name_keeps x c d e = name_by (is_global c.state.current c.state.outer) x.name c d e

-- ---- steps that take one: it is the count, and one more is counted

pub record Takes (n x' n' : ℕ) : Type 0 where
  pub result : x' ≡ n
  pub counted : n' ≡ n + 1

takes_keeps : {n x' n' x'' n'' : ℕ} → Takes n x' n' → Keeps x' n' x'' n'' → Takes n x'' n''
takes_keeps t k = record { result = k.result ∙ t.result; counted = k.counted ∙ t.counted }

register_takes : (node : ℕ) → Always (fwd_number (next_register node)) (λ x n x' n'. Takes n x' n')
register_takes node c d e =
    let f = un_pick (eqb (count c) 255) Registers node _ d (sym (register_opened node c) ∙ e) in
    record { result = sym (ap (λ (y : Config). y.result) f); counted = sym (ap (λ (y : Config). count y) f) }

pub takes : {w w' : List ℕ} {p q : Scope} {s r : Step} {u : Cost} (node : ℕ) → Leaf w p s w' q r u (fwd_number (next_register node)) → goes_on (outcome_of r) → Takes (registers w (depth_of p)) (result_of r) (registers w' (depth_of q))
takes node = tells (λ x n x' n'. Takes n x' n') (register_takes node)

-- with a name that is known from here on
declared : (node : ℕ) (x : Token) → Always (declare node x) (λ y n y' n'. Takes n y' n')
unfolding declare
declared node x c d e =
    let f = un_bind (fwd_number (next_register node) c) _ d e in
    takes_keeps (register_takes node c f.0 f.1) (name_keeps x f.0 d f.2)

pub declare_takes : {w w' : List ℕ} {p q : Scope} {s r : Step} {u : Cost} (node : ℕ) (x : Token) → Leaf w p s w' q r u (declare node x) → goes_on (outcome_of r) → Takes (registers w (depth_of p)) (result_of r) (registers w' (depth_of q))
declare_takes node x = tells (λ y n y' n'. Takes n y' n') (declared node x)

-- with a local that names it
parameter_takes : (node name : ℕ) → Always (a_parameter node name) (λ x n x' n'. Takes n x' n')
parameter_takes node name c d e =
    let f = un_bind (fwd_number (next_register node) c) _ d e in
    takes_keeps (register_takes node c f.0 f.1) (keeps_by (un_going (sym (allocate_opened name f.0.result f.0) ∙ f.2)))

pub named_takes : {w w' : List ℕ} {p q : Scope} {s r : Step} {u : Cost} (node name : ℕ) → Leaf w p s w' q r u (a_parameter node name) → goes_on (outcome_of r) → Takes (registers w (depth_of p)) (result_of r) (registers w' (depth_of q))
named_takes node name = tells (λ x n x' n'. Takes n x' n') (parameter_takes node name)

-- several
registers_take : (node n : ℕ) → Always (fwd_zero (next_registers node n)) (λ x m x' m'. m' ≡ m + n)
registers_take node zero c d e = let f = keeps_by (un_going (register_none node c ∙ e)) in f.counted ∙ omega arith
registers_take node (suc n) c d e =
    let f = un_bind (fwd_number (next_register node) c) _ d (register_forward node n c ∙ e) in
    let t = register_takes node c f.0 f.1 in
    let h = registers_take node n f.0 d f.2 in
    omega (arith, t.counted, h)

pub many_taken : {w w' : List ℕ} {p q : Scope} {s r : Step} {u : Cost} (node n : ℕ) → Leaf w p s w' q r u (fwd_zero (next_registers node n)) → goes_on (outcome_of r) → registers w' (depth_of q) ≡ registers w (depth_of p) + n
many_taken node n = tells (λ x m x' m'. m' ≡ m + n) (registers_take node n)
