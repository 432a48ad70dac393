-- A register with a local that names it is one call here (store's declare_parameter), where forward's lines have two: the same lines with the one call.
use Prim.Native.Nat.{ℕ, suc}
use mathlib.Core.Path.{◌≡◌, refl, ◌∙◌}
use mathlib.Core.List.{List, ◌∷◌}
use Rattle.meaning.specs.Opcode.{inst, no_mark, GetIteri, GetCurrentFunc, DeregisterTryCatch, GetExcept}
use Rattle.meaning.specs.declared.Token.{Token}
use Rattle.meaning.specs.State.{next_register, allocate_register}
use Rattle.meaning.specs.Functions.{parameters}
use Rattle.meaning.specs.Statements.{iterate_each}
use Rattle.forward.specs.Forward.{Config, Run, bind, sure, emit, fwd_code, fwd_number, fwd_unit, fwd_zero, open_fun, open_catch}
use Rattle.forward.proofs.Steps.{bind_assoc, bind_ext}
use Rattle.forward.proofs.Calls.{Seen, Calls, finally, does, ◌>>=◌, ◌>>◌, Chain, chain}
use Rattle.forward.proofs.Opened.{allocate_opened}
use Rattle.forward.proofs.FunctionsForward.{parameter_forward}
use Rattle.forward.proofs.StatementsForward.{iterate_each_forward}
use Rattle.store.specs.Promise.{a_parameter}

abbrev one_call : (node name : ℕ) → (Seen → Calls) → Calls
one_call node name p = do
  s1 ← a_parameter node name
  p s1

abbrev two_calls : (node name : ℕ) → (Seen → Calls) → Calls
two_calls node name p = do
  s1 ← fwd_number (next_register node)
  fwd_unit (allocate_register name s1.result)
  p s1

-- the local changes neither the code's length nor the result, so what is read after it is what is read before it
one_is_two : (node name : ℕ) (p : Seen → Calls) (c : Config) → does (one_call node name p) c ≡ does (two_calls node name p) c
unfolding bind
one_is_two node name p c = bind_assoc (fwd_number (next_register node) c) _ _ ∙ bind_ext (fwd_number (next_register node) c) _ _ (λ d. rw (allocate_opened name d.result d))

one_chain : (node name : ℕ) (p : Seen → Calls) (F : Config → Run) → ((c : Config) → does (two_calls node name p) c ≡ F c) → (r : Run) → Chain (one_call node name p) r F
one_chain node name p F h = chain (one_call node name p) F (λ c. one_is_two node name p c ∙ h c)

-- ---- one parameter, one name of a for-in

abbrev after_parameter : ℕ → List Token → Seen → Calls
after_parameter node ps s1 = finally (fwd_zero (parameters node ps))

pub parameter_chain : (node : ℕ) (p : Token) (ps : List Token) (r : Run) → Chain (one_call node p.name (after_parameter node ps)) r (fwd_zero (parameters node (p ∷ ps)))
parameter_chain node p ps = one_chain node p.name (after_parameter node ps) _ (parameter_forward node p ps)

abbrev after_name : (node mark element i : ℕ) → List Token → Seen → Calls
after_name node mark element i xs s1 = do
  sure (emit (inst GetIteri s1.result element i mark))
  finally (fwd_code (iterate_each node mark element (suc i) xs))

pub iterate_each_chain : (node mark element i : ℕ) (x : Token) (xs : List Token) (r : Run) → Chain (one_call node x.name (after_name node mark element i xs)) r (fwd_code (iterate_each node mark element i (x ∷ xs)))
iterate_each_chain node mark element i x xs = one_chain node x.name (after_name node mark element i xs) _ (iterate_each_forward node mark element i x xs)

-- ---- a function's own name, a catch's variable

abbrev after_own : ℕ → Token → List Token → Seen → Calls
after_own node x params s1 = do
  fwd_zero (parameters node params)
  finally (sure (emit (inst GetCurrentFunc s1.result 0 0 x.mark)))

pub open_fun_chain : (node : ℕ) (x : Token) (params : List Token) (r : Run) → Chain (one_call node x.name (after_own node x params)) r (open_fun node x params)
unfolding open_fun
open_fun_chain node x params = one_chain node x.name (after_own node x params) _ (λ c. refl)

abbrev after_caught : Token → Seen → Calls
after_caught x s1 = do
  sure (emit (inst GetExcept s1.result 0 0 x.mark))
  finally (sure (emit (inst DeregisterTryCatch 0 0 0 no_mark)))

pub open_catch_chain : (node : ℕ) (x : Token) (r : Run) → Chain (one_call node x.name (after_caught x)) r (open_catch node x)
unfolding bind open_catch
open_catch_chain node x = one_chain node x.name (after_caught x) _ (λ c. refl)
