-- The loops over the pairs of a payload (parameters, names of a for-in): each turn takes a register and a local. What is left to do after k turns, done, makes the
-- whole; the line so far is one of k turns.
use Prim.Native.Nat.{ℕ, suc, ◌+◌, ◌*◌, ◌≤◌, ◌<◌}
use mathlib.Core.Path.{◌≡◌, ap, ◌∙◌}
use mathlib.Core.List.{List, [], ◌∷◌}
use native.Mathlib.Omega.{arith}
use native.Mathlib.Numerals.{add-one}
use Rattle.meaning.specs.Fields.{words}
use Rattle.meaning.specs.Read.{at, token}
use Rattle.meaning.specs.At.{pair_place}
use Rattle.meaning.specs.declared.Token.{Token}
use Rattle.meaning.specs.Functions.{parameters}
use Rattle.meaning.specs.Opcode.{inst, GetIteri}
use Rattle.meaning.specs.State.{Proto}
use Rattle.meaning.specs.Statements.{iterate_each}
use Rattle.forward.specs.Forward.{Config, Run, bind, sure, emit, fwd_code, fwd_zero}
use Rattle.store.specs.declared.Step.{Step}
use Rattle.store.specs.declared.Scope.{Scope}
use Rattle.store.specs.Layout.{registers}
use Rattle.store.specs.Store.{depth_of, outcome_of, result_of, is_wide, run, goes_on, Fine}
use Rattle.store.specs.Promise.{Cost, uses, a_register, a_local, a_parameter, some_registers, both, Space, Leaf}
use Rattle.store.proofs.Compose.{moves_by, known}
use Rattle.routines.specs.Pieces.{tokens_from}
use Rattle.routines.proofs.PieceLine.{PieceLine, Within, ◌▹◌, from as line-from}
use Rattle.routines.proofs.Results.{named_takes, emit_keeps}
use Rattle.routines.proofs.Named.{parameter_chain, iterate_each_chain}
use Rattle.routines.proofs.Tokens.{left, mark_in, left_all, left_none, left_more}

-- the cost of k turns, of a words each
abbrev pub turns : (a k : ℕ) → Cost
turns a k = both (some_registers k) (uses (a * k) k 0)

-- after k of n turns; `op k` does what is left of the list
pub record Turned (op : ℕ → List Token → Config → Run) (l : List ℕ) (from n a : ℕ) (w₀ : List ℕ) (p : Scope) (s₀ : Step) (w : List ℕ) (s : Step) (k : ℕ) : Type 0 where
  pub most : k ≤ n
  pub line : PieceLine w₀ p s₀ 0 0 0 w s (turns a k)
  pub counted : goes_on (outcome_of s) → registers w (depth_of p) ≡ registers w₀ (depth_of p) + k
  pub rest : (ps : List Proto) (x : Run) → x ≡ bind (run w p s ps) (op k (left p l from n k)) → x ≡ bind (run w₀ p s₀ ps) (op 0 (tokens_from p l from n))

-- the same line, its cost said with other numbers
pub costing : {w w' : List ℕ} {p : Scope} {s r : Step} {a b e : ℕ} {u : Cost} (v : Cost) → Within u v → PieceLine w p s a b e w' r u → PieceLine w p s a b e w' r v
costing v k x = record { owing = x.owing; moves = moves_by v k.words k.locals k.names k.still k.visits x.moves; image = x.image }

module _ {op : ℕ → List Token → Config → Run} {l : List ℕ} {from n a : ℕ} {w₀ : List ℕ} {p : Scope} {s₀ : Step} where
  -- no turn yet
  pub no_turn : Fine w₀ p s₀ → Space w₀ p s₀ 0 0 0 → Turned op l from n a w₀ p s₀ w₀ s₀ 0
  no_turn h r =
      record {
        most = omega arith;
        line = costing (turns a 0) (record { words = omega arith; locals = omega arith; names = omega arith; still = λ z. z; visits = omega arith }) (line-from h r);
        counted = λ g. omega arith;
        rest = λ ps x e. e ∙ ap (λ t. bind (run w₀ p s₀ ps) (op 0 t)) (left_all p l from n);
      }

  -- one turn more, of which x = the k-th pair
  pub one_turn : {w w' : List ℕ} {s s' : Step} {k : ℕ} → Turned op l from n a w₀ p s₀ w s k → k < n → PieceLine w₀ p s₀ 0 0 0 w' s' (turns a (k + 1)) → (goes_on (outcome_of s') → registers w' (depth_of p) ≡ registers w₀ (depth_of p) + (k + 1))
      → ((ps : List Proto) (x : Run) → x ≡ bind (run w' p s' ps) (op (suc k) (left p l from n (k + 1))) → x ≡ bind (run w p s ps) (op k (token (at (words l) (from + pair_place (is_wide p) k)) (mark_in p l from k) ∷ left p l from n (k + 1))))
      → Turned op l from n a w₀ p s₀ w' s' (k + 1)
  one_turn {w} {w'} {s} {s'} {k} v less line counted turn =
      record {
        most = omega arith;
        line = line;
        counted = counted;
        rest = λ ps x e. v.rest ps x (rw (left_more p l from n k less) (turn ps x (rw (← (add-one k)) e)));
      }

  -- no turn left
  pub all_turned : {w : List ℕ} {s : Step} {k : ℕ} → Turned op l from n a w₀ p s₀ w s k → n ≤ k → (ps : List Proto) (x : Run) → x ≡ bind (run w p s ps) (op k []) → x ≡ bind (run w₀ p s₀ ps) (op 0 (tokens_from p l from n))
  all_turned {w} {s} {k} v done ps x e = v.rest ps x (rw (left_none p l from n k done) e)

-- ---- one turn of each loop

-- what is left of the parameters, from the i-th on; of the names of a for-in
abbrev pub all_parameters : (node : ℕ) → ℕ → List Token → Config → Run
all_parameters node i ts = fwd_zero (parameters node ts)

abbrev pub all_names : (node mark element : ℕ) → ℕ → List Token → Config → Run
all_names node mark element i ts = fwd_code (iterate_each node mark element i ts)

module _ (node name : ℕ) {l : List ℕ} {from n k : ℕ} {w₀ w w' : List ℕ} {p : Scope} {s₀ s s' : Step} where
  pub parameter_turn : Turned (all_parameters node) l from n 1 w₀ p s₀ w s k → k < n → name ≡ at (words l) (from + pair_place (is_wide p) k)
      → Leaf w p s w' p s' (both a_register a_local) (a_parameter node name) → Turned (all_parameters node) l from n 1 w₀ p s₀ w' s' (k + 1)
  parameter_turn v less e m =
      one_turn v less (costing (turns 1 (k + 1)) (record { words = omega arith; locals = omega arith; names = omega arith; still = λ z. omega arith; visits = omega arith }) (v.line ▹ m))
      (λ g. omega (arith, (named_takes node name m g).counted, v.counted (m.moves.back g)))
      (λ ps x h. parameter_chain node (token (at (words l) (from + pair_place (is_wide p) k)) (mark_in p l from k)) _ _ _ (rw (← e) (m.runs ps)) _ (known _ _ _ ps) x h)

module _ (node mark element name : ℕ) {l : List ℕ} {from n k : ℕ} {w₀ w w1 w' : List ℕ} {p : Scope} {s₀ s s1 s' : Step} where
  pub name_turn : Turned (all_names node mark element) l from n 3 w₀ p s₀ w s k → k < n → name ≡ at (words l) (from + pair_place (is_wide p) k)
      → Leaf w p s w1 p s1 (both a_register a_local) (a_parameter node name) → Leaf w1 p s1 w' p s' (uses 2 0 0) (sure (emit (inst GetIteri (result_of s1) element k mark)))
      → Turned (all_names node mark element) l from n 3 w₀ p s₀ w' s' (k + 1)
  name_turn v less e m i =
      one_turn v less (costing (turns 3 (k + 1)) (record { words = omega arith; locals = omega arith; names = omega arith; still = λ z. omega arith; visits = omega arith }) (v.line ▹ m ▹ i))
      (λ g. omega (arith, (emit_keeps _ i g).counted, (named_takes node name m (i.moves.back g)).counted, v.counted (m.moves.back (i.moves.back g))))
      (λ ps x h. iterate_each_chain node mark element k (token (at (words l) (from + pair_place (is_wide p) k)) (mark_in p l from k)) _ _ _ (rw (← e) (m.runs ps)) _ (known _ _ _ ps) _ (i.runs ps) x h)
