-- The first fact that fails, prototype by prototype.
use mathlib.Core.Path.{◌≡◌, refl, ap, ◌∙◌, subst}
use mathlib.Core.Bool.{Bool, true, false}
use mathlib.Core.Option.{Option, none, some}
use mathlib.Core.List.{List, [], ◌∷◌, ◌++◌}
use Prim.Native.Nat.{ℕ, zero, suc, ◌+◌, ◌<◌}
use native.Mathlib.Omega.{arith}
use lib.ListN.{length, get_or, replicate}
use Rattle.meaning.specs.Opcode.{inst, no_mark, Return}
use Rattle.meaning.specs.Constant.{Constant}
use Rattle.meaning.specs.State.{Proto}
use Rattle.meaning.specs.Steps.{inst_at}
use Rattle.meaning.specs.declared.Instruction.{Instruction}
use Rattle.meaning.specs.Follow.{further}
use Rattle.meaning.specs.Rules.{lawful, code_tests, proto_tests, first_false}
use Rattle.reader.proofs.Glances.{shift}

further_shift : (n : ℕ) (o : Option ℕ) → further (shift n o) ≡ shift (suc n) o
further_shift n none = refl
further_shift n (some k) = ap (λ (m : ℕ). some m) (let z : suc (n + k) ≡ suc n + k = omega arith in z)

shift_none : (o : Option ℕ) → o ≡ shift 0 o
shift_none none = refl
shift_none (some k) = ap (λ (m : ℕ). some m) (let z : k ≡ 0 + k = omega arith in z)

trues : (n : ℕ) (b : List Bool) → first_false (replicate n true ++ b) ≡ shift n (first_false b)
unfolding first_false
trues zero b = shift_none (first_false b)
trues (suc n) b = ap further (trues n b) ∙ further_shift n (first_false b)

module _ (ks : List Constant) (ps : List Proto) (p : Proto) (b : List Bool) where
  code_fails : (xs : List Instruction) (i j : ℕ) (d : Instruction) → j < length xs → ((m : ℕ) → m < j → lawful ks ps p (i + m) (get_or xs m d) ≡ true) → lawful ks ps p (i + j) (get_or xs j d) ≡ false
      → first_false (code_tests ks ps p i xs ++ b) ≡ some j
  unfolding first_false code_tests
  code_fails [] i j d h good bad = absurd (omega arith)
  code_fails (x ∷ xs) i zero d h good bad = rw (subst (λ (m : ℕ). lawful ks ps p m x ≡ false) (let z : i + 0 ≡ i = omega arith in z) bad) refl
  code_fails (x ∷ xs) i (suc j) d h good bad =
      rw (subst (λ (m : ℕ). lawful ks ps p m x ≡ true) (let z : i + 0 ≡ i = omega arith in z) (good 0 (omega arith)))
      (ap further (code_fails xs (i + 1) j d (omega arith)
      (λ m l. subst (λ (k : ℕ). lawful ks ps p k (get_or xs m d) ≡ true) (let z : i + suc m ≡ i + 1 + m = omega arith in z) (good (suc m) (omega arith)))
      (subst (λ (k : ℕ). lawful ks ps p k (get_or xs j d) ≡ false) (let z : i + suc j ≡ i + 1 + j = omega arith in z) bad)))

  code_passes : (xs : List Instruction) (i : ℕ) (d : Instruction) → ((m : ℕ) → m < length xs → lawful ks ps p (i + m) (get_or xs m d) ≡ true) → first_false (code_tests ks ps p i xs ++ b) ≡ shift (length xs) (first_false b)
  unfolding first_false code_tests
  code_passes [] i d good = shift_none (first_false b)
  code_passes (x ∷ xs) i d good =
      rw (subst (λ (m : ℕ). lawful ks ps p m x ≡ true) (let z : i + 0 ≡ i = omega arith in z) (good 0 (omega arith)))
      (ap further (code_passes xs (i + 1) d (λ m l. subst (λ (k : ℕ). lawful ks ps p k (get_or xs m d) ≡ true) (let z : i + suc m ≡ i + 1 + m = omega arith in z) (good (suc m) (omega arith)))) ∙ further_shift (length xs) (first_false b))

-- a prototype, and those behind it
module _ (ks : List Constant) (earlier : List Proto) (p : Proto) (ps : List Proto) where
  head : (o : Option ℕ) → first_false (code_tests ks earlier p 0 p.code ++ proto_tests ks (earlier ++ p ∷ []) ps) ≡ o → first_false (proto_tests ks earlier (p ∷ ps)) ≡ further (shift (length p.captures) o)
  unfolding first_false proto_tests
  head o e = ap further (trues (length p.captures) (code_tests ks earlier p 0 p.code ++ proto_tests ks (earlier ++ p ∷ []) ps) ∙ ap (shift (length p.captures)) e)

  zero_more : (m : ℕ) (b : Bool) → lawful ks earlier p m (inst_at p.code m) ≡ b → lawful ks earlier p (0 + m) (inst_at p.code m) ≡ b
  zero_more m b e = subst (λ (k : ℕ). lawful ks earlier p k (inst_at p.code m) ≡ b) (let z : m ≡ 0 + m = omega arith in z) e

  -- one of its instructions fails
  pub proto_fails : (j : ℕ) → j < length p.code → ((m : ℕ) → m < j → lawful ks earlier p m (inst_at p.code m) ≡ true) → lawful ks earlier p j (inst_at p.code j) ≡ false
      → first_false (proto_tests ks earlier (p ∷ ps)) ≡ some (1 + length p.captures + j)
  proto_fails j h good bad =
      head (some j) (code_fails ks earlier p (proto_tests ks (earlier ++ p ∷ []) ps) p.code 0 j (inst Return 0 0 0 no_mark) h (λ m l. zero_more m true (good m l)) (zero_more j false bad))
      ∙ ap (λ (m : ℕ). some m) (let z : suc (length p.captures + j) ≡ 1 + length p.captures + j = omega arith in z)

  -- none does
  pub proto_passes : ((m : ℕ) → m < length p.code → lawful ks earlier p m (inst_at p.code m) ≡ true)
      → first_false (proto_tests ks earlier (p ∷ ps)) ≡ shift (1 + length p.captures + length p.code) (first_false (proto_tests ks (earlier ++ p ∷ []) ps))
  proto_passes good =
      head _ (code_passes ks earlier p (proto_tests ks (earlier ++ p ∷ []) ps) p.code 0 (inst Return 0 0 0 no_mark) (λ m l. zero_more m true (good m l)))
      ∙ twice (first_false (proto_tests ks (earlier ++ p ∷ []) ps))
    where
      twice : (o : Option ℕ) → further (shift (length p.captures) (shift (length p.code) o)) ≡ shift (1 + length p.captures + length p.code) o
      twice none = refl
      twice (some k) = ap (λ (m : ℕ). some m) (let z : suc (length p.captures + (length p.code + k)) ≡ 1 + length p.captures + length p.code + k = omega arith in z)
