-- Lists made of a function's values.
use Rattle.std.specs.Prelude.{ℕ, zero, suc, cond, List, [], ◌∷◌, ◌++◌, nat_lt}

-- f 0, f 1, .., f (n - 1)
unfoldable pub tab : {X : Type 0} → (ℕ → X) → ℕ → List X
tab f zero = []
tab f (suc n) = tab f n ++ (f n ∷ [])

-- f (n - 1), .., f 0
unfoldable pub stack : {X : Type 0} → (ℕ → X) → ℕ → List X
stack f zero = []
stack f (suc n) = f n ∷ stack f n

-- f (n - 1), .., f a
unfoldable pub span : {X : Type 0} → (ℕ → X) → (a n : ℕ) → List X
span f a zero = []
span f a (suc n) = cond (nat_lt n a) [] (f n ∷ span f a n)
