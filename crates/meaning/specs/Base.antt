-- The lowest number at which a test fails, and how often a number stands in a list.
use Rattle.std.specs.Prelude.{ℕ, zero, suc, Bool, cond, List, [], ◌∷◌, eqb}

-- from k on, at most n numbers further
unfoldable pub lowest_by : (ℕ → Bool) → (n k : ℕ) → ℕ
lowest_by p zero k = k
lowest_by p (suc n) k = cond (p k) (lowest_by p n (suc k)) k

-- the lowest number below n at which p fails, or n
unfoldable pub lowest : (ℕ → Bool) → ℕ → ℕ
lowest p n = lowest_by p n 0

-- how often x stands in a list
unfoldable pub count : ℕ → List ℕ → ℕ
count x [] = 0
count x (y ∷ ys) = cond (eqb y x) (suc (count x ys)) (count x ys)
