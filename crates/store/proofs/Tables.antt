-- Lists made of a function's values: they grow by one, they agree where the functions agree, and a change at one place is `set`.
use Rattle.std.proofs.Common.{◌≡◌, ℕ, zero, suc, ◌+◌, ◌<◌, ◌≤◌, [], ◌∷◌, ◌++◌, length, get_or, take, drop, set, sym, refl, ap, ◌∙◌, ap₂, append_assoc, append-nil, add-zero, add-suc, arith, length-append, take_at, drop_at, le-ltb, lt-ltb}
use native.Mathlib.Decide.{dec_lt}
use lib.ListN.{get_or-append}
use lib.Seq.{set_out, set_at, set-append_left, get_or_at}
use Rattle.store.specs.Table.{tab, stack, span}

module _ {X : Type 0} (f : ℕ → X) where
  pub tab_none : tab f 0 ≡ []
  unfolding tab
  tab_none = refl

  pub tab_suc : (n : ℕ) → tab f (suc n) ≡ tab f n ++ (f n ∷ [])
  unfolding tab
  tab_suc n = refl

  pub stack_none : stack f 0 ≡ []
  unfolding stack
  stack_none = refl

  pub stack_suc : (n : ℕ) → stack f (suc n) ≡ f n ∷ stack f n
  unfolding stack
  stack_suc n = refl

  pub span_more : (a n : ℕ) → a ≤ n → span f a (suc n) ≡ f n ∷ span f a n
  unfolding span
  span_more a n h = rw (le-ltb n a h)

  pub span_none : (a n : ℕ) → n ≤ a → span f a n ≡ []
  unfolding span
  span_none a zero h = refl
  span_none a (suc n) h = rw (lt-ltb n a h)

pub tab_front : {X : Type 0} (f : ℕ → X) (n : ℕ) → tab f (suc n) ≡ f 0 ∷ tab (λ i. f (suc i)) n
unfolding tab
tab_front f zero = refl
tab_front f (suc n) = ap (λ l. l ++ (f (suc n) ∷ [])) (tab_front f n)

pub tab_length : {X : Type 0} (f : ℕ → X) (n : ℕ) → length (tab f n) ≡ n
unfolding tab
tab_length f zero = refl
tab_length f (suc n) = omega (arith, length-append (tab f n) (f n ∷ []), tab_length f n)

pub tab_ext : {X : Type 0} (f g : ℕ → X) (n : ℕ) → ((i : ℕ) → i < n → f i ≡ g i) → tab f n ≡ tab g n
unfolding tab
tab_ext f g zero h = refl
tab_ext f g (suc n) h = ap₂ (λ l x. l ++ (x ∷ [])) (tab_ext f g n (λ i k. h i (omega arith))) (h n (omega arith))

pub stack_ext : {X : Type 0} (f g : ℕ → X) (n : ℕ) → ((i : ℕ) → i < n → f i ≡ g i) → stack f n ≡ stack g n
unfolding stack
stack_ext f g zero h = refl
stack_ext f g (suc n) h = ap₂ (λ x l. x ∷ l) (h n (omega arith)) (stack_ext f g n (λ i k. h i (omega arith)))

pub span_ext : {X : Type 0} (f g : ℕ → X) (a n : ℕ) → ((i : ℕ) → a ≤ i → i < n → f i ≡ g i) → span f a n ≡ span g a n
span_ext f g a zero h = span_none f a zero (omega arith) ∙ sym (span_none g a zero (omega arith))
span_ext {X} f g a (suc n) h = cases (span_ext f g a n (λ i k l. h i k (omega arith))) (dec_lt n a)
  where
    cases : span f a n ≡ span g a n → Dec (n < a) → span f a (suc n) ≡ span g a (suc n)
    cases ih (yes k) = span_none f a (suc n) k ∙ sym (span_none g a (suc n) k)
    cases ih (no k) =
        let l : a ≤ n = omega arith in
        span_more f a n l ∙ ap₂ (λ x t. x ∷ t) (h n l (omega arith)) ih ∙ sym (span_more g a n l)

-- the value at an index
pub tab_getD : {X : Type 0} (f : ℕ → X) (n i : ℕ) (x : X) → i < n → get_or (tab f n) i x ≡ f i
unfolding tab
tab_getD f zero i x h = absurd (omega arith)
tab_getD f (suc n) i x h = cases (dec_lt i n) (λ k. tab_getD f n i x k)
  where
    cases : Dec (i < n) → (i < n → get_or (tab f n) i x ≡ f i) → get_or (tab f n ++ (f n ∷ [])) i x ≡ f i
    cases (yes a) ih = get_or-append (tab f n) (f n ∷ []) x i (omega (arith, tab_length f n)) ∙ ih a
    cases (no a) ih =
        let e : i ≡ n = omega arith in
        rw e (get_or_at (tab f n) (f n) [] x n (tab_length f n))

-- a function changed at one place
pub tab_set : {X : Type 0} (f g : ℕ → X) (n p : ℕ) (x : X) → (p < n → g p ≡ x) → ((j : ℕ) → j < n → ¬ (j ≡ p) → g j ≡ f j) → tab g n ≡ set (tab f n) p x
unfolding tab
tab_set f g zero p x h k = refl
tab_set {X} f g (suc n) p x h k = cases (tab_set f g n p x (λ l. h (omega arith)) (λ j l. k j (omega arith))) (dec_lt p n) (dec_lt n p)
  where
    cases : tab g n ≡ set (tab f n) p x → Dec (p < n) → Dec (n < p) → tab g n ++ (g n ∷ []) ≡ set (tab f n ++ (f n ∷ [])) p x
    cases ih (yes a) b = rw (ih, k n (omega arith) (omega arith)) (sym (set-append_left (tab f n) (f n ∷ []) p x (omega (arith, tab_length f n))))
    cases ih (no a) (yes b) =
        let out : length (tab f n ++ (f n ∷ [])) ≤ p = omega (arith, length-append (tab f n) (f n ∷ []), tab_length f n) in
        rw (ih, k n (omega arith) (omega arith), set_out (tab f n) p x (omega (arith, tab_length f n))) (sym (set_out (tab f n ++ (f n ∷ [])) p x out))
    cases ih (no a) (no b) =
        let e : p ≡ n = omega arith in
        let v : g n ≡ x = ap g (sym e) ∙ h (omega arith) in
        rw (ih, set_out (tab f n) p x (omega (arith, tab_length f n)), v, e) (sym (set_at (tab f n) (f n) [] x n (tab_length f n)))

-- the first a values, and those after them
pub tab_add : {X : Type 0} (f : ℕ → X) (a n : ℕ) → tab f (a + n) ≡ tab f a ++ tab (λ j. f (a + j)) n
unfolding tab
tab_add f a zero = rw (add-zero, append-nil)
tab_add f a (suc n) = rw (add-suc) (rw (tab_add f a n) (append_assoc (tab f a) (tab (λ j. f (a + j)) n) (f (a + n) ∷ [])))

pub tab_take : {X : Type 0} (f : ℕ → X) (a n : ℕ) → take a (tab f (a + n)) ≡ tab f a
tab_take f a n = rw (tab_add f a n) (take_at (tab f a) (tab (λ j. f (a + j)) n) a (tab_length f a))

pub tab_drop : {X : Type 0} (f : ℕ → X) (a n : ℕ) → drop a (tab f (a + n)) ≡ tab (λ j. f (a + j)) n
tab_drop f a n = rw (tab_add f a n) (drop_at (tab f a) (tab (λ j. f (a + j)) n) a (tab_length f a))
