-- The pairs of a payload, one by one.
use Prim.Native.Nat.{ℕ, suc, ◌+◌, ◌-◌, ◌≤◌, ◌<◌}
use mathlib.Core.Path.{◌≡◌, refl, ap, ap₂, ◌∙◌}
use mathlib.Core.Bool.{Bool, true, false}
use mathlib.Core.List.{List, [], ◌∷◌}
use native.Mathlib.Omega.{arith}
use lib.ListN.{length}
use Rattle.meaning.specs.Fields.{words}
use Rattle.meaning.specs.Read.{at, token}
use Rattle.meaning.specs.At.{mark_at, mark_words, pair_place, pairs_in}
use Rattle.meaning.specs.declared.Token.{Token}
use Rattle.store.specs.declared.Scope.{Scope}
use Rattle.store.specs.Store.{is_wide}
use Rattle.routines.specs.Pieces.{tokens_from, HasPairs}

-- the pairs from the k-th on
abbrev pub left : Scope → List ℕ → (from n k : ℕ) → List Token
left p l from n k = tokens_from p l (from + pair_place (is_wide p) k) (n - k)

-- the mark of the k-th
abbrev pub mark_in : Scope → List ℕ → (from k : ℕ) → ℕ
mark_in p l from k = mark_at (is_wide p) (words l) (from + pair_place (is_wide p) k + 1)

none_before : (b : Bool) → pair_place b 0 ≡ 0
none_before true = refl
none_before false = refl

pub left_all : (p : Scope) (l : List ℕ) (from n : ℕ) → left p l from n 0 ≡ tokens_from p l from n
left_all p l from n = ap₂ (λ i m. tokens_from p l i m) (let z = none_before (is_wide p) in omega (arith, z)) (let f : n - 0 ≡ n = omega arith in f)

pub none_left : (p : Scope) (l : List ℕ) (from n : ℕ) → n ≡ 0 → tokens_from p l from n ≡ []
unfolding tokens_from
none_left p l from n h = ap (pairs_in (is_wide p) (words l) from) h

pub left_none : (p : Scope) (l : List ℕ) (from n k : ℕ) → n ≤ k → left p l from n k ≡ []
left_none p l from n k h = none_left p l (from + pair_place (is_wide p) k) (n - k) (omega arith)

-- ---- the first pair, and the only one

pub first_token : (p : Scope) (l : List ℕ) (from n : ℕ) → 1 ≤ n → tokens_from p l from n ≡ token (at (words l) from) (mark_at (is_wide p) (words l) (from + 1)) ∷ tokens_from p l (from + 1 + mark_words (is_wide p)) (n - 1)
unfolding tokens_from
first_token p l from n some = ap (pairs_in (is_wide p) (words l) from) (let z : n ≡ suc (n - 1) = omega arith in z)

pub left_more : (p : Scope) (l : List ℕ) (from n k : ℕ) → k < n → left p l from n k ≡ token (at (words l) (from + pair_place (is_wide p) k)) (mark_in p l from k) ∷ left p l from n (k + 1)
left_more p l from n k less =
    first_token p l (from + pair_place (is_wide p) k) (n - k) (omega arith)
    ∙ ap (λ ts. token (at (words l) (from + pair_place (is_wide p) k)) (mark_in p l from k) ∷ ts) (ap₂ (tokens_from p l) (further (is_wide p)) (let z : n - k - 1 ≡ n - (k + 1) = omega arith in z))
  where
    further : (b : Bool) → from + pair_place b k + 1 + mark_words b ≡ from + pair_place b (k + 1)
    further true = omega arith
    further false = omega arith

pub one_token : (p : Scope) (l : List ℕ) (from n : ℕ) → n ≡ 1 → tokens_from p l from n ≡ token (at (words l) from) (mark_at (is_wide p) (words l) (from + 1)) ∷ []
one_token p l from n one = first_token p l from n (omega arith) ∙ ap (λ ts. token (at (words l) from) (mark_at (is_wide p) (words l) (from + 1)) ∷ ts) (none_left p l (from + 1 + mark_words (is_wide p)) (n - 1) (omega arith))

pub two_tokens : (p : Scope) (l : List ℕ) (from n : ℕ) → 2 ≤ n → 2 ≤ length (tokens_from p l from n)
two_tokens p l from n two = rw (first_token p l from n (omega arith), first_token p l (from + 1 + mark_words (is_wide p)) (n - 1) (omega arith)) (omega arith)

-- ---- where a pair stands

before : (b : Bool) (from k n len : ℕ) → k < n → from + pair_place b n ≤ len → from + pair_place b k < len
before true from k n len l h = omega arith
before false from k n len l h = omega arith

-- each of the n pairs is in the payload
pub pair_there : {p : Scope} {l : List ℕ} {from n : ℕ} (k : ℕ) → HasPairs p l from n → k < n → from + pair_place (is_wide p) k < length (words l)
pair_there {p} {l} {from} {n} k h b = before (is_wide p) from k n (length (words l)) b h.inside
