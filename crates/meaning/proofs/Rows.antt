-- Rows of a node's words: how a loop over the words `from` up to `to` takes a row apart, and what it may go by of each word.
--     exprs-more, exprs-none, ..     the row of children from k on is the child at word k, then the row from k + 1 on; at the end there is none
--     in_row, in_pairs               each word of a lawful row is lawful
use mathlib.Core.Path.{◌≡◌, refl, sym, ap, ◌∙◌}
use mathlib.Core.Bool.{Bool}
use mathlib.Core.List.{List, [], ◌∷◌}
use Prim.Native.Nat.{ℕ, zero, suc, ◌+◌, ◌-◌, ◌*◌, ◌%◌, ◌<◌, ◌≤◌}
use native.Mathlib.Nat.{zero-add, suc-add}
use native.Mathlib.Numerals.{add-one}
use native.Mathlib.Omega.{arith}
use lib.ListN.{length, take, drop, length-take, drop_of_length-le}
use lib.Seq.{slice, slice-cons, length-slice, take-length, take-nil, get_or-drop, get_or-take}
use borrow.Author.Tests.{ne_eqb}
use Rattle.meaning.specs.Fields.{Field}
use Rattle.meaning.specs.Syntax.{and_expr, no_expr, and_stmt, no_stmt, and_fun, no_fun, no_elif, no_super, super}
use Rattle.meaning.specs.Read.{at, token, tokens, exprs, readers, words_at}
use Rattle.meaning.specs.Lower.{arguments}
use Rattle.meaning.specs.At.{readers_at, word_of, count_of, expr_at, stmt_at, fun_at, elif_at, variable_at, exprs_at, stmts_at, funs_at, elifs_at, tokens_at, init_at, super_at}
use Rattle.meaning.proofs.Payload.{Allowed, Row}

-- ---- parts of a list

-- `take n (drop k ws)` and `drop k ws`, by their ends
pub part_slice : (ws : List ℕ) (k n : ℕ) → take n (drop k ws) ≡ slice k (k + n) ws
part_slice ws zero n = rw zero-add
part_slice [] (suc k) n = rw (take-nil n, take-nil (suc k + n))
part_slice (w ∷ ws) (suc k) n = rw (suc-add k n) (part_slice ws k n)

pub rest_slice : (ws : List ℕ) (k : ℕ) → drop k ws ≡ slice k (length ws) ws
rest_slice ws k = ap (drop k) (sym (take-length ws))

slice_none : (ws : List ℕ) (k e : ℕ) → e ≤ k → slice k e ws ≡ []
slice_none ws k e h = drop_of_length-le (take e ws) {i = k} (omega (arith, length-take e ws))

slice_at : (ws : List ℕ) (from to k : ℕ) → from ≤ k → k < to → at (slice from to ws) (k - from) ≡ at ws k
slice_at ws from to k a b =
    let n : from + (k - from) ≡ k = omega arith in
    rw (get_or-drop from (take to ws) (k - from) 0, n) (get_or-take to ws k 0 b)

-- ---- each word of a lawful row

module _ (ok : ℕ → ℕ → Bool) where
  row_at : (kind : ℕ) (cs : List ℕ) → Row ok (kind ∷ []) [] cs → (j : ℕ) → j < length cs → Allowed ok kind (at cs j)
  row_at kind [] d j h = absurd (omega arith)
  row_at kind (c ∷ cs) d zero h = d.0
  row_at kind (c ∷ cs) d (suc j) h = row_at kind cs d.1 j (omega arith)

  pub in_row : (kind : ℕ) (ws : List ℕ) (from to : ℕ) → to ≤ length ws → Row ok (kind ∷ []) [] (slice from to ws) → (k : ℕ) → from ≤ k → k < to → Allowed ok kind (at ws k)
  in_row kind ws from to l d k a b =
      rw (slice_at ws from to k a b) at (row_at kind (slice from to ws) d (k - from) (omega (arith, length-slice from to ws l)))

  -- a row of pairs has an even length
  pub pairs_even : (a b : ℕ) (cs : List ℕ) → Row ok (a ∷ b ∷ []) [] cs → length cs % 2 ≡ 0
  pairs_even a b [] d = refl
  pairs_even a b (x ∷ []) d = absurd d.1
  pairs_even a b (x ∷ y ∷ cs) d = let r = pairs_even a b cs d.1.1 in omega arith

  pair_at : (a b : ℕ) (cs : List ℕ) → Row ok (a ∷ b ∷ []) [] cs → (j : ℕ) → 2 * j < length cs → Allowed ok a (at cs (2 * j))
  pair_at a b [] d j h = absurd (omega arith)
  pair_at a b (x ∷ []) d j h = absurd d.1
  pair_at a b (x ∷ y ∷ cs) d zero h = d.0
  pair_at a b (x ∷ y ∷ cs) d (suc j) h =
      let n : 2 * suc j ≡ suc (suc (2 * j)) = omega arith in
      rw n (pair_at a b cs d.1.1 j (omega arith))

  pub in_pairs : (a b : ℕ) (ws : List ℕ) (from to : ℕ) → to ≤ length ws → Row ok (a ∷ b ∷ []) [] (slice from to ws) → (j : ℕ) → from + 2 * j < to → Allowed ok a (at ws (from + 2 * j))
  in_pairs a b ws from to l d j h =
      let n : from + 2 * j - from ≡ 2 * j = omega arith in
      rw (← slice_at ws from to (from + 2 * j) (omega arith) h, n) (pair_at a b (slice from to ws) d j (omega (arith, length-slice from to ws l)))

-- ---- rows, taken apart

module _ (fs : List Field) (i k to : ℕ) where
  first : k < to → to ≤ count_of fs i → slice k to (words_at fs i) ≡ word_of fs i k ∷ slice (k + 1) to (words_at fs i)
  first a b = rw add-one (slice-cons k to (words_at fs i) 0 a b)

  pub exprs_more : k < to → to ≤ count_of fs i → exprs_at fs i k to ≡ and_expr (expr_at fs (word_of fs i k)) (exprs_at fs i (k + 1) to)
  unfolding exprs_at
  exprs_more a b = rw (first a b)

  pub stmts_more : k < to → to ≤ count_of fs i → stmts_at fs i k to ≡ and_stmt (stmt_at fs (word_of fs i k)) (stmts_at fs i (k + 1) to)
  unfolding stmts_at
  stmts_more a b = rw (first a b)

  pub funs_more : k < to → to ≤ count_of fs i → funs_at fs i k to ≡ and_fun (fun_at fs (word_of fs i k)) (funs_at fs i (k + 1) to)
  unfolding funs_at
  funs_more a b = rw (first a b)

  pub elifs_more : k < to → to ≤ count_of fs i → elifs_at fs i k to ≡ elif_at fs (word_of fs i k) (elifs_at fs i (k + 1) to)
  unfolding elifs_at
  elifs_more a b = rw (first a b)

  pub exprs_none : to ≤ k → exprs_at fs i k to ≡ no_expr
  unfolding exprs_at
  exprs_none h = rw (slice_none (words_at fs i) k to h)

  pub stmts_none : to ≤ k → stmts_at fs i k to ≡ no_stmt
  unfolding stmts_at
  stmts_none h = rw (slice_none (words_at fs i) k to h)

  pub funs_none : to ≤ k → funs_at fs i k to ≡ no_fun
  unfolding funs_at
  funs_none h = rw (slice_none (words_at fs i) k to h)

  pub elifs_none : to ≤ k → elifs_at fs i k to ≡ no_elif
  unfolding elifs_at
  elifs_none h = rw (slice_none (words_at fs i) k to h)

-- ---- how many they are

-- expr.arguments.len()
pub arguments_at : (fs : List Field) (i k to : ℕ) → to ≤ count_of fs i → arguments (exprs_at fs i k to) ≡ to - k
unfolding exprs_at
arguments_at fs i k to h = go (slice k to (words_at fs i)) ∙ length-slice k to (words_at fs i) h
  where
    go : (cs : List ℕ) → arguments (exprs (readers_at fs) cs) ≡ length cs
    go [] = refl
    go (c ∷ cs) = ap suc (go cs)

-- the parameters of a function
pub parameters_at : (fs : List Field) (i k n : ℕ) → k + 2 * n ≤ count_of fs i → length (tokens_at fs i k (k + 2 * n)) ≡ n
unfolding tokens_at
parameters_at fs i k n h = go (slice k (k + 2 * n) (words_at fs i)) n (length-slice k (k + 2 * n) (words_at fs i) h ∙ omega arith)
  where
    go : (ws : List ℕ) (m : ℕ) → length ws ≡ 2 * m → length (tokens ws) ≡ m
    go [] m e = omega arith
    go (a ∷ []) m e = absurd (omega arith)
    go (a ∷ b ∷ ws) zero e = absurd (omega arith)
    go (a ∷ b ∷ ws) (suc m) e = ap suc (go ws m (omega arith))

-- ---- the two children that may be absent

module _ (fs : List Field) where
  pub init_none : init_at fs 65535 ≡ no_stmt
  unfolding init_at
  init_none = refl

  pub init_some : (c : ℕ) → (c ≡ 65535 → ⊥) → init_at fs c ≡ and_stmt (stmt_at fs c) no_stmt
  unfolding init_at
  init_some c h = rw (ne_eqb c 65535 h)

  pub super_none : super_at fs 65535 ≡ no_super
  unfolding super_at
  super_none = refl

  pub super_some : (c : ℕ) → (c ≡ 65535 → ⊥) → super_at fs c ≡ super c (token (word_of fs c 0) (word_of fs c 1))
  unfolding super_at variable_at readers
  super_some c h = rw (ne_eqb c 65535 h)
