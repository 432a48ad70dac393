-- How many nodes the syntax tree at a node has: one more than its children's together; and of a row of children: the first one's and the others'.
use Prim.Native.Nat.{ℕ, zero, suc, ◌+◌, ◌-◌, ◌*◌, ◌<◌, ◌≤◌}
use mathlib.Core.Path.{◌≡◌, refl, ap}
use mathlib.Core.Bool.{Bool, true, false, cond}
use lib.ListN.{length}
use mathlib.Core.List.{List}
use native.Mathlib.Omega.{arith}
use Rattle.meaning.specs.Fields.{Field, fields, field_at}
use Rattle.meaning.specs.Grammar.{wide_marks}
use Rattle.meaning.specs.At.{word_of, count_of, expr_at, stmt_at, fun_at, exprs_at, stmts_at, funs_at, elifs_at, init_at, super_at, extra, file_words, pair_place, pairs_in}
use Rattle.meaning.specs.Weight.{weight_expr, size_expr, size_exprs, size_stmt, size_stmts, size_elifs, size_fun, size_funs, size_super}
use Rattle.meaning.proofs.Reading.{Number, Text, Other, Variable, Unary, Binary, Logical, Call, Function, Expression, Let, Block, While, For, ForIn, Break, Continue, Return, If, Elif, Try, Define, Class}
use Rattle.forward.proofs.FunctionsForward.{stmt_count}
use Rattle.nodes.specs.Nodes.{Width}
use Rattle.routines.specs.Pieces.{HasPairs, tokens_from}
use Rattle.store.specs.declared.Scope.{Scope}
use Rattle.store.specs.Store.{wide_of}
use Rattle.cycle.proofs.Way.{few_wide, wide_is}
use Rattle.meaning.proofs.Rows.{exprs_more, exprs_none, stmts_more, stmts_none, funs_more, funs_none, elifs_more, elifs_none}

module _ {fs : List Field} {i : ℕ} where
  pub unary_size : Unary fs i → size_expr (expr_at fs i) ≡ 1 + size_expr (expr_at fs (word_of fs i 2))
  unfolding weight_expr
  unary_size x = rw x.is

  pub binary_size : Binary fs i → size_expr (expr_at fs i) ≡ 1 + (size_expr (expr_at fs (word_of fs i 2)) + size_expr (expr_at fs (word_of fs i 3)))
  unfolding weight_expr
  binary_size x = rw x.is

  pub logical_size : Logical fs i → size_expr (expr_at fs i) ≡ 1 + (size_expr (expr_at fs (word_of fs i 2)) + size_expr (expr_at fs (word_of fs i 3)))
  unfolding weight_expr
  logical_size x = rw x.is

  pub call_size : Call fs i → size_expr (expr_at fs i) ≡ 1 + (size_expr (expr_at fs (word_of fs i 0)) + size_exprs (exprs_at fs i 2 (count_of fs i)))
  unfolding weight_expr
  call_size x = rw x.is

  pub function_size : Function fs i → size_expr (expr_at fs i) ≡ 1 + size_stmts (stmts_at fs i (1 + 2 * word_of fs i 0) (count_of fs i))
  unfolding weight_expr
  function_size x = rw x.is

  pub expression_size : Expression fs i → size_stmt (stmt_at fs i) ≡ 1 + size_expr (expr_at fs (word_of fs i 0))
  unfolding weight_expr
  expression_size x = rw x.is

  pub block_size : Block fs i → size_stmt (stmt_at fs i) ≡ 1 + size_stmts (stmts_at fs i 0 (count_of fs i))
  unfolding weight_expr
  block_size x = rw x.is

  pub while_size : While fs i → size_stmt (stmt_at fs i) ≡ 1 + (size_expr (expr_at fs (word_of fs i 1)) + size_stmt (stmt_at fs (word_of fs i 2)))
  unfolding weight_expr
  while_size x = rw x.is

  pub for_size : For fs i → size_stmt (stmt_at fs i) ≡ 1 + (size_stmts (init_at fs (word_of fs i 1)) + (size_expr (expr_at fs (word_of fs i 2)) + (size_expr (expr_at fs (word_of fs i 3)) + size_stmt (stmt_at fs (word_of fs i 4)))))
  unfolding weight_expr
  for_size x = rw x.is

  pub for_in_size : ForIn fs i → size_stmt (stmt_at fs i) ≡ 1 + (size_expr (expr_at fs (word_of fs i 1)) + size_stmt (stmt_at fs (word_of fs i 2)))
  unfolding weight_expr
  for_in_size x = rw x.is

  pub try_size : Try fs i → size_stmt (stmt_at fs i) ≡ 1 + (size_stmt (stmt_at fs (word_of fs i 0)) + size_stmt (stmt_at fs (word_of fs i 3)))
  unfolding weight_expr
  try_size x = rw x.is

  pub define_size : Define fs i → size_stmt (stmt_at fs i) ≡ size_fun (fun_at fs i)
  unfolding weight_expr
  define_size x = rw x.is

  pub fun_size : Define fs i → size_fun (fun_at fs i) ≡ 1 + size_stmts (stmts_at fs i (3 + 2 * word_of fs i 2) (count_of fs i))
  unfolding weight_expr
  fun_size x = rw x.is_fun

  pub class_size : Class fs i → size_stmt (stmt_at fs i) ≡ 1 + (size_super (super_at fs (word_of fs i 2)) + (size_funs (funs_at fs i 4 (4 + word_of fs i 3)) + size_funs (funs_at fs i (4 + word_of fs i 3) (count_of fs i))))
  unfolding weight_expr
  class_size x = rw x.is

  pub number_size : Number fs i → size_expr (expr_at fs i) ≡ 1
  unfolding weight_expr
  number_size x = rw x.is

  pub text_size : Text fs i → size_expr (expr_at fs i) ≡ 1
  unfolding weight_expr
  text_size x = rw x.is

  pub other_size : Other fs i → size_expr (expr_at fs i) ≡ 1
  unfolding weight_expr
  other_size x = rw x.is

  pub variable_size : Variable fs i → size_expr (expr_at fs i) ≡ 1
  unfolding weight_expr
  variable_size x = rw x.is

  pub break_size : Break fs i → size_stmt (stmt_at fs i) ≡ 1
  unfolding weight_expr
  break_size x = rw x.is

  pub continue_size : Continue fs i → size_stmt (stmt_at fs i) ≡ 1
  unfolding weight_expr
  continue_size x = rw x.is

  -- a let and a return, without a value and with one
  pub let_only_size : Let fs i → count_of fs i ≡ 2 → size_stmt (stmt_at fs i) ≡ 1
  unfolding weight_expr
  let_only_size x e = rw (x.is_only e)

  pub let_as_size : Let fs i → count_of fs i ≡ 3 → size_stmt (stmt_at fs i) ≡ 1 + size_expr (expr_at fs (word_of fs i 2))
  unfolding weight_expr
  let_as_size x e = rw (x.is_as e)

  pub return_none_size : Return fs i → count_of fs i ≡ 1 → size_stmt (stmt_at fs i) ≡ 1
  unfolding weight_expr
  return_none_size x e = rw (x.is_none e)

  pub return_size : Return fs i → count_of fs i ≡ 2 → size_stmt (stmt_at fs i) ≡ 1 + size_expr (expr_at fs (word_of fs i 1))
  unfolding weight_expr
  return_size x e = rw (x.is_some e)

  pub if_size : {t e : ℕ} → If fs i t e → size_stmt (stmt_at fs i) ≡ 1 + (size_expr (expr_at fs (word_of fs i 1)) + (size_stmts (stmts_at fs i 3 (3 + t)) + (size_elifs (elifs_at fs i (4 + t) (4 + t + e)) + size_stmts (stmts_at fs i (4 + t + e) (count_of fs i)))))
  unfolding weight_expr
  if_size x = rw x.is

-- ---- rows

module _ (fs : List Field) (i k to : ℕ) where
  pub stmts_size : k < to → to ≤ count_of fs i → size_stmts (stmts_at fs i k to) ≡ size_stmt (stmt_at fs (word_of fs i k)) + size_stmts (stmts_at fs i (k + 1) to)
  unfolding weight_expr
  stmts_size h l = rw (stmts_more fs i k to h l)

  pub exprs_size : k < to → to ≤ count_of fs i → size_exprs (exprs_at fs i k to) ≡ size_expr (expr_at fs (word_of fs i k)) + size_exprs (exprs_at fs i (k + 1) to)
  unfolding weight_expr
  exprs_size h l = rw (exprs_more fs i k to h l)

  pub funs_size : k < to → to ≤ count_of fs i → size_funs (funs_at fs i k to) ≡ size_fun (fun_at fs (word_of fs i k)) + size_funs (funs_at fs i (k + 1) to)
  unfolding weight_expr
  funs_size h l = rw (funs_more fs i k to h l)

  pub elifs_size : k < to → to ≤ count_of fs i → Elif fs (word_of fs i k) → size_elifs (elifs_at fs i k to) ≡ 1 + (size_expr (expr_at fs (word_of fs (word_of fs i k) 0)) + size_stmts (stmts_at fs (word_of fs i k) 1 (count_of fs (word_of fs i k)))) + size_elifs (elifs_at fs i (k + 1) to)
  unfolding weight_expr
  elifs_size h l x = rw (elifs_more fs i k to h l, x.is (elifs_at fs i (k + 1) to))

  pub stmts_size_none : to ≤ k → size_stmts (stmts_at fs i k to) ≡ 0
  unfolding weight_expr
  stmts_size_none h = rw (stmts_none fs i k to h)

  pub exprs_size_none : to ≤ k → size_exprs (exprs_at fs i k to) ≡ 0
  unfolding weight_expr
  exprs_size_none h = rw (exprs_none fs i k to h)

  pub funs_size_none : to ≤ k → size_funs (funs_at fs i k to) ≡ 0
  unfolding weight_expr
  funs_size_none h = rw (funs_none fs i k to h)

  pub elifs_size_none : to ≤ k → size_elifs (elifs_at fs i k to) ≡ 0
  unfolding weight_expr
  elifs_size_none h = rw (elifs_none fs i k to h)

-- how many statements a row has
pub stmts_count : (fs : List Field) (i k to : ℕ) → to ≤ count_of fs i → stmt_count (stmts_at fs i k to) ≡ to - k
unfolding stmt_count
stmts_count fs i k to l = go (to - k) k refl
  where
    go : (d k : ℕ) → to - k ≡ d → stmt_count (stmts_at fs i k to) ≡ d
    go zero k e = rw (stmts_none fs i k to (omega arith))
    go (suc d) k e = rw (stmts_more fs i k to (omega arith) l) (ap suc (go d (k + 1) (omega arith)))

-- the pairs of a payload, as those of its node's words in the file
pub tokens_same : (t : List ℕ) (q : Scope) (i : ℕ) (payload : List ℕ) (f f' n : ℕ) → Width t (wide_of q) → payload ≡ (field_at (fields t) i).payload → f ≡ f'
    → tokens_from q payload f n ≡ pairs_in (wide_marks (fields t)) (file_words (fields t) i) f' n
unfolding tokens_from
tokens_same t q i payload f f' n w e k = rw (e, k, wide_is q (wide_marks (fields t)) w) refl

-- and those that are in the file are there
pub has_pairs : (t : List ℕ) (q : Scope) (i : ℕ) (payload : List ℕ) (f f' n : ℕ) → Width t (wide_of q) → payload ≡ (field_at (fields t) i).payload → f ≡ f'
    → f' + pair_place (wide_marks (fields t)) n ≤ length (file_words (fields t) i) → HasPairs q payload f n
has_pairs t q i payload f f' n w e k h = record { inside = rw (e, k, wide_is q (wide_marks (fields t)) w) h; width = few_wide q (wide_marks (fields t)) w }

-- n marks take so many places more
pub more_is : (b : Bool) (n : ℕ) → cond b n 0 ≡ n * extra b
more_is true n = omega arith
more_is false n = omega arith
