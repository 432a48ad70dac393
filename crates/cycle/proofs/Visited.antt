-- What is visited under a node: its children that are lowered; and of a row of children: the first one and the others. Of a binary, by its form, in Binary.
use Prim.Native.Nat.{ℕ, ◌+◌, ◌*◌, ◌<◌, ◌≤◌}
use mathlib.Core.Path.{◌≡◌}
use mathlib.Core.List.{List}
use Rattle.meaning.specs.Fields.{Field}
use Rattle.meaning.specs.At.{word_of, count_of, expr_at, stmt_at, fun_at, exprs_at, stmts_at, funs_at, elifs_at, init_at, super_at}
use Rattle.meaning.specs.Visits.{under_expr, under_stmt, under_fun, visits_expr, visits_exprs, visits_stmt, visits_stmts, visits_elifs, visits_fun, visits_funs, visits_super}
use Rattle.meaning.proofs.Reading.{Number, Text, Other, Variable, Unary, Logical, Call, Function, Expression, Let, Block, While, For, ForIn, Break, Continue, Return, If, Elif, Try, Define, Class}
use Rattle.meaning.proofs.Rows.{exprs_more, exprs_none, stmts_more, stmts_none, funs_more, funs_none, elifs_more, elifs_none}

module _ {fs : List Field} {i : ℕ} where
  pub unary_visits : Unary fs i → under_expr (expr_at fs i) ≡ visits_expr (expr_at fs (word_of fs i 2))
  unfolding under_expr
  unary_visits x = rw x.is

  pub logical_visits : Logical fs i → under_expr (expr_at fs i) ≡ (visits_expr (expr_at fs (word_of fs i 2)) + visits_expr (expr_at fs (word_of fs i 3)))
  unfolding under_expr
  logical_visits x = rw x.is

  pub call_visits : Call fs i → under_expr (expr_at fs i) ≡ (visits_expr (expr_at fs (word_of fs i 0)) + visits_exprs (exprs_at fs i 2 (count_of fs i)))
  unfolding under_expr
  call_visits x = rw x.is

  pub function_visits : Function fs i → under_expr (expr_at fs i) ≡ visits_stmts (stmts_at fs i (1 + 2 * word_of fs i 0) (count_of fs i))
  unfolding under_expr
  function_visits x = rw x.is

  pub expression_visits : Expression fs i → under_stmt (stmt_at fs i) ≡ visits_expr (expr_at fs (word_of fs i 0))
  unfolding under_expr
  expression_visits x = rw x.is

  pub block_visits : Block fs i → under_stmt (stmt_at fs i) ≡ visits_stmts (stmts_at fs i 0 (count_of fs i))
  unfolding under_expr
  block_visits x = rw x.is

  pub while_visits : While fs i → under_stmt (stmt_at fs i) ≡ (visits_expr (expr_at fs (word_of fs i 1)) + visits_stmt (stmt_at fs (word_of fs i 2)))
  unfolding under_expr
  while_visits x = rw x.is

  pub for_visits : For fs i → under_stmt (stmt_at fs i) ≡ (visits_stmts (init_at fs (word_of fs i 1)) + (visits_expr (expr_at fs (word_of fs i 2)) + (visits_expr (expr_at fs (word_of fs i 3)) + visits_stmt (stmt_at fs (word_of fs i 4)))))
  unfolding under_expr
  for_visits x = rw x.is

  pub for_in_visits : ForIn fs i → under_stmt (stmt_at fs i) ≡ (visits_expr (expr_at fs (word_of fs i 1)) + visits_stmt (stmt_at fs (word_of fs i 2)))
  unfolding under_expr
  for_in_visits x = rw x.is

  pub try_visits : Try fs i → under_stmt (stmt_at fs i) ≡ (visits_stmt (stmt_at fs (word_of fs i 0)) + visits_stmt (stmt_at fs (word_of fs i 3)))
  unfolding under_expr
  try_visits x = rw x.is

  pub define_visits : Define fs i → under_stmt (stmt_at fs i) ≡ under_fun (fun_at fs i)
  unfolding under_expr
  define_visits x = rw x.is

  pub fun_visits : Define fs i → under_fun (fun_at fs i) ≡ visits_stmts (stmts_at fs i (3 + 2 * word_of fs i 2) (count_of fs i))
  unfolding under_expr
  fun_visits x = rw x.is_fun

  pub class_visits : Class fs i → under_stmt (stmt_at fs i) ≡ (visits_super (super_at fs (word_of fs i 2)) + (visits_funs (funs_at fs i 4 (4 + word_of fs i 3)) + visits_funs (funs_at fs i (4 + word_of fs i 3) (count_of fs i))))
  unfolding under_expr
  class_visits x = rw x.is

  pub number_visits : Number fs i → under_expr (expr_at fs i) ≡ 0
  unfolding under_expr
  number_visits x = rw x.is

  pub text_visits : Text fs i → under_expr (expr_at fs i) ≡ 0
  unfolding under_expr
  text_visits x = rw x.is

  pub other_visits : Other fs i → under_expr (expr_at fs i) ≡ 0
  unfolding under_expr
  other_visits x = rw x.is

  pub variable_visits : Variable fs i → under_expr (expr_at fs i) ≡ 0
  unfolding under_expr
  variable_visits x = rw x.is

  pub break_visits : Break fs i → under_stmt (stmt_at fs i) ≡ 0
  unfolding under_expr
  break_visits x = rw x.is

  pub continue_visits : Continue fs i → under_stmt (stmt_at fs i) ≡ 0
  unfolding under_expr
  continue_visits x = rw x.is

  -- a let and a return, without a value and with one
  pub let_only_visits : Let fs i → count_of fs i ≡ 2 → under_stmt (stmt_at fs i) ≡ 0
  unfolding under_expr
  let_only_visits x e = rw (x.is_only e)

  pub let_as_visits : Let fs i → count_of fs i ≡ 3 → under_stmt (stmt_at fs i) ≡ visits_expr (expr_at fs (word_of fs i 2))
  unfolding under_expr
  let_as_visits x e = rw (x.is_as e)

  pub return_none_visits : Return fs i → count_of fs i ≡ 1 → under_stmt (stmt_at fs i) ≡ 0
  unfolding under_expr
  return_none_visits x e = rw (x.is_none e)

  pub return_visits : Return fs i → count_of fs i ≡ 2 → under_stmt (stmt_at fs i) ≡ visits_expr (expr_at fs (word_of fs i 1))
  unfolding under_expr
  return_visits x e = rw (x.is_some e)

  pub if_visits : {t e : ℕ} → If fs i t e → under_stmt (stmt_at fs i) ≡ (visits_expr (expr_at fs (word_of fs i 1)) + (visits_stmts (stmts_at fs i 3 (3 + t)) + (visits_elifs (elifs_at fs i (4 + t) (4 + t + e)) + visits_stmts (stmts_at fs i (4 + t + e) (count_of fs i)))))
  unfolding under_expr
  if_visits x = rw x.is

-- ---- rows

module _ (fs : List Field) (i k to : ℕ) where
  pub stmts_visits : k < to → to ≤ count_of fs i → visits_stmts (stmts_at fs i k to) ≡ visits_stmt (stmt_at fs (word_of fs i k)) + visits_stmts (stmts_at fs i (k + 1) to)
  unfolding under_expr
  stmts_visits h l = rw (stmts_more fs i k to h l)

  pub exprs_visits : k < to → to ≤ count_of fs i → visits_exprs (exprs_at fs i k to) ≡ visits_expr (expr_at fs (word_of fs i k)) + visits_exprs (exprs_at fs i (k + 1) to)
  unfolding under_expr
  exprs_visits h l = rw (exprs_more fs i k to h l)

  pub funs_visits : k < to → to ≤ count_of fs i → visits_funs (funs_at fs i k to) ≡ visits_fun (fun_at fs (word_of fs i k)) + visits_funs (funs_at fs i (k + 1) to)
  unfolding under_expr
  funs_visits h l = rw (funs_more fs i k to h l)

  pub elifs_visits : k < to → to ≤ count_of fs i → Elif fs (word_of fs i k) → visits_elifs (elifs_at fs i k to) ≡ 1 + (visits_expr (expr_at fs (word_of fs (word_of fs i k) 0)) + visits_stmts (stmts_at fs (word_of fs i k) 1 (count_of fs (word_of fs i k)))) + visits_elifs (elifs_at fs i (k + 1) to)
  unfolding under_expr
  elifs_visits h l x = rw (elifs_more fs i k to h l, x.is (elifs_at fs i (k + 1) to))

  pub stmts_visits_none : to ≤ k → visits_stmts (stmts_at fs i k to) ≡ 0
  unfolding under_expr
  stmts_visits_none h = rw (stmts_none fs i k to h)

  pub exprs_visits_none : to ≤ k → visits_exprs (exprs_at fs i k to) ≡ 0
  unfolding under_expr
  exprs_visits_none h = rw (exprs_none fs i k to h)

  pub funs_visits_none : to ≤ k → visits_funs (funs_at fs i k to) ≡ 0
  unfolding under_expr
  funs_visits_none h = rw (funs_none fs i k to h)

  pub elifs_visits_none : to ≤ k → visits_elifs (elifs_at fs i k to) ≡ 0
  unfolding under_expr
  elifs_visits_none h = rw (elifs_none fs i k to h)
