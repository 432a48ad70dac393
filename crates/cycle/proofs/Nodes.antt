-- What stands at a node of each tag, for a member that is given the node.
use Prim.Native.Nat.{ℕ, ◌+◌, ◌-◌, ◌*◌, ◌/◌, ◌<◌, ◌≤◌}
use mathlib.Core.Path.{◌≡◌, refl, ap}
use mathlib.Core.Bool.{true, cond}
use mathlib.Core.Logic.{⊎_elim}
use mathlib.Core.List.{List}
use native.Mathlib.Omega.{arith}
use lib.ListN.{length}
use Rattle.meaning.specs.Read.{at}
use Rattle.meaning.specs.Fields.{Field, fields}
use Rattle.meaning.specs.Grammar.{grammar, items_of, wide_marks, shape_at}
use Rattle.meaning.specs.At.{tag_of, word_of, count_of, file_words, tokens_at, extra, pairs_in, Behind, Heads}
use Rattle.meaning.proofs.Reading.{Number, number_node, Text, text_node, Other, other_node, Variable, variable_node, Unary, unary_node, Binary, binary_node, Logical, logical_node, Call, call_node, Function, function_node, Expression, expression_node, Let, let_node, Block, block_node, While, while_node, For, for_node, ForIn, for_in_node, Break, break_node, Continue, continue_node, Return, return_node, Elif, elif_node, Try, try_node, Define, define_node, Class, class_node, If, if_node}
use Rattle.routines.specs.Node.{Lawful}
use Rattle.meaning.specs.Weight.{size_expr, size_stmt}
use Rattle.meaning.specs.At.{expr_at, stmt_at}
use Rattle.meaning.proofs.Lists.{lt_or_le}
use Rattle.cycle.proofs.Sizes.{number_size, text_size, other_size, break_size, continue_size}
use Rattle.cycle.proofs.Visited.{number_visits, text_visits, other_visits, break_visits, continue_visits}
use Rattle.meaning.specs.Visits.{under_expr, under_stmt}
use Rattle.meaning.proofs.Places.{none_of, unmarked, heads_none, heads_0, heads_1, function_places, define_places, for_in_places}
use Rattle.store.specs.declared.Scope.{Scope}
use Rattle.store.specs.declared.Step.{Step}
use Rattle.store.specs.Store.{wide_of}
use Rattle.cycle.specs.Cycle.{Ready}
use Rattle.cycle.proofs.Way.{inside}

module _ {t w : List ℕ} {n i : ℕ} (h : Lawful t w n) (l : i < n) where
  pub a_number : tag_of (fields t) i ≡ 0x01 → Number (fields t) i
  a_number e = number_node (fields t) h.shapes i (inside h l) e

  pub a_text : tag_of (fields t) i ≡ 0x02 → Text (fields t) i
  a_text e = text_node (fields t) h.shapes i (inside h l) e

  pub an_other : tag_of (fields t) i ≡ 0x03 → Other (fields t) i
  an_other e = other_node (fields t) h.shapes i (inside h l) e

  pub a_variable : tag_of (fields t) i ≡ 0x04 → Variable (fields t) i
  a_variable e = variable_node (fields t) h.shapes i (inside h l) e

  pub a_unary : tag_of (fields t) i ≡ 0x05 → Unary (fields t) i
  a_unary e = unary_node (fields t) h.shapes i (inside h l) e

  pub a_binary : tag_of (fields t) i ≡ 0x06 → Binary (fields t) i
  a_binary e = binary_node (fields t) h.shapes i (inside h l) e

  pub a_logical : tag_of (fields t) i ≡ 0x07 → Logical (fields t) i
  a_logical e = logical_node (fields t) h.shapes i (inside h l) e

  pub a_call : tag_of (fields t) i ≡ 0x08 → Call (fields t) i
  a_call e = call_node (fields t) h.shapes i (inside h l) e

  pub a_function : tag_of (fields t) i ≡ 0x09 → Function (fields t) i
  a_function e = function_node (fields t) h.shapes i (inside h l) e

  pub an_expression : tag_of (fields t) i ≡ 0x10 → Expression (fields t) i
  an_expression e = expression_node (fields t) h.shapes i (inside h l) e

  pub a_let : tag_of (fields t) i ≡ 0x11 → Let (fields t) i
  a_let e = let_node (fields t) h.shapes i (inside h l) e

  pub a_block : tag_of (fields t) i ≡ 0x12 → Block (fields t) i
  a_block e = block_node (fields t) h.shapes i (inside h l) e

  pub a_while : tag_of (fields t) i ≡ 0x13 → While (fields t) i
  a_while e = while_node (fields t) h.shapes i (inside h l) e

  pub a_for : tag_of (fields t) i ≡ 0x14 → For (fields t) i
  a_for e = for_node (fields t) h.shapes i (inside h l) e

  pub a_for_in : tag_of (fields t) i ≡ 0x15 → ForIn (fields t) i
  a_for_in e = for_in_node (fields t) h.shapes i (inside h l) e

  pub a_break : tag_of (fields t) i ≡ 0x16 → Break (fields t) i
  a_break e = break_node (fields t) h.shapes i (inside h l) e

  pub a_continue : tag_of (fields t) i ≡ 0x17 → Continue (fields t) i
  a_continue e = continue_node (fields t) h.shapes i (inside h l) e

  pub a_return : tag_of (fields t) i ≡ 0x18 → Return (fields t) i
  a_return e = return_node (fields t) h.shapes i (inside h l) e

  pub an_elif : tag_of (fields t) i ≡ 0x1A → Elif (fields t) i
  an_elif e = elif_node (fields t) h.shapes i (inside h l) e

  pub a_try : tag_of (fields t) i ≡ 0x1B → Try (fields t) i
  a_try e = try_node (fields t) h.shapes i (inside h l) e

  pub a_define : tag_of (fields t) i ≡ 0x1C → Define (fields t) i
  a_define e = define_node (fields t) h.shapes i (inside h l) e

  pub a_class : tag_of (fields t) i ≡ 0x1D → Class (fields t) i
  a_class e = class_node (fields t) h.shapes i (inside h l) e

  pub an_if : tag_of (fields t) i ≡ 0x19 → If (fields t) i (word_of (fields t) i 2) (word_of (fields t) i (3 + word_of (fields t) i 2))
  an_if e = if_node (fields t) h.shapes i (inside h l) e

  -- a literal, a break or a continue is one node
  pub a_literal : 0x01 ≤ tag_of (fields t) i → tag_of (fields t) i ≤ 0x03 → size_expr (expr_at (fields t) i) ≡ 1
  a_literal a b =
      ⊎_elim (λ c. number_size (a_number (omega arith)))
      (λ c. ⊎_elim (λ d. text_size (a_text (omega arith))) (λ d. other_size (an_other (omega arith))) (lt_or_le (tag_of (fields t) i) 0x03))
      (lt_or_le (tag_of (fields t) i) 0x02)

  pub a_jump : 0x16 ≤ tag_of (fields t) i → tag_of (fields t) i ≤ 0x17 → size_stmt (stmt_at (fields t) i) ≡ 1
  a_jump a b = ⊎_elim (λ c. break_size (a_break (omega arith))) (λ c. continue_size (a_continue (omega arith))) (lt_or_le (tag_of (fields t) i) 0x17)

  -- nothing is visited under them
  pub no_literal_visits : 0x01 ≤ tag_of (fields t) i → tag_of (fields t) i ≤ 0x03 → under_expr (expr_at (fields t) i) ≡ 0
  no_literal_visits a b =
      ⊎_elim (λ c. number_visits (a_number (omega arith)))
      (λ c. ⊎_elim (λ d. text_visits (a_text (omega arith))) (λ d. other_visits (an_other (omega arith))) (lt_or_le (tag_of (fields t) i) 0x03))
      (lt_or_le (tag_of (fields t) i) 0x02)

  pub no_jump_visits : 0x16 ≤ tag_of (fields t) i → tag_of (fields t) i ≤ 0x17 → under_stmt (stmt_at (fields t) i) ≡ 0
  no_jump_visits a b = ⊎_elim (λ c. break_visits (a_break (omega arith))) (λ c. continue_visits (a_continue (omega arith))) (lt_or_le (tag_of (fields t) i) 0x17)

  -- ---- where rows of children stand in the file

  shape : shape_at (fields t) i ≡ true
  shape = h.shapes i (inside h l)

  -- the rows behind one mark, which is the first word, the second, or none
  abbrev First : ℕ → Type 0
  First tag = tag_of (fields t) i ≡ tag → Behind (fields t) i 1 (extra (wide_marks (fields t)))

  abbrev Second : ℕ → Type 0
  Second tag = tag_of (fields t) i ≡ tag → Behind (fields t) i 2 (extra (wide_marks (fields t)))

  abbrev Plain : ℕ → Type 0
  Plain tag = tag_of (fields t) i ≡ tag → Behind (fields t) i 0 0

  pub call_stands : Second 0x08
  unfolding items_of grammar unmarked none_of
  call_stands e = (heads_1 (fields t) i shape _ _ (ap items_of e) refl refl).1

  pub block_stands : Plain 0x12
  unfolding items_of grammar unmarked none_of
  block_stands e = (heads_none (fields t) i shape _ (ap items_of e) refl).1

  pub for_stands : First 0x14
  unfolding items_of grammar unmarked none_of
  for_stands e = (heads_0 (fields t) i shape _ (ap items_of e) refl).1

  pub if_stands : First 0x19
  unfolding items_of grammar unmarked none_of
  if_stands e = (heads_0 (fields t) i shape _ (ap items_of e) refl).1

  pub elif_stands : Plain 0x1A
  unfolding items_of grammar unmarked none_of
  elif_stands e = (heads_none (fields t) i shape _ (ap items_of e) refl).1

  pub class_stands : Second 0x1D
  unfolding items_of grammar unmarked none_of
  class_stands e = (heads_1 (fields t) i shape _ _ (ap items_of e) refl refl).1

  -- pairs of names and marks: parameters, the names of a for-in
  pub function_stands : tag_of (fields t) i ≡ 0x09
      → (word_of (fields t) i 0 ≡ at (file_words (fields t) i) 0) × (tokens_at (fields t) i 1 (1 + 2 * word_of (fields t) i 0) ≡ pairs_in (wide_marks (fields t)) (file_words (fields t) i) 1 (word_of (fields t) i 0))
      × Behind (fields t) i (1 + 2 * word_of (fields t) i 0) (cond (wide_marks (fields t)) (word_of (fields t) i 0) 0)
  function_stands e = function_places (fields t) i shape (ap items_of e) (a_function e).size

  pub define_stands : tag_of (fields t) i ≡ 0x1C
      → Heads (fields t) i 1 × (tokens_at (fields t) i 3 (3 + 2 * word_of (fields t) i 2) ≡ pairs_in (wide_marks (fields t)) (file_words (fields t) i) (3 + extra (wide_marks (fields t))) (word_of (fields t) i 2))
      × Behind (fields t) i (3 + 2 * word_of (fields t) i 2) (extra (wide_marks (fields t)) + cond (wide_marks (fields t)) (word_of (fields t) i 2) 0)
  define_stands e = define_places (fields t) i shape (ap items_of e) (a_define e).size

  pub for_in_stands : tag_of (fields t) i ≡ 0x15
      → Heads (fields t) i 0 × (tokens_at (fields t) i 3 (count_of (fields t) i) ≡ pairs_in (wide_marks (fields t)) (file_words (fields t) i) (3 + extra (wide_marks (fields t))) ((count_of (fields t) i - 3) / 2))
      × (length (file_words (fields t) i) ≡ 3 + extra (wide_marks (fields t)) + (2 * ((count_of (fields t) i - 3) / 2) + cond (wide_marks (fields t)) ((count_of (fields t) i - 3) / 2) 0))
  for_in_stands e = let x = a_for_in e in for_in_places (fields t) i shape (ap items_of e) ((count_of (fields t) i - 3) / 2) (omega (arith, x.size, x.odd)) (omega (arith, x.size))

-- from a later word on
pub behind_later : {fs : List Field} {i k d : ℕ} (j : ℕ) → k ≤ j → Behind fs i k d → Behind fs i j d
behind_later j l b = record { same = λ m z. b.same m (omega arith); size = b.size }

-- as the scope has the width
pub behind_here : {t w : List ℕ} {p : Scope} {s : Step} {j a b i k : ℕ} → Ready t w p s j a b → Behind (fields t) i k (extra (wide_marks (fields t))) → Behind (fields t) i k (wide_of p)
behind_here r h = rw r.width h
