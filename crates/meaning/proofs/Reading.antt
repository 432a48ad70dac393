-- What a node of each tag is, for the lowering's members: the syntax tree that stands there, built from its children's, how many words its
-- payload has, and that its ops and names are lawful and its children stand below it in the right role.
-- Each is computed from two laws, `expr_unfolds` or `stmt_unfolds` and `due_at`, at the tag; there is no induction here.
use mathlib.Core.Path.{◌≡◌, sym, ap, ◌∙◌}
use mathlib.Core.Bool.{true}
use mathlib.Core.Logic.{⊎_elim}
use mathlib.Core.List.{List, [], ◌∷◌}
use Prim.Native.Nat.{ℕ, ◌+◌, ◌-◌, ◌*◌, ◌%◌, ◌<◌, ◌≤◌}
use native.Mathlib.Omega.{arith}
use lib.ListN.{length, take, drop, length-drop}
use lib.Seq.{drop-cons}
use lib.Dec.{lit≤}
use borrow.Author.Tests.{eq-eqb, ne_eqb}
use Rattle.meaning.specs.Fields.{Field}
use Rattle.meaning.specs.Grammar.{name, mark, expr, stmt, elif, method, lawful, grammar, items_of, tags_of, shape_at}
use Rattle.meaning.specs.Constant.{number, text, other}
use Rattle.meaning.specs.Syntax.{literal, variable, unary, binary, logical, call, function, expression, let_only, let_as, block, while, classic_for, for_in, break, continue, return_none, return, if, try, define, class, and_elif, Elifs, fun}
use Rattle.meaning.specs.Read.{at, bits, token, read_expr, read_stmt, read_program, words_at}
use Rattle.meaning.specs.At.{tag_of, word_of, count_of, readers_at, expr_at, stmt_at, fun_at, elif_at, exprs_at, stmts_at, funs_at, elifs_at, tokens_at, init_at, super_at, ExprBelow, StmtBelow, TagBelow}
use Rattle.meaning.proofs.Lists.{lt_or_le}
use Rattle.meaning.proofs.Payload.{Allowed, Row, Due, due_at}
use Rattle.meaning.proofs.Unfold.{expr_unfolds, stmt_unfolds, fun_unfolds, elif_unfolds, program_unfolds, last_items, is_name, is_op, is_op12, is_expr, is_stmt, is_elif, is_method, is_super, is_init}
use Rattle.meaning.proofs.Rows.{part_slice, rest_slice, in_row, in_pairs, pairs_even}

-- ---- expressions

-- 01 number: 8 bytes binary64
pub record Number (fs : List Field) (i : ℕ) : Type 0 where
  pub is : expr_at fs i ≡ literal i (number (bits (words_at fs i)))
  pub size : count_of fs i ≡ 4

-- 02 text: n
pub record Text (fs : List Field) (i : ℕ) : Type 0 where
  pub is : expr_at fs i ≡ literal i (text (word_of fs i 0))
  pub size : count_of fs i ≡ 1

-- 03 other literal: one word
pub record Other (fs : List Field) (i : ℕ) : Type 0 where
  pub is : expr_at fs i ≡ literal i (other (word_of fs i 0))
  pub size : count_of fs i ≡ 1

-- 04 variable: n m
pub record Variable (fs : List Field) (i : ℕ) : Type 0 where
  pub is : expr_at fs i ≡ variable i (token (word_of fs i 0) (word_of fs i 1))
  pub size : count_of fs i ≡ 2
  pub name : word_of fs i 0 < 65535

-- 05 unary: op m x
pub record Unary (fs : List Field) (i : ℕ) : Type 0 where
  pub is : expr_at fs i ≡ unary i (word_of fs i 0) (word_of fs i 1) (expr_at fs (word_of fs i 2))
  pub size : count_of fs i ≡ 3
  pub op : (1 ≤ word_of fs i 0) × (word_of fs i 0 ≤ 2)
  pub operand : ExprBelow fs i (word_of fs i 2)

-- 06 binary: op m x x
pub record Binary (fs : List Field) (i : ℕ) : Type 0 where
  pub is : expr_at fs i ≡ binary i (word_of fs i 0) (word_of fs i 1) (expr_at fs (word_of fs i 2)) (expr_at fs (word_of fs i 3))
  pub size : count_of fs i ≡ 4
  pub op : (1 ≤ word_of fs i 0) × (word_of fs i 0 ≤ 12)
  pub left : ExprBelow fs i (word_of fs i 2)
  pub right : ExprBelow fs i (word_of fs i 3)

-- 07 logical: op m x x
pub record Logical (fs : List Field) (i : ℕ) : Type 0 where
  pub is : expr_at fs i ≡ logical i (word_of fs i 0) (word_of fs i 1) (expr_at fs (word_of fs i 2)) (expr_at fs (word_of fs i 3))
  pub size : count_of fs i ≡ 4
  pub op : (1 ≤ word_of fs i 0) × (word_of fs i 0 ≤ 2)
  pub left : ExprBelow fs i (word_of fs i 2)
  pub right : ExprBelow fs i (word_of fs i 3)

-- 08 call: callee m arguments..
pub record Call (fs : List Field) (i : ℕ) : Type 0 where
  pub is : expr_at fs i ≡ call i (expr_at fs (word_of fs i 0)) (word_of fs i 1) (exprs_at fs i 2 (count_of fs i))
  pub size : 2 ≤ count_of fs i
  pub callee : ExprBelow fs i (word_of fs i 0)
  pub argument : (k : ℕ) → 2 ≤ k → k < count_of fs i → ExprBelow fs i (word_of fs i k)

-- 09 function: k, k pairs n m, body..
pub record Function (fs : List Field) (i : ℕ) : Type 0 where
  pub is : expr_at fs i ≡ function i (tokens_at fs i 1 (1 + 2 * word_of fs i 0)) (stmts_at fs i (1 + 2 * word_of fs i 0) (count_of fs i))
  pub size : 1 + 2 * word_of fs i 0 ≤ count_of fs i
  pub name : (j : ℕ) → j < word_of fs i 0 → word_of fs i (1 + 2 * j) < 65535
  pub body : (k : ℕ) → 1 + 2 * word_of fs i 0 ≤ k → k < count_of fs i → StmtBelow fs i (word_of fs i k)

-- ---- statements

-- 10 expression: x
pub record Expression (fs : List Field) (i : ℕ) : Type 0 where
  pub is : stmt_at fs i ≡ expression i (expr_at fs (word_of fs i 0))
  pub size : count_of fs i ≡ 1
  pub value : ExprBelow fs i (word_of fs i 0)

-- 11 let: n m and perhaps x
pub record Let (fs : List Field) (i : ℕ) : Type 0 where
  pub is_only : count_of fs i ≡ 2 → stmt_at fs i ≡ let_only i (token (word_of fs i 0) (word_of fs i 1))
  pub is_as : count_of fs i ≡ 3 → stmt_at fs i ≡ let_as i (token (word_of fs i 0) (word_of fs i 1)) (expr_at fs (word_of fs i 2))
  pub size : (2 ≤ count_of fs i) × (count_of fs i ≤ 3)
  pub name : word_of fs i 0 < 65535
  pub value : count_of fs i ≡ 3 → ExprBelow fs i (word_of fs i 2)

-- 12 block: x..
pub record Block (fs : List Field) (i : ℕ) : Type 0 where
  pub is : stmt_at fs i ≡ block i (stmts_at fs i 0 (count_of fs i))
  pub each : (k : ℕ) → k < count_of fs i → StmtBelow fs i (word_of fs i k)

-- 13 while: m condition body
pub record While (fs : List Field) (i : ℕ) : Type 0 where
  pub is : stmt_at fs i ≡ while i (word_of fs i 0) (expr_at fs (word_of fs i 1)) (stmt_at fs (word_of fs i 2))
  pub size : count_of fs i ≡ 3
  pub condition : ExprBelow fs i (word_of fs i 1)
  pub body : StmtBelow fs i (word_of fs i 2)

-- 14 for: m initializer condition increment body
pub record For (fs : List Field) (i : ℕ) : Type 0 where
  pub is : stmt_at fs i ≡ classic_for i (word_of fs i 0) (init_at fs (word_of fs i 1)) (expr_at fs (word_of fs i 2)) (expr_at fs (word_of fs i 3)) (stmt_at fs (word_of fs i 4))
  pub size : count_of fs i ≡ 5
  pub initializer : (word_of fs i 1 ≡ 65535 → ⊥) → StmtBelow fs i (word_of fs i 1)
  pub condition : ExprBelow fs i (word_of fs i 2)
  pub increment : ExprBelow fs i (word_of fs i 3)
  pub body : StmtBelow fs i (word_of fs i 4)

-- 15 for-in: m collection body, pairs n m, at least one
pub record ForIn (fs : List Field) (i : ℕ) : Type 0 where
  pub is : stmt_at fs i ≡ for_in i (word_of fs i 0) (expr_at fs (word_of fs i 1)) (stmt_at fs (word_of fs i 2)) (tokens_at fs i 3 (count_of fs i))
  pub size : 5 ≤ count_of fs i
  pub odd : count_of fs i % 2 ≡ 1
  pub collection : ExprBelow fs i (word_of fs i 1)
  pub body : StmtBelow fs i (word_of fs i 2)
  pub name : (j : ℕ) → 3 + 2 * j < count_of fs i → word_of fs i (3 + 2 * j) < 65535

-- 16 break: m
pub record Break (fs : List Field) (i : ℕ) : Type 0 where
  pub is : stmt_at fs i ≡ break i (word_of fs i 0)
  pub size : count_of fs i ≡ 1

-- 17 continue: m
pub record Continue (fs : List Field) (i : ℕ) : Type 0 where
  pub is : stmt_at fs i ≡ continue i (word_of fs i 0)
  pub size : count_of fs i ≡ 1

-- 18 return: m and perhaps x
pub record Return (fs : List Field) (i : ℕ) : Type 0 where
  pub is_none : count_of fs i ≡ 1 → stmt_at fs i ≡ return_none i (word_of fs i 0)
  pub is_some : count_of fs i ≡ 2 → stmt_at fs i ≡ return i (word_of fs i 0) (expr_at fs (word_of fs i 1))
  pub size : (1 ≤ count_of fs i) × (count_of fs i ≤ 2)
  pub value : count_of fs i ≡ 2 → ExprBelow fs i (word_of fs i 1)

-- 19 if: m condition t, t x, e, e elifs, else x..
pub record If (fs : List Field) (i t e : ℕ) : Type 0 where
  pub is : stmt_at fs i ≡ if i (word_of fs i 0) (expr_at fs (word_of fs i 1)) (stmts_at fs i 3 (3 + t)) (elifs_at fs i (4 + t) (4 + t + e)) (stmts_at fs i (4 + t + e) (count_of fs i))
  pub size : 4 + t + e ≤ count_of fs i
  pub condition : ExprBelow fs i (word_of fs i 1)
  pub then_each : (k : ℕ) → 3 ≤ k → k < 3 + t → StmtBelow fs i (word_of fs i k)
  pub elif_each : (k : ℕ) → 4 + t ≤ k → k < 4 + t + e → TagBelow fs 0x1A i (word_of fs i k)
  pub else_each : (k : ℕ) → 4 + t + e ≤ k → k < count_of fs i → StmtBelow fs i (word_of fs i k)

-- 1A elif: condition x..
pub record Elif (fs : List Field) (i : ℕ) : Type 0 where
  pub is : (es : Elifs) → elif_at fs i es ≡ and_elif (expr_at fs (word_of fs i 0)) (stmts_at fs i 1 (count_of fs i)) es
  pub size : 1 ≤ count_of fs i
  pub condition : ExprBelow fs i (word_of fs i 0)
  pub each : (k : ℕ) → 1 ≤ k → k < count_of fs i → StmtBelow fs i (word_of fs i k)

-- 1B try: body n m catch body
pub record Try (fs : List Field) (i : ℕ) : Type 0 where
  pub is : stmt_at fs i ≡ try i (stmt_at fs (word_of fs i 0)) (token (word_of fs i 1) (word_of fs i 2)) (stmt_at fs (word_of fs i 3))
  pub size : count_of fs i ≡ 4
  pub body : StmtBelow fs i (word_of fs i 0)
  pub name : word_of fs i 1 < 65535
  pub catch : StmtBelow fs i (word_of fs i 3)

-- 1C function statement: n m k, k pairs n m, body..
pub record Define (fs : List Field) (i : ℕ) : Type 0 where
  pub is : stmt_at fs i ≡ define (fun_at fs i)
  pub is_fun : fun_at fs i ≡ fun i (token (word_of fs i 0) (word_of fs i 1)) (tokens_at fs i 3 (3 + 2 * word_of fs i 2)) (stmts_at fs i (3 + 2 * word_of fs i 2) (count_of fs i))
  pub size : 3 + 2 * word_of fs i 2 ≤ count_of fs i
  pub name : word_of fs i 0 < 65535
  pub parameter : (j : ℕ) → j < word_of fs i 2 → word_of fs i (3 + 2 * j) < 65535
  pub body : (k : ℕ) → 3 + 2 * word_of fs i 2 ≤ k → k < count_of fs i → StmtBelow fs i (word_of fs i k)

-- 1D class: n m superclass s, s methods, static methods..
pub record Class (fs : List Field) (i : ℕ) : Type 0 where
  pub is : stmt_at fs i ≡ class i (token (word_of fs i 0) (word_of fs i 1)) (super_at fs (word_of fs i 2)) (funs_at fs i 4 (4 + word_of fs i 3)) (funs_at fs i (4 + word_of fs i 3) (count_of fs i))
  pub size : 4 + word_of fs i 3 ≤ count_of fs i
  pub name : word_of fs i 0 < 65535
  pub superclass : (word_of fs i 2 ≡ 65535 → ⊥) → TagBelow fs 0x04 i (word_of fs i 2)
  pub method : (k : ℕ) → 4 ≤ k → k < count_of fs i → TagBelow fs 0x1C i (word_of fs i k)

-- 1E program: x..
pub record Program (fs : List Field) (i : ℕ) : Type 0 where
  pub is : read_program fs ≡ stmts_at fs i 0 (count_of fs i)
  pub each : (k : ℕ) → k < count_of fs i → StmtBelow fs i (word_of fs i k)

-- ---- the laws

module _ (fs : List Field) (good : (j : ℕ) → j < length fs → shape_at fs j ≡ true) where
  module _ (i : ℕ) (l : i < length fs) where
    -- what is due at a tag, and what stands there
    D : (t : ℕ) → tag_of fs i ≡ t → Due (lawful (tags_of fs) i) (words_at fs i) (items_of t) 0
    D t e = rw e at (due_at fs i (good i l))

    E : (t : ℕ) → tag_of fs i ≡ t → t ≤ 0x09 → expr_at fs i ≡ read_expr (readers_at fs) i t (words_at fs i)
    E t e h = rw e at (expr_unfolds fs good i l (omega (arith, e)))

    S : (t : ℕ) → tag_of fs i ≡ t → 0x10 ≤ t → t ≤ 0x1D → stmt_at fs i ≡ read_stmt (readers_at fs) i t (words_at fs i)
    S t e a b = rw e at (stmt_unfolds fs good i l (omega (arith, e)) (omega (arith, e)))

    -- a row to the end, and one of n words from k on
    to_end : (k kind : ℕ) → Row (lawful (tags_of fs) i) (kind ∷ []) [] (drop k (words_at fs i)) → (j : ℕ) → k ≤ j → j < count_of fs i → Allowed (lawful (tags_of fs) i) kind (word_of fs i j)
    to_end k kind d = in_row (lawful (tags_of fs) i) kind (words_at fs i) k (count_of fs i) (omega arith) (rw (rest_slice (words_at fs i) k) at d)

    of_words : (k n kind : ℕ) → k + n ≤ count_of fs i → Row (lawful (tags_of fs) i) (kind ∷ []) [] (take n (drop k (words_at fs i))) → (j : ℕ) → k ≤ j → j < k + n → Allowed (lawful (tags_of fs) i) kind (word_of fs i j)
    of_words k n kind h d = in_row (lawful (tags_of fs) i) kind (words_at fs i) k (k + n) h (rw (part_slice (words_at fs i) k n) at d)

    -- the names of k pairs
    of_pairs : (k n : ℕ) → k + 2 * n ≤ count_of fs i → Row (lawful (tags_of fs) i) (name ∷ mark ∷ []) [] (take (2 * n) (drop k (words_at fs i))) → (j : ℕ) → j < n → word_of fs i (k + 2 * j) < 65535
    of_pairs k n h d j b = is_name fs i _ (in_pairs (lawful (tags_of fs) i) name mark (words_at fs i) k (k + 2 * n) h (rw (part_slice (words_at fs i) k (2 * n)) at d) j (omega arith))

    pub number_node : tag_of fs i ≡ 0x01 → Number fs i
    unfolding items_of grammar
    number_node e = record { is = E 0x01 e (lit≤ tt); size = (D 0x01 e).1.1.1.1 }

    pub text_node : tag_of fs i ≡ 0x02 → Text fs i
    unfolding items_of grammar
    text_node e = record { is = E 0x02 e (lit≤ tt); size = (D 0x02 e).1 }

    pub other_node : tag_of fs i ≡ 0x03 → Other fs i
    unfolding items_of grammar
    other_node e = record { is = E 0x03 e (lit≤ tt); size = (D 0x03 e).1 }

    pub variable_node : tag_of fs i ≡ 0x04 → Variable fs i
    unfolding items_of grammar
    variable_node e = let d = D 0x04 e in record { is = E 0x04 e (lit≤ tt); size = d.1.1; name = is_name fs i _ d.0 }

    pub unary_node : tag_of fs i ≡ 0x05 → Unary fs i
    unfolding items_of grammar
    unary_node e = let d = D 0x05 e in record { is = E 0x05 e (lit≤ tt); size = d.1.1.1; op = is_op fs i _ d.0; operand = is_expr fs i _ d.1.1.0 }

    pub binary_node : tag_of fs i ≡ 0x06 → Binary fs i
    unfolding items_of grammar
    binary_node e =
        let d = D 0x06 e in
        record { is = E 0x06 e (lit≤ tt); size = d.1.1.1.1; op = is_op12 fs i _ d.0; left = is_expr fs i _ d.1.1.0; right = is_expr fs i _ d.1.1.1.0 }

    pub logical_node : tag_of fs i ≡ 0x07 → Logical fs i
    unfolding items_of grammar
    logical_node e =
        let d = D 0x07 e in
        record { is = E 0x07 e (lit≤ tt); size = d.1.1.1.1; op = is_op fs i _ d.0; left = is_expr fs i _ d.1.1.0; right = is_expr fs i _ d.1.1.1.0 }

    pub call_node : tag_of fs i ≡ 0x08 → Call fs i
    unfolding items_of grammar exprs_at
    call_node e =
        let d = D 0x08 e in
        record {
          is = rw (rest_slice (words_at fs i) 2) at (E 0x08 e (lit≤ tt));
          size = d.1.1.0;
          callee = is_expr fs i _ d.0;
          argument = λ k a b. is_expr fs i _ (to_end 2 expr d.1.1.1 k a b);
        }

    pub function_node : tag_of fs i ≡ 0x09 → Function fs i
    unfolding items_of grammar stmts_at tokens_at
    function_node e =
        let d = D 0x09 e in
        let ws = words_at fs i in
        let n = word_of fs i 0 in
        record {
          is = rw (part_slice ws 1 (2 * n), rest_slice ws (1 + 2 * n)) at (E 0x09 e (lit≤ tt));
          size = d.0;
          name = of_pairs 1 n d.0 d.1;
          body = λ k a b. is_stmt fs i _ (to_end (1 + 2 * n) stmt d.2.1 k a b);
        }

    pub expression_node : tag_of fs i ≡ 0x10 → Expression fs i
    unfolding items_of grammar
    expression_node e = let d = D 0x10 e in record { is = S 0x10 e (lit≤ tt) (lit≤ tt); size = d.1; value = is_expr fs i _ d.0 }

    pub let_node : tag_of fs i ≡ 0x11 → Let fs i
    unfolding items_of grammar
    let_node e =
        let d = D 0x11 e in
        record {
          is_only = λ q. rw (eq-eqb (count_of fs i) 2 q) at (S 0x11 e (lit≤ tt) (lit≤ tt));
          is_as = λ q. rw (ne_eqb (count_of fs i) 2 (λ z. omega arith)) at (S 0x11 e (lit≤ tt) (lit≤ tt));
          size = ⊎_elim (λ q. omega arith) (λ q. omega (arith, q.1)) d.1.1;
          name = is_name fs i _ d.0;
          value = λ n. ⊎_elim (λ q. absurd (omega arith)) (λ q. is_expr fs i _ q.0) d.1.1;
        }

    pub block_node : tag_of fs i ≡ 0x12 → Block fs i
    unfolding items_of grammar stmts_at
    block_node e = record { is = rw (rest_slice (words_at fs i) 0) at (S 0x12 e (lit≤ tt) (lit≤ tt)); each = λ k b. is_stmt fs i _ (to_end 0 stmt (D 0x12 e).1 k (omega arith) b) }

    pub while_node : tag_of fs i ≡ 0x13 → While fs i
    unfolding items_of grammar
    while_node e = let d = D 0x13 e in record { is = S 0x13 e (lit≤ tt) (lit≤ tt); size = d.1.1.1; condition = is_expr fs i _ d.1.0; body = is_stmt fs i _ d.1.1.0 }

    pub for_node : tag_of fs i ≡ 0x14 → For fs i
    unfolding items_of grammar init_at
    for_node e =
        let d = D 0x14 e in
        record {
          is = S 0x14 e (lit≤ tt) (lit≤ tt);
          size = d.1.1.1.1.1;
          initializer = λ n. is_init fs i _ d.1.0 (ne_eqb _ 65535 n);
          condition = is_expr fs i _ d.1.1.0;
          increment = is_expr fs i _ d.1.1.1.0;
          body = is_stmt fs i _ d.1.1.1.1.0;
        }

    pub for_in_node : tag_of fs i ≡ 0x15 → ForIn fs i
    unfolding items_of grammar tokens_at
    for_in_node e =
        let d = D 0x15 e in
        let ws = words_at fs i in
        let h : 5 ≤ length ws = d.1.1.1.1.1.0 in
        let pairs : Row (lawful (tags_of fs) i) (name ∷ mark ∷ []) [] (drop 3 ws) =
        rw (drop-cons ws 3 0 (omega arith), drop-cons ws 4 0 h) (d.1.1.1.0, (d.1.1.1.1.0, d.1.1.1.1.1.1)) in
        record {
          is = rw (rest_slice ws 3) at (S 0x15 e (lit≤ tt) (lit≤ tt));
          size = h;
          odd = omega (arith, pairs_even (lawful (tags_of fs) i) name mark (drop 3 ws) pairs, length-drop 3 ws);
          collection = is_expr fs i _ d.1.0;
          body = is_stmt fs i _ d.1.1.0;
          name = λ j b. is_name fs i _ (in_pairs (lawful (tags_of fs) i) name mark ws 3 (length ws) (omega arith) (rw (rest_slice ws 3) at pairs) j b);
        }

    pub break_node : tag_of fs i ≡ 0x16 → Break fs i
    unfolding items_of grammar
    break_node e = record { is = S 0x16 e (lit≤ tt) (lit≤ tt); size = (D 0x16 e).1 }

    pub continue_node : tag_of fs i ≡ 0x17 → Continue fs i
    unfolding items_of grammar
    continue_node e = record { is = S 0x17 e (lit≤ tt) (lit≤ tt); size = (D 0x17 e).1 }

    pub return_node : tag_of fs i ≡ 0x18 → Return fs i
    unfolding items_of grammar
    return_node e =
        let d = D 0x18 e in
        record {
          is_none = λ q. rw (eq-eqb (count_of fs i) 1 q) at (S 0x18 e (lit≤ tt) (lit≤ tt));
          is_some = λ q. rw (ne_eqb (count_of fs i) 1 (λ z. omega arith)) at (S 0x18 e (lit≤ tt) (lit≤ tt));
          size = ⊎_elim (λ q. omega arith) (λ q. omega (arith, q.1)) d.1;
          value = λ n. ⊎_elim (λ q. absurd (omega arith)) (λ q. is_expr fs i _ q.0) d.1;
        }

    pub if_node : tag_of fs i ≡ 0x19 → If fs i (word_of fs i 2) (word_of fs i (3 + word_of fs i 2))
    unfolding items_of grammar stmts_at elifs_at
    if_node e =
        let d = D 0x19 e in
        let ws = words_at fs i in
        let t = word_of fs i 2 in
        let n = word_of fs i (3 + t) in
        let z : 3 + t + 1 ≡ 4 + t = omega arith in
        let b : 4 + t + n ≤ length ws = rw z at d.1.1.2.0 in
        record {
          is = rw (part_slice ws 3 t, part_slice ws (4 + t) n, rest_slice ws (4 + t + n)) at (S 0x19 e (lit≤ tt) (lit≤ tt));
          size = b;
          condition = is_expr fs i _ d.1.0;
          then_each = λ k p q. is_stmt fs i _ (of_words 3 t stmt (omega arith) d.1.1.1 k p q);
          elif_each = λ k p q. is_elif fs i _ (of_words (4 + t) n elif b (rw z at d.1.1.2.1) k p q);
          else_each = λ k p q. is_stmt fs i _ (to_end (4 + t + n) stmt (rw z at d.1.1.2.2.1) k p q);
        }

    pub elif_node : tag_of fs i ≡ 0x1A → Elif fs i
    unfolding items_of grammar stmts_at
    elif_node e =
        let d = D 0x1A e in
        record {
          is = λ es. rw (rest_slice (words_at fs i) 1) at (elif_unfolds fs good i l e es);
          size = d.1.0;
          condition = is_expr fs i _ d.0;
          each = λ k a b. is_stmt fs i _ (to_end 1 stmt d.1.1 k a b);
        }

    pub try_node : tag_of fs i ≡ 0x1B → Try fs i
    unfolding items_of grammar
    try_node e =
        let d = D 0x1B e in
        record { is = S 0x1B e (lit≤ tt) (lit≤ tt); size = d.1.1.1.1; body = is_stmt fs i _ d.0; name = is_name fs i _ d.1.0; catch = is_stmt fs i _ d.1.1.1.0 }

    pub define_node : tag_of fs i ≡ 0x1C → Define fs i
    unfolding items_of grammar stmts_at tokens_at
    define_node e =
        let d = D 0x1C e in
        let ws = words_at fs i in
        let n = word_of fs i 2 in
        let f = fun_unfolds fs good i l e in
        record {
          is = S 0x1C e (lit≤ tt) (lit≤ tt) ∙ ap define (sym f);
          is_fun = rw (part_slice ws 3 (2 * n), rest_slice ws (3 + 2 * n)) at f;
          size = d.1.1.0;
          name = is_name fs i _ d.0;
          parameter = of_pairs 3 n d.1.1.0 d.1.1.1;
          body = λ k a b. is_stmt fs i _ (to_end (3 + 2 * n) stmt d.1.1.2.1 k a b);
        }

    pub class_node : tag_of fs i ≡ 0x1D → Class fs i
    unfolding items_of grammar funs_at super_at
    class_node e =
        let d = D 0x1D e in
        let ws = words_at fs i in
        let n = word_of fs i 3 in
        record {
          is = rw (part_slice ws 4 n, rest_slice ws (4 + n)) at (S 0x1D e (lit≤ tt) (lit≤ tt));
          size = d.1.1.1.0;
          name = is_name fs i _ d.0;
          superclass = λ z. is_super fs i _ d.1.1.0 (ne_eqb _ 65535 z);
          method = λ k a b. is_method fs i _ (⊎_elim (λ q. of_words 4 n method d.1.1.1.0 d.1.1.1.1 k a q) (λ q. to_end (4 + n) method d.1.1.1.2.1 k q b) (lt_or_le k (4 + n)));
        }

  pub program_node : 1 ≤ length fs → Program fs (length fs - 1)
  unfolding items_of grammar stmts_at
  program_node some =
      let last = length fs - 1 in
      let d = rw (last_items fs good some) at (due_at fs last (good last (omega arith))) in
      record {
        is = rw (rest_slice (words_at fs last) 0) at (program_unfolds fs good some);
        each = λ k b. is_stmt fs last _ (to_end last (omega arith) 0 stmt d.1 k (omega arith) b);
      }
