-- The counting law: the program's syntax tree weighs as much as the file's nodes together, and so has as many nodes as the file.
--     program-weight     the last node's own and the program's weight is the sum of `own` of every node's tag
--     program-size       one more than the program's size is the number of nodes
--     accepted-size      program-size, of an accepted file
-- What a node weighs is its own and its children's (a line for each tag, by `Sum`); so by induction it weighs what the tree under it does in the
-- file, and `tree_total` counts that.
use mathlib.Core.Path.{◌≡◌, refl, sym, ap, ◌∙◌}
use mathlib.Core.Bool.{Bool, true, false, not, cond}
use mathlib.Core.Logic.{◌⊎◌, ⊎_elim}
use mathlib.Core.List.{List, [], ◌∷◌}
use Prim.Native.Nat.{ℕ, zero, suc, ◌+◌, ◌-◌, ◌*◌, ◌<◌, ◌≤◌}
use native.Mathlib.Nat.{zero-add}
use native.Mathlib.Omega.{arith}
use lib.ListN.{length, take, drop}
use lib.Seq.{get_or-drop}
use lib.Dec.{eqb, ltb}
use borrow.Author.Tests.{eq-eqb, ne_eqb, lt-ltb, le-ltb}
use Rattle.meaning.specs.Base.{count}
use Rattle.meaning.specs.Fields.{Field, fields}
use Rattle.meaning.specs.Grammar.{super as superkind}
use Rattle.meaning.specs.Grammar.{Item, never, name, mark, expr, stmt, elif, method, init, absent, names, lawful, grammar, items_of, wide_marks, tags_of, shape_at}
use Rattle.meaning.specs.Tree.{all_kids}
use Rattle.meaning.specs.Check.{checked}
use Rattle.std.specs.Prelude.{Ok}
use Rattle.meaning.specs.Syntax.{Stmt, Elifs, let_only, let_as, return_none, return, no_stmt, and_stmt, no_super}
use Rattle.meaning.specs.Read.{Readers, Reader, at, token, exprs, stmts, funs, elifs, initializer, superclass, words_at, expr_readers, stmt_readers, read_fun, read_if, read_program, no_expression, no_statement}
use Rattle.meaning.specs.At.{tag_of, readers_at, expr_at, stmt_at, fun_at, variable_at, elif_at}
use Rattle.meaning.specs.Weight.{weight_expr, weight_exprs, weight_stmt, weight_stmts, weight_elifs, weight_fun, weight_funs, weight_super, size_stmts}
use Rattle.meaning.proofs.Lists.{sum_of, sum_to, sum_to_ones}
use Rattle.meaning.proofs.Payload.{none_lawful, Allowed, Row, Due, weigh_row, Sum, due_at, sum_at}
use Rattle.meaning.proofs.Spread.{weigh}
use Rattle.meaning.proofs.Unfold.{◌&◌, Each, each_at, is_expr, is_stmt, is_init, is_method, is_super, is_elif, expr_unfolds, stmt_unfolds, fun_unfolds, elif_unfolds, variable_unfolds, last_items, program_unfolds}
use Rattle.meaning.proofs.Accepted.{accepted}
use Rattle.meaning.proofs.Counting.{total_by, total_step, tree_total}

module _ (own : ℕ → ℕ) where
  -- ---- what a reader gives weighs what its children do

  -- the lawful children of node i weigh g
  record Weighs (ts : List ℕ) (i : ℕ) (r : Readers) (g : ℕ → ℕ) : Type 0 where
    expr : (c : ℕ) → lawful ts i expr c ≡ true → weight_expr own (r.expr c) ≡ g c
    stmt : (c : ℕ) → lawful ts i stmt c ≡ true → weight_stmt own (r.stmt c) ≡ g c
    init : (c : ℕ) → lawful ts i init c ≡ true → absent c ≡ false → weight_stmt own (r.stmt c) ≡ g c
    fun : (c : ℕ) → lawful ts i method c ≡ true → weight_fun own (r.fun c) ≡ g c
    variable : (c : ℕ) → lawful ts i superkind c ≡ true → absent c ≡ false → weight_super own (r.variable c) ≡ g c
    elif : (c : ℕ) → lawful ts i elif c ≡ true → (es : Elifs) → weight_elifs own (r.elif c es) ≡ g c + weight_elifs own es

  module _ (ts : List ℕ) (i : ℕ) (r : Readers) (g : ℕ → ℕ) (s : Weighs ts i r g) where
    exprs_weight : (cs : List ℕ) → Row (lawful ts i) (expr ∷ []) [] cs → weight_exprs own (exprs r cs) ≡ weigh_row g (expr ∷ []) [] cs
    unfolding weight_expr names sum_of
    exprs_weight [] d = refl
    exprs_weight (c ∷ cs) d = omega (arith, s.expr c d.0, exprs_weight cs d.1)

    stmts_weight : (cs : List ℕ) → Row (lawful ts i) (stmt ∷ []) [] cs → weight_stmts own (stmts r cs) ≡ weigh_row g (stmt ∷ []) [] cs
    unfolding weight_expr names sum_of
    stmts_weight [] d = refl
    stmts_weight (c ∷ cs) d = omega (arith, s.stmt c d.0, stmts_weight cs d.1)

    funs_weight : (cs : List ℕ) → Row (lawful ts i) (method ∷ []) [] cs → weight_funs own (funs r cs) ≡ weigh_row g (method ∷ []) [] cs
    unfolding weight_expr names sum_of
    funs_weight [] d = refl
    funs_weight (c ∷ cs) d = omega (arith, s.fun c d.0, funs_weight cs d.1)

    elifs_weight : (cs : List ℕ) → Row (lawful ts i) (elif ∷ []) [] cs → weight_elifs own (elifs r cs) ≡ weigh_row g (elif ∷ []) [] cs
    unfolding weight_expr names sum_of
    elifs_weight [] d = refl
    elifs_weight (c ∷ cs) d = omega (arith, s.elif c d.0 (elifs r cs), elifs_weight cs d.1)

    -- pairs name no child
    pairs_weight : (ws : List ℕ) → weigh_row g (name ∷ mark ∷ []) [] ws ≡ 0
    unfolding names sum_of
    pairs_weight [] = refl
    pairs_weight (a ∷ []) = refl
    pairs_weight (a ∷ b ∷ ws) = let h = pairs_weight ws in omega arith

    init_weight : (c : ℕ) → lawful ts i init c ≡ true → weight_stmts own (initializer r c) ≡ weigh g init c
    unfolding weight_expr names sum_of
    init_weight c e = go (absent c) refl
      where
        go : (b : Bool) → absent c ≡ b → weight_stmts own (cond b no_stmt (and_stmt (r.stmt c) no_stmt)) ≡ sum_of g (cond (not b) (c ∷ []) [])
        go true n = refl
        go false n = omega (arith, s.init c e n)

    super_weight : (c : ℕ) → lawful ts i superkind c ≡ true → weight_super own (superclass r c) ≡ weigh g superkind c
    unfolding weight_super names sum_of
    super_weight c e = go (absent c) refl
      where
        go : (b : Bool) → absent c ≡ b → weight_super own (cond b no_super (r.variable c)) ≡ sum_of g (cond (not b) (c ∷ []) [])
        go true n = refl
        go false n = omega (arith, s.variable c e n)

    -- a let, and a return: x without the expression at word k, y with it
    perhaps_weight : (ws : List ℕ) (k tag : ℕ) (x y : Stmt) → weight_stmt own x ≡ own tag → weight_stmt own y ≡ own tag + weight_expr own (r.expr (at ws k))
        → (length ws ≡ k) ⊎ (Allowed (lawful ts i) expr (at ws k) × (length ws ≡ k + 1))
        → weight_stmt own (cond (eqb (length ws) k) x y) ≡ own tag + cond (ltb k (length ws)) (weigh g expr (at ws k) + 0) 0
    unfolding names sum_of
    perhaps_weight ws k tag x y a b d =
        ⊎_elim (λ q. rw (eq-eqb (length ws) k q, le-ltb k (length ws) (omega arith)) (omega arith))
        (λ q. rw (ne_eqb (length ws) k (λ z. omega (arith, q.1)), lt-ltb k (length ws) (omega (arith, q.1))) (omega (arith, s.expr _ q.0)))
        d

    -- what a reader gives, on words that are due; an elif is no statement
    abbrev Adds : {A : Type 0} → (A → ℕ) → (tag : ℕ) → List Item → Reader A → Type 0
    Adds weight tag is read = (ws : List ℕ) → Due (lawful ts i) ws is 0 → (tag ≡ 0x1A → ⊥) → weight (read r i ws) ≡ own tag + Sum g ws is 0

    -- tags 00 to 09, 1C, 19, and 10 to 1D
    expr_adds : Each (Adds (weight_expr own)) 0x00 grammar expr_readers
    unfolding grammar weight_expr names sum_of
    expr_adds =
        (λ ws d n. absurd (none_lawful ts i _ d.0))
        & (λ ws d n. omega arith)
        & (λ ws d n. omega arith)
        & (λ ws d n. omega arith)
        & (λ ws d n. omega arith)
        & (λ ws d n. omega (arith, s.expr _ d.1.1.0))
        & (λ ws d n. omega (arith, s.expr _ d.1.1.0, s.expr _ d.1.1.1.0))
        & (λ ws d n. omega (arith, s.expr _ d.1.1.0, s.expr _ d.1.1.1.0))
        & (λ ws d n. omega (arith, s.expr _ d.0, exprs_weight (drop 2 ws) d.1.1.1))
        & (λ ws d n. omega (arith, pairs_weight (take (2 * at ws 0) (drop 1 ws)), stmts_weight (drop (1 + 2 * at ws 0) ws) d.2.1))
        & tt

    fun_adds : Adds (weight_fun own) 0x1C (items_of 0x1C) read_fun
    unfolding items_of grammar weight_expr names sum_of
    fun_adds ws d n = omega (arith, pairs_weight (take (2 * at ws 2) (drop 3 ws)), stmts_weight (drop (3 + 2 * at ws 2) ws) d.1.1.2.1)

    if_adds : Adds (weight_stmt own) 0x19 (items_of 0x19) (λ r i ws. read_if (at ws 2) (at ws (3 + at ws 2)) r i ws)
    unfolding items_of grammar weight_expr names sum_of
    if_adds ws d n =
        let t = at ws 2 in
        let e = at ws (3 + t) in
        let z : 3 + t + 1 ≡ 4 + t = omega arith in
        rw z (omega (arith, s.expr _ d.1.0, stmts_weight (take t (drop 3 ws)) d.1.1.1, elifs_weight (take e (drop (4 + t) ws)) (rw z at d.1.1.2.1), stmts_weight (drop (4 + t + e) ws) (rw z at d.1.1.2.2.1)))

    stmt_adds : Each (Adds (weight_stmt own)) 0x10 (drop 0x10 grammar) stmt_readers
    unfolding grammar items_of weight_expr names sum_of
    stmt_adds =
        (λ ws d n. omega (arith, s.expr _ d.0))
        & (λ ws d n. omega (arith, perhaps_weight ws 2 0x11 (let_only i (token (at ws 0) (at ws 1))) (let_as i (token (at ws 0) (at ws 1)) (r.expr (at ws 2))) refl refl d.1.1))
        & (λ ws d n. omega (arith, stmts_weight ws d.1))
        & (λ ws d n. omega (arith, s.expr _ d.1.0, s.stmt _ d.1.1.0))
        & (λ ws d n. omega (arith, init_weight (at ws 1) d.1.0, s.expr _ d.1.1.0, s.expr _ d.1.1.1.0, s.stmt _ d.1.1.1.1.0))
        & (λ ws d n. omega (arith, s.expr _ d.1.0, s.stmt _ d.1.1.0, pairs_weight (drop 5 ws)))
        & (λ ws d n. omega arith)
        & (λ ws d n. omega arith)
        & (λ ws d n. omega (arith, perhaps_weight ws 1 0x18 (return_none i (at ws 0)) (return i (at ws 0) (r.expr (at ws 1))) refl refl d.1))
        & if_adds
        & (λ ws d n. absurd (n refl))
        & (λ ws d n. omega (arith, s.stmt _ d.0, s.stmt _ d.1.1.1.0))
        & fun_adds
        & (λ ws d n. omega (arith, super_weight (at ws 2) d.1.1.0, funs_weight (take (at ws 3) (drop 4 ws)) d.1.1.1.1, funs_weight (drop (4 + at ws 3) ws) d.1.1.1.2.1))
        & tt

  -- ---- what a node weighs

  module _ (fs : List Field) (good : (j : ℕ) → j < length fs → shape_at fs j ≡ true) where
    -- what the tree under a node weighs in the file
    total : ℕ → ℕ
    total i = total_by (λ j. own (tag_of fs j)) fs (length fs) i

    record Weight (i : ℕ) : Type 0 where
      expr : tag_of fs i ≤ 0x09 → weight_expr own (expr_at fs i) ≡ total i
      stmt : 0x10 ≤ tag_of fs i → tag_of fs i ≤ 0x1D → (tag_of fs i ≡ 0x1A → ⊥) → weight_stmt own (stmt_at fs i) ≡ total i
      fun : tag_of fs i ≡ 0x1C → weight_fun own (fun_at fs i) ≡ total i
      variable : tag_of fs i ≡ 0x04 → weight_super own (variable_at fs i) ≡ total i
      elif : tag_of fs i ≡ 0x1A → (es : Elifs) → weight_elifs own (elif_at fs i es) ≡ total i + weight_elifs own es

    weighs : (i : ℕ) → ((c : ℕ) → c < i → Weight c) → Weighs (tags_of fs) i (readers_at fs) total
    weighs i below = record {
      expr = λ c e. let h = is_expr fs i c e in (below c h.below).expr h.high;
      stmt = λ c e. let h = is_stmt fs i c e in (below c h.below).stmt h.low h.high h.no_elif;
      init = λ c e n. let h = is_init fs i c e n in (below c h.below).stmt h.low h.high h.no_elif;
      fun = λ c e. let h = is_method fs i c e in (below c h.below).fun h.tag;
      variable = λ c e n. let h = is_super fs i c e n in (below c h.below).variable h.tag;
      elif = λ c e es. let h = is_elif fs i c e in (below c h.below).elif h.tag es;
    }

    module _ (i : ℕ) (l : i < length fs) (w : Weighs (tags_of fs) i (readers_at fs) total) where
      at_tag : total i ≡ own (tag_of fs i) + Sum total (words_at fs i) (items_of (tag_of fs i)) 0
      unfolding total
      at_tag = total_step fs good (λ j. own (tag_of fs j)) i l ∙ ap (λ (n : ℕ). own (tag_of fs i) + n) (sum_at fs i (good i l) total)

      expr_weight : tag_of fs i ≤ 0x09 → weight_expr own (expr_at fs i) ≡ total i
      unfolding items_of
      expr_weight h =
          ap (weight_expr own) (expr_unfolds fs good i l h)
          ∙ (rw zero-add at (each_at (Adds (tags_of fs) i (readers_at fs) total w (weight_expr own)) 0x00 grammar expr_readers (expr_adds (tags_of fs) i (readers_at fs) total w) (λ r i ws. no_expression) (tag_of fs i) (omega arith) (words_at fs i) (due_at fs i (good i l)) (λ e. omega arith)))
          ∙ sym at_tag

      stmt_weight : 0x10 ≤ tag_of fs i → tag_of fs i ≤ 0x1D → (tag_of fs i ≡ 0x1A → ⊥) → weight_stmt own (stmt_at fs i) ≡ total i
      unfolding items_of
      stmt_weight a b h =
          let n : 0x10 + (tag_of fs i - 0x10) ≡ tag_of fs i = omega arith in
          ap (weight_stmt own) (stmt_unfolds fs good i l a b)
          ∙ (rw (get_or-drop 0x10 grammar (tag_of fs i - 0x10) never, n) at (each_at (Adds (tags_of fs) i (readers_at fs) total w (weight_stmt own)) 0x10 (drop 0x10 grammar) stmt_readers (stmt_adds (tags_of fs) i (readers_at fs) total w) (λ r i ws. no_statement) (tag_of fs i - 0x10) (omega arith) (words_at fs i)))
          (due_at fs i (good i l)) h
          ∙ sym at_tag

      fun_weight : tag_of fs i ≡ 0x1C → weight_fun own (fun_at fs i) ≡ total i
      fun_weight e =
          ap (weight_fun own) (fun_unfolds fs good i l e)
          ∙ fun_adds (tags_of fs) i (readers_at fs) total w (words_at fs i) (rw e at (due_at fs i (good i l))) (λ q. omega arith)
          ∙ sym (rw e at at_tag)

      variable_weight : tag_of fs i ≡ 0x04 → weight_super own (variable_at fs i) ≡ total i
      unfolding items_of grammar names sum_of weight_super
      variable_weight e = ap (weight_super own) (variable_unfolds fs good i l) ∙ omega (arith, rw e at at_tag)

      elif_weight : tag_of fs i ≡ 0x1A → (es : Elifs) → weight_elifs own (elif_at fs i es) ≡ total i + weight_elifs own es
      unfolding items_of grammar names sum_of weight_expr
      elif_weight e es =
          let d = rw e at (due_at fs i (good i l)) in
          ap (weight_elifs own) (elif_unfolds fs good i l e es)
          ∙ omega (arith, rw e at at_tag, w.expr _ d.0, stmts_weight (tags_of fs) i (readers_at fs) total w (drop 1 (words_at fs i)) d.1.1)

    -- by induction: the children stand below
    weight_below : (f i : ℕ) → i < f → i < length fs → Weight i
    weight_below zero i h l = absurd (omega arith)
    weight_below (suc f) i h l =
        let w = weighs i (λ c q. weight_below f c (omega arith) (omega arith)) in
        record { expr = expr_weight i l w; stmt = stmt_weight i l w; fun = fun_weight i l w; variable = variable_weight i l w; elif = elif_weight i l w }

    -- ---- the program

    module _ (some : 1 ≤ length fs) (once : (c : ℕ) → c < length fs - 1 → count c (all_kids (wide_marks fs) fs) ≡ 1) where
      pub program_weight : own (tag_of fs (length fs - 1)) + weight_stmts own (read_program fs) ≡ sum_to (λ j. own (tag_of fs j)) (length fs)
      unfolding items_of grammar total
      program_weight =
          let last = length fs - 1 in
          let l : last < length fs = omega arith in
          let w = weighs last (λ c q. weight_below last c q (omega arith)) in
          let e = last_items fs good some in
          let d = rw e at (due_at fs last (good last l)) in
          ap (λ (n : ℕ). own (tag_of fs last) + n) (ap (weight_stmts own) (program_unfolds fs good some) ∙ stmts_weight (tags_of fs) last (readers_at fs) total w (words_at fs last) d.1)
          ∙ sym (rw e at (at_tag last l w))
          ∙ tree_total fs good some once (λ j. own (tag_of fs j))

-- the number of nodes: the program itself and those of its statements
pub program_size : (fs : List Field) (good : (j : ℕ) → j < length fs → shape_at fs j ≡ true) → 1 ≤ length fs → ((c : ℕ) → c < length fs - 1 → count c (all_kids (wide_marks fs) fs) ≡ 1)
    → 1 + size_stmts (read_program fs) ≡ length fs
program_size fs good some once = program_weight (λ t. 1) fs good some once ∙ sum_to_ones (length fs)

-- the same of an accepted file
pub accepted_size : (mode : ℕ) (s : List ℕ) (work n : ℕ) → checked mode s work ≡ Ok n → 1 + size_stmts (read_program (fields s)) ≡ n
accepted_size mode s work n e = let h = accepted mode s work n e in program_size (fields s) h.shapes h.some h.once ∙ sym h.nodes
