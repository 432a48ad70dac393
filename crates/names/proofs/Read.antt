-- A renamed file is read as the changed syntax tree: a line for each tag says what its reader gives of changed words, and the induction is on the fuel, as in
-- meaning's Ranges.Tree.
use mathlib.Core.Path.{◌≡◌, refl, sym, ap, ap₂, ◌∙◌}
use mathlib.Core.Bool.{Bool, true, false, cond}
use mathlib.Core.Logic.{⊎_elim}
use mathlib.Core.List.{List, [], ◌∷◌, map}
use Prim.Native.Nat.{ℕ, zero, suc, ◌+◌, ◌-◌, ◌*◌, ◌<◌, ◌≤◌}
use native.Mathlib.Omega.{arith}
use lib.ListN.{length, take, drop, length-map}
use lib.Seq.{get_or-drop, drop-drop}
use lib.Dec.{eqb, lit<}
use borrow.Author.Tests.{eq-eqb, eqb-true}
use native.Mathlib.Nat.{zero-add}
use Rattle.meaning.proofs.Lists.{false_true}
use Rattle.meaning.specs.Grammar.{ends}
use Rattle.meaning.specs.Fields.{Field}
use Rattle.meaning.specs.declared.Token.{Token}
use Rattle.meaning.specs.Grammar.{super as superkind}
use Rattle.meaning.specs.Grammar.{Item, one, perhaps, many, counted, never, name, mark, expr, stmt, elif, method, init, absent, lawful, grammar, items_of, wide_marks, tags_of, shape_at, copies, kind_of, due_after}
use Rattle.meaning.specs.Constant.{text}
use Rattle.meaning.specs.Syntax.{Expr, literal, variable, unary, binary, logical, call, function, expression, let_only, let_as, block, while, for_in, return_none, return, try, define, class, no_stmt, and_stmt, Elifs, and_elif, fun, no_super, super, and_expr, and_fun}
use Rattle.meaning.specs.Read.{Readers, Reader, at, token, tokens, readers, read_program, words_at, exprs, stmts, funs, elifs, initializer, superclass, no_expression, no_statement, expr_readers, stmt_readers, read_expr, read_stmt, read_fun, read_if, read_let, read_return}
use Rattle.meaning.specs.At.{tag_of, word_of}
use Rattle.meaning.proofs.Payload.{Allowed, Row, Due, due_at}
use Rattle.meaning.proofs.Kids.{shape_tag}
use Rattle.meaning.proofs.Unfold.{Each, each_at, ◌&◌, is_expr, is_stmt, is_elif, is_method, is_super, is_init, last_items}
use Rattle.meaning.proofs.Images.Fielded.{Payloads}
use Rattle.names.specs.Rename.{Rule, naming_of, renamed_field}
use Rattle.names.proofs.Changed.{token_by, super_by, expr_by, exprs_by, stmt_by, stmts_by, elifs_by, fun_by, funs_by}
use Rattle.names.proofs.Words.{changed, nameless, nameless_kinds, nameless_same, length_changed, drop_ones, at_ones, tokens_many, tokens_copies, drop_copies, words_changed}
use Rattle.names.proofs.Checks.{tag_same}

module _ (f : ℕ → ℕ) (rule : Rule f) (fs : List Field) where
  module _ (i : ℕ) where
    abbrev ok : ℕ → ℕ → Bool
    ok = lawful (tags_of fs) i

    -- r' reads the children of node i changed
    record Reads (r r' : Readers) : Type 0 where
      expr : (c : ℕ) → Allowed ok expr c → r'.expr c ≡ expr_by f (r.expr c)
      stmt : (c : ℕ) → Allowed ok stmt c → r'.stmt c ≡ stmt_by f (r.stmt c)
      init : (c : ℕ) → Allowed ok init c → absent c ≡ false → r'.stmt c ≡ stmt_by f (r.stmt c)
      fun : (c : ℕ) → Allowed ok method c → r'.fun c ≡ fun_by f (r.fun c)
      variable : (c : ℕ) → Allowed ok superkind c → absent c ≡ false → r'.variable c ≡ super_by f (r.variable c)
      elif : (c : ℕ) → Allowed ok elif c → (es : Elifs) → r'.elif c (elifs_by f es) ≡ elifs_by f (r.elif c es)

    module _ (r r' : Readers) (s : Reads r r') where
      exprs_read : (cs : List ℕ) → Row ok (expr ∷ []) [] cs → exprs r' cs ≡ exprs_by f (exprs r cs)
      unfolding expr_by
      exprs_read [] d = refl
      exprs_read (c ∷ cs) d = ap₂ and_expr (s.expr c d.0) (exprs_read cs d.1)

      stmts_read : (cs : List ℕ) → Row ok (stmt ∷ []) [] cs → stmts r' cs ≡ stmts_by f (stmts r cs)
      unfolding expr_by
      stmts_read [] d = refl
      stmts_read (c ∷ cs) d = ap₂ and_stmt (s.stmt c d.0) (stmts_read cs d.1)

      funs_read : (cs : List ℕ) → Row ok (method ∷ []) [] cs → funs r' cs ≡ funs_by f (funs r cs)
      unfolding expr_by
      funs_read [] d = refl
      funs_read (c ∷ cs) d = ap₂ and_fun (s.fun c d.0) (funs_read cs d.1)

      elifs_read : (cs : List ℕ) → Row ok (elif ∷ []) [] cs → elifs r' cs ≡ elifs_by f (elifs r cs)
      unfolding expr_by
      elifs_read [] d = refl
      elifs_read (c ∷ cs) d = ap (r'.elif c) (elifs_read cs d.1) ∙ s.elif c d.0 (elifs r cs)

      init_read : (c : ℕ) → Allowed ok init c → initializer r' c ≡ stmts_by f (initializer r c)
      unfolding expr_by
      init_read c e = go (absent c) refl
        where
          go : (b : Bool) → absent c ≡ b → cond b no_stmt (and_stmt (r'.stmt c) no_stmt) ≡ stmts_by f (cond b no_stmt (and_stmt (r.stmt c) no_stmt))
          go true n = refl
          go false n = ap (λ t. and_stmt t no_stmt) (s.init c e n)

      super_read : (c : ℕ) → Allowed ok superkind c → superclass r' c ≡ super_by f (superclass r c)
      super_read c e = go (absent c) refl
        where
          go : (b : Bool) → absent c ≡ b → cond b no_super (r'.variable c) ≡ super_by f (cond b no_super (r.variable c))
          go true n = refl
          go false n = s.variable c e n

      -- what a reader gives of changed words
      abbrev Line : {A : Type 0} (by : A → A) → (tag : ℕ) → List Item → Reader A → Type 0
      Line by tag is read = (ws : List ℕ) → Due ok ws is 0 → read r' i (changed f (naming_of tag) ws) ≡ by (read r i ws)

      -- at a tag without names the words stay
      stay : (tag : ℕ) (ws : List ℕ) → nameless f (naming_of tag) ≡ true → changed f (naming_of tag) ws ≡ ws
      stay tag ws n = nameless_same f (naming_of tag) ws n

      -- a count and its pairs, then words without names
      module _ (js : List Item) (n : nameless f js ≡ true) where
        abbrev pairs : List Item
        pairs = counted (name ∷ mark ∷ []) ∷ js

        count_same : (ws : List ℕ) → at (changed f pairs ws) 0 ≡ at ws 0
        unfolding changed kind_of due_after
        count_same [] = refl
        count_same (w ∷ ws) = refl

        pairs_from : (ws : List ℕ) → drop 1 (changed f pairs ws) ≡ changed f (copies (at ws 0) (name ∷ mark ∷ []) js) (drop 1 ws)
        unfolding changed kind_of due_after
        pairs_from [] = refl
        pairs_from (w ∷ ws) = refl

        tokens_counted : (ws : List ℕ) → tokens (take (2 * at (changed f pairs ws) 0) (drop 1 (changed f pairs ws))) ≡ map (token_by f) (tokens (take (2 * at ws 0) (drop 1 ws)))
        tokens_counted ws = rw (count_same ws, pairs_from ws) (tokens_copies f (at ws 0) js (drop 1 ws))

        rest_counted : (ws : List ℕ) → drop (1 + 2 * at (changed f pairs ws) 0) (changed f pairs ws) ≡ drop (1 + 2 * at ws 0) ws
        rest_counted ws =
            rw (count_same ws)
            (sym (drop-drop (2 * at ws 0) 1 (changed f pairs ws)) ∙ ap (drop (2 * at ws 0)) (pairs_from ws) ∙ drop_copies f (at ws 0) js (drop 1 ws)
            ∙ nameless_same f js (drop (2 * at ws 0) (drop 1 ws)) n ∙ drop-drop (2 * at ws 0) 1 ws)

      -- places behind the first two words, and the first three
      at_behind : (k j : ℕ) (vs us ws : List ℕ) → drop k vs ≡ us → us ≡ drop k ws → at vs (k + j) ≡ at ws (k + j)
      at_behind k j vs us ws p q = sym (get_or-drop k vs j 0) ∙ ap (λ l. at l j) (p ∙ q) ∙ get_or-drop k ws j 0

      drop_behind : (k j : ℕ) (vs us ws : List ℕ) → drop k vs ≡ us → us ≡ drop k ws → drop (k + j) vs ≡ drop (k + j) ws
      drop_behind k j vs us ws p q = sym (drop-drop j k vs) ∙ ap (drop j) (p ∙ q) ∙ drop-drop j k ws

      fun_line : Line (fun_by f) 0x1C (items_of 0x1C) read_fun
      unfolding items_of grammar naming_of expr_by nameless nameless_kinds
      fun_line ws d =
          let js = many (stmt ∷ []) ∷ [] in
          let W = changed f (naming_of 0x1C) ws in
          let e : drop 2 W ≡ changed f (counted (name ∷ mark ∷ []) ∷ js) (drop 2 ws) = drop_ones f (name ∷ mark ∷ []) (counted (name ∷ mark ∷ []) ∷ js) ws in
          let c : at W 2 ≡ at (drop 2 W) 0 = sym (get_or-drop 2 W 0 0) in
          let c' : at ws 2 ≡ at (drop 2 ws) 0 = sym (get_or-drop 2 ws 0 0) in
          let k : 2 + (1 + 2 * at ws 2) ≡ 3 + 2 * at ws 2 = omega arith in
          let n : at W 2 ≡ at ws 2 = c ∙ ap (λ l. at l 0) e ∙ count_same js refl (drop 2 ws) ∙ sym c' in
          let t : tokens (take (2 * at W 2) (drop 3 W)) ≡ map (token_by f) (tokens (take (2 * at ws 2) (drop 3 ws))) =
          ap₂ (λ (m : ℕ) (l : List ℕ). tokens (take (2 * m) l)) c (sym (drop-drop 1 2 W)) ∙ ap (λ (l : List ℕ). tokens (take (2 * at l 0) (drop 1 l))) e ∙ tokens_counted js refl (drop 2 ws)
          ∙ ap₂ (λ (m : ℕ) (l : List ℕ). map (token_by f) (tokens (take (2 * m) l))) (sym c') (drop-drop 1 2 ws) in
          let b : drop (3 + 2 * at W 2) W ≡ drop (3 + 2 * at ws 2) ws =
          rw n (ap (λ (m : ℕ). drop m W) (sym k) ∙ sym (drop-drop (1 + 2 * at ws 2) 2 W) ∙ ap (drop (1 + 2 * at ws 2)) e
          ∙ ap (λ (m : ℕ). drop (1 + 2 * m) (changed f (counted (name ∷ mark ∷ []) ∷ js) (drop 2 ws))) (c' ∙ sym (count_same js refl (drop 2 ws))) ∙ rest_counted js refl (drop 2 ws)
          ∙ ap (λ (m : ℕ). drop (1 + 2 * m) (drop 2 ws)) (sym c') ∙ drop-drop (1 + 2 * at ws 2) 2 ws ∙ ap (λ (m : ℕ). drop m ws) k) in
          rw (at_ones f rule (name ∷ mark ∷ []) (counted (name ∷ mark ∷ []) ∷ js) ws 0 (lit< tt), at_ones f rule (name ∷ mark ∷ []) (counted (name ∷ mark ∷ []) ∷ js) ws 1 (lit< tt), t, b)
          (ap (fun i (token (f (at ws 0)) (at ws 1)) (map (token_by f) (tokens (take (2 * at ws 2) (drop 3 ws))))) (stmts_read (drop (3 + 2 * at ws 2) ws) d.1.1.2.1))

      expr_lines : Each (Line (expr_by f)) 0x00 grammar expr_readers
      unfolding grammar items_of naming_of expr_by nameless nameless_kinds changed kind_of due_after
      expr_lines =
          (λ ws d. refl)
          & (λ ws d. rw (stay 0x01 ws refl) refl)
          & (λ ws d. ap (λ n. literal i (text n)) (at_ones f rule (name ∷ []) [] ws 0 (lit< tt)))
          & (λ ws d. rw (stay 0x03 ws refl) refl)
          & (λ ws d. ap₂ (λ n m. variable i (token n m)) (at_ones f rule (name ∷ mark ∷ []) [] ws 0 (lit< tt)) (at_ones f rule (name ∷ mark ∷ []) [] ws 1 (lit< tt)))
          & (λ ws d. rw (stay 0x05 ws refl) (ap (unary i (at ws 0) (at ws 1)) (s.expr _ d.1.1.0)))
          & (λ ws d. rw (stay 0x06 ws refl) (ap₂ (binary i (at ws 0) (at ws 1)) (s.expr _ d.1.1.0) (s.expr _ d.1.1.1.0)))
          & (λ ws d. rw (stay 0x07 ws refl) (ap₂ (logical i (at ws 0) (at ws 1)) (s.expr _ d.1.1.0) (s.expr _ d.1.1.1.0)))
          & (λ ws d. rw (stay 0x08 ws refl) (ap₂ (λ g xs. call i g (at ws 1) xs) (s.expr _ d.0) (exprs_read (drop 2 ws) d.1.1.1)))
          & (λ ws d. ap₂ (function i) (tokens_counted (many (stmt ∷ []) ∷ []) refl ws) (ap (stmts r') (rest_counted (many (stmt ∷ []) ∷ []) refl ws) ∙ stmts_read (drop (1 + 2 * at ws 0) ws) d.2.1))
          & tt

      -- ---- statements

      if_line : Line (stmt_by f) 0x19 (items_of 0x19) (λ r i ws. read_if (at ws 2) (at ws (3 + at ws 2)) r i ws)
      unfolding items_of grammar naming_of expr_by nameless nameless_kinds
      if_line ws d =
          let t = at ws 2 in
          let e = at ws (3 + t) in
          let n : 3 + t + 1 ≡ 4 + t = omega arith in
          rw (stay 0x19 ws refl)
          (rw (s.expr _ d.1.0, stmts_read (take t (drop 3 ws)) d.1.1.1, elifs_read (take e (drop (4 + t) ws)) (rw n at d.1.1.2.1), stmts_read (drop (4 + t + e) ws) (rw n at d.1.1.2.2.1)) refl)

      let_line : Line (stmt_by f) 0x11 (items_of 0x11) read_let
      unfolding items_of grammar naming_of expr_by nameless nameless_kinds
      let_line ws d =
          let W = changed f (naming_of 0x11) ws in
          let a = at_ones f rule (name ∷ mark ∷ []) (perhaps expr ∷ []) ws 0 (lit< tt) in
          let b = at_ones f rule (name ∷ mark ∷ []) (perhaps expr ∷ []) ws 1 (lit< tt) in
          let c : at W 2 ≡ at ws 2 = at_behind 2 0 W (changed f (perhaps expr ∷ []) (drop 2 ws)) ws (drop_ones f (name ∷ mark ∷ []) (perhaps expr ∷ []) ws) (nameless_same f (perhaps expr ∷ []) (drop 2 ws) refl) in
          rw (length_changed f (naming_of 0x11) ws, a, b, c)
          (⊎_elim (λ q. rw (eq-eqb (length ws) 2 q) refl) (λ q. either (eqb (length ws) 2) _ _ (token (at ws 0) (at ws 1)) (s.expr _ q.0)) d.1.1)
        where
          either : (c : Bool) (x y : Expr) (t : Token) → y ≡ expr_by f x → cond c (let_only i (token_by f t)) (let_as i (token_by f t) y) ≡ stmt_by f (cond c (let_only i t) (let_as i t x))
          either true x y t e = refl
          either false x y t e = ap (let_as i (token_by f t)) e

      return_line : Line (stmt_by f) 0x18 (items_of 0x18) read_return
      unfolding items_of grammar naming_of expr_by nameless nameless_kinds
      return_line ws d = rw (stay 0x18 ws refl) (⊎_elim (λ q. rw (eq-eqb (length ws) 1 q) refl) (λ q. either (eqb (length ws) 1) _ _ (at ws 0) (s.expr _ q.0)) d.1)
        where
          either : (c : Bool) (x y : Expr) (m : ℕ) → y ≡ expr_by f x → cond c (return_none i m) (return i m y) ≡ stmt_by f (cond c (return_none i m) (return i m x))
          either true x y m e = refl
          either false x y m e = ap (return i m) e

      first_tokens : (vs : List ℕ) → tokens (changed f (one name ∷ one mark ∷ many (name ∷ mark ∷ []) ∷ []) vs) ≡ map (token_by f) (tokens vs)
      unfolding changed kind_of due_after
      first_tokens [] = refl
      first_tokens (n ∷ []) = refl
      first_tokens (n ∷ m ∷ vs) = ap (λ l. token (f n) m ∷ l) (tokens_many f vs)

      for_in_line : Line (stmt_by f) 0x15 (items_of 0x15) (λ r i ws. for_in i (at ws 0) (r.expr (at ws 1)) (r.stmt (at ws 2)) (tokens (drop 3 ws)))
      unfolding items_of grammar naming_of expr_by
      for_in_line ws d =
          let ks = mark ∷ expr ∷ stmt ∷ [] in
          let js = one name ∷ one mark ∷ many (name ∷ mark ∷ []) ∷ [] in
          rw (at_ones f rule ks js ws 0 (lit< tt), at_ones f rule ks js ws 1 (lit< tt), at_ones f rule ks js ws 2 (lit< tt), drop_ones f ks js ws, first_tokens (drop 3 ws), s.expr _ d.1.0, s.stmt _ d.1.1.0) refl

      try_line : Line (stmt_by f) 0x1B (items_of 0x1B) (λ r i ws. try i (r.stmt (at ws 0)) (token (at ws 1) (at ws 2)) (r.stmt (at ws 3)))
      unfolding items_of grammar naming_of expr_by
      try_line ws d =
          let ks = stmt ∷ name ∷ mark ∷ stmt ∷ [] in
          rw (at_ones f rule ks [] ws 0 (lit< tt), at_ones f rule ks [] ws 1 (lit< tt), at_ones f rule ks [] ws 2 (lit< tt), at_ones f rule ks [] ws 3 (lit< tt), s.stmt _ d.0, s.stmt _ d.1.1.1.0) refl

      class_line : Line (stmt_by f) 0x1D (items_of 0x1D) (λ r i ws. class i (token (at ws 0) (at ws 1)) (superclass r (at ws 2)) (funs r (take (at ws 3) (drop 4 ws))) (funs r (drop (4 + at ws 3) ws)))
      unfolding items_of grammar naming_of expr_by nameless nameless_kinds
      class_line ws d =
          let ks = name ∷ mark ∷ superkind ∷ [] in
          let js = counted (method ∷ []) ∷ many (method ∷ []) ∷ [] in
          let W = changed f (naming_of 0x1D) ws in
          let p = drop_ones f ks js ws in
          let q = nameless_same f js (drop 3 ws) refl in
          let c : at W 3 ≡ at ws 3 = at_behind 3 0 W (changed f js (drop 3 ws)) ws p q in
          let e : drop 4 W ≡ drop 4 ws = drop_behind 3 1 W (changed f js (drop 3 ws)) ws p q in
          let k : 3 + (1 + at ws 3) ≡ 4 + at ws 3 = omega arith in
          let g : drop (4 + at ws 3) W ≡ drop (4 + at ws 3) ws = rw k at (drop_behind 3 (1 + at ws 3) W (changed f js (drop 3 ws)) ws p q) in
          rw (at_ones f rule ks js ws 0 (lit< tt), at_ones f rule ks js ws 1 (lit< tt), at_ones f rule ks js ws 2 (lit< tt), c, e, g, super_read _ d.1.1.0, funs_read (take (at ws 3) (drop 4 ws)) d.1.1.1.1, funs_read (drop (4 + at ws 3) ws) d.1.1.1.2.1) refl

      stmt_lines : Each (Line (stmt_by f)) 0x10 (drop 0x10 grammar) stmt_readers
      unfolding grammar items_of naming_of expr_by nameless nameless_kinds
      stmt_lines =
          (λ ws d. rw (stay 0x10 ws refl) (ap (expression i) (s.expr _ d.0)))
          & let_line
          & (λ ws d. rw (stay 0x12 ws refl) (ap (block i) (stmts_read ws d.1)))
          & (λ ws d. rw (stay 0x13 ws refl) (ap₂ (while i (at ws 0)) (s.expr _ d.1.0) (s.stmt _ d.1.1.0)))
          & (λ ws d. rw (stay 0x14 ws refl) (rw (init_read _ d.1.0, s.expr _ d.1.1.0, s.expr _ d.1.1.1.0, s.stmt _ d.1.1.1.1.0) refl))
          & for_in_line
          & (λ ws d. rw (stay 0x16 ws refl) refl)
          & (λ ws d. rw (stay 0x17 ws refl) refl)
          & return_line
          & if_line
          & (λ ws d. refl)
          & try_line
          & (λ ws d. ap define (fun_line ws d))
          & class_line
          & tt

  -- ---- fuel

  module _ (wide : Bool) (same_width_lem : wide ≡ wide_marks fs) (z : Payloads fs) (good : (j : ℕ) → j < length fs → shape_at fs j ≡ true) where
    abbrev gs : List Field
    gs = map (renamed_field f wide) fs

    -- node c, read with fuel n
    record Same (n c : ℕ) : Type 0 where
      expr : tag_of fs c ≤ 0x09 → (readers gs n).expr c ≡ expr_by f ((readers fs n).expr c)
      stmt : 0x10 ≤ tag_of fs c → tag_of fs c ≤ 0x1D → (readers gs n).stmt c ≡ stmt_by f ((readers fs n).stmt c)
      fun : tag_of fs c ≡ 0x1C → (readers gs n).fun c ≡ fun_by f ((readers fs n).fun c)
      variable : tag_of fs c ≡ 0x04 → (readers gs n).variable c ≡ super_by f ((readers fs n).variable c)
      elif : tag_of fs c ≡ 0x1A → (es : Elifs) → (readers gs n).elif c (elifs_by f es) ≡ elifs_by f ((readers fs n).elif c es)

    reading : (i n : ℕ) → ((c : ℕ) → c < i → Same n c) → Reads i (readers fs n) (readers gs n)
    reading i n below = record {
      expr = λ c e. let h = is_expr fs i c e in (below c h.below).expr h.high;
      stmt = λ c e. let h = is_stmt fs i c e in (below c h.below).stmt h.low h.high;
      init = λ c e k. let h = is_init fs i c e k in (below c h.below).stmt h.low h.high;
      fun = λ c e. let h = is_method fs i c e in (below c h.below).fun h.tag;
      variable = λ c e k. let h = is_super fs i c e k in (below c h.below).variable h.tag;
      elif = λ c e es. let h = is_elif fs i c e in (below c h.below).elif h.tag es;
    }

    module _ (i : ℕ) (l : i < length fs) (r r' : Readers) (s : Reads i r r') where
      words_by : words_at gs i ≡ changed f (naming_of (tag_of fs i)) (words_at fs i)
      words_by = words_changed f rule fs wide same_width_lem z i (shape_tag fs i (good i l))

      expr_same : tag_of fs i ≤ 0x09 → read_expr r' i (tag_of gs i) (words_at gs i) ≡ expr_by f (read_expr r i (tag_of fs i) (words_at fs i))
      unfolding items_of
      expr_same h =
          rw (tag_same f rule fs wide same_width_lem i, words_by)
          (rw zero-add at (each_at (Line i r r' s (expr_by f)) 0x00 grammar expr_readers (expr_lines i r r' s) (λ r i ws. no_expression) (tag_of fs i) (omega arith)) (words_at fs i) (due_at fs i (good i l)))

      stmt_same : 0x10 ≤ tag_of fs i → tag_of fs i ≤ 0x1D → read_stmt r' i (tag_of gs i) (words_at gs i) ≡ stmt_by f (read_stmt r i (tag_of fs i) (words_at fs i))
      unfolding items_of
      stmt_same a b =
          let n : 0x10 + (tag_of fs i - 0x10) ≡ tag_of fs i = omega arith in
          rw (tag_same f rule fs wide same_width_lem i, words_by)
          (rw n at (each_at (Line i r r' s (stmt_by f)) 0x10 (drop 0x10 grammar) stmt_readers (stmt_lines i r r' s) (λ r i ws. no_statement) (tag_of fs i - 0x10) (omega arith)) (words_at fs i)
          (rw (get_or-drop 0x10 grammar (tag_of fs i - 0x10) never, n) (due_at fs i (good i l))))

      fun_same : tag_of fs i ≡ 0x1C → read_fun r' i (words_at gs i) ≡ fun_by f (read_fun r i (words_at fs i))
      fun_same e = rw (words_by, e) (fun_line i r r' s (words_at fs i) (rw e at (due_at fs i (good i l))))

      variable_same : tag_of fs i ≡ 0x04 → super i (token (word_of gs i 0) (word_of gs i 1)) ≡ super_by f (super i (token (word_of fs i 0) (word_of fs i 1)))
      unfolding naming_of items_of grammar
      variable_same e = rw (words_by, e, at_ones f rule (name ∷ mark ∷ []) [] (words_at fs i) 0 (lit< tt), at_ones f rule (name ∷ mark ∷ []) [] (words_at fs i) 1 (lit< tt)) refl

      elif_same : tag_of fs i ≡ 0x1A → (es : Elifs) → and_elif (r'.expr (word_of gs i 0)) (stmts r' (drop 1 (words_at gs i))) (elifs_by f es) ≡ elifs_by f (and_elif (r.expr (word_of fs i 0)) (stmts r (drop 1 (words_at fs i))) es)
      unfolding naming_of items_of grammar nameless nameless_kinds expr_by
      elif_same e es =
          let d = rw e at (due_at fs i (good i l)) in
          let q : words_at gs i ≡ words_at fs i = words_by ∙ (rw e (nameless_same f (naming_of 0x1A) (words_at fs i) refl)) in
          rw (q, s.expr _ d.0, stmts_read i r r' s (drop 1 (words_at fs i)) d.1.1) refl

    fuel : (n i : ℕ) → i < length fs → i < n → Same n i
    unfolding readers
    fuel zero i l p = absurd (omega arith)
    fuel (suc n) i l p =
        let s = reading i n (λ c h. fuel n c (omega arith) (omega arith)) in
        record {
          expr = expr_same i l (readers fs n) (readers gs n) s;
          stmt = stmt_same i l (readers fs n) (readers gs n) s;
          fun = fun_same i l (readers fs n) (readers gs n) s;
          variable = variable_same i l (readers fs n) (readers gs n) s;
          elif = elif_same i l (readers fs n) (readers gs n) s;
        }

    no_text : (c : Bool) → eqb (tag_of fs (length fs - 1)) 0x02 ≡ c → items_of (tag_of fs (length fs - 1)) ≡ items_of 0x1E → nameless f (cond c (one name ∷ []) (items_of (tag_of fs (length fs - 1)))) ≡ true
    unfolding items_of grammar nameless nameless_kinds ends
    no_text true e q = absurd (false_true (ap ends (sym (ap items_of (eqb-true (tag_of fs (length fs - 1)) 0x02 e)) ∙ q)))
    no_text false e q = rw q refl

    pub program_read : 1 ≤ length fs → read_program gs ≡ stmts_by f (read_program fs)
    unfolding read_program naming_of items_of grammar
    program_read some =
        let last = length fs - 1 in
        let e = last_items fs good some in
        let s = reading last last (λ c h. fuel last c (omega arith) h) in
        let d = rw e at (due_at fs last (good last (omega arith))) in
        let w : words_at gs last ≡ words_at fs last =
        words_changed f rule fs wide same_width_lem z last (shape_tag fs last (good last (omega arith))) ∙ nameless_same f (naming_of (tag_of fs last)) (words_at fs last) (no_text (eqb (tag_of fs last) 0x02) refl e) in
        rw (length-map fs (renamed_field f wide), w) (stmts_read last (readers fs last) (readers gs last) s (words_at fs last) d.1)
