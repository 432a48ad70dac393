-- The unfolding law: on a tree of the right shape, the syntax tree at a node is built from the syntax trees at its children.
--     expr-unfolds, stmt-unfolds, ..     expr-at fs i ≡ read-expr (readers-at fs) i (its tag) (its words), and so on
--     program-unfolds                    the program is the row of statements that the last node names
-- A reader asks only for children, which stand below their node (`locals`: a line for each tag). So fuel beyond a node's number makes no
-- difference (`fuel`, by induction), and each child may be read with its own fuel.
use mathlib.Core.Path.{◌≡◌, refl, ap, ap₂, ◌∙◌}
use mathlib.Core.Bool.{Bool, true, false, not, ◌&&◌, ◌||◌, cond}
use mathlib.Core.Logic.{⊎_elim}
use mathlib.Core.List.{List, [], ◌∷◌}
use Prim.Native.Nat.{ℕ, zero, suc, ◌+◌, ◌-◌, ◌*◌, ◌<◌, ◌≤◌}
use native.Mathlib.Nat.{add-zero, add-suc, suc-add}
use native.Mathlib.Numerals.{add-one}
use native.Mathlib.Omega.{arith}
use lib.ListN.{length, get_or, take, drop, get_or-map}
use lib.Seq.{get_or-drop}
use lib.Dec.{eqb, leb, ltb}
use borrow.Author.Tests.{eq-eqb, eqb-true, ltb-true, leb-true, eqb-false, not-true}
use Rattle.meaning.specs.Fields.{Field, field_at, no_field}
use Rattle.meaning.specs.Grammar.{super as superkind}
use Rattle.meaning.specs.Grammar.{Item, never, name, op, op12, expr, stmt, elif, method, init, bounds, bound, inside, absent, names, lawful, grammar, items_of, items_in, items_for, fits, wide_marks, tags_of, shape_at}
use Rattle.meaning.specs.Syntax.{Expr, unary, binary, logical, call, function, and_expr, Stmt, expression, block, while, for_in, try, define, no_stmt, and_stmt, Elifs, and_elif, Fun, fun, and_fun, no_super, super}
use Rattle.meaning.specs.Read.{Readers, Reader, at, token, tokens, readers, read_program, words_at, exprs, stmts, funs, elifs, initializer, superclass, no_expression, no_statement, expr_readers, stmt_readers, read_expr, read_stmt, read_fun, read_if}
use Rattle.meaning.specs.At.{tag_of, word_of, expr_at, stmt_at, fun_at, variable_at, elif_at, readers_at, ExprBelow, StmtBelow, TagBelow}
use Rattle.meaning.proofs.Lists.{and_left, and_right}
use Rattle.meaning.proofs.Kids.{none_fits}
use Rattle.meaning.proofs.Payload.{Row, Due, due_at}

-- ---- a lawful word

-- within the bounds of a kind
pub record Inside (kind v : ℕ) : Type 0 where
  pub low : bound kind 0 ≤ v
  pub high : v ≤ bound kind 1
  pub other : v ≡ bound kind 2 → ⊥

inside_true : (kind v : ℕ) → inside kind v ≡ true → Inside kind v
unfolding inside
inside_true kind v e =
    let a = and_left (leb (bound kind 0) v && leb v (bound kind 1)) _ e in
    record {
      low = leb-true _ _ (and_left (leb (bound kind 0) v) _ a);
      high = leb-true _ _ (and_right (leb (bound kind 0) v) _ a);
      other = eqb-false _ _ (not-true _ (and_right (leb (bound kind 0) v && leb v (bound kind 1)) _ e));
    }

module _ (fs : List Field) (i : ℕ) where
  -- a child: below its node, and its tag within the bounds
  child : (kind c : ℕ) → names kind c ≡ true → lawful (tags_of fs) i kind c ≡ true → (c < i) × Inside kind (tag_of fs c)
  unfolding lawful
  child kind c n e =
      let a = rw n at e in
      (ltb-true c i (and_left (ltb c i) _ a), inside_true kind (tag_of fs c) (rw (get_or-map (λ (f : Field). f.tag) fs c no_field) at (and_right (ltb c i) _ a)))

  pub is_name : (w : ℕ) → lawful (tags_of fs) i name w ≡ true → w < 65535
  unfolding lawful names bound bounds
  is_name w e = let h = inside_true name w e in omega (arith, h.high, h.other)

  pub is_op : (w : ℕ) → lawful (tags_of fs) i op w ≡ true → (1 ≤ w) × (w ≤ 2)
  unfolding lawful names bound bounds
  is_op w e = let h = inside_true op w e in (h.low, h.high)

  pub is_op12 : (w : ℕ) → lawful (tags_of fs) i op12 w ≡ true → (1 ≤ w) × (w ≤ 12)
  unfolding lawful names bound bounds
  is_op12 w e = let h = inside_true op12 w e in (h.low, h.high)

  pub is_expr : (c : ℕ) → lawful (tags_of fs) i expr c ≡ true → ExprBelow fs i c
  unfolding names bound bounds
  is_expr c e = let h = child expr c refl e in record { below = h.0; low = h.1.low; high = h.1.high }

  pub is_stmt : (c : ℕ) → lawful (tags_of fs) i stmt c ≡ true → StmtBelow fs i c
  unfolding names bound bounds
  is_stmt c e = let h = child stmt c refl e in record { below = h.0; low = h.1.low; high = h.1.high; no_elif = h.1.other }

  pub is_elif : (c : ℕ) → lawful (tags_of fs) i elif c ≡ true → TagBelow fs 0x1A i c
  unfolding names bound bounds
  is_elif c e = let h = child elif c refl e in record { below = h.0; tag = omega (arith, h.1.low, h.1.high) }

  pub is_method : (c : ℕ) → lawful (tags_of fs) i method c ≡ true → TagBelow fs 0x1C i c
  unfolding names bound bounds
  is_method c e = let h = child method c refl e in record { below = h.0; tag = omega (arith, h.1.low, h.1.high) }

  -- these two may be absent
  pub is_super : (c : ℕ) → lawful (tags_of fs) i superkind c ≡ true → absent c ≡ false → TagBelow fs 0x04 i c
  unfolding names bound bounds
  is_super c e n = let h = child superkind c (ap not n) e in record { below = h.0; tag = omega (arith, h.1.low, h.1.high) }

  pub is_init : (c : ℕ) → lawful (tags_of fs) i init c ≡ true → absent c ≡ false → StmtBelow fs i c
  unfolding names bound bounds
  is_init c e n = let h = child init c (ap not n) e in record { below = h.0; low = h.1.low; high = omega (arith, h.1.high); no_elif = λ q. omega (arith, h.1.high) }

-- ---- a line for each tag

-- one line, and the lines after it
infixr 5 ◌&◌
abbrev pub ◌&◌ : {X Y : Type 0} → X → Y → X × Y
x & y = (x, y)

module _ {A : Type 0} (P : (tag : ℕ) → List Item → Reader A → Type 0) where
  -- P of each tag's items and reader, from a tag on
  abbrev pub Each : (tag : ℕ) → List (List Item) → List (Reader A) → Type 0
  Each t gs [] = Unit {0}
  Each t [] (f ∷ fs) = ⊥
  Each t (g ∷ gs) (f ∷ fs) = P t g f × Each (t + 1) gs fs

  pub each_at : (t : ℕ) (gs : List (List Item)) (fs : List (Reader A)) → Each t gs fs → (d : Reader A) (n : ℕ) → n < length fs → P (t + n) (get_or gs n never) (get_or fs n d)
  each_at t gs [] e d n h = absurd (omega arith)
  each_at t [] (f ∷ fs) e d n h = absurd e
  each_at t (g ∷ gs) (f ∷ fs) e d zero h = rw add-zero e.0
  each_at t (g ∷ gs) (f ∷ fs) e d (suc n) h = rw (add-suc, ← suc-add, ← add-one) (each_at (t + 1) gs fs e.1 d n (omega arith))

-- ---- what a reader asks for

-- two readers that agree on the lawful children of node i
record Same (ts : List ℕ) (i : ℕ) (r r' : Readers) : Type 0 where
  expr : (c : ℕ) → lawful ts i expr c ≡ true → r.expr c ≡ r'.expr c
  stmt : (c : ℕ) → lawful ts i stmt c ≡ true → r.stmt c ≡ r'.stmt c
  init : (c : ℕ) → lawful ts i init c ≡ true → absent c ≡ false → r.stmt c ≡ r'.stmt c
  fun : (c : ℕ) → lawful ts i method c ≡ true → r.fun c ≡ r'.fun c
  variable : (c : ℕ) → lawful ts i superkind c ≡ true → absent c ≡ false → r.variable c ≡ r'.variable c
  elif : (c : ℕ) → lawful ts i elif c ≡ true → (es : Elifs) → r.elif c es ≡ r'.elif c es

module _ (ts : List ℕ) (i : ℕ) (r r' : Readers) (s : Same ts i r r') where
  exprs_same : (cs : List ℕ) → Row (lawful ts i) (expr ∷ []) [] cs → exprs r cs ≡ exprs r' cs
  exprs_same [] d = refl
  exprs_same (c ∷ cs) d = ap₂ and_expr (s.expr c d.0) (exprs_same cs d.1)

  stmts_same : (cs : List ℕ) → Row (lawful ts i) (stmt ∷ []) [] cs → stmts r cs ≡ stmts r' cs
  stmts_same [] d = refl
  stmts_same (c ∷ cs) d = ap₂ and_stmt (s.stmt c d.0) (stmts_same cs d.1)

  funs_same : (cs : List ℕ) → Row (lawful ts i) (method ∷ []) [] cs → funs r cs ≡ funs r' cs
  funs_same [] d = refl
  funs_same (c ∷ cs) d = ap₂ and_fun (s.fun c d.0) (funs_same cs d.1)

  elifs_same : (cs : List ℕ) → Row (lawful ts i) (elif ∷ []) [] cs → elifs r cs ≡ elifs r' cs
  elifs_same [] d = refl
  elifs_same (c ∷ cs) d = s.elif c d.0 (elifs r cs) ∙ ap (r'.elif c) (elifs_same cs d.1)

  init_same : (c : ℕ) → lawful ts i init c ≡ true → initializer r c ≡ initializer r' c
  init_same c e = go (absent c) refl
    where
      go : (b : Bool) → absent c ≡ b → cond b no_stmt (and_stmt (r.stmt c) no_stmt) ≡ cond b no_stmt (and_stmt (r'.stmt c) no_stmt)
      go true n = refl
      go false n = ap (λ (x : Stmt). and_stmt x no_stmt) (s.init c e n)

  super_same : (c : ℕ) → lawful ts i superkind c ≡ true → superclass r c ≡ superclass r' c
  super_same c e = go (absent c) refl
    where
      go : (b : Bool) → absent c ≡ b → cond b no_super (r.variable c) ≡ cond b no_super (r'.variable c)
      go true n = refl
      go false n = s.variable c e n

  -- on words that are due, a reader gives the same
  abbrev Local : (A : Type 0) → (tag : ℕ) → List Item → Reader A → Type 0
  Local A tag is read = (ws : List ℕ) → Due (lawful ts i) ws is 0 → read r i ws ≡ read r' i ws

  -- tags 00 to 09, 1C, 19, and 10 to 1D
  expr_locals : Each (Local Expr) 0x00 grammar expr_readers
  unfolding grammar
  expr_locals =
      (λ ws d. refl)
      & (λ ws d. refl)
      & (λ ws d. refl)
      & (λ ws d. refl)
      & (λ ws d. refl)
      & (λ ws d. ap (unary i (at ws 0) (at ws 1)) (s.expr _ d.1.1.0))
      & (λ ws d. ap₂ (binary i (at ws 0) (at ws 1)) (s.expr _ d.1.1.0) (s.expr _ d.1.1.1.0))
      & (λ ws d. ap₂ (logical i (at ws 0) (at ws 1)) (s.expr _ d.1.1.0) (s.expr _ d.1.1.1.0))
      & (λ ws d. ap₂ (λ f xs. call i f (at ws 1) xs) (s.expr _ d.0) (exprs_same (drop 2 ws) d.1.1.1))
      & (λ ws d. ap (function i (tokens (take (2 * at ws 0) (drop 1 ws)))) (stmts_same (drop (1 + 2 * at ws 0) ws) d.2.1))
      & tt

  fun_local : Local Fun 0x1C (items_of 0x1C) read_fun
  unfolding items_of grammar
  fun_local ws d = ap (fun i (token (at ws 0) (at ws 1)) (tokens (take (2 * at ws 2) (drop 3 ws)))) (stmts_same (drop (3 + 2 * at ws 2) ws) d.1.1.2.1)

  if_local : Local Stmt 0x19 (items_of 0x19) (λ r i ws. read_if (at ws 2) (at ws (3 + at ws 2)) r i ws)
  unfolding items_of grammar
  if_local ws d =
      let t = at ws 2 in
      let e = at ws (3 + t) in
      let n : 3 + t + 1 ≡ 4 + t = omega arith in
      rw (s.expr _ d.1.0, stmts_same (take t (drop 3 ws)) d.1.1.1, elifs_same (take e (drop (4 + t) ws)) (rw n at d.1.1.2.1), stmts_same (drop (4 + t + e) ws) (rw n at d.1.1.2.2.1))

  stmt_locals : Each (Local Stmt) 0x10 (drop 0x10 grammar) stmt_readers
  unfolding grammar items_of
  stmt_locals =
      (λ ws d. ap (expression i) (s.expr _ d.0))
      & (λ ws d. ⊎_elim (λ q. rw (eq-eqb (length ws) 2 q)) (λ q. rw (s.expr _ q.0)) d.1.1)
      & (λ ws d. ap (block i) (stmts_same ws d.1))
      & (λ ws d. ap₂ (while i (at ws 0)) (s.expr _ d.1.0) (s.stmt _ d.1.1.0))
      & (λ ws d. rw (init_same _ d.1.0, s.expr _ d.1.1.0, s.expr _ d.1.1.1.0, s.stmt _ d.1.1.1.1.0))
      & (λ ws d. ap₂ (λ e b. for_in i (at ws 0) e b (tokens (drop 3 ws))) (s.expr _ d.1.0) (s.stmt _ d.1.1.0))
      & (λ ws d. refl)
      & (λ ws d. refl)
      & (λ ws d. ⊎_elim (λ q. rw (eq-eqb (length ws) 1 q)) (λ q. rw (s.expr _ q.0)) d.1)
      & if_local
      & (λ ws d. refl)
      & (λ ws d. ap₂ (λ a b. try i a (token (at ws 1) (at ws 2)) b) (s.stmt _ d.0) (s.stmt _ d.1.1.1.0))
      & (λ ws d. ap define (fun_local ws d))
      & (λ ws d. rw (super_same _ d.1.1.0, funs_same (take (at ws 3) (drop 4 ws)) d.1.1.1.1, funs_same (drop (4 + at ws 3) ws) d.1.1.1.2.1))
      & tt

-- ---- fuel

module _ (fs : List Field) (good : (j : ℕ) → j < length fs → shape_at fs j ≡ true) where
  -- node c read with fuel f, and with fuel g
  record Agree (f g c : ℕ) : Type 0 where
    expr : tag_of fs c ≤ 0x09 → (readers fs f).expr c ≡ (readers fs g).expr c
    stmt : 0x10 ≤ tag_of fs c → tag_of fs c ≤ 0x1D → (readers fs f).stmt c ≡ (readers fs g).stmt c
    fun : tag_of fs c ≡ 0x1C → (readers fs f).fun c ≡ (readers fs g).fun c
    variable : (readers fs f).variable c ≡ (readers fs g).variable c
    elif : tag_of fs c ≡ 0x1A → (es : Elifs) → (readers fs f).elif c es ≡ (readers fs g).elif c es

  -- each child read with fuel f, and with fuel of its own
  abbrev by : (ℕ → ℕ) → Readers
  by g = record {
    expr = λ c. (readers fs (g c)).expr c;
    stmt = λ c. (readers fs (g c)).stmt c;
    fun = λ c. (readers fs (g c)).fun c;
    variable = λ c. (readers fs (g c)).variable c;
    elif = λ c. (readers fs (g c)).elif c;
  }

  same : (i f : ℕ) (g : ℕ → ℕ) → ((c : ℕ) → c < i → Agree f (g c) c) → Same (tags_of fs) i (readers fs f) (by g)
  same i f g below = record {
    expr = λ c e. let h = is_expr fs i c e in (below c h.below).expr h.high;
    stmt = λ c e. let h = is_stmt fs i c e in (below c h.below).stmt h.low h.high;
    init = λ c e n. let h = is_init fs i c e n in (below c h.below).stmt h.low h.high;
    fun = λ c e. let h = is_method fs i c e in (below c h.below).fun h.tag;
    variable = λ c e n. let h = is_super fs i c e n in (below c h.below).variable;
    elif = λ c e es. let h = is_elif fs i c e in (below c h.below).elif h.tag es;
  }

  module _ (i : ℕ) (l : i < length fs) (r r' : Readers) (s : Same (tags_of fs) i r r') where
    expr_same : tag_of fs i ≤ 0x09 → read_expr r i (tag_of fs i) (words_at fs i) ≡ read_expr r' i (tag_of fs i) (words_at fs i)
    unfolding items_of
    expr_same h =
        each_at (Local (tags_of fs) i r r' s Expr) 0x00 grammar expr_readers (expr_locals (tags_of fs) i r r' s) (λ r i ws. no_expression) (tag_of fs i) (omega arith) (words_at fs i) (due_at fs i (good i l))

    stmt_same : 0x10 ≤ tag_of fs i → tag_of fs i ≤ 0x1D → read_stmt r i (tag_of fs i) (words_at fs i) ≡ read_stmt r' i (tag_of fs i) (words_at fs i)
    unfolding items_of
    stmt_same a b =
        let n : 0x10 + (tag_of fs i - 0x10) ≡ tag_of fs i = omega arith in
        each_at (Local (tags_of fs) i r r' s Stmt) 0x10 (drop 0x10 grammar) stmt_readers (stmt_locals (tags_of fs) i r r' s) (λ r i ws. no_statement) (tag_of fs i - 0x10) (omega arith) (words_at fs i)
        (rw (get_or-drop 0x10 grammar (tag_of fs i - 0x10) never, n) (due_at fs i (good i l)))

    fun_same : tag_of fs i ≡ 0x1C → read_fun r i (words_at fs i) ≡ read_fun r' i (words_at fs i)
    fun_same e = fun_local (tags_of fs) i r r' s (words_at fs i) (rw e at (due_at fs i (good i l)))

    elif_same : tag_of fs i ≡ 0x1A → (es : Elifs) → and_elif (r.expr (word_of fs i 0)) (stmts r (drop 1 (words_at fs i))) es ≡ and_elif (r'.expr (word_of fs i 0)) (stmts r' (drop 1 (words_at fs i))) es
    unfolding items_of grammar
    elif_same e es =
        let d = rw e at (due_at fs i (good i l)) in
        rw (s.expr _ d.0, stmts_same (tags_of fs) i r r' s (drop 1 (words_at fs i)) d.1.1)

  -- fuel beyond a node's number makes no difference
  fuel : (f g i : ℕ) → i < length fs → i < f → i < g → Agree f g i
  unfolding readers
  fuel zero g i l p q = absurd (omega arith)
  fuel (suc f) zero i l p q = absurd (omega arith)
  fuel (suc f) (suc g) i l p q =
      let s = same i f (λ c. g) (λ c h. fuel f g c (omega arith) (omega arith) (omega arith)) in
      record {
        expr = expr_same i l (readers fs f) (readers fs g) s;
        stmt = stmt_same i l (readers fs f) (readers fs g) s;
        fun = fun_same i l (readers fs f) (readers fs g) s;
        variable = refl;
        elif = elif_same i l (readers fs f) (readers fs g) s;
      }

  -- ---- the law

  module _ (i : ℕ) (l : i < length fs) where
    own : Same (tags_of fs) i (readers fs i) (readers_at fs)
    unfolding expr_at stmt_at fun_at variable_at elif_at
    own = same i i suc (λ c h. fuel i (suc c) c (omega arith) h (omega arith))

    pub expr_unfolds : tag_of fs i ≤ 0x09 → expr_at fs i ≡ read_expr (readers_at fs) i (tag_of fs i) (words_at fs i)
    unfolding expr_at readers
    expr_unfolds = expr_same i l (readers fs i) (readers_at fs) own

    pub stmt_unfolds : 0x10 ≤ tag_of fs i → tag_of fs i ≤ 0x1D → stmt_at fs i ≡ read_stmt (readers_at fs) i (tag_of fs i) (words_at fs i)
    unfolding stmt_at readers
    stmt_unfolds = stmt_same i l (readers fs i) (readers_at fs) own

    pub fun_unfolds : tag_of fs i ≡ 0x1C → fun_at fs i ≡ read_fun (readers_at fs) i (words_at fs i)
    unfolding fun_at readers
    fun_unfolds = fun_same i l (readers fs i) (readers_at fs) own

    pub elif_unfolds : tag_of fs i ≡ 0x1A → (es : Elifs) → elif_at fs i es ≡ and_elif (expr_at fs (word_of fs i 0)) (stmts (readers_at fs) (drop 1 (words_at fs i))) es
    unfolding elif_at readers
    elif_unfolds = elif_same i l (readers fs i) (readers_at fs) own

    pub variable_unfolds : variable_at fs i ≡ super i (token (word_of fs i 0) (word_of fs i 1))
    unfolding variable_at readers
    variable_unfolds = refl

  -- the last node is a program, of either tag
  pub last_items : 1 ≤ length fs → items_of (tag_of fs (length fs - 1)) ≡ items_of 0x1E
  unfolding shape_at items_for items_of grammar
  last_items some =
      let last = length fs - 1 in
      go (eqb (tag_of fs last) 0x1E) refl (eqb (tag_of fs last) 0x3E) refl (rw (eq-eqb (last + 1) (length fs) (omega arith)) at (good last (omega arith)))
    where
      go : (a : Bool) → eqb (tag_of fs (length fs - 1)) 0x1E ≡ a → (b : Bool) → eqb (tag_of fs (length fs - 1)) 0x3E ≡ b
          → fits (lawful (tags_of fs) (length fs - 1)) (cond (a || b) (items_in (wide_marks fs) (tag_of fs (length fs - 1))) never) (field_at fs (length fs - 1)).payload ≡ true
          → items_of (tag_of fs (length fs - 1)) ≡ items_of 0x1E
      go true e b f h = ap items_of (eqb-true (tag_of fs (length fs - 1)) 0x1E e)
      go false e true f h = ap items_of (eqb-true (tag_of fs (length fs - 1)) 0x3E f)
      go false e false f h = absurd (none_fits (tags_of fs) (length fs - 1) (field_at fs (length fs - 1)).payload h)

  pub program_unfolds : 1 ≤ length fs → read_program fs ≡ stmts (readers_at fs) (words_at fs (length fs - 1))
  unfolding read_program items_of grammar
  program_unfolds some =
      let last = length fs - 1 in
      let d = rw (last_items some) at (due_at fs last (good last (omega arith))) in
      stmts_same (tags_of fs) last (readers fs last) (readers_at fs) (own last (omega arith)) (words_at fs last) d.1
