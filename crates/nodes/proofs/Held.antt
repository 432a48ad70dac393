-- What stands in the payload q of a node of each kind, as its reader goes by: `Held` of the first words, by where the mark stands, `Rest` of those behind it.
-- Each is a law of meaning/proofs/Places at the kind's items; there is no induction here.
use mathlib.Core.Path.{◌≡◌, refl, sym, ap, ap₂, ◌∙◌}
use mathlib.Core.Bool.{Bool, true, false, not, cond}
use mathlib.Core.List.{List, ◌∷◌}
use mathlib.Core.Logic.{⊎_elim}
use Prim.Native.Nat.{ℕ, ◌+◌, ◌-◌, ◌*◌, ◌/◌, ◌<◌, ◌≤◌}
use native.Mathlib.Omega.{arith}
use native.Mathlib.Decide.{ℕ_discrete}
use Rattle.std.specs.Prelude.{Some}
use lib.ListN.{length}
use lib.Dec.{eqb, lit<, lit≤}
use borrow.Author.Tests.{lt-ltb, le-ltb}
use Rattle.meaning.specs.declared.Token.{Token}
use Rattle.meaning.specs.Fields.{Field, field_at, fields, words}
use Rattle.meaning.specs.Grammar.{Item, one, mark, grammar, items_of, wide_marks, shape_at}
use Rattle.meaning.specs.Read.{at, words_at, token}
use Rattle.meaning.specs.At.{tag_of, word_of, count_of, file_words, mark_at, extra, tokens_at, pairs_in, pair_place, Behind, Heads}
use Rattle.meaning.proofs.Reading.{variable_node, unary_node, binary_node, logical_node, call_node, function_node, expression_node, let_node, while_node, for_node, for_in_node, break_node, continue_node, return_node, if_node, elif_node, try_node, define_node, class_node}
use Rattle.meaning.proofs.Places.{none_of, unmarked, heads_none, heads_0, heads_1, heads_2, function_places, define_places, for_in_places}
use Rattle.meaning.proofs.Lists.{lt_or_le}
use Rattle.nodes.specs.Nodes.{Node, Width, binary_in, binary_of, word_or_absent}

-- the first words, of which word m is the mark, and of which there are c at least
pub record Held (fs : List Field) (i : ℕ) (q : List ℕ) (wide m c : ℕ) : Type 0 where
  pub many : c + wide ≤ length (words q)
  pub before : (k : ℕ) → k < m → k ≤ 3 → at (words q) k ≡ word_of fs i k
  pub mark : m ≤ 3 → mark_at (not (eqb wide 0)) (words q) m ≡ word_of fs i m
  pub after : (k : ℕ) → m < k → k ≤ 3 → at (words q) (k + wide) ≡ word_of fs i k

-- the words from k on, to the end
pub record Rest (fs : List Field) (i : ℕ) (q : List ℕ) (wide k : ℕ) : Type 0 where
  pub size : length (words q) ≡ count_of fs i + wide
  pub same : (j : ℕ) → k ≤ j → at (words q) (j + wide) ≡ word_of fs i j

pub wide_is : (b : Bool) → not (eqb (extra b) 0) ≡ b
wide_is true = refl
wide_is false = refl

pub few_wide : (b : Bool) {wide : ℕ} → wide ≡ extra b → wide ≤ 1
few_wide true e = omega arith
few_wide false e = omega arith

held : (fs : List Field) (i m c : ℕ) → Heads fs i m → c + extra (wide_marks fs) ≤ length (file_words fs i) → {wide : ℕ} {q : List ℕ} → wide ≡ extra (wide_marks fs) → q ≡ (field_at fs i).payload → Held fs i q wide m c
held fs i m c s n e p = rw (p, e)
    (record {
      many = n;
      before = λ k a b. sym (s.before k a b);
      mark = λ a. ap (λ b. mark_at b (file_words fs i) m) (wide_is (wide_marks fs)) ∙ sym (s.mark a);
      after = λ k a b. sym (s.after k a b);
    })

rest : (fs : List Field) (i k d : ℕ) → Behind fs i k d → {wide : ℕ} {q : List ℕ} → wide ≡ d → q ≡ (field_at fs i).payload → Rest fs i q wide k
rest fs i k d b e p = rw (p, e) (record { size = b.size; same = λ j l. sym (b.same j l) })

-- a name with its mark behind it
pub token_held : {fs : List Field} {i : ℕ} {q : List ℕ} {wide c : ℕ} (k : ℕ) → k ≤ 2 → Held fs i q wide (k + 1) c → {x : Token} → x ≡ token (at (words q) k) (mark_at (not (eqb wide 0)) (words q) (k + 1)) → x ≡ token (word_of fs i k) (word_of fs i (k + 1))
token_held k l h e = e ∙ ap₂ token (h.before k (omega arith) (omega arith)) (h.mark (omega arith))

-- the words of a binary or a logical
pub operands_held : {fs : List Field} {i : ℕ} {q : List ℕ} {wide : ℕ} → Held fs i q wide 1 4 → binary_in (not (eqb wide 0)) (words q) wide ≡ binary_of fs i
operands_held h = rw (h.before 0 (lit< tt) (lit≤ tt), h.mark (lit≤ tt), h.after 2 (lit< tt) (lit≤ tt), h.after 3 (lit< tt) (lit≤ tt)) refl

-- a word that may be absent, behind the mark
pub perhaps_held : {fs : List Field} {i : ℕ} {q : List ℕ} {wide k : ℕ} → Rest fs i q wide k → (j : ℕ) → k ≤ j → word_or_absent (words q) (j + wide) ≡ word_or_absent (words_at fs i) j
perhaps_held {fs} {i} {q} {wide} r j l =
    ⊎_elim (λ (a : j < count_of fs i). rw (lt-ltb (j + wide) (length (words q)) (omega (arith, r.size)), lt-ltb j (count_of fs i) a) (ap Some (r.same j l)))
    (λ (a : count_of fs i ≤ j). rw (le-ltb (j + wide) (length (words q)) (omega (arith, r.size)), le-ltb j (count_of fs i) a) refl)
    (lt_or_le j (count_of fs i))

module _ {t w : List ℕ} {i : ℕ} (h : Node t w i) {q : List ℕ} (p : q ≡ (field_at (fields t) i).payload) where
  abbrev fs : List Field
  fs = fields t

  shape : shape_at fs i ≡ true
  shape = h.shapes i h.readable.known

  -- ---- no mark

  plain : (is : List Item) → items_of (tag_of fs i) ≡ is → unmarked is ≡ true → Rest fs i q 0 0
  plain is z u = rest fs i 0 0 (heads_none fs i shape is z u).1 refl p

  pub expr_stmt_held : tag_of fs i ≡ 0x10 → Rest fs i q 0 0 × (1 ≤ count_of fs i)
  unfolding items_of grammar unmarked none_of
  expr_stmt_held z = (plain _ (ap items_of z) refl, omega (arith, (expression_node fs h.shapes i h.readable.known z).size))

  pub elif_held : tag_of fs i ≡ 0x1A → Rest fs i q 0 0 × (1 ≤ count_of fs i)
  unfolding items_of grammar unmarked none_of
  elif_held z = (plain _ (ap items_of z) refl, (elif_node fs h.shapes i h.readable.known z).size)

  -- ---- one mark: the first word, the second, or the third

  module _ {wide : ℕ} (e : Width t wide) where
    abbrev First : ℕ → ℕ → Type 0
    First tag c = tag_of fs i ≡ tag → Held fs i q wide 0 c × Rest fs i q wide 1

    abbrev Second : ℕ → ℕ → Type 0
    Second tag c = tag_of fs i ≡ tag → Held fs i q wide 1 c × Rest fs i q wide 2

    first : (is : List Item) (c : ℕ) → items_of (tag_of fs i) ≡ one mark ∷ is → unmarked is ≡ true → c ≤ count_of fs i → Held fs i q wide 0 c × Rest fs i q wide 1
    first is c z u n = let s = heads_0 fs i shape is z u in (held fs i 0 c s.0 (omega (arith, s.1.size, n)) e p, rest fs i 1 _ s.1 e p)

    second : (kind : ℕ) (is : List Item) (c : ℕ) → items_of (tag_of fs i) ≡ one kind ∷ one mark ∷ is → eqb kind mark ≡ false → unmarked is ≡ true → c ≤ count_of fs i → Held fs i q wide 1 c × Rest fs i q wide 2
    second kind is c z m u n = let s = heads_1 fs i shape kind is z m u in (held fs i 1 c s.0 (omega (arith, s.1.size, n)) e p, rest fs i 2 _ s.1 e p)

    pub variable_held : Second 0x04 2
    unfolding items_of grammar unmarked none_of
    variable_held z = second _ _ 2 (ap items_of z) refl refl (omega (arith, (variable_node fs h.shapes i h.readable.known z).size))

    pub unary_held : Second 0x05 3
    unfolding items_of grammar unmarked none_of
    unary_held z = second _ _ 3 (ap items_of z) refl refl (omega (arith, (unary_node fs h.shapes i h.readable.known z).size))

    pub binary_held : Second 0x06 4
    unfolding items_of grammar unmarked none_of
    binary_held z = second _ _ 4 (ap items_of z) refl refl (omega (arith, (binary_node fs h.shapes i h.readable.known z).size))

    pub logical_held : Second 0x07 4
    unfolding items_of grammar unmarked none_of
    logical_held z = second _ _ 4 (ap items_of z) refl refl (omega (arith, (logical_node fs h.shapes i h.readable.known z).size))

    pub call_held : Second 0x08 2
    unfolding items_of grammar unmarked none_of
    call_held z = second _ _ 2 (ap items_of z) refl refl (call_node fs h.shapes i h.readable.known z).size

    pub let_held : Second 0x11 2
    unfolding items_of grammar unmarked none_of
    let_held z = second _ _ 2 (ap items_of z) refl refl (let_node fs h.shapes i h.readable.known z).size.0

    pub while_held : First 0x13 3
    unfolding items_of grammar unmarked none_of
    while_held z = first _ 3 (ap items_of z) refl (omega (arith, (while_node fs h.shapes i h.readable.known z).size))

    pub for_held : First 0x14 5
    unfolding items_of grammar unmarked none_of
    for_held z = first _ 5 (ap items_of z) refl (omega (arith, (for_node fs h.shapes i h.readable.known z).size))

    pub jump_held : 0x16 ≤ tag_of fs i → tag_of fs i ≤ 0x17 → Held fs i q wide 0 1 × Rest fs i q wide 1
    unfolding items_of grammar unmarked none_of
    jump_held a b = by (ℕ_discrete (tag_of fs i) 0x16)
      where
        by : Dec (tag_of fs i ≡ 0x16) → Held fs i q wide 0 1 × Rest fs i q wide 1
        by (yes z) = first _ 1 (ap items_of z) refl (omega (arith, (break_node fs h.shapes i h.readable.known z).size))
        by (no z) = let y : tag_of fs i ≡ 0x17 = omega arith in first _ 1 (ap items_of y) refl (omega (arith, (continue_node fs h.shapes i h.readable.known y).size))

    pub return_held : First 0x18 1
    unfolding items_of grammar unmarked none_of
    return_held z = first _ 1 (ap items_of z) refl (return_node fs h.shapes i h.readable.known z).size.0

    -- with the counts of its parts
    pub if_held : tag_of fs i ≡ 0x19 → Held fs i q wide 0 3 × Rest fs i q wide 1 × (4 + word_of fs i 2 + word_of fs i (3 + word_of fs i 2) ≤ count_of fs i)
    unfolding items_of grammar unmarked none_of
    if_held z =
        let n = (if_node fs h.shapes i h.readable.known z).size in
        let s = first _ 3 (ap items_of z) refl (omega (arith, n)) in
        (s.0, s.1, n)

    pub try_held : tag_of fs i ≡ 0x1B → Held fs i q wide 2 4
    unfolding items_of grammar
    try_held z =
        let s = heads_2 fs i shape _ _ _ (ap items_of z) refl refl refl in
        held fs i 2 4 s.0 (omega (arith, s.1.size, (try_node fs h.shapes i h.readable.known z).size)) e p

    pub class_held : Second 0x1D 4
    unfolding items_of grammar unmarked none_of
    class_held z = second _ _ 4 (ap items_of z) refl refl (omega (arith, (class_node fs h.shapes i h.readable.known z).size))

    -- ---- pairs of names and marks

    pub function_held : tag_of fs i ≡ 0x09
        → (at (words q) 0 ≡ word_of fs i 0) × (tokens_at fs i 1 (1 + 2 * word_of fs i 0) ≡ pairs_in (not (eqb wide 0)) (words q) 1 (word_of fs i 0)) × (1 + pair_place (not (eqb wide 0)) (word_of fs i 0) ≤ length (words q))
        × (length (words q) ≡ count_of fs i + cond (not (eqb wide 0)) (word_of fs i 0) 0)
    function_held z =
        let n = (function_node fs h.shapes i h.readable.known z).size in
        let s = function_places fs i shape (ap items_of z) n in
        rw (p, e, wide_is) (sym s.0, s.1, omega (arith, n, s.2.size), s.2.size)

    pub define_held : tag_of fs i ≡ 0x1C → Held fs i q wide 1 3 × (length (words q) ≡ count_of fs i + (wide + cond (not (eqb wide 0)) (word_of fs i 2) 0))
    define_held z =
        let n = (define_node fs h.shapes i h.readable.known z).size in
        let s = define_places fs i shape (ap items_of z) n in
        (held fs i 1 3 s.0 (omega (arith, n, s.2.size)) e p, rw (p, e, wide_is) s.2.size)

    pub for_in_held : tag_of fs i ≡ 0x15 → Held fs i q wide 0 3 × (cond (not (eqb wide 0)) ((length (words q) - 4) / 3) ((length (words q) - 3) / 2) ≡ (count_of fs i - 3) / 2) × ((count_of fs i - 3) / 2 ≤ length (words q))
    for_in_held z =
        let x = for_in_node fs h.shapes i h.readable.known z in
        let s = for_in_places fs i shape (ap items_of z) ((count_of fs i - 3) / 2) (omega (arith, x.size, x.odd)) (omega (arith, x.size)) in
        (held fs i 0 3 s.0 (omega (arith, s.2)) e p, rw (p, e, wide_is) (names (wide_marks fs) (length (file_words fs i)) ((count_of fs i - 3) / 2) s.2), rw p (omega (arith, s.2)))
      where
        names : (b : Bool) (len n : ℕ) → len ≡ 3 + extra b + (2 * n + cond b n 0) → cond b ((len - 4) / 3) ((len - 3) / 2) ≡ n
        names true len n s = omega arith
        names false len n s = omega arith
