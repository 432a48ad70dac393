-- What a node of a lawful tree holds, for the functions that read it. Reading (of meaning) has it, tag by tag.
use Prim.Native.Nat.{ℕ, zero, suc, ◌<◌, ◌≤◌}
use mathlib.Core.Path.{◌≡◌, refl, ap, ◌∙◌}
use mathlib.Core.Bool.{true}
use mathlib.Core.List.{List}
use mathlib.Core.Option.{none}
use Rattle.std.specs.Prelude.{None, Some}
use Rattle.nodes.specs.Nodes.{unless_absent}
use native.Mathlib.Omega.{arith}
use native.Mathlib.Decide.{ℕ_discrete}
use lib.ListN.{length}
use borrow.Author.Tests.{eq-eqb, ne_eqb}
use Rattle.meaning.specs.Fields.{Field, fields}
use Rattle.meaning.specs.Grammar.{items_of, grammar, wide_marks}
use Rattle.meaning.specs.Syntax.{literal, no_super, super, small_operand}
use Rattle.meaning.specs.Read.{Readers, token, read_expr, readers, words_at}
use Rattle.meaning.specs.At.{tag_of, word_of, file_words, expr_at, variable_at, super_at}
use Rattle.meaning.proofs.Reading.{number_node, text_node, other_node}
use Rattle.meaning.proofs.Places.{none_of, unmarked, rest, from_first}
use Rattle.values.specs.Literals.{constant_at}
use Rattle.store.specs.declared.Scope.{Scope}
use Rattle.store.specs.Store.{nodes_of, Kept}
use Rattle.std.specs.Prelude as given
use Rattle.store.specs.Search.{option_of, in_byte}
use Rattle.nodes.specs.Offsets.{Readable}
use Rattle.nodes.specs.Nodes.{Node}
use Rattle.nodes.proofs.Headers.{offsets_kept}
use Rattle.routines.specs.Node.{Lawful}

module _ {t w : List ℕ} {n i : ℕ} (h : Lawful t w n) (l : i < n) where
  abbrev fs : List Field
  fs = fields t

  pub inside : i < length fs
  inside = omega (arith, h.nodes)

  pub readable : Readable t w i
  readable = record { offsets = h.offsets; known = inside }

  pub node : Node t w i
  node = record { readable = readable; shapes = h.shapes }

  -- ---- no mark: a literal

  same_words : (tag : ℕ) → unmarked (items_of tag) ≡ true → tag_of fs i ≡ tag → words_at fs i ≡ file_words fs i
  same_words tag u e = rest (wide_marks fs) (words_at fs i) (file_words fs i) (items_of (tag_of fs i)) 0 0 (ap (λ k. unmarked (items_of k)) e ∙ u) (from_first fs i)

  pub literal_words : 0x01 ≤ tag_of fs i → tag_of fs i ≤ 0x03 → words_at fs i ≡ file_words fs i
  unfolding items_of grammar unmarked none_of
  literal_words a b = by (ℕ_discrete (tag_of fs i) 0x01) (ℕ_discrete (tag_of fs i) 0x02)
    where
      by : Dec (tag_of fs i ≡ 0x01) → Dec (tag_of fs i ≡ 0x02) → words_at fs i ≡ file_words fs i
      by (yes e) d = same_words 0x01 refl e
      by (no e) (yes d) = same_words 0x02 refl d
      by (no e) (no d) = same_words 0x03 refl (omega arith)

  -- what it stands for
  pub literal_is : 0x01 ≤ tag_of fs i → tag_of fs i ≤ 0x03 → expr_at fs i ≡ literal i (constant_at (tag_of fs i) (file_words fs i))
  unfolding constant_at
  literal_is a b = by (ℕ_discrete (tag_of fs i) 0x01) (ℕ_discrete (tag_of fs i) 0x02) ∙ ap (λ ws. literal i (constant_at (tag_of fs i) ws)) (literal_words a b)
    where
      by : Dec (tag_of fs i ≡ 0x01) → Dec (tag_of fs i ≡ 0x02) → expr_at fs i ≡ literal i (constant_at (tag_of fs i) (words_at fs i))
      by (yes e) d = (number_node fs h.shapes i inside e).is ∙ rw (eq-eqb _ 0x01 e)
      by (no e) (yes d) = (text_node fs h.shapes i inside d).is ∙ rw (ne_eqb _ 0x01 e, eq-eqb _ 0x02 d)
      by (no e) (no d) = (other_node fs h.shapes i inside (omega arith)).is ∙ rw (ne_eqb _ 0x01 e, ne_eqb _ 0x02 d)

-- the tree is lawful beside other words that keep the table of offsets
pub lawful_kept : {t w w' : List ℕ} {p : Scope} → Lawful t w (nodes_of p) → Kept w p w' → Lawful t w' (nodes_of p)
lawful_kept {t} {w} {w'} {p} h g =
    record {
      nodes = h.nodes;
      shapes = h.shapes;
      long = omega (arith, h.long, g.same);
      offsets = offsets_kept h.offsets g.same (λ i l. g.offsets i (omega (arith, h.long, h.nodes)));
    }

-- ---- the superclass

pub super_none : (fs : List Field) (c : ℕ) → c ≡ 65535 → super_at fs c ≡ no_super
unfolding super_at
super_none fs c e = rw (eq-eqb c 65535 e)

pub super_some : (fs : List Field) (c : ℕ) → (c ≡ 65535 → ⊥) → super_at fs c ≡ super c (token (word_of fs c 0) (word_of fs c 1))
unfolding super_at variable_at readers
super_some fs c e = rw (ne_eqb c 65535 e)

-- what a class holds of it
pub present_is : (n : ℕ) {m : ℕ} → Some m ≡ unless_absent n → (n ≡ 65535 → ⊥) × (m ≡ n)
present_is n {m} e = by (ℕ_discrete n 65535)
  where
    by : Dec (n ≡ 65535) → (n ≡ 65535 → ⊥) × (m ≡ n)
    by (yes z) = let y = rw (eq-eqb n 65535 z) at e in absurd (let o : ◌≡◌ {A = ℕ} 0 1 = cc in omega arith)
    by (no h) = let y = rw (ne_eqb n 65535 h) at e in (h, cc)

pub absent_is : (n : ℕ) → None ≡ unless_absent n → n ≡ 65535
absent_is n e = by (ℕ_discrete n 65535)
  where
    by : Dec (n ≡ 65535) → n ≡ 65535
    by (yes z) = z
    by (no h) = let y = rw (ne_eqb n 65535 h) at e in absurd (let o : ◌≡◌ {A = ℕ} 0 1 = cc in omega arith)

-- ---- an operand that is no number

plain : (r : Readers) (i : ℕ) (ws : List ℕ) (tag : ℕ) → (tag ≡ 0x01 → ⊥) → small_operand (read_expr r i tag ws) ≡ none
unfolding small_operand
plain r i ws zero h = refl
plain r i ws (suc zero) h = absurd (h refl)
plain r i ws (suc (suc zero)) h = refl
plain r i ws (suc (suc (suc zero))) h = refl
plain r i ws (suc (suc (suc (suc zero)))) h = refl
plain r i ws (suc (suc (suc (suc (suc zero))))) h = refl
plain r i ws (suc (suc (suc (suc (suc (suc zero)))))) h = refl
plain r i ws (suc (suc (suc (suc (suc (suc (suc zero))))))) h = refl
plain r i ws (suc (suc (suc (suc (suc (suc (suc (suc zero)))))))) h = refl
plain r i ws (suc (suc (suc (suc (suc (suc (suc (suc (suc zero))))))))) h = refl
plain r i ws (suc (suc (suc (suc (suc (suc (suc (suc (suc (suc n)))))))))) h = refl

pub plain_operand : (fs : List Field) (i : ℕ) → (tag_of fs i ≡ 0x01 → ⊥) → small_operand (expr_at fs i) ≡ none
unfolding expr_at readers
plain_operand fs i h = plain (readers fs i) i (words_at fs i) (tag_of fs i) h

-- ---- what was found, by its case

pub not_found : (f : given.Option ℕ) → ((i : ℕ) → f ≡ given.Some i → ⊥) → option_of f ≡ none
not_found (given.Some j) h = absurd (h j refl)
not_found given.None h = refl

pub found_small : {f : given.Option ℕ} {i : ℕ} → f ≡ given.Some i → in_byte f → i < 255
found_small e h = rw e at h
