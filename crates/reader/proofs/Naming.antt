-- The constants, one after the other: which are texts.
use mathlib.Core.Path.{◌≡◌, refl, sym, ap, ◌∙◌, subst}
use mathlib.Core.Bool.{Bool, true, false, ◌&&◌, cond}
use mathlib.Core.Option.{none}
use mathlib.Core.Logic.{⊎_elim}
use mathlib.Core.List.{List, [], ◌∷◌, ◌++◌, append_assoc, append-nil}
use Prim.Native.Nat.{ℕ, ◌+◌, ◌<◌, ◌≤◌}
use native.Mathlib.Omega.{arith}
use native.Mathlib.Nat.{not-suc-le-zero}
use lib.ListN.{length, get_or, set, length-append, length-set}
use lib.Dec.{eqb, ltb}
use borrow.Author.Tests.{eqb-true, eq-eqb, ne_eqb, ltb-true}
use Rattle.meaning.specs.Fields.{Field, whole, front, rest, fields}
use Rattle.meaning.specs.Constant.{Constant}
use Rattle.meaning.specs.Image.{flag}
use Rattle.meaning.proofs.FieldLaws.{fields_whole, fields_cut}
use Rattle.meaning.proofs.Lists.{and_left, and_right}
use Rattle.meaning.specs.Images.{constant_in, add_field, parts}
use Rattle.meaning.specs.Follow.{due, is_header, is_constant, follows_whole, follows, due_after, stray}
use Rattle.meaning.specs.Rules.{is_text}
use Rattle.reader.specs.Right.{Table}
use Rattle.reader.specs.Laid.{Behind}
use Rattle.meaning.proofs.Images.Assembled.{Tagged, stray_head, constant_tag}
use Rattle.reader.proofs.Tables.{table_more}

-- c constants stand before t, behind `protos` prototypes; the table says which are texts
pub record Naming (ks : List Constant) (tag protos : ℕ) (t : List ℕ) (c : ℕ) (texts : List ℕ) : Type 0 where
  pub order : stray tag (due 0 0 protos c) (fields t) ≡ none
  pub no_header : whole t ≡ true → get_or t 0 0 ≡ 0x41 → ⊥
  pub done : List Constant
  pub count : length done ≡ c
  pub split : ks ≡ done ++ (parts tag (fields t)).constants
  pub few : c ≤ 1024
  pub size : length texts ≡ 1024
  pub table : Table (λ k. flag (is_text k)) texts done

pub naming_start : (ks : List Constant) (tag protos : ℕ) (t texts : List ℕ) → Behind ks tag protos t → length texts ≡ 1024 → Naming ks tag protos t 0 texts
naming_start ks tag protos t texts h e = record {
  order = h.order;
  no_header = h.no_header;
  done = [];
  count = refl;
  split = sym h.constants;
  few = omega arith;
  size = e;
  table = λ q l. absurd (not-suc-le-zero l);
}

text_of : (f : Field) → flag (is_text (constant_in f)) ≡ cond (eqb f.tag 0x45) 1 0
text_of f = go (eqb f.tag 0x44) refl (eqb f.tag 0x45) refl
  where
    go : (a : Bool) → eqb f.tag 0x44 ≡ a → (b : Bool) → eqb f.tag 0x45 ≡ b → flag (is_text (constant_in f)) ≡ cond b 1 0
    go true p true q = absurd (let x = eqb-true f.tag 0x44 p in let y = eqb-true f.tag 0x45 q in omega arith)
    go true p false q = rw p refl
    go false p true q = rw (p, q) refl
    go false p false q = rw (p, q) refl

module _ (ks : List Constant) (tag protos : ℕ) (ok : Tagged tag) (t : List ℕ) (c : ℕ) (texts : List ℕ) (n : Naming ks tag protos t c texts) where
  module _ (w : whole t ≡ true) where
    heads : (follows tag (due 0 0 protos c) (front t) ≡ true) × (stray tag (due_after (due 0 0 protos c) (front t)) (fields (rest t)) ≡ none)
    heads = stray_head tag (due 0 0 protos c) (front t) (fields (rest t)) (rw (fields_whole t w) at n.order)

    other : eqb (get_or t 0 0) 0x41 ≡ false
    other = ne_eqb (get_or t 0 0) 0x41 (n.no_header w)

    follow : (is_constant (front t) && (ltb 0 protos && ltb c 1024)) ≡ true
    unfolding follows follows_whole
    follow = rw other at heads.0

    pub room : c < 1024
    room = ltb-true c 1024 (and_right (ltb 0 protos) _ (and_right (is_constant (front t)) _ follow))

    on : stray tag (due 0 0 protos (c + 1)) (fields (rest t)) ≡ none
    unfolding due_after
    on = rw other at heads.1

    added : (parts tag (fields t)).constants ≡ constant_in (front t) ∷ (parts tag (fields (rest t))).constants
    unfolding parts add_field
    added =
        let g = constant_tag (front t) (and_left _ _ follow) in
        ap (λ (fs : List Field). (parts tag fs).constants) (fields_whole t w)
        ∙ rw (other, ne_eqb (get_or t 0 0) 0x42 (λ q. omega arith), ne_eqb (get_or t 0 0) tag (λ q. ⊎_elim (λ (v : tag ≡ 0x43). omega arith) (λ (v : tag ≡ 0x47). omega arith) ok)) refl

    -- no header follows a constant
    late : whole (rest t) ≡ true → get_or (rest t) 0 0 ≡ 0x41 → ⊥
    unfolding follows follows_whole
    late v h =
        let f = stray_head tag (due 0 0 protos (c + 1)) (front (rest t)) (fields (rest (rest t))) (rw (fields_whole (rest t) v) at on) in
        let z = eqb-true (c + 1) 0 (and_right (ltb protos 256) _ (and_right (is_header (front (rest t))) _ (rw (eq-eqb (get_or (rest t) 0 0) 0x41 h) at f.0))) in
        omega arith

    pub naming_more : (r : List ℕ) → r ≡ rest t → (v : ℕ) → v ≡ cond (eqb (get_or t 0 0) 0x45) 1 0 → (m : List ℕ) → m ≡ set texts c v → Naming ks tag protos r (c + 1) m
    naming_more r er v ev m em = rw er record {
      order = on;
      no_header = late;
      done = n.done ++ constant_in (front t) ∷ [];
      count = length-append n.done (constant_in (front t) ∷ []) ∙ omega (arith, n.count);
      split = n.split ∙ ap (λ (l : List Constant). n.done ++ l) added ∙ sym (append_assoc n.done (constant_in (front t) ∷ []) _);
      few = omega (arith, room);
      size = ap length em ∙ length-set texts c v ∙ n.size;
      table = rw em (table_more (λ k. flag (is_text k)) texts n.done (constant_in (front t)) c v n.count (omega (arith, room, n.size)) (ev ∙ sym (text_of (front t))) n.table);
    }

  pub named : whole t ≡ false → (ks ≡ n.done)
  unfolding parts
  named w = n.split ∙ ap (λ (l : List Constant). n.done ++ l) (ap (λ (fs : List Field). (parts tag fs).constants) (fields_cut t w)) ∙ append-nil n.done

  pub named_table : whole t ≡ false → Table (λ k. flag (is_text k)) texts ks × (c ≡ length ks) × (length ks ≤ 1024)
  named_table w = let e = named w in
      (subst (λ (l : List Constant). Table (λ k. flag (is_text k)) texts l) (sym e) n.table, sym (ap length e ∙ n.count), omega (arith, ap length e, n.count, n.few))
