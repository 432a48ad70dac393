-- Rules: one that is one-to-one on words alone is enough; there are rules that change something; and the theorem in document 02's own words.
use mathlib.Core.Path.{◌≡◌, refl, sym, ap, ap₂, ◌∙◌}
use mathlib.Core.Bool.{Bool, true, false, cond}
use mathlib.Core.Logic.{⊎_elim}
use mathlib.Core.List.{List, [], ◌∷◌, ◌++◌, map}
use Prim.Native.Nat.{ℕ, ◌+◌, ◌*◌, ◌<◌, ◌≤◌}
use native.Mathlib.Nat.{le_refl}
use native.Mathlib.Omega.{arith}
use lib.ListN.{length}
use lib.Dec.{eqb}
use borrow.Author.Tests.{lt-ltb, le-ltb, eqb-true, eq-eqb, ne_eqb}
use Rattle.meaning.specs.Fields.{Field, fields, left}
use Rattle.meaning.specs.Grammar.{Item, name, kind_of, due_after, spread, wide_marks}
use Rattle.meaning.specs.Image.{word}
use Rattle.meaning.specs.Answer.{imaged, stopped, finished}
use Rattle.meaning.specs.declared.Cause.{Cause}
use Rattle.meaning.proofs.Lists.{lt_or_le}
use Rattle.meaning.proofs.Images.Fielded.{Bytes, bytes_at, bytes_drop, Payloads, and_more, payloads}
use Rattle.names.specs.Rename.{Rule, WordRule, extended, exchanged, naming_of, renamed_word, renamed_payload, renamed_field, bytes_by, renamed, renamed_image, renamed_finished}
use Rattle.names.proofs.Whole.{names_do_not_steer}

-- ---- on words alone

pub extended_word : (f : ℕ → ℕ) (n : ℕ) → n < 65536 → extended f n ≡ f n
extended_word f n h = rw (lt-ltb n 65536 h) refl

extended_other : (f : ℕ → ℕ) (n : ℕ) → 65536 ≤ n → extended f n ≡ n
extended_other f n h = rw (le-ltb n 65536 h) refl

pub rule_extended : (f : ℕ → ℕ) → WordRule f → Rule (extended f)
rule_extended f r = record {
  one_to_one = λ m n e. ⊎_elim
      (λ (a : m < 65536). ⊎_elim
      (λ (b : n < 65536). r.one_to_one m n a b (sym (extended_word f m a) ∙ e ∙ extended_word f n b))
      (λ (b : 65536 ≤ n). let z : f m ≡ n = sym (extended_word f m a) ∙ e ∙ extended_other f n b in let w = r.kept.within m a in absurd (omega arith))
      (lt_or_le n 65536))
      (λ (a : 65536 ≤ m). ⊎_elim
      (λ (b : n < 65536). let z : m ≡ f n = sym (extended_other f m a) ∙ e ∙ extended_word f n b in let w = r.kept.within n b in absurd (omega arith))
      (λ (b : 65536 ≤ n). sym (extended_other f m a) ∙ e ∙ extended_other f n b)
      (lt_or_le n 65536))
      (lt_or_le m 65536);
  kept = record {
    builtin = λ n h. extended_word f n (omega arith) ∙ r.kept.builtin n h;
    empty = extended_word f 65535 (omega arith) ∙ r.kept.empty;
    within = λ n h. rw (extended_word f n h) (r.kept.within n h);
  };
}

module _ (f : ℕ → ℕ) where
  payload_alike : (is : List Item) (p : List ℕ) → Bytes p → renamed_payload (extended f) is p ≡ renamed_payload f is p
  unfolding renamed_payload renamed_word
  payload_alike is [] b = refl
  payload_alike is (a ∷ []) b = refl
  payload_alike is (a ∷ c ∷ p) b =
      let small : a * 256 + c < 65536 = omega (arith, bytes_at (a ∷ c ∷ p) b 0, bytes_at (a ∷ c ∷ p) b 1) in
      ap₂ (λ (n : ℕ) (l : List ℕ). cond (eqb (kind_of is) name) (word n) (a ∷ c ∷ []) ++ l) (extended_word f (a * 256 + c) small) (payload_alike (due_after is (a * 256 + c)) p (bytes_drop 2 (a ∷ c ∷ p) b))

  fields_alike : (wide : Bool) (fs : List Field) → Payloads fs → map (renamed_field (extended f) wide) fs ≡ map (renamed_field f wide) fs
  unfolding renamed_field
  fields_alike wide [] z = refl
  fields_alike wide (x ∷ fs) (and_more h z) =
      ap₂ (λ (p : List ℕ) (l : List Field). (let y : Field = record { tag = x.tag; payload = p } in y) ∷ l) (payload_alike (spread wide (naming_of x.tag)) x.payload h) (fields_alike wide fs z)

  pub renamed_alike : (tree : List ℕ) → Bytes tree → renamed (extended f) tree ≡ renamed f tree
  unfolding renamed
  renamed_alike tree b = ap (λ (l : List Field). bytes_by l ++ left tree) (fields_alike (wide_marks (fields tree)) (fields tree) (payloads (length tree) tree (le_refl _) b))

-- the theorem, of a rule on words
pub of_words : (f : ℕ → ℕ) → WordRule f → (mode : ℕ) (tree : List ℕ) → Bytes tree → (work room : ℕ) → finished mode (renamed f tree) work room ≡ renamed_finished (extended f) (finished mode tree work room)
of_words f r mode tree b work room = ap (λ (t : List ℕ). finished mode t work room) (sym (renamed_alike f tree b)) ∙ names_do_not_steer (extended f) (rule_extended f r) mode tree b work room

-- ---- two names exchanged

module _ (a b : ℕ) where
  abbrev swap : ℕ → ℕ
  swap = exchanged a b

  back_again : (n : ℕ) → swap (swap n) ≡ n
  back_again n = go (eqb n a) refl (eqb n b) refl
    where
      at_b : (c : Bool) → eqb b a ≡ c → cond c b (cond (eqb b b) a b) ≡ a
      at_b true e = eqb-true b a e
      at_b false e = rw (eq-eqb b b refl) refl

      go : (c : Bool) → eqb n a ≡ c → (d : Bool) → eqb n b ≡ d → swap (cond c b (cond d a n)) ≡ n
      go true e d q = at_b (eqb b a) refl ∙ sym (eqb-true n a e)
      go false e true q = rw (eq-eqb a a refl) (sym (eqb-true n b q))
      go false e false q = rw (e, q) refl

  other_stays : (n : ℕ) → (n ≡ a → ⊥) → (n ≡ b → ⊥) → swap n ≡ n
  other_stays n p q = rw (ne_eqb n a p, ne_eqb n b q) refl

  pub exchange : 8 < a → a < 65535 → 8 < b → b < 65535 → Rule (exchanged a b)
  exchange a1 a2 b1 b2 = record {
    one_to_one = λ m n e. sym (back_again m) ∙ ap swap e ∙ back_again n;
    kept = record {
      builtin = λ n h. other_stays n (λ e. omega arith) (λ e. omega arith);
      empty = other_stays 65535 (λ e. omega arith) (λ e. omega arith);
      within = λ n h. inside n h (eqb n a) (eqb n b);
    };
  }
    where
      inside : (n : ℕ) → n < 65536 → (c d : Bool) → cond c b (cond d a n) < 65536
      inside n h true d = omega arith
      inside n h false true = omega arith
      inside n h false false = h

-- ---- as document 02 has it

module _ (f : ℕ → ℕ) (rule : Rule f) (mode : ℕ) (tree : List ℕ) (bytes : Bytes tree) (work room : ℕ) where
  -- "an accepted tree gives the same image with the rule applied to prototype names and text constants"
  pub accepted_same : (image : List ℕ) → finished mode tree work room ≡ imaged image → finished mode (renamed f tree) work room ≡ imaged (renamed_image f image)
  unfolding renamed_finished
  accepted_same image e = names_do_not_steer f rule mode tree bytes work room ∙ ap (renamed_finished f) e

  -- "and a refused one the same number and place"
  pub refused_same : (c : Cause) (place : ℕ) → finished mode tree work room ≡ stopped c place → finished mode (renamed f tree) work room ≡ stopped c place
  unfolding renamed_finished
  refused_same c place e = names_do_not_steer f rule mode tree bytes work room ∙ ap (renamed_finished f) e
