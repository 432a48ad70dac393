-- The facts, prototype by prototype: what is left to judge is what was, and the tables say what the captures of those before need.
use mathlib.Core.Path.{◌≡◌, refl, sym, ap, ap₂, ◌∙◌, subst}
use mathlib.Core.Bool.{Bool, true, false, cond}
use mathlib.Core.Option.{Option, none, some}
use mathlib.Core.Logic.{⊎_elim}
use mathlib.Core.List.{List, [], ◌∷◌, ◌++◌, map, append_assoc}
use Prim.Native.Nat.{ℕ, zero, suc, ◌+◌, ◌*◌, ◌<◌, ◌≤◌}
use native.Mathlib.Nat.{eq-or-lt_of_le, not-suc-le-zero}
use native.Mathlib.Omega.{arith}
use lib.ListN.{length, get_or, take, drop, set, length-append, length-drop, length-set, length-map}
use lib.Dec.{eqb}
use Rattle.meaning.specs.Base.{lowest_by, lowest}
use Rattle.meaning.specs.Fields.{word_at, whole, fields}
use Rattle.meaning.specs.Constant.{Constant}
use Rattle.meaning.specs.State.{Proto}
use Rattle.meaning.specs.Image.{flag}
use Rattle.meaning.specs.Steps.{inst_at}
use Rattle.meaning.proofs.FieldLaws.{from}
use Rattle.meaning.proofs.Lists.{tail_part, lowest_all}
use Rattle.meaning.specs.Images.{inst_size, parts, image_of}
use Rattle.meaning.specs.Rules.{is_text, lawful, proto_tests, first_false}
use Rattle.meaning.specs.Reader.{broken}
use Rattle.reader.specs.Tests.{local_need, outer_need}
use Rattle.reader.specs.Right.{Table, Right}
use Rattle.reader.specs.Laid.{captures_in, proto_in, proto_span, Ordered}
use Rattle.reader.specs.Lens.{lens_proto, lens_image}
use Rattle.meaning.proofs.Images.Fielded.{Bytes}
use Rattle.meaning.proofs.Images.Assembled.{Tagged}
use Rattle.reader.proofs.Blocks.{Headed}
use Rattle.reader.proofs.Lenses.{seen_length}
use Rattle.reader.proofs.Tables.{captures_length, table_more, table_front}
use Rattle.reader.specs.declared.facts.Needs.{Needs}
use Rattle.reader.specs.Around.{local_needs, outer_needs}
use Rattle.std.proofs.lemmas.List.{take-map, map-set}
use Rattle.reader.proofs.Glances.{shift, shift_zero}
use Rattle.reader.proofs.Firsts.{proto_fails, proto_passes}
use Rattle.reader.proofs.Locates.{Locating, locating_start, here, split_here, locating_more, none_left}

-- ---- the lowest that fails

module _ (p : ℕ → Bool) where
  by_fails : (n k : ℕ) → lowest_by p n k < k + n → p (lowest_by p n k) ≡ false
  unfolding lowest_by
  by_fails zero k h = absurd (omega arith)
  by_fails (suc n) k h = go (p k) refl h (by_fails n (suc k))
    where
      go : (t : Bool) → p k ≡ t → cond t (lowest_by p n (suc k)) k < k + suc n → (lowest_by p n (suc k) < suc k + n → p (lowest_by p n (suc k)) ≡ false) → p (cond t (lowest_by p n (suc k)) k) ≡ false
      go true e l rec = rec (omega arith)
      go false e l rec = e

  by_below : (n k j : ℕ) → k ≤ j → j < lowest_by p n k → p j ≡ true
  unfolding lowest_by
  by_below zero k j a h = absurd (omega arith)
  by_below (suc n) k j a h = go (p k) refl h (by_below n (suc k) j)
    where
      go : (t : Bool) → p k ≡ t → j < cond t (lowest_by p n (suc k)) k → (suc k ≤ j → j < lowest_by p n (suc k) → p j ≡ true) → p j ≡ true
      go true e l rec = ⊎_elim (λ (q : k ≡ j). ap p (sym q) ∙ e) (λ (q : k < j). rec q l) (eq-or-lt_of_le a)
      go false e l rec = absurd (omega arith)

  pub lowest_fails : (n : ℕ) → lowest p n < n → p (lowest p n) ≡ false
  unfolding lowest
  lowest_fails n h = by_fails n 0 (omega arith)

  pub lowest_below : (n j : ℕ) → j < lowest p n → p j ≡ true
  unfolding lowest
  lowest_below n j h = by_below n 0 j (omega arith) h

-- ---- the prototypes before

take_front : (a b : List Proto) (k : ℕ) → length a ≡ k → take k (a ++ b) ≡ a
take_front [] b zero e = refl
take_front [] b (suc k) e = absurd (omega arith)
take_front (x ∷ a) b zero e = absurd (omega arith)
take_front (x ∷ a) b (suc k) e = ap (λ (l : List Proto). x ∷ l) (take_front a b k (omega arith))

grows : (b : Bool) (n : ℕ) → n ≤ n * (3 + cond b 8 6)
grows true n = omega arith
grows false n = omega arith

seen_append : (mend : Bool) (a b : List Proto) → map (lens_proto mend) (a ++ b) ≡ map (lens_proto mend) a ++ map (lens_proto mend) b
seen_append mend [] b = refl
seen_append mend (x ∷ a) b = ap (λ (l : List Proto). lens_proto mend x ∷ l) (seen_append mend a b)

-- the prototypes of fields as they are seen
abbrev pub seen : (mend : Bool) → (tag : ℕ) → List ℕ → List Proto
seen mend tag s = map (lens_proto mend) (parts tag (fields s)).prototypes

-- k prototypes stand before t, f fields; the tables are right for them
pub record Ruling (mend : Bool) (s : List ℕ) (tag : ℕ) (t : List ℕ) (k f : ℕ) (locals outers : List ℕ) : Type 0 where
  pub at : Locating s tag 256 t k
  pub same : shift f (first_false (proto_tests (parts tag (fields s)).constants (take k (seen mend tag s)) (seen mend tag t))) ≡ broken (lens_image mend (image_of tag (fields s)))
  pub locals_right : Table (λ p. local_need p.captures) locals (take k (seen mend tag s))
  pub outers_right : Table (λ p. outer_need p.captures) outers (take k (seen mend tag s))
  pub locals_size : length locals ≡ 256
  pub outers_size : length outers ≡ 256
  pub room : f + length t ≤ length s

pub ruling_start : (mend : Bool) (s : List ℕ) (tag : ℕ) (locals outers : List ℕ) → Bytes s → Ordered s tag → length locals ≡ 256 → length outers ≡ 256 → Ruling mend s tag s 0 0 locals outers
ruling_start mend s tag locals outers b o el eo = record {
  at = locating_start s tag 256 b o;
  same = shift_zero _;
  locals_right = λ q l. absurd (not-suc-le-zero l);
  outers_right = λ q l. absurd (not-suc-le-zero l);
  locals_size = el;
  outers_size = eo;
  room = omega arith;
}

-- the tables of the prototypes before
pub right_front : (ks : List Constant) (ps : List Proto) (needs : List Needs) (texts : List ℕ) (k : ℕ) → length ps ≤ k
    → Right ks ps (local_needs needs) (outer_needs needs) texts → Right ks ps (local_needs (take k needs)) (outer_needs (take k needs)) texts
right_front ks ps needs texts k h r = record {
  locals_right = rw (sym (take-map (λ (x : Needs). x.locals) k needs)) (table_front (λ p. local_need p.captures) _ ps k h r.locals_right);
  outers_right = rw (sym (take-map (λ (x : Needs). x.outers) k needs)) (table_front (λ p. outer_need p.captures) _ ps k h r.outers_right);
  names = r.names;
}

-- an entry more
pub needs_set : (mend : Bool) (s : List ℕ) (tag : ℕ) (t : List ℕ) (k f : ℕ) (needs : List Needs) (n : ℕ) (v : Needs)
    → Ruling mend s tag t k f (set (local_needs needs) n v.locals) (set (outer_needs needs) n v.outers) → Ruling mend s tag t k f (local_needs (set needs n v)) (outer_needs (set needs n v))
needs_set mend s tag t k f needs n v r = rw (map-set (λ (x : Needs). x.locals) needs n v, map-set (λ (x : Needs). x.outers) needs n v) r

module _ (mend : Bool) (s : List ℕ) (tag : ℕ) (ok : Tagged tag) (t : List ℕ) (k f : ℕ) (locals outers : List ℕ) (r : Ruling mend s tag t k f locals outers) where
  abbrev ks : List Constant
  ks = (parts tag (fields s)).constants

  abbrev ps : List Proto
  ps = seen mend tag s

  abbrev done : List Proto
  done = map (lens_proto mend) r.at.done

  done_length : length done ≡ k
  done_length = length-map r.at.done (lens_proto mend) ∙ r.at.count

  before : take k ps ≡ done
  before = ap (take k) (ap (map (lens_proto mend)) r.at.split ∙ seen_append mend r.at.done _) ∙ take_front done _ k done_length

  -- the tables, for the facts
  pub right : (texts : List ℕ) → Table (λ c. flag (is_text c)) texts ks → Right ks (take k ps) locals outers texts
  right texts h = record { locals_right = r.locals_right; outers_right = r.outers_right; names = h }

  pub many : k ≡ length (take k ps)
  many = sym (ap length before ∙ done_length)

  module _ (w : whole t ≡ true) (h : get_or t 0 0 ≡ 0x41) where
    abbrev p : Proto
    p = lens_proto mend (proto_in t tag)

    abbrev test : ℕ → Bool
    test j = lawful ks (take k ps) p j (inst_at p.code j)

    pub front : Headed tag ok t k
    front = here s tag 256 t k ok r.at w h

    captures_are : length p.captures ≡ word_at t 9
    unfolding proto_in
    captures_are = captures_length t 13 (word_at t 9)

    code_are : length p.code ≡ word_at t 11
    unfolding proto_in
    code_are = seen_length mend t tag (3 + inst_size tag) (13 + word_at t 9 * 5) (word_at t 11)

    as_first : shift f (first_false (proto_tests ks (take k ps) (p ∷ seen mend tag (drop (proto_span t tag) t)))) ≡ broken (lens_image mend (image_of tag (fields s)))
    as_first = ap (λ (l : List Proto). shift f (first_false (proto_tests ks (take k ps) (map (lens_proto mend) l)))) (sym front.prototypes) ∙ r.same

    -- a fact of it fails
    pub ruling_fails : (i : ℕ) → i ≡ lowest test (word_at t 11) → i < word_at t 11 → (m : ℕ) → m ≡ f + 1 + word_at t 9 + i → some m ≡ broken (lens_image mend (image_of tag (fields s)))
    ruling_fails i e l m em =
        ap (λ (n : ℕ). some n) (let z : m ≡ f + (1 + length p.captures + i) = omega (arith, captures_are) in z)
        ∙ sym (ap (shift f) (proto_fails ks (take k ps) p (seen mend tag (drop (proto_span t tag) t)) i (omega (arith, code_are))
        (λ j b. lowest_below test (word_at t 11) j (omega arith))
        (subst (λ (j : ℕ). test j ≡ false) (sym e) (lowest_fails test (word_at t 11) (omega arith)))))
        ∙ as_first

    taken_next : take (k + 1) ps ≡ take k ps ++ p ∷ []
    taken_next =
        ap (take (k + 1)) (ap (map (lens_proto mend)) (split_here s tag 256 t k ok r.at w h) ∙ seen_append mend r.at.done _ ∙ sym (append_assoc done (p ∷ []) _))
        ∙ take_front (done ++ p ∷ []) _ (k + 1) (length-append done (p ∷ []) ∙ omega (arith, done_length))
        ∙ ap (λ (l : List Proto). l ++ p ∷ []) (sym before)

    shift_more : (a b : ℕ) (o : Option ℕ) → shift a (shift b o) ≡ shift (a + b) o
    shift_more a b none = refl
    shift_more a b (some n) = ap (λ (m : ℕ). some m) (let z : a + (b + n) ≡ a + b + n = omega arith in z)

    captures_in_is : p.captures ≡ captures_in t 13 (word_at t 9)
    unfolding proto_in
    captures_in_is = refl

    -- none does
    pub ruling_more : (i : ℕ) → i ≡ lowest test (word_at t 11) → (i < word_at t 11 → ⊥) → (nl nu : ℕ) → nl ≡ local_need (captures_in t 13 (word_at t 9)) → nu ≡ outer_need (captures_in t 13 (word_at t 9))
        → (n : ℕ) → n ≡ proto_span t tag → (g : ℕ) → g ≡ f + 1 + word_at t 9 + word_at t 11 → Ruling mend s tag (from n t) (k + 1) g (set locals k nl) (set outers k nu)
    ruling_more i e l nl nu el eo n en g eg =
        let there : from n t ≡ drop (proto_span t tag) t = tail_part n t ∙ ap (λ (m : ℕ). drop m t) en in
        let low = front.few in
        record {
          at = locating_more s tag 256 t k ok r.at w h (λ q. omega arith) n en;
          same =
              ap₂ (λ (a : List Proto) (b : List ℕ). shift g (first_false (proto_tests ks a (seen mend tag b)))) taken_next there
              ∙ ap (λ (m : ℕ). shift m (first_false (proto_tests ks (take k ps ++ p ∷ []) (seen mend tag (drop (proto_span t tag) t))))) (let z : g ≡ f + (1 + length p.captures + length p.code) = omega (arith, captures_are, code_are) in z)
              ∙ sym (shift_more f (1 + length p.captures + length p.code) (first_false (proto_tests ks (take k ps ++ p ∷ []) (seen mend tag (drop (proto_span t tag) t)))))
              ∙ sym (ap (shift f) (proto_passes ks (take k ps) p (seen mend tag (drop (proto_span t tag) t)) (λ j b. lowest_all test (word_at t 11) (omega (arith, l)) j (omega (arith, code_are)))))
              ∙ as_first;
          locals_right = rw taken_next (table_more (λ q. local_need q.captures) locals (take k ps) p k nl (sym many) (omega (arith, r.locals_size)) (el ∙ ap local_need (sym captures_in_is)) r.locals_right);
          outers_right = rw taken_next (table_more (λ q. outer_need q.captures) outers (take k ps) p k nu (sym many) (omega (arith, r.outers_size)) (eo ∙ ap outer_need (sym captures_in_is)) r.outers_right);
          locals_size = length-set locals k nl ∙ r.locals_size;
          outers_size = length-set outers k nu ∙ r.outers_size;
          room = rw there (omega (arith, length-drop (proto_span t tag) t, front.room, r.room, grows (eqb tag 0x47) (word_at t 11)));
        }

  -- no prototype is left
  pub ruling_end : (whole t ≡ true → get_or t 0 0 ≡ 0x41 → ⊥) → none ≡ broken (lens_image mend (image_of tag (fields s)))
  unfolding proto_tests first_false
  ruling_end n = ap (λ (l : List Proto). shift f (first_false (proto_tests ks (take k ps) (map (lens_proto mend) l)))) (sym (none_left s tag 256 t k ok r.at n)) ∙ r.same
