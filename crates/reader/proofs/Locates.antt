-- From prototype to prototype.
use mathlib.Core.Path.{◌≡◌, refl, sym, ap, ◌∙◌, subst}
use mathlib.Core.Bool.{Bool, true, false}
use mathlib.Core.Option.{none}
use mathlib.Core.List.{List, [], ◌∷◌, ◌++◌, append_assoc, append-nil}
use Prim.Native.Nat.{ℕ, zero, suc, ◌+◌, ◌-◌, ◌<◌, ◌≤◌}
use native.Mathlib.Omega.{arith}
use borrow.Author.Tests.{eqb-true, eqb-false, eq-eqb, ne_eqb}
use lib.ListN.{length, get_or, drop, length-append}
use lib.Dec.{eqb}
use Rattle.meaning.specs.Fields.{whole, fields}
use Rattle.meaning.specs.State.{Proto}
use Rattle.meaning.specs.Safety.{Holds}
use Rattle.meaning.proofs.FieldLaws.{from}
use Rattle.meaning.proofs.Lists.{tail_part, false_true}
use Rattle.meaning.specs.Images.{image_of, parts}
use Rattle.meaning.specs.Follow.{due, stray}
use Rattle.reader.specs.Laid.{proto_in, proto_span, part_from, Located, Ordered}
use Rattle.meaning.proofs.Images.Fielded.{Bytes, bytes_drop}
use Rattle.meaning.proofs.Images.Assembled.{Tagged}
use Rattle.reader.proofs.Blocks.{Headed, headed, no_whole, no_header}

holds_at : (P : Proto → Type 0) (done : List Proto) (p : Proto) (rest : List Proto) (q : ℕ) → length done ≡ q → P p → Holds P (done ++ p ∷ rest) q
holds_at P [] p rest zero e h = h
holds_at P [] p rest (suc q) e h = absurd (omega arith)
holds_at P (d ∷ done) p rest zero e h = absurd (omega arith)
holds_at P (d ∷ done) p rest (suc q) e h = holds_at P done p rest q (omega arith) h

part_more : (tag : ℕ) (t : List ℕ) (m : ℕ) → whole t ≡ true → get_or t 0 0 ≡ 0x41 → part_from tag t (suc m) ≡ part_from tag (drop (proto_span t tag) t) m
unfolding part_from
part_more tag t m w h = rw (w, eq-eqb (get_or t 0 0) 0x41 h) refl

part_here : (tag : ℕ) (t : List ℕ) → part_from tag t 0 ≡ t
unfolding part_from
part_here tag t = refl

part_none : (tag : ℕ) (t : List ℕ) (m : ℕ) → (whole t ≡ true → get_or t 0 0 ≡ 0x41 → ⊥) → part_from tag t m ≡ t
unfolding part_from
part_none tag t zero n = part_here tag t
part_none tag t (suc m) n = go (whole t) refl
  where
    go : (b : Bool) → whole t ≡ b → part_from tag t (suc m) ≡ t
    go true w = rw (w, ne_eqb (get_or t 0 0) 0x41 (n w)) refl
    go false w = rw w refl

-- k prototypes stand before t
pub record Locating (s : List ℕ) (tag q : ℕ) (t : List ℕ) (k : ℕ) : Type 0 where
  pub bytes : Bytes t
  pub order : stray tag (due 0 0 k 0) (fields t) ≡ none
  pub done : List Proto
  pub count : length done ≡ k
  pub split : (parts tag (fields s)).prototypes ≡ done ++ (parts tag (fields t)).prototypes
  pub kept : (parts tag (fields t)).constants ≡ (parts tag (fields s)).constants
  pub low : k ≤ q
  pub same : part_from tag s q ≡ part_from tag t (q - k)

pub locating_start : (s : List ℕ) (tag q : ℕ) → Bytes s → Ordered s tag → Locating s tag q s 0
locating_start s tag q b o = record { bytes = b; order = o.order; done = []; count = refl; split = refl; kept = refl; low = omega arith; same = ap (part_from tag s) (let z : q ≡ q - 0 = omega arith in z) }

module _ (s : List ℕ) (tag q : ℕ) (t : List ℕ) (k : ℕ) (ok : Tagged tag) (l : Locating s tag q t k) where
  module _ (w : whole t ≡ true) (h : get_or t 0 0 ≡ 0x41) where
    pub here : Headed tag ok t k
    here = headed tag ok t k l.bytes l.order w h

    pub split_here : (parts tag (fields s)).prototypes ≡ l.done ++ (proto_in t tag ∷ (parts tag (fields (drop (proto_span t tag) t))).prototypes)
    split_here = l.split ∙ ap (λ (ps : List Proto). l.done ++ ps) here.prototypes

    pub located : k ≡ q → Located (image_of tag (fields s)) tag q t
    located e = record {
      there = λ m. record { is = rw split_here (holds_at (λ p. p ≡ proto_in t tag) l.done (proto_in t tag) _ q (l.count ∙ e) refl); room = here.room; some = here.some; few = omega (arith, here.few); whole_one = w; header = h };
      beyond = λ m. absurd (omega (arith, ap length split_here, length-append l.done (proto_in t tag ∷ (parts tag (fields (drop (proto_span t tag) t))).prototypes), l.count));
    }

    pub part_is : k ≡ q → t ≡ part_from tag s q
    part_is e = sym (l.same ∙ ap (part_from tag t) (let z : q - k ≡ 0 = omega arith in z) ∙ part_here tag t)

    pub locating_more : (k ≡ q → ⊥) → (n : ℕ) → n ≡ proto_span t tag → Locating s tag q (from n t) (k + 1)
    locating_more ne n e =
        let there : from n t ≡ drop (proto_span t tag) t = tail_part n t ∙ ap (λ (m : ℕ). drop m t) e in
        rw there record {
          bytes = bytes_drop (proto_span t tag) t l.bytes;
          order = here.order;
          done = l.done ++ proto_in t tag ∷ [];
          count = length-append l.done (proto_in t tag ∷ []) ∙ omega (arith, l.count);
          split = split_here ∙ sym (append_assoc l.done (proto_in t tag ∷ []) _);
          kept = sym here.constants ∙ l.kept;
          low = omega (arith, l.low, below);
          same = l.same ∙ ap (part_from tag t) (let z : q - k ≡ suc (q - (k + 1)) = omega (arith, below) in z) ∙ part_more tag t (q - (k + 1)) w h;
        }
      where
        below : k < q
        below = omega (arith, l.low, ne)

  module _ (n : (whole t ≡ true) → get_or t 0 0 ≡ 0x41 → ⊥) where
    pub none_left : (parts tag (fields t)).prototypes ≡ []
    none_left = go (whole t) refl
      where
        go : (b : Bool) → whole t ≡ b → (parts tag (fields t)).prototypes ≡ []
        go true w = no_header tag ok t k l.bytes l.order w (n w)
        go false w = no_whole tag ok t k l.bytes l.order w

    size : length (parts tag (fields s)).prototypes ≡ k
    size = ap length (l.split ∙ ap (λ (ps : List Proto). l.done ++ ps) none_left ∙ append-nil l.done) ∙ l.count

    pub not_located : Located (image_of tag (fields s)) tag q t
    not_located = record {
      there = λ m. absurd (omega (arith, l.low, size));
      beyond = λ m. record { order = subst (λ (c : ℕ). stray tag (due 0 0 c 0) (fields t) ≡ none) (sym size) l.order; constants = l.kept; no_header = n };
    }

    pub part_behind : t ≡ part_from tag s q
    part_behind = sym (l.same ∙ part_none tag t (q - k) n)

  -- where k is q, whether one follows or not
  pub placed : k ≡ q → Located (image_of tag (fields s)) tag q t × (t ≡ part_from tag s q)
  placed e = go (whole t) refl (eqb (get_or t 0 0) 0x41) refl
    where
      go : (b : Bool) → whole t ≡ b → (c : Bool) → eqb (get_or t 0 0) 0x41 ≡ c → Located (image_of tag (fields s)) tag q t × (t ≡ part_from tag s q)
      go true w true h = let z = eqb-true (get_or t 0 0) 0x41 h in (located w z e, part_is w z e)
      go true w false h = let n = λ (v : whole t ≡ true) (z : get_or t 0 0 ≡ 0x41). eqb-false (get_or t 0 0) 0x41 h z in (not_located n, part_behind n)
      go false w c h = let n = λ (v : whole t ≡ true) (z : get_or t 0 0 ≡ 0x41). false_true (sym w ∙ v) in (not_located n, part_behind n)
