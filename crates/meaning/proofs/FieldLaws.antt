-- Laws of the fields of a tree file, and what a walk over them keeps. `fields` goes by fuel; no proof but the first ones here sees it: all use
-- `fields s ≡ front s ∷ fields (rest s)` where a whole field stands at the front.
use mathlib.Core.Path.{◌≡◌, refl, sym, ap, ◌∙◌}
use mathlib.Core.Bool.{Bool, true, false, cond}
use mathlib.Core.List.{List, [], ◌∷◌}
use Prim.Native.Nat.{ℕ, zero, suc, ◌+◌, ◌-◌, ◌<◌, ◌≤◌}
use native.Mathlib.Nat.{le_refl}
use native.Mathlib.Omega.{arith}
use lib.ListN.{length, get_or, take, drop, length-drop}
use lib.Seq.{drop-drop}
use borrow.Author.Tests.{leb-true, lt-leb}
use Rattle.meaning.specs.Fields.{span, whole, Field, front, rest, fields_by, left_by, fields, left, header}
use Rattle.meaning.proofs.Lists.{tail_part, at_drop, drop_more, empty}

-- the test, as a fact
pub whole_true : (s : List ℕ) → whole s ≡ true → span s ≤ length s
unfolding whole
whole_true s w = leb-true (span s) (length s) w

pub whole_false : (s : List ℕ) → length s < span s → whole s ≡ false
unfolding whole
whole_false s h = lt-leb (span s) (length s) h

-- a whole field leaves less
rest_less : (s : List ℕ) (f : ℕ) → whole s ≡ true → length s ≤ suc f → length (rest s) ≤ f
rest_less s f w h = simp length-drop (omega (arith, whole_true s w))

-- One more step of a recursion by fuel, at either result of the test. `more` is the recursive call.
module _ {B : Type 0} (s : List ℕ) (f g : ℕ) (p : length s ≤ suc f) (q : length s ≤ suc g) (F : List ℕ → ℕ → B) where
  step : (b : Bool) → whole s ≡ b → (h : B → B) (z : B)
      → (length (rest s) ≤ f → length (rest s) ≤ g → F (rest s) f ≡ F (rest s) g)
      → cond b (h (F (rest s) f)) z ≡ cond b (h (F (rest s) g)) z
  step true w h z more = ap h (more (rest_less s f w p) (rest_less s g w q))
  step false w h z more = refl

-- any fuel that the length does not exceed gives the same
fields_fuel : (f g : ℕ) (s : List ℕ) → length s ≤ f → length s ≤ g → fields_by f s ≡ fields_by g s
unfolding fields_by
fields_fuel zero zero s p q = refl
fields_fuel zero (suc g) s p q = simp (whole_false s (omega arith))
fields_fuel (suc f) zero s p q = simp (whole_false s (omega arith))
fields_fuel (suc f) (suc g) s p q = step s f g p q (λ r k. fields_by k r) (whole s) refl (λ l. front s ∷ l) [] (fields_fuel f g (rest s))

left_fuel : (f g : ℕ) (s : List ℕ) → length s ≤ f → length s ≤ g → left_by f s ≡ left_by g s
unfolding left_by
left_fuel zero zero s p q = refl
left_fuel zero (suc g) s p q = simp (whole_false s (omega arith))
left_fuel (suc f) zero s p q = simp (whole_false s (omega arith))
left_fuel (suc f) (suc g) s p q = step s f g p q (λ r k. left_by k r) (whole s) refl (λ l. l) s (left_fuel f g (rest s))

-- the equations that a proof uses instead of the definitions
pub fields_whole : (s : List ℕ) → whole s ≡ true → fields s ≡ front s ∷ fields (rest s)
unfolding fields fields_by
fields_whole s w = fields_fuel (length s) (suc (length s)) s (le_refl _) (omega arith)
    ∙ simp w (ap (λ (l : List Field). front s ∷ l) (fields_fuel (length s) (length (rest s)) (rest s) (rest_less s (length s) w (omega arith)) (le_refl _)))

pub fields_cut : (s : List ℕ) → whole s ≡ false → fields s ≡ []
unfolding fields fields_by
fields_cut s w = fields_fuel (length s) (suc (length s)) s (le_refl _) (omega arith) ∙ simp w

pub left_whole : (s : List ℕ) → whole s ≡ true → left s ≡ left (rest s)
unfolding left left_by
left_whole s w = left_fuel (length s) (suc (length s)) s (le_refl _) (omega arith)
    ∙ simp w (left_fuel (length s) (length (rest s)) (rest s) (rest_less s (length s) w (omega arith)) (le_refl _))

pub left_cut : (s : List ℕ) → whole s ≡ false → left s ≡ s
unfolding left left_by
left_cut s w = left_fuel (length s) (suc (length s)) s (le_refl _) (omega arith) ∙ simp w

-- A walk over the file s stands before field n, and t is the rest of the file from there on.
pub record FieldWalk (s : List ℕ) (n : ℕ) (t : List ℕ) : Type 0 where
  pub here : drop n (fields s) ≡ fields t
  pub count : n + length (fields t) ≡ length (fields s)
  pub after : left t ≡ left s
  pub room : n + length t ≤ length s

pub walk_start : (s : List ℕ) → FieldWalk s 0 s
walk_start s = record { here = refl; count = omega arith; after = refl; room = omega arith }

-- t' is the part `&t[k..]`, k being the field's span
pub walk_more : (s : List ℕ) (n : ℕ) (t : List ℕ) → FieldWalk s n t → whole t ≡ true → FieldWalk s (n + 1) (rest t)
walk_more s n t i w = record {
  here = drop_more (fields s) n (front t) (fields (rest t)) (i.here ∙ fields_whole t w);
  count = omega (arith, ap length (fields_whole t w), i.count);
  after = sym (left_whole t w) ∙ i.after;
  room = simp length-drop (omega (arith, whole_true t w, i.room));
}

-- The same of the part `&t[k..]`, as a loop has it.
abbrev pub from : ℕ → List ℕ → List ℕ
from k t = take (length t - k) (drop k t)

pub walk_part : (s : List ℕ) (n : ℕ) (t : List ℕ) (k : ℕ) → FieldWalk s n t → whole t ≡ true → k ≡ span t → FieldWalk s (n + 1) (from k t)
walk_part s n t k i w e = rw (tail_part k t, e) (walk_more s n t i w)

pub part_less : (t : List ℕ) (k : ℕ) → whole t ≡ true → k ≡ span t → length (from k t) < length t
part_less t k w e = rw (tail_part k t, e) (simp length-drop (omega (arith, whole_true t w)))

-- what a walk that meets no whole field has found
pub walk_end : (s : List ℕ) (n : ℕ) (t : List ℕ) → FieldWalk s n t → whole t ≡ false → (n ≡ length (fields s)) × (length t ≡ length (left s))
walk_end s n t i w = (omega (arith, ap length (fields_cut t w), i.count), ap length (sym (left_cut t w) ∙ i.after))

-- the field that a walk stands before
pub walk_at : (s : List ℕ) (n : ℕ) (t : List ℕ) (d : Field) → FieldWalk s n t → whole t ≡ true → get_or (fields s) n d ≡ front t
walk_at s n t d i w = at_drop (fields s) n d (front t) (fields (rest t)) (i.here ∙ fields_whole t w)

pub walk_below : (s : List ℕ) (n : ℕ) (t : List ℕ) → FieldWalk s n t → whole t ≡ true → n < length (fields s)
walk_below s n t i w = omega (arith, ap length (fields_whole t w), i.count)

-- a walk past every field has none left
pub walk_done : (s : List ℕ) (n : ℕ) (t : List ℕ) → FieldWalk s n t → length (fields s) ≤ n → fields t ≡ []
walk_done s n t i h = empty (fields t) (omega (arith, i.count))

-- the next header stands a field's span further
header_next : (s : List ℕ) (i : ℕ) → header s (suc i) ≡ header s i + span (drop (header s i) s)
unfolding header
header_next s zero = omega arith
header_next s (suc i) =
    let r = rw (drop-drop (header (rest s) i) (span s) s) at (header_next (rest s) i) in
    omega arith

-- A walk that stands before field i stands at its header: t is the rest of the file from there on.
pub header_part : (s : List ℕ) (i : ℕ) (t : List ℕ) (k : ℕ) → t ≡ drop (header s i) s → k ≡ span t → (header s (suc i) ≡ header s i + k) × (from k t ≡ drop (header s (suc i)) s)
header_part s i t k e q =
    let n : header s (suc i) ≡ header s i + k = header_next s i ∙ ap (λ (u : List ℕ). header s i + span u) (sym e) ∙ ap (λ (m : ℕ). header s i + m) (sym q) in
    (n, tail_part k t ∙ rw e (drop-drop k (header s i) s) ∙ ap (λ (m : ℕ). drop m s) (sym n))
