-- The field grammar: fields that are written one after the other are the file.
use mathlib.Core.Path.{◌≡◌, refl, sym, ap, ap₂, ◌∙◌}
use mathlib.Core.Bool.{Bool, true, false}
use mathlib.Core.List.{List, [], ◌∷◌, ◌++◌}
use Prim.Native.Nat.{ℕ, zero, suc, ◌+◌, ◌*◌, ◌/◌, ◌%◌, ◌<◌, ◌≤◌}
use native.Mathlib.Omega.{arith}
use lib.ListN.{length, get_or, take, drop, length-take, length-drop, take-append-drop}
use lib.ListN.{get_or-eq_default}
use lib.Seq.{get_or-drop, get_or-take, drop-drop}
use mathlib.Core.Logic.{⊎_elim}
use Rattle.meaning.proofs.Lists.{lt_or_le}
use Rattle.meaning.specs.Fields.{word_at, span, whole, Field, payload_of, front, rest, fields, left}
use Rattle.meaning.specs.Image.{word}
use Rattle.meaning.proofs.FieldLaws.{whole_true, fields_whole, fields_cut, left_whole, left_cut}
use Rattle.meaning.proofs.Images.Listed.{field_bytes, bytes_of}

-- every number of the list is a byte
pub Bytes : List ℕ → Type 0
Bytes s = (i : ℕ) → get_or s i 0 < 256

pub bytes_at : (s : List ℕ) → Bytes s → (i : ℕ) → get_or s i 0 < 256
unfolding Bytes
bytes_at s b = b

pub bytes_by : (s : List ℕ) → ((i : ℕ) → get_or s i 0 < 256) → Bytes s
unfolding Bytes
bytes_by s b = b

-- a word is two bytes
pub word_back : (a b : ℕ) → a < 256 → b < 256 → word (a * 256 + b) ≡ a ∷ b ∷ []
word_back a b p q = ap₂ (λ (x y : ℕ). x ∷ y ∷ []) (let e : (a * 256 + b) / 256 % 256 ≡ a = omega arith in e) (let e : (a * 256 + b) % 256 ≡ b = omega arith in e)

-- a list by its elements
unfoldable pub spell : List ℕ → (k n : ℕ) → List ℕ
spell p k zero = []
spell p k (suc n) = get_or p k 0 ∷ spell p (suc k) n

shift : (a : ℕ) (p : List ℕ) (k n : ℕ) → spell (a ∷ p) (suc k) n ≡ spell p k n
unfolding spell
shift a p k zero = refl
shift a p k (suc n) = ap (λ (l : List ℕ). get_or p k 0 ∷ l) (shift a p (suc k) n)

pub spelled : (p : List ℕ) → spell p 0 (length p) ≡ p
unfolding spell
spelled [] = refl
spelled (a ∷ p) = ap (λ (l : List ℕ). a ∷ l) (shift a p 0 (length p) ∙ spelled p)

-- the header of a whole field
three : (s : List ℕ) → 3 ≤ length s → s ≡ get_or s 0 0 ∷ get_or s 1 0 ∷ get_or s 2 0 ∷ drop 3 s
three [] h = absurd (omega arith)
three (a ∷ []) h = absurd (omega arith)
three (a ∷ b ∷ []) h = absurd (omega arith)
three (a ∷ b ∷ c ∷ s) h = refl

-- the field at the front, written, before the rest
pub front_back : (s : List ℕ) → Bytes s → whole s ≡ true → field_bytes (front s) ++ rest s ≡ s
front_back s b w =
    ap (λ (l : List ℕ). get_or s 0 0 ∷ (l ++ payload_of s) ++ rest s) (ap word size ∙ word_back _ _ (bytes_at s b 1) (bytes_at s b 2))
    ∙ ap (λ (l : List ℕ). get_or s 0 0 ∷ get_or s 1 0 ∷ get_or s 2 0 ∷ l) (ap (λ (l : List ℕ). payload_of s ++ l) (sym (parted s)) ∙ take-append-drop (word_at s 1) (drop 3 s))
    ∙ sym (three s (omega (arith, whole_true s w)))
  where
    size : length (payload_of s) ≡ word_at s 1
    size = simp (length-take, length-drop) (omega (arith, whole_true s w))

    parted : (t : List ℕ) → drop (word_at s 1) (drop 3 t) ≡ drop (span s) t
    parted t = drop-drop (word_at s 1) 3 t

-- a part of bytes is bytes
pub bytes_drop : (k : ℕ) (s : List ℕ) → Bytes s → Bytes (drop k s)
bytes_drop k s b = bytes_by (drop k s) (λ i. rw (get_or-drop k s i 0) (bytes_at s b (k + i)))

pub bytes_take : (k : ℕ) (s : List ℕ) → Bytes s → Bytes (take k s)
bytes_take k s b = bytes_by (take k s) (λ i. ⊎_elim
    (λ (h : i < k). rw (get_or-take k s i 0 h) (bytes_at s b i))
    (λ (h : k ≤ i). rw (get_or-eq_default (take k s) 0 {n = i} (simp length-take (omega arith))) (omega arith))
    (lt_or_le i k))

-- at either result of the test
turn : (s : List ℕ) (t : Bool) → whole s ≡ t → Bytes s → left s ≡ [] → (whole s ≡ true → bytes_of (fields (rest s)) ≡ rest s) → bytes_of (fields s) ≡ s
unfolding bytes_of
turn s false w b e more = rw (fields_cut s w) (sym e ∙ left_cut s w)
turn s true w b e more = rw (fields_whole s w) (ap (λ (l : List ℕ). field_bytes (front s) ++ l) (more w) ∙ front_back s b w)

-- a file without a rest is its fields, written
pub fields_back : (n : ℕ) (s : List ℕ) → length s ≤ n → Bytes s → left s ≡ [] → bytes_of (fields s) ≡ s
fields_back zero s h b e = turn s (whole s) refl b e (λ w. absurd (omega (arith, whole_true s w)))
fields_back (suc n) s h b e =
    turn s (whole s) refl b e (λ w. fields_back n (rest s) (simp length-drop (omega (arith, whole_true s w))) (bytes_drop (span s) s b) (sym (left_whole s w) ∙ e))

-- every payload is bytes
pub data Payloads : List Field → Type 0 where
  no_more : Payloads []
  and_more : {f : Field} {fs : List Field} → Bytes f.payload → Payloads fs → Payloads (f ∷ fs)

turn_payloads : (s : List ℕ) (t : Bool) → whole s ≡ t → Bytes s → (whole s ≡ true → Payloads (fields (rest s))) → Payloads (fields s)
turn_payloads s false w b more = rw (fields_cut s w) no_more
turn_payloads s true w b more = rw (fields_whole s w) (and_more (bytes_take (word_at s 1) (drop 3 s) (bytes_drop 3 s b)) (more w))

pub payloads : (n : ℕ) (s : List ℕ) → length s ≤ n → Bytes s → Payloads (fields s)
payloads zero s h b = turn_payloads s (whole s) refl b (λ w. absurd (omega (arith, whole_true s w)))
payloads (suc n) s h b = turn_payloads s (whole s) refl b (λ w. payloads n (rest s) (simp length-drop (omega (arith, whole_true s w))) (bytes_drop (span s) s b))
