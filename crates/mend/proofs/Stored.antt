-- What is copied to a part of a slice stands there as bytes stored one after the other.
use mathlib.Core.Path.{◌≡◌, refl, sym, ap, ap₂, ◌∙◌}
use mathlib.Core.List.{List, [], ◌∷◌, ◌++◌}
use Prim.Native.Nat.{ℕ, suc, ◌+◌, ◌-◌, ◌≤◌}
use native.Mathlib.Omega.{arith}
use lib.ListN.{length, get_or, take, drop}
use lib.Seq.{sets, sets-eq, length-sets, take_all}
use borrow.Rule.Slice.PartMut.{put_mid}
use Rattle.std.proofs.lemmas.Slice.{put_mid-paste}
use Rattle.meaning.specs.Image.{word}

pub stored : (at k : ℕ) (o v : List ℕ) → length v ≡ k → at + k ≤ length o → put_mid at k o v ≡ sets o at v
stored at k o v e h =
    put_mid-paste at k o v v k refl refl (sym e) ∙ ap (λ (l : List ℕ). take at o ++ l ++ drop (at + k) o) (take_all k v (omega arith))
    ∙ ap (λ (n : ℕ). take at o ++ v ++ drop (at + n) o) (sym e) ∙ sym (sets-eq v o at (omega arith))

-- the first four bytes
pub four : (t : List ℕ) → 4 ≤ length t → take 4 t ≡ get_or t 0 0 ∷ get_or t 1 0 ∷ get_or t 2 0 ∷ get_or t 3 0 ∷ []
four [] h = absurd (omega arith)
four (a ∷ []) h = absurd (omega arith)
four (a ∷ b ∷ []) h = absurd (omega arith)
four (a ∷ b ∷ c ∷ []) h = absurd (omega arith)
four (a ∷ b ∷ c ∷ d ∷ t) h = refl

pub entry : (l t : List ℕ) (at : ℕ) (v₁ v₂ v₃ : List ℕ) (p i : ℕ) → v₁ ≡ word p → v₂ ≡ word i
    → v₃ ≡ get_or t 0 0 ∷ get_or t 1 0 ∷ get_or t 2 0 ∷ get_or t 3 0 ∷ [] → at + 8 ≤ length l
    → put_mid (at + 4) (at + 8 - (at + 4)) (put_mid (at + 2) (at + 4 - (at + 2)) (put_mid at (at + 2 - at) l v₁) v₂) v₃
    ≡ sets l at (word p ++ (word i ++ (get_or t 0 0 ∷ get_or t 1 0 ∷ get_or t 2 0 ∷ get_or t 3 0 ∷ [])))
entry l t at v₁ v₂ v₃ p i e₁ e₂ e₃ eight =
    rw (e₁, e₂, e₃) (
    ap (λ (o : List ℕ). put_mid (at + 4) (at + 8 - (at + 4)) (put_mid (at + 2) (at + 4 - (at + 2)) o (word i)) old) (stored at (at + 2 - at) l (word p) (omega arith) (omega arith))
    ∙ ap (λ (o : List ℕ). put_mid (at + 4) (at + 8 - (at + 4)) o old) (stored (at + 2) (at + 4 - (at + 2)) (sets l at (word p)) (word i) (omega arith) (omega (arith, length-sets l at (word p))))
    ∙ stored (at + 4) (at + 8 - (at + 4)) (sets (sets l at (word p)) (at + 2) (word i)) old (omega arith) (omega (arith, length-sets l at (word p), length-sets (sets l at (word p)) (at + 2) (word i)))
    ∙ ap₂ (λ (j k : ℕ). sets (sets (sets l at (word p)) j (word i)) k old) (let z : at + 2 ≡ suc (suc at) = omega arith in z) (let z : at + 4 ≡ suc (suc (suc (suc at))) = omega arith in z)
    )
  where
    old : List ℕ
    old = get_or t 0 0 ∷ get_or t 1 0 ∷ get_or t 2 0 ∷ get_or t 3 0 ∷ []
