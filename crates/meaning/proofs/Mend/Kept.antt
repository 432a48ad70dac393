-- "Every other byte stays". The idea: the image and its mended copy are lists of pieces of the same lengths, and a piece differs in the four bytes of a replaced instruction alone.
use Prim.Native.Nat.{ℕ, zero, suc, ◌+◌, ◌*◌, ◌-◌, ◌/◌, ◌<◌, ◌≤◌}
use native.Mathlib.Nat.{suc-mul, zero-mul}
use mathlib.Core.Path.{◌≡◌, refl, sym, ap, ◌∙◌}
use mathlib.Core.Bool.{Bool, true, false, cond}
use mathlib.Core.Logic.{◌⊎◌, inl, inr, ⊎_elim}
use mathlib.Core.List.{List, [], ◌∷◌, ◌++◌, map}
use native.Mathlib.Omega.{arith}
use lib.ListN.{length, get_or, length-append, get_or-append}
use lib.Seq.{get_or-append-add}
use lib.Dec.{eqb}
use Rattle.meaning.specs.Opcode.{inst, Return}
use Rattle.meaning.specs.State.{Capture, Proto}
use Rattle.meaning.specs.Images.{Image, inst_size}
use Rattle.meaning.specs.Image.{word, field, mark_bytes, capture_bytes, inst_bytes, proto_bytes, constant_bytes, written}
use Rattle.meaning.specs.Mend.{replaced, mended, mended_from, mended_proto, mended_image}
use Rattle.meaning.specs.declared.Instruction.{Instruction}
use Rattle.meaning.proofs.Lists.{lt_or_le}
use Rattle.meaning.proofs.Images.Listed.{header_field, field_bytes}
use Rattle.meaning.proofs.Mend.Laws.{not_replaced, is_replaced, mended_length}

-- ---- where the listed instructions' four bytes stand

-- byte j is one of those, the first of the instructions being the field at `at`
pub InCode : (tag n at i : ℕ) → List Instruction → (j : ℕ) → Type 0
InCode tag n at i [] j = ⊥
InCode tag n at i (x ∷ xs) j = ((replaced n i x ≡ true) × (at + 3 ≤ j) × (j < at + 7)) ⊎ InCode tag n (at + (3 + inst_size tag)) (i + 1) xs j

-- the first prototype's header being the field at `at`
pub InProtos : (tag at : ℕ) → List Proto → (j : ℕ) → Type 0
InProtos tag at [] j = ⊥
InProtos tag at (p ∷ ps) j =
    InCode tag (length p.code) (at + 13 + length p.captures * 5) 0 p.code j
    ⊎ InProtos tag (at + 13 + length p.captures * 5 + length p.code * (3 + inst_size tag)) ps j

-- ---- pieces

-- a and b, which stand at `at`, have one length, and the same bytes but where P holds
pub record Agree (P : ℕ → Type 0) (at : ℕ) (a b : List ℕ) : Type 0 where
  pub size : length a ≡ length b
  pub bytes : (j : ℕ) → (P (at + j) → ⊥) → get_or a j 0 ≡ get_or b j 0

module _ (P : ℕ → Type 0) where
  alike : (at : ℕ) (a : List ℕ) → Agree P at a a
  alike at a = record { size = refl; bytes = λ j h. refl }

  joined : (at next : ℕ) (a b c d : List ℕ) → at + length a ≡ next → Agree P at a b → Agree P next c d → Agree P at (a ++ c) (b ++ d)
  joined at next a b c d e f g = record {
    size = length-append a c ∙ omega (arith, f.size, g.size) ∙ sym (length-append b d);
    bytes = λ j h. ⊎_elim
        (λ (l : j < length a). get_or-append a c 0 j l ∙ f.bytes j h ∙ sym (get_or-append b d 0 j (omega (arith, f.size))))
        (λ (l : length a ≤ j). later j (j - length a) (omega arith) h)
        (lt_or_le j (length a));
  }
    where
      later : (j m : ℕ) → j ≡ length a + m → (P (at + j) → ⊥) → get_or (a ++ c) j 0 ≡ get_or (b ++ d) j 0
      later j m q h =
          ap (λ (k : ℕ). get_or (a ++ c) k 0) q ∙ get_or-append-add a c m 0 ∙ g.bytes m (λ z. h (rw (let y : at + j ≡ next + m = omega arith in y) z))
          ∙ sym (ap (λ (k : ℕ). get_or (b ++ d) k 0) (let y : j ≡ length b + m = omega (arith, f.size) in y) ∙ get_or-append-add b d m 0)

-- weaker where more may differ
weaker : (P Q : ℕ → Type 0) (at : ℕ) (a b : List ℕ) → ((j : ℕ) → P j → Q j) → Agree P at a b → Agree Q at a b
weaker P Q at a b f g = record { size = g.size; bytes = λ j h. g.bytes j (λ p. h (f (at + j) p)) }

-- ---- instructions, prototypes, an image

module _ (tag : ℕ) where
  one_size : (x : Instruction) → length (field tag (x.opcode ∷ x.a ∷ x.b ∷ x.c ∷ mark_bytes tag x.mark)) ≡ 3 + inst_size tag
  one_size x = go (eqb tag 0x47)
    where
      go : (b : Bool) → length (field tag (x.opcode ∷ x.a ∷ x.b ∷ x.c ∷ cond b (word (x.mark / 65536) ++ word x.mark) (word x.mark))) ≡ 3 + cond b 8 6
      go true = refl
      go false = refl

  -- four bytes of seven differ
  four : (P : ℕ → Type 0) (at : ℕ) (a b c w x y z w' x' y' z' : ℕ) (m : List ℕ) → ((j : ℕ) → at + 3 ≤ j → j < at + 7 → P j)
      → Agree P at (a ∷ b ∷ c ∷ w ∷ x ∷ y ∷ z ∷ m) (a ∷ b ∷ c ∷ w' ∷ x' ∷ y' ∷ z' ∷ m)
  four P at a b c w x y z w' x' y' z' m h = record { size = refl; bytes = go }
    where
      go : (j : ℕ) → (P (at + j) → ⊥) → get_or (a ∷ b ∷ c ∷ w ∷ x ∷ y ∷ z ∷ m) j 0 ≡ get_or (a ∷ b ∷ c ∷ w' ∷ x' ∷ y' ∷ z' ∷ m) j 0
      go zero k = refl
      go (suc zero) k = refl
      go (suc (suc zero)) k = refl
      go (suc (suc (suc zero))) k = absurd (k (h (at + 3) (omega arith) (omega arith)))
      go (suc (suc (suc (suc zero)))) k = absurd (k (h (at + 4) (omega arith) (omega arith)))
      go (suc (suc (suc (suc (suc zero))))) k = absurd (k (h (at + 5) (omega arith) (omega arith)))
      go (suc (suc (suc (suc (suc (suc zero)))))) k = absurd (k (h (at + 6) (omega arith) (omega arith)))
      go (suc (suc (suc (suc (suc (suc (suc j))))))) k = refl

  kept_code : (n at i : ℕ) (xs : List Instruction) → Agree (InCode tag n at i xs) at (inst_bytes tag (mended_from n i xs)) (inst_bytes tag xs)
  unfolding mended_from InCode
  kept_code n at i [] = alike _ at []
  kept_code n at i (x ∷ xs) =
      joined _ at (at + (3 + inst_size tag)) _ _ _ _ (ap (λ (k : ℕ). at + k) (one_size (mended n i x))) (one (replaced n i x) refl)
      (weaker (InCode tag n (at + (3 + inst_size tag)) (i + 1) xs) _ _ _ _ (λ j p. inr p) (kept_code n (at + (3 + inst_size tag)) (i + 1) xs))
    where
      one : (b : Bool) → replaced n i x ≡ b
          → Agree (InCode tag n at i (x ∷ xs)) at (field tag ((mended n i x).opcode ∷ (mended n i x).a ∷ (mended n i x).b ∷ (mended n i x).c ∷ mark_bytes tag (mended n i x).mark)) (field tag (x.opcode ∷ x.a ∷ x.b ∷ x.c ∷ mark_bytes tag x.mark))
      one true e = rw (is_replaced n i x e) (four _ at _ _ _ _ _ _ _ _ _ _ _ _ (λ j l u. inl (e, l, u)))
      one false e = rw (not_replaced n i x e) (alike _ at _)

  code_size : (xs : List Instruction) → length (inst_bytes tag xs) ≡ length xs * (3 + inst_size tag)
  code_size [] = sym (zero-mul (3 + inst_size tag))
  code_size (x ∷ xs) = length-append (field tag (x.opcode ∷ x.a ∷ x.b ∷ x.c ∷ mark_bytes tag x.mark)) (inst_bytes tag xs) ∙ omega (arith, one_size x, code_size xs, suc-mul (length xs) (3 + inst_size tag))

  captures_size : (cs : List Capture) → length (capture_bytes cs) ≡ length cs * 5
  captures_size [] = refl
  captures_size (c ∷ cs) = omega (arith, captures_size cs)

  kept_protos : (at : ℕ) (ps : List Proto) → Agree (InProtos tag at ps) at (proto_bytes tag (map mended_proto ps)) (proto_bytes tag ps)
  unfolding InProtos
  kept_protos at [] = alike _ at []
  kept_protos at (p ∷ ps) =
      let n = length p.code in
      let same = mended_length n 0 p.code in
      let header = field_bytes (header_field p) in
      rw same
      (joined _ at (at + 13) header header _ _ refl (alike _ at header)
      (joined _ (at + 13) (at + 13 + length p.captures * 5) _ _ _ _ (ap (λ (k : ℕ). at + 13 + k) (captures_size p.captures)) (alike _ _ (capture_bytes p.captures))
      (joined _ (at + 13 + length p.captures * 5) (at + 13 + length p.captures * 5 + n * (3 + inst_size tag)) _ _ _ _
      (ap (λ (k : ℕ). at + 13 + length p.captures * 5 + k) (code_size (mended_from n 0 p.code) ∙ ap (λ (k : ℕ). k * (3 + inst_size tag)) same))
      (weaker _ _ _ _ _ (λ j q. inl q) (kept_code n (at + 13 + length p.captures * 5) 0 p.code))
      (weaker _ _ _ _ _ (λ j q. inr q) (kept_protos (at + 13 + length p.captures * 5 + n * (3 + inst_size tag)) ps)))))

  -- the copy and the image
  pub kept_image : (im : Image) → Agree (InProtos tag 0 im.prototypes) 0 (written tag (mended_image im)) (written tag im)
  kept_image im = joined _ 0 (length (proto_bytes tag (map mended_proto im.prototypes))) _ _ _ _ (omega arith) (kept_protos 0 im.prototypes) (alike _ _ (constant_bytes im.constants))
