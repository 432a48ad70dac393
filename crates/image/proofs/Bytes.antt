-- The bytes of a prototype as the work area holds it, and how many they are. Assumes nothing.
use mathlib.Core.Path.{◌≡◌, sym, ap, ◌∙◌}
use mathlib.Core.Bool.{Bool, true, false, cond}
use mathlib.Core.List.{List, [], ◌∷◌, ◌++◌, append-nil}
use Prim.Native.Nat.{ℕ, ◌+◌, ◌*◌, ◌≤◌}
use native.Mathlib.Omega.{arith}
use native.Mathlib.Nat.{suc-mul, mul_comm, mul-le-mul}
use native.Mathlib.Numerals.{add-one}
use lib.ListN.{length, length-append}
use lib.Dec.{eqb}
use Rattle.store.specs.Table.{tab}
use Rattle.store.specs.Layout.{name_of, registers, held, capture_at, inst_at}
use Rattle.store.proofs.Tables.{tab_suc, tab_length}
use Rattle.meaning.specs.Opcode.{inst, Return, no_mark}
use Rattle.meaning.specs.State.{Capture}
use Rattle.meaning.specs.Images.{inst_size}
use Rattle.meaning.specs.Image.{word, field, capture_bytes, inst_bytes, proto_bytes}
use Rattle.meaning.specs.declared.Instruction.{Instruction}
use Rattle.writers.proofs.Bytes.{captures_append, insts_append, captures_size, inst_long, insts_size}
use Rattle.image.specs.Output.{proto_of}

-- ---- products of two that are not known

pub one_more : (i span : ℕ) → (i + 1) * span ≡ i * span + span
one_more i span = ap (λ k. k * span) (add-one i) ∙ suc-mul i span

-- an instruction has eleven bytes at most
pub short_inst : (tag : ℕ) → 3 + inst_size tag ≤ 11
short_inst tag = go (eqb tag 0x47)
  where
    go : (b : Bool) → 3 + cond b 8 6 ≤ 11
    go true = omega arith
    go false = omega arith

-- the instructions of a prototype, of eleven bytes each at most
pub few_bytes : (k span : ℕ) → k ≤ 32767 → span ≤ 11 → k * span ≤ 360437
few_bytes k span h l = mul-le-mul {n₁ = k} {m₁ = span} {n₂ = 32767} {m₂ = 11} h l

-- ---- a list made of a function's values, one more

pub captures_more : (f : ℕ → Capture) (i : ℕ) → capture_bytes (tab f (i + 1)) ≡ capture_bytes (tab f i) ++ capture_bytes (f i ∷ [])
captures_more f i = ap (λ k. capture_bytes (tab f k)) (add-one i) ∙ ap capture_bytes (tab_suc f i) ∙ captures_append (tab f i) (f i ∷ [])

module _ (tag : ℕ) (f : ℕ → Instruction) where
  pub insts_more : (i : ℕ) → inst_bytes tag (tab f (i + 1)) ≡ inst_bytes tag (tab f i) ++ inst_bytes tag (f i ∷ [])
  insts_more i = ap (λ k. inst_bytes tag (tab f k)) (add-one i) ∙ ap (inst_bytes tag) (tab_suc f i) ∙ insts_append tag (tab f i) (f i ∷ [])

  pub insts_long : (i : ℕ) → length (inst_bytes tag (tab f i)) ≡ i * (3 + inst_size tag)
  insts_long i = insts_size tag (tab f i) ∙ ap (λ k. (3 + inst_size tag) * k) (tab_length f i) ∙ mul_comm (3 + inst_size tag) i

-- ---- a prototype: header, captures, code, the last Return

module _ (tag : ℕ) (w : List ℕ) (top j first k params : ℕ) where
  abbrev pub proto_parts : List ℕ
  proto_parts =
      field 0x41 (word (name_of w j) ++ (word params ++ (word (registers w j) ++ (word (held w j) ++ word (k + 1)))))
      ++ (capture_bytes (tab (capture_at w j) (held w j)) ++ (inst_bytes tag (tab (λ i. inst_at w top (first + i)) k) ++ inst_bytes tag (inst Return 0 0 0 no_mark ∷ [])))

  pub proto_is : proto_parts ≡ proto_bytes tag (proto_of w top j first k params ∷ [])
  proto_is =
      let ret : List Instruction = inst Return 0 0 0 no_mark ∷ [] in
      let l : List Instruction = tab (λ i. inst_at w top (first + i)) k in
      let size : length (l ++ ret) ≡ k + 1 = simp length-append (omega (arith, tab_length (λ i. inst_at w top (first + i)) k)) in
      rw (tab_length (capture_at w j) (held w j), size, append-nil (inst_bytes tag (l ++ ret)), insts_append tag l ret)

  pub proto_size : length (proto_bytes tag (proto_of w top j first k params ∷ [])) ≡ 13 + 5 * held w j + (k + 1) * (3 + inst_size tag)
  proto_size =
      let cs : List ℕ = capture_bytes (tab (capture_at w j) (held w j)) in
      let is : List ℕ = inst_bytes tag (tab (λ i. inst_at w top (first + i)) k) in
      let ret : List ℕ = inst_bytes tag (inst Return 0 0 0 no_mark ∷ []) in
      sym (ap length proto_is)
      ∙ omega
      (arith, length-append cs (is ++ ret), length-append is ret, captures_size (tab (capture_at w j) (held w j)), tab_length (capture_at w j) (held w j), insts_long tag (λ i. inst_at w top (first + i)) k, inst_long tag (inst Return 0 0 0 no_mark), one_more k (3 + inst_size tag))

  -- where it ends, by the bytes of an instruction
  pub proto_ends : (at span : ℕ) → span ≡ 3 + inst_size tag → at + (13 + 5 * held w j + (k + 1) * span) ≡ at + length (proto_bytes tag (proto_of w top j first k params ∷ []))
  proto_ends at span e = ap (λ m. at + (13 + 5 * held w j + (k + 1) * m)) e ∙ ap (λ m. at + m) (sym proto_size)
