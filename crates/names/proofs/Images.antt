-- The image of a changed state: the image, with the rule applied to prototype names and text constants.
use mathlib.Core.Path.{◌≡◌, refl, sym, ap, ap₂, ◌∙◌}
use mathlib.Core.Bool.{Bool, true, false}
use mathlib.Core.List.{List, [], ◌∷◌, ◌++◌, map}
use mathlib.Core.Logic.{inl, inr}
use Prim.Native.Nat.{ℕ, ◌+◌, ◌<◌}
use native.Mathlib.Omega.{arith}
use lib.ListN.{length, length-append}
use Rattle.meaning.specs.Fields.{Field}
use Rattle.meaning.specs.Constant.{Constant, number, text, other}
use Rattle.meaning.specs.State.{Capture, Proto, State}
use Rattle.meaning.specs.Images.{image_of_state, inst_tag}
use Rattle.meaning.specs.Image.{field, capture_bytes, inst_bytes, proto_bytes, constant_bytes, image}
use Rattle.meaning.specs.Safety.{All}
use Rattle.meaning.specs.declared.Instruction.{Instruction}
use Rattle.meaning.proofs.Ranges.Fits.{ConstantFits, ProtoFits}
use Rattle.meaning.proofs.Images.Assembled.{Tagged}
use Rattle.meaning.proofs.Images.Listed.{header_field, capture_field, inst_field, constant_field, proto_fields, bytes_of, written_is}
use Rattle.meaning.proofs.Images.Written.{word_is, fields_written}
use Rattle.meaning.proofs.Computing.{computing}
use Rattle.names.specs.Rename.{exchanged, bytes_by, renamed_part, renamed_image}
use Rattle.names.proofs.Changed.{constant_by, proto_by, state_by}
use Rattle.names.proofs.Steps.{map_append}

-- an image: a prototype's name and a text constant; no instruction, and no other constant
image_row : renamed_image (exchanged 9 12)
    (0x41 ∷ 0 ∷ 10 ∷ 0 ∷ 9 ∷ 0 ∷ 9 ∷ 0 ∷ 9 ∷ 0 ∷ 0 ∷ 0 ∷ 1 ∷ 0x43 ∷ 0 ∷ 6 ∷ 0 ∷ 9 ∷ 0 ∷ 9 ∷ 0 ∷ 9 ∷ 0x45 ∷ 0 ∷ 2 ∷ 0 ∷ 12 ∷ 0x46 ∷ 0 ∷ 2 ∷ 0 ∷ 9 ∷ [])
    ≡ (0x41 ∷ 0 ∷ 10 ∷ 0 ∷ 12 ∷ 0 ∷ 9 ∷ 0 ∷ 9 ∷ 0 ∷ 0 ∷ 0 ∷ 1 ∷ 0x43 ∷ 0 ∷ 6 ∷ 0 ∷ 9 ∷ 0 ∷ 9 ∷ 0 ∷ 9 ∷ 0x45 ∷ 0 ∷ 2 ∷ 0 ∷ 9 ∷ 0x46 ∷ 0 ∷ 2 ∷ 0 ∷ 9 ∷ [])
unfolding computing renamed_image renamed_part bytes_by
image_row = refl

-- fields are written alike
bytes_same : (fs : List Field) → bytes_by fs ≡ bytes_of fs
unfolding bytes_by bytes_of
bytes_same [] = refl
bytes_same (x ∷ fs) = ap (λ (l : List ℕ). field x.tag x.payload ++ l) (bytes_same fs)

tagged : (wide : Bool) → Tagged (inst_tag wide)
tagged true = inr refl
tagged false = inl refl

module _ (f : ℕ → ℕ) where
  header_part : (p : Proto) → p.name < 65536 → renamed_part f (header_field p) ≡ header_field (proto_by f p)
  unfolding renamed_part
  header_part p h = ap (λ (n : ℕ). header_field (record { name = f n; params = p.params; registers = p.registers; captures = p.captures; code = p.code })) (word_is p.name h)

  constant_part : (c : Constant) → ConstantFits c → renamed_part f (constant_field c) ≡ constant_field (constant_by f c)
  unfolding renamed_part
  constant_part (number b) h = refl
  constant_part (text n) h = ap (λ (k : ℕ). constant_field (text (f k))) (word_is n h)
  constant_part (other w) h = refl

  captures_part : (cs : List Capture) → map (renamed_part f) (map capture_field cs) ≡ map capture_field cs
  unfolding renamed_part
  captures_part [] = refl
  captures_part (c ∷ cs) = ap (λ (l : List Field). capture_field c ∷ l) (captures_part cs)

  inst_part : (tag : ℕ) → Tagged tag → (x : Instruction) → renamed_part f (inst_field tag x) ≡ inst_field tag x
  unfolding renamed_part
  inst_part tag (inl e) x = rw e refl
  inst_part tag (inr e) x = rw e refl

  module _ (tag : ℕ) (ok : Tagged tag) where
    code_part : (xs : List Instruction) → map (renamed_part f) (map (inst_field tag) xs) ≡ map (inst_field tag) xs
    code_part [] = refl
    code_part (x ∷ xs) = ap₂ (λ (y : Field) (l : List Field). y ∷ l) (inst_part tag ok x) (code_part xs)

    protos_part : (Marks : ℕ → Type 0) (ps : List Proto) → All (ProtoFits Marks) ps → map (renamed_part f) (proto_fields tag ps) ≡ proto_fields tag (map (proto_by f) ps)
    unfolding proto_fields
    protos_part Marks [] h = refl
    protos_part Marks (p ∷ ps) h =
        ap₂ (λ (y : Field) (l : List Field). y ∷ l) (header_part p h.0.name)
        (map_append (renamed_part f) (map capture_field p.captures) _
        ∙ ap₂ ◌++◌ (captures_part p.captures) (map_append (renamed_part f) (map (inst_field tag) p.code) _ ∙ ap₂ ◌++◌ (code_part p.code) (protos_part Marks ps h.1)))

  constants_part : (cs : List Constant) → All ConstantFits cs → map (renamed_part f) (map constant_field cs) ≡ map constant_field (map (constant_by f) cs)
  constants_part [] h = refl
  constants_part (c ∷ cs) h = ap₂ (λ (y : Field) (l : List Field). y ∷ l) (constant_part c h.0) (constants_part cs h.1)

  pub image_renamed : (Marks : ℕ → Type 0) (wide : Bool) (s : State) → All (ProtoFits Marks) s.prototypes → All ConstantFits s.constants → renamed_image f (image wide s) ≡ image wide (state_by f s)
  unfolding renamed_image image
  image_renamed Marks wide s h k =
      let tag = inst_tag wide in
      ap (λ (l : List Field). bytes_by (map (renamed_part f) l)) (fields_written tag (image_of_state s) (tagged wide))
      ∙ ap bytes_by (map_append (renamed_part f) (proto_fields tag s.prototypes) (map constant_field s.constants) ∙ ap₂ ◌++◌ (protos_part tag (tagged wide) Marks s.prototypes h) (constants_part s.constants k))
      ∙ bytes_same _ ∙ sym (written_is tag (image_of_state (state_by f s)))

  -- an image's length is its own
  protos_length : (tag : ℕ) (ps : List Proto) → length (proto_bytes tag (map (proto_by f) ps)) ≡ length (proto_bytes tag ps)
  protos_length tag [] = refl
  protos_length tag (p ∷ ps) = rw (
    length-append (capture_bytes p.captures) (inst_bytes tag p.code ++ proto_bytes tag (map (proto_by f) ps)),
    length-append (inst_bytes tag p.code) (proto_bytes tag (map (proto_by f) ps)),
    protos_length tag ps,
    length-append (capture_bytes p.captures) (inst_bytes tag p.code ++ proto_bytes tag ps),
    length-append (inst_bytes tag p.code) (proto_bytes tag ps),
  ) refl

  constants_length : (cs : List Constant) → length (constant_bytes (map (constant_by f) cs)) ≡ length (constant_bytes cs)
  constants_length [] = refl
  constants_length (number b ∷ cs) = omega (arith, constants_length cs)
  constants_length (text n ∷ cs) = omega (arith, constants_length cs)
  constants_length (other w ∷ cs) = omega (arith, constants_length cs)

  pub length_image : (wide : Bool) (s : State) → length (image wide (state_by f s)) ≡ length (image wide s)
  unfolding image
  length_image wide s =
      length-append (proto_bytes (inst_tag wide) (map (proto_by f) s.prototypes)) (constant_bytes (map (constant_by f) s.constants))
      ∙ ap₂ ◌+◌ (protos_length (inst_tag wide) s.prototypes) (constants_length s.constants)
      ∙ sym (length-append (proto_bytes (inst_tag wide) s.prototypes) (constant_bytes s.constants))
