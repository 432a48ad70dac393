-- What is seen through the lens. E1's changes nothing; E9's makes Return 0 0 0 of a jump that is replaced, which passes every test and enters nothing.
use mathlib.Core.Path.{◌≡◌, refl, sym, ap, ap₂, ◌∙◌}
use mathlib.Core.Bool.{Bool, true, false, ◌&&◌, ◌||◌, cond}
use mathlib.Core.Option.{Option, none, some}
use mathlib.Core.List.{List, [], ◌∷◌, map}
use Prim.Native.Nat.{ℕ, ◌+◌, ◌*◌, ◌<◌}
use native.Mathlib.Omega.{arith}
use lib.ListN.{length, get_or}
use lib.Dec.{eqb}
use borrow.Author.Tests.{ne_eqb, ltb-false}
use Rattle.meaning.specs.Fields.{word_at, fields}
use Rattle.meaning.specs.Check.{framed}
use Rattle.meaning.specs.Opcode.{inst, bx, no_mark, Jmp, Return}
use Rattle.meaning.specs.State.{Proto}
use Rattle.meaning.specs.Steps.{inst_at, target}
use Rattle.meaning.specs.Images.{Image, image_of}
use Rattle.meaning.specs.Follow.{at_first, stray}
use Rattle.meaning.specs.Rules.{some_of, is, leads, inside}
use Rattle.meaning.specs.Reader.{Read, refused, ruled, broken, ordered, read_as}
use Rattle.meaning.specs.Mend.{replaced, mended, read_copy, read_mended}
use Rattle.meaning.specs.declared.Instruction.{Instruction}
use Rattle.meaning.specs.declared.Cause.TheVariants.{ImageFrame}
use Rattle.meaning.proofs.Images.Fielded.{Bytes}
use Rattle.meaning.proofs.Images.Assembled.{Tagged}
use Rattle.meaning.proofs.Mend.{copy_read}
use Rattle.meaning.proofs.Mend.Laws.{not_replaced, is_replaced, mended_length, mended_at}
use Rattle.reader.specs.Tests.{Bounds}
use Rattle.reader.specs.Laid.{code_in}
use Rattle.reader.specs.Marks.{seen_opcode, first_lead, second_lead}
use Rattle.reader.specs.Tests.{closure_seen, text_seen, lawful_seen, replaced_seen, kind_seen, seen_test}
use Rattle.reader.specs.Lens.{lens, lens_code, lens_proto, ordered_by, read_by}
use Rattle.reader.proofs.Scanned.{byte_at, code_at, seen_is}
use Rattle.reader.proofs.Tested.{replaced_is}
use Rattle.reader.proofs.Marking.{or_false, leads_are, code_length, opcode_there, a_there, bx_there}

-- ---- code

lens_length : (m : Bool) (code : List Instruction) → length (lens_code m code) ≡ length code
lens_length true code = mended_length (length code) 0 code
lens_length false code = refl

pub lens_at : (m : Bool) (code : List Instruction) (i : ℕ) → i < length code → inst_at (lens_code m code) i ≡ lens m (length code) i (inst_at code i)
lens_at true code i h = mended_at (length code) 0 code i (inst Return 0 0 0 no_mark) h ∙ ap (λ (k : ℕ). mended (length code) k (inst_at code i)) (let z : 0 + i ≡ i = omega arith in z)
lens_at false code i h = refl

-- an opcode is a byte
pub lens_small : (m : Bool) (n i : ℕ) (x : Instruction) → x.opcode < 256 → (lens m n i x).opcode < 256
lens_small false n i x h = h
lens_small true n i x h = go (replaced n i x) refl
  where
    go : (b : Bool) → replaced n i x ≡ b → (mended n i x).opcode < 256
    go true e = rw (is_replaced n i x e) (omega arith)
    go false e = rw (not_replaced n i x e) h

-- ---- the tests

or_true : (b : Bool) → (b || true) ≡ true
or_true true = refl
or_true false = refl

module _ (v : Bounds) (locals outers texts marks : List ℕ) (n i : ℕ) where
  -- Return 0 0 0 passes
  return_passes : (mark : ℕ) → seen_test v locals outers texts marks n i (inst Return 0 0 0 mark) ≡ true
  unfolding seen_test kind_seen
  return_passes mark = refl

  passed : (m : Bool) (x : Instruction) → (seen_test v locals outers texts marks n i x || (m && replaced n i x)) ≡ seen_test v locals outers texts marks n i (lens m n i x)
  passed false x = or_false _
  passed true x = go (replaced n i x) refl
    where
      go : (b : Bool) → replaced n i x ≡ b → (seen_test v locals outers texts marks n i x || replaced n i x) ≡ seen_test v locals outers texts marks n i (mended n i x)
      go true e = rw (e, is_replaced n i x e) (or_true (seen_test v locals outers texts marks n i x) ∙ sym (return_passes x.mark))
      go false e = rw (e, not_replaced n i x e) (or_false (seen_test v locals outers texts marks n i x))

pub seen_length : (m : Bool) (s : List ℕ) (tag span at n : ℕ) → length (lens_code m (code_in s tag span at n)) ≡ n
seen_length m s tag span at n = lens_length m (code_in s tag span at n) ∙ code_length s tag span at n

module _ (s : List ℕ) (tag span at n i : ℕ) (h : i < n) where
  -- the instruction that is seen there
  pub seen_there : (m : Bool) → inst_at (lens_code m (code_in s tag span at n)) i ≡ lens m n i (inst_at (code_in s tag span at n) i)
  seen_there m = let l = code_length s tag span at n in
      lens_at m (code_in s tag span at n) i (omega arith) ∙ ap (λ (k : ℕ). lens m k i (inst_at (code_in s tag span at n) i)) l

  -- the test of the bytes is the test of what is seen
  pub passed_is : (v : Bounds) (locals outers texts marks : List ℕ) (m : Bool) (a b c : ℕ) → a ≡ get_or s (at + i * span + 4) 0 → b ≡ get_or s (at + i * span + 5) 0 → c ≡ get_or s (at + i * span + 6) 0
      → (closure text r : Bool) → closure ≡ closure_seen v locals outers (b * 256 + c) → text ≡ text_seen v texts (b * 256 + c)
      → r ≡ (lawful_seen v i n (get_or s (at + i * span + 3) 0) a b c (b * 256 + c) closure text (eqb (get_or marks i 0) 1) || (m && replaced_seen (get_or s (at + i * span + 3) 0) a (b * 256 + c) i n))
      → r ≡ seen_test v locals outers texts marks n i (inst_at (lens_code m (code_in s tag span at n)) i)
  passed_is v locals outers texts marks m a b c ea eb ec closure text r el et er =
      let x = inst_at (code_in s tag span at n) i in
      let there = code_at s tag span at n i h in
      let o_is = ap (λ (y : Instruction). y.opcode) there ∙ byte_at s (at + i * span + 3) 0 (at + i * span + 3) (omega arith) in
      let a-is = ap (λ (y : Instruction). y.a) there ∙ byte_at s (at + i * span + 3) 1 (at + i * span + 4) (omega arith) ∙ sym ea in
      let b-is = ap (λ (y : Instruction). y.b) there ∙ byte_at s (at + i * span + 3) 2 (at + i * span + 5) (omega arith) ∙ sym eb in
      let c_is = ap (λ (y : Instruction). y.c) there ∙ byte_at s (at + i * span + 3) 3 (at + i * span + 6) (omega arith) ∙ sym ec in
      let w-is : bx x ≡ b * 256 + c = ap₂ (λ (y z : ℕ). y * 256 + z) b-is c_is in
      let gone : replaced n i x ≡ replaced_seen (get_or s (at + i * span + 3) 0) a (b * 256 + c) i n = replaced_is i n x ∙ rw (o_is, a-is, w-is) refl in
      er ∙ ap₂ (λ (y z : Bool). y || (m && z)) (seen_is s tag span at n i h v locals outers texts marks a b c ea eb ec closure text _ el et refl) (sym gone)
      ∙ passed v locals outers texts marks n i m x ∙ ap (seen_test v locals outers texts marks n i) (sym (seen_there m))

-- ---- the steps

outside : (n j : ℕ) (o : Option ℕ) → inside n o ≡ false → j < n → is j o ≡ false
outside n j none e h = refl
outside n j (some k) e h = ne_eqb k j (λ q. let z = ltb-false k n e in omega arith)

-- what is replaced enters nothing
nowhere : (i j mark : ℕ) → some_of (is j) (leads i (inst Return 0 0 0 mark)) ≡ false
unfolding some_of leads
nowhere i j mark = refl

jump_leads : (i j : ℕ) (x : Instruction) → eqb x.opcode Jmp ≡ true → some_of (is j) (leads i x) ≡ is j (target i (bx x))
unfolding some_of leads
jump_leads i j x e = rw e (or_false _)

module _ (n i j : ℕ) (h : j < n) (x : Instruction) where
  abbrev leads_of : ℕ → Bool
  leads_of o = is j (first_lead o (bx x) i) || is j (second_lead o (bx x) i)

  -- the steps of what is seen are those of the opcode that is asked
  pub lens_leads : (m : Bool) → some_of (is j) (leads i (lens m n i x)) ≡ leads_of (seen_opcode m x.opcode x.a)
  unfolding replaced
  lens_leads false = leads_are x i j
  lens_leads true = go (eqb x.opcode Jmp) refl (eqb x.a 1 || eqb x.a 2) refl (inside n (target i (bx x))) refl
    where
      go : (p : Bool) → eqb x.opcode Jmp ≡ p → (q : Bool) → (eqb x.a 1 || eqb x.a 2) ≡ q → (r : Bool) → inside n (target i (bx x)) ≡ r
          → some_of (is j) (leads i (mended n i x)) ≡ leads_of (cond (p && q) 20 x.opcode)
      go true ep true eq r er = rw (is_replaced n i x (rw (ep, eq) refl)) (nowhere i j x.mark)
      go true ep false eq false er = rw (is_replaced n i x (rw (ep, eq, er) refl)) (nowhere i j x.mark ∙ sym (sym (leads_are x i j) ∙ jump_leads i j x ep ∙ outside n j (target i (bx x)) er h))
      go true ep false eq true er = rw (not_replaced n i x (rw (ep, eq, er) refl)) (leads_are x i j)
      go false ep q eq r er = rw (not_replaced n i x (rw ep refl)) (leads_are x i j)

-- by the bytes that are read
pub entered_there : (s : List ℕ) (tag span at n i : ℕ) → i < n → (m : Bool) (o w : ℕ) (a b : Option ℕ)
    → o ≡ seen_opcode m (get_or s (at + i * span + 3) 0) (get_or s (at + i * span + 4) 0) → w ≡ word_at s (at + i * span + 5) → a ≡ first_lead o w i → b ≡ second_lead o w i
    → (j : ℕ) → j < n → some_of (is j) (leads i (inst_at (lens_code m (code_in s tag span at n)) i)) ≡ (is j a || is j b)
entered_there s tag span at n i h m o w a b eo ew ea eb j l =
    let x = inst_at (code_in s tag span at n) i in
    let o_is : seen_opcode m x.opcode x.a ≡ o = ap₂ (seen_opcode m) (opcode_there s tag span at n i h) (a_there s tag span at n i h) ∙ sym eo in
    let w-is : bx x ≡ w = bx_there s tag span at n i h ∙ sym ew in
    ap (λ (y : Instruction). some_of (is j) (leads i y)) (seen_there s tag span at n i h m) ∙ lens_leads n i j l x m
    ∙ ap₂ (λ (y z : Option ℕ). is j y || is j z) (ap₂ (λ (y z : ℕ). first_lead y z i) o_is w-is ∙ sym ea) (ap₂ (λ (y z : ℕ). second_lead y z i) o_is w-is ∙ sym eb)

-- ---- images

lens_none : (ps : List Proto) → map (lens_proto false) ps ≡ ps
lens_none [] = refl
lens_none (p ∷ ps) = ap (λ (l : List Proto). p ∷ l) (lens_none ps)

module _ (tag : ℕ) (s : List ℕ) where
  -- E1's is the lens that changes nothing
  pub read_plain : read_by false tag s ≡ read_as tag s
  unfolding read_by read_as
  read_plain = ap (λ (r : Read). cond (framed s) r (refused ImageFrame (length (fields s)))) (go (stray tag at_first (fields s)))
    where
      go : (o : Option ℕ) → ordered_by false tag (fields s) o ≡ ordered tag (fields s) o
      go none = ap (λ (ps : List Proto). (let im : Image = record { prototypes = ps; constants = (image_of tag (fields s)).constants } in ruled im (broken im))) (lens_none (image_of tag (fields s)).prototypes)
      go (some place) = refl

  -- E9's is E1 of the mended copy
  pub read_through : Tagged tag → Bytes s → read_by true tag s ≡ read_mended tag s
  unfolding read_by read_mended
  read_through ok b = ap (λ (r : Read). cond (framed s) r (refused ImageFrame (length (fields s)))) (go (stray tag at_first (fields s)) refl)
    where
      go : (o : Option ℕ) → stray tag at_first (fields s) ≡ o → ordered_by true tag (fields s) o ≡ read_copy tag s o
      go none e = sym (copy_read tag ok s b e)
      go (some place) e = refl
