-- With right tables the test of the code is the definition's.
use mathlib.Core.Path.{◌≡◌, refl, sym, ap, ap₂, ◌∙◌, subst}
use mathlib.Core.Bool.{Bool, true, false, not, ◌&&◌, ◌||◌, cond}
use mathlib.Core.Logic.{⊎_elim}
use mathlib.Core.List.{List, [], ◌∷◌, ◌++◌}
use Prim.Native.Nat.{ℕ, zero, suc, ◌+◌, ◌*◌, ◌<◌, ◌≤◌}
use native.Mathlib.Omega.{arith}
use lib.ListN.{length, get_or, set, take, length-append}
use lib.Seq.{get_or-take, get_or-set_same, get_or-set_other}
use lib.Dec.{eqb, leb, ltb}
use borrow.Author.Tests.{eqb-true, lt-ltb, le-ltb}
use Rattle.meaning.specs.Opcode.{bx}
use Rattle.meaning.specs.Constant.{Constant}
use Rattle.meaning.specs.State.{Proto}
use Rattle.meaning.specs.Image.{flag}
use Rattle.meaning.specs.Safety.{Holds}
use Rattle.meaning.specs.Fields.{word_at}
use Rattle.meaning.specs.Steps.{inst_at}
use Rattle.meaning.specs.Images.{inst_size}
use Rattle.reader.specs.Laid.{code_in, captures_in, proto_in}
use Rattle.reader.proofs.Marking.{opcode_there}
use Rattle.reader.specs.Lens.{lens_code, lens_proto}
use Rattle.reader.proofs.Lenses.{lens_small, seen_length, seen_there}
use Rattle.meaning.specs.declared.Instruction.{Instruction}
use Rattle.meaning.proofs.Lists.{lt_or_le}
use Rattle.reader.specs.Tests.{Bounds}
use Rattle.meaning.specs.Rules.{all, passes_at, entered, let_pass, capture_fits, is_text, lawful}
use Rattle.reader.specs.Marks.{Entered}
use Rattle.reader.specs.Right.{Table, Right}
use Rattle.reader.specs.Tests.{closure_seen, text_seen, seen_test, kind_seen, steps_seen, registers_seen, operands_seen, local_need, outer_need}
use Rattle.reader.proofs.Tested.{needs_are, lawful_is}

module _ {A : Type 0} (f : A → Bool) where
  -- a test at an index, by what is known of the element there
  passes_by : (xs : List A) (i : ℕ) (b : Bool) → Holds (λ x. b ≡ f x) xs i → b ≡ passes_at f xs i
  unfolding passes_at
  passes_by [] i b h = absurd h
  passes_by (x ∷ xs) zero b h = h
  passes_by (x ∷ xs) (suc i) b h = passes_by xs i b h

  passes_none : (xs : List A) (i : ℕ) → length xs ≤ i → passes_at f xs i ≡ false
  unfolding passes_at
  passes_none [] i h = refl
  passes_none (x ∷ xs) zero h = absurd (omega arith)
  passes_none (x ∷ xs) (suc i) h = passes_none xs i (omega arith)

module _ {A : Type 0} (P Q : A → Type 0) (f : (x : A) → P x → Q x) where
  holds_map : (xs : List A) (i : ℕ) → Holds P xs i → Holds Q xs i
  holds_map [] i h = h
  holds_map (x ∷ xs) zero h = f x h
  holds_map (x ∷ xs) (suc i) h = holds_map xs i h

module _ {A : Type 0} (P Q R : A → Type 0) (f : (x : A) → P x → Q x → R x) where
  holds_both : (xs : List A) (i : ℕ) → Holds P xs i → Holds Q xs i → Holds R xs i
  holds_both [] i h k = absurd h
  holds_both (x ∷ xs) zero h k = f x h k
  holds_both (x ∷ xs) (suc i) h k = holds_both xs i h k

-- a table with one entry more
module _ {A : Type 0} (f : A → ℕ) (m : List ℕ) (done : List A) (p : A) (n v : ℕ) (e : length done ≡ n) (h : n < length m) (is : v ≡ f p) (t : Table f m done) where
  at_end : (P : A → Type 0) (xs : List A) → P p → Holds P (xs ++ p ∷ []) (length xs)
  at_end P [] h = h
  at_end P (x ∷ xs) h = at_end P xs h

  before_end : (P : A → Type 0) (xs : List A) (i : ℕ) → Holds P xs i → Holds P (xs ++ p ∷ []) i
  before_end P [] i h = absurd h
  before_end P (x ∷ xs) zero h = h
  before_end P (x ∷ xs) (suc i) h = before_end P xs i h

  pub table_more : Table f (set m n v) (done ++ p ∷ [])
  table_more q l = ⊎_elim
      (λ (k : q < length done). before_end (λ x. get_or (set m n v) q 0 ≡ f x) done q (holds_map (λ x. get_or m q 0 ≡ f x) (λ x. get_or (set m n v) q 0 ≡ f x) (λ x g. get_or-set_other m n q v 0 (λ z. omega arith) ∙ g) done q (t q k)))
      (λ (k : length done ≤ q). let same : q ≡ length done = omega (arith, length-append done (p ∷ [])) in
      subst (λ (i : ℕ). Holds (λ x. get_or (set m n v) i 0 ≡ f x) (done ++ p ∷ []) i) (sym same)
      (at_end (λ x. get_or (set m n v) (length done) 0 ≡ f x) done (ap (λ (i : ℕ). get_or (set m n v) i 0) e ∙ get_or-set_same m n v 0 h ∙ is)))
      (lt_or_le q (length done))

-- a table is right by its front
pub table_front : {A : Type 0} (f : A → ℕ) (m : List ℕ) (xs : List A) (n : ℕ) → length xs ≤ n → Table f m xs → Table f (take n m) xs
table_front f m xs n h t q l = holds_map (λ x. get_or m q 0 ≡ f x) (λ x. get_or (take n m) q 0 ≡ f x) (λ x g. get_or-take n m q 0 (omega arith) ∙ g) xs q (t q l)

flag_one : (b : Bool) → eqb (flag b) 1 ≡ b
flag_one true = refl
flag_one false = refl

module _ (ks : List Constant) (ps : List Proto) (locals outers texts : List ℕ) (t : Right ks ps locals outers texts) (v : Bounds) (ep : v.prototypes ≡ length ps) (ek : v.constants ≡ length ks) where
  closure_is : (w : ℕ) → closure_seen v locals outers w ≡ passes_at (λ q. all (capture_fits v.registers v.captures) q.captures) ps w
  closure_is w = ⊎_elim
      (λ (h : w < v.prototypes). rw (lt-ltb w v.prototypes h) (passes_by (λ q. all (capture_fits v.registers v.captures) q.captures) ps w (leb (get_or locals w 0) v.registers && leb (get_or outers w 0) v.captures)
      (holds_both (λ p. get_or locals w 0 ≡ local_need p.captures) (λ p. get_or outers w 0 ≡ outer_need p.captures) (λ q. (leb (get_or locals w 0) v.registers && leb (get_or outers w 0) v.captures) ≡ all (capture_fits v.registers v.captures) q.captures)
      (λ p d e. ap₂ (λ (a b : ℕ). leb a v.registers && leb b v.captures) d e ∙ sym (needs_are v.registers v.captures p.captures)) ps w (t.locals_right w (omega arith)) (t.outers_right w (omega arith)))))
      (λ (h : v.prototypes ≤ w). rw (le-ltb w v.prototypes h) (sym (passes_none _ ps w (omega arith))))
      (lt_or_le w v.prototypes)

  text_is : (w : ℕ) → text_seen v texts w ≡ passes_at is_text ks w
  text_is w = ⊎_elim
      (λ (h : w < v.constants). rw (lt-ltb w v.constants h) (passes_by is_text ks w (eqb (get_or texts w 0) 1)
      (holds_map (λ c. get_or texts w 0 ≡ flag (is_text c)) (λ c. eqb (get_or texts w 0) 1 ≡ is_text c) (λ c e. ap (λ (a : ℕ). eqb a 1) e ∙ flag_one (is_text c)) ks w (t.names w (omega arith)))))
      (λ (h : v.constants ≤ w). rw (le-ltb w v.constants h) (sym (passes_none is_text ks w (omega arith))))
      (lt_or_le w v.constants)

  module _ (p : Proto) (er : v.registers ≡ p.registers) (ec : v.captures ≡ length p.captures) (marks : List ℕ) (i : ℕ) (x : Instruction) (small : x.opcode < 256) (right : p.registers ≡ 0 → eqb (get_or marks i 0) 1 ≡ entered p.code i) where
    pass_is : ((eqb x.opcode 20 && eqb x.a 0) && (eqb v.registers 0 && (ltb 0 i && not (eqb (get_or marks i 0) 1)))) ≡ let_pass p i x
    unfolding let_pass
    pass_is = ap (λ (b : Bool). (eqb x.opcode 20 && eqb x.a 0) && b) (ap (λ (n : ℕ). eqb n 0 && (ltb 0 i && not (eqb (get_or marks i 0) 1))) er ∙ go (eqb p.registers 0) refl)
      where
        go : (b : Bool) → eqb p.registers 0 ≡ b → (eqb p.registers 0 && (ltb 0 i && not (eqb (get_or marks i 0) 1))) ≡ (eqb p.registers 0 && (ltb 0 i && not (entered p.code i)))
        go true e = ap (λ (y : Bool). eqb p.registers 0 && (ltb 0 i && not y)) (right (eqb-true p.registers 0 e))
        go false e = rw e refl

    -- law 5 of the design: the code's test is the definition's
    pub seen_lawful : seen_test v locals outers texts marks (length p.code) i x ≡ lawful ks ps p i x
    unfolding seen_test
    seen_lawful =
        let made : closure_seen v locals outers (bx x) ≡ passes_at (λ q. all (capture_fits p.registers (length p.captures)) q.captures) ps (bx x) =
        closure_is (bx x) ∙ ap₂ (λ (r k : ℕ). passes_at (λ q. all (capture_fits r k) q.captures) ps (bx x)) er ec in
        ap₂ (λ (y z : Bool). ltb (kind_seen x.opcode) 4 && (steps_seen x.opcode (bx x) i (length p.code) && (y && z)))
        (ap₂ (λ (y z : Bool). y || z) (ap (λ (n : ℕ). registers_seen (kind_seen x.opcode) x.opcode x.a x.b x.c n) er) pass_is)
        (ap₂ (λ (n k : ℕ). operands_seen x.opcode x.a x.b x.c (bx x) n (closure_seen v locals outers (bx x)) (text_seen v texts (bx x)) k) ec ek
        ∙ ap₂ (λ (y z : Bool). operands_seen x.opcode x.a x.b x.c (bx x) (length p.captures) y z (length ks)) made (text_is (bx x)))
        ∙ sym (lawful_is ks ps p i x small)

-- ---- the prototype at the front

pub captures_length : (s : List ℕ) (at n : ℕ) → length (captures_in s at n) ≡ n
unfolding captures_in
captures_length s at zero = refl
captures_length s at (suc n) = ap suc (captures_length s (at + 5) n)

mark_one : (b : Bool) → eqb (cond b 1 0) 1 ≡ b
mark_one true = refl
mark_one false = refl

module _ (ks : List Constant) (ps : List Proto) (locals outers texts marks : List ℕ) (t : Right ks ps locals outers texts) (v : Bounds) (ep : v.prototypes ≡ length ps) (ek : v.constants ≡ length ks)
    (r : List ℕ) (tag : ℕ) (mend : Bool) (bytes : (i : ℕ) → get_or r i 0 < 256) (er : v.registers ≡ word_at r 7) (ec : v.captures ≡ word_at r 9) where
  abbrev code : List Instruction
  code = lens_code mend (code_in r tag (3 + inst_size tag) (13 + word_at r 9 * 5) (word_at r 11))

  small : (i : ℕ) → i < word_at r 11 → (inst_at code i).opcode < 256
  small i h = rw (seen_there r tag (3 + inst_size tag) (13 + word_at r 9 * 5) (word_at r 11) i h mend)
      (lens_small mend (word_at r 11) i _ (rw (opcode_there r tag (3 + inst_size tag) (13 + word_at r 9 * 5) (word_at r 11) i h) (bytes _)))

  pub front_lawful : (word_at r 7 ≡ 0 → Entered code (word_at r 11) marks) → (i : ℕ) → i < word_at r 11
      → seen_test v locals outers texts marks (word_at r 11) i (inst_at code i) ≡ lawful ks ps (lens_proto mend (proto_in r tag)) i (inst_at (lens_proto mend (proto_in r tag)).code i)
  unfolding proto_in
  front_lawful m i h =
      ap (λ (n : ℕ). seen_test v locals outers texts marks n i (inst_at code i)) (sym (seen_length mend r tag (3 + inst_size tag) (13 + word_at r 9 * 5) (word_at r 11)))
      ∙ seen_lawful ks ps locals outers texts t v ep ek (lens_proto mend (proto_in r tag)) er (ec ∙ sym (captures_length r 13 (word_at r 9))) marks i (inst_at code i) (small i h)
      (λ z. ap (λ (y : ℕ). eqb y 1) ((m z).each i h) ∙ mark_one (entered code i))
