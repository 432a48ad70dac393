-- What replacing keeps: how many instructions there are, and their marks. A lawful instruction is not replaced, nor is one that was replaced.
use Prim.Native.Nat.{ℕ, zero, suc, ◌+◌, ◌<◌}
use mathlib.Core.Path.{◌≡◌, refl, sym, ap, ap₂, ◌∙◌, subst}
use mathlib.Core.Bool.{Bool, true, false, not, ◌&&◌, ◌||◌, cond}
use mathlib.Core.List.{List, [], ◌∷◌, ◌++◌, map}
use native.Mathlib.Omega.{arith}
use lib.ListN.{length, get_or, length-map}
use lib.Dec.{eqb}
use borrow.Author.Tests.{eqb-true, ne_eqb}
use Rattle.meaning.specs.Opcode.{opcodes_written, inst, bx, no_mark, Jmp, Call, Return, jmp_continue, jmp_break}
use Rattle.meaning.specs.Constant.{Constant}
use Rattle.meaning.specs.State.{Proto, among}
use Rattle.meaning.specs.Steps.{inst_at, target}
use Rattle.meaning.specs.Safety.{All, met}
use Rattle.meaning.specs.Images.{Image}
use Rattle.meaning.specs.Rules.{all, inside, leads, let_pass, if_opcode, lawful}
use Rattle.meaning.specs.Mend.{replaced, mended, mended_from, mended_proto, mended_image, Entry, listed_from, listed}
use Rattle.meaning.specs.declared.Instruction.{Instruction}
use Rattle.meaning.proofs.Lists.{and_left, and_right}
use Rattle.meaning.proofs.Images.Assembled.{MarkFits, HeaderFits}
use Rattle.meaning.proofs.Images.Written.{Formed}

-- ---- one instruction

pub not_replaced : (n i : ℕ) (x : Instruction) → replaced n i x ≡ false → mended n i x ≡ x
unfolding mended
not_replaced n i x e = rw e refl

pub is_replaced : (n i : ℕ) (x : Instruction) → replaced n i x ≡ true → mended n i x ≡ inst Return 0 0 0 x.mark
unfolding mended
is_replaced n i x e = rw e refl

mark_kept : (n i : ℕ) (x : Instruction) → (mended n i x).mark ≡ x.mark
unfolding mended
mark_kept n i x = go (replaced n i x)
  where
    go : (b : Bool) → (cond b (inst Return 0 0 0 x.mark) x).mark ≡ x.mark
    go true = refl
    go false = refl

-- "mending twice is mending once", of one
replaced_once : (n i : ℕ) (x : Instruction) → replaced n i (mended n i x) ≡ false
unfolding replaced
replaced_once n i x = go (replaced n i x) refl
  where
    go : (b : Bool) → replaced n i x ≡ b → replaced n i (mended n i x) ≡ false
    go true e = rw (is_replaced n i x e) refl
    go false e = ap (replaced n i) (not_replaced n i x e) ∙ e

-- a lawful instruction stays
pub lawful_kept : (ks : List Constant) (earlier : List Proto) (p : Proto) (i : ℕ) (x : Instruction) → lawful ks earlier p i x ≡ true → replaced (length p.code) i x ≡ false
unfolding lawful replaced all leads
lawful_kept ks earlier p i x e =
    let e1 = and_right (among x.opcode opcodes_written) _ e in
    let e2 = and_right (all (inside (length p.code)) (leads i x)) _ e1 in
    go (eqb x.opcode Jmp) refl (and_left _ _ e1) (and_left _ _ e2)
  where
    go : (b : Bool) → eqb x.opcode Jmp ≡ b → all (inside (length p.code)) (leads i x) ≡ true → if_opcode x Jmp (eqb x.a 0) ≡ true
        → (b && ((eqb x.a jmp_continue || eqb x.a jmp_break) || not (inside (length p.code) (target i (bx x))))) ≡ false
    go false j stay z = refl
    go true j stay z =
        let a : x.a ≡ 0 = eqb-true x.a 0 (rw j at z) in
        rw (ne_eqb x.a jmp_continue (λ q. omega arith), ne_eqb x.a jmp_break (λ q. omega arith), and_left (inside (length p.code) (target i (bx x))) _ (rw j at stay)) refl

-- ---- code

pub mended_length : (n i : ℕ) (xs : List Instruction) → length (mended_from n i xs) ≡ length xs
unfolding mended_from
mended_length n i [] = refl
mended_length n i (x ∷ xs) = ap suc (mended_length n (i + 1) xs)

pub mended_at : (n i : ℕ) (xs : List Instruction) (k : ℕ) (d : Instruction) → k < length xs → get_or (mended_from n i xs) k d ≡ mended n (i + k) (get_or xs k d)
unfolding mended_from
mended_at n i [] k d h = absurd (omega arith)
mended_at n i (x ∷ xs) zero d h = ap (λ (m : ℕ). mended n m x) (let z : i ≡ i + 0 = omega arith in z)
mended_at n i (x ∷ xs) (suc k) d h = mended_at n (i + 1) xs k d (omega arith) ∙ ap (λ (m : ℕ). mended n m (get_or xs k d)) (let z : i + 1 + k ≡ i + suc k = omega arith in z)

-- no instruction is replaced
pub Whole : (n i : ℕ) → List Instruction → Type 0
Whole n i [] = Unit {0}
Whole n i (x ∷ xs) = (replaced n i x ≡ false) × Whole n (i + 1) xs

pub whole_code : (n i : ℕ) (xs : List Instruction) → Whole n i xs → mended_from n i xs ≡ xs
unfolding Whole mended_from
whole_code n i [] w = refl
whole_code n i (x ∷ xs) w = ap₂ (λ (y : Instruction) (ys : List Instruction). y ∷ ys) (not_replaced n i x w.0) (whole_code n (i + 1) xs w.1)

pub whole_list : (q n i : ℕ) (xs : List Instruction) → Whole n i xs → listed_from q n i xs ≡ []
unfolding Whole listed_from
whole_list q n i [] w = refl
whole_list q n i (x ∷ xs) w = rw w.0 (whole_list q n (i + 1) xs w.1)

pub whole_by : (n i : ℕ) (xs : List Instruction) (d : Instruction) → ((k : ℕ) → k < length xs → replaced n (i + k) (get_or xs k d) ≡ false) → Whole n i xs
unfolding Whole
whole_by n i [] d h = tt
whole_by n i (x ∷ xs) d h = (
  subst (λ (m : ℕ). replaced n m x ≡ false) (let z : i + 0 ≡ i = omega arith in z) (h 0 (omega arith)),
  whole_by n (i + 1) xs d (λ k l. subst (λ (m : ℕ). replaced n m (get_or xs k d) ≡ false) (let z : i + suc k ≡ i + 1 + k = omega arith in z) (h (suc k) (omega arith))),
)

pub mended_whole : (n i : ℕ) (xs : List Instruction) → Whole n i (mended_from n i xs)
unfolding Whole mended_from
mended_whole n i [] = tt
mended_whole n i (x ∷ xs) = (replaced_once n i x, mended_whole n (i + 1) xs)

-- ---- prototypes

abbrev pub WholeCode : Proto → Type 0
WholeCode p = Whole (length p.code) 0 p.code

pub whole_protos : (ps : List Proto) → All WholeCode ps → map mended_proto ps ≡ ps
whole_protos [] w = refl
whole_protos (p ∷ ps) w = ap₂ (λ (x : List Instruction) (l : List Proto). (let q : Proto = record { name = p.name; params = p.params; registers = p.registers; captures = p.captures; code = x } in q) ∷ l)
    (whole_code (length p.code) 0 p.code w.0) (whole_protos ps w.1)

pub whole_listed : (q : ℕ) (ps : List Proto) → All WholeCode ps → listed q ps ≡ []
unfolding listed
whole_listed q [] w = refl
whole_listed q (p ∷ ps) w = ap₂ (λ (x y : List Entry). x ++ y) (whole_list q (length p.code) 0 p.code w.0) (whole_listed (q + 1) ps w.1)

pub mended_protos : (ps : List Proto) → All WholeCode (map mended_proto ps)
mended_protos [] = tt
mended_protos (p ∷ ps) =
    (subst (λ (n : ℕ). Whole n 0 (mended_from (length p.code) 0 p.code)) (sym (mended_length (length p.code) 0 p.code)) (mended_whole (length p.code) 0 p.code), mended_protos ps)

-- ---- the form of an image

marks_fit : (tag n i : ℕ) (xs : List Instruction) → All (MarkFits tag) xs → All (MarkFits tag) (mended_from n i xs)
unfolding mended_from
marks_fit tag n i [] h = tt
marks_fit tag n i (x ∷ xs) h = (rw (mark_kept n i x) h.0, marks_fit tag n (i + 1) xs h.1)

headers_fit : (tag : ℕ) (ps : List Proto) → All (HeaderFits tag) ps → All (HeaderFits tag) (map mended_proto ps)
headers_fit tag [] h = tt
headers_fit tag (p ∷ ps) h = let f = h.0 in let l = mended_length (length p.code) 0 p.code in (
  record { name = f.name; params = f.params; registers = f.registers; captures = f.captures; some = omega (arith, f.some); code = omega (arith, f.code); marks = marks_fit tag (length p.code) 0 p.code f.marks },
  headers_fit tag ps h.1,
)

pub mended_formed : (tag : ℕ) (im : Image) → Formed tag im → Formed tag (mended_image im)
mended_formed tag im f = let l = length-map im.prototypes mended_proto in
    record { width = f.width; some = omega (arith, f.some); few = omega (arith, f.few); numbers = headers_fit tag im.prototypes f.numbers; constants = f.constants; values = f.values }
