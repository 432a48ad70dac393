-- What an instruction needs at its place, and code of which every instruction has it.
-- The idea: an instruction is judged with so many instructions before it and so many after it (Obeys). What is so with few around it is so
-- with more, so chunks are joined by weakening, without any arithmetic of indices. The jumps of a finished chunk lead to its own
-- instructions or just past the last. The limit of 16 bits stands inside the fact of a jump, and is used once, where a function ends.
use Prim.Native.Nat.{ℕ, zero, suc, ◌+◌, ◌≤◌, ◌<◌}
use mathlib.Core.Path.{◌≡◌, sym, ap, ◌∙◌, subst}
use mathlib.Core.Bool.{Bool, true, false, cond}
use mathlib.Core.List.{List, [], ◌∷◌, ◌++◌, append-nil, append_assoc}
use native.Mathlib.Nat.{le_refl, le_trans}
use native.Mathlib.Omega.{arith}
use lib.ListN.{length, length-append, get_or}
use Rattle.meaning.specs.Opcode.{bx, opcodes_written, is_continue, is_break, LoadK, Jmp, Test, Call, GetUpval, Closure, RegisterTryCatch}
use Rattle.meaning.specs.Constant.{Constant}
use Rattle.meaning.specs.State.{Capture, Proto, State, among}
use Rattle.meaning.specs.Safety.{met, name_due, IsText, All, Holds, Fits}
use Rattle.meaning.specs.declared.Instruction.{Instruction}

-- ---- what an instruction needs

-- what the instructions of an open function may speak of
pub record View : Type 0 where
  pub registers : ℕ
  pub captures : ℕ
  pub loops : ℕ
  pub constants : List Constant
  pub prototypes : List Proto

abbrev pub view : State → View
view s =
    record {
      registers = s.current.registers;
      captures = length s.current.captures;
      loops = s.current.loops;
      constants = s.constants;
      prototypes = s.prototypes;
    }

-- within one more loop
abbrev pub looped : View → View
looped v = record { registers = v.registers; captures = v.captures; loops = v.loops + 1; constants = v.constants; prototypes = v.prototypes }

-- what an instruction needs beyond its registers, by opcode
pub data Kind : Type 0 where
  jump test handler constant_of name_of capture_of closure_of calls plain never : Kind

abbrev pub kinds : List (List ℕ × Kind)
kinds =
    (name_due, name_of)
    ∷ (LoadK ∷ [], constant_of)
    ∷ (Jmp ∷ [], jump)
    ∷ (Test ∷ [], test)
    ∷ (Call ∷ [], calls)
    ∷ (GetUpval ∷ [], capture_of)
    ∷ (Closure ∷ [], closure_of)
    ∷ (RegisterTryCatch ∷ [], handler)
    ∷ (opcodes_written, plain)
    ∷ []

-- what stands in no row is never written
abbrev pub kind_by : List (List ℕ × Kind) → ℕ → Kind
kind_by [] op = never
kind_by (row ∷ others) op = cond (among op row.0) row.1 (kind_by others op)

abbrev pub kind : ℕ → Kind
kind op = kind_by kinds op

-- an offset leads from a place with so many instructions before it and so many after it to one of them, or just past the last
abbrev pub Lands : (before after offset : ℕ) → Type 0
Lands before after w = (w < 32768 → w ≤ after + 1) × (32768 ≤ w → (65536 ≤ w + before) × (w < 65536))

-- a Jmp is finished, or it is a break or continue within a loop
pub data Leap (loops before after : ℕ) (x : Instruction) : Type 0 where
  lands : x.a ≡ 0 → (before + after ≤ 32766 → Lands before after (bx x)) → Leap loops before after x
  continues : is_continue x ≡ true → 0 < loops → Leap loops before after x
  breaks : is_break x ≡ true → 0 < loops → Leap loops before after x

-- nothing is asked
abbrev pub Any : {A : Type 0} → A → Type 0
Any x = Unit {0}

-- a prototype whose creator has so many registers and captures
abbrev pub Creates : (registers captures : ℕ) → Proto → Type 0
Creates r n q = All (Fits r n) q.captures

abbrev pub ObeysAs : Kind → View → (before after : ℕ) → Instruction → Type 0
ObeysAs jump v b e x = Leap v.loops b e x
ObeysAs test v b e x = 1 ≤ e
ObeysAs handler v b e x = bx x ≤ e + 1
ObeysAs constant_of v b e x = Holds Any v.constants (bx x)
ObeysAs name_of v b e x = Holds IsText v.constants (bx x)
ObeysAs capture_of v b e x = x.b < v.captures
ObeysAs closure_of v b e x = Holds (Creates v.registers v.captures) v.prototypes (bx x)
ObeysAs calls v b e x = (0 < x.b) × (0 < x.c)
ObeysAs plain v b e x = Unit {0}
ObeysAs never v b e x = ⊥

-- an instruction with so many before it and so many after it
abbrev pub Obeys : View → (before after : ℕ) → Instruction → Type 0
Obeys v b e x = All (λ r. r < v.registers) (met x) × ObeysAs (kind x.opcode) v b e x

-- code with at least b instructions before it and e after it
abbrev pub Sane : View → (b e : ℕ) → List Instruction → Type 0
Sane v b e [] = Unit {0}
Sane v b e (x ∷ xs) = Obeys v b (length xs + e) x × Sane v (suc b) e xs

-- ---- lists

pub all_more : {A : Type 0} (P Q : A → Type 0) (xs : List A) → ((x : A) → P x → Q x) → All P xs → All Q xs
all_more P Q [] f h = tt
all_more P Q (x ∷ xs) f h = (f x h.0, all_more P Q xs f h.1)

pub all_append : {A : Type 0} (P : A → Type 0) (xs ys : List A) → All P xs → All P ys → All P (xs ++ ys)
all_append P [] ys h k = k
all_append P (x ∷ xs) ys h k = (h.0, all_append P xs ys h.1 k)

-- of any entry of a table, if of all and of what stands for the rest
pub all_table : {A : Type 0} (P : A → Type 0) (xs : List A) (d : A) (i : ℕ) → All P xs → P d → P (get_or xs i d)
all_table P [] d i h k = k
all_table P (x ∷ xs) d zero h k = h.0
all_table P (x ∷ xs) d (suc i) h k = all_table P xs d i h.1 k

pub holds_more : {A : Type 0} (P : A → Type 0) (xs ys : List A) (i : ℕ) → Holds P xs i → Holds P (xs ++ ys) i
holds_more P [] ys i h = absurd h
holds_more P (x ∷ xs) ys zero h = h
holds_more P (x ∷ xs) ys (suc i) h = holds_more P xs ys i h

pub holds_as : {A : Type 0} (P Q : A → Type 0) (xs : List A) (i : ℕ) → ((x : A) → P x → Q x) → Holds P xs i → Holds Q xs i
holds_as P Q [] i f h = h
holds_as P Q (x ∷ xs) zero f h = f x h
holds_as P Q (x ∷ xs) (suc i) f h = holds_as P Q xs i f h

pub holds_last : {A : Type 0} (P : A → Type 0) (xs : List A) (x : A) → P x → Holds P (xs ++ x ∷ []) (length xs)
holds_last P [] x h = h
holds_last P (y ∷ xs) x h = holds_last P xs x h

pub holds_new : {A : Type 0} (P : A → Type 0) (xs ys : List A) (x : A) (i : ℕ) → ys ≡ xs ++ x ∷ [] → i ≡ length xs → P x → Holds P ys i
holds_new P xs ys x i e k h = rw (e, k) (holds_last P xs x h)

pub holds_below : {A : Type 0} (P : A → Type 0) (xs : List A) (i : ℕ) → Holds P xs i → i < length xs
holds_below P [] i h = absurd h
holds_below P (x ∷ xs) zero h = omega arith
holds_below P (x ∷ xs) (suc i) h = let k = holds_below P xs i h in omega arith

pub one_more : {A : Type 0} {n : ℕ} (xs : List A) (x : A) → length xs < n → length (xs ++ x ∷ []) ≤ n
one_more xs x h = omega (arith, length-append xs (x ∷ []))

-- ---- what is so stays so

-- ys is xs and perhaps more
pub record Grown {A : Type 0} (xs ys : List A) : Type 0 where
  pub more : List A
  pub is : ys ≡ xs ++ more

pub grown_same : {A : Type 0} (xs : List A) → Grown xs xs
grown_same xs = record { more = []; is = sym (append-nil xs) }

pub grown_chain : {A : Type 0} {xs ys zs : List A} → Grown xs ys → Grown ys zs → Grown xs zs
grown_chain {A} {xs} p q = record { more = p.more ++ q.more; is = q.is ∙ ap (λ (l : List A). l ++ q.more) p.is ∙ append_assoc xs p.more q.more }

pub holds_grown : {A : Type 0} (P : A → Type 0) {xs ys : List A} (i : ℕ) → Grown xs ys → Holds P xs i → Holds P ys i
holds_grown {A} P {xs} i g h = subst (λ (l : List A). Holds P l i) (sym g.is) (holds_more P xs g.more i h)

-- w has all that v has, and perhaps more
pub record Wider (v w : View) : Type 0 where
  pub registers : v.registers ≤ w.registers
  pub captures : v.captures ≤ w.captures
  pub loops : v.loops ≤ w.loops
  pub constants : Grown v.constants w.constants
  pub prototypes : Grown v.prototypes w.prototypes

pub wider_same : (v : View) → Wider v v
wider_same v = record { registers = le_refl _; captures = le_refl _; loops = le_refl _; constants = grown_same _; prototypes = grown_same _ }

pub wider_chain : {u v w : View} → Wider u v → Wider v w → Wider u w
wider_chain p q =
    record {
      registers = le_trans p.registers q.registers;
      captures = le_trans p.captures q.captures;
      loops = le_trans p.loops q.loops;
      constants = grown_chain p.constants q.constants;
      prototypes = grown_chain p.prototypes q.prototypes;
    }

cond_more : (b : Bool) (r n r' n' i : ℕ) → r ≤ r' → n ≤ n' → i < cond b r n → i < cond b r' n'
cond_more true r n r' n' i h k l = le_trans l h
cond_more false r n r' n' i h k l = le_trans l k

pub fits_more : (r n r' n' : ℕ) (cs : List Capture) → r ≤ r' → n ≤ n' → All (Fits r n) cs → All (Fits r' n') cs
fits_more r n r' n' cs h k = all_more (Fits r n) (Fits r' n') cs (λ c. cond_more c.is_local r n r' n' c.index h k)

leap_more : (l b e l' b' e' : ℕ) (x : Instruction) → l ≤ l' → b ≤ b' → e ≤ e' → Leap l b e x → Leap l' b' e' x
leap_more l b e l' b' e' x hl hb he (lands z f) =
    lands z (λ h. let q = f (omega arith) in (λ k. let r = q.0 k in omega (arith, r), λ k. let r = q.1 k in omega (arith, r)))
leap_more l b e l' b' e' x hl hb he (continues z f) = continues z (le_trans f hl)
leap_more l b e l' b' e' x hl hb he (breaks z f) = breaks z (le_trans f hl)

fine_as_more : (κ : Kind) (v w : View) (b e b' e' : ℕ) (x : Instruction) → Wider v w → b ≤ b' → e ≤ e' → ObeysAs κ v b e x → ObeysAs κ w b' e' x
fine_as_more jump v w b e b' e' x g hb he h = leap_more v.loops b e w.loops b' e' x g.loops hb he h
fine_as_more test v w b e b' e' x g hb he h = le_trans h he
fine_as_more handler v w b e b' e' x g hb he h = omega arith
fine_as_more constant_of v w b e b' e' x g hb he h = holds_grown Any (bx x) g.constants h
fine_as_more name_of v w b e b' e' x g hb he h = holds_grown IsText (bx x) g.constants h
fine_as_more capture_of v w b e b' e' x g hb he h = le_trans h g.captures
fine_as_more closure_of v w b e b' e' x g hb he h =
    holds_grown _ (bx x) g.prototypes (holds_as _ _ v.prototypes (bx x) (λ q. fits_more _ _ _ _ q.captures g.registers g.captures) h)
fine_as_more calls v w b e b' e' x g hb he h = h
fine_as_more plain v w b e b' e' x g hb he h = tt
fine_as_more never v w b e b' e' x g hb he h = h

pub fine_more : (v w : View) (b e b' e' : ℕ) (x : Instruction) → Wider v w → b ≤ b' → e ≤ e' → Obeys v b e x → Obeys w b' e' x
fine_more v w b e b' e' x g hb he h = (all_more _ _ (met x) (λ r k. le_trans k g.registers) h.0, fine_as_more (kind x.opcode) v w b e b' e' x g hb he h.1)

pub sane_more : (v w : View) (b e b' e' : ℕ) (xs : List Instruction) → Wider v w → b ≤ b' → e ≤ e' → Sane v b e xs → Sane w b' e' xs
sane_more v w b e b' e' [] g hb he h = tt
sane_more v w b e b' e' (x ∷ xs) g hb he h = (fine_more v w b _ b' _ x g hb (omega arith) h.0, sane_more v w (suc b) e (suc b') e' xs g (omega arith) he h.1)

-- with more around it
pub obeys_at : (v : View) (b e b' e' : ℕ) (x : Instruction) → b ≤ b' → e ≤ e' → Obeys v b e x → Obeys v b' e' x
obeys_at v b e b' e' x hb he h = fine_more v v b e b' e' x (wider_same v) hb he h

pub sane_at : (v : View) (b e b' e' : ℕ) (xs : List Instruction) → b ≤ b' → e ≤ e' → Sane v b e xs → Sane v b' e' xs
sane_at v b e b' e' xs hb he h = sane_more v v b e b' e' xs (wider_same v) hb he h

-- a chunk at any place
pub shift : (v : View) (b e : ℕ) (xs : List Instruction) → Sane v 0 0 xs → Sane v b e xs
shift v b e xs h = sane_at v 0 0 b e xs (omega arith) (omega arith) h

pub widen : {v w : View} (xs : List Instruction) → Wider v w → Sane v 0 0 xs → Sane w 0 0 xs
widen {v} {w} xs g h = sane_more v w 0 0 0 0 xs g (le_refl _) (le_refl _) h

-- ---- within a loop

wider_looped : (v : View) → Wider v (looped v)
wider_looped v = record { registers = le_refl _; captures = le_refl _; loops = omega arith; constants = grown_same _; prototypes = grown_same _ }

pub wider_in_loop : {v w : View} → Wider v w → Wider (looped v) (looped w)
wider_in_loop g = record { registers = g.registers; captures = g.captures; loops = omega (arith, g.loops); constants = g.constants; prototypes = g.prototypes }

pub in_a_loop : (v : View) (xs : List Instruction) → Sane v 0 0 xs → Sane (looped v) 0 0 xs
in_a_loop v xs h = widen xs (wider_looped v) h

-- ---- chunks joined

pub join_at : (v : View) (b e : ℕ) (xs ys : List Instruction) → Sane v b (length ys + e) xs → Sane v (b + length xs) e ys → Sane v b e (xs ++ ys)
join_at v b e [] ys h k = sane_at v _ e b e ys (omega arith) (le_refl _) k
join_at v b e (x ∷ xs) ys h k = (
  obeys_at v b _ b _ x (le_refl _) (omega (arith, length-append xs ys)) h.0,
  join_at v (suc b) e xs ys h.1 (sane_at v _ e _ e ys (omega arith) (le_refl _) k),
)

pub join : (v : View) (xs ys : List Instruction) → Sane v 0 0 xs → Sane v 0 0 ys → Sane v 0 0 (xs ++ ys)
join v xs ys h k = join_at v 0 0 xs ys (shift v 0 _ xs h) (shift v _ 0 ys k)

-- a chunk, then code whose place is after it
pub join_after : (v : View) (xs ys : List Instruction) → Sane v 0 0 xs → Sane v (length xs) 0 ys → Sane v 0 0 (xs ++ ys)
join_after v xs ys h k = join_at v 0 0 xs ys (shift v 0 _ xs h) (sane_at v _ 0 _ 0 ys (omega arith) (le_refl _) k)

-- one instruction more at the end
pub plus_one : (v : View) (xs : List Instruction) (x : Instruction) → Sane v 0 0 xs → Obeys v 0 0 x → Sane v 0 0 (xs ++ x ∷ [])
plus_one v xs x h k = join v xs (x ∷ []) h (obeys_at v 0 0 0 _ x (le_refl _) (omega arith) k, tt)

-- one instruction more at the start
pub one_plus : (v : View) (x : Instruction) (xs : List Instruction) → Obeys v 0 0 x → Sane v 0 0 xs → Sane v 0 0 (x ∷ xs)
one_plus v x xs k h = (obeys_at v 0 0 0 _ x (le_refl _) (omega arith) k, shift v 1 0 xs h)
