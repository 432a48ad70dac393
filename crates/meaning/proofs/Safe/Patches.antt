-- Jumps that are patched (Chunk.antt): loops, ifs and tries are sane where their parts are.
-- The idea: a body is judged within one more loop, where breaks and continues may stand; patching the loop gives each of them an offset
-- that lands, so the loop's code is sane outside. A `Jmp 0 0 0` that nobody patched leads to itself, so nothing need be known of it.
-- A try patches the first such jump: its own, or an earlier one, from which the way to the end is longer.
use Prim.Native.Nat.{ℕ, zero, suc, ◌+◌, ◌-◌, ◌*◌, ◌/◌, ◌%◌, ◌≤◌, ◌<◌}
use mathlib.Core.Path.{◌≡◌, refl, sym, ap, ◌∙◌, subst}
use mathlib.Core.Bool.{Bool, true, false, cond, true≢false}
use mathlib.Core.List.{List, [], ◌∷◌, ◌++◌}
use native.Mathlib.Nat.{le_refl}
use native.Mathlib.Omega.{arith}
use lib.ListN.{length, length-append}
use lib.Dec.{eqb, leb}
use borrow.Author.Tests.{eqb-true}
use Rattle.meaning.specs.Opcode.{inst, inst_bx, back, is_continue, is_break, is_end_jump, no_mark, Jmp, Test, RegisterTryCatch, DeregisterTryCatch}
use Rattle.meaning.specs.State.{Chunk}
use Rattle.meaning.specs.Chunk.{each_at, jump_by, continue_offset, continue_goal, patch_jump, patch_loop, open_loop, body_place, loop_code, branch_code, patch_end, patch_ends, patch_first, try_code}
use Rattle.meaning.specs.declared.Instruction.{Instruction}
use Rattle.meaning.proofs.Lists.{and_left}
use Rattle.meaning.proofs.Safe.Obeys.{Kind, jump, test, handler, constant_of, name_of, capture_of, closure_of, calls, plain, never, View, looped, Obeys, ObeysAs, Sane, Lands, lands, continues, breaks, kind, obeys_at, shift, in_a_loop, join_at, join, join_after}

-- ---- offsets

-- a number as b and c hold it
abbrev pub encoded : ℕ → ℕ
encoded n = n / 256 % 256 * 256 + n % 256

pub encoded_small : (n : ℕ) → n < 65536 → encoded n ≡ n
encoded_small n h = omega arith

pub lands_on : (b e n : ℕ) → n ≤ e + 1 → b + e ≤ 32766 → Lands b e (encoded n)
lands_on b e n h k = rw (encoded_small n (omega arith)) (λ l. h, λ l. absurd (omega arith))

back_small : (n : ℕ) → 0 < n → n < 65536 → back n ≡ 65536 - n
back_small n h k = omega arith

pub lands_back : (b e n : ℕ) → n ≤ b → b + e ≤ 32766 → Lands b e (encoded (back n))
lands_back b e zero h k = (λ l. omega arith, λ l. absurd (omega arith))
lands_back b e (suc n) h k = rw (back_small (suc n) (omega arith) (omega arith), encoded_small (65536 - suc n) (omega arith)) (λ l. absurd (omega arith), λ l. omega arith)

-- ---- one jump

-- a choice, with what the test says in each branch
pub choice : {A : Type 0} (P : A → Type 0) (b : Bool) {x y : A} → (b ≡ true → P x) → (b ≡ false → P y) → P (cond b x y)
choice P true h k = h refl
choice P false h k = k refl

true_false {ℓ} : {A : Type ℓ} (b : Bool) → b ≡ true → b ≡ false → A
true_false b h k = absurd (true≢false (sym h ∙ k))

-- a Jmp whose offset lands
jump_fine : (v : View) (b e : ℕ) (x : Instruction) (n : ℕ) → eqb x.opcode Jmp ≡ true → (b + e ≤ 32766 → Lands b e (encoded n)) → Obeys v b e (jump_by x n)
jump_fine v b e x n h k = subst (λ (p : ℕ). Obeys v b e (inst_bx p 0 n x.mark)) (sym (eqb-true x.opcode Jmp h)) (tt, lands refl k)

-- what is no break or continue needs no loop
out_as : (κ : Kind) (v : View) (b e : ℕ) (x : Instruction) → is_continue x ≡ false → is_break x ≡ false → ObeysAs κ (looped v) b e x → ObeysAs κ v b e x
out_as jump v b e x h k (lands z f) = lands z f
out_as jump v b e x h k (continues z f) = true_false (is_continue x) z h
out_as jump v b e x h k (breaks z f) = true_false (is_break x) z k
out_as test v b e x h k l = l
out_as handler v b e x h k l = l
out_as constant_of v b e x h k l = l
out_as name_of v b e x h k l = l
out_as capture_of v b e x h k l = l
out_as closure_of v b e x h k l = l
out_as calls v b e x h k l = l
out_as plain v b e x h k l = l
out_as never v b e x h k l = l

-- a continue goes to a place of its loop, ahead or back
lands_at : (b e goal : ℕ) → goal ≤ b + suc e → b + e ≤ 32766 → Lands b e (encoded (continue_offset goal b))
lands_at b e goal h k = choice (λ n. Lands b e (encoded n)) (leb b goal) (λ z. lands_on b e _ (omega arith) k) (λ z. lands_back b e _ (omega arith) k)

-- continue goes to its goal, break just past the loop's end
patch_jump_fine : (v : View) (goal size b e : ℕ) (x : Instruction) → goal ≤ size → size ≤ b + suc e → Obeys (looped v) b e x → Obeys v b e (patch_jump goal size b x)
patch_jump_fine v goal size b e x g q h =
    choice (Obeys v b e) (is_continue x) (λ z. jump_fine v b e x _ (and_left _ _ z) (λ k. lands_at b e goal (omega arith) k)) λ z.
    choice (Obeys v b e) (is_break x) (λ y. jump_fine v b e x _ (and_left _ _ y) (λ k. lands_on b e _ (omega arith) k)) λ y.
    (h.0, out_as (kind x.opcode) v b e x z y h.1)

is_end_op : (x : Instruction) → is_end_jump x ≡ true → eqb x.opcode Jmp ≡ true
is_end_op x e = and_left _ _ (and_left _ _ (and_left _ _ e))

-- the jump to the end of an if goes just past it
patch_end_fine : (v : View) (size b e : ℕ) (x : Instruction) → size ≤ b + suc e → Obeys v b e x → Obeys v b e (patch_end size b x)
patch_end_fine v size b e x q h = choice (Obeys v b e) (is_end_jump x) (λ z. jump_fine v b e x _ (is_end_op x z) (λ k. lands_on b e _ (omega arith) k)) (λ z. h)

-- ---- all of a chunk's jumps

length_each : (f : ℕ → Instruction → Instruction) (i : ℕ) (xs : List Instruction) → length (each_at f i xs) ≡ length xs
length_each f i [] = refl
length_each f i (x ∷ xs) = ap suc (length_each f (suc i) xs)

each_sane : (v w : View) (f : ℕ → Instruction → Instruction) (size : ℕ) → ((b e : ℕ) (x : Instruction) → size ≤ b + suc e → Obeys v b e x → Obeys w b e (f b x))
    → (b : ℕ) (xs : List Instruction) → size ≤ b + length xs → Sane v b 0 xs → Sane w b 0 (each_at f b xs)
each_sane v w f size h b [] q k = tt
each_sane v w f size h b (x ∷ xs) q k = (
  obeys_at w b _ b _ (f b x) (le_refl _) (omega (arith, length_each f (suc b) xs)) (h b (length xs + 0) x (omega arith) k.0),
  each_sane v w f size h (suc b) xs (omega arith) k.1,
)

pub patch_loop_sane : (v : View) (goal : ℕ) (code : List Instruction) → goal ≤ length code → Sane (looped v) 0 0 code → Sane v 0 0 (patch_loop goal code)
patch_loop_sane v goal code g h = each_sane (looped v) v _ _ (λ b e x q k. patch_jump_fine v goal _ b e x g q k) 0 code (omega arith) h

pub patch_ends_sane : (v : View) (code : List Instruction) → Sane v 0 0 code → Sane v 0 0 (patch_ends code)
patch_ends_sane v code h = each_sane v v _ _ (λ b e x q k. patch_end_fine v _ b e x q k) 0 code (omega arith) h

-- ---- the shapes of code with jumps

length_one : (xs : List Instruction) (x : Instruction) → length (xs ++ x ∷ []) ≡ length xs + 1
length_one xs x = length-append xs (x ∷ [])

-- Test, a jump at most past a body and one more instruction, the body, that instruction
pub guarded : (v : View) (b r c m n m' : ℕ) (body : List Instruction) (x : Instruction) → n ≤ length body + 2 → r < v.registers → Sane v 0 0 body → Obeys v (b + 2 + length body) 0 x
    → Sane v b 0 (inst Test r r c m ∷ inst_bx Jmp 0 n m' ∷ (body ++ x ∷ []))
guarded v b r c m n m' body x hn hr hb hx = (
  ((hr, (hr, tt)), omega arith),
  (
    (tt, lands refl (λ k. lands_on _ _ n (omega (arith, length_one body x)) k)),
    join_at v _ 0 body (x ∷ []) (shift v _ _ body hb) (obeys_at v _ 0 _ _ x (omega arith) (omega arith) hx, tt),
  ),
)

-- a Jmp that leads to itself
stays : (b e : ℕ) → b + e ≤ 32766 → Lands b e 0
stays b e k = (λ l. omega arith, λ l. absurd (omega arith))

-- the jump back stands behind the body
loop_length : (mark : ℕ) (before condition : List Instruction) (r : ℕ) (body : List Instruction) → length (open_loop mark before condition r body) ≡ body_place before condition + length body + 1
loop_length mark before condition r body = simp length-append (omega arith)

-- in either mode continue goes to a place within the loop
pub goal_inside : (mode increment size : ℕ) → increment ≤ size → continue_goal mode increment ≤ size
goal_inside mode increment size h = choice (λ n. n ≤ size) (eqb mode 1) (λ z. h) (λ z. omega arith)

-- what stands before a loop's condition, the condition and its register, the body
pub loop_sane : (v : View) (goal mark : ℕ) (before condition : List Instruction) (r : ℕ) (body : List Instruction) → goal ≤ body_place before condition + length body
    → Sane v 0 0 before → Sane v 0 0 condition → r < v.registers → Sane (looped v) 0 0 body → Sane v 0 0 (loop_code goal mark before condition r body)
loop_sane v goal mark before condition r body hg hb hc hr hd =
    patch_loop_sane v goal (open_loop mark before condition r body) (omega (arith, hg, loop_length mark before condition r body))
    (join (looped v) before _ (in_a_loop v before hb)
    (join_after (looped v) condition _ (in_a_loop v condition hc)
    (guarded (looped v) _ r 0 mark _ mark body (inst_bx Jmp 0 _ mark) (omega arith) hr hd (tt, lands refl (λ k. lands_back _ _ _ (omega arith) k)))))

pub branch_sane : (v : View) (mark : ℕ) (c : Chunk) (body : List Instruction) → Sane v 0 0 c.code → c.result < v.registers → Sane v 0 0 body → Sane v 0 0 (branch_code mark c body)
branch_sane v mark c body hc hr hb =
    join v c.code _ hc (guarded v 0 c.result 0 mark _ mark body (inst Jmp 0 0 0 mark) (omega arith) hr hb (tt, lands refl (λ k. stays _ _ k)))

-- ---- try

length_first : (o : ℕ) (xs : List Instruction) → length (patch_first o xs) ≡ length xs
length_first o [] = refl
length_first o (x ∷ xs) = choice (λ ys. length ys ≡ suc (length xs)) (is_end_jump x) (λ z. refl) (λ z. ap suc (length_first o xs))

-- the end of a try's body, and what follows
abbrev left_try : List Instruction → List Instruction
left_try ys = inst DeregisterTryCatch 0 0 0 no_mark ∷ inst Jmp 0 0 0 no_mark ∷ ys

first_sane : (v : View) (b o : ℕ) (xs ys : List Instruction) → o ≤ length ys + 1 → Sane v b 0 (xs ++ left_try ys) → Sane v b 0 (patch_first o (xs ++ left_try ys))
first_sane v b o [] ys h k = (k.0, ((tt, lands refl (λ l. lands_on _ _ o (omega arith) l)), k.1.1))
first_sane v b o (x ∷ xs) ys h k =
    choice (Sane v b 0) (is_end_jump x)
    (λ z. (jump_fine v b _ x o (is_end_op x z) (λ l. lands_on _ _ o (omega (arith, length-append xs (left_try ys))) l), k.1))
    (λ z. (obeys_at v b _ b _ x (le_refl _) (omega (arith, length_first o (xs ++ left_try ys))) k.0, first_sane v (suc b) o xs ys h k.1))

-- the handler stands after the body, the Deregister and the jump
try_tail : (v : View) (body catch : List Instruction) → Sane v 0 0 body → Sane v 0 0 catch → Sane v 1 0 (body ++ left_try catch)
try_tail v body catch hb hc = join_at v 1 0 body _ (shift v _ _ body hb) ((tt, tt), ((tt, lands refl (λ k. stays _ _ k)), shift v _ 0 catch hc))

handler_fine : (v : View) (o n m : ℕ) (xs : List Instruction) → n ≤ length xs + 1 → Obeys v 0 (length (patch_first o xs) + 0) (inst_bx RegisterTryCatch 0 n m)
handler_fine v o n m xs h = (tt, omega (arith, length_first o xs))

pub try_sane : (v : View) (body catch : List Instruction) → Sane v 0 0 body → Sane v 0 0 catch → Sane v 0 0 (try_code body catch)
try_sane v body catch hb hc = (
  handler_fine v _ _ no_mark (body ++ left_try catch) (omega (arith, length-append body (left_try catch))),
  first_sane v 1 _ body catch (omega arith) (try_tail v body catch hb hc),
)
