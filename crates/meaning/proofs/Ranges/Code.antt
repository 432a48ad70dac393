-- Instructions, and code that is joined and patched: all of it fits where its parts do.
-- The idea: a 16-bit number is taken apart into two bytes whatever it is, and patching sets only that, so no offset is looked at.
use Prim.Native.Nat.{ℕ, suc, ◌≤◌, ◌<◌}
use mathlib.Core.Path.{◌≡◌, refl, sym}
use mathlib.Core.Bool.{Bool, true, false, ◌&&◌, true≢false}
use mathlib.Core.List.{List, [], ◌∷◌, ◌++◌}
use native.Mathlib.Omega.{arith}
use lib.Dec.{eqb, leb}
use borrow.Author.Tests.{eqb-true, leb-true}
use Rattle.meaning.specs.Opcode.{opcodes_written, inst, inst_bx, no_mark, is_continue, is_break, is_end_jump, unary_opcode, binary_opcode, Move, Jmp, Not, Neg, Add, Lt, Eq, Neq, Gt, Gte, Lte, Sub, Div, Mod, Mul, Pow, Test, RegisterTryCatch, DeregisterTryCatch}
use Rattle.meaning.specs.State.{Chunk, among}
use Rattle.meaning.specs.Chunk.{joined, each_at, jump_by, patch_loop, open_loop, loop_code, branch_code, patch_ends, patch_first, open_try, try_code}
use Rattle.meaning.specs.Functions.{last_mark}
use Rattle.meaning.specs.Safety.{All}
use Rattle.meaning.specs.declared.Instruction.{Instruction}
use Rattle.meaning.proofs.Lists.{and_left, and_right}
use Rattle.meaning.proofs.Grows.{cond_either}
use Rattle.meaning.proofs.Safe.Obeys.{all_append, all_table}
use Rattle.meaning.proofs.Ranges.Fits.{Written, InstFits}

-- the operators' opcodes
pub unary_written : (op : ℕ) → Written (unary_opcode op)
unary_written op = all_table Written (Move ∷ Not ∷ Neg ∷ []) Move op (refl, (refl, (refl, tt))) refl

pub binary_written : (op : ℕ) → Written (binary_opcode op)
binary_written op =
    all_table Written (Move ∷ Add ∷ Lt ∷ Eq ∷ Neq ∷ Gt ∷ Gte ∷ Lte ∷ Sub ∷ Div ∷ Mod ∷ Mul ∷ Pow ∷ []) Move op
    (refl, (refl, (refl, (refl, (refl, (refl, (refl, (refl, (refl, (refl, (refl, (refl, (refl, tt))))))))))))) refl

-- no number of the list is above n
abbrev bounded : ℕ → List ℕ → Bool
bounded n [] = true
bounded n (y ∷ ys) = leb y n && bounded n ys

among_bounded : (n x : ℕ) (ys : List ℕ) → bounded n ys ≡ true → among x ys ≡ true → x ≤ n
among_bounded n x [] h e = absurd (true≢false (sym e))
among_bounded n x (y ∷ ys) h e = go (eqb x y) refl (λ k. among_bounded n x ys (and_right (leb y n) _ h) k)
  where
    go : (b : Bool) → eqb x y ≡ b → (among x ys ≡ true → x ≤ n) → x ≤ n
    go true q k = rw (eqb-true x y q) (leb-true y n (and_left (leb y n) _ h))
    go false q k = k (rw q at e)

-- an opcode that is written is a byte
pub written_below : (op : ℕ) → Written op → op ≤ 50
written_below op w = among_bounded 50 op opcodes_written refl w

module _ (Marks : ℕ → Type 0) where
  -- code that fits
  abbrev pub Code : List Instruction → Type 0
  Code = All (InstFits Marks)

  -- a chunk: its result is a register
  pub record Good (c : Chunk) : Type 0 where
    pub code : Code c.code
    pub result : c.result < 255

  abbrev pub Row : List Chunk → Type 0
  Row = All Good

  -- ---- instructions

  pub plain : (op a b c m : ℕ) → Written op → a < 256 → b < 256 → c < 256 → Marks m → InstFits Marks (inst op a b c m)
  plain op a b c m w ha hb hc hm = record { written = w; a = ha; b = hb; c = hc; mark = hm }

  pub numbered : (op a n m : ℕ) → Written op → a < 256 → Marks m → InstFits Marks (inst_bx op a n m)
  numbered op a n m w ha hm = record { written = w; a = ha; b = omega arith; c = omega arith; mark = hm }

  pub last_fits : (x : Instruction) (xs : List Instruction) → Code (x ∷ xs) → Marks (last_mark x xs)
  last_fits x [] h = h.0.mark
  last_fits x (y ∷ ys) h = last_fits y ys h.1

  -- ---- code joined

  pub join : (xs ys : List Instruction) → Code xs → Code ys → Code (xs ++ ys)
  join xs ys h k = all_append (InstFits Marks) xs ys h k

  -- one instruction more at the end
  pub plus_one : (xs : List Instruction) (x : Instruction) → Code xs → InstFits Marks x → Code (xs ++ x ∷ [])
  plus_one xs x h k = join xs (x ∷ []) h (k, tt)

  pub joined_fits : (cs : List Chunk) → Row cs → Code (joined cs)
  joined_fits [] h = tt
  joined_fits (c ∷ cs) h = join c.code (joined cs) h.0.code (joined_fits cs h.1)

  -- ---- code patched

  jump_fits : (x : Instruction) (n : ℕ) → InstFits Marks x → InstFits Marks (jump_by x n)
  jump_fits x n h = numbered x.opcode 0 n x.mark h.written (omega arith) h.mark

  each_fits : (f : ℕ → Instruction → Instruction) → ((i : ℕ) (x : Instruction) → InstFits Marks x → InstFits Marks (f i x)) → (i : ℕ) (xs : List Instruction) → Code xs → Code (each_at f i xs)
  each_fits f h i [] k = tt
  each_fits f h i (x ∷ xs) k = (h i x k.0, each_fits f h (suc i) xs k.1)

  pub patch_loop_fits : (goal : ℕ) (xs : List Instruction) → Code xs → Code (patch_loop goal xs)
  patch_loop_fits goal xs h =
      each_fits _ (λ i x k. cond_either (InstFits Marks) (is_continue x) (jump_fits x _ k) (cond_either (InstFits Marks) (is_break x) (jump_fits x _ k) k)) 0 xs h

  pub patch_ends_fits : (xs : List Instruction) → Code xs → Code (patch_ends xs)
  patch_ends_fits xs h = each_fits _ (λ i x k. cond_either (InstFits Marks) (is_end_jump x) (jump_fits x _ k) k) 0 xs h

  pub patch_first_fits : (n : ℕ) (xs : List Instruction) → Code xs → Code (patch_first n xs)
  patch_first_fits n [] h = tt
  patch_first_fits n (x ∷ xs) h = cond_either Code (is_end_jump x) (jump_fits x n h.0, h.1) (h.0, patch_first_fits n xs h.1)

  -- Test, a jump, a body, one instruction more
  pub guarded : (r c m n : ℕ) (body : List Instruction) (x : Instruction) → r < 255 → c < 256 → Marks m → Code body → InstFits Marks x
      → Code (inst Test r r c m ∷ inst_bx Jmp 0 n m ∷ (body ++ x ∷ []))
  guarded r c m n body x hr hc hm hb hx = (plain Test r r c m refl (omega arith) (omega arith) hc hm, (numbered Jmp 0 n m refl (omega arith) hm, plus_one body x hb hx))

  pub loop_fits : (goal m : ℕ) (before condition : List Instruction) (r : ℕ) (body : List Instruction) → Marks m → Code before → Code condition → r < 255 → Code body → Code (loop_code goal m before condition r body)
  loop_fits goal m before condition r body hm hb hc hr hd =
      patch_loop_fits goal (open_loop m before condition r body)
      (join before _ hb (join condition _ hc (guarded r 0 m _ body _ hr (omega arith) hm hd (numbered Jmp 0 _ m refl (omega arith) hm))))

  pub branch_fits : (m : ℕ) (c : Chunk) (body : List Instruction) → Marks m → Good c → Code body → Code (branch_code m c body)
  branch_fits m c body hm hc hb = join c.code _ hc.code (guarded c.result 0 m _ body _ hc.result (omega arith) hm hb (plain Jmp 0 0 0 m refl (omega arith) (omega arith) (omega arith) hm))

  pub try_fits : Marks no_mark → (body catch : List Instruction) → Code body → Code catch → Code (try_code body catch)
  try_fits absent body catch hb hc =
      patch_first_fits _ (open_try body catch) (
        numbered RegisterTryCatch 0 _ no_mark refl (omega arith) absent,
        join body _ hb (plain DeregisterTryCatch 0 0 0 no_mark refl (omega arith) (omega arith) (omega arith) absent, (plain Jmp 0 0 0 no_mark refl (omega arith) (omega arith) (omega arith) absent, hc)),
      )
