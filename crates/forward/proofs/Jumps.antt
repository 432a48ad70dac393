-- Jumps that are set when the code that they leap over is there. A list that is known in parts, p ++ Test ∷ jump ∷ q, has at place `length p + 1` the jump,
-- and from there to its end are `length q + 1` instructions; so what an operation sets is what the definition writes when it joins the parts.
use Prim.Native.Nat.{ℕ, ◌+◌, ◌-◌}
use mathlib.Core.Path.{◌≡◌, refl, sym, ap, ◌∙◌}
use mathlib.Core.List.{List, [], ◌∷◌, ◌++◌, append_assoc}
use native.Mathlib.Omega.{arith}
use lib.ListN.{length, set, take, drop, length-append}
use lib.Seq.{take_at, drop_at, set_at}
use Rattle.meaning.specs.Opcode.{inst, inst_bx, back, no_mark, Jmp, Test, RegisterTryCatch, DeregisterTryCatch}
use Rattle.meaning.specs.Chunk.{continue_goal, patch_loop, open_loop, loop_code, patch_first, open_try, try_code}
use Rattle.meaning.specs.declared.Instruction.{Instruction}
use Rattle.forward.specs.Forward.{Config, config, jump_here, end_loop, end_try}

-- an instruction set anew, in a list that is known in parts
pub set_in : (l p q : List Instruction) (j i : Instruction) (k : ℕ) → l ≡ p ++ j ∷ q → length p ≡ k → set l k i ≡ p ++ i ∷ q
set_in l p q j i k e h = rw e (set_at p j q i k h)

-- the code from the length of c on, anew
pub mend_at : (f : List Instruction → List Instruction) (c q l : List Instruction) → l ≡ c ++ q → take (length c) l ++ f (drop (length c) l) ≡ c ++ f q
mend_at f c q l e = rw (e, take_at c q (length c) refl, drop_at c q (length c) refl)

-- the jump after a Test, to the end of the code
pub jump_set : (p q : List Instruction) (t j : Instruction) (mark test n : ℕ) (l : List Instruction) → l ≡ p ++ t ∷ j ∷ q → test ≡ length p → n ≡ length q + 1
    → set l (test + 1) (inst_bx Jmp 0 (length l - (test + 1)) mark) ≡ p ++ t ∷ inst_bx Jmp 0 n mark ∷ q
jump_set p q t j mark test n l e ht hn =
    let f : l ≡ (p ++ t ∷ []) ++ j ∷ q = e ∙ sym (append_assoc p (t ∷ []) (j ∷ q)) in
    let k : length (p ++ t ∷ []) ≡ test + 1 = rw ht (length-append p (t ∷ [])) in
    let m : length l - (test + 1) ≡ n = omega (arith, ap length e, length-append p (t ∷ j ∷ q), ht, hn) in
    rw m (set_in l (p ++ t ∷ []) q j (inst_bx Jmp 0 n mark) (test + 1) f k ∙ append_assoc p (t ∷ []) (inst_bx Jmp 0 n mark ∷ q))

-- the right side of a logical operator, the statements of a condition: b is leapt over, with z after it
pub leap : (c a b : List Instruction) (t j z : Instruction) (mark : ℕ) (l : List Instruction)
    → l ≡ ((((c ++ a) ++ t ∷ []) ++ j ∷ []) ++ b) ++ z ∷ []
    → set l (length (c ++ a) + 1) (inst_bx Jmp 0 (length l - (length (c ++ a) + 1)) mark) ≡ c ++ (a ++ t ∷ inst_bx Jmp 0 (length b + 2) mark ∷ (b ++ z ∷ []))
leap c a b t j z mark l e =
    let f : ((((c ++ a) ++ t ∷ []) ++ j ∷ []) ++ b) ++ z ∷ [] ≡ (c ++ a) ++ t ∷ j ∷ (b ++ z ∷ []) = simp append_assoc in
    let n : length b + 2 ≡ length (b ++ z ∷ []) + 1 = simp length-append (omega arith) in
    jump_set (c ++ a) (b ++ z ∷ []) t j mark (length (c ++ a)) (length b + 2) l (e ∙ f) refl n ∙ append_assoc c a (t ∷ inst_bx Jmp 0 (length b + 2) mark ∷ (b ++ z ∷ []))

-- ---- loops: `before` stands before the condition

pub end_loop_is : (c before test : List Instruction) (r : ℕ) (body : List Instruction) (mark : ℕ) (j : Instruction) (mode goal first increment condition t result : ℕ) (e : Config)
    → e.code ≡ ((c ++ before) ++ test) ++ inst Test r r 0 mark ∷ j ∷ body
    → first ≡ length c → condition ≡ length (c ++ before) → t ≡ length ((c ++ before) ++ test)
    → continue_goal mode (increment - first) ≡ goal
    → end_loop mode first increment condition t result mark e ≡ config (c ++ loop_code goal mark before test r body) result e.state
unfolding end_loop jump_here
end_loop_is c before test r body mark j mode goal first increment condition t result e h hf hc ht hg =
    let p : List Instruction = (c ++ before) ++ test in
    let m : length e.code - condition ≡ length body + length test + 2 =
    omega (arith, ap length h, length-append p (inst Test r r 0 mark ∷ j ∷ body), hc, length-append (c ++ before) test) in
    let w : List Instruction = inst_bx Jmp 0 (back (length body + length test + 2)) mark ∷ [] in
    let l : e.code ++ w ≡ p ++ inst Test r r 0 mark ∷ j ∷ (body ++ w) = ap (λ x. x ++ w) h ∙ append_assoc p (inst Test r r 0 mark ∷ j ∷ body) w in
    let o : length body + 2 ≡ length (body ++ w) + 1 = simp length-append (omega arith) in
    let s : p ++ inst Test r r 0 mark ∷ inst_bx Jmp 0 (length body + 2) mark ∷ (body ++ w) ≡ c ++ open_loop mark before test r body = simp append_assoc in
    rw (m, hg, hf) (ap (λ x. config x result e.state)
    (mend_at (patch_loop goal) c (open_loop mark before test r body) _ (jump_set p (body ++ w) (inst Test r r 0 mark) j mark t (length body + 2) (e.code ++ w) l ht o ∙ s)))

-- ---- try

pub end_try_is : (c b h : List Instruction) (r : Instruction) (first body : ℕ) (e : Config)
    → e.code ≡ ((((c ++ r ∷ []) ++ b) ++ inst DeregisterTryCatch 0 0 0 no_mark ∷ []) ++ inst Jmp 0 0 0 no_mark ∷ []) ++ h
    → first ≡ length c → body ≡ length ((c ++ r ∷ []) ++ b) → end_try first body e ≡ config (c ++ try_code b h) 0 e.state
unfolding end_try
end_try_is c b h r first body e k hf hb =
    let q : List Instruction = b ++ (inst DeregisterTryCatch 0 0 0 no_mark ∷ inst Jmp 0 0 0 no_mark ∷ h) in
    let n : length e.code ≡ length c + 1 + length b + 2 + length h = omega (arith, simp length-append at (ap length k)) in
    let m : body ≡ length c + 1 + length b = omega (arith, simp length-append at hb) in
    let o : body + 2 - first ≡ length b + 3 = omega arith in
    let p : length e.code - (body + 1) ≡ length h + 1 = omega arith in
    let g : ((((c ++ r ∷ []) ++ b) ++ inst DeregisterTryCatch 0 0 0 no_mark ∷ []) ++ inst Jmp 0 0 0 no_mark ∷ []) ++ h ≡ c ++ r ∷ q = simp append_assoc in
    let s : set e.code (length c) (inst_bx RegisterTryCatch 0 (length b + 3) no_mark) ≡ c ++ open_try b h = set_in e.code c q r (inst_bx RegisterTryCatch 0 (length b + 3) no_mark) (length c) (k ∙ g) refl in
    rw (p, o, hf) (ap (λ x. config x 0 e.state) (mend_at (patch_first (length h + 1)) c (open_try b h) _ s))
