-- The pieces of the routines: what they are given and what they promise, beside `Leaf`.
use Rattle.std.specs.Prelude.{ℕ, ◌+◌, ◌-◌, ◌*◌, ◌<◌, ◌≤◌, min, List, [], ◌∷◌, ◌++◌, length, set}
use Rattle.meaning.specs.Fields.{words}
use Rattle.meaning.specs.At.{pair_place, pairs_in}
use Rattle.meaning.specs.declared.Token.{Token}
use Rattle.meaning.specs.Opcode.{inst_bx, back, Jmp}
use Rattle.meaning.specs.Chunk.{patch_loop}
use Rattle.meaning.specs.declared.Instruction.{Instruction}
use Rattle.store.specs.declared.Step.{Step}
use Rattle.store.specs.declared.Scope.{Scope}
use Rattle.store.specs.Layout.{first_local, edge}
use Rattle.store.specs.Cell.{Packs, Wrote}
use Rattle.store.specs.Store.{nodes_of, top_of, depth_of, block_of, wide_of, outcome_of, constants_of, globals_of, result_of, is_wide, while_going}
use Rattle.store.specs.Promise.{Cost, uses, gives, live, taken}
use Rattle.code.specs.Words.{mended}

-- a result that is a register
abbrev pub Small : Step → Type 0
Small s = while_going (outcome_of s) (result_of s < 255)

-- the n pairs from word `from` of a payload on, with marks of the scope's width
unfoldable pub tokens_from : Scope → (payload : List ℕ) (from n : ℕ) → List Token
tokens_from p payload from n = pairs_in (is_wide p) (words payload) from n

-- those n pairs are there, whole
pub record HasPairs (p : Scope) (payload : List ℕ) (from n : ℕ) : Type 0 where
  pub inside : from + pair_place (is_wide p) n ≤ length (words payload)
  pub width : wide_of p ≤ 1

-- the instruction after the Test at `test` is the jump over the code up to instruction `end` and that one; no other changed
pub record SetsJump (w : List ℕ) (top test end mark : ℕ) (w' : List ℕ) : Type 0 where
  pub word : ℕ
  pub packs : Packs word (inst_bx Jmp 0 (end - test))
  pub wrote : Wrote w top (test + 1) word mark w'

-- the code of a loop, at its end: the jump back, the jump out, breaks and continues
abbrev pub closed_loop : (goal first condition test mark : ℕ) → List Instruction → List Instruction
closed_loop goal first condition test mark l =
    let m : List Instruction = l ++ inst_bx Jmp 0 (back (length l - condition)) mark ∷ [] in
    mended (patch_loop goal) first (set m (test + 1) (inst_bx Jmp 0 (length m - (test + 1)) mark))

-- ---- the name of a global function or class is noted before its constant is stored

-- 1 where the context is global: one open function with one open block
abbrev pub a_name : Scope → Cost
a_name p = uses 0 0 (2 - (depth_of p + block_of p))

-- the same given back, once the constant is stored
abbrev pub a_name_back : Scope → Cost
a_name_back p = gives 0 0 (2 - (depth_of p + block_of p))

-- room for a words and b locals, where e names of globals wait for their constants
pub record Spare (w : List ℕ) (p : Scope) (s : Step) (a b e : ℕ) : Type 0 where
  pub words : first_local (nodes_of p) + 6120 + live w p s + a ≤ top_of p + 3 * taken w (depth_of p)
  pub locals : edge w (nodes_of p) (block_of p) + b ≤ nodes_of p + taken w (depth_of p)
  pub globals : globals_of s + 1 ≤ constants_of s + min 2 (block_of p) + e

-- due while nothing is refused
pub record Owing (w : List ℕ) (p : Scope) (s : Step) (a b e : ℕ) : Type 0 where
  pub spare : while_going (outcome_of s) (Spare w p s a b e)
