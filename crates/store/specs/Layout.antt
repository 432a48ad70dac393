-- The layout of the work area for a tree of n nodes, and what its words stand for. Words are read with a remainder, so that contents need no invariant.
--
--     from           words                 holds
--     0              3,072                 constants: 1,024 of three words: kind, high word, low word
--     3,072          72                    frames: 9 of eight words: name, registers, captures held, first block, loops of the function around it; of main's frame word 5: the visits so far
--     3,144          1,024                 captures: 8 x 256 halves
--     4,168          520                   globals: halves
--     4,688          1,020 + n             registers of locals: halves
--     5,708 + n      16 + n                edges of blocks: block i has the locals from edge i up to edge i + 1
--     5,724 + 2 n    up to 12,288 + 10 n   locals upward, a word each: link and name; pending code downward, two words an instruction
--     12,288 + 10 n  5 n                   heads: 10 n halves
--     12,288 + 15 n  n                     what the store leaves alone
--
-- A ninth function is refused; its frame is there so that the steps after the refusal, which change nothing, have a scope of their own.
-- Registers pay for what has no node: a register takes three words at most (a for-in's name: an instruction and a local), a node eight. Eight open
-- functions have 2,040 registers, and 6,564 + 8 n words hold 3 * 2,040 + 8 n.
use Rattle.std.specs.Prelude.{ℕ, zero, suc, ◌+◌, ◌-◌, ◌*◌, ◌/◌, ◌%◌, cond, List, ◌==◌, nat_lt, slice_index}
use Rattle.store.specs.Half.{half}
use Rattle.store.specs.Table.{span}
use Rattle.meaning.specs.Constant.{Constant, number, text, other}
use Rattle.meaning.specs.Opcode.{inst}
use Rattle.meaning.specs.State.{Local, Capture, local_capture, outer_capture}
use Rattle.meaning.specs.declared.Instruction.{Instruction}

-- ---- places that go by the number of nodes

-- the edge of block 0
abbrev pub first_edge : ℕ → ℕ
first_edge n = 5708 + n

-- local 0
abbrev pub first_local : ℕ → ℕ
first_local n = 5724 + 2 * n

-- the first word above the pending code, which goes downward from here
abbrev pub top : ℕ → ℕ
top n = 12288 + 10 * n

-- the head of bucket 0, in halves: heads start where the code ends
abbrev pub first_head : ℕ → ℕ
first_head n = 2 * top n

-- the first word that the store leaves alone
abbrev pub beyond : ℕ → ℕ
beyond n = top n + 5 * n

-- all words: those that refusal 6 asks for
abbrev pub all_words : ℕ → ℕ
all_words n = 12288 + 16 * n

-- ---- constants

-- three words as a constant: kind 1 a number by its 64 bits, 2 a text, else another literal
abbrev pub constant_by : (kind high low : ℕ) → Constant
constant_by kind high low = cond (kind == 1) (number (high * 4294967296 + low)) (cond (kind == 2) (text low) (other low))

-- the constant of index i
abbrev pub constant_at : List ℕ → ℕ → Constant
constant_at w i = constant_by (slice_index w (3 * i)) (slice_index w (3 * i + 1)) (slice_index w (3 * i + 2))

-- ---- frames: function j

-- its name, 65,535 for the main function and a function expression
abbrev pub name_of : List ℕ → ℕ → ℕ
name_of w j = slice_index w (3072 + 8 * j)

-- how many registers it has taken
abbrev pub registers : List ℕ → ℕ → ℕ
registers w j = slice_index w (3073 + 8 * j) % 256

-- how many captures it holds
abbrev pub held : List ℕ → ℕ → ℕ
held w j = slice_index w (3074 + 8 * j) % 256

-- the number of its first block, the blocks of the functions around it counted
abbrev pub first : List ℕ → ℕ → ℕ
first w j = slice_index w (3075 + 8 * j)

-- the open loops of the function around it, to which leaving it goes back
abbrev pub saved : List ℕ → ℕ → ℕ
saved w j = slice_index w (3076 + 8 * j)

-- ---- visits (document 02, E6): word 5 of main's frame

-- the nodes visited so far; it wraps at 32 bits, which no accepted tree reaches
abbrev pub visited : List ℕ → ℕ
visited w = slice_index w 3077 % 4294967296

-- ---- captures: an index, or 256 and a register

-- a half as a capture: below 256 a capture of the function around, from 256 on a register of it
abbrev pub capture_of : ℕ → Capture
capture_of x = cond (nat_lt x 256) (outer_capture x) (local_capture (x - 256))

-- capture i of function j, as it is stored
abbrev pub capture_word : List ℕ → (j i : ℕ) → ℕ
capture_word w j i = half w (6288 + 256 * j + i) % 512

-- capture i of function j
abbrev pub capture_at : List ℕ → (j i : ℕ) → Capture
capture_at w j i = capture_of (capture_word w j i)

-- ---- globals

-- the name of global i, the earliest being 0
abbrev pub global_at : List ℕ → ℕ → ℕ
global_at w i = half w (8336 + i)

-- ---- blocks and locals

-- how many locals stand before block i: where it starts, and the block before it ends
abbrev pub edge : List ℕ → (n i : ℕ) → ℕ
edge w n i = slice_index w (first_edge n + i)

-- local i, the earliest of all open functions being 0; its register is one that was taken, so below 255
abbrev pub local_at : List ℕ → (n i : ℕ) → Local
local_at w n i = record { name = slice_index w (first_local n + i) % 65536; register = half w (9376 + i) % 255 }

-- block i; the latest local first
abbrev pub block : List ℕ → (n i : ℕ) → List Local
block w n i = span (local_at w n) (edge w n i) (edge w n (suc i))

-- the latest of the first k locals whose name falls into bucket b, counted from 1; 0 where there is none
unfoldable pub latest : List ℕ → (n b k : ℕ) → ℕ
latest w n b zero = 0
latest w n b (suc k) = cond ((local_at w n k).name % (10 * n) == b) (suc k) (latest w n b k)

-- the link of local i: the latest before it in its bucket, but for those that a later one of their name and block shadows
abbrev pub link : List ℕ → (n i : ℕ) → ℕ
link w n i = slice_index w (first_local n + i) / 65536

-- the head of bucket b: the latest of all locals in it
abbrev pub head : List ℕ → (n b : ℕ) → ℕ
head w n b = half w (first_head n + b)

-- ---- pending code

-- where the packed word of pending instruction i stands, below the top
abbrev pub cell : (top i : ℕ) → ℕ
cell top i = top - (2 * i + 2)

-- where its mark stands, in the word above
abbrev pub mark_cell : (top i : ℕ) → ℕ
mark_cell top i = top - (2 * i + 1)

-- a word as an instruction, the opcode in its lowest byte, then a, b and c; the mark has a word of its own
abbrev pub unpacked : (word mark : ℕ) → Instruction
unpacked x m = inst (x % 256) (x / 256 % 256) (x / 65536 % 256) (x / 16777216 % 256) m

-- pending instruction i
abbrev pub inst_at : List ℕ → (top i : ℕ) → Instruction
inst_at w top i = unpacked (slice_index w (cell top i)) (slice_index w (mark_cell top i))
