-- What the scratch holds: a word for each node, its tag and 256 times who has it as a child. That is 0 where no node has, i + 1 where node i
-- has it once, 65,535 where it is a child more than once. Only contracts of inner functions cite this; proofs/Parents.antt proves that the
-- words say what `count` and `parent_of` say.
use Rattle.std.specs.Prelude.{◌≡◌, Bool, ◌&&◌, cond, Option, None, Some, List, [], ◌∷◌, map, ℕ, suc, ◌+◌, ◌-◌, ◌*◌, ◌/◌, ◌%◌, ◌<◌, ◌≤◌, length, get_or, set, drop, leb, ltb, eqb}
use Rattle.meaning.specs.Base.{lowest}
use Rattle.meaning.specs.Fields.{Field, field_at, fields, left}
use Rattle.meaning.specs.Grammar.{names, lawful, items_for, fits, tags_of}
use Rattle.meaning.specs.Tree.{kids_of, depth_by}
use Rattle.tree.specs.Used.{few}
use Rattle.tree.specs.Rows.{row_at, kind_in, next_left, next_row}

-- a number, if it is below n
abbrev pub some_below : (n k : ℕ) → Option ℕ
some_below n k = cond (ltb k n) (Some k) None

-- the lowest number below n at which p fails, if there is one
unfoldable pub first : (p : ℕ → Bool) → (n : ℕ) → Option ℕ
first p n = some_below n (lowest p n)

-- the tags that the words hold
abbrev pub tags_in : List ℕ → List ℕ
tags_in l = map (λ (v : ℕ). v % 256) l

-- a word once node i has its node as a child
unfoldable pub noted : (v i : ℕ) → ℕ
noted v i = cond (ltb v 256) (v + 256 * (i + 1)) (v % 256 + 16776960)

-- node i has w as a child
unfoldable pub note : List ℕ → (i w : ℕ) → List ℕ
note l i w = set l w (noted (get_or l w 0) i)

-- node i has these children, in order
unfoldable pub note_all : List ℕ → (i : ℕ) → List ℕ → List ℕ
note_all l i [] = l
note_all l i (w ∷ ws) = note_all (note l i w) i ws

-- the word w of a kind in node i
unfoldable pub note_word : List ℕ → (i kind w : ℕ) → List ℕ
note_word l i kind w = cond (names kind w) (note l i w) l

-- the words of a payload from a row on, up to one that is not lawful
unfoldable pub note_row : (ok : ℕ → ℕ → Bool) → List ℕ → (i r left : ℕ) → List ℕ → List ℕ
note_row ok l i r left [] = l
note_row ok l i r left (a ∷ []) = l
note_row ok l i r left (a ∷ b ∷ p) =
    let w = a * 256 + b in
    let kind = kind_in (row_at r) in
    let left' = next_left (row_at r) left w in
    cond (ok kind w) (note_row ok (note_word l i kind w) i (next_row (row_at r) left') left' p) l

-- all nodes, of which the first is node i: each notes its children, by the width of marks, and enters its own tag
unfoldable pub enter_all : (wide : Bool) → List ℕ → (i : ℕ) → List Field → List ℕ
enter_all wide l i [] = l
enter_all wide l i (f ∷ fs) = enter_all wide (set (note_all l i (kids_of wide f)) i f.tag) (suc i) fs

-- b is a with other words below n alone
pub record Beyond (n : ℕ) (a b : List ℕ) : Type 0 where
  pub size : length b ≡ length a
  pub rest : drop n b ≡ drop n a

-- the words of the nodes as after all nodes, whatever they were before
pub record Entered (wide : Bool) (fs : List Field) (l : List ℕ) : Type 0 where
  pub before : List ℕ
  pub room : length fs ≤ length before
  pub each : (c : ℕ) → c < length fs → get_or l c 0 ≡ get_or (enter_all wide before 0 fs) c 0

-- the words of the first `limit` nodes, at the front, and the offsets of the first `notes`, at the end, have room beside each other
pub record Apart (limit notes : ℕ) (l : List ℕ) : Type 0 where
  pub judged : limit ≤ 32768
  pub noted : notes ≤ 32768
  pub room : limit + notes ≤ length l

-- the shape of node i is right, judged by marks of a width; `shape_at` is that of the tree's own width
unfoldable pub shape_by : (wide : Bool) → List Field → ℕ → Bool
shape_by wide fs i = fits (lawful (tags_of fs) i) (items_for wide (field_at fs i).tag (eqb (i + 1) (length fs))) (field_at fs i).payload

-- the tag of the last field, 0 where there is none
abbrev pub last_tag : List Field → ℕ
last_tag fs = (field_at fs (length fs - 1)).tag

-- what one walk over a file that judges by a width finds, and leaves in the scratch: the whole fields, the bytes after them, and, where refusals 1
-- and 2 are passed, the lowest wrong shape
pub record Found (wide : Bool) (tree l : List ℕ) (count after : ℕ) (wrong : Option ℕ) : Type 0 where
  pub whole_fields : count ≡ length (fields tree)
  pub bytes_after : after ≡ length (left tree)
  pub room : few count ≤ length l
  pub shapes : after ≡ 0 → count ≤ 32768 → wrong ≡ first (shape_by wide (fields tree)) count
  pub shapely : after ≡ 0 → count ≤ 32768 → wrong ≡ None → Entered wide (fields tree) l

-- the word says that its node is a child exactly once, and of which
unfoldable pub once : ℕ → Bool
once v = leb 256 v && ltb v 16776960

-- the node that has c as a child, where c's word names one
abbrev pub parent_in : List ℕ → ℕ → ℕ
parent_in l c = get_or l c 0 / 256 - 1

-- of n nodes every one but the last is a child once, of one above it
pub record Owned (l : List ℕ) (n : ℕ) : Type 0 where
  pub some : 1 ≤ n
  pub few : n ≤ 32768
  pub room : n ≤ length l
  pub above : (c : ℕ) → suc c < n → (256 ≤ get_or l c 0) × (c < parent_in l c) × (parent_in l c < n)

-- node c of n is the last, or its word leads to a node whose word is a depth
abbrev pub Linked : List ℕ → (n c : ℕ) → Type 0
Linked l n c = suc c < n → (c < length l) × (256 ≤ get_or l c 0) × (parent_in l c < length l) × (get_or l (parent_in l c) 0 ≤ 32768)

-- the depth that is then next
unfoldable pub next_depth : List ℕ → (n c : ℕ) → ℕ
next_depth l n c = cond (eqb (c + 1) n) 1 (get_or l (parent_in l c) 0 + 1)

-- how deep node c of n stands, by the words
unfoldable pub depth_in : List ℕ → (n c : ℕ) → ℕ
depth_in l n c = depth_by (parent_in l) (n - 1) n c
