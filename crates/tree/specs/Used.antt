-- What a check leaves in the scratch that it is lent: the words that it used at the front are zero, at the end stand the offsets of the nodes, and
-- between them every word is as it was. Both take less than half, so that they never meet.
use Rattle.std.specs.Prelude.{ℕ, zero, suc, min, ◌-◌, ◌/◌, cond, List, [], ◌∷◌, ◌++◌, length, set, drop, replicate, leb}
use Rattle.meaning.specs.Fields.{fields, header}

-- n, but 32,768 at most: a tree has no more nodes
abbrev pub few : ℕ → ℕ
few n = min n 32768

-- it uses a word at either end for each whole field, 32,768 and half of the words at most, where the mode is one; else none
unfoldable pub used : (mode : ℕ) (tree : List ℕ) (room : ℕ) → ℕ
used mode tree room = cond (leb mode 1) (min (few (length (fields tree))) (room / 2)) 0

-- the first n words 0, the others as they were
abbrev pub zeroed : ℕ → List ℕ → List ℕ
zeroed n l = replicate n 0 ++ drop n l

-- in the last n words where the first n fields start, that of field 0 being the last word; the others as they were
unfoldable pub with_offsets : (tree : List ℕ) → ℕ → List ℕ → List ℕ
with_offsets tree zero l = l
with_offsets tree (suc n) l = set (with_offsets tree n l) (length l - suc n) (header tree n)

-- the scratch after a check
unfoldable pub scratch_after : (mode : ℕ) (tree scratch : List ℕ) → List ℕ
scratch_after mode tree scratch = let n = used mode tree (length scratch) in zeroed n (with_offsets tree n scratch)
