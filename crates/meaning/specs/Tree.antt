-- 01, refusals 4 and 5: that the nodes make a tree, and how deep each stands.
use Rattle.std.specs.Prelude.{ℕ, zero, suc, ◌-◌, Bool, cond, List, [], ◌∷◌, ◌++◌, length, leb, eqb}
use Rattle.meaning.specs.Base.{count}
use Rattle.meaning.specs.Fields.{Field}
use Rattle.meaning.specs.Grammar.{items_in, kids, wide_marks}

-- the children of a node, in order; `wide` says that marks have four bytes
unfoldable pub kids_of : (wide : Bool) → Field → List ℕ
kids_of wide f = kids (items_in wide f.tag) f.payload

-- the children of all nodes
unfoldable pub all_kids : (wide : Bool) → List Field → List ℕ
all_kids wide [] = []
all_kids wide (f ∷ fs) = kids_of wide f ++ all_kids wide fs

-- node c is a child exactly once
unfoldable pub tree_at : List Field → ℕ → Bool
tree_at fs c = eqb (count c (all_kids (wide_marks fs) fs)) 1

-- the lowest node that has c as a child, where the first of the list is node i
unfoldable pub parent_by : (wide : Bool) → (c i : ℕ) → List Field → ℕ
parent_by wide c i [] = i
parent_by wide c i (f ∷ fs) = cond (eqb (count c (kids_of wide f)) 0) (parent_by wide c (suc i) fs) i

-- the lowest node that has c as a child, or the number of nodes where none has
unfoldable pub parent_of : List Field → ℕ → ℕ
parent_of fs c = parent_by (wide_marks fs) c 0 fs

-- how deep node c stands, the last node being at 1: one deeper than its parent
unfoldable pub depth_by : (parent : ℕ → ℕ) → (last fuel c : ℕ) → ℕ
depth_by parent last zero c = 0
depth_by parent last (suc f) c = let deeper = suc (depth_by parent last f (parent c)) in cond (eqb c last) 1 deeper

-- a parent stands above its child, so that as many steps as there are nodes are enough
unfoldable pub depth_of : List Field → ℕ → ℕ
depth_of fs c = depth_by (parent_of fs) (length fs - 1) (length fs) c

-- node c stands no deeper than 128
unfoldable pub depth_at : List Field → ℕ → Bool
depth_at fs c = leb (depth_of fs c) 128
