-- The check in less time, for comparing many trees with the Rust. `quick_checked` is the definition with its names opened, and what the
-- definition names at each node (fields, tags, children, parents) bound once; `quick` says that it is the definition. The one step that
-- does not compute by itself: a node's parent is looked up in a table, which holds what the definition seeks among the fields each time.
use Prim.Native.Nat.{ℕ, zero, suc, ◌+◌, ◌-◌, ◌<◌}
use mathlib.Core.Path.{◌≡◌, refl, sym, ap, ◌∙◌, fun_ext}
use mathlib.Core.Bool.{Bool, true, false, cond, ◌&&◌}
use mathlib.Core.List.{List, [], ◌∷◌, map}
use native.Mathlib.Nat.{add-zero}
use native.Mathlib.Omega.{arith}
use lib.ListN.{length, get_or}
use borrow.Author.Tests.{ltb-true}
use lib.Dec.{leb, ltb, eqb}
use Rattle.meaning.specs.Base.{count, lowest}
use Rattle.meaning.specs.Fields.{Field, field_at, fields, left}
use Rattle.meaning.specs.Grammar.{fits, lawful, items_for, wide_marks, tags_of, shape_at}
use Rattle.meaning.specs.Tree.{kids_of, all_kids, tree_at, parent_by, parent_of, depth_by, depth_of, depth_at}
use Rattle.meaning.specs.Check.{framed, unless, checked_work, current, current_at, checked_fields, checked_tree, checked}
use Rattle.meaning.specs.declared.Cause.{Cause}
use Rattle.meaning.specs.declared.Cause.TheVariants.{Frame, Many, Shape, Tree, Depth, Mode, Retired}
use Rattle.std.specs.Prelude.{Err}
use Rattle.meaning.specs.Outcome.{Outcome, refusal}
use Rattle.meaning.proofs.Computing.{computing}

-- the lowest node that has c as a child, by the children's lists
unfoldable pub parent_in : (c i : ℕ) → List (List ℕ) → ℕ
parent_in c i [] = i
parent_in c i (ks ∷ kss) = let further = parent_in c (suc i) kss in cond (eqb (count c ks) 0) further i

same_parent : (wide : Bool) (c i : ℕ) (fs : List Field) → parent_by wide c i fs ≡ parent_in c i (map (kids_of wide) fs)
unfolding parent_by parent_in
same_parent wide c i [] = refl
same_parent wide c i (f ∷ fs) = ap (λ (p : ℕ). cond (eqb (count c (kids_of wide f)) 0) p i) (same_parent wide c (suc i) fs)

-- f at k, k + 1, .., n numbers in all
unfoldable pub table : (f : ℕ → ℕ) → (n k : ℕ) → List ℕ
table f zero k = []
table f (suc n) k = f k ∷ table f n (suc k)

in_table : (f : ℕ → ℕ) (n k i : ℕ) → i < n → get_or (table f n k) i 0 ≡ f (k + i)
unfolding table
in_table f zero k i h = absurd (omega arith)
in_table f (suc n) k zero h = rw add-zero
in_table f (suc n) k (suc i) h = in_table f n (suc k) i (omega arith) ∙ ap f (omega arith)

-- f, looked up where the table has it
unfoldable pub look : (f : ℕ → ℕ) → (ps : List ℕ) → (n i : ℕ) → ℕ
look f ps n i = let beyond = f i in cond (ltb i n) (get_or ps i 0) beyond

same_look_by : (f : ℕ → ℕ) (n i : ℕ) (b : Bool) → ltb i n ≡ b → cond b (get_or (table f n 0) i 0) (f i) ≡ f i
same_look_by f n i true h = in_table f n 0 i (ltb-true i n h) ∙ ap f (omega arith)
same_look_by f n i false h = refl

same_look : (f : ℕ → ℕ) (n i : ℕ) → look f (table f n 0) n i ≡ f i
unfolding look
same_look f n i = same_look_by f n i (ltb i n) refl

-- the lowest number is found once
abbrev unless_at : Cause → ℕ → (n : ℕ) → Outcome → Outcome
unless_at cause place n other = cond (ltb place n) (Err (refusal cause place)) other

unfoldable pub quick_fields : (mode : ℕ) → List Field → (n work : ℕ) → Outcome
quick_fields mode fs n work =
    let tags = tags_of fs in
    let wide = wide_marks fs in
    let all = all_kids wide fs in
    let kids = map (kids_of wide) fs in
    let parents = table (λ c. parent_in c 0 kids) n 0 in
    let enough = checked_work n work in
    let flat = unless_at Depth (lowest (λ c. leb (depth_by (look (λ d. parent_in d 0 kids) parents n) (n - 1) n c) 128) n) n enough in
    let tree = unless_at Tree (lowest (λ c. eqb (count c all) 1) (n - 1)) (n - 1) flat in
    let kept = unless_at Retired (lowest (λ i. current mode (field_at fs i).tag) n) n tree in
    unless_at Shape (lowest (λ i. fits (lawful tags i) (items_for wide (field_at fs i).tag (eqb (i + 1) n)) (field_at fs i).payload) n) n kept

unfoldable pub quick_checked : (mode : ℕ) (tree : List ℕ) (work : ℕ) → Outcome
quick_checked mode tree work =
    let fs = fields tree in
    let n = length fs in
    let whole = quick_fields mode fs n work in
    let few = cond (ltb 32768 n) (Err (refusal Many 32768)) whole in
    let framed = cond (ltb 0 n && eqb (length (left tree)) 0) few (Err (refusal Frame n)) in
    cond (leb mode 1) framed (Err (refusal Mode 0))

same_fields : (mode : ℕ) (fs : List Field) (work : ℕ) → checked_fields mode fs work ≡ quick_fields mode fs (length fs) work
unfolding checked_fields quick_fields unless current_at shape_at tree_at depth_at depth_of parent_of
same_fields mode fs work =
    ap
    (λ (parent : ℕ → ℕ).
    unless Shape (shape_at fs) (length fs)
    (unless Retired (current_at mode fs) (length fs)
    (unless Tree (tree_at fs) (length fs - 1)
    (unless Depth (λ c. leb (depth_by parent (length fs - 1) (length fs) c) 128) (length fs) (checked_work (length fs) work)))))
    (fun_ext λ c. same_parent (wide_marks fs) c 0 fs ∙ sym (same_look (λ d. parent_in d 0 (map (kids_of (wide_marks fs)) fs)) (length fs) c))

pub quick : (mode : ℕ) (tree : List ℕ) (work : ℕ) → checked mode tree work ≡ quick_checked mode tree work
unfolding checked checked_tree quick_checked framed
quick mode tree work =
    ap
    (λ (o : Outcome).
    cond (leb mode 1)
    (cond (ltb 0 (length (fields tree)) && eqb (length (left tree)) 0) (cond (ltb 32768 (length (fields tree))) (Err (refusal Many 32768)) o) (Err (refusal Frame (length (fields tree)))))
    (Err (refusal Mode 0)))
    (same_fields mode (fields tree) work)

-- what has to unfold for it to be computed
unfoldable pub computing_quickly : Unit {0}
unfolding computing parent_in table look quick_fields quick_checked
computing_quickly = tt
