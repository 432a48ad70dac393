-- The table of rows, by which the code goes, says what the grammar says. A row is a spot in a list of items: what is left of the group that the
-- spot is in, the group, of which more may come, and what comes after. One test, computed over the table, says that each row's kind, end and
-- next rows are those of its spot; the rest is the same for every row.
use mathlib.Core.Path.{◌≡◌, refl, sym, ap, ap₂, ◌∙◌}
use mathlib.Core.Bool.{Bool, true, false, not, ◌&&◌, cond}
use mathlib.Core.Logic.{◌⊎◌, inl, inr, ⊎_elim}
use mathlib.Core.List.{List, [], ◌∷◌, ◌++◌, map}
use Prim.Native.Nat.{ℕ, zero, suc, ◌+◌, ◌-◌, ◌*◌, ◌<◌, ◌≤◌}
use native.Mathlib.Omega.{arith}
use lib.ListN.{get_or, take, drop, get_or-eq_default}
use lib.Dec.{eqb, ltb}
use borrow.Author.Tests.{eqb-true, ne_eqb, ltb-true}
use Rattle.meaning.specs.Grammar.{Item, one, perhaps, many, counted, never, names, grammar, items_of, spread_kinds, spread, items_in, is_program, items_for, ones, copies, ends, kind_of, due_after, fits, kids}
use Rattle.meaning.proofs.Lists.{lt_or_le, and_left, and_right, false_true, eq_list, list_is, all_true, nth_true, same, same_is, all_to, all_below}
use Rattle.tree.specs.Rows.{number, flow_of, end_of, first_rows, row_at, kind_in, next_in, done_in, flow_in, ends_in, next_left, next_row, fits_row, kids_row, start_of}

-- ---- tests that compute

-- an item as a number and a list, and back
ctor : Item → ℕ
ctor (one k) = 0
ctor (perhaps k) = 1
ctor (many ks) = 2
ctor (counted ks) = 3

args : Item → List ℕ
args (one k) = k ∷ []
args (perhaps k) = k ∷ []
args (many ks) = ks
args (counted ks) = ks

made : ℕ → List ℕ → Item
made zero ks = one (get_or ks 0 0)
made (suc zero) ks = perhaps (get_or ks 0 0)
made (suc (suc zero)) ks = many ks
made (suc (suc (suc n))) ks = counted ks

made_is : (i : Item) → made (ctor i) (args i) ≡ i
unfolding made ctor args
made_is (one k) = refl
made_is (perhaps k) = refl
made_is (many ks) = refl
made_is (counted ks) = refl

eq_items : List Item → List Item → Bool
eq_items [] [] = true
eq_items [] (y ∷ ys) = false
eq_items (x ∷ xs) [] = false
eq_items (x ∷ xs) (y ∷ ys) = (eqb (ctor x) (ctor y) && eq_list (args x) (args y)) && eq_items xs ys

items_is : (xs ys : List Item) → eq_items xs ys ≡ true → xs ≡ ys
unfolding eq_items
items_is [] [] e = refl
items_is [] (y ∷ ys) e = absurd (false_true e)
items_is (x ∷ xs) [] e = absurd (false_true e)
items_is (x ∷ xs) (y ∷ ys) e =
    let h = and_left (eqb (ctor x) (ctor y) && eq_list (args x) (args y)) (eq_items xs ys) e in
    ap₂ ◌∷◌
    (sym (made_is x)
    ∙ ap₂ made (eqb-true (ctor x) (ctor y) (and_left _ _ h)) (list_is (args x) (args y) (and_right (eqb (ctor x) (ctor y)) _ h))
    ∙ made_is y)
    (items_is xs ys (and_right (eqb (ctor x) (ctor y) && eq_list (args x) (args y)) _ e))

-- ---- the place of each row

record Spot : Type 0 where
  pre : List ℕ
  grp : List ℕ
  post : List Item

in_group : List ℕ → List ℕ → List Item → List Spot → List Spot
in_group [] grp post next = next
in_group (k ∷ ks) grp post next = record { pre = k ∷ ks; grp = grp; post = post } ∷ in_group ks grp post next

at_items : List Item → Spot
at_items is = record { pre = []; grp = []; post = is }

spots_of : List Item → List Spot
spots_of [] = []
spots_of (one zero ∷ is) = []
spots_of (one (suc k) ∷ is) = at_items (one (suc k) ∷ is) ∷ spots_of is
spots_of (perhaps k ∷ is) = at_items (perhaps k ∷ is) ∷ spots_of is
spots_of (many [] ∷ is) = spots_of is
spots_of (many (k ∷ ks) ∷ is) = at_items (many (k ∷ ks) ∷ is) ∷ in_group ks [] (many (k ∷ ks) ∷ is) (spots_of is)
spots_of (counted ks ∷ is) = at_items (counted ks ∷ is) ∷ in_group ks ks is (spots_of is)

all_spots : List (List Item) → List Spot
all_spots [] = []
all_spots (is ∷ iss) = spots_of is ++ all_spots iss

is_among : Spot → List Spot → Bool
is_among p [] = false
is_among p (q ∷ qs) = cond (eq_list p.pre q.pre && (eq_list p.grp q.grp && eq_items p.post q.post)) true (is_among p qs)

-- of these spots those that are not among the old ones
fresh : (old new : List Spot) → List Spot
fresh old [] = []
fresh old (p ∷ ps) = cond (is_among p old) [] (p ∷ []) ++ fresh old ps

-- the spots of these payloads that only wide marks make
widened : List (List Item) → List Spot
widened [] = []
widened (is ∷ iss) = fresh (spots_of (spread false is)) (spots_of (spread true is)) ++ widened iss

-- the tags up to 1E: what stands from 1F to 3D is never, and the payload of 3E is that of 1E
tags : List (List Item)
tags = take 31 grammar

-- narrow ones first, then those that wide marks make
spots : List Spot
spots = at_items never ∷ at_items [] ∷ all_spots (map (spread false) tags) ++ widened tags

spot : ℕ → Spot
spot r = get_or spots r (at_items [])

-- the items that are due at a place, where `left` groups are left, the one that it is in counted
fixed : Spot → List Item
fixed p = ones p.pre p.post

state : Spot → ℕ → List Item
state p zero = fixed p
state p (suc l) = ones p.pre (copies l p.grp p.post)

null : List ℕ → Bool
null [] = true
null (x ∷ xs) = false

-- no group is open
plain : Spot → Bool
plain p = null p.grp

uncounted : List Item → Bool
uncounted [] = true
uncounted (one k ∷ is) = true
uncounted (perhaps k ∷ is) = true
uncounted (many ks ∷ is) = true
uncounted (counted ks ∷ is) = false

copies_nil : (n : ℕ) (is : List Item) → copies n [] is ≡ is
copies_nil zero is = refl
copies_nil (suc n) is = copies_nil n is

null_is : (l : List ℕ) → null l ≡ true → l ≡ []
unfolding null
null_is [] e = refl
null_is (x ∷ l) e = absurd (false_true e)

state_plain : (p : Spot) (l : ℕ) → plain p ≡ true → state p l ≡ fixed p
unfolding state plain fixed
state_plain p zero e = refl
state_plain p (suc l) e = ap (ones p.pre) (ap (λ (g : List ℕ). copies l g p.post) (null_is p.grp e) ∙ copies_nil l p.post)

rest_uncounted : (is : List Item) (w : ℕ) → uncounted is ≡ true → due_after is 0 ≡ due_after is w
unfolding uncounted due_after
rest_uncounted [] w e = refl
rest_uncounted (one k ∷ is) w e = refl
rest_uncounted (perhaps k ∷ is) w e = refl
rest_uncounted (many ks ∷ is) w e = refl
rest_uncounted (counted ks ∷ is) w e = absurd (false_true e)

-- ---- the test of a row

module _ (r : ℕ) where
  abbrev here : Spot
  here = spot r

  abbrev kind : ℕ
  kind = kind_in (row_at r)

  abbrev next : ℕ
  next = next_in (row_at r)

  abbrev done : ℕ
  done = done_in (row_at r)

  abbrev flow : ℕ
  flow = flow_in (row_at r)

  abbrev there : Spot
  there = spot next

  abbrev after : Spot
  after = spot done

  -- of every row: the kind and the end; the next rows are rows; in an open group something is left of it
  common : List Bool
  common =
      eqb kind (kind_of (fixed here))
      ∷ same (ends_in (row_at r)) (ends (fixed here))
      ∷ ltb next 122
      ∷ ltb done 122
      ∷ cond (plain here) true (not (null here.pre))
      ∷ ltb kind 12
      ∷ []

  -- a word of no counted run; a word within a group; a count; the last word of a group
  alone : List Bool
  alone =
      plain there
      ∷ eq_items (fixed there) (due_after (fixed here) 0)
      ∷ uncounted (fixed here)
      ∷ []

  within : List Bool
  within =
      eq_list there.pre (drop 1 here.pre)
      ∷ eq_list there.grp here.grp
      ∷ eq_items there.post here.post
      ∷ []

  counts : List Bool
  counts =
      plain here
      ∷ eq_items (fixed here) (counted there.pre ∷ there.post)
      ∷ eq_list there.grp there.pre
      ∷ plain after
      ∷ eq_items (fixed after) there.post
      ∷ []

  last : List Bool
  last =
      not (plain here)
      ∷ eq_list (drop 1 here.pre) []
      ∷ plain after
      ∷ eq_items (fixed after) here.post
      ∷ eq_list there.pre here.grp
      ∷ eq_list there.grp here.grp
      ∷ eq_items there.post here.post
      ∷ []

  ok_row : Bool
  ok_row =
      all_true common
      && cond (eqb flow 0) (cond (plain here) (all_true alone) (all_true within)) (cond (eqb flow 1) (all_true counts) (all_true last))

rows_ok : all_to ok_row 122 ≡ true
unfolding all_to ok_row common alone within counts last all_true same spot spots all_spots tags widened fresh is_among spread spread_kinds spots_of in_group at_items fixed null plain uncounted eq_list eq_items ctor args number flow_of end_of grammar ends kind_of due_after
rows_ok = refl

-- ---- what the test says

abbrev Valid : ℕ → ℕ → Type 0
Valid r l = (plain (spot r) ≡ true) ⊎ (1 ≤ l)

-- row r' is one where these items are due, with l' groups left
record Goes (r' l' : ℕ) (is : List Item) : Type 0 where
  due : state (spot r') l' ≡ is
  low : r' < 122
  valid : Valid r' l'

rest_ones : (ks : List ℕ) (is : List Item) (w : ℕ) → not (null ks) ≡ true → due_after (ones ks is) w ≡ ones (drop 1 ks) is
unfolding null due_after
rest_ones [] is w e = absurd (false_true e)
rest_ones (k ∷ ks) is w e = refl

module _ (r : ℕ) (h : r < 122) where
  ok : ok_row r ≡ true
  ok = all_below ok_row 122 r rows_ok h

  every : (k : ℕ) → get_or (common r) k true ≡ true
  unfolding ok_row
  every = nth_true (common r) (and_left (all_true (common r)) _ ok)

  pub kind_low : kind_in (row_at r) < 12
  unfolding common
  kind_low = ltb-true _ 12 (every 5)

  next_low : next r < 122
  unfolding common
  next_low = ltb-true _ 122 (every 2)

  done_low : done r < 122
  unfolding common
  done_low = ltb-true _ 122 (every 3)

  -- whatever is left, the next row is a row
  pub row_low : (l : ℕ) → next_row (row_at r) l < 122
  unfolding next_row
  row_low l = go (eqb (flow r) 0) (eqb l 0)
    where
      go : (a b : Bool) → cond a (next r) (cond b (done r) (next r)) < 122
      go true b = next_low
      go false true = done_low
      go false false = next_low

  -- the items that are due begin as the row's own do
  begins : (l : ℕ) → Valid r l → (kind_of (state (spot r) l) ≡ kind_of (fixed (spot r))) × (ends (state (spot r) l) ≡ ends (fixed (spot r)))
  unfolding common null kind_of ends fixed state
  begins l v = go (plain (spot r)) refl l v (every 4)
    where
      more : (ks : List ℕ) (is is' : List Item) → not (null ks) ≡ true → (kind_of (ones ks is) ≡ kind_of (ones ks is')) × (ends (ones ks is) ≡ ends (ones ks is'))
      more [] is is' e = absurd (false_true e)
      more (k ∷ ks) is is' e = (refl, refl)

      go : (b : Bool) → plain (spot r) ≡ b → (l : ℕ) → Valid r l → cond b true (not (null (spot r).pre)) ≡ true
          → (kind_of (state (spot r) l) ≡ kind_of (fixed (spot r))) × (ends (state (spot r) l) ≡ ends (fixed (spot r)))
      go true p l v e = (ap kind_of (state_plain (spot r) l p), ap ends (state_plain (spot r) l p))
      go false p zero v e = (refl, refl)
      go false p (suc l) v e = more (spot r).pre _ _ e

  -- the step of a row
  module _ (l w : ℕ) where
    abbrev left' : ℕ
    left' = next_left (row_at r) l w

    abbrev After : ℕ → ℕ → Type 0
    After r' l' = Goes r' l' (due_after (state (spot r) l) w)

    abbrev Step : Type 0
    Step = After (next_row (row_at r) left') left'

    to : (l' r' : ℕ) → left' ≡ l' → next_row (row_at r) l' ≡ r' → After r' l' → Step
    to l' r' e f g = rw (e, f) g

    -- by flow: no run, a count, the last word of a group
    left_none : eqb (flow r) 0 ≡ true → left' ≡ l
    unfolding next_left
    left_none e = simp e

    left_count : eqb (flow r) 0 ≡ false → eqb (flow r) 1 ≡ true → left' ≡ w
    unfolding next_left
    left_count e f = simp (e, f)

    left_last : eqb (flow r) 0 ≡ false → eqb (flow r) 1 ≡ false → left' ≡ l - 1
    unfolding next_left
    left_last e f = simp (e, f)

    row_none : eqb (flow r) 0 ≡ true → (m : ℕ) → next_row (row_at r) m ≡ next r
    unfolding next_row
    row_none e m = simp e

    row_done : eqb (flow r) 0 ≡ false → next_row (row_at r) 0 ≡ done r
    unfolding next_row
    row_done e = simp e

    row_more : eqb (flow r) 0 ≡ false → (m : ℕ) → next_row (row_at r) (suc m) ≡ next r
    unfolding next_row
    row_more e m = simp (e, ne_eqb (suc m) 0 (λ q. omega arith))

    step_alone : plain (spot r) ≡ true → eqb (flow r) 0 ≡ true → all_true (alone r) ≡ true → Step
    unfolding alone
    step_alone p e t = to l (next r) (left_none e) (row_none e l) (record {
      due = state_plain (spot (next r)) l (nth_true (alone r) t 0)
          ∙ items_is _ _ (nth_true (alone r) t 1)
          ∙ rest_uncounted (fixed (spot r)) w (nth_true (alone r) t 2)
          ∙ ap (λ (is : List Item). due_after is w) (sym (state_plain (spot r) l p));
      low = next_low;
      valid = inl (nth_true (alone r) t 0);
    })

    -- a count of w groups
    counted_rest : all_true (counts r) ≡ true → due_after (state (spot r) l) w ≡ copies w (spot (next r)).pre (spot (next r)).post
    unfolding counts due_after
    counted_rest t = ap (λ (is : List Item). due_after is w) (state_plain (spot r) l (nth_true (counts r) t 0) ∙ items_is _ _ (nth_true (counts r) t 1))

    step_counts : eqb (flow r) 0 ≡ false → eqb (flow r) 1 ≡ true → all_true (counts r) ≡ true → Step
    unfolding counts state
    step_counts e f t = go w refl
      where
        Nx : Spot
        Nx = spot (next r)

        go : (v : ℕ) → w ≡ v → Step
        go zero q = to 0 (done r) (left_count e f ∙ q) (row_done e) (record {
          due = items_is _ _ (nth_true (counts r) t 4) ∙ sym (counted_rest t ∙ ap (λ (v : ℕ). copies v Nx.pre Nx.post) q);
          low = done_low;
          valid = inl (nth_true (counts r) t 3);
        })
        go (suc m) q = to (suc m) (next r) (left_count e f ∙ q) (row_more e m) (record {
          due = ap (λ (g : List ℕ). ones Nx.pre (copies m g Nx.post)) (list_is _ _ (nth_true (counts r) t 2))
              ∙ sym (counted_rest t ∙ ap (λ (v : ℕ). copies v Nx.pre Nx.post) q);
          low = next_low;
          valid = inr (omega arith);
        })

    -- in an open group
    open_rest : (m : ℕ) → l ≡ suc m → plain (spot r) ≡ false
        → due_after (state (spot r) l) w ≡ ones (drop 1 (spot r).pre) (copies m (spot r).grp (spot r).post)
    unfolding common state
    open_rest m q p = ap (λ (x : ℕ). due_after (state (spot r) x) w) q ∙ rest_ones (spot r).pre _ w (rw p at (every 4))

    some_left : plain (spot r) ≡ false → Valid r l → 1 ≤ l
    some_left p v = ⊎_elim (λ (q : plain (spot r) ≡ true). absurd (false_true (sym p ∙ q))) (λ (q : 1 ≤ l). q) v

    step_within : plain (spot r) ≡ false → Valid r l → eqb (flow r) 0 ≡ true → all_true (within r) ≡ true → Step
    unfolding within state
    step_within p v e t = go l refl
      where
        go : (x : ℕ) → l ≡ x → Step
        go zero q = absurd (omega (arith, some_left p v))
        go (suc m) q = to l (next r) (left_none e) (row_none e l) (record {
          due = ap (state (spot (next r))) q
              ∙ rw (list_is _ _ (nth_true (within r) t 0), list_is _ _ (nth_true (within r) t 1), items_is _ _ (nth_true (within r) t 2)) (sym (open_rest m q p));
          low = next_low;
          valid = inr (some_left p v);
        })

    step_last : plain (spot r) ≡ false → Valid r l → eqb (flow r) 0 ≡ false → eqb (flow r) 1 ≡ false → all_true (last r) ≡ true → Step
    unfolding last state
    step_last p v e f t = go l refl
      where
        G : List ℕ
        G = (spot r).grp

        none_left : (m : ℕ) → l ≡ suc m → due_after (state (spot r) l) w ≡ copies m G (spot r).post
        none_left m q = open_rest m q p ∙ ap (λ (ks : List ℕ). ones ks (copies m G (spot r).post)) (list_is _ _ (nth_true (last r) t 1))

        go : (x : ℕ) → l ≡ x → Step
        go zero q = absurd (omega (arith, some_left p v))
        go (suc zero) q = to 0 (done r) (left_last e f ∙ omega arith) (row_done e) (record {
          due = items_is _ _ (nth_true (last r) t 3) ∙ sym (none_left 0 q);
          low = done_low;
          valid = inl (nth_true (last r) t 2);
        })
        go (suc (suc m)) q = to (suc m) (next r) (left_last e f ∙ omega arith) (row_more e m) (record {
          due = rw (list_is _ _ (nth_true (last r) t 4), list_is _ _ (nth_true (last r) t 5), items_is _ _ (nth_true (last r) t 6)) (sym (none_left (suc m) q));
          low = next_low;
          valid = inr (omega arith);
        })

    -- whichever it is
    steps : Valid r l → Step
    unfolding ok_row last
    steps v = go (eqb (flow r) 0) refl (eqb (flow r) 1) refl (plain (spot r)) refl (and_right (all_true (common r)) _ ok)
      where
        closed : plain (spot r) ≡ true → not (plain (spot r)) ≡ false
        closed q = ap not q

        go : (a : Bool) → eqb (flow r) 0 ≡ a → (b : Bool) → eqb (flow r) 1 ≡ b → (c : Bool) → plain (spot r) ≡ c
            → cond a (cond c (all_true (alone r)) (all_true (within r))) (cond b (all_true (counts r)) (all_true (last r))) ≡ true → Step
        go true e b f true p t = step_alone p e t
        go true e b f false p t = step_within p v e t
        go false e true f c p t = step_counts e f t
        go false e false f true p t = absurd (false_true (sym (closed p) ∙ nth_true (last r) t 0))
        go false e false f false p t = step_last p v e f t

  kind_is : (l : ℕ) → Valid r l → kind_in (row_at r) ≡ kind_of (state (spot r) l)
  unfolding common
  kind_is l v = eqb-true _ _ (every 0) ∙ sym (begins l v).0

  ends_is : (l : ℕ) → Valid r l → ends_in (row_at r) ≡ ends (state (spot r) l)
  unfolding common
  ends_is l v = same_is _ _ (every 1) ∙ sym (begins l v).1

-- ---- a payload fits by the rows as it fits by the items, and names the same children

fits_state : (ok : ℕ → ℕ → Bool) (p : List ℕ) (r l : ℕ) → r < 122 → Valid r l → fits_row ok r l p ≡ fits ok (state (spot r) l) p
unfolding fits_row fits
fits_state ok [] r l h v = ends_is r h l v
fits_state ok (a ∷ []) r l h v = refl
fits_state ok (a ∷ b ∷ p) r l h v =
    let g = steps r h l (a * 256 + b) v in
    ap₂ ◌&&◌ (ap (λ (k : ℕ). ok k (a * 256 + b)) (kind_is r h l v))
    (fits_state ok p _ _ g.low g.valid ∙ ap (λ (is : List Item). fits ok is p) g.due)

kids_state : (p : List ℕ) (r l : ℕ) → r < 122 → Valid r l → kids_row r l p ≡ kids (state (spot r) l) p
unfolding kids_row kids
kids_state [] r l h v = refl
kids_state (a ∷ []) r l h v = refl
kids_state (a ∷ b ∷ p) r l h v =
    let g = steps r h l (a * 256 + b) v in
    ap₂ ◌++◌ (ap (λ (k : ℕ). cond (names k (a * 256 + b)) ((a * 256 + b) ∷ []) []) (kind_is r h l v))
    (kids_state p _ _ g.low g.valid ∙ ap (λ (is : List Item). kids is p) g.due)

-- ---- the first row of each tag

start_tests : ℕ → List Item → List Bool
start_tests row is = eq_items (fixed (spot row)) is ∷ ltb row 122 ∷ plain (spot row) ∷ []

-- the row of a tag: a program's is 77
abbrev row_of : (wide : Bool) → (tag : ℕ) → ℕ
row_of wide tag = cond (is_program tag) 77 (get_or (first_rows wide) tag 0)

starts_ok : (wide : Bool) → all_to (λ tag. all_true (start_tests (row_of wide tag) (spread wide (get_or grammar tag never)))) 63 ≡ true
unfolding all_to all_true start_tests first_rows spot spots all_spots tags widened fresh is_among spread spread_kinds spots_of in_group at_items fixed null plain eq_list eq_items ctor args grammar
starts_ok false = refl
starts_ok true = refl

-- row 0 is that of what fits nothing
never_true : all_true (start_tests 0 never) ≡ true
unfolding all_true start_tests spot spots at_items fixed null plain eq_list eq_items ctor args
never_true = refl

-- a number beyond the table is no tag
beyond_first : (wide : Bool) (tag : ℕ) → 30 ≤ tag → get_or (first_rows wide) tag 0 ≡ 0
unfolding first_rows
beyond_first false tag h = get_or-eq_default (first_rows false) 0 h
beyond_first true tag h = get_or-eq_default (first_rows true) 0 h

beyond_row : (wide : Bool) (tag : ℕ) → 63 ≤ tag → row_of wide tag ≡ 0
beyond_row wide tag h = simp (ne_eqb tag 0x1E (λ q. omega arith), ne_eqb tag 0x3E (λ q. omega arith)) (beyond_first wide tag (omega arith))

beyond_items : (wide : Bool) (tag : ℕ) → 63 ≤ tag → spread wide (get_or grammar tag never) ≡ never
unfolding grammar spread spread_kinds
beyond_items wide tag h = ap (spread wide) (get_or-eq_default grammar never h)

start_true : (wide : Bool) (tag : ℕ) → all_true (start_tests (row_of wide tag) (items_in wide tag)) ≡ true
unfolding items_in items_of
start_true wide tag =
    ⊎_elim (λ (q : tag < 63). all_below (λ t. all_true (start_tests (row_of wide t) (spread wide (get_or grammar t never)))) 63 tag (starts_ok wide) q)
    (λ (q : 63 ≤ tag). ap₂ (λ (r : ℕ) (is : List Item). all_true (start_tests r is)) (beyond_row wide tag q) (beyond_items wide tag q) ∙ never_true)
    (lt_or_le tag 63)

module _ (row : ℕ) (is : List Item) (t : all_true (start_tests row is) ≡ true) where
  first_low : row < 122
  unfolding start_tests
  first_low = ltb-true _ 122 (nth_true (start_tests row is) t 1)

  first_valid : Valid row 0
  unfolding start_tests
  first_valid = inl (nth_true (start_tests row is) t 2)

  first_is : state (spot row) 0 ≡ is
  unfolding start_tests state
  first_is = items_is _ _ (nth_true (start_tests row is) t 0)

  first_fits : (ok : ℕ → ℕ → Bool) (p : List ℕ) → fits ok is p ≡ fits_row ok row 0 p
  first_fits ok p = sym (fits_state ok p row 0 first_low first_valid ∙ ap (λ (i : List Item). fits ok i p) first_is)

  first_kids : (p : List ℕ) → kids is p ≡ kids_row row 0 p
  first_kids p = sym (kids_state p row 0 first_low first_valid ∙ ap (λ (i : List Item). kids i p) first_is)

-- as the code finds it for a node that is not the last
module _ (wide : Bool) (tag : ℕ) where
  pub start_tag : tag < 0x1E → get_or (first_rows wide) tag 0 ≡ start_of wide tag false
  unfolding start_of
  start_tag h = simp (ne_eqb tag 0x1E (λ q. omega arith), ne_eqb tag 0x3E (λ q. omega arith))

  pub start_none : 0x1E ≤ tag → 0 ≡ start_of wide tag false
  unfolding start_of
  start_none h = go (is_program tag)
    where
      go : (b : Bool) → 0 ≡ cond b 0 (get_or (first_rows wide) tag 0)
      go true = refl
      go false = sym (beyond_first wide tag h)

-- a node that must be the program, or must not be
module _ {A : Type 0} (f : List Item → A) (g : ℕ → A) (wide : Bool) (tag : ℕ) (yes : f (items_in wide tag) ≡ g (row_of wide tag)) (non : f never ≡ g 0) where
  by_start : (final : Bool) → f (items_for wide tag final) ≡ g (start_of wide tag final)
  unfolding items_for start_of
  by_start true = go (is_program tag) yes
    where
      go : (b : Bool) → f (items_in wide tag) ≡ g (cond b 77 (get_or (first_rows wide) tag 0)) → f (cond b (items_in wide tag) never) ≡ g (cond b 77 0)
      go true y = y
      go false y = non
  by_start false = go (is_program tag) yes
    where
      go : (b : Bool) → f (items_in wide tag) ≡ g (cond b 77 (get_or (first_rows wide) tag 0)) → f (cond b never (items_in wide tag)) ≡ g (cond b 0 (get_or (first_rows wide) tag 0))
      go true y = non
      go false y = y

pub fits_rows : (ok : ℕ → ℕ → Bool) (wide : Bool) (tag : ℕ) (final : Bool) (p : List ℕ) → fits ok (items_for wide tag final) p ≡ fits_row ok (start_of wide tag final) 0 p
fits_rows ok wide tag final p =
    by_start (λ is. fits ok is p) (λ r. fits_row ok r 0 p) wide tag
    (first_fits (row_of wide tag) (items_in wide tag) (start_true wide tag) ok p)
    (first_fits 0 never never_true ok p)
    final

-- a payload that fits names the children of its tag
pub kids_rows : (wide : Bool) (tag : ℕ) (final : Bool) (p : List ℕ) → kids (items_for wide tag final) p ≡ kids_row (start_of wide tag final) 0 p
kids_rows wide tag final p =
    by_start (λ is. kids is p) (λ r. kids_row r 0 p) wide tag
    (first_kids (row_of wide tag) (items_in wide tag) (start_true wide tag) p)
    (first_kids 0 never never_true p)
    final
