-- Field i of a tree stands at byte `header tree i`: what a reader of a node goes by.
use mathlib.Core.Path.{◌≡◌, refl, sym, ap, ◌∙◌}
use mathlib.Core.Bool.{Bool, true, false}
use mathlib.Core.List.{List}
use Prim.Native.Nat.{ℕ, zero, suc, ◌+◌, ◌-◌, ◌/◌, ◌<◌, ◌≤◌}
use native.Mathlib.Nat.{add-zero}
use native.Mathlib.Omega.{arith}
use lib.ListN.{length, get_or, take, drop, length-take, length-drop}
use lib.Seq.{drop-drop, get_or-drop}
use Rattle.meaning.specs.Fields.{word_at, span, whole, Field, front, rest, fields, field_at, header}
use Rattle.meaning.specs.At.{tag_of, file_words}
use Rattle.meaning.proofs.FieldLaws.{whole_true, fields_whole, fields_cut}
use Rattle.nodes.proofs.Bytes.{words_count}
use Rattle.nodes.specs.Offsets.{Offsets, Readable}

-- where there is a field, a whole one stands at the front
some_whole : (s : List ℕ) → 1 ≤ length (fields s) → whole s ≡ true
some_whole s h = go (whole s) refl
  where
    go : (b : Bool) → whole s ≡ b → whole s ≡ true
    go true w = w
    go false w = absurd (omega (arith, ap length (fields_cut s w)))

-- what stands at field i's header
pub record Stands (s : List ℕ) (i : ℕ) : Type 0 where
  pub entire : whole (drop (header s i) s) ≡ true
  pub same : field_at (fields s) i ≡ front (drop (header s i) s)

pub stands : (s : List ℕ) (i : ℕ) → i < length (fields s) → Stands s i
unfolding header
stands s zero h =
    let w = some_whole s (omega arith) in
    record { entire = w; same = ap (λ (fs : List Field). field_at fs 0) (fields_whole s w) }
stands s (suc i) h =
    let w = some_whole s (omega arith) in
    let r = stands (rest s) i (omega (arith, ap length (fields_whole s w))) in
    let d = drop-drop (header (rest s) i) (span s) s in
    record { entire = rw d at r.entire; same = ap (λ (fs : List Field). field_at fs (suc i)) (fields_whole s w) ∙ (rw d at r.same) }

-- the length that the header at n says
pub size_drop : (s : List ℕ) (n : ℕ) → word_at (drop n s) 1 ≡ word_at s (n + 1)
size_drop s n =
    let z : n + 1 + 1 ≡ n + 2 = omega arith in
    rw (get_or-drop n s 1 0, get_or-drop n s 2 0, z)

-- a node has fewer than 65,536 words: its length stands in two bytes
pub few_words : (tree : List ℕ) (i : ℕ) → ((j : ℕ) → get_or tree j 0 < 256) → i < length (fields tree) → length (file_words (fields tree) i) < 65536
few_words tree i bytes h =
    let s = drop (header tree i) tree in
    let e = ap (λ (f : Field). length f.payload) (stands tree i h).same in
    let n = words_count (take (word_at s 1) (drop 3 s)) in
    let z = size_drop tree (header tree i) in
    rw (stands tree i h).same (omega (arith, n, length-take (word_at s 1) (drop 3 s), z, bytes (header tree i + 1), bytes (header tree i + 1 + 1)))

-- ---- a reader's view: the bytes at the offset that the table has

module _ {tree work : List ℕ} {node : ℕ} (h : Readable tree work node) where
  -- the offset's word is in the table
  pub entry_inside : node < length work
  entry_inside = omega (arith, h.offsets.inside, h.known)

  module _ (start : ℕ) (e : start ≡ get_or work (length work - 1 - node) 0) where
    here : (whole (drop start tree) ≡ true) × (field_at (fields tree) node ≡ front (drop start tree))
    here = let r = stands tree node h.known in rw (e ∙ h.offsets.each node h.known) (r.entire, r.same)

    pub field_inside : start + 3 + word_at tree (start + 1) ≤ length tree
    field_inside = omega (arith, whole_true (drop start tree) here.0, length-drop start tree, size_drop tree start)

    pub tag_is : get_or tree start 0 ≡ tag_of (fields tree) node
    tag_is = sym (ap (λ (f : Field). f.tag) here.1 ∙ get_or-drop start tree 0 0 ∙ ap (λ (n : ℕ). get_or tree n 0) (add-zero start))

    pub payload_is : take (word_at tree (start + 1)) (drop (start + 3) tree) ≡ (field_at (fields tree) node).payload
    payload_is = rw (here.1, size_drop tree start, drop-drop 3 start tree)

    pub count_is : word_at tree (start + 1) / 2 ≡ length (file_words (fields tree) node)
    count_is =
        let n = simp (length-take, length-drop) at (ap length payload_is) in
        let h = words_count (field_at (fields tree) node).payload in
        ap (λ n. n / 2) (omega (arith, n, field_inside)) ∙ sym h

-- ---- the table

-- what changes no word of the table keeps it
pub offsets_kept : {tree work work' : List ℕ} → Offsets tree work → length work' ≡ length work
    → ((i : ℕ) → length work ≤ i + length (fields tree) → get_or work' i 0 ≡ get_or work i 0) → Offsets tree work'
offsets_kept {work = work} o l same = record {
  inside = omega (arith, o.inside);
  each = λ i h. rw l (same (length work - 1 - i) (omega (arith, o.inside)) ∙ o.each i h);
}
