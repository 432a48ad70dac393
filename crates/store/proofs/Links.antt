-- Locals by name: nothing between the latest local of a bucket and the end has a name in it, and what a link passes over is shadowed, so a walk along the links
-- meets the latest local of a name.
use Rattle.std.proofs.Common.{◌≡◌, ℕ, zero, suc, ◌+◌, ◌-◌, ◌*◌, ◌/◌, ◌%◌, ◌<◌, ◌≤◌, max, Bool, true, false, cond, eqb, ltb, List, length, get_or, sym, refl, ap, ◌∙◌, arith, le-ltb, lt-ltb, eq-eqb, ne_eqb}
use mathlib.Core.Option.{Option, none, some}
use native.Mathlib.Decide.{dec_lt, ℕ_discrete}
use Rattle.store.specs.Half.{with_half}
use Rattle.store.specs.Table.{span}
use Rattle.store.specs.Layout.{first_edge, first_local, top, first_head, beyond, all_words, edge, local_at, block, latest, link, head}
use Rattle.store.specs.Store.{Shadowed, Leads, Linked}
use Rattle.store.specs.Search.{seek}
use Rattle.store.proofs.Tables.{span_more, span_none}
use Rattle.store.proofs.Halves.{half_same, half_other, word_other, length_half}
use Rattle.store.proofs.Regions.{Locals, fewer, locals_same, latest_same, leads_same, edges_below}
use Rattle.meaning.specs.State.{Local, local_in_block, local_of}

-- ---- the latest of a bucket

module _ (w : List ℕ) (n b : ℕ) where
  pub latest_hit : (k : ℕ) → (local_at w n k).name % (10 * n) ≡ b → latest w n b (suc k) ≡ suc k
  unfolding latest
  latest_hit k e = rw (eq-eqb ((local_at w n k).name % (10 * n)) b e)

  pub latest_miss : (k : ℕ) → ¬ ((local_at w n k).name % (10 * n) ≡ b) → latest w n b (suc k) ≡ latest w n b k
  unfolding latest
  latest_miss k e = rw (ne_eqb ((local_at w n k).name % (10 * n)) b e)

  pub latest_none : latest w n b 0 ≡ 0
  unfolding latest
  latest_none = refl

  pub latest_le : (k : ℕ) → latest w n b k ≤ k
  latest_le zero = omega (arith, latest_none)
  latest_le (suc k) = cases (latest_le k) (ℕ_discrete ((local_at w n k).name % (10 * n)) b)
    where
      cases : latest w n b k ≤ k → Dec ((local_at w n k).name % (10 * n) ≡ b) → latest w n b (suc k) ≤ suc k
      cases ih (yes e) = omega (arith, latest_hit k e)
      cases ih (no e) = omega (arith, latest_miss k e)

  -- between the latest and the end there is none
  pub latest_between : (k e : ℕ) → latest w n b k ≤ e → e ≤ k → latest w n b e ≡ latest w n b k
  latest_between zero e h l = let z : e ≡ 0 = omega arith in rw z
  latest_between (suc k) e h l = cases (λ x y. latest_between k e x y) (ℕ_discrete e (suc k)) (ℕ_discrete ((local_at w n k).name % (10 * n)) b)
    where
      cases : (latest w n b k ≤ e → e ≤ k → latest w n b e ≡ latest w n b k) → Dec (e ≡ suc k) → Dec ((local_at w n k).name % (10 * n) ≡ b) → latest w n b e ≡ latest w n b (suc k)
      cases ih (yes x) y = rw x
      cases ih (no x) (yes y) = absurd (omega (arith, latest_hit k y))
      cases ih (no x) (no y) = let m = latest_miss k y in ih (omega arith) (omega arith) ∙ sym m

  pub latest_gap : (k m : ℕ) → latest w n b k ≤ m → m < k → ¬ ((local_at w n m).name % (10 * n) ≡ b)
  latest_gap k m l h e = omega (arith, latest_hit m e, latest_between k (suc m) (omega arith) h)

  -- the latest is in the bucket
  pub latest_in : (k i : ℕ) → latest w n b k ≡ suc i → (local_at w n i).name % (10 * n) ≡ b
  latest_in zero i e = absurd (omega (arith, latest_none))
  latest_in (suc k) i e = cases (λ x. latest_in k i x) (ℕ_discrete ((local_at w n k).name % (10 * n)) b)
    where
      cases : (latest w n b k ≡ suc i → (local_at w n i).name % (10 * n) ≡ b) → Dec ((local_at w n k).name % (10 * n) ≡ b) → (local_at w n i).name % (10 * n) ≡ b
      cases ih (yes y) = let z : k ≡ i = omega (arith, latest_hit k y) in ap (λ j. (local_at w n j).name % (10 * n)) (sym z) ∙ y
      cases ih (no y) = ih (sym (latest_miss k y) ∙ e)

-- ---- the search by name

module _ (name : ℕ) (f : ℕ → Local) where
  pub seek_more : (a n : ℕ) (o : Option ℕ) → a ≤ n → seek name f a (suc n) o ≡ cond (eqb name (f n).name) (some (f n).register) (seek name f a n o)
  unfolding seek
  seek_more a n o h = rw (le-ltb n a h)

  pub seek_none : (a n : ℕ) (o : Option ℕ) → n ≤ a → seek name f a n o ≡ o
  unfolding seek
  seek_none a zero o h = refl
  seek_none a (suc n) o h = rw (lt-ltb n a h)

  pub seek_hit : (a n : ℕ) (o : Option ℕ) → a ≤ n → name ≡ (f n).name → seek name f a (suc n) o ≡ some (f n).register
  seek_hit a n o h e = seek_more a n o h ∙ rw (eq-eqb name (f n).name e)

  pub seek_miss : (a n : ℕ) (o : Option ℕ) → ¬ (name ≡ (f n).name) → seek name f a (suc n) o ≡ seek name f a n o
  seek_miss a n o e = cases (dec_lt n a)
    where
      cases : Dec (n < a) → seek name f a (suc n) o ≡ seek name f a n o
      cases (yes l) = seek_none a (suc n) o l ∙ sym (seek_none a n o (omega arith))
      cases (no l) = seek_more a n o (omega arith) ∙ rw (ne_eqb name (f n).name e)

  -- none of that name from m up to n
  pub seek_pass : (a m n : ℕ) (o : Option ℕ) → m ≤ n → ((j : ℕ) → m ≤ j → j < n → ¬ (name ≡ (f j).name)) → seek name f a m o ≡ seek name f a n o
  seek_pass a m zero o l h = let e : m ≡ 0 = omega arith in rw e
  seek_pass a m (suc n) o l h = cases (λ x. seek_pass a m n o x (λ j y z. h j y (omega arith))) (dec_lt n m)
    where
      cases : (m ≤ n → seek name f a m o ≡ seek name f a n o) → Dec (n < m) → seek name f a m o ≡ seek name f a (suc n) o
      cases ih (yes k) = let e : m ≡ suc n = omega arith in rw e
      cases ih (no k) = ih (omega arith) ∙ sym (seek_miss a n o (h n (omega arith) (omega arith)))

  in_span : (a n : ℕ) (o : Option ℕ) → local_in_block name (span f a n) o ≡ seek name f a n o
  in_span a zero o = rw (span_none f a zero (omega arith), seek_none a zero o (omega arith))
  in_span a (suc n) o = cases (in_span a n o) (dec_lt n a)
    where
      cases : local_in_block name (span f a n) o ≡ seek name f a n o → Dec (n < a) → local_in_block name (span f a (suc n)) o ≡ seek name f a (suc n) o
      cases ih (yes k) = rw (span_none f a (suc n) k, seek_none a (suc n) o k)
      cases ih (no k) =
          let l : a ≤ n = omega arith in
          rw (span_more f a n l, seek_more a n o l) (ap (λ x. cond (eqb name (f n).name) (some (f n).register) x) ih)

  seek_join : (z a b : ℕ) (o : Option ℕ) → z ≤ a → a ≤ b → seek name f a b (seek name f z a o) ≡ seek name f z b o
  seek_join z a zero o h k = let e : a ≡ 0 = omega arith in rw e (seek_none 0 0 (seek name f z 0 o) (omega arith))
  seek_join z a (suc n) o h k = cases (λ l. seek_join z a n o h l) (dec_lt n a)
    where
      cases : (a ≤ n → seek name f a n (seek name f z a o) ≡ seek name f z n o) → Dec (n < a) → seek name f a (suc n) (seek name f z a o) ≡ seek name f z (suc n) o
      cases ih (yes l) = let e : a ≡ suc n = omega arith in rw e (seek_none (suc n) (suc n) (seek name f z (suc n) o) (omega arith))
      cases ih (no l) =
          let m : a ≤ n = omega arith in
          rw (seek_more a n (seek name f z a o) m, seek_more z n o (omega arith)) (ap (λ x. cond (eqb name (f n).name) (some (f n).register) x) (ih m))

-- the blocks from a up to e
pub in_blocks : (w : List ℕ) (n name a e : ℕ) → ((i : ℕ) → i < a → edge w n i ≤ edge w n (suc i)) → ((i : ℕ) → i < e → edge w n i ≤ edge w n (suc i)) → local_of name (span (block w n) a e) ≡ seek name (local_at w n) (edge w n a) (edge w n e) none
in_blocks w n name a zero ha he =
    rw (span_none (block w n) a zero (omega arith)) (sym (seek_none name (local_at w n) (edge w n a) (edge w n 0) none (edges_below w n a ha 0 (omega arith))))
in_blocks w n name a (suc m) ha he = cases (in_blocks w n name a m ha (λ i k. he i (omega arith))) (dec_lt m a)
  where
    cases : local_of name (span (block w n) a m) ≡ seek name (local_at w n) (edge w n a) (edge w n m) none → Dec (m < a) → local_of name (span (block w n) a (suc m)) ≡ seek name (local_at w n) (edge w n a) (edge w n (suc m)) none
    cases ih (yes k) = rw (span_none (block w n) a (suc m) k) (sym (seek_none name (local_at w n) (edge w n a) (edge w n (suc m)) none (edges_below w n a ha (suc m) k)))
    cases ih (no k) =
        let l : a ≤ m = omega arith in
        rw (span_more (block w n) a m l, in_span name (local_at w n) (edge w n m) (edge w n (suc m)) (local_of name (span (block w n) a m)), ih)
        (seek_join name (local_at w n) (edge w n a) (edge w n m) (edge w n (suc m)) none (edges_below w n m (λ i x. he i (omega arith)) a l) (he m (omega arith)))

-- ---- the walk

-- the walk starts at the head, the latest of all
module _ (w : List ℕ) (n b k : ℕ) (h : Linked w n b) (range : k < 10 * n) where
  pub head_within : head w n k ≤ edge w n b
  head_within = let e = h.heads k range in omega (arith, latest_le w n k (edge w n b))

  -- what is passed over at first: the locals from `end` on
  pub skip_start : (end : ℕ) → end ≤ edge w n b → latest w n k (max (head w n k) end) ≡ head w n k
  skip_start end l =
      let e = h.heads k range in
      let u = latest_le w n k (edge w n b) in
      latest_between w n k (edge w n b) (max (head w n k) end) (omega arith) (omega arith) ∙ sym e

pub walk_self : (w : List ℕ) (n k i m : ℕ) → latest w n k m ≡ i → latest w n k i ≡ i
walk_self w n k i m e = let u = latest_le w n k m in latest_between w n k m i (omega arith) (omega arith) ∙ e

pub skip_self : (w : List ℕ) (n k i end : ℕ) → end < i → latest w n k (max i end) ≡ i → latest w n k i ≡ i
skip_self w n k i end l e = let m : max i end ≡ i = omega arith in rw m at e

pub skip_end : (w : List ℕ) (n k i end : ℕ) → i ≤ end → latest w n k (max i end) ≡ i → latest w n k end ≡ i
skip_end w n k i end l e = let m : max i end ≡ end = omega arith in rw m at e

-- a turn of the walk, from i, the latest of its bucket: to the latest before `back`
module _ (w : List ℕ) (n b k i : ℕ) (h : Linked w n b) (some : 0 < i) (within : i ≤ edge w n b) (own : latest w n k i ≡ i) where
  turn : Leads w n b (i - 1)
  turn = h.links (i - 1) (omega arith)

  in_bucket : (local_at w n (i - 1)).name % (10 * n) ≡ k
  in_bucket = let s : i ≡ suc (i - 1) = omega arith in latest_in w n k i (i - 1) (own ∙ s)

  to : link w n (i - 1) ≡ latest w n k turn.back
  to = turn.leads ∙ ap (λ x. latest w n x turn.back) in_bucket

  pub turn_less : link w n (i - 1) < i
  turn_less = omega (arith, to, turn.before, latest_le w n k turn.back)

  pub turn_self : latest w n k (link w n (i - 1)) ≡ link w n (i - 1)
  turn_self = walk_self w n k (link w n (i - 1)) turn.back (sym to)

  -- beyond the edge of a block all that is passed over is beyond it too
  pub skip_next : (e end : ℕ) → e ≤ b → end ≡ edge w n e → end < i → latest w n k (max (link w n (i - 1)) end) ≡ link w n (i - 1)
  skip_next e end l g m =
      let v = latest_le w n k turn.back in
      let u = turn.within e l (omega arith) in
      latest_between w n k turn.back (max (link w n (i - 1)) end) (omega (arith, to)) (omega (arith, to)) ∙ sym to

  -- below `end`, where all from i on have another name than the one that is sought: what is passed over is shadowed by one of them
  pub walk_miss : (name e end : ℕ) → name % (10 * n) ≡ k → e ≤ b → end ≡ edge w n e → i ≤ end → ((m : ℕ) → i ≤ m → m < end → ¬ ((local_at w n m).name ≡ name)) → ¬ ((local_at w n (i - 1)).name ≡ name)
      → (m : ℕ) → link w n (i - 1) ≤ m → m < end → ¬ ((local_at w n m).name ≡ name)
  walk_miss name e end kn eb ee le all ne m lo hi g = cases (dec_lt m turn.back) (dec_lt m (i - 1))
    where
      from_here : (j : ℕ) → i - 1 ≤ j → j < end → (local_at w n j).name ≡ name → Dec (j ≡ i - 1) → ⊥
      from_here j x y z (yes q) = ne (ap (λ r. (local_at w n r).name) (sym q) ∙ z)
      from_here j x y z (no q) = all j (omega arith) y z

      in_k : (local_at w n m).name % (10 * n) ≡ k
      in_k = ap (λ x. x % (10 * n)) g ∙ kn

      below : (s : Shadowed w n b (i - 1) m) → m < i - 1 → Dec (s.by < end) → ⊥
      below s x (yes q) = from_here s.by s.later q (s.same ∙ g) (ℕ_discrete s.by (i - 1))
      below s x (no q) = omega (arith, s.together e eb (omega arith))

      cases : Dec (m < turn.back) → Dec (m < i - 1) → ⊥
      cases (yes x) y = latest_gap w n k turn.back m (omega (arith, to)) x in_k
      cases (no x) (yes y) = let s = turn.shadowed m (omega arith) y (in_k ∙ sym in_bucket) in below s y (dec_lt s.by end)
      cases (no x) (no y) = from_here m (omega arith) hi g (ℕ_discrete m (i - 1))

pub walk_start : (w : List ℕ) (n name end i : ℕ) → latest w n (name % (10 * n)) end ≡ i → (m : ℕ) → i ≤ m → m < end → ¬ ((local_at w n m).name ≡ name)
walk_start w n name end i e m l h g = latest_gap w n (name % (10 * n)) end m (omega arith) h (ap (λ x. x % (10 * n)) g)

unsuc : (i a : ℕ) → a < i → i ≡ suc (i - 1)
unsuc i a h = omega arith

module _ (w : List ℕ) (n name start end i : ℕ) (le : i ≤ end) (all : (m : ℕ) → i ≤ m → m < end → ¬ ((local_at w n m).name ≡ name)) where
  passed : seek name (local_at w n) start end none ≡ seek name (local_at w n) start i none
  passed = sym (seek_pass name (local_at w n) start i end none le (λ j x y z. all j x y (sym z)))

  pub walk_hit : start < i → (local_at w n (i - 1)).name ≡ name → seek name (local_at w n) start end none ≡ some (local_at w n (i - 1)).register
  walk_hit l e = passed ∙ ap (λ k. seek name (local_at w n) start k none) (unsuc i start l) ∙ seek_hit name (local_at w n) start (i - 1) none (omega arith) (sym e)

  pub walk_none : i ≤ start → seek name (local_at w n) start end none ≡ none
  walk_none l = passed ∙ seek_none name (local_at w n) start i none l

pub seek_small : (w : List ℕ) (n name a k : ℕ) (i : ℕ) → seek name (local_at w n) a k none ≡ some i → i < 255
unfolding seek
seek_small w n name a zero i e = absurd (let z : ◌≡◌ {A = ℕ} 0 1 = cc in omega arith)
seek_small w n name a (suc k) i e = go (ltb k a) (eqb name (local_at w n k).name) (λ g. seek_small w n name a k i g) e
  where
    go : (b c : Bool) → (seek name (local_at w n) a k none ≡ some i → i < 255) → cond b none (cond c (some (local_at w n k).register) (seek name (local_at w n) a k none)) ≡ some i → i < 255
    go true c ih g = absurd (let z : ◌≡◌ {A = ℕ} 0 1 = cc in omega arith)
    go false true ih g = let h : (local_at w n k).register ≡ i = cc in omega arith
    go false false ih g = ih g

-- ---- popping: of w the locals up to i are left, the heads in w1 lead to some between `from` and i, and nothing else changed

pub record Heads (w w1 : List ℕ) (n from i c : ℕ) : Type 0 where
  pub back : ℕ
  pub low : from ≤ back
  pub high : back ≤ i
  pub leads : head w1 n c ≡ latest w n c back

pub record Popping (w w1 : List ℕ) (n from i : ℕ) : Type 0 where
  pub same : length w1 ≡ length w
  pub other : (j : ℕ) → (top n ≤ j → beyond n ≤ j) → get_or w1 j 0 ≡ get_or w j 0
  pub heads : (c : ℕ) → c < 10 * n → Heads w w1 n from i c

pub popping_start : {w : List ℕ} {n b : ℕ} (from i : ℕ) → from ≤ i → i ≡ edge w n b → Linked w n b → Popping w w n from i
popping_start {w} {n} from i l e h = record { same = refl; other = λ j l. refl; heads = λ c m. record { back = i; low = l; high = omega arith; leads = h.heads c m ∙ ap (λ k. latest w n c k) (sym e) } }

-- the link of the local that is popped becomes the head of its bucket; its block starts at edge e
module _ (w w1 : List ℕ) (n e i k v b : ℕ) (linked : Linked w n b) (inner : e ≤ b) (from : edge w n e ≤ i) (within : i < edge w n b) (few : edge w n b ≤ n + 2040) (long : all_words n ≤ length w) (range : k < 10 * n) (own : (local_at w n i).name % (10 * n) ≡ k) (back : v ≡ link w1 n i) (tiny : v < 65536)
    (g : Popping w w1 n (edge w n e) (suc i)) where
  old : Leads w n b i
  old = linked.links i within

  link_back : v ≡ latest w n k old.back
  link_back = back ∙ ap (λ x. x / 65536) (g.other (first_local n + i) (λ z. absurd (omega arith))) ∙ old.leads ∙ ap (λ c. latest w n c old.back) own

  inside : (first_head n + k) / 2 < length w1
  inside = omega (arith, g.same)

  pub popping_next : Popping w (with_half w1 (first_head n + k) v) n (edge w n e) i
  popping_next =
      record {
        same = length_half w1 (first_head n + k) v ∙ g.same;
        other = λ j l. word_other w1 (first_head n + k) j v (λ e. let x = l (omega arith) in omega arith) ∙ g.other j l;
        heads = λ c l. cases c l (ℕ_discrete c k) (g.heads c l) (dec_lt i (g.heads c l).back);
      }
    where
      cases : (c : ℕ) → c < 10 * n → Dec (c ≡ k) → (h : Heads w w1 n (edge w n e) (suc i) c) → Dec (i < h.back) → Heads w (with_half w1 (first_head n + k) v) n (edge w n e) i c
      cases c l (yes x) h y =
          record { back = old.back; low = old.within e inner from; high = old.before; leads = rw x (half_same w1 (first_head n + k) v inside tiny ∙ link_back) }
      cases c l (no x) h (no y) =
          record { back = h.back; low = h.low; high = omega arith; leads = half_other w1 (first_head n + k) v inside tiny (first_head n + c) (omega arith) ∙ h.leads }
      cases c l (no x) h (yes y) =
          let z : h.back ≡ suc i = omega (arith, h.high) in
          record {
            back = i;
            low = from;
            high = omega arith;
            leads = half_other w1 (first_head n + k) v inside tiny (first_head n + c) (omega arith) ∙ h.leads ∙ ap (λ m. latest w n c m) z ∙ latest_miss w n c i (λ q. x (sym q ∙ own));
          }

-- the locals that are left are linked
pub popping_end : {w w1 : List ℕ} {n i : ℕ} (b : ℕ) → i ≡ edge w n b → b ≤ n + 10 → edge w n b ≤ edge w n (b + 1) → edge w n (b + 1) ≤ n + 2040 → Linked w n (b + 1) → Popping w w1 n (edge w n b) i → Linked w1 n b
popping_end {w} {w1} {n} {i} b e blocks rises few h g =
    record {
      links = λ j l.
          leads_same w w1 n (b + 1) b locals (λ x y z. (omega arith, edges x y)) j (omega (arith, edges b (omega arith))) (ap (λ x. x / 65536) (g.other (first_local n + j) (λ z. absurd (omega (arith, edges b (omega arith))))))
          (λ m x s. left j m l x s (dec_lt s.by (edge w n b)))
          (h.links j (omega (arith, edges b (omega arith))));
      heads = λ c l.
          let q = g.heads c l in
          let z : q.back ≡ edge w n b = omega (arith, q.low, q.high) in
          q.leads ∙ ap (λ m. latest w n c m) z ∙ sym (ap (λ m. latest w1 n c m) (edges b (omega arith)) ∙ latest_same w w1 n c (edge w n b) lo);
    }
  where
    edges : (x : ℕ) → x ≤ b → edge w1 n x ≡ edge w n x
    edges x y = g.other (first_edge n + x) (λ z. absurd (omega arith))

    locals : Locals w w1 n (edge w n (b + 1))
    locals = locals_same w w1 n (edge w n (b + 1)) few (record { same = λ j a c. g.other j (λ z. absurd (omega arith)) }) (record { same = λ j a c. g.other j (λ z. absurd (omega arith)) })

    lo : Locals w w1 n (edge w n b)
    lo = fewer (edge w n b) rises locals

    -- what shadows one that is left is left too
    left : (j m : ℕ) → j < edge w1 n b → m < j → (s : Shadowed w n (b + 1) j m) → Dec (s.by < edge w n b) → s.by < edge w1 n b
    left j m l x s (yes y) = omega (arith, edges b (omega arith))
    left j m l x s (no y) = absurd (omega (arith, edges b (omega arith), s.together b (omega arith) (omega arith)))
