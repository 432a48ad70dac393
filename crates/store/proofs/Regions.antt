-- What the words of a region stand for stays where its words stay. A leaf shows that all words but a few stay, and takes from here what it does not change.
use Rattle.std.proofs.Common.{◌≡◌, ℕ, zero, suc, ◌+◌, ◌-◌, ◌*◌, ◌/◌, ◌%◌, ◌<◌, ◌≤◌, List, length, get_or, set, sym, refl, ap, ◌∙◌, arith, length-set, get_or-set_other}
use Rattle.store.specs.Half.{half}
use Rattle.store.specs.Table.{tab, stack, span}
use Rattle.store.specs.Layout.{first_edge, first_local, first_head, beyond, constant_at, global_at, inst_at, edge, first, saved, held, capture_of, capture_at, local_at, block, latest, link, top}
use Rattle.store.specs.Store.{open_at, around, Shadowed, Leads, Linked}
use Rattle.store.proofs.Tables.{tab_ext, stack_ext, span_ext}
use Rattle.store.proofs.Halves.{half_word}
use Rattle.meaning.specs.State.{with_blocks}

-- w' has the words of w from a up to b
pub record Same (w w' : List ℕ) (a b : ℕ) : Type 0 where
  pub same : (i : ℕ) → a ≤ i → i < b → get_or w' i 0 ≡ get_or w i 0

-- w' has the locals of w below k
pub record Locals (w w' : List ℕ) (n k : ℕ) : Type 0 where
  pub same : (i : ℕ) → i < k → local_at w' n i ≡ local_at w n i

pub names : {w w' : List ℕ} {n k : ℕ} → Locals w w' n k → (i : ℕ) → i < k → (local_at w' n i).name ≡ (local_at w n i).name
names h i l = ap (λ x. x.name) (h.same i l)

pub fewer : {w w' : List ℕ} {n k : ℕ} (m : ℕ) → m ≤ k → Locals w w' n k → Locals w w' n m
fewer m l h = record { same = λ i x. h.same i (omega arith) }

-- w' has the words of w but for those from a up to b
pub record Only (w w' : List ℕ) (a b : ℕ) : Type 0 where
  pub length : length w' ≡ length w
  pub other : (i : ℕ) → (a ≤ i → b ≤ i) → get_or w' i 0 ≡ get_or w i 0

pub same_part : {w w' : List ℕ} {a b : ℕ} (c d : ℕ) → a ≤ c → d ≤ b → Same w w' a b → Same w w' c d
same_part c d h k g = record { same = λ i x y. g.same i (omega arith) (omega arith) }

-- a region below or above what changed
pub below : {w w' : List ℕ} {a b : ℕ} (c d : ℕ) → d ≤ a → Only w w' a b → Same w w' c d
below c d h g = record { same = λ i x y. g.other i (λ z. absurd (omega arith)) }

pub above : {w w' : List ℕ} {a b : ℕ} (c d : ℕ) → b ≤ c → Only w w' a b → Same w w' c d
above c d h g = record { same = λ i x y. g.other i (λ z. omega arith) }

pub only_set : (w : List ℕ) (a v : ℕ) → Only w (set w a v) a (a + 1)
only_set w a v = record { length = length-set w a v; other = λ i h. get_or-set_other w a i v 0 (λ e. let k : a + 1 ≤ i = h (omega arith) in omega arith) }

pub only_refl : (w : List ℕ) (a b : ℕ) → Only w w a b
only_refl w a b = record { length = refl; other = λ i h. refl }

pub only_trans : {w w1 w2 : List ℕ} {a b : ℕ} → Only w w1 a b → Only w1 w2 a b → Only w w2 a b
only_trans g h = record { length = h.length ∙ g.length; other = λ i k. h.other i k ∙ g.other i k }

pub only_wider : {w w' : List ℕ} {a b : ℕ} (c d : ℕ) → c ≤ a → b ≤ d → Only w w' a b → Only w w' c d
only_wider c d h k g = record { length = g.length; other = λ i x. g.other i (λ z. let y : d ≤ i = x (omega arith) in omega arith) }

-- ---- edges

edge_le : (w : List ℕ) (n b : ℕ) → ((i : ℕ) → i < b → edge w n i ≤ edge w n (suc i)) → (i k : ℕ) → i + k ≡ b → edge w n i ≤ edge w n b
edge_le w n b h i zero e = let f : i ≡ b = omega arith in rw f (omega arith)
edge_le w n b h i (suc k) e =
    let a = edge_le w n b h (suc i) k (omega arith) in
    let c = h i (omega arith) in
    omega (arith, a, c)

-- the edges below a block's
pub edges_below : (w : List ℕ) (n b : ℕ) → ((i : ℕ) → i < b → edge w n i ≤ edge w n (suc i)) → (i : ℕ) → i ≤ b → edge w n i ≤ edge w n b
edges_below w n b h i le = edge_le w n b h i (b - i) (omega arith)

-- ---- each region

module _ (w w' : List ℕ) where
  -- halves from a to b, in words
  pub half_kept : {a b : ℕ} (k : ℕ) → Same w w' a b → 2 * a ≤ k → k < 2 * b → half w' k ≡ half w k
  half_kept k g h l = half_word w w' k (g.same (k / 2) (omega arith) (omega arith))

  pub constants_same : (n : ℕ) → Same w w' 0 (3 * n) → tab (constant_at w') n ≡ tab (constant_at w) n
  constants_same n h =
      tab_ext _ _ n
      (λ i k. rw (h.same (3 * i) (omega arith) (omega arith), h.same (3 * i + 1) (omega arith) (omega arith), h.same (3 * i + 2) (omega arith) (omega arith)))

  pub globals_same : (n : ℕ) → n ≤ 1040 → Same w w' 4168 4688 → stack (global_at w') n ≡ stack (global_at w) n
  globals_same n l h = stack_ext _ _ n (λ i k. half_kept (8336 + i) h (omega arith) (omega arith))

  pub code_same : (top n : ℕ) → 2 * n ≤ top → Same w w' (top - 2 * n) top → tab (inst_at w' top) n ≡ tab (inst_at w top) n
  code_same top n le h =
      tab_ext _ _ n (λ i k. rw (h.same (top - (2 * i + 2)) (omega arith) (omega arith), h.same (top - (2 * i + 1)) (omega arith) (omega arith)))

  pub captures_same : (j n : ℕ) → n ≤ 256 → Same w w' (3144 + 128 * j) (3144 + 128 * suc j) → tab (capture_at w' j) n ≡ tab (capture_at w j) n
  captures_same j n l h = tab_ext _ _ n (λ i k. ap (λ x. capture_of (x % 512)) (half_kept (6288 + 256 * j + i) h (omega arith) (omega arith)))

  -- the locals below k
  pub locals_same : (n k : ℕ) → k ≤ n + 2040 → Same w w' 4688 (first_edge n) → Same w w' (first_local n) (first_local n + k) → Locals w w' n k
  locals_same n k few g h =
      record { same = λ i l. rw (h.same (first_local n + i) (omega arith) (omega arith), half_kept (9376 + i) g (omega arith) (omega arith)) }

  -- the blocks from a up to e, among b whose edges are in order
  pub blocks_same : (n b : ℕ) → ((i : ℕ) → i < b → edge w n i ≤ edge w n (suc i)) → Locals w w' n (edge w n b) → (a e : ℕ) → e ≤ b → Same w w' (first_edge n) (5709 + n + e) → span (block w' n) a e ≡ span (block w n) a e
  blocks_same n b sorted l a e le h = span_ext _ _ a e one
    where
      one : (i : ℕ) → a ≤ i → i < e → block w' n i ≡ block w n i
      one i x m =
          let e0 : edge w' n i ≡ edge w n i = h.same (first_edge n + i) (omega arith) (omega arith) in
          let e1 : edge w' n (suc i) ≡ edge w n (suc i) = h.same (first_edge n + suc i) (omega arith) (omega arith) in
          let u = edges_below w n b sorted (suc i) (omega arith) in
          rw (e0, e1) (span_ext _ _ (edge w n i) (edge w n (suc i)) (λ x y z. l.same x (omega arith)))

  -- ---- links and heads

  pub latest_same : (n b k : ℕ) → Locals w w' n k → latest w' n b k ≡ latest w n b k
  unfolding latest
  latest_same n b zero h = refl
  latest_same n b (suc k) h = rw (names h k (omega arith), latest_same n b k (fewer k (omega arith) h))

  -- among more blocks or fewer: the edges of those locals are the same
  module _ (n b b' : ℕ) (lo : Locals w w' n (edge w n b)) (es : (e : ℕ) → e ≤ b' → edge w' n e < edge w n b → (e ≤ b) × (edge w' n e ≡ edge w n e)) where
    pub shadowed_same : (i j : ℕ) → j < edge w n b → (s : Shadowed w n b i j) → s.by < edge w' n b' → Shadowed w' n b' i j
    shadowed_same i j l s m =
        record {
          by = s.by;
          later = s.later;
          inside = m;
          same = names lo s.by s.inside ∙ s.same ∙ sym (names lo j l);
          together = λ e x y. let z = es e x (omega (arith, s.inside)) in omega (arith, z.1, s.together e z.0 (omega (arith, z.1)));
        }

    pub leads_same : (i : ℕ) → i < edge w n b → link w' n i ≡ link w n i → ((j : ℕ) → j < i → (s : Shadowed w n b i j) → s.by < edge w' n b') → Leads w n b i → Leads w' n b' i
    leads_same i l lk fits h =
        let wi = names lo i l in
        record {
          back = h.back;
          before = h.before;
          within = λ e x y. let z = es e x (omega arith) in omega (arith, z.1, h.within e z.0 (omega (arith, z.1)));
          shadowed = λ j x y z.
              let wj = names lo j (omega arith) in
              let s = h.shadowed j x y (rw (wj, wi) at z) in
              shadowed_same i j (omega arith) s (fits j y s);
          leads =
              lk
              ∙ h.leads
              ∙ sym
              (ap (λ x. latest w' n (x % (10 * n)) h.back) wi
              ∙ latest_same n ((local_at w n i).name % (10 * n)) h.back (fewer h.back (omega (arith, h.before)) lo));
        }

  pub linked_same : (n b b' : ℕ) → edge w n b ≤ n + 2040 → Same w w' 4688 (first_edge n) → Same w w' (top n) (beyond n) → Same w w' (first_local n) (first_local n + edge w n b) → edge w' n b' ≡ edge w n b
      → ((e : ℕ) → e ≤ b' → edge w' n e < edge w n b → (e ≤ b) × (edge w' n e ≡ edge w n e)) → Linked w n b → Linked w' n b'
  linked_same n b b' l hr hh hl top es h =
      let lo = locals_same n (edge w n b) l hr hl in
      record {
        links = λ i x. leads_same n b b' lo es i (omega arith) (ap (λ y. y / 65536) (hl.same (first_local n + i) (omega arith) (omega arith))) (λ j y s. omega (arith, s.inside)) (h.links i (omega arith));
        heads = λ c x. half_kept (first_head n + c) hh (omega arith) (omega arith) ∙ h.heads c x ∙ sym (ap (λ k. latest w' n c k) top ∙ latest_same n c (edge w n b) lo);
      }

-- ---- functions

-- what the functions around function d are made of is the same
pub record Alike (w w' : List ℕ) (n d : ℕ) : Type 0 where
  pub frames : (j k : ℕ) → j < d → k < 5 → get_or w' (3072 + 8 * j + k) 0 ≡ get_or w (3072 + 8 * j + k) 0
  pub firsts : (j : ℕ) → j ≤ d → first w' j ≡ first w j
  pub saves : (j : ℕ) → j ≤ d → saved w' j ≡ saved w j
  pub captures : (j : ℕ) → j < d → Same w w' (3144 + 128 * j) (3144 + 128 * suc j)
  pub blocks : (j : ℕ) → j < d → span (block w' n) (first w j) (first w (suc j)) ≡ span (block w n) (first w j) (first w (suc j))

pub less : {w w' : List ℕ} {n d : ℕ} → Alike w w' n (suc d) → Alike w w' n d
less a =
    record {
      frames = λ j k x y. a.frames j k (omega arith) y;
      firsts = λ j x. a.firsts j (omega arith);
      saves = λ j x. a.saves j (omega arith);
      captures = λ j x. a.captures j (omega arith);
      blocks = λ j x. a.blocks j (omega arith);
    }

pub below_256 : (x : ℕ) → x % 256 < 256
below_256 x = omega arith

-- nothing was visited where the count stays
pub same_count : {x y : ℕ} → y ≡ x → y % 4294967296 ≡ (x % 4294967296 + 0) % 4294967296
same_count e = omega (arith, e)

-- the words of frame d
pub frame : (w : List ℕ) (d k i : ℕ) → 3072 + 8 * d + k ≡ i → get_or w (3072 + 8 * d + k) 0 ≡ get_or w i 0
frame w d k i e = ap (λ x. get_or w x 0) e

pub around_same : (w w' : List ℕ) (n d : ℕ) → Alike w w' n d → around w' n d ≡ around w n d
unfolding around open_at
around_same w w' n zero a = refl
around_same w w' n (suc d) a =
    let f1 : first w' (suc d) ≡ first w (suc d) = a.firsts (suc d) (omega arith) in
    let s1 : saved w' (suc d) ≡ saved w (suc d) = a.saves (suc d) (omega arith) in
    let f0 : first w' d ≡ first w d = a.firsts d (omega arith) in
    let word : (k i : ℕ) → 3072 + 8 * d + k ≡ i → k < 5 → get_or w' i 0 ≡ get_or w i 0 = λ k i e l. sym (frame w' d k i e) ∙ a.frames d k (omega arith) l ∙ frame w d k i e in
    let nm : get_or w' (3072 + 8 * d) 0 ≡ get_or w (3072 + 8 * d) 0 = word 0 (3072 + 8 * d) (omega arith) (omega arith) in
    let rg : get_or w' (3073 + 8 * d) 0 ≡ get_or w (3073 + 8 * d) 0 = word 1 (3073 + 8 * d) (omega arith) (omega arith) in
    let hd : get_or w' (3074 + 8 * d) 0 ≡ get_or w (3074 + 8 * d) 0 = word 2 (3074 + 8 * d) (omega arith) (omega arith) in
    let bl = a.blocks d (omega arith) in
    let cp = captures_same w w' d (held w d) (omega (arith, below_256 (get_or w (3074 + 8 * d) 0))) (a.captures d (omega arith)) in
    rw (f1, s1, f0, nm, rg, hd, bl, cp, around_same w w' n d (less a))

-- where frames and captures are the same, the functions differ by their blocks alone
-- the frames stay, and the blocks below b, where the functions begin
pub around_by : (w w' : List ℕ) (n d b : ℕ) → d ≤ 8 → ((j : ℕ) → j ≤ d → first w j < b) → Same w w' 3072 4168 → ((a e : ℕ) → e < b → span (block w' n) a e ≡ span (block w n) a e) → around w' n d ≡ around w n d
around_by w w' n d b l starts g bs =
    around_same w w' n d
    (record {
      frames = λ j k x y. g.same (3072 + 8 * j + k) (omega arith) (omega arith);
      firsts = λ j x. g.same (3075 + 8 * j) (omega arith) (omega arith);
      saves = λ j x. g.same (3076 + 8 * j) (omega arith) (omega arith);
      captures = λ j x. same_part (3144 + 128 * j) (3144 + 128 * suc j) (omega arith) (omega arith) g;
      blocks = λ j x. bs (first w j) (first w (suc j)) (starts (suc j) x);
    })

pub open_by : (w w' : List ℕ) (n d e l : ℕ) → d ≤ 7 → Same w w' 3072 4168 → open_at w' n d e l ≡ with_blocks (open_at w n d e l) (span (block w' n) (first w d) e)
unfolding open_at
open_by w w' n d e l le g =
    let captures = captures_same w w' d (held w d) (omega (arith, below_256 (get_or w (3074 + 8 * d) 0))) (same_part (3144 + 128 * d) (3144 + 128 * suc d) (omega arith) (omega arith) g) in
    rw
    (g.same (3072 + 8 * d) (omega arith) (omega arith), g.same (3073 + 8 * d) (omega arith) (omega arith), g.same (3074 + 8 * d) (omega arith) (omega arith), g.same (3075 + 8 * d) (omega arith) (omega arith), captures)

pub around_length : (w : List ℕ) (n d : ℕ) → length (around w n d) ≡ d
unfolding around
around_length w n zero = refl
around_length w n (suc d) = ap suc (around_length w n d)
