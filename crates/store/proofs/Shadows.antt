-- A shadowed local is taken out of the links: local l, which led to e, leads to what e led to. The latest local, c, has the name of e and is in its block, so
-- it shadows e, and what e passed over is shadowed by e, so by c, or by a later one than l.
use Rattle.std.proofs.Common.{◌≡◌, ℕ, suc, ◌+◌, ◌-◌, ◌*◌, ◌/◌, ◌%◌, ◌<◌, ◌≤◌, List, length, get_or, set, sym, ap, ◌∙◌, arith, length-set, get_or-set_other, get_or-set_same}
use native.Mathlib.Decide.{dec_lt, ℕ_discrete}
use Rattle.store.specs.declared.Scope.{Scope}
use Rattle.store.specs.Layout.{first_edge, first_local, first_head, all_words, edge, local_at, latest, link}
use Rattle.store.specs.Store.{Shadowed, Leads, Linked, Sound}
use Rattle.store.specs.Promise.{Latest, Unlinked}
use Rattle.store.proofs.Halves.{half_apart}
use Rattle.store.proofs.Regions.{Locals, names, fewer, shadowed_same, leads_same, latest_same, edges_below}
use Rattle.store.proofs.Links.{latest_le, latest_in, latest_gap}

-- ---- where l leads

module _ (w : List ℕ) (n k l e : ℕ) (h : Linked w n k) (inside : l < edge w n k) (to : link w n l ≡ suc e) where
  here : Leads w n k l
  here = h.links l inside

  pub next_less : e < l
  next_less = omega (arith, here.before, here.leads, latest_le w n ((local_at w n l).name % (10 * n)) here.back)

  pub next_in : (local_at w n e).name % (10 * n) ≡ (local_at w n l).name % (10 * n)
  next_in = latest_in w n ((local_at w n l).name % (10 * n)) here.back e (sym here.leads ∙ to)

  there : Leads w n k e
  there = h.links e (omega (arith, next_less))

  module _ (some : 0 < k) (sorted : (i : ℕ) → i < k → edge w n i ≤ edge w n (suc i)) (c : ℕ) (last : edge w n k ≡ suc c) (from : edge w n (k - 1) ≤ e) (same : (local_at w n e).name ≡ (local_at w n c).name) where
    -- no block starts after e
    below : (q : ℕ) → q ≤ k → edge w n q ≤ c → edge w n q ≤ e
    below q x y = cases (dec_lt q k)
      where
        cases : Dec (q < k) → edge w n q ≤ e
        cases (yes z) = omega (arith, edges_below w n (k - 1) (λ i m. sorted i (omega arith)) q (omega arith))
        cases (no z) = let u : q ≡ k = omega arith in absurd (omega (arith, ap (λ i. edge w n i) u))

    -- by the latest
    newest : (j : ℕ) → (local_at w n j).name ≡ (local_at w n e).name → there.back ≤ j → Shadowed w n k l j
    newest j x y =
        record { by = c; later = omega arith; inside = omega arith; same = sym (x ∙ same); together = λ q m z. omega (arith, there.within q m (below q m z)) }

    above : (j : ℕ) → e < j → j < l → (local_at w n j).name % (10 * n) ≡ (local_at w n l).name % (10 * n) → Shadowed w n k l j
    above j x y z = cases (dec_lt j here.back)
      where
        cases : Dec (j < here.back) → Shadowed w n k l j
        cases (yes a) = absurd (latest_gap w n ((local_at w n l).name % (10 * n)) here.back j (omega (arith, here.leads)) a z)
        cases (no a) = here.shadowed j (omega arith) y z

    passed : (j : ℕ) → there.back ≤ j → j < l → (local_at w n j).name % (10 * n) ≡ (local_at w n l).name % (10 * n) → Shadowed w n k l j
    passed j x y z = cases (dec_lt j e) (ℕ_discrete j e)
      where
        -- by one that shadowed it, or by what shadows that
        again : (s : Shadowed w n k e j) → Dec (s.by < l) → Dec (s.by ≡ e) → Shadowed w n k l j
        again s (no a) b = record { by = s.by; later = omega arith; inside = s.inside; same = s.same; together = s.together }
        again s (yes a) (yes b) = newest j (sym s.same ∙ ap (λ i. (local_at w n i).name) b) x
        again s (yes a) (no b) =
            let t = above s.by (omega (arith, s.later)) a (ap (λ y. y % (10 * n)) s.same ∙ z) in
            record { by = t.by; later = t.later; inside = t.inside; same = t.same ∙ s.same; together = λ q m r. s.together q m (t.together q m r) }

        cases : Dec (j < e) → Dec (j ≡ e) → Shadowed w n k l j
        cases (yes a) b = let s = there.shadowed j x a (z ∙ sym next_in) in again s (dec_lt s.by l) (ℕ_discrete s.by e)
        cases (no a) (yes b) = newest j (ap (λ i. (local_at w n i).name) b) x
        cases (no a) (no b) = above j (omega arith) y z

    module _ (blocks : k ≤ n + 10) (few : edge w n k ≤ n + 2040) (long : all_words n ≤ length w) where
      -- the word of local l: where e led to, and the name that it had
      abbrev at : ℕ
      at = first_local n + l

      abbrev x : ℕ
      x = link w n e * 65536 + get_or w at 0 % 65536

      abbrev w' : List ℕ
      w' = set w at x

      pub other : (i : ℕ) → ¬ (i ≡ at) → get_or w' i 0 ≡ get_or w i 0
      other i y = get_or-set_other w at i x 0 y

      here' : get_or w' at 0 ≡ x
      here' = get_or-set_same w at x 0 (omega arith)

      edges : (i : ℕ) → i ≤ k → edge w' n i ≡ edge w n i
      edges i y = other (first_edge n + i) (omega arith)

      pub locals : Locals w w' n (edge w n k)
      locals = record { same = λ i y. one i y (ℕ_discrete i l) }
        where
          own : get_or w' at 0 % 65536 ≡ get_or w at 0 % 65536
          own = omega (arith, here')

          one : (i : ℕ) → i < edge w n k → Dec (i ≡ l) → local_at w' n i ≡ local_at w n i
          one i m (yes y) = rw (y, own, half_apart w at x (9376 + l) (omega arith))
          one i m (no y) = rw (other (first_local n + i) (omega arith), half_apart w at x (9376 + i) (omega arith))

      es : (q : ℕ) → q ≤ k → edge w' n q < edge w n k → (q ≤ k) × (edge w' n q ≡ edge w n q)
      es q y z = (y, edges q y)

      beyond : Leads w' n k l
      beyond =
          record {
            back = there.back;
            before = omega (arith, there.before, next_less);
            within = λ q y z. omega (arith, edges q y, there.within q y (below q y (omega (arith, edges q y))));
            shadowed = λ j y z q.
                let s = passed j y z (rw (names locals j (omega arith), names locals l inside) at q) in
                shadowed_same w w' n k k locals es l j (omega arith) s (omega (arith, s.inside, edges k (omega arith)));
            leads =
                here_link
                ∙ there.leads
                ∙ ap (λ b. latest w n b there.back) next_in
                ∙ sym (ap (λ y. latest w' n (y % (10 * n)) there.back) (names locals l inside) ∙ latest_same w w' n ((local_at w n l).name % (10 * n)) there.back (fewer there.back (omega (arith, there.before, next_less)) locals));
          }
        where
          here_link : link w' n l ≡ link w n e
          here_link = omega (arith, here')

      pub unlinked : Linked w' n k
      unlinked =
          record {
            links = λ i y. links i (omega (arith, edges k (omega arith))) (ℕ_discrete i l);
            heads = λ b y. half_apart w at x (first_head n + b) (omega arith) ∙ h.heads b y ∙ sym (ap (λ m. latest w' n b m) (edges k (omega arith)) ∙ latest_same w w' n b (edge w n k) locals);
          }
        where
          links : (i : ℕ) → i < edge w n k → Dec (i ≡ l) → Leads w' n k i
          links i y (yes z) = rw z beyond
          links i y (no z) =
              leads_same w w' n k k locals es i y (ap (λ u. u / 65536) (other (first_local n + i) (omega arith))) (λ j m s. omega (arith, s.inside, edges k (omega arith))) (h.links i y)

-- ---- in a scope

-- a link leads back
pub link_le : {w : List ℕ} {n k : ℕ} (l : ℕ) → Linked w n k → l < edge w n k → link w n l ≤ l
link_le {w} {n} l h x = let g = h.links l x in omega (arith, g.before, g.leads, latest_le w n ((local_at w n l).name % (10 * n)) g.back)

pub taken_out : {w : List ℕ} {p : Scope} {name : ℕ} (l e : ℕ) → Sound w p → Latest w p name → l < edge w p.nodes p.block → link w p.nodes l ≡ suc e → edge w p.nodes (p.block - 1) ≤ e → (local_at w p.nodes e).name ≡ name → Unlinked w p (set w (first_local p.nodes + l) (link w p.nodes e * 65536 + get_or w (first_local p.nodes + l) 0 % 65536))
taken_out {w} {p} l e s g inside to from own =
    let some : 0 < p.block = omega (arith, s.starts 0 (omega arith)) in
    let c : ℕ = edge w p.nodes p.block - 1 in
    let last : edge w p.nodes p.block ≡ suc c = omega (arith, g.here) in
    let same = own ∙ sym g.named in
    record {
      same = length-set w (first_local p.nodes + l) (link w p.nodes e * 65536 + get_or w (first_local p.nodes + l) 0 % 65536);
      other = λ i y. other w p.nodes p.block l e s.linked inside to some s.sorted c last from same s.blocks s.count s.long i (λ z. let u = y (omega arith) in omega arith);
      locals = (locals w p.nodes p.block l e s.linked inside to some s.sorted c last from same s.blocks s.count s.long).same;
      linked = unlinked w p.nodes p.block l e s.linked inside to some s.sorted c last from same s.blocks s.count s.long;
    }
