-- Laws of the offsets at the end of the scratch.
use mathlib.Core.Path.{◌≡◌, refl, sym, ap, ◌∙◌}
use mathlib.Core.Bool.{Bool, true, false, cond}
use mathlib.Core.List.{List}
use Prim.Native.Nat.{ℕ, zero, suc, min, ◌+◌, ◌-◌, ◌<◌, ◌≤◌}
use native.Mathlib.Omega.{arith}
use lib.ListN.{length, get_or, set, drop, replicate, length-set, length-replicate}
use lib.Seq.{get_or-set_same, get_or-set_other, get_or-append-add, get_or-drop}
use lib.Dec.{leb, eqb}
use borrow.Author.Tests.{leb-true, le-leb, eqb-true, eqb-false}
use Rattle.meaning.specs.Fields.{header}
use Rattle.meaning.specs.Check.{checked_tree, checked}
use Rattle.meaning.specs.declared.Cause.TheVariants.{Mode}
use Rattle.std.specs.Prelude.{Ok, Err}
use Rattle.meaning.specs.Outcome.{refusal}
use Rattle.meaning.proofs.Accepted.{accepted}
use Rattle.tree.specs.Used.{used, zeroed, with_offsets, scratch_after}

pub offsets_length : (s : List ℕ) (n : ℕ) (l : List ℕ) → length (with_offsets s n l) ≡ length l
unfolding with_offsets
offsets_length s zero l = refl
offsets_length s (suc n) l = length-set (with_offsets s n l) (length l - suc n) (header s n) ∙ offsets_length s n l

pub offsets_none : (s : List ℕ) (n : ℕ) (l : List ℕ) → with_offsets s (min n 0) l ≡ l
unfolding with_offsets
offsets_none s n l = let z : min n 0 ≡ 0 = omega arith in rw z

-- that of field i
pub offset_at : (s : List ℕ) (n : ℕ) (l : List ℕ) (i : ℕ) → i < n → n ≤ length l → get_or (with_offsets s n l) (length l - suc i) 0 ≡ header s i
unfolding with_offsets
offset_at s zero l i h r = absurd (omega arith)
offset_at s (suc n) l i h r = go (eqb i n) refl (λ q. offset_at s n l i q (omega arith))
  where
    go : (b : Bool) → eqb i n ≡ b → (i < n → get_or (with_offsets s n l) (length l - suc i) 0 ≡ header s i) → get_or (set (with_offsets s n l) (length l - suc n) (header s n)) (length l - suc i) 0 ≡ header s i
    go true e more = rw (eqb-true i n e) (get_or-set_same (with_offsets s n l) (length l - suc n) (header s n) 0 (omega (arith, offsets_length s n l)))
    go false e more =
        let z : (i ≡ n → ⊥) = eqb-false i n e in
        get_or-set_other (with_offsets s n l) (length l - suc n) (length l - suc i) (header s n) 0 (λ q. z (omega arith)) ∙ more (omega arith)

-- ---- after a check

-- behind the words that are cleared every word is as it was
zeroed_at : (n : ℕ) (l : List ℕ) (k : ℕ) → n ≤ k → get_or (zeroed n l) k 0 ≡ get_or l k 0
zeroed_at n l k h =
    let e : length {A = ℕ} (replicate n 0) + (k - n) ≡ k = omega (arith, length-replicate {A = ℕ} n 0) in
    let f : n + (k - n) ≡ k = omega arith in
    ap (λ (m : ℕ). get_or (zeroed n l) m 0) (sym e) ∙ get_or-append-add (replicate n 0) (drop n l) (k - n) 0 ∙ get_or-drop n l (k - n) 0 ∙ ap (λ (m : ℕ). get_or l m 0) f

-- where n nodes are accepted in a work area that was the scratch, all their offsets stand at its end
module _ (mode : ℕ) (s l : List ℕ) (n : ℕ) (e : checked mode s (length l) ≡ Ok n) where
  mode_low : mode ≤ 1
  unfolding checked
  mode_low = go (leb mode 1) refl e
    where
      go : (b : Bool) → leb mode 1 ≡ b → cond b (checked_tree mode s (length l)) (Err (refusal Mode 0)) ≡ Ok n → mode ≤ 1
      go true q f = leb-true mode 1 q
      go false q f = absurd (let z : ◌≡◌ {A = ℕ} 0 1 = cc in omega arith)

  all_used : used mode s (length l) ≡ n
  unfolding used
  all_used = let a = accepted mode s (length l) n e in simp (le-leb mode 1 mode_low) (omega (arith, a.nodes, a.few, a.room))

  pub accepted_offsets : (l' : List ℕ) → l' ≡ scratch_after mode s l → length l' ≡ length l → (i : ℕ) → i < n → get_or l' (length l' - 1 - i) 0 ≡ header s i
  unfolding scratch_after
  accepted_offsets l' el size i h =
      let a = accepted mode s (length l) n e in
      let z : length l' - 1 - i ≡ length l - suc i = omega arith in
      rw (z, el, all_used)
      (zeroed_at n (with_offsets s n l) (length l - suc i) (omega (arith, a.nodes, a.room)) ∙ offset_at s n l i h (omega (arith, a.nodes, a.room)))
