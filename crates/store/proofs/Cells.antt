-- The pending instruction's cell: an instruction that is written is read back, the others as they were. Assumes nothing.
use Rattle.std.proofs.Common.{◌≡◌, ℕ, ◌+◌, ◌*◌, ◌<◌, ◌≤◌, List, [], ◌∷◌, ◌++◌, length, get_or, set, ◌∙◌, ap₂, add-one, arith, length-set, get_or-set_other, get_or-set_same}
use Rattle.store.specs.Table.{tab}
use Rattle.store.specs.Layout.{cell, mark_cell, unpacked, inst_at}
use Rattle.store.specs.Cell.{with_inst}
use Rattle.store.proofs.Tables.{tab_suc, tab_ext, tab_set}
use Rattle.store.proofs.Regions.{Only}

-- ---- the words of one instruction

module _ (w : List ℕ) (top i x m : ℕ) where
  inst_other : (j : ℕ) → ¬ (j ≡ cell top i) → ¬ (j ≡ mark_cell top i) → get_or (with_inst w top i x m) j 0 ≡ get_or w j 0
  inst_other j h k = get_or-set_other (set w (cell top i) x) (mark_cell top i) j m 0 k ∙ get_or-set_other w (cell top i) j x 0 h

  -- only words of the code are changed; a is where it may begin
  pub only_inst : (a : ℕ) → a + 2 * i + 2 ≤ top → Only w (with_inst w top i x m) a top
  only_inst a room = record { length = simp length-set; other = λ j h. inst_other j (λ e. past j (h (omega arith)) (omega arith)) (λ e. past j (h (omega arith)) (omega arith)) }
    where
      past : (j : ℕ) → top ≤ j → j < top → ⊥
      past j a b = omega arith

  module _ (fits : 2 * i + 2 ≤ top) (long : top ≤ length w) where
    inst_here : inst_at (with_inst w top i x m) top i ≡ unpacked x m
    inst_here =
        let a : get_or (with_inst w top i x m) (cell top i) 0 ≡ x =
        get_or-set_other (set w (cell top i) x) (mark_cell top i) (cell top i) m 0 (omega arith) ∙ get_or-set_same w (cell top i) x 0 (omega arith) in
        let b : get_or (with_inst w top i x m) (mark_cell top i) 0 ≡ m = get_or-set_same (set w (cell top i) x) (mark_cell top i) m 0 (omega (arith, length-set w (cell top i) x)) in
        ap₂ unpacked a b

    inst_else : (j : ℕ) → 2 * j + 2 ≤ top → ¬ (j ≡ i) → inst_at (with_inst w top i x m) top j ≡ inst_at w top j
    inst_else j h k = ap₂ unpacked (inst_other (cell top j) (omega arith) (omega arith)) (inst_other (mark_cell top j) (omega arith) (omega arith))

    -- one instruction more
    pub appended : tab (inst_at (with_inst w top i x m) top) (i + 1) ≡ tab (inst_at w top) i ++ unpacked x m ∷ []
    appended = rw (add-one i) (tab_suc _ i ∙ ap₂ (λ l y. l ++ (y ∷ [])) (tab_ext _ _ i (λ j h. inst_else j (omega arith) (omega arith))) inst_here)

    -- one of k instructions set anew
    pub patched : (k : ℕ) → 2 * k ≤ top → tab (inst_at (with_inst w top i x m) top) k ≡ set (tab (inst_at w top) k) i (unpacked x m)
    patched k h = tab_set (inst_at w top) _ k i (unpacked x m) (λ l. inst_here) (λ j l. inst_else j (omega arith))

-- ---- the packed word alone

module _ (w : List ℕ) (top i x : ℕ) (fits : 2 * i + 2 ≤ top) (long : top ≤ length w) where
  pub word_here : inst_at (set w (cell top i) x) top i ≡ unpacked x (get_or w (mark_cell top i) 0)
  word_here = ap₂ unpacked (get_or-set_same w (cell top i) x 0 (omega arith)) (get_or-set_other w (cell top i) (mark_cell top i) x 0 (omega arith))

  pub word_else : (j : ℕ) → 2 * j + 2 ≤ top → ¬ (j ≡ i) → inst_at (set w (cell top i) x) top j ≡ inst_at w top j
  word_else j h k = ap₂ unpacked (get_or-set_other w (cell top i) (cell top j) x 0 (omega arith)) (get_or-set_other w (cell top i) (mark_cell top j) x 0 (omega arith))
