-- A scan turns the instructions of a region one by one: those before instruction i are done, the others are as they were. Assumes nothing.
use mathlib.Core.Path.{◌≡◌, refl, sym, ap, ap₂, subst, ◌∙◌}
use mathlib.Core.Bool.{true, false}
use mathlib.Core.List.{List, [], ◌∷◌, ◌++◌, append_assoc, append-nil}
use Prim.Native.Nat.{ℕ, zero, suc, ◌+◌, ◌*◌, ◌-◌, ◌<◌, ◌≤◌}
use native.Mathlib.Omega.{arith}
use lib.ListN.{length, get_or, set, take, drop, length-set}
use lib.Seq.{get_or-set_other}
use Rattle.store.specs.Table.{tab}
use Rattle.store.specs.Layout.{cell, mark_cell, unpacked, inst_at}
use Rattle.store.proofs.Cells.{word_here, word_else}
use Rattle.store.proofs.Tables.{tab_ext, tab_length, tab_front, tab_add, tab_take, tab_drop}
use Rattle.meaning.specs.Opcode.{is_end_jump}
use Rattle.meaning.specs.Chunk.{each_at, jump_by, patch_first}
use Rattle.meaning.specs.declared.Instruction.{Instruction}
use Rattle.code.specs.Words.{Turns, TurnsEach, Recoded, mended}

-- ---- lists

each_append : (f : ℕ → Instruction → Instruction) (i : ℕ) (a b : List Instruction) → each_at f i (a ++ b) ≡ each_at f i a ++ each_at f (length a + i) b
each_append f i [] b = ap (λ n. each_at f n b) (omega arith)
each_append f i (x ∷ xs) b =
    let n : length xs + suc i ≡ suc (length xs) + i = omega arith in
    ap (λ l. f i x ∷ l) (each_append f (suc i) xs b ∙ ap (λ k. each_at f (suc i) xs ++ each_at f k b) n)

each_tab : (f : ℕ → Instruction → Instruction) (h : ℕ → Instruction) (m : ℕ) → each_at f 0 (tab h m) ≡ tab (λ j. f j (h j)) m
unfolding tab
each_tab f h zero = refl
each_tab f h (suc m) =
    let n : length (tab h m) + 0 ≡ m = omega (arith, tab_length h m) in
    each_append f 0 (tab h m) (h m ∷ []) ∙ ap₂ (λ l k. l ++ (f k (h m) ∷ [])) (each_tab f h m) n

-- the values before `first` stay, those after it are turned
mended_tab : (f : ℕ → Instruction → Instruction) (g h : ℕ → Instruction) (first m : ℕ) → ((i : ℕ) → i < first → g i ≡ h i) → ((j : ℕ) → j < m → g (first + j) ≡ f j (h (first + j)))
    → tab g (first + m) ≡ take first (tab h (first + m)) ++ each_at f 0 (drop first (tab h (first + m)))
mended_tab f g h first m a b =
    rw (tab_take h first m, tab_drop h first m)
    (tab_add g first m ∙ ap₂ (λ x y. x ++ y) (tab_ext g h first a) (tab_ext _ _ m b ∙ sym (each_tab f (λ j. h (first + j)) m)))

-- ---- a scan that turns every instruction of a region: by f, as each step of it is

module _ {step : ℕ → ℕ → ℕ → Type 0} {w w' : List ℕ} {top first : ℕ} {f : ℕ → Instruction → Instruction} (g : List Instruction → List Instruction) where
  -- the region has m instructions
  scan_done : (m : ℕ) → TurnsEach step w top first (first + m) w' → ((x i y : ℕ) → i < m → step x i y → Turns x (f i) y) → 2 * (first + m) ≤ top → ((l : List Instruction) → length l ≡ m → g l ≡ each_at f 0 l)
      → Recoded w top (first + m) (first + m) (mended g first) w'
  scan_done m scan turns fits is =
      record {
        same = scan.same;
        other = λ j h. scan.other j (λ k a b e. past j (h (omega arith)) (omega arith));
        code = mended_tab f (inst_at w' top) (inst_at w top) first m before after ∙ ap (λ l. take first (tab (inst_at w top) (first + m)) ++ l) (sym (is _ size));
      }
    where
      size : length (drop first (tab (inst_at w top) (first + m))) ≡ m
      size = ap length (tab_drop (inst_at w top) first m) ∙ tab_length _ m

      past : (j : ℕ) → top ≤ j → j < top → ⊥
      past j a b = omega arith

      before : (j : ℕ) → j < first → inst_at w' top j ≡ inst_at w top j
      before j h = ap₂ unpacked (scan.other (cell top j) (λ k a b. omega arith)) (scan.other (mark_cell top j) (λ k a b. omega arith))

      after : (j : ℕ) → j < m → inst_at w' top (first + j) ≡ f j (inst_at w top (first + j))
      after j h =
          let e : first + j - first ≡ j = omega arith in
          ap (unpacked (get_or w' (cell top (first + j)) 0)) (scan.other (mark_cell top (first + j)) (λ k a b. omega arith))
          ∙ (turns _ j _ h (rw e at (scan.each (first + j) (omega arith) (omega arith)))).is _

  pub scan_ends : (end : ℕ) → TurnsEach step w top first end w' → ((x i y : ℕ) → i < end - first → step x i y → Turns x (f i) y) → first ≤ end → 2 * end ≤ top → ((l : List Instruction) → length l ≡ end - first → g l ≡ each_at f 0 l)
      → Recoded w top end end (mended g first) w'
  scan_ends end scan turns le fits is =
      let m : first + (end - first) ≡ end = omega arith in
      subst (λ k. Recoded w top k k (mended g first) w') m (scan_done (end - first) (subst (λ k. TurnsEach step w top first k w') (sym m) scan) turns (omega arith) is)

-- ---- a scan for the first jump to the end

first_past : (o : ℕ) (h : ℕ → Instruction) (m : ℕ) (q : List Instruction) → ((i : ℕ) → i < m → is_end_jump (h i) ≡ false) → patch_first o (tab h m ++ q) ≡ tab h m ++ patch_first o q
unfolding tab
first_past o h zero q clean = refl
first_past o h (suc m) q clean =
    rw (append_assoc (tab h m) (h m ∷ []) q, append_assoc (tab h m) (h m ∷ []) (patch_first o q))
    (first_past o h m (h m ∷ q) (λ i k. clean i (omega arith)) ∙ ap (λ l. tab h m ++ l) (rw (clean m (omega arith))))

-- the first one is instruction j; r more stand after it
first_at : (o : ℕ) (g h : ℕ → Instruction) (j r : ℕ) → ((i : ℕ) → i < j → is_end_jump (h i) ≡ false) → is_end_jump (h j) ≡ true → g j ≡ jump_by (h j) o → ((i : ℕ) → i < j + suc r → ¬ (i ≡ j) → g i ≡ h i)
    → tab g (j + suc r) ≡ patch_first o (tab h (j + suc r))
first_at o g h j r clean is here else =
    let zero_more : j + 0 ≡ j = omega arith in
    let parts : tab h (j + suc r) ≡ tab h j ++ (h j ∷ tab (λ i. h (j + suc i)) r) =
    tab_add h j (suc r) ∙ ap (λ l. tab h j ++ l) (tab_front (λ i. h (j + i)) r ∙ ap (λ k. h k ∷ tab (λ i. h (j + suc i)) r) zero_more) in
    let after : tab g (j + suc r) ≡ tab g j ++ (g j ∷ tab (λ i. g (j + suc i)) r) =
    tab_add g j (suc r) ∙ ap (λ l. tab g j ++ l) (tab_front (λ i. g (j + i)) r ∙ ap (λ k. g k ∷ tab (λ i. g (j + suc i)) r) zero_more) in
    let turned : patch_first o (h j ∷ tab (λ i. h (j + suc i)) r) ≡ jump_by (h j) o ∷ tab (λ i. h (j + suc i)) r = rw is in
    after
    ∙ ap₂ (λ x y. x ++ y) (tab_ext g h j (λ i k. else i (omega arith) (omega arith))) (ap₂ (λ x y. x ∷ y) here (tab_ext _ _ r (λ i k. else (j + suc i) (omega arith) (omega arith))))
    ∙ sym (ap (patch_first o) parts ∙ first_past o h j _ clean ∙ ap (λ l. tab h j ++ l) turned)

module _ (w : List ℕ) (top first offset : ℕ) where
  -- none from `first` up to i
  abbrev pub None : ℕ → Type 0
  None i = (k : ℕ) → first ≤ k → k < i → is_end_jump (inst_at w top k) ≡ false

  pub first_none : (end : ℕ) → first ≤ end → None end → Recoded w top end end (mended (patch_first offset) first) w
  first_none end le none = subst (λ k. Recoded w top k k (mended (patch_first offset) first) w) (omega arith) (done (end - first) (λ k a b. none k a (omega arith)))
    where
      done : (m : ℕ) → None (first + m) → Recoded w top (first + m) (first + m) (mended (patch_first offset) first) w
      done m clean =
          let all : patch_first offset (tab (λ j. inst_at w top (first + j)) m ++ []) ≡ tab (λ j. inst_at w top (first + j)) m ++ [] = first_past offset _ m [] (λ j h. clean (first + j) (omega arith) (omega arith)) in
          record {
            same = refl;
            other = λ i h. refl;
            code = rw (tab_take (inst_at w top) first m, tab_drop (inst_at w top) first m) (tab_add (inst_at w top) first m ∙ ap (λ l. tab (inst_at w top) first ++ l) (sym (simp append-nil at all)));
          }

  pub first_found : {y : ℕ} (end i : ℕ) → first ≤ i → i < end → 2 * end ≤ top → top ≤ length w → None i → is_end_jump (inst_at w top i) ≡ true
      → Turns (get_or w (cell top i) 0) (λ x. jump_by x offset) y → Recoded w top end end (mended (patch_first offset) first) (set w (cell top i) y)
  first_found {y} end i lo hi fits long none is turns = subst (λ k. Recoded w top k k (mended (patch_first offset) first) w') (omega arith) (done (end - i - 1) (omega arith))
    where
      w' : List ℕ
      w' = set w (cell top i) y

      here : inst_at (set w (cell top i) y) top i ≡ jump_by (inst_at w top i) offset
      here = word_here w top i y (omega arith) long ∙ turns.is (get_or w (mark_cell top i) 0)

      else : (k : ℕ) → 2 * k + 2 ≤ top → ¬ (k ≡ i) → inst_at (set w (cell top i) y) top k ≡ inst_at w top k
      else k f ne = word_else w top i y (omega arith) long k f ne

      done : (r : ℕ) → 2 * (first + (i - first + suc r)) ≤ top → Recoded w top (first + (i - first + suc r)) (first + (i - first + suc r)) (mended (patch_first offset) first) (set w (cell top i) y)
      done r room =
          let e : first + (i - first) ≡ i = omega arith in
          let is_here : is_end_jump (inst_at w top (first + (i - first))) ≡ true = rw e is in
          let turned : inst_at (set w (cell top i) y) top (first + (i - first)) ≡ jump_by (inst_at w top (first + (i - first))) offset = rw e here in
          record {
            same = length-set w (cell top i) y;
            other = λ j h. get_or-set_other w (cell top i) j y 0 (λ x. let t = h (omega arith) in omega arith);
            code = rw (tab_take (inst_at w top) first (i - first + suc r), tab_drop (inst_at w top) first (i - first + suc r))
                (tab_add (inst_at (set w (cell top i) y) top) first (i - first + suc r)
                ∙ ap₂ (λ x z. x ++ z) (tab_ext _ _ first (λ j h. else j (omega arith) (omega arith)))
                (first_at offset (λ j. inst_at (set w (cell top i) y) top (first + j)) (λ j. inst_at w top (first + j)) (i - first) r (λ j h. none (first + j) (omega arith) (omega arith)) is_here turned (λ j h ne. else (first + j) (omega arith) (omega arith))));
          }
