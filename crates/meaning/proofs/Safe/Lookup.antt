-- Locals and captures: what a variable's lookup finds is there (get_var_register, get_upvalue).
-- The idea: the search goes outward one open function at a time, and changes them by captures added alone (Grows). One more induction on
-- the same way says that what it finds is a capture that the inner function has afterwards, and that every function's captures still fit
-- the function around it.
use Prim.Native.Nat.{ℕ, suc, ◌≤◌, ◌<◌}
use mathlib.Core.Path.{◌≡◌, refl, sym, ap, ◌∙◌, subst}
use mathlib.Core.Bool.{Bool, true, false, ◌&&◌, beq}
use mathlib.Core.List.{List, [], ◌∷◌}
use mathlib.Core.Option.{Option, none, some}
use native.Mathlib.Nat.{le_refl, le_of_eq}
use native.Mathlib.Omega.{arith}
use lib.ListN.{length, length-append}
use lib.Dec.{eqb, ltb}
use borrow.Author.Tests.{ltb-true}
use Rattle.meaning.specs.State.{State, Open, Local, Capture, get, is_global, get_var_register, local_in_block, local_of, Search, not_found, full, found, add_upvalue, capture_index, captures_full, with_capture, local_capture, outer_capture, outward, search_outward, searched, get_upvalue}
use Rattle.meaning.specs.Safety.{All, Fits}
use Rattle.meaning.proofs.Grows.{Widened, Found, cond_either, search_found}
use Rattle.meaning.proofs.Safe.Obeys.{View, all_append, fits_more, grown_same}
use Rattle.meaning.proofs.Safe.Patches.{choice}
use Rattle.meaning.proofs.Safe.Sound.{Locals, Chain, Sound, more_same, Post, Gives, regs}

-- ---- locals

-- what was found is below n
abbrev pub Maybe : ℕ → Option ℕ → Type 0
Maybe n none = Unit {0}
Maybe n (some r) = r < n

in_block_below : (n name : ℕ) (ls : List Local) (o : Option ℕ) → All (λ (l : Local). l.register < n) ls → Maybe n o → Maybe n (local_in_block name ls o)
in_block_below n name [] o h k = k
in_block_below n name (l ∷ ls) o h k = cond_either (Maybe n) (eqb name l.name) {x = some l.register} h.0 (in_block_below n name ls o h.1 k)

pub local_below : (n name : ℕ) (bs : List (List Local)) → Locals n bs → Maybe n (local_of name bs)
local_below n name [] h = tt
local_below n name (b ∷ bs) h = in_block_below n name b (local_of name bs) h.0 (local_below n name bs h.1)

pub looks : (name : ℕ) (s : State) → Sound s → Gives (get_var_register name) s (λ o v. Maybe v.registers o)
unfolding get_var_register get
looks name s σ = record { at = (σ, more_same s, local_below (regs s) name s.current.blocks σ.locals) }

-- ---- one capture more, or the same

index_le : (c : Capture) (cs : List Capture) → capture_index c cs ≤ length cs
index_le c [] = le_refl _
index_le c (d ∷ ds) = cond_either (λ (n : ℕ). n ≤ suc (length ds)) (beq c.is_local d.is_local && eqb c.index d.index) (omega arith) (let h = index_le c ds in omega arith)

index_below : (c : Capture) (cs : List Capture) → capture_index c cs < length (with_capture c cs)
index_below c cs =
    choice (λ (l : List Capture). capture_index c cs < length l) (ltb (capture_index c cs) (length cs)) (λ e. ltb-true (capture_index c cs) (length cs) e)
    (λ e. omega (arith, index_le c cs, length-append cs (c ∷ [])))

with_capture_fits : (r n : ℕ) (c : Capture) (cs : List Capture) → All (Fits r n) cs → Fits r n c → All (Fits r n) (with_capture c cs)
with_capture_fits r n c cs h k = cond_either (All (Fits r n)) (ltb (capture_index c cs) (length cs)) h (all_append (Fits r n) cs (c ∷ []) h (k, tt))

-- a function that captures keeps its locals
pub widened_locals : (f g : Open) → Widened f g → Locals f.registers f.blocks → Locals g.registers g.blocks
widened_locals f g w h =
    subst (λ (n : ℕ). Locals n g.blocks) (sym w.registers) (subst (λ (bs : List (List Local)). Locals f.registers bs) (sym w.blocks) h)

-- captures that are there stay
pub widened_captures : (f g : Open) → Widened f g → length f.captures ≤ length g.captures
widened_captures f g w =
    let e = ap (λ (l : List Capture). length l) w.captures.1 ∙ length-append f.captures w.captures.0 in
    omega (arith, e)

-- ---- the search

-- what is found is a capture of the inner function, and the captures fit outward
abbrev Fitting : Search → Type 0
Fitting not_found = Unit {0}
Fitting full = Unit {0}
Fitting (found i g gs) = (i < length g.captures) × Chain g.captures gs

adds : (f : Open) (c : Capture) (gs : List Open) → Chain (with_capture c f.captures) gs → Fitting (add_upvalue f c gs)
adds f c gs h = cond_either Fitting (captures_full c f.captures) {x = full} tt (index_below c f.captures, h)

outward_fitting : (b : Bool) (o : Option ℕ) (r : Search) (f g : Open) (gs : List Open) → Chain f.captures (g ∷ gs) → Maybe g.registers o → Found g gs r → Fitting r → Fitting (outward b o r f g gs)
outward_fitting true o r f g gs h k l m = tt
outward_fitting false (some i) r f g gs h k l m = adds f (local_capture i) (g ∷ gs) (with_capture_fits _ _ (local_capture i) f.captures h.0 k, h.1, h.2)
outward_fitting false none not_found f g gs h k l m = tt
outward_fitting false none full f g gs h k l m = tt
outward_fitting false none (found i g' gs') f g gs h k l m =
    adds f (outer_capture i) (g' ∷ gs') (
      with_capture_fits _ _ (outer_capture i) f.captures (fits_more _ _ _ _ f.captures (le_of_eq (sym l.0.registers)) (widened_captures g g' l.0) h.0) m.0,
      widened_locals g g' l.0 h.1,
      m.1,
    )

search_fitting : (name : ℕ) (f : Open) (fs : List Open) → Chain f.captures fs → Fitting (search_outward name f fs)
unfolding search_outward
search_fitting name f [] h = tt
search_fitting name f (g ∷ gs) h =
    outward_fitting (is_global g gs) (local_of name g.blocks) (search_outward name g gs) f g gs h
    (local_below g.registers name g.blocks h.1) (search_found name g gs) (search_fitting name g gs h.2)

-- a capture that was found is there
abbrev pub Captured : State → Option ℕ → View → Type 0
Captured s o v = (v.registers ≡ regs s) × Maybe v.captures o

searched_post : (node : ℕ) (s : State) (r : Search) → Sound s → Found s.current s.outer r → Fitting r → Post (Captured s) s (searched node s r)
unfolding searched
searched_post node s not_found σ h k = (σ, more_same s, (refl, tt))
searched_post node s full σ h k = tt
searched_post node s (found i g gs) σ h k = (
  record { locals = widened_locals s.current g h.0 σ.locals; chain = k.1; pools = σ.pools },
  record {
    wider = record {
      registers = le_of_eq (sym h.0.registers);
      captures = widened_captures s.current g h.0;
      loops = le_of_eq (sym h.0.loops);
      constants = grown_same _;
      prototypes = grown_same _;
    };
    loops = h.0.loops;
    outer = h.1;
  },
  (h.0.registers, omega (arith, k.0)),
)

pub captures : (node name : ℕ) (s : State) → Sound s → Gives (get_upvalue node name) s (Captured s)
unfolding get_upvalue
captures node name s σ = record { at = searched_post node s _ σ (search_found name s.current s.outer) (search_fitting name s.current s.outer σ.chain) }
