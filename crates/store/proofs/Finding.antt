-- A local of the current function, found by the walk.
use Rattle.std.proofs.Common.{◌≡◌, ℕ, ◌<◌, List, sym, refl, ap, ◌∙◌, arith}
use mathlib.Core.Option as maybe
use Rattle.std.specs.Prelude.{Option}
use Rattle.store.specs.declared.Step.{Step}
use Rattle.store.specs.declared.Scope.{Scope}
use Rattle.store.specs.Layout.{edge, first, local_at}
use Rattle.store.specs.Store.{open_at, state_of, Sound}
use Rattle.store.specs.Search.{option_of, found_of, in_byte, seek, Walkable}
use Rattle.store.specs.Promise.{Tells}
use Rattle.store.proofs.Compose.{told_of}
use Rattle.store.proofs.Links.{in_blocks, seek_small}
use Rattle.meaning.specs.State.{Proto, local_of, get_var_register}

pub walkable_of : {w : List ℕ} {p : Scope} → Sound w p → Walkable w p.nodes (edge w p.nodes p.block)
walkable_of {w} {p} h = record { some = h.some; few = h.few; long = h.long; blocks = p.block; block = p.block; among = omega arith; ends = refl; within = omega arith; fits = h.count; linked = h.linked }

pub option_found : (x : maybe.Option ℕ) → option_of (found_of x) ≡ x
option_found maybe.none = refl
option_found (maybe.some i) = refl

byte_of : (x : maybe.Option ℕ) → ((i : ℕ) → x ≡ maybe.some i → i < 255) → in_byte (found_of x)
byte_of maybe.none h = tt
byte_of (maybe.some i) h = h i refl

-- what a walk gives is a byte
pub found_small : (w : List ℕ) (n name a k : ℕ) (f : Option ℕ) → f ≡ found_of (seek name (local_at w n) a k maybe.none) → in_byte f
found_small w n name a k f e = rw e (byte_of (seek name (local_at w n) a k maybe.none) (λ i g. seek_small w n name a k i g))

module _ (w : List ℕ) (p : Scope) (h : Sound w p) (name : ℕ) where
  current_found : (s : Step) (ps : List Proto) → local_of name (state_of w p s ps).current.blocks ≡ seek name (local_at w p.nodes) (edge w p.nodes (first w p.depth)) (edge w p.nodes p.block) maybe.none
  unfolding state_of open_at
  current_found s ps =
      let st = h.starts p.depth (omega arith) in
      in_blocks w p.nodes name (first w p.depth) p.block (λ i k. h.sorted i (omega (arith, st))) h.sorted

  pub variable_told : (f : Option ℕ) → f ≡ found_of (seek name (local_at w p.nodes) (edge w p.nodes (first w p.depth)) (edge w p.nodes p.block) maybe.none) → (s : Step) → Tells w p s (option_of f) (get_var_register name)
  unfolding get_var_register
  variable_told f e s =
      told_of w p s (λ t. local_of name t.current.blocks) (option_of f)
      (λ ps. current_found s ps ∙ sym (ap option_of e ∙ option_found (seek name (local_at w p.nodes) (edge w p.nodes (first w p.depth)) (edge w p.nodes p.block) maybe.none)))
