-- What is read of a field.
use mathlib.Core.Path.{◌≡◌, refl, sym, ap, ap₂, ◌∙◌}
use mathlib.Core.Bool.{Bool, true, false, ◌&&◌, cond}
use mathlib.Core.List.{[], ◌∷◌, ◌++◌}
use Prim.Native.Nat.{ℕ, ◌+◌, ◌-◌, ◌<◌, ◌≤◌}
use native.Mathlib.Omega.{arith}
use lib.ListN.{length, get_or}
use lib.Dec.{eqb, leb, ltb}
use borrow.Author.Tests.{leb-true, ltb-true}
use Rattle.std.specs.Int.{from_bool}
use Rattle.meaning.specs.Fields.{Field, word_at}
use Rattle.meaning.specs.Images.{inst_of}
use Rattle.meaning.specs.Image.{word}
use Rattle.meaning.specs.Mend.{replaced, Entry, entry_bytes, list_bytes}
use Rattle.meaning.specs.declared.Instruction.{Instruction}
use Rattle.meaning.proofs.Lists.{and_left, and_right, false_true}
use Rattle.reader.specs.Tests.{replaced_seen}
use Rattle.reader.proofs.Tested.{replaced_is}
use Rattle.mend.specs.declared.walk.Course.{Course}
use Rattle.mend.specs.Course.{course, hit, hits, after}

both_true : (a b c : Bool) → (a && b) ≡ true → (a && (b && c)) ≡ c
both_true true true c e = refl
both_true true false c e = absurd (false_true e)
both_true false b c e = absurd (false_true e)

not_both : (a b c : Bool) → (a && b) ≡ false → (a && (b && c)) ≡ false
not_both true true c e = absurd (false_true (sym e))
not_both true false c e = refl
not_both false b c e = refl

module _ (f : Field) (tag : ℕ) (c : Course) where
  -- the field is an instruction of the prototype in hand
  abbrev within : Bool
  within = (eqb f.tag tag && leb 4 (length f.payload)) && (ltb 0 c.met && ltb c.index c.code)

  abbrev x : Instruction
  x = inst_of tag f.payload

  pub hit_not : within ≡ false → false ≡ hit tag c f
  unfolding hit
  hit_not e = sym (not_both (eqb f.tag tag && leb 4 (length f.payload)) (ltb 0 c.met && ltb c.index c.code) (replaced c.code c.index x) e)

  module _ (e : within ≡ true) where
    pub four : 4 ≤ length f.payload
    four = leb-true 4 (length f.payload) (and_right (eqb f.tag tag) _ (and_left _ _ e))

    pub hit_if : (a v : ℕ) (r : Bool) → a ≡ get_or f.payload 1 0 → v ≡ word_at f.payload 2 → r ≡ replaced_seen (get_or f.payload 0 0) a v c.index c.code → r ≡ hit tag c f
    unfolding hit
    hit_if a v r ea ev er =
        er ∙ ap₂ (λ (y z : ℕ). replaced_seen (get_or f.payload 0 0) y z c.index c.code) ea ev
        ∙ sym (both_true (eqb f.tag tag && leb 4 (length f.payload)) (ltb 0 c.met && ltb c.index c.code) (replaced c.code c.index x) e ∙ replaced_is c.index c.code x)

-- ---- what is listed

pub hits_few : (tag : ℕ) (c : Course) (f : Field) → length (hits tag c f) ≤ 1
unfolding hits
hits_few tag c f = go (hit tag c f)
  where
    go : (b : Bool) → length (cond b ((let e : Entry = record { prototype = c.met - 1; index = c.index; old = inst_of tag f.payload } in e) ∷ []) []) ≤ 1
    go true = omega arith
    go false = omega arith

module _ (f : Field) (tag : ℕ) (c : Course) where
  no_hits : hit tag c f ≡ false → hits tag c f ≡ []
  unfolding hits
  no_hits e = rw e refl

  pub no_bytes : hit tag c f ≡ false → list_bytes (hits tag c f) ≡ []
  unfolding list_bytes
  no_bytes e = ap list_bytes (no_hits e)

  -- one, or none
  pub hits_one : (b : Bool) → b ≡ hit tag c f → from_bool b ≡ length (hits tag c f)
  unfolding hits
  hits_one true e = rw (sym e) refl
  hits_one false e = rw (sym e) refl

  -- a hit stands behind a header, and has its four bytes
  pub met_some : hit tag c f ≡ true → 0 < c.met
  unfolding hit
  met_some e = ltb-true 0 c.met (and_left _ _ (and_left _ _ (and_right (eqb f.tag tag && leb 4 (length f.payload)) _ e)))

  pub long : hit tag c f ≡ true → 4 ≤ length f.payload
  unfolding hit
  long e = leb-true 4 (length f.payload) (and_right (eqb f.tag tag) _ (and_left _ _ e))

  pub hit_bytes : hit tag c f ≡ true
      → list_bytes (hits tag c f) ≡ word (c.met - 1) ++ (word c.index ++ (get_or f.payload 0 0 ∷ get_or f.payload 1 0 ∷ get_or f.payload 2 0 ∷ get_or f.payload 3 0 ∷ []))
  unfolding hits list_bytes entry_bytes
  hit_bytes e = rw e refl

  -- ---- where the walk goes

  pub after_header : (eqb f.tag 0x41 && leb 10 (length f.payload)) ≡ true → (n : ℕ) → n ≡ word_at f.payload 8 → course (c.met + 1) n 0 ≡ after tag c f
  unfolding after
  after_header e n en = sym (rw e (ap (λ (k : ℕ). course (c.met + 1) k 0) (sym en)))

  pub header_room : (eqb f.tag 0x41 && leb 10 (length f.payload)) ≡ true → 10 ≤ length f.payload
  header_room e = leb-true 10 (length f.payload) (and_right (eqb f.tag 0x41) _ e)

  pub after_other : (eqb f.tag 0x41 && leb 10 (length f.payload)) ≡ false → (b : Bool) → eqb f.tag tag ≡ b → cond b (course c.met c.code (c.index + 1)) c ≡ after tag c f
  unfolding after
  after_other e b eb = sym (rw (e, eb) refl)
