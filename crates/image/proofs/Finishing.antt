-- The end of a call: a refusal stays; the image is the prototypes, which the output holds already, and the constants, where both fit; else 18.
use mathlib.Core.Path.{◌≡◌, refl, sym, ap, ◌∙◌}
use mathlib.Core.List.{List, ◌++◌}
use Prim.Native.Nat.{ℕ, ◌+◌, ◌<◌, ◌≤◌}
use native.Mathlib.Omega.{arith}
use lib.ListN.{length, take, length-append}
use borrow.Author.Tests.{lt-ltb, le-ltb}
use Rattle.meaning.specs.State.{Proto}
use Rattle.meaning.specs.Image.{proto_bytes, constant_bytes, image}
use Rattle.meaning.specs.Answer.{stopped, fitted}
use Rattle.meaning.specs.declared.Cause.{Cause}
use Rattle.meaning.specs.declared.Cause.TheVariants.{Room}
use Rattle.std.specs.Prelude.{Ok, Err}
use Rattle.meaning.specs.Outcome.{refusal}
use Rattle.store.specs.declared.Step.{Step}
use Rattle.store.specs.declared.Scope.{Scope}
use Rattle.store.specs.Table.{tab}
use Rattle.store.specs.Layout.{constant_at}
use Rattle.store.specs.Store.{outcome_of, constants_of, functions_of, state_of, config_of, run, is_wide, code_tag, Written, Image, Fine}
use Rattle.store.proofs.Runs.{run_going, run_stopped}
use Rattle.writers.specs.Spliced.{Spliced}
use Rattle.image.specs.Finish.{ended, Ending, Finishable, Finishes}
use Rattle.writers.proofs.Splicing.{spliced_take, spliced_length}

-- a refusal stays
ending_stopped : (o : List ℕ) (c : Cause) (k : ℕ) → Ending (stopped c k) o (Err (refusal c k))
ending_stopped o c k = record { told = refl; fits = omega arith; front = refl }

pub ends_refused : (w o : List ℕ) (s : Step) (last : ℕ) {c : Cause} {k : ℕ} → outcome_of s ≡ Err (refusal c k) → Finishes w o s last o (outcome_of s)
ends_refused w o s last {c} {k} e = record { same = refl; ends = λ p ps i. rw (run_stopped w p s ps c k e, e) (ending_stopped o c k) }

-- the constants' bytes
abbrev pub pool : List ℕ → Step → List ℕ
pool w s = constant_bytes (tab (constant_at w) (constants_of s))

-- what a list of bytes ends with that does not fit, and with one that does
no_room : (o : List ℕ) (last : ℕ) (bytes : List ℕ) → length o < length bytes → Ending (fitted (length o) last bytes) o (Err (refusal Room last))
no_room o last bytes h = rw (lt-ltb (length o) (length bytes) h) (ending_stopped o Room last)

with_room : (room : ℕ) (o : List ℕ) (last end : ℕ) (bytes : List ℕ) → room ≡ length o → end ≡ length bytes → end ≤ length o → take end o ≡ bytes → Ending (fitted room last bytes) o (Ok end)
with_room room o last end bytes r e h f = rw (le-ltb room (length bytes) (omega arith)) (record { told = ap Ok e; fits = h; front = f })

module _ (w o : List ℕ) (s : Step) (last : ℕ) {written : ℕ} (e : outcome_of s ≡ Ok written) where
  -- the image: the prototypes, then the constants
  abbrev bytes : Scope → List Proto → List ℕ
  bytes p ps = proto_bytes (code_tag p) ps ++ pool w s

  image_is : (p : Scope) (ps : List Proto) → image (is_wide p) (state_of w p s ps) ≡ bytes p ps
  unfolding image state_of
  image_is p ps = refl

  ended_is : (p : Scope) (ps : List Proto) → ended (is_wide p) (length o) last (run w p s ps) ≡ fitted (length o) last (bytes p ps)
  unfolding config_of
  ended_is p ps = ap (ended (is_wide p) (length o) last) (run_going w p s ps written e) ∙ ap (fitted (length o) last) (image_is p ps)

  held : (p : Scope) (ps : List Proto) → Image p o s ps → Written (code_tag p) o written (functions_of s) ps
  held p ps i = rw e at i

  size : (p : Scope) (ps : List Proto) → Image p o s ps → length (bytes p ps) ≡ written + length (pool w s)
  size p ps i = omega (arith, length-append (proto_bytes (code_tag p) ps) (pool w s), (held p ps i).sized)

  pub ends_full : length o < written + length (pool w s) → Finishes w o s last o (Err (refusal Room last))
  ends_full h = record { same = refl; ends = λ p ps i. rw (ended_is p ps) (no_room o last (bytes p ps) (omega (arith, size p ps i))) }

  pub ends_whole : {o' : List ℕ} {end : ℕ} → end ≡ written + length (pool w s) → Spliced o written (pool w s) o' → Finishes w o s last o' (Ok end)
  ends_whole {o'} {end} n x =
      let l = spliced_length x in
      record {
        same = l;
        ends = λ p ps i. rw (ended_is p ps)
            (with_room (length o) o' last end (bytes p ps) (sym l) (n ∙ sym (size p ps i)) (omega (arith, x.fits))
            (ap (λ k. take k o') n ∙ spliced_take x ∙ ap (λ b. b ++ pool w s) ((held p ps i).bytes (omega (arith, x.fits)))));
      }

-- every fine step has what `finish` goes by
pub fine_finishable : {w : List ℕ} {p : Scope} {s : Step} → Fine w p s → Finishable w s
fine_finishable f = record { long = omega (arith, f.sound.long); constants = f.constants; written = omega (arith, f.written, f.functions) }
