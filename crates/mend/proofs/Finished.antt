-- What an accepted image has, and what is then left in output and list, which were zero before.
use mathlib.Core.Path.{◌≡◌, refl, sym, ap, ap₂, ◌∙◌}
use mathlib.Core.Bool.{true}
use mathlib.Core.List.{List, ◌++◌}
use Prim.Native.Nat.{ℕ, zero, suc, ◌*◌, ◌-◌, ◌≤◌}
use native.Mathlib.Omega.{arith}
use lib.ListN.{length, drop, replicate}
use lib.Seq.{drop-append_seam}
use Rattle.meaning.specs.Check.{framed}
use Rattle.meaning.specs.Answer.{cause_number}
use Rattle.meaning.specs.Mend.{mended_copy, listed_in, list_bytes, Mending, unmended, mended_to, mend_as, mend_answer, mend_output, mend_list}
use Rattle.meaning.specs.declared.MendAnswer.{MendAnswer}
use Rattle.meaning.specs.declared.Cause.{Cause}
use Rattle.std.specs.Prelude.{Ok, Err}
use Rattle.meaning.specs.Outcome.{Outcome, refusal}
use Rattle.meaning.specs.declared.Refusal.{Refusal}
use Rattle.meaning.proofs.Images.Fielded.{Bytes}
use Rattle.meaning.proofs.Images.Assembled.{Tagged}
use Rattle.meaning.proofs.Mend.{mends}
use Rattle.reader.specs.Laid.{Ordered}
use Rattle.mend.specs.Course.{mend_outcome}
use Rattle.mend.proofs.Judged.{same_size}

drop_zeros : (k n : ℕ) → drop {A = ℕ} k (replicate n 0) ≡ replicate (n - k) 0
drop_zeros zero n = ap (λ (m : ℕ). replicate m 0) (let z : n ≡ n - 0 = omega arith in z)
drop_zeros (suc k) zero = ap (λ (m : ℕ). replicate m 0) (let z : 0 ≡ 0 - suc k = omega arith in z)
drop_zeros (suc k) (suc n) = drop_zeros k n ∙ ap (λ (m : ℕ). replicate m 0) (let z : n - k ≡ suc n - suc k = omega arith in z)

-- what was copied stands before what was there
pub copied_front : (s o o' : List ℕ) → o' ≡ s ++ drop (length s) o → o' ≡ s ++ drop (length s) o'
copied_front s o o' e = e ∙ ap (λ (l : List ℕ). s ++ l) (sym (ap (drop (length s)) e ∙ drop-append_seam s (drop (length s) o)))

pub record Done (tag : ℕ) (s : List ℕ) (room list entries : ℕ) : Type 0 where
  pub is : mend_as tag s room list ≡ mended_to (mended_copy tag s) (listed_in tag s)
  pub order : Ordered s tag
  pub frame : framed s ≡ true
  pub size : length (mended_copy tag s) ≡ length s
  pub fits : length s ≤ room
  pub list_fits : 8 * length (listed_in tag s) ≤ list
  pub count : entries ≡ length (listed_in tag s)

pub done : (tag : ℕ) → Tagged tag → (s : List ℕ) → Bytes s → (room list entries : ℕ) (o : Outcome) → o ≡ mend_outcome (mend_as tag s room list) → o ≡ Ok entries → Done tag s room list entries
done tag ok s b room list entries o e a = go (mend_as tag s room list) refl (sym e ∙ a)
  where
    go : (m : Mending) → mend_as tag s room list ≡ m → mend_outcome m ≡ Ok entries → Done tag s room list entries
    go (unmended c place) q r = absurd (let z : ◌≡◌ {A = ℕ} 0 1 = cc in omega arith)
    go (mended_to bytes es) q r =
        let m = mends tag s room list bytes es q in
        let o : Ordered s tag = record { width = ok; order = m.order } in
        let size = same_size tag s b o m.frame in
        let count : entries ≡ length es = cc in
        record {
          is = q ∙ ap₂ mended_to m.copy m.listing;
          order = o;
          frame = m.frame;
          size = size;
          fits = omega (arith, m.fits, ap length m.copy);
          list_fits = omega (arith, m.list_fits, ap length m.listing);
          count = count ∙ ap length m.listing;
        }

module _ (tag : ℕ) (s : List ℕ) (room list entries : ℕ) (d : Done tag s room list entries) where
  pub answer_done : (let a : MendAnswer = record { number = 0; place = 0; length = length s; entries = entries } in a) ≡ mend_answer (mend_as tag s room list)
  answer_done = sym (ap mend_answer d.is ∙ ap₂ (λ (n k : ℕ). (let a : MendAnswer = record { number = 0; place = 0; length = n; entries = k } in a)) d.size (sym d.count))

  pub output_done : (o₁ o₂ o₃ : List ℕ) → o₁ ≡ replicate room 0 → o₂ ≡ s ++ drop (length s) o₁ → o₃ ≡ mended_copy tag s ++ drop (length s) o₂ → o₃ ≡ mend_output room (mend_as tag s room list)
  output_done o₁ o₂ o₃ e₁ e₂ e₃ =
      let rest : drop (length s) o₂ ≡ replicate (room - length (mended_copy tag s)) 0 =
      ap (drop (length s)) e₂ ∙ drop-append_seam s (drop (length s) o₁) ∙ ap (drop (length s)) e₁ ∙ drop_zeros (length s) room ∙ ap (λ (n : ℕ). replicate (room - n) 0) (sym d.size) in
      e₃ ∙ ap (λ (l : List ℕ). mended_copy tag s ++ l) rest ∙ sym (ap (mend_output room) d.is)

  pub list_done : (l₁ l₂ : List ℕ) → l₁ ≡ replicate list 0 → l₂ ≡ list_bytes (listed_in tag s) ++ drop (length (list_bytes (listed_in tag s))) l₁ → l₂ ≡ mend_list list (mend_as tag s room list)
  list_done l₁ l₂ e₁ e₂ =
      e₂ ∙ ap (λ (l : List ℕ). list_bytes (listed_in tag s) ++ l) (ap (drop (length (list_bytes (listed_in tag s)))) e₁ ∙ drop_zeros (length (list_bytes (listed_in tag s))) list)
      ∙ sym (ap (mend_list list) d.is)

-- a refusal: nothing but zeros
module _ (m : Mending) (o : Outcome) (e : o ≡ mend_outcome m) (c : Cause) (place : ℕ) (r : o ≡ Err (refusal c place)) where
  stopped : m ≡ unmended c place
  stopped = go m (sym e ∙ r)
    where
      go : (m : Mending) → mend_outcome m ≡ Err (refusal c place) → m ≡ unmended c place
      go (unmended d q) f = let z : refusal d q ≡ refusal c place = cc in ap (λ (r : Refusal). unmended r.cause r.place) z
      go (mended_to bytes es) f = absurd (let z : ◌≡◌ {A = ℕ} 0 1 = cc in omega arith)

  pub answer_stopped : (n : ℕ) → n ≡ cause_number c → (let a : MendAnswer = record { number = n; place = place; length = 0; entries = 0 } in a) ≡ mend_answer m
  answer_stopped n en = ap (λ (k : ℕ). (let a : MendAnswer = record { number = k; place = place; length = 0; entries = 0 } in a)) en ∙ sym (ap mend_answer stopped)

  pub output_stopped : (room : ℕ) (l : List ℕ) → l ≡ replicate room 0 → l ≡ mend_output room m
  output_stopped room l el = el ∙ sym (ap (mend_output room) stopped)

  pub list_stopped : (list : ℕ) (l : List ℕ) → l ≡ replicate list 0 → l ≡ mend_list list m
  list_stopped list l el = el ∙ sym (ap (mend_list list) stopped)
