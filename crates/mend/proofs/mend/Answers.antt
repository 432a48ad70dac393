-- All is zero first; then, where the image is accepted, the copy and the list are written (Finished).
use mathlib.Core.Path.{◌≡◌, ap₂, ◌∙◌, subst}
use mathlib.Core.List.{List}
use Prim.Native.Nat.{ℕ}
use native.Mathlib.Omega.{arith}
use lib.ListN.{length}
use Rattle.meaning.specs.Reader.{image_tag}
use Rattle.meaning.specs.Mend.{mend_as, mend_answer, mend_output, mend_list}
use Rattle.meaning.specs.declared.MendAnswer.{MendAnswer}
use Rattle.meaning.specs.Outcome.{Outcome}
use Rattle.meaning.proofs.Images.Fielded.{bytes_by}
use Rattle.mend.specs.Course.{mend_outcome}
use Rattle.mend.proofs.Finished.{copied_front, Done, done, answer_done, output_done, list_done, answer_stopped, output_stopped, list_stopped}
use Rattle.mend.proofs.mend.Goals as goal
use Rattle.mend.proofs.mend.Goals.{In-Ok}

-- what `judge` tells: the lengths are those lent
told : (tag : ℕ) (t : List ℕ) (room list r l : ℕ) (o : Outcome) → r ≡ room → l ≡ list → o ≡ mend_outcome (mend_as tag t r l) → o ≡ mend_outcome (mend_as tag t room list)
told tag t room list r l o p q e = e ∙ ap₂ (λ (x y : ℕ). mend_outcome (mend_as tag t x y)) p q

-- where it is accepted
D : (c : goal.In-Ok) → Done c.image_tag-tag.result c.args.image.now (length c.args.out.now) (length c.args.list.now) c.in-Ok.entries
D c =
    let t = c.args.image.now in
    done c.image_tag-tag.result c.image_tag-tag.ensures.1 t (bytes_by t (λ i. omega (arith, c.type_inv.image i))) _ _ _ c.judge-judged.result
    (told _ _ _ _ _ _ _ c.clear.auto.bytes c.clear-2.auto.bytes c.judge-judged.ensures) c.in-Ok.is

-- what the call answers and leaves, of what is mended at a tag; at the tag that was found it is that at the image's own
abbrev Leaves : (tag : ℕ) → List ℕ → (room list : ℕ) → MendAnswer → (o l : List ℕ) → Type 0
Leaves tag t room list r o l = let m = mend_as tag t room list in (r ≡ mend_answer m) × ((o ≡ mend_output room m) × (l ≡ mend_list list m))

own : (tag : ℕ) (t : List ℕ) (room list : ℕ) (r : MendAnswer) (o l : List ℕ) → tag ≡ image_tag t → Leaves tag t room list r o l → Leaves (image_tag t) t room list r o l
own tag t room list r o l e = subst (λ (k : ℕ). Leaves k t room list r o l) e

pub copy-requires : goal.copy-requires
copy-requires c = omega (arith, (D (goal.at.copy-requires c).In-Ok).fits, c.clear.auto.bytes)

pub put_all-requires : goal.put_all-requires
put_all-requires c = let d = D (goal.at.put_all-requires c).In-Ok in
    (d.order, d.frame, copied_front c.args.image.now c.clear.new.bytes _ c.copy.ensures, omega (arith, d.list_fits, c.clear-2.auto.bytes))

pub returns-in-Ok : goal.returns-in-Ok
returns-in-Ok c = let d = D (goal.at.returns-in-Ok c).In-Ok in
    let a = own c.image_tag-tag.result c.args.image.now (length c.args.out.now) (length c.args.list.now) _ _ _ c.image_tag-tag.ensures.0 (
      answer_done _ _ _ _ _ d,
      (output_done _ _ _ _ _ d _ _ _ c.clear.ensures c.copy.ensures c.put_all.ensures.0, list_done _ _ _ _ _ d _ _ c.clear-2.ensures c.put_all.ensures.1),
    ) in
    record { answered = a.0; written = a.1.0; listed = a.1.1 }

pub returns-in-Err : goal.returns-in-Err
returns-in-Err c = let m = mend_as c.image_tag-tag.result c.args.image.now (length c.args.out.now) (length c.args.list.now) in
    let t = told _ _ _ _ _ _ _ c.clear.auto.bytes c.clear-2.auto.bytes c.judge-judged.ensures in
    let r = c.in-Err.is in
    let a = own c.image_tag-tag.result c.args.image.now (length c.args.out.now) (length c.args.list.now) _ _ _ c.image_tag-tag.ensures.0 (
      answer_stopped m _ t _ _ r _ c.cause_number.ensures,
      (output_stopped m _ t _ _ r _ _ c.clear.ensures, list_stopped m _ t _ _ r _ _ c.clear-2.ensures),
    ) in
    record { answered = a.0; written = a.1.0; listed = a.1.1 }
