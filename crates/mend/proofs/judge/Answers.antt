-- Each stage's answer is that of the definition (Judged).
use mathlib.Core.Path.{◌≡◌, sym, ap, ◌∙◌}
use mathlib.Core.Bool.{true}
use mathlib.Core.Option.{none}
use mathlib.Core.List.{List}
use Prim.Native.Nat.{ℕ}
use native.Mathlib.Omega.{arith}
use lib.ListN.{length}
use Rattle.meaning.specs.Fields.{fields}
use Rattle.meaning.specs.Check.{framed}
use Rattle.meaning.specs.Follow.{at_first, stray}
use Rattle.meaning.specs.Reader.{image_tag, read_outcome}
use Rattle.meaning.specs.Mend.{mended_copy, read_mended}
use Rattle.meaning.specs.Outcome.{Outcome}
use Rattle.meaning.proofs.Images.Fielded.{bytes_by}
use Rattle.std.proofs.lemmas.Result.{err_from_is_err_and}
use Rattle.reader.specs.Laid.{Ordered}
use Rattle.mend.proofs.Judged.{told_refused, framed_order, told_list, told_room, told_mended, same_size}
use Rattle.mend.proofs.judge.Goals as goal
use Rattle.mend.proofs.judge.Goals.{In_ok-read_mended}

-- the reading is at the tag
read : (t : List ℕ) (tag : ℕ) (o : Outcome) → tag ≡ image_tag t → o ≡ read_outcome (length (fields t)) (read_mended (image_tag t) t) → o ≡ read_outcome (length (fields t)) (read_mended tag t)
read t tag o e h = h ∙ ap (λ (k : ℕ). read_outcome (length (fields t)) (read_mended k t)) (sym e)

pub returns-in_err-read_mended : goal.returns-in_err-read_mended
returns-in_err-read_mended c = let p = err_from_is_err_and c.from_residual.result c.from_residual.ensures.1 in
    let a = c.args in
    rw (p.1, p.2, ← c.in_err-read_mended.was) (told_refused a.tag a.image.now a.room a.list _ _ (read _ _ _ c.requires.0 c.read_mended.ensures) _ _ c.in_err-read_mended.was)

-- where it is accepted: what is known of the image
known : (c : goal.In_ok-read_mended) → let a = c.args in (framed a.image.now ≡ true) × (stray a.tag at_first (fields a.image.now) ≡ none)
known c = let a = c.args in framed_order a.tag a.image.now a.room a.list _ _ _ (read _ _ _ c.requires.0 c.read_mended.ensures) c.in_ok-read_mended.was

in_order : (c : goal.In_ok-read_mended) → Ordered c.args.image.now c.args.tag
in_order c = record { width = c.requires.1; order = (known c).1 }

long : (c : goal.In_ok-read_mended) → length (mended_copy c.args.tag c.args.image.now) ≡ length c.args.image.now
long c = let t = c.args.image.now in same_size c.args.tag t (bytes_by t (λ i. omega (arith, c.type_inv.image i))) (in_order c) (known c).0

pub returns-then-list-entries : goal.returns-then-list-entries
returns-then-list-entries c = let a = c.args in
    told_list a.tag a.image.now a.room a.list _ _ _ (read _ _ _ c.requires.0 c.read_mended.ensures) c.in_ok-read_mended.was _ c.count-entries.ensures c.if-list-entries.true

pub returns-then-room-image : goal.returns-then-room-image
returns-then-room-image c = let a = c.args in
    told_room a.tag a.image.now a.room a.list _ _ _ (read _ _ _ c.requires.0 c.read_mended.ensures) c.in_ok-read_mended.was _ c.count-entries.ensures (λ q. omega (arith, c.if-list-entries.false)) (long (goal.at.returns-then-room-image c).In_ok-read_mended) c.if-room-image.true

pub returns : goal.returns
returns c = let a = c.args in
    told_mended a.tag a.image.now a.room a.list _ _ _ (read _ _ _ c.requires.0 c.read_mended.ensures) c.in_ok-read_mended.was _ c.count-entries.ensures (λ q. omega (arith, c.if-list-entries.false)) (long (goal.at.returns c).In_ok-read_mended) (λ q. omega (arith, c.if-room-image.false))

pub count-entries-requires : goal.count-entries-requires
count-entries-requires c = in_order (goal.at.count-entries-requires c).In_ok-read_mended
