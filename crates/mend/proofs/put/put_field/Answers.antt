-- A field that is not hit changes nothing; of one that is, four bytes go to the output and eight to the list.
use mathlib.Core.Path.{◌≡◌, sym, ap, ◌∙◌}
use mathlib.Core.Bool.{Bool, true, cond}
use mathlib.Core.List.{[], ◌∷◌}
use Prim.Native.Nat.{◌+◌}
use native.Mathlib.Omega.{arith}
use lib.ListN.{length}
use lib.Seq.{sets}
use Rattle.meaning.specs.Mend.{list_bytes}
use Rattle.mend.specs.Course.{met_field, hit, hits}
use Rattle.mend.proofs.Seen.{no_bytes, met_some, long, hit_bytes}
use Rattle.mend.proofs.put.put_field.Goals as goal
use Rattle.mend.proofs.put.put_field.Goals.{Then-is_hit}

-- the field is hit
is : (e : goal.Then-is_hit) → hit e.args.tag e.args.course (met_field e.args.field) ≡ true
is e = sym e.is_hit.ensures ∙ e.if-is_hit.true

eight : (e : goal.Then-is_hit) → length (list_bytes (hits e.args.tag e.args.course (met_field e.args.field))) ≡ 8
eight e = ap length (hit_bytes (met_field e.args.field) e.args.tag e.args.course (is e))

pub returns-then-is_hit : goal.returns-then-is_hit
returns-then-is_hit c = let e = (goal.at.returns-then-is_hit c).Then-is_hit in
    let a = c.args in (
      sym (eight e),
      c.put_return.ensures ∙ sym (ap (λ (b : Bool). cond b (sets a.out.now (a.at + 3) (20 ∷ 0 ∷ 0 ∷ 0 ∷ [])) a.out.now) (is e)),
      c.put_entry.ensures ∙ ap (sets a.list.now a.listed) (sym (hit_bytes (met_field a.field) a.tag a.course (is e))),
    )

pub returns : goal.returns
returns c = let no = sym c.is_hit.ensures ∙ c.if-is_hit.false in
    let none = no_bytes (met_field c.args.field) c.args.tag c.args.course no in (
      sym (ap length none),
      sym (ap (λ (b : Bool). cond b (sets c.args.out.now (c.args.at + 3) (20 ∷ 0 ∷ 0 ∷ 0 ∷ [])) c.args.out.now) no),
      sym (ap (sets c.args.list.now c.args.listed) none),
    )

pub put_return-requires : goal.put_return-requires
put_return-requires c = let e = (goal.at.put_return-requires c).Then-is_hit in omega (arith, c.requires.1, long (met_field e.args.field) e.args.tag e.args.course (is e))

pub overflow_sub-course : goal.overflow_sub-course
overflow_sub-course c = met_some (met_field c.args.field) c.args.tag c.args.course (is (goal.at.overflow_sub-course c).Then-is_hit)

pub put_entry-requires : goal.put_entry-requires
put_entry-requires c = let e = (goal.at.put_entry-requires c).Then-is_hit in (omega (arith, eight e, c.requires.2), long (met_field e.args.field) e.args.tag e.args.course (is e))
