-- The invariant is `Marked`: the bytes say what the first i instructions enter.
use mathlib.Core.Path.{◌≡◌, sym, ap, ◌∙◌, subst}
use Prim.Native.Nat.{ℕ, ◌+◌}
use native.Mathlib.Omega.{arith}
use lib.ListN.{length, replicate}
use Rattle.reader.specs.Laid.{code_in}
use Rattle.reader.specs.Lens.{lens_code}
use Rattle.reader.proofs.Marking.{Marked, marked_start, marked_more, marked_end}
use Rattle.reader.proofs.Lenses.{seen_length, entered_there}
use Rattle.reader.proofs.marks.mark_entered.Goals as goal

pub loop-i-init : goal.loop-i-init
loop-i-init c = subst (Marked (lens_code c.args.mend (code_in c.args.t.now c.args.tag (3 + c.inst_size-span.result) c.args.at (length c.fill.new.self))) (length c.fill.new.self) 0)
    (ap (λ (n : ℕ). replicate n 0) c.fill.ensures.len ∙ sym (c.fill.ensures.after (λ y e. e))) (marked_start _ _)

pub loop-i-preserved : goal.loop-i-preserved
loop-i-preserved c = let x = c.args in
    marked_more _ _ _ _ c.loop-i.invariant _ _
    (entered_there x.t.now x.tag _ x.at _ c.loop-i.i (omega (arith, c.loop-i-test.true, c.loop-i.auto.marks)) x.mend _ _ _ _
    c.seen_opcode-o.ensures c.word-w.ensures.0 c.first_lead.ensures c.second_lead.ensures)
    _ _ c.mark.ensures c.mark-in-loop-i.ensures

pub returns : goal.returns
returns c = let x = c.args in
    rw (sym c.fill.ensures.len, sym c.inst_size-span.ensures)
    (marked_end _ _ _ _ (let z : c.loop-i.i ≡ length c.fill.new.self = omega (arith, c.loop-i-test.false, c.loop-i.auto.i-end) in z ∙ sym (seen_length x.mend x.t.now x.tag _ x.at _)) c.loop-i.invariant)
