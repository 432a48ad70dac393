-- `image::put_code` meets its contract: instruction by instruction. Assumes nothing.
use mathlib.Core.Path.{sym, ap}
use mathlib.Core.List.{[], ◌∷◌}
use Prim.Native.Nat.{ℕ, ◌+◌}
use native.Mathlib.Nat.{zero-mul}
use native.Mathlib.Omega.{arith}
use Rattle.writers.proofs.Splicing.{spliced_none, spliced_then, spliced_as}
use Rattle.store.specs.Layout.{inst_at}
use Rattle.store.specs.Store.{top_of}
use Rattle.store.proofs.Tables.{tab_none}
use Rattle.meaning.specs.Images.{inst_size}
use Rattle.meaning.specs.Image.{inst_bytes}
use Rattle.meaning.specs.declared.Instruction.{Instruction}
use Rattle.image.proofs.Bytes.{one_more, insts_more, insts_long}
use Rattle.image.proofs.put_code.Goals as goal

pub loop-i-init : goal.loop-i-init
loop-i-init c = let a = c.args in
    let none = ap (inst_bytes a.tag) (tab_none (λ k. inst_at a.work.now (top_of a.scope) (a.first + k))) in
    (omega (arith, zero-mul (3 + inst_size a.tag)), spliced_as (sym none) (spliced_none a.out.now a.from (omega (arith, c.requires.1))))

pub loop-i-preserved : goal.loop-i-preserved
loop-i-preserved c = let a = c.args in
    let f : ℕ → Instruction = λ k. inst_at a.work.now (top_of a.scope) (a.first + k) in
    let i : ℕ = c.loop-i.i in
    let v = c.loop-i.invariant in
    let span = c.span-size in
    let put = spliced_as (ap (λ x. inst_bytes a.tag (x ∷ [])) c.inst_at-x.ensures) c.put_inst.ensures in
    (omega (arith, v.0, span.ensures.0, one_more i (3 + inst_size a.tag)), spliced_as (sym (insts_more a.tag f i)) (spliced_then v.1 put (omega (arith, v.0, insts_long a.tag f i))))
