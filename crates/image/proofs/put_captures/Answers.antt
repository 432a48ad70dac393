-- `image::put_captures` meets its contract: capture by capture. Assumes nothing.
use mathlib.Core.Path.{◌≡◌, sym, ap, ◌∙◌}
use mathlib.Core.List.{[], ◌∷◌}
use Prim.Native.Nat.{ℕ}
use native.Mathlib.Omega.{arith}
use Rattle.writers.proofs.Splicing.{spliced_none, spliced_then, spliced_as}
use Rattle.store.specs.Table.{tab}
use Rattle.store.specs.Layout.{capture_of, capture_at}
use Rattle.store.proofs.Tables.{tab_length, tab_none}
use Rattle.meaning.specs.Image.{capture_bytes}
use Rattle.writers.specs.Values.{capture_of as captured}
use Rattle.writers.proofs.Bytes.{captures_size}
use Rattle.image.proofs.Bytes.{captures_more}
use Rattle.image.proofs.put_captures.Goals as goal

pub loop-i-init : goal.loop-i-init
loop-i-init c = let a = c.args in
    spliced_as (sym (ap capture_bytes (tab_none (capture_at a.work.now a.j)))) (spliced_none a.out.now a.at (omega (arith, c.requires.3)))

pub loop-i-preserved : goal.loop-i-preserved
loop-i-preserved c = let a = c.args in
    let f = capture_at a.work.now a.j in
    let i : ℕ = c.loop-i.i in
    let one : captured c.capture_of-capture.result ≡ f i = c.capture_of-capture.ensures ∙ ap capture_of c.capture_word.ensures in
    let put = spliced_as (ap (λ k. capture_bytes (k ∷ [])) one) c.put_capture.ensures in
    spliced_as (sym (captures_more f i)) (spliced_then c.loop-i.invariant put (omega (arith, captures_size (tab f i), tab_length f i)))
