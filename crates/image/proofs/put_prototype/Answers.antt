-- `image::put_prototype` meets its contract: header, captures, code and the last Return, one after the other. Assumes nothing.
use mathlib.Core.Path.{◌∙◌, ap}
use mathlib.Core.List.{List, [], ◌∷◌, ◌++◌, append_assoc}
use Prim.Native.Nat.{ℕ, ◌+◌, ◌*◌}
use native.Mathlib.Omega.{arith}
use lib.ListN.{length-append}
use Rattle.store.specs.Table.{tab}
use Rattle.store.specs.Layout.{name_of, registers, held, capture_at, inst_at}
use Rattle.store.specs.Store.{top_of}
use Rattle.store.proofs.Tables.{tab_length}
use Rattle.meaning.specs.Opcode.{inst, Return, no_mark}
use Rattle.meaning.specs.Image.{word, field, capture_bytes, inst_bytes}
use Rattle.meaning.specs.declared.Instruction.{Instruction}
use Rattle.writers.proofs.Splicing.{spliced_then, spliced_as}
use Rattle.writers.proofs.Bytes.{captures_size}
use Rattle.image.proofs.Bytes.{insts_long, proto_is}
use Rattle.image.proofs.put_prototype.Goals as goal

pub returns : goal.returns
returns c = let span = c.span-size in
    let a = c.args in
    let w = a.work.now in
    let j : ℕ = a.j in
    let k : ℕ = a.count in
    let f : ℕ → Instruction = λ i. inst_at w (top_of a.scope) (a.first + i) in
    let h : List ℕ = field 0x41 (word (name_of w j) ++ (word a.params ++ (word (registers w j) ++ (word (held w j) ++ word (k + 1))))) in
    let cs : List ℕ = capture_bytes (tab (capture_at w j) (held w j)) in
    let is : List ℕ = inst_bytes a.tag (tab f k) in
    let ret : List ℕ = inst_bytes a.tag (inst Return 0 0 0 no_mark ∷ []) in
    let nc = captures_size (tab (capture_at w j) (held w j)) in
    let tc = tab_length (capture_at w j) (held w j) in
    let ni = insts_long a.tag f k in
    let last = spliced_as (ap (λ x. inst_bytes a.tag (x ∷ [])) c.unpacked.ensures) c.put_inst.ensures in
    let b2 = spliced_then c.put_header.ensures c.put_captures.ensures (omega arith) in
    let b3 = spliced_then b2 c.put_code.ensures (omega (arith, length-append h cs, nc, tc)) in
    let b4 = spliced_then b3 last (omega (arith, length-append h cs, length-append (h ++ cs) is, nc, tc, ni, ap (λ n. k * n) span.ensures.0)) in
    spliced_as (append_assoc (h ++ cs) is ret ∙ append_assoc h cs (is ++ ret) ∙ proto_is a.tag w (top_of a.scope) j a.first k a.params) b4
