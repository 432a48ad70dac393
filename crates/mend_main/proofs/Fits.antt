-- An image is no longer than the output that it stands in, nor are the entries longer than the list.
use Prim.Native.Nat.{ℕ, ◌*◌, ◌-◌, ◌≤◌}
use mathlib.Core.Path.{◌≡◌}
use mathlib.Core.List.{List}
use native.Mathlib.Omega.{arith}
use lib.ListN.{length, replicate, length-append}
use Rattle.meaning.specs.Mend.{Mending, unmended, mended_to, list_bytes, mend_as, mend_answer, mend_output, mend_list}
use Rattle.meaning.specs.declared.MendAnswer.{MendAnswer}
use Rattle.mend.proofs.Putting.{list_size}

both : (room list : ℕ) (m : Mending) → ((mend_answer m).length ≤ length (mend_output room m)) × (8 * (mend_answer m).entries ≤ length (mend_list list m))
both room list (unmended c place) = (omega arith, omega arith)
both room list (mended_to bytes es) = (omega (arith, length-append bytes (replicate (room - length bytes) 0)), omega (arith, list_size es, length-append (list_bytes es) (replicate (list - length (list_bytes es)) 0)))

-- of what a call answers and leaves in output and list
pub fits : (tag : ℕ) (image : List ℕ) (room list : ℕ) (r : MendAnswer) (o l : List ℕ) → r ≡ mend_answer (mend_as tag image room list) → o ≡ mend_output room (mend_as tag image room list) → l ≡ mend_list list (mend_as tag image room list)
    → (r.length ≤ length o) × (8 * r.entries ≤ length l)
fits tag image room list r o l er eo el = rw (er, eo, el) (both room list (mend_as tag image room list))
