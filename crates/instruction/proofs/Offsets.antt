-- The signed reading. Below 32,768 a number reads as itself; from there on, being 65,536 less some k + 1, it reads as -(k + 1).
-- So what is stored for an offset is read back as that offset: `inverse`, one law over every offset of 16 bits, -32,768 to 32,767.
-- A function of at most 32,767 instructions holds no other. `target_read`: where demand 3's steps send a Jmp is where this reading does.
use Rattle.std.proofs.Common.{◌≡◌, ℕ, zero, suc, ◌+◌, ◌-◌, ◌%◌, ◌<◌, ◌≤◌, Bool, true, false, ltb, ℤ, pos, negsuc, ◌+ℤ◌, neg_ℤ, refl, arith, ltb-false, ltb-true, le-ltb, lt-ltb, le-leb}
use mathlib.Core.Option.{Option, none, some}
use lib.Signed.{mag}
use borrow.Author.Tests.{lt-leb}
use Rattle.meaning.specs.Opcode.{inst_bx, bx, back}
use Rattle.meaning.specs.Steps.{target}
use Rattle.instruction.specs.Offset.{signed, sbx, stored}

-- ---- the reading on either side of 32,768

unsuc : (n : ℕ) → 1 ≤ n → (k : ℕ) × (n ≡ suc k)
unsuc zero h = absurd (omega arith)
unsuc (suc k) h = (k, refl)

pub reads_low : (n : ℕ) → n < 32768 → signed n ≡ pos n
reads_low n h = rw (lt-ltb n 32768 h)

pub reads_high : (n k : ℕ) → 32768 ≤ n → 65536 - n ≡ suc k → signed n ≡ negsuc k
reads_high n k h e = rw (le-ltb n 32768 h, e)

module _ (n : ℕ) (h : 32768 ≤ n) (f : n < 65536) where
  below : (k : ℕ) × (65536 - n ≡ suc k)
  below = unsuc (65536 - n) (omega arith)

-- ---- the law

-- b and c hold a number's last 16 bits
held : (op a n mark : ℕ) → bx (inst_bx op a n mark) ≡ n % 65536
held op a n mark = omega arith

pub inverse : (op a mark : ℕ) (z : ℤ) → mag z < 32768 → sbx (inst_bx op a (stored z) mark) ≡ z
inverse op a mark (pos n) h =
    let e : n % 65536 ≡ n = omega arith in
    rw (held op a n mark, e) (reads_low n h)
inverse op a mark (negsuc k) h =
    let e : back (suc k) % 65536 ≡ 65536 - suc k = omega arith in
    rw (held op a (back (suc k)) mark, e) (reads_high (65536 - suc k) k (omega arith) (omega arith))

-- at a jump forward, and at one backward
pub read_forward : (op a mark n : ℕ) → n ≤ 32767 → sbx (inst_bx op a n mark) ≡ pos n
read_forward op a mark n h = inverse op a mark (pos n) (omega arith)

pub read_backward : (op a mark n : ℕ) → n ≤ 32768 → sbx (inst_bx op a (back n) mark) ≡ neg_ℤ (pos n)
read_backward op a mark zero h = inverse op a mark (pos 0) (omega arith)
read_backward op a mark (suc k) h = inverse op a mark (negsuc k) (omega arith)

-- ---- demand 3's steps

-- an instruction's index; before the first there is none
abbrev pub index : ℤ → Option ℕ
index (pos n) = some n
index (negsuc n) = none

low_target : (i w : ℕ) → w < 32768 → target i w ≡ index (pos i +ℤ signed w)
low_target i w h = rw (lt-ltb w 32768 h)

high_target : (i w k : ℕ) → 32768 ≤ w → 65536 - w ≡ suc k → (before : Bool) → ltb i (suc k) ≡ before → target i w ≡ index (pos i +ℤ negsuc k)
high_target i w k h e true b =
    let l = ltb-true i (suc k) b in
    rw (le-ltb w 32768 h, b, lt-leb 65536 (i + w) (omega (arith, l, e)))
high_target i w k h e false b =
    let l = ltb-false i (suc k) b in
    let d : i + w - 65536 ≡ i - suc k = omega (arith, l, e) in
    rw (le-ltb w 32768 h, b, le-leb 65536 (i + w) (omega (arith, l, e)), d)

target_by : (i w : ℕ) → w < 65536 → (low : Bool) → ltb w 32768 ≡ low → target i w ≡ index (pos i +ℤ signed w)
target_by i w f true e = low_target i w (ltb-true w 32768 e)
target_by i w f false e =
    let h = ltb-false w 32768 e in
    let k = below w h f in
    rw (reads_high w k.0 h k.1) (high_target i w k.0 h k.1 (ltb i (suc k.0)) refl)

-- a Jmp leads to its index plus what `sbx` reads
pub target_read : (i w : ℕ) → w < 65536 → target i w ≡ index (pos i +ℤ signed w)
target_read i w f = target_by i w f (ltb w 32768) refl
