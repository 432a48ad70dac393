-- E1, "the images in 01's order with matching counts": which field may follow, field by field.
use Rattle.std.specs.Prelude.{ℕ, suc, ◌+◌, ◌-◌, Bool, ◌&&◌, ◌||◌, cond, List, [], ◌∷◌, length, get_or, eqb, leb, ltb}
use Rattle.std.proofs.Math.Option.{Option, none, some}
use Rattle.meaning.specs.Fields.{Field, word_at}
use Rattle.meaning.specs.Images.{inst_size}
use Rattle.meaning.specs.declared.Due.{Due}

-- what is due, as the struct has it: captures and instructions of the prototype in hand that are still to come; prototypes and constants so far
abbrev pub due : (captures code prototypes constants : ℕ) → Due
due cs xs ps ks = record { captures = cs; code = xs; prototypes = ps; constants = ks }

-- before the first field
abbrev pub at_first : Due
at_first = due 0 0 0 0

-- a field of this tag and length
abbrev pub sized : Field → (tag size : ℕ) → Bool
sized f tag size = eqb f.tag tag && eqb (length f.payload) size

-- tag 42 with its two bytes, "1 for local else 0, and the index"
unfoldable pub is_capture : Field → Bool
is_capture f = sized f 0x42 2 && leb (get_or f.payload 0 0) 1

-- the tag of instructions, with a payload of its width
unfoldable pub is_inst : (tag : ℕ) → Field → Bool
is_inst tag f = sized f tag (inst_size tag)

-- tag 41 with its five words, "of at least one instruction"
unfoldable pub is_header : Field → Bool
is_header f = sized f 0x41 10 && ltb 0 (word_at f.payload 8)

-- tags 44, 45, 46
unfoldable pub is_constant : Field → Bool
is_constant f = sized f 0x44 8 || (sized f 0x45 2 || sized f 0x46 2)

-- "1 to 256 prototypes", "at most 1,024 constants": where a prototype is whole, a header or a constant may follow
unfoldable pub follows_whole : Due → Field → Bool
follows_whole d f =
    cond (eqb f.tag 0x41) (is_header f && (ltb d.prototypes 256 && eqb d.constants 0))
    (is_constant f && (ltb 0 d.prototypes && ltb d.constants 1024))

-- the field can follow
unfoldable pub follows : (tag : ℕ) → Due → Field → Bool
follows tag d f = cond (ltb 0 d.captures) (is_capture f) (cond (ltb 0 d.code) (is_inst tag f) (follows_whole d f))

-- what is due after it
unfoldable pub due_after : Due → Field → Due
due_after d f =
    cond (ltb 0 d.captures) (due (d.captures - 1) d.code d.prototypes d.constants)
    (cond (ltb 0 d.code) (due 0 (d.code - 1) d.prototypes d.constants)
    (cond (eqb f.tag 0x41) (due (word_at f.payload 6) (word_at f.payload 8) (d.prototypes + 1) 0)
    (due 0 0 d.prototypes (d.constants + 1))))

-- the end may come
unfoldable pub may_end : Due → Bool
may_end d = eqb d.captures 0 && (eqb d.code 0 && ltb 0 d.prototypes)

-- one place further
abbrev pub further : Option ℕ → Option ℕ
further none = none
further (some k) = some (suc k)

-- "the first field that cannot follow, or the field count when the end comes too soon"; none where all is in order
unfoldable pub stray : (tag : ℕ) → Due → List Field → Option ℕ
stray tag d [] = cond (may_end d) none (some 0)
stray tag d (f ∷ fs) = cond (follows tag d f) (further (stray tag (due_after d f) fs)) (some 0)
