-- Fields in order lie in blocks: after a header so many captures of five bytes each, then so many instructions of one size. So each is found by its index.
use mathlib.Core.Path.{◌≡◌, refl, sym, ap, ap₂, ◌∙◌, subst}
use mathlib.Core.Bool.{Bool, true, false, cond}
use mathlib.Core.Option.{Option, none, some}
use mathlib.Core.Logic.{inl, inr, ⊎_elim}
use mathlib.Core.List.{List, [], ◌∷◌}
use Prim.Native.Nat.{ℕ, zero, suc, ◌+◌, ◌-◌, ◌*◌, ◌<◌, ◌≤◌}
use native.Mathlib.Nat.{le_refl, suc-mul, zero-mul}
use native.Mathlib.Omega.{arith}
use lib.ListN.{length, get_or, take, drop, length-drop}
use lib.Seq.{get_or-take, drop-drop}
use lib.Dec.{ltb}
use borrow.Author.Tests.{eq-eqb, ne_eqb, ltb-true, lt-ltb}
use Rattle.meaning.specs.Fields.{Field, word_at, span, whole, payload_of, front, rest, fields}
use Rattle.meaning.specs.State.{Capture, Proto}
use Rattle.meaning.specs.declared.Instruction.{Instruction}
use Rattle.meaning.proofs.FieldLaws.{whole_true, fields_whole, fields_cut}
use Rattle.meaning.proofs.Lists.{and_left, and_right, empty}
use Rattle.meaning.specs.declared.Due.{Due}
use Rattle.meaning.specs.Images.{inst_size, capture_of, inst_of, Parts, proto_of, add_field, parts}
use Rattle.meaning.specs.Follow.{due, sized, is_inst, is_capture, is_header, is_constant, follows_whole, follows, due_after, may_end, stray}
use Rattle.reader.specs.Laid.{code_in, captures_in, proto_in, proto_span}
use Rattle.meaning.proofs.Images.Fielded.{Bytes, payloads, bytes_drop}
use Rattle.meaning.proofs.Images.Assembled.{Tagged, stray_head, assembled, tag_of, size_of, other_tag, same_tag, constant_tag}
use Rattle.reader.proofs.Glances.{front_size, front_word}

-- the instructions from a place on are those of what stands from there on
code_shift : (s : List ℕ) (tag span at k n : ℕ) → code_in s tag span (k + at) n ≡ code_in (drop k s) tag span at n
unfolding code_in
code_shift s tag span at k zero = refl
code_shift s tag span at k (suc n) =
    ap₂ (λ (x : Instruction) (l : List Instruction). x ∷ l)
    (ap (inst_of tag) (sym (drop-drop (at + 3) k s ∙ ap (λ (m : ℕ). drop m s) (let z : k + (at + 3) ≡ k + at + 3 = omega arith in z))))
    (ap (λ (m : ℕ). code_in s tag span m n) (let z : k + at + span ≡ k + (at + span) = omega arith in z) ∙ code_shift s tag span (at + span) k n)

-- an instruction is read off the first bytes
module _ (p : List ℕ) (m : ℕ) where
  head : 6 ≤ m → (k : ℕ) → k < 6 → get_or (take m p) k 0 ≡ get_or p k 0
  head h k l = get_or-take m p k 0 (omega arith)

  take_43 : 6 ≤ m → inst_of 0x43 (take m p) ≡ inst_of 0x43 p
  take_43 h = rw (head h 0 (omega arith), head h 1 (omega arith), head h 2 (omega arith), head h 3 (omega arith), head h 4 (omega arith), head h 5 (omega arith)) refl

  take_47 : 8 ≤ m → inst_of 0x47 (take m p) ≡ inst_of 0x47 p
  take_47 h = rw (get_or-take m p 0 0 (omega arith), get_or-take m p 1 0 (omega arith), get_or-take m p 2 0 (omega arith), get_or-take m p 3 0 (omega arith), get_or-take m p 4 0 (omega arith), get_or-take m p 5 0 (omega arith), get_or-take m p 6 0 (omega arith), get_or-take m p 7 0 (omega arith)) refl

  take_inst : (tag : ℕ) → Tagged tag → inst_size tag ≤ m → inst_of tag (take m p) ≡ inst_of tag p
  take_inst tag (inl e) = subst (λ (t : ℕ). inst_size t ≤ m → inst_of t (take m p) ≡ inst_of t p) (sym e) take_43
  take_inst tag (inr e) = subst (λ (t : ℕ). inst_size t ≤ m → inst_of t (take m p) ≡ inst_of t p) (sym e) take_47

module _ (tag : ℕ) (ok : Tagged tag) where
  abbrev step : ℕ
  step = 3 + inst_size tag

  -- where something is due a whole field stands at the front
  due_whole : (t : List ℕ) (d : Due) → may_end d ≡ false → stray tag d (fields t) ≡ none → whole t ≡ true
  unfolding stray
  due_whole t d m e = go (whole t) refl
    where
      go : (b : Bool) → whole t ≡ b → whole t ≡ true
      go true w = w
      go false w = absurd (let q : cond {A = Option ℕ} (may_end d) none (some 0) ≡ none = rw (fields_cut t w) at e in let z : ◌≡◌ {A = ℕ} 0 1 = nothing (rw m at q) in omega arith)
        where
          nothing : ◌≡◌ {A = Option ℕ} (some 0) none → ◌≡◌ {A = ℕ} 0 1
          nothing q = cc

  -- n instructions are due
  pub record Block (t : List ℕ) (n k : ℕ) : Type 0 where
    pub room : n * step ≤ length t
    pub order : stray tag (due 0 0 k 0) (fields (drop (n * step) t)) ≡ none
    pub code : (parts tag (fields t)).code ≡ code_in t tag step 0 n
    pub prototypes : (parts tag (fields t)).prototypes ≡ (parts tag (fields (drop (n * step) t))).prototypes
    pub constants : (parts tag (fields t)).constants ≡ (parts tag (fields (drop (n * step) t))).constants

  -- an instruction before the others
  module _ (t : List ℕ) (n k : ℕ) (e : stray tag (due 0 (suc n) k 0) (fields t) ≡ none) where
    front_whole : whole t ≡ true
    unfolding may_end
    front_whole = due_whole t (due 0 (suc n) k 0) (rw (ne_eqb (suc n) 0 (λ q. omega arith)) refl) e

    heads : (follows tag (due 0 (suc n) k 0) (front t) ≡ true) × (stray tag (due_after (due 0 (suc n) k 0) (front t)) (fields (rest t)) ≡ none)
    heads = stray_head tag (due 0 (suc n) k 0) (front t) (fields (rest t)) (rw (fields_whole t front_whole) at e)

    is_one : is_inst tag (front t) ≡ true
    unfolding follows
    is_one = rw (lt-ltb 0 (suc n) (omega arith)) at heads.0

    pub front_span : span t ≡ step
    unfolding is_inst
    front_span = ap (λ (m : ℕ). 3 + m) (sym (front_size t front_whole) ∙ size_of (front t) tag (inst_size tag) is_one)

    on : stray tag (due 0 n k 0) (fields (rest t)) ≡ none
    unfolding due_after
    on = subst (λ (m : ℕ). stray tag (due 0 m k 0) (fields (rest t)) ≡ none) (let z : suc n - 1 ≡ n = omega arith in z) (rw (lt-ltb 0 (suc n) (omega arith)) at heads.1)

    added : parts tag (fields t) ≡ record { captures = (parts tag (fields (rest t))).captures; code = inst_of tag (drop 3 t) ∷ (parts tag (fields (rest t))).code; prototypes = (parts tag (fields (rest t))).prototypes; constants = (parts tag (fields (rest t))).constants }
    unfolding parts add_field is_inst
    added =
        let g = tag_of (front t) tag (inst_size tag) is_one in
        ap (parts tag) (fields_whole t front_whole)
        ∙ rw (other_tag (front t) tag 0x41 g (λ q. ⊎_elim (λ (v : tag ≡ 0x43). omega arith) (λ (v : tag ≡ 0x47). omega arith) ok), other_tag (front t) tag 0x42 g (λ q. ⊎_elim (λ (v : tag ≡ 0x43). omega arith) (λ (v : tag ≡ 0x47). omega arith) ok), same_tag (front t) tag g)
        (ap (λ (x : Instruction). (let r : Parts = record { captures = (parts tag (fields (rest t))).captures; code = x ∷ (parts tag (fields (rest t))).code; prototypes = (parts tag (fields (rest t))).prototypes; constants = (parts tag (fields (rest t))).constants } in r))
        (take_inst (drop 3 t) (word_at t 1) tag ok (omega (arith, front_span))))

    rest_there : (m : ℕ) → drop (m * step) (rest t) ≡ drop (suc m * step) t
    rest_there m = drop-drop (m * step) (span t) t ∙ ap (λ (j : ℕ). drop j t) (let z : span t + m * step ≡ suc m * step = omega (arith, front_span, suc-mul m step) in z)

  pub block : (n : ℕ) (t : List ℕ) (k : ℕ) → Bytes t → stray tag (due 0 n k 0) (fields t) ≡ none → Block t n k
  unfolding code_in
  block zero t k b e =
      let none_left = empty (parts tag (fields t)).code (omega (arith, (assembled tag ok (fields t) (due 0 0 k 0) (payloads (length t) t (le_refl _) b) e).code)) in
      let here : drop (0 * step) t ≡ t = ap (λ (m : ℕ). drop m t) (zero-mul step) in
      record { room = omega (arith, zero-mul step); order = rw here e; code = none_left; prototypes = rw here refl; constants = rw here refl }
  block (suc n) t k b e =
      let r = block n (rest t) k (bytes_drop (span t) t b) (on t n k e) in
      let w = front_whole t n k e in
      let sp = front_span t n k e in
      let there = rest_there t n k e n in
      record {
        room = omega (arith, r.room, length-drop (span t) t, whole_true t w, sp, suc-mul n step);
        order = rw (sym there) r.order;
        code = ap (λ (p : Parts). p.code) (added t n k e)
            ∙ ap₂ (λ (x : Instruction) (l : List Instruction). x ∷ l) refl (r.code ∙ ap (λ (m : ℕ). code_in (drop m t) tag step 0 n) sp ∙ sym (code_shift t tag step 0 step n) ∙ ap (λ (m : ℕ). code_in t tag step m n) (let z : step + 0 ≡ 0 + step = omega arith in z));
        prototypes = ap (λ (p : Parts). p.prototypes) (added t n k e) ∙ r.prototypes ∙ ap (λ (l : List ℕ). (parts tag (fields l)).prototypes) there;
        constants = ap (λ (p : Parts). p.constants) (added t n k e) ∙ r.constants ∙ ap (λ (l : List ℕ). (parts tag (fields l)).constants) there;
      }

-- ---- captures

captures_shift : (s : List ℕ) (at k n : ℕ) → captures_in s (k + at) n ≡ captures_in (drop k s) at n
unfolding captures_in
captures_shift s at k zero = refl
captures_shift s at k (suc n) =
    ap₂ (λ (x : Capture) (l : List Capture). x ∷ l)
    (ap capture_of (sym (drop-drop (at + 3) k s ∙ ap (λ (m : ℕ). drop m s) (let z : k + (at + 3) ≡ k + at + 3 = omega arith in z))))
    (ap (λ (m : ℕ). captures_in s m n) (let z : k + at + 5 ≡ k + (at + 5) = omega arith in z) ∙ captures_shift s (at + 5) k n)

take_capture : (p : List ℕ) (m : ℕ) → 2 ≤ m → capture_of (take m p) ≡ capture_of p
take_capture p m h = rw (get_or-take m p 0 0 (omega arith), get_or-take m p 1 0 (omega arith)) refl

module _ (tag : ℕ) (ok : Tagged tag) where
  -- c captures are due, and then n instructions
  pub record Captured (t : List ℕ) (c n k : ℕ) : Type 0 where
    pub room : c * 5 ≤ length t
    pub order : stray tag (due 0 n k 0) (fields (drop (c * 5) t)) ≡ none
    pub captures : (parts tag (fields t)).captures ≡ captures_in t 0 c
    pub code : (parts tag (fields t)).code ≡ (parts tag (fields (drop (c * 5) t))).code
    pub prototypes : (parts tag (fields t)).prototypes ≡ (parts tag (fields (drop (c * 5) t))).prototypes
    pub constants : (parts tag (fields t)).constants ≡ (parts tag (fields (drop (c * 5) t))).constants

  module _ (t : List ℕ) (c n k : ℕ) (e : stray tag (due (suc c) n k 0) (fields t) ≡ none) where
    c_whole : whole t ≡ true
    unfolding may_end
    c_whole = due_whole tag ok t (due (suc c) n k 0) (rw (ne_eqb (suc c) 0 (λ q. omega arith)) refl) e

    c_heads : (follows tag (due (suc c) n k 0) (front t) ≡ true) × (stray tag (due_after (due (suc c) n k 0) (front t)) (fields (rest t)) ≡ none)
    c_heads = stray_head tag (due (suc c) n k 0) (front t) (fields (rest t)) (rw (fields_whole t c_whole) at e)

    c_one : is_capture (front t) ≡ true
    unfolding follows
    c_one = rw (lt-ltb 0 (suc c) (omega arith)) at c_heads.0

    c_sized : sized (front t) 0x42 2 ≡ true
    unfolding is_capture
    c_sized = and_left _ _ c_one

    c_span : span t ≡ 5
    c_span = ap (λ (m : ℕ). 3 + m) (sym (front_size t c_whole) ∙ size_of (front t) 0x42 2 c_sized)

    c_on : stray tag (due c n k 0) (fields (rest t)) ≡ none
    unfolding due_after
    c_on = subst (λ (m : ℕ). stray tag (due m n k 0) (fields (rest t)) ≡ none) (let z : suc c - 1 ≡ c = omega arith in z) (rw (lt-ltb 0 (suc c) (omega arith)) at c_heads.1)

    c_added : parts tag (fields t) ≡ record { captures = capture_of (drop 3 t) ∷ (parts tag (fields (rest t))).captures; code = (parts tag (fields (rest t))).code; prototypes = (parts tag (fields (rest t))).prototypes; constants = (parts tag (fields (rest t))).constants }
    unfolding parts add_field
    c_added =
        let g = tag_of (front t) 0x42 2 c_sized in
        ap (parts tag) (fields_whole t c_whole)
        ∙ rw (other_tag (front t) 0x42 0x41 g (λ q. omega arith), same_tag (front t) 0x42 g)
        (ap (λ (x : Capture). (let r : Parts = record { captures = x ∷ (parts tag (fields (rest t))).captures; code = (parts tag (fields (rest t))).code; prototypes = (parts tag (fields (rest t))).prototypes; constants = (parts tag (fields (rest t))).constants } in r))
        (take_capture (drop 3 t) (word_at t 1) (omega (arith, c_span))))

    c_there : (m : ℕ) → drop (m * 5) (rest t) ≡ drop (suc m * 5) t
    c_there m = drop-drop (m * 5) (span t) t ∙ ap (λ (j : ℕ). drop j t) (let z : span t + m * 5 ≡ suc m * 5 = omega (arith, c_span, suc-mul m 5) in z)

  pub captured : (c : ℕ) (t : List ℕ) (n k : ℕ) → Bytes t → stray tag (due c n k 0) (fields t) ≡ none → Captured t c n k
  unfolding captures_in
  captured zero t n k b e =
      let none_left = empty (parts tag (fields t)).captures (omega (arith, (assembled tag ok (fields t) (due 0 n k 0) (payloads (length t) t (le_refl _) b) e).captures)) in
      record { room = omega arith; order = e; captures = none_left; code = refl; prototypes = refl; constants = refl }
  captured (suc c) t n k b e =
      let r = captured c (rest t) n k (bytes_drop (span t) t b) (c_on t c n k e) in
      let w = c_whole t c n k e in
      let sp = c_span t c n k e in
      let there = c_there t c n k e c in
      record {
        room = omega (arith, r.room, length-drop (span t) t, whole_true t w, sp, suc-mul c 5);
        order = rw (sym there) r.order;
        captures = ap (λ (p : Parts). p.captures) (c_added t c n k e)
            ∙ ap₂ (λ (x : Capture) (l : List Capture). x ∷ l) refl (r.captures ∙ ap (λ (m : ℕ). captures_in (drop m t) 0 c) sp ∙ sym (captures_shift t 0 5 c));
        code = ap (λ (p : Parts). p.code) (c_added t c n k e) ∙ r.code ∙ ap (λ (l : List ℕ). (parts tag (fields l)).code) there;
        prototypes = ap (λ (p : Parts). p.prototypes) (c_added t c n k e) ∙ r.prototypes ∙ ap (λ (l : List ℕ). (parts tag (fields l)).prototypes) there;
        constants = ap (λ (p : Parts). p.constants) (c_added t c n k e) ∙ r.constants ∙ ap (λ (l : List ℕ). (parts tag (fields l)).constants) there;
      }

  -- ---- a prototype

  -- the prototype at the front, and what stands behind it
  pub record Headed (t : List ℕ) (k : ℕ) : Type 0 where
    pub few : k < 256
    pub room : proto_span t tag ≤ length t
    pub some : 0 < word_at t 11
    pub order : stray tag (due 0 0 (k + 1) 0) (fields (drop (proto_span t tag) t)) ≡ none
    pub prototypes : (parts tag (fields t)).prototypes ≡ proto_in t tag ∷ (parts tag (fields (drop (proto_span t tag) t))).prototypes
    pub constants : (parts tag (fields t)).constants ≡ (parts tag (fields (drop (proto_span t tag) t))).constants

  module _ (t : List ℕ) (k : ℕ) (b : Bytes t) (e : stray tag (due 0 0 k 0) (fields t) ≡ none) (w : whole t ≡ true) (h : get_or t 0 0 ≡ 0x41) where
    h_heads : (follows tag (due 0 0 k 0) (front t) ≡ true) × (stray tag (due_after (due 0 0 k 0) (front t)) (fields (rest t)) ≡ none)
    h_heads = stray_head tag (due 0 0 k 0) (front t) (fields (rest t)) (rw (fields_whole t w) at e)

    h_is : is_header (front t) ≡ true
    unfolding follows follows_whole
    h_is = and_left _ _ (rw (eq-eqb (get_or t 0 0) 0x41 h) at h_heads.0)

    h_sized : sized (front t) 0x41 10 ≡ true
    unfolding is_header
    h_sized = and_left _ _ h_is

    ten : word_at t 1 ≡ 10
    ten = sym (front_size t w) ∙ size_of (front t) 0x41 10 h_sized

    h_word : (j : ℕ) → j + 1 < 10 → word_at (payload_of t) j ≡ word_at t (3 + j)
    h_word j l = front_word t w j (omega (arith, ten))

    h_on : stray tag (due (word_at t 9) (word_at t 11) (k + 1) 0) (fields (rest t)) ≡ none
    unfolding due_after
    h_on = rw (eq-eqb (get_or t 0 0) 0x41 h, h_word 6 (omega arith), h_word 8 (omega arith)) at h_heads.1

    thirteen : rest t ≡ drop 13 t
    thirteen = ap (λ (m : ℕ). drop (3 + m) t) ten

    h_added : parts tag (fields t) ≡ record { captures = []; code = []; prototypes = proto_of (payload_of t) (parts tag (fields (rest t))).captures (parts tag (fields (rest t))).code ∷ (parts tag (fields (rest t))).prototypes; constants = (parts tag (fields (rest t))).constants }
    unfolding parts add_field
    h_added = ap (parts tag) (fields_whole t w) ∙ rw (same_tag (front t) 0x41 h) refl

    cs : Captured (rest t) (word_at t 9) (word_at t 11) (k + 1)
    cs = captured (word_at t 9) (rest t) (word_at t 11) (k + 1) (bytes_drop (span t) t b) h_on

    xs : Block tag ok (drop (word_at t 9 * 5) (rest t)) (word_at t 11) (k + 1)
    xs = block tag ok (word_at t 11) (drop (word_at t 9 * 5) (rest t)) (k + 1) (bytes_drop (word_at t 9 * 5) (rest t) (bytes_drop (span t) t b)) cs.order

    behind : drop (word_at t 11 * (3 + inst_size tag)) (drop (word_at t 9 * 5) (rest t)) ≡ drop (proto_span t tag) t
    behind = ap (λ (l : List ℕ). drop (word_at t 11 * (3 + inst_size tag)) (drop (word_at t 9 * 5) l)) thirteen
        ∙ ap (drop (word_at t 11 * (3 + inst_size tag))) (drop-drop (word_at t 9 * 5) 13 t)
        ∙ drop-drop (word_at t 11 * (3 + inst_size tag)) (13 + word_at t 9 * 5) t

    captures_there : (parts tag (fields (rest t))).captures ≡ captures_in t 13 (word_at t 9)
    captures_there = cs.captures ∙ ap (λ (l : List ℕ). captures_in l 0 (word_at t 9)) thirteen ∙ sym (captures_shift t 0 13 (word_at t 9))

    code_there : (parts tag (fields (rest t))).code ≡ code_in t tag (3 + inst_size tag) (13 + word_at t 9 * 5) (word_at t 11)
    code_there = cs.code ∙ xs.code
        ∙ ap (λ (l : List ℕ). code_in l tag (3 + inst_size tag) 0 (word_at t 11)) (ap (drop (word_at t 9 * 5)) thirteen ∙ drop-drop (word_at t 9 * 5) 13 t)
        ∙ sym (code_shift t tag (3 + inst_size tag) 0 (13 + word_at t 9 * 5) (word_at t 11))
        ∙ ap (λ (m : ℕ). code_in t tag (3 + inst_size tag) m (word_at t 11)) (let z : 13 + word_at t 9 * 5 + 0 ≡ 13 + word_at t 9 * 5 = omega arith in z)

    proto_there : proto_of (payload_of t) (parts tag (fields (rest t))).captures (parts tag (fields (rest t))).code ≡ proto_in t tag
    unfolding proto_in
    proto_there = rw (captures_there, code_there, h_word 0 (omega arith), h_word 2 (omega arith), h_word 4 (omega arith)) refl

    h_some : 0 < word_at t 11
    unfolding is_header
    h_some = ltb-true 0 (word_at t 11) (ap (λ (m : ℕ). ltb 0 m) (sym (h_word 8 (omega arith))) ∙ and_right (sized (front t) 0x41 10) _ h_is)

    h_few : k < 256
    unfolding follows follows_whole
    h_few = ltb-true k 256 (and_left _ _ (and_right (is_header (front t)) _ (rw (eq-eqb (get_or t 0 0) 0x41 h) at h_heads.0)))

    pub headed : Headed t k
    headed = record {
      few = h_few;
      some = h_some;
      room = omega (arith, cs.room, xs.room, length-drop (span t) t, length-drop (word_at t 9 * 5) (rest t), whole_true t w, ten);
      order = rw (sym behind) xs.order;
      prototypes = ap (λ (p : Parts). p.prototypes) h_added ∙ ap₂ (λ (p : Proto) (l : List Proto). p ∷ l) proto_there (cs.prototypes ∙ xs.prototypes ∙ ap (λ (l : List ℕ). (parts tag (fields l)).prototypes) behind);
      constants = ap (λ (p : Parts). p.constants) h_added ∙ cs.constants ∙ xs.constants ∙ ap (λ (l : List ℕ). (parts tag (fields l)).constants) behind;
    }

  -- ---- behind the last prototype

  module _ (t : List ℕ) (k : ℕ) (b : Bytes t) (e : stray tag (due 0 0 k 0) (fields t) ≡ none) where
    pub no_whole : whole t ≡ false → (parts tag (fields t)).prototypes ≡ []
    unfolding parts
    no_whole w = rw (fields_cut t w) refl

    module _ (w : whole t ≡ true) (n : get_or t 0 0 ≡ 0x41 → ⊥) where
      n_heads : (follows tag (due 0 0 k 0) (front t) ≡ true) × (stray tag (due_after (due 0 0 k 0) (front t)) (fields (rest t)) ≡ none)
      n_heads = stray_head tag (due 0 0 k 0) (front t) (fields (rest t)) (rw (fields_whole t w) at e)

      n_constant : is_constant (front t) ≡ true
      unfolding follows follows_whole
      n_constant = and_left _ _ (rw (ne_eqb (get_or t 0 0) 0x41 n) at n_heads.0)

      n_on : stray tag (due 0 0 k 1) (fields (rest t)) ≡ none
      unfolding due_after
      n_on = rw (ne_eqb (get_or t 0 0) 0x41 n) at n_heads.1

      n_kept : (parts tag (fields t)).prototypes ≡ (parts tag (fields (rest t))).prototypes
      unfolding parts add_field
      n_kept =
          let g = constant_tag (front t) n_constant in
          ap (λ (fs : List Field). (parts tag fs).prototypes) (fields_whole t w)
          ∙ rw (ne_eqb (get_or t 0 0) 0x41 n, ne_eqb (get_or t 0 0) 0x42 (λ q. omega arith), ne_eqb (get_or t 0 0) tag (λ q. ⊎_elim (λ (v : tag ≡ 0x43). omega arith) (λ (v : tag ≡ 0x47). omega arith) ok)) refl

      pub no_header : (parts tag (fields t)).prototypes ≡ []
      no_header = n_kept ∙ (assembled tag ok (fields (rest t)) (due 0 0 k 1) (payloads (length (rest t)) (rest t) (le_refl _) (bytes_drop (span t) t b)) n_on).late (omega arith) refl refl
