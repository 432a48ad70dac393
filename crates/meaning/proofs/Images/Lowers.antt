-- Theorem (c): what the lowering writes is taken, as the prototypes and constants with which the lowering ended.
-- The idea: demand 3 gives the facts at every instruction, the ranges give the rest of `Good`.
use mathlib.Core.Path.{◌≡◌, refl, sym, ap, ◌∙◌, subst}
use mathlib.Core.Bool.{Bool, true, false}
use mathlib.Core.Logic.{inl, inr}
use mathlib.Core.Option.{none}
use mathlib.Core.List.{List, [], ◌∷◌, ◌++◌, map, append-nil, append_assoc}
use Prim.Native.Nat.{ℕ, zero, suc, ◌+◌, ◌<◌, ◌≤◌}
use native.Mathlib.Omega.{arith}
use lib.ListN.{length, replicate}
use Rattle.meaning.specs.Fields.{Field, fields}
use Rattle.meaning.specs.Grammar.{wide_marks}
use Rattle.meaning.specs.Constant.{Constant}
use Rattle.meaning.specs.State.{Capture, Proto, State}
use Rattle.meaning.specs.Images.{image_of_state, inst_tag}
use Rattle.meaning.specs.Image.{image}
use Rattle.meaning.specs.Answer.{finished, imaged}
use Rattle.meaning.specs.Steps.{inst_at}
use Rattle.meaning.specs.Safety.{All, Lowered, Demand3}
use Rattle.meaning.specs.Rules.{lawful, code_tests, proto_tests, first_false}
use Rattle.meaning.specs.Reader.{broken, read_as, taken, tag_in, image_tag, read_image}
use Rattle.meaning.specs.declared.Instruction.{Instruction}
use Rattle.meaning.proofs.Safe.{demand_3}
use Rattle.meaning.proofs.Safe.Obeys.{all_more}
use Rattle.meaning.proofs.Ranges.{lowered_ranged}
use Rattle.meaning.proofs.Ranges.Fits.{MarkIn, Ranged, InstFits, ProtoFits}
use Rattle.meaning.proofs.Images.Assembled.{Tagged, HeaderFits}
use Rattle.meaning.proofs.Images.Written.{Good, fields_written, exact}
use Rattle.meaning.proofs.Images.Listed.{capture_field, inst_field, proto_fields}
use Rattle.meaning.proofs.Images.Lawful.{facts_lawful}
use Rattle.meaning.proofs.Images.Walks.{all_at}

-- ---- no test fails

pass_head : (b : Bool) (bs : List Bool) → b ≡ true → first_false bs ≡ none → first_false (b ∷ bs) ≡ none
unfolding first_false
pass_head b bs h k = rw (h, k) refl

-- what passes before what passes
module _ (b : List Bool) (k : first_false b ≡ none) where
  pass_trues : (n : ℕ) → first_false (replicate n true ++ b) ≡ none
  pass_trues zero = k
  pass_trues (suc n) = pass_head true (replicate n true ++ b) refl (pass_trues n)

  pass_code : (ks : List Constant) (earlier : List Proto) (p : Proto) (i : ℕ) (xs : List Instruction)
      → ((j : ℕ) → j < length xs → lawful ks earlier p (i + j) (inst_at xs j) ≡ true) → first_false (code_tests ks earlier p i xs ++ b) ≡ none
  unfolding code_tests
  pass_code ks earlier p i [] h = k
  pass_code ks earlier p i (x ∷ xs) h =
      pass_head (lawful ks earlier p i x) _ (subst (λ (m : ℕ). lawful ks earlier p m x ≡ true) (let z : i + 0 ≡ i = omega arith in z) (h 0 (omega arith)))
      (pass_code ks earlier p (i + 1) xs
      (λ j l. subst (λ (m : ℕ). lawful ks earlier p m (inst_at xs j) ≡ true) (let z : i + suc j ≡ i + 1 + j = omega arith in z) (h (suc j) (omega arith))))

pass_nothing : first_false [] ≡ none
unfolding first_false
pass_nothing = refl

-- each prototype is asked with those before it; `first` stand before them all
pass_protos : (ks : List Constant) (first qs : List Proto)
    → ((before : List Proto) (p : Proto) (after : List Proto) → qs ≡ before ++ p ∷ after → (i : ℕ) → i < length p.code → lawful ks (first ++ before) p i (inst_at p.code i) ≡ true)
    → first_false (proto_tests ks first qs) ≡ none
unfolding proto_tests
pass_protos ks first [] h = pass_nothing
pass_protos ks first (q ∷ qs) h =
    let later = proto_tests ks (first ++ q ∷ []) qs in
    let own = code_tests ks first q 0 q.code ++ later in
    pass_head true (replicate (length q.captures) true ++ own) refl
    (pass_trues own
    (pass_code later
    (pass_protos ks (first ++ q ∷ []) qs (λ before p after e i l.
    subst (λ (ps : List Proto). lawful ks ps p i (inst_at p.code i) ≡ true) (sym (append_assoc first (q ∷ []) before)) (h (q ∷ before) p after (ap (λ (l : List Proto). q ∷ l) e) i l)))
    ks first q 0 q.code
    (λ j l. subst (λ (m : ℕ). lawful ks first q m (inst_at q.code j) ≡ true) (let z : j ≡ 0 + j = omega arith in z)
    (subst (λ (ps : List Proto). lawful ks ps q j (inst_at q.code j) ≡ true) (append-nil first) (h [] q qs refl j l))))
    (length q.captures))

-- ---- what a lowering ends with has the rules

module _ (Marks : ℕ → Type 0) where
  code_at : (xs : List Instruction) (i : ℕ) → All (InstFits Marks) xs → i < length xs → InstFits Marks (inst_at xs i)
  code_at [] i h l = absurd (omega arith)
  code_at (x ∷ xs) zero h l = h.0
  code_at (x ∷ xs) (suc i) h l = code_at xs i h.1 (omega arith)

header_fits : (tag : ℕ) (p : Proto) → ProtoFits (MarkIn tag) p → HeaderFits tag p
header_fits tag p h = record {
  name = h.name;
  params = omega (arith, h.params);
  registers = omega (arith, h.registers);
  captures = omega (arith, h.few_captures);
  some = h.some;
  code = omega (arith, h.short);
  marks = all_more _ _ p.code (λ x k. k.mark) h.code;
}

tagged : (wide : Bool) → Tagged (inst_tag wide)
tagged true = inr refl
tagged false = inl refl

module _ (wide : Bool) (s : State) (d : Demand3 s) (r : Ranged (MarkIn (inst_tag wide)) s) where
  abbrev Marks : ℕ → Type 0
  Marks = MarkIn (inst_tag wide)

  one_lawful : (before : List Proto) (p : Proto) (after : List Proto) → s.prototypes ≡ before ++ p ∷ after → (i : ℕ) → i < length p.code
      → lawful s.constants before p i (inst_at p.code i) ≡ true
  one_lawful before p after e i l =
      let h = all_at (ProtoFits Marks) before p after (subst (All (ProtoFits Marks)) e r.prototypes) in
      facts_lawful s.constants before p i l (code_at Marks p.code i h.code l).written ((d.safe before p after e).facts i l)

  none_broken : broken (image_of_state s) ≡ none
  none_broken = pass_protos s.constants [] s.prototypes one_lawful

  pub state_good : Good (inst_tag wide) (image_of_state s)
  state_good = record {
    width = tagged wide;
    some = r.some_prototypes;
    few = r.few_prototypes;
    numbers = all_more _ _ s.prototypes (header_fits (inst_tag wide)) r.prototypes;
    constants = r.few_constants;
    values = r.constants;
    facts = none_broken;
  }

  pub state_taken : read_as (inst_tag wide) (image wide s) ≡ taken (image_of_state s)
  unfolding image
  state_taken = exact (inst_tag wide) (image_of_state s) state_good

-- its first instruction has the tag of all
tag_behind : (wide : Bool) (cs : List Capture) (x : Instruction) (fs : List Field) → tag_in (map capture_field cs ++ inst_field (inst_tag wide) x ∷ fs) ≡ inst_tag wide
unfolding tag_in
tag_behind true [] x fs = refl
tag_behind false [] x fs = refl
tag_behind wide (c ∷ cs) x fs = tag_behind wide cs x fs

tag_of_protos : (wide : Bool) (ps : List Proto) (fs : List Field) → 1 ≤ length ps → All (ProtoFits (MarkIn (inst_tag wide))) ps → tag_in (proto_fields (inst_tag wide) ps ++ fs) ≡ inst_tag wide
unfolding tag_in proto_fields
tag_of_protos wide [] fs l h = absurd (omega arith)
tag_of_protos wide (p ∷ ps) fs l h = go p.code h.0.some
  where
    go : (xs : List Instruction) → 1 ≤ length xs → tag_in ((map capture_field p.captures ++ (map (inst_field (inst_tag wide)) xs ++ proto_fields (inst_tag wide) ps)) ++ fs) ≡ inst_tag wide
    go [] k = absurd (omega arith)
    go (x ∷ xs) k = simp append_assoc (tag_behind wide p.captures x _)

pub state_tag : (wide : Bool) (s : State) → Ranged (MarkIn (inst_tag wide)) s → image_tag (image wide s) ≡ inst_tag wide
unfolding image
state_tag wide s r = ap tag_in (fields_written (inst_tag wide) (image_of_state s) (tagged wide)) ∙ tag_of_protos wide s.prototypes _ r.some_prototypes r.prototypes

-- for all modes, trees, work lengths and output lengths: where there is an image, it is taken, as what the lowering ended with
pub lowered_taken : (mode : ℕ) (tree : List ℕ) (work room : ℕ) (bytes : List ℕ) → finished mode tree work room ≡ imaged bytes
    → (l : Lowered mode tree work bytes) × (read_image bytes ≡ taken (image_of_state l.state))
lowered_taken mode tree work room bytes e =
    let x = demand_3 mode tree work room bytes e in
    let l = x.0 in
    let w = wide_marks (fields tree) in
    let r = lowered_ranged mode tree work bytes l in
    (l, ap read_image l.image_of ∙ ap (λ (t : ℕ). read_as t (image w l.state)) (state_tag w l.state r) ∙ state_taken w l.state x.1 r)
