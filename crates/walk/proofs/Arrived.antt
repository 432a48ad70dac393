-- The answer of the walk, by what each stage found; and what an accepted image gives a walk.
use mathlib.Core.Path.{◌≡◌, refl, sym, ap, ap₂, ◌∙◌, subst}
use mathlib.Core.Bool.{true}
use mathlib.Core.Option.{none}
use mathlib.Core.Logic.{⊎_elim}
use mathlib.Core.List.{List, [], ◌∷◌, ◌++◌}
use Prim.Native.Nat.{ℕ, zero, suc, ◌+◌, ◌-◌, ◌*◌, ◌<◌, ◌≤◌}
use native.Mathlib.Omega.{arith}
use lib.ListN.{length, get_or, replicate}
use lib.Dec.{ltb}
use borrow.Author.Tests.{lt-ltb, le-ltb, ltb-true, leb-true, ne_eqb}
use Rattle.meaning.specs.Base.{lowest}
use Rattle.meaning.specs.Fields.{word_at, whole, fields}
use Rattle.meaning.specs.State.{Proto}
use Rattle.meaning.specs.Steps.{inst_at}
use Rattle.meaning.specs.Safety.{Holds}
use Rattle.meaning.specs.Images.{Image, image_of, inst_size}
use Rattle.meaning.specs.Rules.{all, inside, leads}
use Rattle.meaning.specs.Reader.{Read, broken, read_as}
use Rattle.meaning.specs.Answer.{cause_number}
use Rattle.meaning.specs.Paths.{start, Path, path, visits}
use Rattle.meaning.specs.Walker.{Walking, stopped, walked, code_of, fair, rises, Asked, with_room, walk_in, walk_read, ending_number, walk_answer, lent_bytes}
use Rattle.meaning.specs.declared.Cause.{Cause}
use Rattle.meaning.specs.declared.Cause.TheVariants.{Prototype, Decision, Order, Visits}
use Rattle.meaning.specs.declared.Instruction.{Instruction}
use Rattle.std.specs.Prelude.{Ok}
use Rattle.meaning.specs.declared.WalkAnswer.{WalkAnswer}
use Rattle.meaning.proofs.Lists.{lt_or_le, lowest_all}
use Rattle.meaning.proofs.Images.Back.{taken_is}
use Rattle.meaning.proofs.Images.Lawful.{lawful_stays}
use Rattle.meaning.proofs.Images.Walks.{each}
use Rattle.reader.specs.Laid.{code_in, proto_in, Located}
use Rattle.reader.proofs.Scanned.{inst_size_small}
use Rattle.reader.proofs.Marking.{code_length}
use Rattle.reader.proofs.Answered.{outcome_of, accepted_taken}
use Rattle.walk.specs.declared.route.Walked.{Walked}
use Rattle.walk.specs.Code.{Walkable, Decisions, Rising}
use Rattle.walk.specs.Route.{Told}

-- decisions that are fair
pub all_fair : (ds : List ℕ) → length ds ≤ lowest (fair ds) (length ds) → Decisions ds
all_fair ds h j = ⊎_elim
    (λ (k : j < length ds). leb-true (get_or ds j 0) 1 (lowest_all (fair ds) (length ds) h j k))
    (λ (k : length ds ≤ j). omega (arith, past ds j k))
    (lt_or_le j (length ds))
  where
    past : (l : List ℕ) (i : ℕ) → length l ≤ i → get_or l i 0 ≡ 0
    past [] i k = refl
    past (x ∷ l) zero k = absurd (omega arith)
    past (x ∷ l) (suc i) k = past l i (omega arith)

-- strikes of which each is above the one before it
pub all_rise : (ss : List ℕ) → length ss ≤ lowest (rises ss) (length ss) → Rising ss
all_rise ss h j l = ltb-true (get_or ss j 0) (get_or ss (suc j) 0) (second (lowest_all (rises ss) (length ss) h (suc j) l))
  where
    second : rises ss (suc j) ≡ true → ltb (get_or ss j 0) (get_or ss (suc j) 0) ≡ true
    second e = let z : suc j - 1 ≡ j = omega arith in rw (ne_eqb (suc j) 0 (λ q. omega arith), z) at e

-- ---- what is answered

abbrev pub Answers : Walking → (budget lent : ℕ) → WalkAnswer → List ℕ → Type 0
Answers w budget lent r v = (r ≡ walk_answer w) × ((v ≡ lent_bytes w lent) × (r.steps ≤ budget))

pub refused_so : (w : Walking) (c : Cause) (place budget lent : ℕ) (v : List ℕ) (r : WalkAnswer) → w ≡ stopped c place → r ≡ record { number = cause_number c; place = place; steps = 0; index = 0; ending = 0 } → v ≡ replicate lent 0 → Answers w budget lent r v
refused_so w c place budget lent v r e er ev = (er ∙ sym (ap walk_answer e), (ev ∙ sym (ap (λ (x : Walking). lent_bytes x lent) e), rw er (omega arith)))

pub walked_so : (w : Walking) (p : Path) (budget lent : ℕ) (v : List ℕ) (t : Walked) (r : WalkAnswer) → w ≡ walked p → Told p budget t → r ≡ record { number = 0; place = 0; steps = t.steps; index = t.stood; ending = ending_number t.ended } → v ≡ visits p lent → Answers w budget lent r v
walked_so w p budget lent v t r e told er ev = (er ∙ rw (told.steps, told.stood, told.ended) refl ∙ sym (ap walk_answer e), (ev ∙ sym (ap (λ (x : Walking). lent_bytes x lent) e), rw er told.within))

pub answered_so : (w w' : Walking) (budget lent lent' : ℕ) (r : WalkAnswer) (v : List ℕ) → w ≡ w' → lent ≡ lent' → Answers w budget lent r v → Answers w' budget lent' r v
answered_so w w' budget lent lent' r v e el a = (a.0 ∙ ap walk_answer e, (a.1.0 ∙ ap₂ lent_bytes e el, a.1.1))

-- ---- the stages

module _ (im : Image) (q : ℕ) (a : Asked) where
  -- the first decision above 1, the first strike that does not rise
  abbrev over : ℕ
  over = lowest (fair a.decisions) (length a.decisions)

  abbrev fallen : ℕ
  fallen = lowest (rises a.strikes) (length a.strikes)

  pub unknown : length im.prototypes ≤ q → walk_in im q a ≡ stopped Prototype 0
  unfolding walk_in
  unknown h = rw (le-ltb q (length im.prototypes) h) refl

  module _ (h : q < length im.prototypes) where
    pub unfair : over < length a.decisions → walk_in im q a ≡ stopped Decision over
    unfolding walk_in
    unfair k = rw (lt-ltb q (length im.prototypes) h, lt-ltb over (length a.decisions) k) refl

    module _ (k : length a.decisions ≤ over) where
      pub falls : fallen < length a.strikes → walk_in im q a ≡ stopped Order fallen
      unfolding walk_in
      falls l = rw (lt-ltb q (length im.prototypes) h, le-ltb over (length a.decisions) k, lt-ltb fallen (length a.strikes) l) refl

      module _ (l : length a.strikes ≤ fallen) (code : List Instruction) (ec : code_of im.prototypes q ≡ code) where
        on : walk_in im q a ≡ with_room code a
        unfolding walk_in
        on = rw (lt-ltb q (length im.prototypes) h, le-ltb over (length a.decisions) k, le-ltb fallen (length a.strikes) l, ec) refl

        pub no_room : a.lent < length code → walk_in im q a ≡ stopped Visits 0
        no_room r = on ∙ rw (lt-ltb a.lent (length code) r) refl

        pub goes_on : length code ≤ a.lent → walk_in im q a ≡ walked (path a.budget code a.strikes (start a.decisions))
        goes_on r = on ∙ rw (le-ltb a.lent (length code) r) refl

-- ---- the prototype

code_of_is : (ps : List Proto) (q : ℕ) (x : Proto) → Holds (λ p. p ≡ x) ps q → code_of ps q ≡ x.code
code_of_is [] q x h = absurd h
code_of_is (p ∷ ps) zero x h = ap (λ (y : Proto). y.code) h
code_of_is (p ∷ ps) (suc q) x h = code_of_is ps q x h

record Split (P : Proto → Type 0) (ps : List Proto) : Type 0 where
  before : List Proto
  one : Proto
  after : List Proto
  is : ps ≡ before ++ one ∷ after
  holds : P one

split_at : (P : Proto → Type 0) (ps : List Proto) (q : ℕ) → Holds P ps q → Split P ps
split_at P [] q h = absurd h
split_at P (p ∷ ps) zero h = record { before = []; one = p; after = ps; is = refl; holds = h }
split_at P (p ∷ ps) (suc q) h = let s = split_at P ps q h in record { before = p ∷ s.before; one = s.one; after = s.after; is = ap (λ (l : List Proto). p ∷ l) s.is; holds = s.holds }

module _ (im : Image) (tag q : ℕ) (r : List ℕ) (l : Located im tag q r) where
  pub is_known : whole r ≡ true → get_or r 0 0 ≡ 0x41 → q < length im.prototypes
  is_known w h = ⊎_elim (λ (k : q < length im.prototypes). k) (λ (k : length im.prototypes ≤ q). absurd ((l.beyond k).no_header w h)) (lt_or_le q (length im.prototypes))

  pub is_unknown : (whole r ≡ true → get_or r 0 0 ≡ 0x41 → ⊥) → length im.prototypes ≤ q
  is_unknown n = ⊎_elim (λ (k : q < length im.prototypes). absurd (let t = l.there k in n t.whole_one t.header)) (λ (k : length im.prototypes ≤ q). k) (lt_or_le q (length im.prototypes))

  -- its instructions, as they lie in the part
  abbrev pub lying : List Instruction
  lying = code_in r tag (3 + inst_size tag) (13 + word_at r 9 * 5) (word_at r 11)

  lying_is : (proto_in r tag).code ≡ lying
  unfolding proto_in
  lying_is = refl

  pub lying_many : length lying ≡ word_at r 11
  lying_many = code_length r tag (3 + inst_size tag) (13 + word_at r 9 * 5) (word_at r 11)

  module _ (h : q < length im.prototypes) where
    pub code_there : code_of im.prototypes q ≡ lying
    code_there = code_of_is im.prototypes q (proto_in r tag) (l.there h).is ∙ lying_is

    -- a walk may be made over them where all facts hold: every step of a lawful instruction stays inside
    pub walkable : broken im ≡ none → word_at r 11 < 65536 → Walkable r tag (3 + inst_size tag) (13 + word_at r 9 * 5) (word_at r 11)
    walkable good few =
        let s = split_at (λ p. p ≡ proto_in r tag) im.prototypes q (l.there h).is in
        let c : s.one.code ≡ lying = ap (λ (p : Proto). p.code) s.holds ∙ lying_is in
        let n : length s.one.code ≡ word_at r 11 = ap length c ∙ lying_many in
        record {
          some = (l.there h).some;
          few = few;
          wide = (omega (arith, (inst_size_small tag).0), omega (arith, (inst_size_small tag).1));
          room = (l.there h).room;
          stays = λ i k. subst (λ (m : ℕ). all (inside m) (leads i (inst_at lying i)) ≡ true) n
              (subst (λ (xs : List Instruction). all (inside (length s.one.code)) (leads i (inst_at xs i)) ≡ true) c
              (lawful_stays im.constants s.before s.one i (each im good s.before s.one s.after s.is i (omega arith))));
        }

-- ---- the reader's outcome

module _ (tag : ℕ) (s : List ℕ) (q : ℕ) (a : Asked) where
  -- an accepted image: all facts hold, and the walk is that of its value
  pub read_taken : (m : ℕ) → outcome_of tag s ≡ Ok m → (broken (image_of tag (fields s)) ≡ none) × (walk_in (image_of tag (fields s)) q a ≡ walk_read (read_as tag s) q a)
  read_taken m e =
      let t = accepted_taken tag s m e in
      let k = taken_is tag s t.0 t.1 in (
        ap broken (sym k.image) ∙ k.facts,
        ap (λ (i : Image). walk_in i q a) (sym k.image) ∙ sym (ap (λ (x : Read). walk_read x q a) t.1),
      )
