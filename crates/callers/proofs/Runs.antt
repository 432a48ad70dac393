-- Every recorded run that is walked: the image is taken, the path is that of its prototype, and at every instruction that it visits the facts of demand 3 hold.
-- The idea: `visited_reached` with what a taken image gives, and the answer taken apart by the order of its refusals.
use Prim.Native.Nat.{ℕ, zero, suc, ◌+◌, ◌<◌, ◌≤◌}
use mathlib.Core.Path.{◌≡◌, refl, sym, ap, ◌∙◌, subst}
use mathlib.Core.Bool.{Bool, true, false, cond}
use mathlib.Core.Option.{Option, none, some}
use mathlib.Core.List.{List, [], ◌∷◌, ◌++◌}
use native.Mathlib.Omega.{arith}
use lib.ListN.{length, get_or}
use lib.Dec.{leb, ltb}
use borrow.Author.Tests.{ltb-true, ltb-false, leb-true}
use Rattle.meaning.specs.Base.{lowest}
use Rattle.meaning.specs.Fields.{fields}
use Rattle.meaning.specs.State.{Proto}
use Rattle.meaning.specs.Images.{Image}
use Rattle.meaning.specs.Steps.{inst_at, opcode_at, StepOf01, handler, Amended, ordinary, struck, Walk}
use Rattle.meaning.specs.Safety.{All, Inside, Stands}
use Rattle.meaning.specs.Reader.{Read, refused, taken, broken, read_as, image_tag, read_image}
use Rattle.meaning.specs.Paths.{start, Path, path, visited}
use Rattle.meaning.specs.Walker.{Walking, stopped, walked, code_of, fair, rises, Asked, asked, with_room, with_strikes, with_decisions, walk_in, walk_read, walk_image}
use Rattle.meaning.specs.declared.Cause.{Cause}
use Rattle.meaning.specs.declared.Cause.TheVariants.{Prototype, Decision, Order, Visits}
use Rattle.meaning.specs.declared.Instruction.{Instruction}
use Rattle.meaning.proofs.Lists.{lowest_all}
use Rattle.meaning.proofs.Safe.Walk.{step_from}
use Rattle.meaning.proofs.Images.{taken_stands}
use Rattle.meaning.proofs.Images.Fielded.{Bytes}
use Rattle.meaning.proofs.Images.Assembled.{HeaderFits}
use Rattle.meaning.proofs.Images.Back.{taken_is}
use Rattle.meaning.proofs.Images.Written.{taken_good}
use Rattle.meaning.proofs.Images.Lawful.{steps_inside, lawful_stays}
use Rattle.meaning.proofs.Images.Walks.{all_at, each}
use Rattle.meaning.proofs.WalkSteps.{visited_reached}
use Rattle.callers.proofs.Either.{tagged_in}

-- ---- prototype q, and those before it

pub record At (ps : List Proto) (q : ℕ) : Type 0 where
  pub before : List Proto
  pub own : Proto
  pub after : List Proto
  pub whole : ps ≡ before ++ own ∷ after
  pub place : length before ≡ q
  pub code : code_of ps q ≡ own.code

at : (ps : List Proto) (q : ℕ) → q < length ps → At ps q
at [] q l = absurd (omega arith)
at (p ∷ ps) zero l = record { before = []; own = p; after = ps; whole = refl; place = refl; code = refl }
at (p ∷ ps) (suc q) l =
    let a = at ps q (omega arith) in
    record { before = p ∷ a.before; own = a.own; after = a.after; whole = ap (λ (l : List Proto). p ∷ l) a.whole; place = ap suc a.place; code = a.code }

-- ---- no amended step leads out of a taken image's prototype

module _ (im : Image) (good : broken im ≡ none) (before : List Proto) (p : Proto) (after : List Proto) (e : im.prototypes ≡ before ++ p ∷ after) where
  stays_01 : (i : ℕ) (o : Option ℕ) → StepOf01 p.code i o → Inside (length p.code) o
  stays_01 i o s = steps_inside p.code i (lawful_stays im.constants before p i (each im good before p after e i (step_from p.code i o s))) o s

  pub taken_stays : (i : ℕ) (o : Option ℕ) → Amended p.code i o → Inside (length p.code) o
  taken_stays i o (ordinary s) = stays_01 i o s
  taken_stays i _ (struck k l r h t) = stays_01 k _ (handler h t)

-- ---- decisions that pass 23 are 0 and 1

fair_all : (ds : List ℕ) → ((j : ℕ) → j < length ds → leb (get_or ds j 0) 1 ≡ true) → All (λ d. d ≤ 1) ds
fair_all [] h = tt
fair_all (d ∷ ds) h = (leb-true d 1 (h 0 (omega arith)), fair_all ds (λ j l. h (suc j) (omega arith)))

-- ---- the answer, taken apart

pub record Ran (s : List ℕ) (q : ℕ) (ds ss : List ℕ) (budget : ℕ) (r : Path) : Type 0 where
  pub image : Image
  pub takes : read_image s ≡ taken image
  pub there : At image.prototypes q
  pub is : r ≡ path budget there.own.code ss (start ds)
  pub stands : (j : ℕ) → visited r j ≡ true → Stands image.constants there.before there.own (Amended there.own.code) (some j)

stopped_not : {c : Cause} {place : ℕ} {r : Path} → stopped c place ≡ walked r → ⊥
stopped_not e = let z : ◌≡◌ {A = ℕ} 0 1 = cc in omega arith

module _ (s : List ℕ) (b : Bytes s) (q : ℕ) (ds ss : List ℕ) (budget lent : ℕ) (r : Path) where
  abbrev R : Type 0
  R = Ran s q ds ss budget r

  module _ (im : Image) (e : read_image s ≡ taken im) (l : q < length im.prototypes) where
    abbrev A : At im.prototypes q
    A = at im.prototypes q l

    met : All (λ d. d ≤ 1) ds → r ≡ path budget A.own.code ss (start ds) → R
    met f is =
        let g = taken_good (image_tag s) (tagged_in (fields s)) s im b e in
        let some-code = (all_at (HeaderFits (image_tag s)) A.before A.own A.after (subst (All (HeaderFits (image_tag s))) A.whole g.numbers)).some in
        record {
          image = im;
          takes = e;
          there = A;
          is = is;
          stands = λ j v. taken_stands (image_tag s) (tagged_in (fields s)) s b im e A.before A.own A.after A.whole (some j)
              (visited_reached A.own.code (taken_stays im (taken_is (image_tag s) s im e).facts A.before A.own A.after A.whole) ss budget ds some-code f j (subst (λ (p : Path). visited p j ≡ true) is v));
        }

    code : List Instruction
    code = code_of im.prototypes q

    in_room : All (λ d. d ≤ 1) ds → (x : Bool) → cond x (stopped Visits 0) (walked (path budget (code_of im.prototypes q) ss (start ds))) ≡ walked r → R
    in_room f true w = absurd (stopped_not w)
    in_room f false w = met f (let z : r ≡ path budget (code_of im.prototypes q) ss (start ds) = cc in z ∙ ap (λ (c : List Instruction). path budget c ss (start ds)) A.code)

    in_strikes : All (λ d. d ≤ 1) ds → (x : Bool) (fallen : ℕ) → cond x (stopped Order fallen) (with_room (code_of im.prototypes q) (asked ds ss budget lent)) ≡ walked r → R
    in_strikes f true fallen w = absurd (stopped_not w)
    in_strikes f false fallen w = in_room f (ltb lent (length (code_of im.prototypes q))) w

    in_decisions : (x : Bool) → ltb (lowest (fair ds) (length ds)) (length ds) ≡ x
        → cond x (stopped Decision (lowest (fair ds) (length ds))) (with_strikes (lowest (rises ss) (length ss)) (code_of im.prototypes q) (asked ds ss budget lent)) ≡ walked r → R
    in_decisions true k w = absurd (stopped_not w)
    in_decisions false k w =
        in_strikes (fair_all ds (lowest_all (fair ds) (length ds) (ltb-false (lowest (fair ds) (length ds)) (length ds) k)))
        (ltb (lowest (rises ss) (length ss)) (length ss)) (lowest (rises ss) (length ss)) w

  in_image : (im : Image) → read_image s ≡ taken im → (x : Bool) → ltb q (length im.prototypes) ≡ x
      → cond x (with_decisions (lowest (fair ds) (length ds)) (code_of im.prototypes q) (asked ds ss budget lent)) (stopped Prototype 0) ≡ walked r → R
  in_image im e true k w = in_decisions im e (ltb-true q (length im.prototypes) k) (ltb (lowest (fair ds) (length ds)) (length ds)) refl w
  in_image im e false k w = absurd (stopped_not w)

  in_read : (x : Read) → read_image s ≡ x → walk_read x q (asked ds ss budget lent) ≡ walked r → R
  unfolding walk_in
  in_read (refused c place) e w = absurd (stopped_not w)
  in_read (taken im) e w = in_image im e (ltb q (length im.prototypes)) refl w

  -- theorem: what a recorded run met was there
  pub walked_stands : walk_image (image_tag s) s q ds ss budget lent ≡ walked r → R
  walked_stands w = in_read (read_image s) refl w
