-- Each stage's answer is that of the definition (Arrived).
use mathlib.Core.Path.{◌≡◌, refl, sym, ap, ◌∙◌}
use mathlib.Core.List.{List}
use Prim.Native.Nat.{ℕ, ◌+◌, ◌*◌, ◌<◌, ◌≤◌}
use native.Mathlib.Omega.{arith}
use lib.ListN.{length}
use Rattle.meaning.specs.Base.{lowest}
use Rattle.meaning.specs.Fields.{fields}
use Rattle.meaning.specs.Images.{Image, image_of}
use Rattle.meaning.specs.Walker.{Walking, stopped, fair, rises, Asked, asked, walk_in}
use Rattle.meaning.specs.declared.Cause.TheVariants.{Decision, Order}
use Rattle.reader.specs.Laid.{code_in}
use Rattle.reader.proofs.Marking.{code_length}
use Rattle.walk.specs.Code.{Walkable}
use Rattle.walk.proofs.Firsts.{some_over, none_over, some_fallen, none_fallen}
use Rattle.walk.proofs.Arrived.{all_fair, all_rise, refused_so, walked_so, unknown, unfair, falls, no_room, goes_on, is_known, is_unknown, lying_many, code_there, walkable}
use Rattle.walk.proofs.walk_taken.Goals as goal
use Rattle.walk.proofs.walk_taken.Goals.{Else-not-heads, In_default, In_default-first_fallen, Start}

-- the image's value, what is asked, and the definition's answer
abbrev IM : goal.Start → Image
IM s = image_of s.args.tag (fields s.args.image.now)

abbrev A : goal.Start → Asked
A s = asked s.args.decisions.now s.args.strikes.now s.args.budget (length s.args.visited.now)

abbrev W : goal.Start → Walking
W s = walk_in (IM s) s.args.q (A s)

-- a header stands at the front: the prototype is known
known : (e : goal.Else-not-heads) → e.args.q < length (image_of e.args.tag (fields e.args.image.now)).prototypes
known e = let h = e.heads.ensures.0 e.if-not-heads.false in is_known _ _ _ _ e.prototype-part.ensures.0 h.0 h.1

-- the decisions are fair, the strikes rise
fair_all : (d : goal.In_default) → let ds = d.args.decisions.now in length ds ≤ lowest (fair ds) (length ds)
fair_all d = none_over d.args.decisions.now (sym d.first_over.ensures ∙ d.in_default.is)

rise_all : (f : goal.In_default-first_fallen) → let ss = f.args.strikes.now in length ss ≤ lowest (rises ss) (length ss)
rise_all f = none_fallen f.args.strikes.now (sym f.first_fallen.ensures ∙ f.in_default-first_fallen.is)

pub returns-then-not-heads : goal.returns-then-not-heads
returns-then-not-heads c = let p = goal.at.returns-then-not-heads c in
    let s = p.Start in
    let a = refused_so (W s) _ 0 c.args.budget (A s).lent _ _
    (unknown (IM s) c.args.q (A s) (is_unknown (IM s) _ _ _ c.prototype-part.ensures.0 (c.heads.ensures.1 c.if-not-heads.true)))
    c.refusal.ensures c.requires.2 in
    record { answer = a.0; visited = a.1.0; within = a.1.1 }

pub returns-in-Some : goal.returns-in-Some
returns-in-Some c = let p = goal.at.returns-in-Some c in
    let s = p.Start in
    let over = some_over c.args.decisions.now _ (sym c.first_over.ensures ∙ c.in-Some.is) in
    let a = refused_so (W s) _ _ c.args.budget (A s).lent _ _
    (unfair (IM s) c.args.q (A s) (known p.Else-not-heads) (omega (arith, over.0, over.1)) ∙ ap (λ (n : ℕ). stopped Decision n) over.0)
    c.refusal-in-Some.ensures c.requires.2 in
    record { answer = a.0; visited = a.1.0; within = a.1.1 }

pub returns-in-Some-first_fallen : goal.returns-in-Some-first_fallen
returns-in-Some-first_fallen c = let p = goal.at.returns-in-Some-first_fallen c in
    let s = p.Start in
    let fallen = some_fallen c.args.strikes.now _ (sym c.first_fallen.ensures ∙ c.in-Some-first_fallen.is) in
    let a = refused_so (W s) _ _ c.args.budget (A s).lent _ _
    (falls (IM s) c.args.q (A s) (known p.Else-not-heads) (fair_all p.In_default) (omega (arith, fallen.0, fallen.1)) ∙ ap (λ (n : ℕ). stopped Order n) fallen.0)
    c.refusal-in-Some-first_fallen.ensures c.requires.2 in
    record { answer = a.0; visited = a.1.0; within = a.1.1 }

pub returns-then-visited-count : goal.returns-then-visited-count
returns-then-visited-count c = let p = goal.at.returns-then-visited-count c in
    let s = p.Start in
    let k = known p.Else-not-heads in
    let a = refused_so (W s) _ 0 c.args.budget (A s).lent _ _
    (no_room (IM s) c.args.q (A s) k (fair_all p.In_default) (rise_all p.In_default-first_fallen) _ (code_there (IM s) _ _ _ c.prototype-part.ensures.0 k)
    (omega (arith, c.if-visited-count.true, c.word-count.ensures.0, lying_many (IM s) c.args.tag c.args.q c.prototype-part.result.now c.prototype-part.ensures.0)))
    c.refusal-then-visited-count.ensures c.requires.2 in
    record { answer = a.0; visited = a.1.0; within = a.1.1 }

-- what the walk is called with
same_code : (r : List ℕ) (tag a b n a' b' n' : ℕ) → a ≡ a' → b ≡ b' → n ≡ n' → code_in r tag (3 + a) (13 + b * 5) n ≡ code_in r tag (3 + a') (13 + b' * 5) n'
same_code r tag a b n a' b' n' p q w = rw (p, q, w) refl

same_walk : (r : List ℕ) (tag a b n a' b' n' : ℕ) → a ≡ a' → b ≡ b' → n ≡ n' → Walkable r tag (3 + a) (13 + b * 5) n → Walkable r tag (3 + a') (13 + b' * 5) n'
same_walk r tag a b n a' b' n' p q w h = rw (sym p, sym q, sym w) h

pub returns : goal.returns
returns c = let p = goal.at.returns c in
    let s = p.Start in
    let k = known p.Else-not-heads in
    let r = c.prototype-part.result.now in
    let a = walked_so (W s) _ c.args.budget (A s).lent _ _ _
    (goes_on (IM s) c.args.q (A s) k (fair_all p.In_default) (rise_all p.In_default-first_fallen) (code_in r c.args.tag (3 + c.inst_size.result) (13 + c.word.result * 5) c.word-count.result)
    (code_there (IM s) _ _ _ c.prototype-part.ensures.0 k ∙ same_code r c.args.tag _ _ _ _ _ _ (sym c.inst_size.ensures) (sym c.word.ensures.0) (sym c.word-count.ensures.0))
    (omega (arith, c.if-visited-count.false, code_length r c.args.tag (3 + c.inst_size.result) (13 + c.word.result * 5) c.word-count.result)))
    c.walk_code.ensures.told c.arrival.ensures c.walk_code.ensures.visited in
    record { answer = a.0; visited = a.1.0; within = a.1.1 }

pub walk_code-requires : goal.walk_code-requires
walk_code-requires c = (omega (arith, c.if-visited-count.false), c.requires.2)

pub invariant_of-code : goal.invariant_of-code
invariant_of-code c = let p = goal.at.invariant_of-code c in
    record {
      walkable = same_walk _ _ _ _ _ _ _ _ (sym c.inst_size.ensures) (sym c.word.ensures.0) (sym c.word-count.ensures.0)
          (walkable (IM p.Start) _ _ _ c.prototype-part.ensures.0 (known p.Else-not-heads) c.requires.1 (omega (arith, c.word-count.ensures.0, c.word-count.ensures.1)));
    }

pub invariant_of-run : goal.invariant_of-run
invariant_of-run c = let p = goal.at.invariant_of-run c in
    record { fair = all_fair c.args.decisions.now (fair_all p.In_default); rising = all_rise c.args.strikes.now (rise_all p.In_default-first_fallen) }
