-- The invariant is `Walking`: the path from here on, behind the places that were left, is the whole path. The measure is what is left of the budget.
use mathlib.Core.Path.{◌≡◌, refl, sym, ap, ◌∙◌, subst}
use mathlib.Core.Bool.{Bool, true, false, not, ◌&&◌, cond}
use mathlib.Core.List.{List}
use Prim.Native.Nat.{ℕ, ◌+◌, ◌-◌, ◌≤◌}
use native.Mathlib.Omega.{arith}
use lib.ListN.{length, get_or, set, length-set, replicate}
use lib.Dec.{eqb, ltb}
use Rattle.std.specs.Int.{from_bool}
use Rattle.std.specs.declared.option.Option.{Option}
use Rattle.std.specs.declared.option.Option.TheVariants.{Some, None}
use Rattle.std.specs.Option.{is_some, unwrap_or}
use Rattle.meaning.proofs.Lists.{false_true}
use Rattle.meaning.specs.Paths.{path, visits}
use Rattle.walk.specs.Turn.{goes_on, ends_as, onward}
use Rattle.walk.proofs.Walking.{Walking, walking_start, walking_more, on_none, on_some, far, inside_again, told, seen}
use Rattle.walk.proofs.route.walk_code.Goals as goal
use Rattle.walk.proofs.route.walk_code.Goals.{After-from, After-goal-j, In-Some, In_default}

-- there are enough lent bytes when the first is set
room_for : (v : List ℕ) (n : ℕ) → n ≤ length v → n ≤ length (set v 0 1)
room_for v n p = omega (arith, length-set v 0 1)

counted : (b : Bool) (n : ℕ) → n + from_bool b ≡ cond b (n + 1) n
counted true n = refl
counted false n = omega arith

-- a turn: the walk goes on
on : (c : goal.In_default) → let l = c.loop-ended in goes_on c.opcode-o.result c.is_struck-struck.result (ltb l.k (length c.args.run.now.decisions.now)) (ltb l.steps c.args.run.now.budget) l.handlers.count ≡ true
on c = let l = c.loop-ended in on_none c.opcode-o.result c.is_struck-struck.result (ltb l.k (length c.args.run.now.decisions.now)) (ltb l.steps c.args.run.now.budget) l.handlers.count (sym c.ending.ensures ∙ c.in_default.is)

-- the walk ends
ends : (c : goal.In-Some) → let l = c.loop-ended in
    let decided = ltb l.k (length c.args.run.now.decisions.now) in
    let within = ltb l.steps c.args.run.now.budget in (goes_on c.opcode-o.result c.is_struck-struck.result decided within l.handlers.count ≡ false) × (c.in-Some.ended ≡ ends_as c.opcode-o.result c.is_struck-struck.result decided within)
ends c = let l = c.loop-ended in on_some c.opcode-o.result c.is_struck-struck.result (ltb l.k (length c.args.run.now.decisions.now)) (ltb l.steps c.args.run.now.budget) l.handlers.count c.in-Some.ended (sym c.ending.ensures ∙ c.in-Some.is)

asks : (b : Bool) (x : ℕ) → is_some (let o : Option ℕ = cond b (Some x) None in o) ≡ b
asks true x = refl
asks false x = refl

taken : (b : Bool) (x : ℕ) → b ≡ true → unwrap_or (let o : Option ℕ = cond b (Some x) None in o) 0 ≡ x
taken true x e = refl
taken false x e = absurd (false_true e)

-- the decision, where one is asked for
decided : (d : goal.After-from) → (not d.is_struck-struck.result && eqb d.opcode-o.result 4) ≡ true → d.from.result ≡ get_or d.args.run.now.decisions.now d.loop-ended.k 0
decided d e = d.from.ensures ∙ d.unwrap_or.ensures ∙ ap (λ (o : Option ℕ). unwrap_or o 0) d.decision-decided.ensures ∙ taken _ _ e

-- where it goes on to
leads : (g : goal.After-goal-j) → let l = g.loop-ended in
    g.goal-j.result ≡ cond g.is_struck-struck.result (get_or l.handlers.places (l.handlers.count - 1) 0) (onward g.opcode-o.result g.operand-w.result l.i g.from.result)
leads g = let l = g.loop-ended in g.goal-j.ensures ∙ ap (λ (y : ℕ). cond g.is_struck-struck.result (get_or l.handlers.places (l.handlers.count - 1) 0) y) g.onward-next.ensures

pub loop-ended-init : goal.loop-ended-init
loop-ended-init c = let v = c.args.visited.now in
    let a = c.args.code.now in
    let r = c.args.run.now in
    subst (λ (h : ℕ). Walking a.part.now a.tag a.span a.at a.count r.decisions.now r.strikes.now r.budget (length (set v 0 1)) (set v 0 1) c.new-handlers.result.places h 0 0 0 0) (sym c.new-handlers.ensures.0)
    (walking_start _ _ _ _ _ a.walkable _ _ r.rising _ _ v _ (room_for v a.count c.requires.0) (sym (length-set v 0 1)) (c.requires.1 ∙ ap (λ (m : ℕ). replicate m 0) (sym (length-set v 0 1))) c.new-handlers.ensures.1)

pub onward-next-requires : goal.onward-next-requires
onward-next-requires c = (
  c.operand-w.ensures.1,
  omega (arith, c.loop-ended.invariant.here, c.args.code.now.walkable.few),
  omega (arith, c.from.ensures, c.unwrap_or.type_inv),
  far _ _ _ _ _ c.args.code.now.walkable _ _ c.args.run.now.rising _ _ _ _ _ _ _ _ _ c.loop-ended.invariant _ c.opcode-o.ensures _ c.is_struck-struck.ensures
      (on (goal.at.onward-next-requires c).In_default) c.args.run.now.fair _ c.operand-w.ensures.0 _ (decided (goal.at.onward-next-requires c).After-from),
)

pub bounds-visited-j : goal.bounds-visited-j
bounds-visited-j c = let p = goal.at.bounds-visited-j c in
    omega (
      arith,
      leads p.After-goal-j,
      inside_again _ _ _ _ _ c.args.code.now.walkable _ _ c.args.run.now.rising _ _ _ _ _ _ _ _ _ c.loop-ended.invariant _ c.opcode-o.ensures _ c.is_struck-struck.ensures
          (on p.In_default) c.args.run.now.fair _ c.operand-w.ensures.0 _ (decided p.After-from),
      c.loop-ended.invariant.size,
      room_for c.args.visited.now c.args.code.now.count c.requires.0,
    )

pub loop-ended-preserved : goal.loop-ended-preserved
loop-ended-preserved c = let p = goal.at.loop-ended-preserved c in
    let l = c.loop-ended in
    walking_more _ _ _ _ _ c.args.code.now.walkable _ _ c.args.run.now.rising _ _ _ _ _ _ _ _ _ l.invariant _ c.opcode-o.ensures _ c.is_struck-struck.ensures
    (on p.In_default) c.args.run.now.fair _ c.operand-w.ensures.0 _ (decided p.After-from)
    _ c.step.ensures.0 _ c.step.ensures.1 _ (ap (λ (n : ℕ). l.k + n) c.from-k.ensures ∙ ap (λ (b : Bool). l.k + from_bool b) (c.is_some.ensures ∙ ap (λ (o : Option ℕ). is_some o) c.decision-decided.ensures ∙ asks _ _) ∙ counted _ l.k)
    _ (ap (λ (n : ℕ). l.m + n) c.from-m.ensures ∙ counted c.is_struck-struck.result l.m) _ (leads p.After-goal-j) (room_for c.args.visited.now c.args.code.now.count c.requires.0)

pub returns-in-Some-clause-told : goal.returns-in-Some-clause-told
returns-in-Some-clause-told c = let e = ends (goal.at.returns-in-Some-clause-told c).In-Some in
    told _ _ _ _ _ c.args.code.now.walkable _ _ c.args.run.now.rising _ _ _ _ _ _ _ _ _ c.loop-ended.invariant _ c.opcode-o.ensures _ c.is_struck-struck.ensures e.0 _ refl refl e.1

pub returns-in-Some-clause-visited : goal.returns-in-Some-clause-visited
returns-in-Some-clause-visited c = let e = ends (goal.at.returns-in-Some-clause-visited c).In-Some in
    seen _ _ _ _ _ c.args.code.now.walkable _ _ c.args.run.now.rising _ _ _ _ _ _ _ _ _ c.loop-ended.invariant _ c.opcode-o.ensures _ c.is_struck-struck.ensures e.0 ∙ ap (visits (path _ _ _ _)) (length-set c.args.visited.now 0 1)
