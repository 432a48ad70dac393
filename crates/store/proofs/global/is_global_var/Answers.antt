-- One of the names is it, or none is (Pools.antt): those that the range still has, from its end, are a stack (latest).
use Rattle.std.proofs.Common.{◌≡◌, ◌≢◌, rules}
use borrow.Author.Tests.{tests}
use Rattle.std.proofs.lemmas.Iterator.{cases_from_any}
use Rattle.store.specs.Layout.{global_at}
use Rattle.store.proofs.Pools.{among_by, latest, global_told}
use Rattle.store.proofs.global.is_global_var.Goals as goal

pub returns : goal.returns
returns c = let a = c.args in
    let w = a.work.now in
    let by_call = cases_from_any _ _ _ (λ x. x ≡ a.name) (λ x. x ≢ a.name) c.any.ensures.ran (latest (global_at w) a.step.globals c.rev.ensures.source) (λ x q k. search (rules, tests)) (λ x q k. search (rules, tests)) in
    let e = among_by a.name _ _ by_call in
    (e, global_told w a.scope a.step a.name _ e)
