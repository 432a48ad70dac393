-- A builtin by its name, then a global, then refusal 9.
use native.Mathlib.Omega.{arith}
use mathlib.Core.Path.{sym, ◌∙◌}
use Rattle.meaning.specs.declared.Cause.TheVariants.{Undefined}
use Rattle.forward.proofs.Chains.{outside_chain}
use Rattle.store.specs.Promise.{nothing}
use Rattle.store.proofs.Compose.{refused_leaf}
use Rattle.routines.proofs.NodeLine.{one, small_refused, gives}
use Rattle.routines.proofs.variable_expr.visit_outside.Goals as goal

pub returns-then-is_builtin_var : goal.returns-then-is_builtin_var
returns-then-is_builtin_var c = let named = c.named in
    let if1 = c.if-is_builtin_var in
    let is_builtin_var = c.is_builtin_var in
    let d = named.ensures in
    gives nothing (one d.leaf) (omega arith) (omega arith) (omega arith) (λ z. omega arith) (omega arith) (λ ps. (outside_chain _ _ _).0 (sym is_builtin_var.ensures ∙ if1.true) _ (d.leaf.runs ps)) d.small

pub returns-then-is_global_var : goal.returns-then-is_global_var
returns-then-is_global_var c = let named2 = c.named-then-is_global_var in
    let if1 = c.if-is_builtin_var in
    let is_builtin_var = c.is_builtin_var in
    let is_global_var = c.is_global_var in
    let if2 = c.if-is_global_var in
    let d = named2.ensures in
    gives nothing (one d.leaf) (omega arith) (omega arith) (omega arith) (λ z. omega arith) (omega arith)
    (λ ps. ((outside_chain _ _ _).1 (sym is_builtin_var.ensures ∙ if1.false) _ _ (is_global_var.ensures.1 ps)).0 if2.true _ (d.leaf.runs ps)) d.small

pub returns : goal.returns
returns c = let refuse = c.refuse in
    let if1 = c.if-is_builtin_var in
    let is_builtin_var = c.is_builtin_var in
    let is_global_var = c.is_global_var in
    let if2 = c.if-is_global_var in
    let a = c.args in
    let d = refused_leaf a.step Undefined a.node nothing c.requires.0 in
    rw refuse.ensures (gives nothing (one d) (omega arith) (omega arith) (omega arith) (λ z. omega arith) (omega arith)
    (λ ps. ((outside_chain _ _ _).1 (sym is_builtin_var.ensures ∙ if1.false) _ _ (is_global_var.ensures.1 ps)).1 if2.false _ (d.runs ps)) (small_refused a.step Undefined a.node))
