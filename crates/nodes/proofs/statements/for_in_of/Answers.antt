-- `nodes::statements::for_in_of` meets its contract, word by word.
use mathlib.Core.Path.{refl, ◌∙◌}
use native.Mathlib.Omega.{arith}
use lib.Dec.{lit<, lit≤}
use Prim.Native.Nat.{◌≤◌}
use Rattle.meaning.specs.Fields.{fields}
use Rattle.meaning.specs.Grammar.{wide_marks}
use mathlib.Core.Path.{◌≡◌, ap}
use mathlib.Core.Bool.{not, cond}
use mathlib.Core.List.{List}
use Prim.Native.Nat.{ℕ, ◌-◌, ◌/◌}
use lib.ListN.{length}
use lib.Dec.{eqb}
use Rattle.meaning.specs.Fields.{words}
use Rattle.meaning.specs.At.{count_of}
use Rattle.nodes.proofs.Headers.{few_words}
use Rattle.nodes.proofs.Held.{Held, few_wide, for_in_held}
use Rattle.nodes.proofs.statements.for_in_of.Goals as goal
use Rattle.nodes.proofs.statements.for_in_of.Goals.{After-of-words}

holds : (c : goal.After-of-words) → Held (fields c.args.tree.now) c.args.node c.of-words.result.payload.now c.of-words.result.wide 0 3 × (cond (not (eqb c.of-words.result.wide 0)) ((length (words c.of-words.result.payload.now) - 4) / 3) ((length (words c.of-words.result.payload.now) - 3) / 2) ≡ (count_of (fields c.args.tree.now) c.args.node - 3) / 2) × ((count_of (fields c.args.tree.now) c.args.node - 3) / 2 ≤ length (words c.of-words.result.payload.now))
holds c = for_in_held c.requires.0 c.of-words.ensures.0 (c.of-words.ensures.1 ∙ c.requires.1) c.requires.2

narrow : (c : goal.After-of-words) → c.of-words.result.wide ≤ 1
narrow c = few_wide (wide_marks (fields c.args.tree.now)) (c.of-words.ensures.1 ∙ c.requires.1)

pub of-words-requires : goal.of-words-requires
of-words-requires c = (c.requires.0.readable, few_wide (wide_marks (fields c.args.tree.now)) c.requires.1)

pub mark-requires : goal.mark-requires
mark-requires c = omega (arith, (holds (goal.at.mark-requires c).After-of-words).0.many)

pub behind-requires : goal.behind-requires
behind-requires c = omega (arith, (holds (goal.at.behind-requires c).After-of-words).0.many)

pub behind-requires-2 : goal.behind-requires-2
behind-requires-2 c = omega (arith, (holds (goal.at.behind-requires-2 c).After-of-words).0.many)

pub names_in-requires : goal.names_in-requires
names_in-requires c = rw c.count.ensures ((holds (goal.at.names_in-requires c).After-of-words).0.many, narrow (goal.at.names_in-requires c).After-of-words)

pub returns : goal.returns
returns c = let h = holds (goal.at.returns c).After-of-words in
    let e0 = c.mark.ensures ∙ h.0.mark (lit≤ tt) in
    let e1 = c.behind.ensures.0 ∙ h.0.after 1 (lit< tt) (lit≤ tt) in
    let e2 = c.behind-2.ensures.0 ∙ h.0.after 2 (lit< tt) (lit≤ tt) in
    let n = (rw c.count.ensures at c.names_in.ensures) ∙ h.1 in
    let few = few_words _ _ (λ j. omega (arith, c.type_inv.tree j)) c.requires.0.readable.known in
    (rw (e0, e1, e2, n) refl, omega (arith, few, n, h.2, ap (λ (p : List ℕ). length (words p)) c.of-words.ensures.0))
