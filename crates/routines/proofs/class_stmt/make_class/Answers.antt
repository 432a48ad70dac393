-- `routines::class_stmt::make_class` meets its contract: one instruction behind the others. Assumes nothing.
use mathlib.Core.Path.{refl}
use Rattle.store.specs.Promise.{uses}
use Rattle.store.proofs.Runs.{leaf_absorbed}
use Rattle.forward.specs.Forward.{make_class}
use Rattle.code.proofs.Coded.{leaf_as}
use Rattle.routines.proofs.class_stmt.make_class.Goals as goal

pub returns-in_default : goal.returns-in_default
returns-in_default c = leaf_absorbed (uses 2 0 0) _ c.requires.0 c.in_default.is

pub returns : goal.returns
unfolding make_class
returns c = leaf_as _ _ (λ t. refl) c.emit.ensures
