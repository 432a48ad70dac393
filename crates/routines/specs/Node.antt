-- A node that has no child to lower: what its function is given, and what it promises.
use Rattle.std.specs.Prelude.{ℕ, ◌*◌, ◌<◌, ◌≤◌, ◌≡◌, true, List, length}
use Rattle.meaning.specs.Fields.{fields}
use Rattle.meaning.specs.Grammar.{shape_at}
use Rattle.meaning.specs.Syntax.{Super}
use Rattle.meaning.specs.Read.{token}
use Rattle.meaning.specs.At.{word_of, expr_at, stmt_at, super_at}
use Rattle.meaning.specs.Statements.{visit_super}
use Rattle.meaning.specs.Weight.{size_super}
use Rattle.meaning.specs.Visits.{visits_super}
use Rattle.meaning.specs.Lower.{lower_expr, lower_stmt}
use Rattle.nodes.specs.Offsets.{Offsets}
use Rattle.nodes.specs.Nodes.{Width}
use Rattle.forward.specs.Forward.{Config, Run, fwd}
use Rattle.store.specs.declared.Step.{Step}
use Rattle.store.specs.declared.Scope.{Scope}
use Rattle.store.specs.Layout.{all_words}
use Rattle.store.specs.Store.{nodes_of, mode_of, wide_of, Fine}
use Rattle.store.specs.Promise.{Cost, uses, takes, Space, Leaf}
use Rattle.routines.specs.Pieces.{Small}

-- ---- what is given

-- a tree of n nodes that the check accepted, in a work area that is long enough, with the table of its nodes' offsets
pub record Lawful (t w : List ℕ) (n : ℕ) : Type 0 where
  pub nodes : n ≡ length (fields t)
  pub shapes : (j : ℕ) → j < length (fields t) → shape_at (fields t) j ≡ true
  pub long : all_words n ≤ length w
  pub offsets : Offsets t w

-- a node of it, room for k nodes, and the width of its marks in the scope
pub record OnNode (t w : List ℕ) (p : Scope) (s : Step) (k node : ℕ) : Type 0 where
  pub lawful : Lawful t w (nodes_of p)
  pub fine : Fine w p s
  pub room : Space w p s k 0 0
  pub known : node < nodes_of p
  pub width : Width t (wide_of p)

-- ---- what is promised

-- a step that leaves the output alone, does `op` and gives a register
pub record Gives (w : List ℕ) (p : Scope) (s : Step) (w' : List ℕ) (r : Step) (u : Cost) (op : Config → Run) : Type 0 where
  pub leaf : Leaf w p s w' p r u op
  pub small : Small r

-- an expression: eight words pay for it; its visit is counted by whoever calls it
abbrev pub GivesExpr : (t w : List ℕ) → Scope → Step → (w' : List ℕ) → Step → (node : ℕ) → Type 0
GivesExpr t w p s w' r node = Gives w p s w' r (uses 8 0 0) (fwd (lower_expr (mode_of p) (expr_at (fields t) node)))

-- a statement: eight words and a local pay for it
abbrev pub GivesStmt : (t w : List ℕ) → Scope → Step → (w' : List ℕ) → Step → (node : ℕ) → Type 0
GivesStmt t w p s w' r node = Gives w p s w' r (uses 8 1 0) (fwd (lower_stmt (mode_of p) (stmt_at (fields t) node)))

-- the superclass of the class at a node
abbrev pub super_of : (t : List ℕ) → (node : ℕ) → Super
super_of t node = super_at (fields t) (word_of (fields t) node 2)

-- it is a variable's node, or no node
abbrev pub GivesSuper : (t w : List ℕ) → Scope → Step → (w' : List ℕ) → Step → (node : ℕ) → Type 0
GivesSuper t w p s w' r node =
    Gives w p s w' r (takes (8 * size_super (super_of t node)) 0 (visits_super (super_of t node))) (fwd (visit_super node (token (word_of (fields t) node 0) (word_of (fields t) node 1)) (super_of t node)))
