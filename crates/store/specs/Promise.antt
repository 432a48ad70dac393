-- What the functions of the store promise: one equation each, over what their words stand for, and what they use up.
use Rattle.std.specs.Prelude.{◌≡◌, ℕ, zero, suc, ◌+◌, ◌-◌, ◌*◌, ◌%◌, ◌<◌, ◌≤◌, min, List, length, ◌≢◌, slice_index}
use Rattle.store.specs.declared.Step.{Step}
use Rattle.store.specs.declared.Scope.{Scope}
use Rattle.store.specs.Layout.{first_local, beyond, registers, visited, edge, local_at}
use Rattle.store.specs.Store.{top_of, run, goes_on, while_going, Image, Linked, Fine, Kept}
use Rattle.meaning.specs.State.{Proto, M, next_register, allocate_register}
use Rattle.forward.specs.Forward.{Config, Run, bind, fwd_number, fwd_unit, Answers}

-- ---- what a step uses up, and what it gives back: words for code and locals, locals, names of globals for which no constant stands yet; and how many nodes it visits

-- what is used up of each, then what is given back, then the visits
pub record Cost : Type 0 where
  pub words : ℕ
  pub locals : ℕ
  pub names : ℕ
  pub words_back : ℕ
  pub locals_back : ℕ
  pub names_back : ℕ
  pub visits : ℕ

-- so much is used up, nothing given back
abbrev pub uses : (words locals names : ℕ) → Cost
uses a b c = record { words = a; locals = b; names = c; words_back = 0; locals_back = 0; names_back = 0; visits = 0 }

-- so much is given back, nothing used up
abbrev pub gives : (words locals names : ℕ) → Cost
gives a b c = record { words = 0; locals = 0; names = 0; words_back = a; locals_back = b; names_back = c; visits = 0 }

-- so many words and locals are used up on so many visits
abbrev pub takes : (words locals visits : ℕ) → Cost
takes a b v = record { words = a; locals = b; names = 0; words_back = 0; locals_back = 0; names_back = 0; visits = v }

-- a step that uses up nothing
abbrev pub nothing : Cost
nothing = uses 0 0 0

-- a register pays for three words and a local, a node for eight words and a local
abbrev pub some_registers : ℕ → Cost
some_registers n = gives (3 * n) n 0

-- one register, as `some_registers` has it
abbrev pub a_register : Cost
a_register = gives 3 1 0

-- a local takes one word
abbrev pub a_local : Cost
a_local = uses 1 1 0

-- one node is visited
abbrev pub a_visit : Cost
a_visit = takes 0 0 1

-- a constant pays for the name of a global
abbrev pub a_constant : Cost
a_constant = gives 0 0 1

-- the name of a global, which no constant pays for yet
abbrev pub a_global : Cost
a_global = uses 0 0 1

-- the cost of one step and another
abbrev pub both : Cost → Cost → Cost
both u v =
    record {
      words = u.words + v.words;
      locals = u.locals + v.locals;
      names = u.names + v.names;
      words_back = u.words_back + v.words_back;
      locals_back = u.locals_back + v.locals_back;
      names_back = u.names_back + v.names_back;
      visits = u.visits + v.visits;
    }

-- ---- room, by a potential: registers pay three words each, nodes eight

-- the registers of the functions 0 to d
unfoldable pub taken : List ℕ → (d : ℕ) → ℕ
taken w zero = registers w 0
taken w (suc d) = registers w (suc d) + taken w d

-- the words that pending code and locals take
abbrev pub live : List ℕ → Scope → Step → ℕ
live w p s = 2 * s.pc + edge w p.nodes p.block

-- room for k nodes that are still to be lowered, and for a words and b locals beside
pub record Roomy (w : List ℕ) (p : Scope) (s : Step) (k a b : ℕ) : Type 0 where
  -- the words ahead of the locals, and three for each of 2,040 registers
  pub words : first_local p.nodes + 6120 + live w p s + 8 * k + a ≤ top_of p + 3 * taken w p.depth
  -- a local for every node and every register
  pub locals : edge w p.nodes p.block + k + b ≤ p.nodes + taken w p.depth
  -- every global's name is a constant; where a second block is open one may be due
  pub globals : s.globals + 1 ≤ s.constants + min 2 p.block

-- due while nothing is refused
pub record Space (w : List ℕ) (p : Scope) (s : Step) (k a b : ℕ) : Type 0 where
  pub roomy : while_going s.outcome (Roomy w p s k a b)

-- what a step used up
pub record Used (w : List ℕ) (p : Scope) (s : Step) (w' : List ℕ) (q : Scope) (r : Step) (u : Cost) : Type 0 where
  pub words : live w' q r + 3 * taken w p.depth + u.words_back ≤ live w p s + 3 * taken w' q.depth + u.words
  pub locals : edge w' q.nodes q.block + taken w p.depth + u.locals_back ≤ edge w p.nodes p.block + taken w' q.depth + u.locals
  pub names : r.globals + s.constants + u.names_back ≤ s.globals + r.constants + u.names
  -- "Registers are taken upward per function and never given back"
  pub registers : taken w p.depth ≤ taken w' q.depth
  -- each visit is counted, dropped passes too
  pub visits : visited w' ≡ (visited w + u.visits) % 4294967296

-- ---- the promises

-- the words after a step, in any case
pub record Moves (w : List ℕ) (p : Scope) (s : Step) (w' : List ℕ) (q : Scope) (r : Step) (u : Cost) : Type 0 where
  pub fine : Fine w' q r
  pub kept : Kept w p w'
  -- a refusal stays
  pub back : goes_on r.outcome → goes_on s.outcome
  pub used : while_going r.outcome (Used w p s w' q r u)
  -- pending code is not cut off
  pub longer : s.pc ≤ r.pc
  -- a step that uses no local leaves their number
  pub still : u.locals ≡ 0 → edge w' q.nodes q.block ≡ edge w p.nodes p.block

-- a step that leaves the output alone does `op`
pub record Leaf (w : List ℕ) (p : Scope) (s : Step) (w' : List ℕ) (q : Scope) (r : Step) (u : Cost) (op : Config → Run) : Type 0 where
  pub moves : Moves w p s w' q r u
  pub runs : (ps : List Proto) → run w' q r ps ≡ bind (run w p s ps) op
  pub image : (o : List ℕ) (ps : List Proto) → Image p o s ps → Image q o r ps

-- a step that answers a question of the definition, with a
pub record Told {A : Type 0} (w : List ℕ) (p : Scope) (s : Step) (w' : List ℕ) (q : Scope) (r : Step) (u : Cost) (a : A) (m : M A) : Type 0 where
  pub moves : Moves w p s w' q r u
  pub tells : (ps : List Proto) → Answers (run w p s ps) m a (run w' q r ps)
  pub image : (o : List ℕ) (ps : List Proto) → Image p o s ps → Image q o r ps

-- a question that changes nothing
abbrev pub Tells : {A : Type 0} → List ℕ → Scope → Step → A → M A → Type 0
Tells w p s a m = (ps : List Proto) → Answers (run w p s ps) m a (run w p s ps)

-- the prototypes that the output then holds, and what the step then stands for
pub record After (w' o' : List ℕ) (q : Scope) (r : Step) (x : Run) : Type 0 where
  pub protos : List Proto
  pub image : Image q o' r protos
  pub runs : run w' q r protos ≡ x

-- any step does `op`
pub record Does (w o : List ℕ) (p : Scope) (s : Step) (w' o' : List ℕ) (q : Scope) (r : Step) (u : Cost) (op : Config → Run) : Type 0 where
  pub moves : Moves w p s w' q r u
  pub same : length o' ≡ length o
  pub does : (ps : List Proto) → Image p o s ps → After w' o' q r (bind (run w p s ps) op)

-- one visit more is counted: nothing but the count changed
pub record Ticked (w w' : List ℕ) : Type 0 where
  pub same : length w' ≡ length w
  pub counts : visited w' ≡ (visited w + 1) % 4294967296
  pub other : (i : ℕ) → (i ≢ 3077) → slice_index w' i ≡ slice_index w i

-- the locals of the block inside p are popped: nothing but heads changed
pub record Popped (w : List ℕ) (p : Scope) (w' : List ℕ) : Type 0 where
  pub same : length w' ≡ length w
  pub other : (i : ℕ) → (top_of p ≤ i → beyond p.nodes ≤ i) → slice_index w' i ≡ slice_index w i
  pub linked : Linked w' p.nodes p.block

-- the latest local is one of that name in the innermost block
pub record Latest (w : List ℕ) (p : Scope) (name : ℕ) : Type 0 where
  pub here : edge w p.nodes (p.block - 1) < edge w p.nodes p.block
  pub named : (local_at w p.nodes (edge w p.nodes p.block - 1)).name ≡ name

-- a local that the latest one shadows may have been taken out of the links: nothing but links changed
pub record Unlinked (w : List ℕ) (p : Scope) (w' : List ℕ) : Type 0 where
  pub same : length w' ≡ length w
  pub other : (i : ℕ) → (first_local p.nodes ≤ i → first_local p.nodes + edge w p.nodes p.block ≤ i) → slice_index w' i ≡ slice_index w i
  pub locals : (i : ℕ) → i < edge w p.nodes p.block → local_at w' p.nodes i ≡ local_at w p.nodes i
  pub linked : Linked w' p.nodes p.block

-- the cost of a step inside a block: its locals are given back
abbrev pub boxed : Cost → Cost
boxed u = record { words = u.words; locals = 0; names = u.names; words_back = u.words_back; locals_back = 0; names_back = u.names_back; visits = u.visits }

-- `parameters`, one of them: a register, and a local that names it
abbrev pub a_parameter : (node name : ℕ) → Config → Run
a_parameter node name c = bind (fwd_number (next_register node) c) (λ d. fwd_unit (allocate_register name d.result) d)
