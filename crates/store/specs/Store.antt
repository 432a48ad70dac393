-- What the words, a step and a scope stand for: the definition's State and the pending code. This is the abstraction that every contract cites.
use Rattle.std.specs.Prelude.{◌≡◌, ℕ, zero, suc, ◌+◌, ◌*◌, ◌%◌, ◌<◌, ◌≤◌, Bool, not, ◌&&◌, List, [], ◌∷◌, length, take, ◌==◌, slice_index, Ok, Err}
use Rattle.store.specs.declared.Step.{Step}
use Rattle.store.specs.declared.Scope.{Scope}
use Rattle.store.specs.Table.{tab, stack, span}
use Rattle.store.specs.Layout.{first_local, top, beyond, all_words, constant_at, name_of, registers, held, first, saved, capture_at, global_at, edge, local_at, block, latest, link, head, inst_at}
use Rattle.meaning.specs.Images.{inst_tag}
use Rattle.meaning.specs.Image.{proto_bytes}
use Rattle.meaning.specs.State.{Open, Proto, State}
use Rattle.meaning.specs.declared.Cause.{Cause}
use Rattle.meaning.specs.Outcome.{Outcome, refusal}
use Rattle.forward.specs.Forward.{Config, config, Run, stopped, going}

-- ---- what a scope and a step hold: specs outside this crate name it so, and how the two records are laid out is said here alone

-- the number of nodes, which fixes the layout
abbrev pub nodes_of : Scope → ℕ
nodes_of p = p.nodes

-- the first word above the pending code
abbrev pub top_of : Scope → ℕ
top_of p = top p.nodes

-- instruction i has its cell in the words, below the top
abbrev pub HasCell : List ℕ → Scope → ℕ → Type 0
HasCell w p i = (top_of p ≤ length w) × (2 * i + 2 ≤ top_of p) × (nodes_of p ≤ 32768)

-- the first n instructions have theirs
abbrev pub HasCells : List ℕ → Scope → ℕ → Type 0
HasCells w p n = (top_of p ≤ length w) × (2 * n ≤ top_of p) × (nodes_of p ≤ 32768)

-- the functions around the current one
abbrev pub depth_of : Scope → ℕ
depth_of p = p.depth

-- the open blocks
abbrev pub block_of : Scope → ℕ
block_of p = p.block

-- the current function's open loops
abbrev pub loops_of : Scope → ℕ
loops_of p = p.loops

-- the mode of the call
abbrev pub mode_of : Scope → ℕ
mode_of p = p.mode

-- 1 where marks have four bytes, else 0
abbrev pub wide_of : Scope → ℕ
wide_of p = p.wide

-- accepted so far, or the refusal
abbrev pub outcome_of : Step → Outcome
outcome_of s = s.outcome

-- how many instructions are pending
abbrev pub pc_of : Step → ℕ
pc_of s = s.pc

-- how many constants there are
abbrev pub constants_of : Step → ℕ
constants_of s = s.constants

-- how many globals
abbrev pub globals_of : Step → ℕ
globals_of s = s.globals

-- how many finished prototypes
abbrev pub functions_of : Step → ℕ
functions_of s = s.functions

-- the register of the last result
abbrev pub result_of : Step → ℕ
result_of s = s.result

-- ---- what the words stand for

-- function j, whose blocks end at e and whose open loops are l
unfoldable pub open_at : List ℕ → (n j e l : ℕ) → Open
open_at w n j e l =
    record {
      name = name_of w j;
      registers = registers w j;
      blocks = span (block w n) (first w j) e;
      captures = tab (capture_at w j) (held w j);
      loops = l;
    }

-- the functions around function d, the innermost first: their blocks end where the next function's start
unfoldable pub around : List ℕ → (n d : ℕ) → List Open
around w n zero = []
around w n (suc d) = open_at w n d (first w (suc d)) (saved w (suc d)) ∷ around w n d

-- struct Compiler; the finished prototypes are bytes of the output, and stand here as a list of their own
unfoldable pub state_of : List ℕ → Scope → Step → List Proto → State
state_of w p s ps =
    record {
      constants = tab (constant_at w) s.constants;
      prototypes = ps;
      globals = stack (global_at w) s.globals;
      current = open_at w p.nodes p.depth p.block p.loops;
      outer = around w p.nodes p.depth;
    }

-- the pending code of all open functions, the result register and the State
unfoldable pub config_of : List ℕ → Scope → Step → List Proto → Config
config_of w p s ps = config (tab (inst_at w (top_of p)) s.pc) s.result (state_of w p s ps)

-- a refusal by its cause and node, else the configuration
abbrev pub run_by : Outcome → Config → Run
run_by (Ok written) c = going c
run_by (Err why) c = stopped why.cause why.place

-- a refused step stands for its refusal, any other for the pending code, the result register and the State
unfoldable pub run : List ℕ → Scope → Step → List Proto → Run
run w p s ps = run_by s.outcome (config_of w p s ps)

-- ---- scopes

-- one block more
abbrev pub deeper : Scope → Scope
deeper p = record { nodes = p.nodes; depth = p.depth; block = p.block + 1; loops = p.loops; mode = p.mode; wide = p.wide }

-- one loop more
abbrev pub looped : Scope → Scope
looped p = record { nodes = p.nodes; depth = p.depth; block = p.block; loops = p.loops + 1; mode = p.mode; wide = p.wide }

-- one function more, with its first block
abbrev pub inner : Scope → Scope
inner p = record { nodes = p.nodes; depth = p.depth + 1; block = p.block + 1; loops = 0; mode = p.mode; wide = p.wide }

-- the main function's
abbrev pub main_scope : (mode wide nodes : ℕ) → Scope
main_scope mode wide n = record { nodes = n; depth = 0; block = 1; loops = 0; mode = mode; wide = wide }

-- the marks have four bytes
abbrev pub is_wide : Scope → Bool
is_wide p = not (p.wide == 0)

-- the tag of the image's instructions
abbrev pub code_tag : Scope → ℕ
code_tag p = inst_tag (is_wide p)

-- one open function with one open block
abbrev pub main_alone : (depth block : ℕ) → Bool
main_alone d b = d == 0 && b == 1

-- the same of a scope
abbrev pub global_scope : Scope → Bool
global_scope p = main_alone p.depth p.block

-- ---- steps

-- where the lowering starts: nothing is written, pending or stored
abbrev pub first_step : Step
first_step = record { outcome = Ok 0; pc = 0; constants = 0; globals = 0; functions = 0; result = 0 }

-- so many instructions, and this result
abbrev pub advanced : Step → (pc result : ℕ) → Step
advanced s k r = record { outcome = s.outcome; pc = k; constants = s.constants; globals = s.globals; functions = s.functions; result = r }

-- as many instructions as before, and this result
abbrev pub with_result : Step → ℕ → Step
with_result s r = advanced s s.pc r

-- one constant more, whose index is the result
abbrev pub constant_more : Step → Step
constant_more s = record { outcome = s.outcome; pc = s.pc; constants = s.constants + 1; globals = s.globals; functions = s.functions; result = s.constants }

-- one global more
abbrev pub global_more : Step → Step
global_more s = record { outcome = s.outcome; pc = s.pc; constants = s.constants; globals = s.globals + 1; functions = s.functions; result = s.result }

-- one prototype more, whose index is the result: the prototypes' bytes end at `end`, and its code, from `first` on, is cut off
abbrev pub prototype_more : Step → (first end : ℕ) → Step
prototype_more s first end = record { outcome = Ok end; pc = first; constants = s.constants; globals = s.globals; functions = s.functions + 1; result = s.functions }

-- refused now, or before
abbrev pub refused_by : Outcome → Cause → ℕ → Outcome
refused_by (Ok written) cause node = Err (refusal cause node)
refused_by (Err why) cause' node' = Err why

-- the result of a refused step: 0, or as it was where it was refused before
abbrev pub result_by : Outcome → ℕ → ℕ
result_by (Ok written) r = 0
result_by (Err why) r = r

-- a step that is refused now: its counts stay; one that was refused before stays as it is
abbrev pub refused_step : Step → Cause → ℕ → Step
refused_step s k n =
    record { outcome = refused_by s.outcome k n; pc = s.pc; constants = s.constants; globals = s.globals; functions = s.functions; result = result_by s.outcome s.result }

-- not refused so far
abbrev pub goes_on : Outcome → Type 0
goes_on (Ok written) = Unit {0}
goes_on (Err why) = ⊥

-- a fact that is due only while nothing is refused
abbrev pub while_going : Outcome → Type 0 → Type 0
while_going (Ok written) P = P
while_going (Err why) P = Unit {0}

-- ---- the output: it holds the finished prototypes where they fit; they are counted always

-- so many bytes and so many functions are those of the prototypes ps, which stand at the front of the output where they fit
pub record Written (tag : ℕ) (o : List ℕ) (written functions : ℕ) (ps : List Proto) : Type 0 where
  pub counted : functions ≡ length ps
  pub sized : written ≡ length (proto_bytes tag ps)
  pub bytes : written ≤ length o → take written o ≡ proto_bytes tag ps

-- the same while nothing is refused; of a refused step's output nothing is said
abbrev pub image_by : (tag : ℕ) → Outcome → List ℕ → ℕ → List Proto → Type 0
image_by tag (Ok written) o functions ps = Written tag o written functions ps
image_by tag (Err why) o functions ps = Unit {0}

-- the output holds the prototypes ps, as the step counts them, with marks of the scope's width
abbrev pub Image : Scope → List ℕ → Step → List Proto → Type 0
Image p o s ps = image_by (code_tag p) s.outcome o s.functions ps

-- the bytes of the finished prototypes, 0 where a step is refused
abbrev pub written_by : Outcome → ℕ
written_by (Ok written) = written
written_by (Err why) = 0

-- ---- what every function keeps, refused or not

-- among the locals of the first b blocks, one from i on has the name of local j and is in its block
pub record Shadowed (w : List ℕ) (n b i j : ℕ) : Type 0 where
  pub by : ℕ
  pub later : i ≤ by
  pub inside : by < edge w n b
  pub same : (local_at w n by).name ≡ (local_at w n j).name
  pub together : (e : ℕ) → e ≤ b → edge w n e ≤ by → edge w n e ≤ j

-- local i leads to the latest of its bucket before `back`, where its block starts or later; those of the bucket from there up to i are shadowed
pub record Leads (w : List ℕ) (n b i : ℕ) : Type 0 where
  pub back : ℕ
  pub before : back ≤ i
  pub within : (e : ℕ) → e ≤ b → edge w n e ≤ i → edge w n e ≤ back
  pub shadowed : (j : ℕ) → back ≤ j → j < i → (local_at w n j).name % (10 * n) ≡ (local_at w n i).name % (10 * n) → Shadowed w n b i j
  pub leads : link w n i ≡ latest w n ((local_at w n i).name % (10 * n)) back

-- the locals of the first b blocks are linked by the bucket of their name
pub record Linked (w : List ℕ) (n b : ℕ) : Type 0 where
  pub links : (i : ℕ) → i < edge w n b → Leads w n b i
  pub heads : (c : ℕ) → c < 10 * n → head w n c ≡ latest w n c (edge w n b)

-- the words in a scope
pub record Sound (w : List ℕ) (p : Scope) : Type 0 where
  -- 01's limit: 1 to 32,768 nodes
  pub some : 1 ≤ p.nodes
  pub few : p.nodes ≤ 32768
  -- the words that refusal 6 asks for
  pub long : all_words p.nodes ≤ length w
  -- a ninth function has its frame while it is refused
  pub deep : p.depth ≤ 8
  -- there are words for the edges of these blocks
  pub blocks : p.block ≤ p.nodes + 10
  pub loops : p.loops ≤ p.nodes + 10
  -- no block ends before it starts
  pub sorted : (i : ℕ) → i < p.block → edge w p.nodes i ≤ edge w p.nodes (suc i)
  pub main : first w 0 ≡ 0
  -- every open function's first block is open
  pub starts : (j : ℕ) → j ≤ p.depth → first w j < p.block
  -- a local is paid for by a node or by one of 2,040 registers
  pub count : edge w p.nodes p.block ≤ p.nodes + 2040
  pub linked : Linked w p.nodes p.block

-- a result is a register, which is below 255, or the index of a constant or a prototype; 0 once a step is refused
abbrev pub result_limit : Outcome → ℕ
result_limit (Ok written) = 1024
result_limit (Err why) = 255

-- what every function is given and gives back: the words in their scope, and a step whose counts keep to 01's limits
pub record Fine (w : List ℕ) (p : Scope) (s : Step) : Type 0 where
  pub sound : Sound w p
  -- eight functions are open at most, unless one was refused
  pub nested : while_going s.outcome (p.depth ≤ 7)
  -- locals, which go upward, and pending code, which goes downward, do not meet
  pub room : first_local p.nodes + 2 * s.pc + edge w p.nodes p.block ≤ top_of p
  pub constants : s.constants ≤ 1024
  -- a global's name is a constant, but for one that is still due
  pub globals : s.globals ≤ s.constants + 1
  pub functions : s.functions ≤ 256
  -- a prototype has 370,000 bytes at most
  pub written : written_by s.outcome ≤ 370000 * s.functions
  pub result : s.result < result_limit s.outcome

-- what lies outside the scope stays, refused or not
pub record Kept (w : List ℕ) (p : Scope) (w' : List ℕ) : Type 0 where
  pub same : length w' ≡ length w
  pub firsts : (j : ℕ) → j ≤ p.depth → first w' j ≡ first w j
  pub saves : (j : ℕ) → j ≤ p.depth → saved w' j ≡ saved w j
  -- the registers of the functions around
  pub outer : (j : ℕ) → j < p.depth → registers w' j ≡ registers w j
  -- the blocks but for the end of the innermost one
  pub edges : (i : ℕ) → i < p.block → edge w' p.nodes i ≡ edge w p.nodes i
  -- what is beyond the store, where the nodes' offsets are
  pub offsets : (i : ℕ) → beyond p.nodes ≤ i → slice_index w' i ≡ slice_index w i
