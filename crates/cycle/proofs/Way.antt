-- The way of a member: from where it was called to where its calls have brought it. At every call it stands somewhere on its way, and what the call asks
-- follows from what the member was given and what was used since: that is one law, `stand`. At the end stands what it promises: `arrive`.
use Prim.Native.Nat.{ℕ, zero, suc, ◌+◌, ◌*◌, ◌≤◌, ◌<◌, min}
use mathlib.Core.Path.{◌≡◌, refl, sym, ap, ◌∙◌}
use mathlib.Core.Bool.{Bool, true, false, not}
use mathlib.Core.List.{List, [], ◌∷◌, ◌++◌}
use native.Mathlib.Omega.{arith}
use lib.ListN.{length, length-append}
use lib.Dec.{eqb}
use Rattle.meaning.specs.Fields.{fields}
use Rattle.meaning.specs.Grammar.{wide_marks}
use Rattle.meaning.specs.Read.{at}
use Rattle.meaning.specs.At.{extra, Behind, file_words, tag_of, word_of, count_of, expr_at, stmt_at, stmts_at, ExprBelow, StmtBelow}
use Rattle.meaning.specs.Weight.{size_expr, size_stmt, size_stmts}
use Rattle.meaning.specs.State.{Proto, Chunk, M, leave_block}
use Rattle.meaning.specs.declared.Cause.{Cause}
use Rattle.meaning.specs.declared.Instruction.{Instruction}
use Rattle.std.specs.Prelude.{Ok, Err}
use Rattle.meaning.specs.Outcome.{Outcome, refusal}
use Rattle.nodes.specs.Offsets.{Readable}
use Rattle.nodes.specs.Nodes.{Node, Width}
use Rattle.forward.specs.Forward.{Config, Run, going, bind, sure, fwd, fwd_unit}
use Rattle.store.specs.declared.Step.{Step}
use Rattle.store.specs.declared.Scope.{Scope}
use Rattle.store.specs.Store.{nodes_of, depth_of, block_of, loops_of, wide_of, outcome_of, pc_of, result_of, is_wide, run, config_of, goes_on, result_limit, while_going, deeper, looped, Image, Fine}
use Rattle.store.specs.Promise.{Cost, uses, takes, nothing, a_visit, both, Used, Roomy, Space, Moves, Leaf, After, Does, Ticked}
use Rattle.store.proofs.Runs.{due, promised, going_is, none_due, run_going, leaf_absorbed}
use Rattle.store.proofs.Compose.{none_moved, moves_then, moves_by, leaf_after, leaf_does, known}
use Rattle.store.proofs.Around.{loop_entered}
use Rattle.store.proofs.Visiting.{ticked_moves, ticked_runs}
use Rattle.store.specs.Cell.{Bytes}
use Rattle.routines.specs.Pieces.{Small}
use Rattle.routines.specs.Node.{Lawful, OnNode, Gives}
use Rattle.routines.proofs.Held.{lawful_kept}
use Rattle.cycle.specs.Cycle.{Ready, Given, AskExpr, AskStmt, Children, AskRow, Lowers}

-- ---- the way

pub record Way (t w : List ℕ) (p : Scope) (s : Step) (k a b : ℕ) (w' : List ℕ) (q : Scope) (r : Step) (u : Cost) : Type 0 where
  pub ready : Ready t w p s k a b
  pub moves : Moves w p s w' q r u
  pub nodes : nodes_of p ≡ nodes_of q
  pub wide : wide_of p ≡ wide_of q
  pub depth : depth_of p ≤ depth_of q
  pub block : block_of p ≤ block_of q

pub from : {t w : List ℕ} {p : Scope} {s : Step} {k a b : ℕ} → Ready t w p s k a b → Way t w p s k a b w p s nothing
from h = record { ready = h; moves = none_moved h.fine; nodes = refl; wide = refl; depth = omega arith; block = omega arith }

-- a call in the same scope; one after which the scope is another
infixl 5 ◌▹◌
pub ◌▹◌ : {t w w1 w2 : List ℕ} {p q : Scope} {s s1 s2 : Step} {k a b : ℕ} {u v : Cost} → Way t w p s k a b w1 q s1 u → Moves w1 q s1 w2 q s2 v → Way t w p s k a b w2 q s2 (both u v)
◌▹◌ x m = record { ready = x.ready; moves = moves_then x.nodes x.depth x.block x.moves m; nodes = x.nodes; wide = x.wide; depth = x.depth; block = x.block }

pub to : {t w w1 w2 : List ℕ} {p q : Scope} {s s1 s2 : Step} {k a b : ℕ} {u v : Cost} (q' : Scope) → nodes_of p ≡ nodes_of q' → wide_of p ≡ wide_of q' → depth_of p ≤ depth_of q' → block_of p ≤ block_of q'
    → Way t w p s k a b w1 q s1 u → Moves w1 q s1 w2 q' s2 v → Way t w p s k a b w2 q' s2 (both u v)
to q' n v d e x m = record { ready = x.ready; moves = moves_then x.nodes x.depth x.block x.moves m; nodes = n; wide = v; depth = d; block = e }

-- ---- where it stands

-- what is used up to here leaves room for k' nodes, a' words and b' locals
pub stand_at : {t w w' : List ℕ} {p q : Scope} {s r : Step} {k a b : ℕ} {u : Cost} (k' a' b' : ℕ) → Way t w p s k a b w' q r u
    → 8 * k' + a' + u.words ≤ 8 * k + a + u.words_back → k' + b' + u.locals ≤ k + b + u.locals_back → u.names + min 2 (block_of p) ≤ u.names_back + min 2 (block_of q)
    → block_of q + k' ≤ nodes_of q + 1 + depth_of q → loops_of q + k' ≤ nodes_of q + 1 → Ready t w' q r k' a' b'
stand_at {t} {w} {w'} {p} {q} {s} {r} {k} {a} {b} {u} k' a' b' x l l' m c d =
    record { lawful = rw (sym x.nodes) (lawful_kept x.ready.lawful x.moves.kept); width = sym x.wide ∙ x.ready.width; fine = x.moves.fine; room = room; blocks = c; loops = d }
  where
    after : Used w p s w' q r u → Roomy w p s k a b → Roomy w' q r k' a' b'
    after i j =
        record {
          words = omega (arith, i.words, j.words, l, x.nodes);
          locals = omega (arith, i.locals, j.locals, l', x.nodes);
          globals = omega (arith, i.names, j.globals);
        }

    room : Space w' q r k' a' b'
    room = record { roomy = promised (outcome_of r) (λ g. after (due (outcome_of r) x.moves.used g) (due (outcome_of s) x.ready.room.roomy (x.moves.back g))) }

-- the same in the scope that it was called in
pub stand : {t w w' : List ℕ} {p : Scope} {s r : Step} {k a b : ℕ} {u : Cost} (k' a' b' : ℕ) → Way t w p s k a b w' p r u
    → 8 * k' + a' + u.words ≤ 8 * k + a + u.words_back → k' + b' + u.locals ≤ k + b + u.locals_back → u.names ≤ u.names_back → k' ≤ k → Ready t w' p r k' a' b'
stand k' a' b' x l l' m e = stand_at k' a' b' x l l' (omega (arith, m)) (omega (arith, x.ready.blocks)) (omega (arith, x.ready.loops))

-- in a block that is entered from here
pub in_block : {t w w1 w2 : List ℕ} {p : Scope} {s r : Step} {k a b k' : ℕ} {u : Cost} → Way t w p s k a b w1 p r u → Moves w1 p r w2 (deeper p) r nothing
    → 8 * k' + u.words ≤ 8 * k + a + u.words_back → k' + u.locals ≤ k + b + u.locals_back → u.names ≤ u.names_back → k' < k → Ready t w2 (deeper p) r k' 0 0
in_block {p = p} {k' = k'} x m l l' n z =
    stand_at k' 0 0 (to (deeper p) refl refl (omega arith) (omega arith) x m) (omega (arith, l)) (omega (arith, l')) (omega (arith, n)) (omega (arith, x.ready.blocks)) (omega (arith, x.ready.loops))

-- ---- what a step does, after what another did

pub next : {w' o' w2 o2 : List ℕ} {q t : Scope} {s1 s2 : Step} {u : Cost} {x : Run} {op : Config → Run} → (a : After w' o' q s1 x) → Does w' o' q s1 w2 o2 t s2 u op → After w2 o2 t s2 (bind (run w' q s1 a.protos) op)
next a d = d.does a.protos a.image

pub next_leaf : {w' o' w2 : List ℕ} {q t : Scope} {s1 s2 : Step} {u : Cost} {x : Run} {op : Config → Run} → (a : After w' o' q s1 x) → Leaf w' q s1 w2 t s2 u op → After w2 o' t s2 (bind (run w' q s1 a.protos) op)
next_leaf {o' = o'} a l = leaf_after l o' a.protos a.image

pub next_left : {w o w' : List ℕ} {p : Scope} {r : Step} {x : Run} → (a : After w o (deeper p) r x) → ((ps : List Proto) → run w' p r ps ≡ bind (run w (deeper p) r ps) (fwd_unit leave_block)) → After w' o p r (bind (run w (deeper p) r a.protos) (fwd_unit leave_block))
next_left a h = record { protos = a.protos; image = a.image; runs = h a.protos }

pub ends : {w' o' : List ℕ} {q : Scope} {r : Step} {x y : Run} → (a : After w' o' q r x) → run w' q r a.protos ≡ y → After w' o' q r y
ends a e = record { protos = a.protos; image = a.image; runs = e }

-- ---- what is known of a step from what it stands for

-- of the code's length and the result, where the step goes on
pub leaf_known : {w w' : List ℕ} {p q : Scope} {s r : Step} {u : Cost} {op : Config → Run} (P : (code result code' result' : ℕ) → Type 0)
    → Leaf w p s w' q r u op → ((c d : Config) → op c ≡ going d → P (length c.code) c.result (length d.code) d.result) → while_going (outcome_of r) (P (pc_of s) (result_of s) (pc_of r) (result_of r))
unfolding bind config_of
leaf_known {w} {w'} {p} {q} {s} {r} {u} {op} P l h = promised (outcome_of r) λ g.
    let e = going_is (outcome_of r) g in
    let f = going_is (outcome_of s) (l.moves.back g) in
    let c = config_of w p s [] in
    let d = config_of w' q r [] in
    let n = known w p s [] in
    let m = known w' q r [] in
    let cs = run_going w p s [] f.0 f.1 in
    let ds = run_going w' q r [] e.0 e.1 in
    let z = h c d (sym (ap (λ (x : Run). bind x op) cs) ∙ sym (l.runs []) ∙ ds) in
    rw (n.size c cs, m.size d ds) z

sure_is : (f : Config → Config) (c d : Config) → sure f c ≡ going d → f c ≡ d
sure_is f c d e = cc

-- a result that is v, below 255
pub sets_by : {w w' : List ℕ} {p q : Scope} {s r : Step} {u : Cost} {op : Config → Run} (v : ℕ) → Leaf w p s w' q r u op → ((c d : Config) → op c ≡ going d → d.result ≡ v) → (goes_on (outcome_of r) → v < 255) → Small r
sets_by {r = r} v l h m = promised (outcome_of r) λ g. let e = due (outcome_of r) (leaf_known (λ n x n' x'. x' ≡ v) l h) g in omega (arith, e, m g)

module _ {w w' : List ℕ} {p q : Scope} {s r : Step} {u : Cost} {f : Config → Config} (l : Leaf w p s w' q r u (sure f)) where
  -- the result stays, or is v
  pub keeps : ((c : Config) → (f c).result ≡ c.result) → Small s → Small r
  keeps h m =
      promised (outcome_of r) λ g.
      let e = due (outcome_of r) (leaf_known (λ n v n' v'. v' ≡ v) l (λ c d e. sym (ap (λ (x : Config). x.result) (sure_is f c d e)) ∙ h c)) g in
      omega (arith, e, due (outcome_of s) m (l.moves.back g))

  pub sets : (v : ℕ) → ((c : Config) → (f c).result ≡ v) → (goes_on (outcome_of r) → v < 255) → Small r
  sets v h m = sets_by v l (λ c d e. sym (ap (λ (x : Config). x.result) (sure_is f c d e)) ∙ h c) m

  -- n instructions more
  pub adds : (n : ℕ) → ((c : Config) → length (f c).code ≡ length c.code + n) → goes_on (outcome_of r) → pc_of r ≡ pc_of s + n
  adds n h g = due (outcome_of r) (leaf_known (λ m x m' x'. m' ≡ m + n) l (λ c d e. sym (ap (λ (x : Config). length x.code) (sure_is f c d e)) ∙ h c)) g

pub twice : (l : List Instruction) (i j : Instruction) → length ((l ++ i ∷ []) ++ j ∷ []) ≡ length l + 2
twice l i j = simp length-append (omega arith)

-- a fact that is due while nothing is refused
pub meanwhile : (o : Outcome) (P : Type 0) → (goes_on o → P) → while_going o P
meanwhile o P h = promised o h

-- a register
pub small : (s : Step) → result_of s < 255 → Small s
small s h = promised (outcome_of s) λ g. h

-- a result is below 1,024
limit_few : (o : Outcome) (v : ℕ) → v < result_limit o → v < 1024
limit_few (Ok x) v h = h
limit_few (Err why) v h = omega arith

pub few_results : {w : List ℕ} {p : Scope} {s : Step} → Fine w p s → result_of s < 1024
few_results {s = s} h = limit_few (outcome_of s) (result_of s) h.result

-- operands that fit their bytes
pub fits : (o : Outcome) (op a b c : ℕ) → (goes_on o → (op < 256) × (a < 256) × (b < 256) × (c < 256)) → while_going o (Bytes op a b c)
fits o op a b c h = promised o λ g. record { op_small = (h g).0; a_small = (h g).1; b_small = (h g).2; c_small = (h g).3 }

-- ---- nodes

-- the node is one of the tree's
pub inside : {t w : List ℕ} {n i : ℕ} → Lawful t w n → i < n → i < length (fields t)
inside h l = omega (arith, l, h.nodes)

-- its header can be read
pub readable : {t w : List ℕ} {p : Scope} {s : Step} {k a b i : ℕ} → Ready t w p s k a b → i < nodes_of p → Readable t w i
readable r l = record { offsets = r.lawful.offsets; known = inside r.lawful l }

-- with what is asked of a count
pub counted : {t w : List ℕ} {i k d : ℕ} → Readable t w i → Behind (fields t) i k d → Readable t w i × (length (file_words (fields t) i) ≡ count_of (fields t) i + d)
counted r b = (r, b.size)

-- its words can be read, and what its reader asks of it
pub node : {t w : List ℕ} {p : Scope} {s : Step} {k a b i : ℕ} → Ready t w p s k a b → i < nodes_of p → Node t w i
node r l = record { readable = readable r l; shapes = r.lawful.shapes }

pub held : {t w : List ℕ} {p : Scope} {s : Step} {k a b i tag : ℕ} → Ready t w p s k a b → i < nodes_of p → tag_of (fields t) i ≡ tag → Node t w i × Width t (wide_of p) × (tag_of (fields t) i ≡ tag)
held r l e = (node r l, r.width, e)

-- the same of a node without a mark
pub held_bare : {t w : List ℕ} {p : Scope} {s : Step} {k a b i tag : ℕ} → Ready t w p s k a b → i < nodes_of p → tag_of (fields t) i ≡ tag → Node t w i × (tag_of (fields t) i ≡ tag)
held_bare r l e = (node r l, e)

-- a child of a row, by the word of the file
pub placed : {t w : List ℕ} {p : Scope} {s : Step} {i f g d k a j x : ℕ} {B : ℕ → Type 0} → Children t w p s i f g d k a B → f ≤ j → x ≡ at (file_words (fields t) i) (j + d) → x ≡ word_of (fields t) i j
placed r l e = e ∙ sym (r.behind.same _ l)

-- the width by the scope's number
pub wide_is : (p : Scope) (b : Bool) → wide_of p ≡ extra b → is_wide p ≡ b
wide_is p true e = ap not (ap (λ (n : ℕ). eqb n 0) e)
wide_is p false e = ap not (ap (λ (n : ℕ). eqb n 0) e)

-- that is 0 or 1
pub few_wide : (p : Scope) (b : Bool) → wide_of p ≡ extra b → wide_of p ≤ 1
few_wide p true e = omega arith
few_wide p false e = omega arith

pub narrow_or_wide : {t w : List ℕ} {p : Scope} {s : Step} {k a b : ℕ} → Ready t w p s k a b → wide_of p ≤ 1
narrow_or_wide {t = t} {p = p} r = few_wide p (wide_marks (fields t)) r.width

-- so many marks take no more places than there are
pub few_more : (n w : ℕ) → n < 65536 → w ≤ 1 → n * w < 65536
few_more n zero h l = omega arith
few_more n (suc zero) h l = omega arith
few_more n (suc (suc w)) h l = absurd (omega arith)

-- a node without children, where it stands
pub on_node : {t w : List ℕ} {p : Scope} {s : Step} {k i : ℕ} → Ready t w p s k 0 0 → i < nodes_of p → OnNode t w p s k i
on_node {t = t} {p = p} r l = record { lawful = r.lawful; width = r.width; fine = r.fine; room = r.room; known = l }

-- a child that is an expression, a statement
pub ask_expr : {t w : List ℕ} {p : Scope} {s : Step} {i c : ℕ} → Ready t w p s (size_expr (expr_at (fields t) c)) 0 0 → i < nodes_of p → ExprBelow (fields t) i c → AskExpr t w p s c
ask_expr r h e = (record { ready = r; known = omega (arith, h, e.below) }, e.low, e.high)

pub ask_stmt : {t w : List ℕ} {p : Scope} {s : Step} {i c : ℕ} → Ready t w p s (size_stmt (stmt_at (fields t) c)) 0 0 → i < nodes_of p → StmtBelow (fields t) i c → AskStmt t w p s c
ask_stmt r h e = (record { ready = r; known = omega (arith, h, e.below) }, e.low, e.high, e.no_elif)

module _ {t w w' : List ℕ} {p : Scope} {s r : Step} {k a b i : ℕ} {u : Cost} (x : Way t w p s k a b w' p r u) (h : i < nodes_of p) where
  pub give_expr : {c : ℕ} → ExprBelow (fields t) i c → 8 * size_expr (expr_at (fields t) c) + u.words ≤ 8 * k + a + u.words_back → size_expr (expr_at (fields t) c) + u.locals ≤ k + b + u.locals_back → u.names ≤ u.names_back → size_expr (expr_at (fields t) c) ≤ k
      → AskExpr t w' p r c
  give_expr e l l' m z = ask_expr (stand _ 0 0 x (omega (arith, l)) (omega (arith, l')) m z) h e

  pub give_stmt : {c : ℕ} → StmtBelow (fields t) i c → 8 * size_stmt (stmt_at (fields t) c) + u.words ≤ 8 * k + a + u.words_back → size_stmt (stmt_at (fields t) c) + u.locals ≤ k + b + u.locals_back → u.names ≤ u.names_back → size_stmt (stmt_at (fields t) c) ≤ k
      → AskStmt t w' p r c
  give_stmt e l l' m z = ask_stmt (stand _ 0 0 x (omega (arith, l)) (omega (arith, l')) m z) h e

  -- the body of a loop
  pub give_looped : {c : ℕ} → StmtBelow (fields t) i c → 8 * size_stmt (stmt_at (fields t) c) + u.words ≤ 8 * k + a + u.words_back → size_stmt (stmt_at (fields t) c) + u.locals ≤ k + b + u.locals_back → u.names ≤ u.names_back → size_stmt (stmt_at (fields t) c) < k
      → AskStmt t w' (looped p) r c
  give_looped e l l' m z =
      let f = x.ready.loops in
      let y = to (looped p) refl refl (omega arith) (omega arith) x (loop_entered x.moves.fine (omega arith)).moves in
      ask_stmt (stand_at _ 0 0 y (omega (arith, l)) (omega (arith, l')) (omega (arith, m)) (omega (arith, x.ready.blocks)) (omega arith)) h e

  -- statements one after the other
  pub give_row : (f g : ℕ) → g ≤ count_of (fields t) i → ((j : ℕ) → f ≤ j → j < g → StmtBelow (fields t) i (word_of (fields t) i j))
      → 8 * size_stmts (stmts_at (fields t) i f g) + u.words ≤ 8 * k + a + u.words_back → size_stmts (stmts_at (fields t) i f g) + u.locals ≤ k + b + u.locals_back → u.names ≤ u.names_back → size_stmts (stmts_at (fields t) i f g) ≤ k
      → {d : ℕ} → Behind (fields t) i f d → AskRow t w' p r i f g d
  give_row f g d e l l' m z b = record { ready = stand _ 0 0 x (omega (arith, l)) (omega (arith, l')) m z; known = h; ends = d; each = e; behind = b }

-- ---- the end of the way

-- it used x words and y locals at most, on v visits
pub spends : {t w w' : List ℕ} {p q : Scope} {s r : Step} {k a b : ℕ} {u : Cost} (x y v : ℕ) → u.words ≤ x + u.words_back → u.locals ≤ y + u.locals_back → u.names ≤ u.names_back → (y ≡ 0 → u.locals ≡ 0) → u.visits ≡ v
    → Way t w p s k a b w' q r u → Moves w p s w' q r (takes x y v)
spends x y v d e f z n h = moves_by (takes x y v) (omega (arith, d)) (omega (arith, e)) (omega (arith, f)) z n h.moves

-- what a member promises: it used x words and y locals at most on v visits, gives a register and does `op`
pub arrive : {t w o w' o' : List ℕ} {p : Scope} {s r : Step} {k a b : ℕ} {u : Cost} {op : Config → Run} (x y v : ℕ) → Way t w p s k a b w' p r u
    → u.words ≤ x + u.words_back → u.locals ≤ y + u.locals_back → u.names ≤ u.names_back → (y ≡ 0 → u.locals ≡ 0) → u.visits ≡ v
    → length o' ≡ length o → Small r → ((ps : List Proto) → Image p o s ps → After w' o' p r (bind (run w p s ps) op)) → Lowers w o p s w' o' r (takes x y v) op
arrive x y v h d e f z n l m g = record { does = record { moves = spends x y v d e f z n h; same = l; does = g }; small = m }

-- the same step under another name
pub likewise : {w o w' o' : List ℕ} {p : Scope} {s r : Step} {u : Cost} {m m' : M Chunk} → m ≡ m' → Lowers w o p s w' o' r u (fwd m) → Lowers w o p s w' o' r u (fwd m')
likewise e d = rw (sym e) d

-- the same visits, said with another term
pub recounted : {w o w' o' : List ℕ} {p : Scope} {s r : Step} {x y v v' : ℕ} {op : Config → Run} → v ≡ v' → Lowers w o p s w' o' r (takes x y v) op → Lowers w o p s w' o' r (takes x y v') op
recounted e d = rw (sym e) d

-- a refused step stays
pub refused_stays : {w o : List ℕ} {p : Scope} {s : Step} (u : Cost) (op : Config → Run) {k : Cause} {n : ℕ} → Fine w p s → outcome_of s ≡ Err (refusal k n) → Lowers w o p s w o s u op
refused_stays {w} {o} {p} {s} u op h e = record { does = leaf_does (leaf_absorbed u op h e) o; small = none_due (result_of s < 255) e }

-- a node without children, as a member: nothing is visited under it
pub leaf_lowers : {w o w' : List ℕ} {p : Scope} {s r : Step} {x y : ℕ} {op : Config → Run} (x' y' v' : ℕ) → x' ≡ x → y' ≡ y → v' ≡ 0 → Gives w p s w' r (uses x y 0) op → Lowers w o p s w' o r (takes x' y' v') op
leaf_lowers {o = o} x' y' v' e f n h = rw (e, f, n) (record { does = leaf_does h.leaf o; small = h.small })

-- ---- a visit is counted: nothing else changed

pub ticked_way : {t w w1 : List ℕ} {p : Scope} {s : Step} {k a b : ℕ} → Ready t w p s k a b → Ticked w w1 → Way t w p s k a b w1 p s (both nothing a_visit)
ticked_way h x = from h ▹ ticked_moves h.fine x

pub ticked_ready : {t w w1 : List ℕ} {p : Scope} {s : Step} {k : ℕ} → Ready t w p s k 0 0 → Ticked w w1 → Ready t w1 p s k 0 0
ticked_ready h x = stand _ 0 0 (ticked_way h x) (omega arith) (omega arith) (omega arith) (omega arith)

pub ticked_given : {t w w1 : List ℕ} {p : Scope} {s : Step} {i k : ℕ} → Given t w p s i k → Ticked w w1 → Given t w1 p s i k
ticked_given g x = record { ready = ticked_ready g.ready x; known = g.known }

-- what a routine did after its visit was counted, with the visit
pub ticked_lowers : {t w w1 o w' o' : List ℕ} {p : Scope} {s r : Step} {k x y v : ℕ} {op : Config → Run} → Ready t w p s k 0 0 → Ticked w w1 → Lowers w1 o p s w' o' r (takes x y v) op → Lowers w o p s w' o' r (takes x y (1 + v)) op
ticked_lowers {x = x} {y = y} {op = op} h n d =
    arrive _ _ _ (ticked_way h n ▹ d.does.moves) (omega arith) (omega arith) (omega arith) (λ z. omega arith) (omega arith) d.does.same d.small λ ps z.
    ends (d.does.does ps z) ((d.does.does ps z).runs ∙ ap (λ (c : Run). bind c op) (ticked_runs h.fine n ps))

-- a step after which a visit is counted
pub after_ticked : {w w1 o : List ℕ} {p : Scope} {s : Step} {x : Run} → Fine w p s → Ticked w w1 → After w o p s x → After w1 o p s x
after_ticked f n a = record { protos = a.protos; image = a.image; runs = ticked_runs f n a.protos ∙ a.runs }
