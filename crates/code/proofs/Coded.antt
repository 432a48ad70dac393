-- A step that changes the pending code alone keeps its promise if the instructions are as the operation wants them; one that refuses changes no word.
-- Assumes nothing.
use mathlib.Core.Path.{◌≡◌, refl, ap, ◌∙◌}
use mathlib.Core.List.{List, [], ◌∷◌, ◌++◌}
use Prim.Native.Nat.{ℕ, ◌+◌, ◌*◌, ◌-◌, ◌<◌, ◌≤◌}
use native.Mathlib.Omega.{arith}
use lib.ListN.{length, set, length-append}
use Rattle.store.specs.declared.Step.{Step}
use Rattle.store.specs.declared.Scope.{Scope}
use Rattle.store.specs.Table.{tab}
use Rattle.store.specs.Layout.{first_local, edge, inst_at}
use Rattle.store.specs.Store.{nodes_of, top_of, depth_of, block_of, outcome_of, pc_of, constants_of, globals_of, result_of, state_of, config_of, run_by, run, while_going, result_limit, advanced, refused_step, Fine}
use Rattle.store.specs.Promise.{uses, Cost, Space, Leaf}
use Rattle.store.proofs.Tables.{tab_length}
use Rattle.store.proofs.Regions.{Same, Only, below, same_count, constants_same, globals_same}
use Rattle.store.proofs.Runs.{due, promised, goes}
use Rattle.store.proofs.Refusals.{refused_moves, shallow}
use Rattle.store.proofs.Compose.{taken_few, moves_then}
use Rattle.store.proofs.Steady.{Clear, sound_apart, kept_apart, edge_apart, open_apart, around_apart, taken_apart}
use Rattle.meaning.specs.Opcode.{inst_bx, Jmp}
use Rattle.meaning.specs.State.{State, Proto}
use Rattle.meaning.specs.declared.Cause.{Cause}
use Rattle.std.specs.Prelude.{Ok, Err}
use Rattle.meaning.specs.Outcome.{Outcome}
use Rattle.meaning.specs.declared.Instruction.{Instruction}
use Rattle.forward.specs.Forward.{Config, config, Run, stopped, going, bind, sure, give, jump_here}
use Rattle.code.proofs.Writing.{Spelled, spelled}

-- a fact that is due, where nothing is refused
pub met : {P : Type 0} {o : Outcome} {x : ℕ} → o ≡ Ok x → while_going o P → P
met {o = o} e h = due o h (goes e)

-- the potential leaves room for a words
pub room_for : {w : List ℕ} {p : Scope} {s : Step} {x : ℕ} (a : ℕ) → Fine w p s → outcome_of s ≡ Ok x → Space w p s 0 a 0 → first_local (nodes_of p) + 2 * pc_of s + edge w (nodes_of p) (block_of p) + a ≤ top_of p
room_for {w} {p} {s} a fine on room = omega (arith, (met on room.roomy).words, taken_few w (depth_of p), shallow s fine on)

-- ---- the code alone

pub result_small : {w : List ℕ} {p : Scope} {s : Step} {x : ℕ} → Fine w p s → outcome_of s ≡ Ok x → result_of s < 1024
result_small {w} {p} {s} fine on = cases (outcome_of s) on fine.result
  where
    cases : {x : ℕ} (o : Outcome) → o ≡ Ok x → result_of s < result_limit o → result_of s < 1024
    cases (Ok y) e h = h
    cases (Err why) e h = omega arith

-- what is written starts with the code that there is
pub starts : {w : List ℕ} {p : Scope} {s : Step} → Fine w p s → Spelled w w (top_of p) (first_local (nodes_of p) + edge w (nodes_of p) (block_of p)) (pc_of s) (tab (inst_at w (top_of p)) (pc_of s))
starts {w} {p} {s} fine = spelled w (top_of p) (first_local (nodes_of p) + edge w (nodes_of p) (block_of p)) (pc_of s) (omega (arith, fine.room)) (omega (arith, fine.sound.long))

module _ {w w' : List ℕ} {p : Scope} {s : Step} {x : ℕ} (fine : Fine w p s) (on : outcome_of s ≡ Ok x) (only : Only w w' (first_local (nodes_of p) + edge w (nodes_of p) (block_of p)) (top_of p)) where
  clear : Clear w p (first_local (nodes_of p) + edge w (nodes_of p) (block_of p)) (top_of p)
  clear = (λ c h k l. absurd (omega arith), λ c h l. h)

  frames : Same w w' 3072 4168
  frames = below 3072 4168 (omega arith) only

  state_same : (ps : List Proto) → state_of w' p s ps ≡ state_of w p s ps
  unfolding state_of
  state_same ps =
      let deep = shallow s fine on in
      rw (
        constants_same w w' (constants_of s) (below 0 (3 * constants_of s) (omega (arith, fine.constants)) only),
        globals_same w w' (globals_of s) (omega (arith, fine.constants, fine.globals)) (below 4168 4688 (omega arith) only),
        open_apart fine.sound deep only clear frames,
        around_apart fine.sound deep only clear frames,
      )

-- k instructions l are there at last, and the operation wants them and the result v
pub coded : {w w' : List ℕ} {p : Scope} {s : Step} {x k : ℕ} {l : List Instruction} (v a : ℕ) (op : Config → Run)
    → Fine w p s → outcome_of s ≡ Ok x → Spelled w w' (top_of p) (first_local (nodes_of p) + edge w (nodes_of p) (block_of p)) k l → pc_of s ≤ k → 2 * k ≤ 2 * pc_of s + a → v < 1024
    → ((t : State) → going (config l v t) ≡ op (config (tab (inst_at w (top_of p)) (pc_of s)) (result_of s) t))
    → Leaf w p s w' p (advanced s k v) (uses a 0 0) op
unfolding run config_of state_of bind
coded {w} {w'} {p} {s} {k = k} v a op fine on written le most small wants =
    let only = written.only in
    let deep = shallow s fine on in
    let e = edge_apart fine.sound deep only (clear fine on only) (frames fine on only) in
    let t = taken_apart fine.sound deep only (clear fine on only) (frames fine on only) in
    record {
      moves =
          record {
            fine =
                record {
                  sound = sound_apart fine.sound deep only (clear fine on only) (frames fine on only);
                  nested = fine.nested;
                  room = omega (arith, written.room, e);
                  constants = fine.constants;
                  globals = fine.globals;
                  functions = fine.functions;
                  written = fine.written;
                  result = rw on small;
                };
            kept = kept_apart fine.sound deep only (clear fine on only) (frames fine on only);
            back = λ g. g;
            used = promised (outcome_of s) (λ g. record { words = omega (arith, e, t, most); locals = omega (arith, e, t); names = omega arith; registers = omega (arith, t); visits = same_count ((frames fine on only).same 3077 (omega arith) (omega arith)) });
            longer = le;
            still = λ z. e;
          };
      runs = λ ps. rw on (rw (written.code, state_same fine on only ps) (wants (state_of w p s ps)));
      image = λ o ps i. i;
    }

-- an operation that comes to the same
pub leaf_as : {w w' : List ℕ} {p q : Scope} {s r : Step} {u : Cost} (op op' : Config → Run) → ((t : State) → op (config (tab (inst_at w (top_of p)) (pc_of s)) (result_of s) t) ≡ op' (config (tab (inst_at w (top_of p)) (pc_of s)) (result_of s) t))
    → Leaf w p s w' q r u op → Leaf w p s w' q r u op'
unfolding run config_of bind
leaf_as {w} {w'} {p} {q} {s} {r} op op' same leaf = record { moves = leaf.moves; runs = λ ps. leaf.runs ps ∙ cases ps (outcome_of s); image = leaf.image }
  where
    cases : (ps : List Proto) (o : Outcome) → bind (run_by o (config_of w p s ps)) op ≡ bind (run_by o (config_of w p s ps)) op'
    cases ps (Ok x) = same (state_of w p s ps)
    cases ps (Err why) = refl

-- a step that refuses
pub refusing : {w : List ℕ} {p : Scope} {s : Step} {x : ℕ} (u : Cost) (op : Config → Run) (cause : Cause) (node : ℕ) → Fine w p s → outcome_of s ≡ Ok x
    → ((t : State) → stopped cause node ≡ op (config (tab (inst_at w (top_of p)) (pc_of s)) (result_of s) t))
    → Leaf w p s w p (refused_step s cause node) u op
unfolding run config_of state_of bind
refusing {w} {p} {s} u op cause node fine on wants =
    record { moves = refused_moves s cause node u fine on; runs = λ ps. rw on (wants (state_of w p s ps)); image = rw on (λ o ps i. tt) }

-- ---- two steps, one after the other

-- the words that the first leaves
pub room_after : {w w1 : List ℕ} {p : Scope} {s s1 : Step} {op : Config → Run} (a b : ℕ) → Space w p s 0 (a + b) 0 → Leaf w p s w1 p s1 (uses a 0 0) op → Space w1 p s1 0 b 0
room_after {w} {w1} {p} {s} {s1} a b room one =
    record {
      roomy = promised (outcome_of s1) λ g.
          let r = due (outcome_of s) room.roomy (one.moves.back g) in
          let u = due (outcome_of s1) one.moves.used g in
          record { words = omega (arith, r.words, u.words); locals = omega (arith, r.locals, u.locals); globals = omega (arith, r.globals, u.names) };
    }

pub sure_after : {w w1 w2 : List ℕ} {p : Scope} {s s1 s2 : Step} {a b : ℕ} (f g : Config → Config) → Leaf w p s w1 p s1 (uses a 0 0) (sure f) → Leaf w1 p s1 w2 p s2 (uses b 0 0) (sure g) → Leaf w p s w2 p s2 (uses (a + b) 0 0) (sure (λ c. g (f c)))
unfolding bind
sure_after f g one two =
    record {
      moves = moves_then refl (omega arith) (omega arith) one.moves two.moves;
      runs = λ ps. two.runs ps ∙ rw (one.runs ps) (twice _);
      image = λ o ps i. two.image o ps (one.image o ps i);
    }
  where
    twice : (r : Run) → bind (bind r (sure f)) (sure g) ≡ bind r (sure (λ c. g (f c)))
    twice (stopped k n) = refl
    twice (going c) = refl

-- ---- a jump that is set to the end of the code, behind which the instruction i was just written

pub jumped : (f : ℕ → Instruction) (k test mark v r : ℕ) (i : Instruction) (t : State) → going (config (set (tab f k ++ i ∷ []) (test + 1) (inst_bx Jmp 0 (k - test) mark)) v t) ≡ going (give v (jump_here test mark (config (tab f k ++ i ∷ []) r t)))
unfolding jump_here
jumped f k test mark v r i t =
    let n : k - test ≡ length (tab f k ++ i ∷ []) - (test + 1) = simp length-append (omega (arith, tab_length f k)) in
    ap (λ n. going (config (set (tab f k ++ i ∷ []) (test + 1) (inst_bx Jmp 0 n mark)) v t)) n
