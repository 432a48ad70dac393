-- How promises follow one another: what was used adds up, room is passed on, runs follow runs.
use Rattle.std.proofs.Common.{◌≡◌, ℕ, zero, suc, ◌+◌, ◌*◌, ◌%◌, ◌<◌, ◌≤◌, min, List, length, get_or, sym, refl, ap, ◌∙◌, arith}
use Rattle.store.specs.declared.Step.{Step}
use Rattle.store.specs.declared.Scope.{Scope}
use Rattle.store.specs.Table.{tab}
use Rattle.store.specs.Layout.{visited, inst_at}
use Rattle.store.specs.Store.{top_of, run_by, run, open_at, state_of, config_of, refused_by, refused_step, with_result, result_limit, Image, Fine}
use Rattle.store.specs.Promise.{Cost, both, nothing, taken, Roomy, Space, Used, Moves, Leaf, Tells, After, Does}
use Rattle.store.proofs.Regions.{below_256, same_count}
use Rattle.store.proofs.Runs.{due, promised, kept_refl, kept_in, absorbed, image_same, image_none}
use Rattle.store.proofs.Steady.{fine_step}
use Rattle.store.proofs.Refusals.{refused_moves, refused_again, refused_outcome}
use Rattle.store.proofs.Tables.{tab_length}
use Rattle.meaning.specs.State.{State, Proto, get}
use Rattle.meaning.specs.declared.Instruction.{Instruction}
use Rattle.meaning.specs.declared.Cause.{Cause}
use Rattle.std.specs.Prelude.{Ok, Err}
use Rattle.meaning.specs.Outcome.{Outcome}
use Rattle.forward.specs.Forward.{Config, config, Run, stopped, going, bind, sure, give}
use Rattle.forward.proofs.Calls.{Seen, seen, Known, finally, read, chain}
use Rattle.forward.proofs.Opened.{answers_get}

-- ---- what was used

pub used_then : {w w1 w2 : List ℕ} {p q t : Scope} {s s1 s2 : Step} {u v : Cost} → Used w p s w1 q s1 u → Used w1 q s1 w2 t s2 v → Used w p s w2 t s2 (both u v)
used_then g h =
    record {
      words = omega (arith, g.words, h.words);
      locals = omega (arith, g.locals, h.locals);
      names = omega (arith, g.names, h.names);
      registers = omega (arith, g.registers, h.registers);
      visits = omega (arith, g.visits, h.visits);
    }

-- nothing happened yet
pub none_moved : {w : List ℕ} {p : Scope} {s : Step} → Fine w p s → Moves w p s w p s nothing
none_moved {w} {p} {s} h =
    record {
      fine = h;
      kept = kept_refl w p;
      back = λ g. g;
      used = promised s.outcome (λ g. record { words = omega arith; locals = omega arith; names = omega arith; registers = omega arith; visits = same_count refl });
      longer = omega arith;
      still = λ z. refl;
    }

-- THE LAW OF COMPOSITION: a step, and a step in the same scope or one within it
pub moves_then : {w w1 w2 : List ℕ} {p q t : Scope} {s s1 s2 : Step} {u v : Cost} → p.nodes ≡ q.nodes → p.depth ≤ q.depth → p.block ≤ q.block → Moves w p s w1 q s1 u → Moves w1 q s1 w2 t s2 v → Moves w p s w2 t s2 (both u v)
moves_then {w} {w1} {w2} {p} {q} {t} {s} {s1} {s2} {u} {v} n d b g h =
    record {
      fine = h.fine;
      kept = kept_in n d b g.kept h.kept;
      back = λ x. g.back (h.back x);
      used = promised s2.outcome (λ x. used_then (due s1.outcome g.used (h.back x)) (due s2.outcome h.used x));
      longer = omega (arith, g.longer, h.longer);
      still = λ z. h.still (omega arith) ∙ g.still (omega arith);
    }

-- the same cost, said with other numbers: what is used less what is given back is no less
pub moves_by : {w w' : List ℕ} {p q : Scope} {s r : Step} {u : Cost} (v : Cost) → u.words + v.words_back ≤ v.words + u.words_back → u.locals + v.locals_back ≤ v.locals + u.locals_back → u.names + v.names_back ≤ v.names + u.names_back → (v.locals ≡ 0 → u.locals ≡ 0) → u.visits ≡ v.visits
    → Moves w p s w' q r u → Moves w p s w' q r v
moves_by {w} {w'} {p} {q} {s} {r} {u} v a b c z y g =
    record { fine = g.fine; kept = g.kept; back = g.back; used = promised r.outcome (λ x. again (due r.outcome g.used x)); longer = g.longer; still = λ e. g.still (z e) }
  where
    again : Used w p s w' q r u → Used w p s w' q r v
    again h = record { words = omega (arith, h.words); locals = omega (arith, h.locals); names = omega (arith, h.names); registers = h.registers; visits = h.visits ∙ ap (λ n. (visited w + n) % 4294967296) y }

-- ---- room

-- eight functions have at most 2,040 registers
pub taken_few : (w : List ℕ) (d : ℕ) → taken w d ≤ 255 * suc d
unfolding taken
taken_few w zero = omega (arith, below_256 (get_or w 3073 0))
taken_few w (suc d) = omega (arith, taken_few w d, below_256 (get_or w (3073 + 8 * suc d) 0))

pub room_then : {w w' : List ℕ} {p q : Scope} {s r : Step} {u : Cost} (k a b : ℕ) → p.nodes ≡ q.nodes → u.names + min 2 p.block ≤ u.names_back + min 2 q.block → Moves w p s w' q r u → Space w p s k (a + u.words) (b + u.locals) → Space w' q r k (a + u.words_back) (b + u.locals_back)
room_then {w} {w'} {p} {q} {s} {r} {u} k a b n m g h = record { roomy = promised r.outcome (λ x. after (due r.outcome g.used x) (due s.outcome h.roomy (g.back x))) }
  where
    after : Used w p s w' q r u → Roomy w p s k (a + u.words) (b + u.locals) → Roomy w' q r k (a + u.words_back) (b + u.locals_back)
    after i j = record { words = omega (arith, i.words, j.words); locals = omega (arith, i.locals, j.locals); globals = omega (arith, i.names, j.globals) }

-- nodes, said as words and locals; less room
pub room_by : {w : List ℕ} {p : Scope} {s : Step} {k a b : ℕ} (k' a' b' : ℕ) → 8 * k' + a' ≤ 8 * k + a → k' + b' ≤ k + b → Space w p s k a b → Space w p s k' a' b'
room_by {w} {p} {s} {k} {a} {b} k' a' b' x y h = record { roomy = promised s.outcome (λ g. less (due s.outcome h.roomy g)) }
  where
    less : Roomy w p s k a b → Roomy w p s k' a' b'
    less j = record { words = omega (arith, j.words); locals = omega (arith, j.locals); globals = j.globals }

-- ---- runs

-- a leaf, among steps that write to the output
pub leaf_after : {w w' : List ℕ} {p q : Scope} {s r : Step} {u : Cost} {op : Config → Run} → Leaf w p s w' q r u op → (o : List ℕ) (ps : List Proto) → Image p o s ps → After w' o q r (bind (run w p s ps) op)
leaf_after g o ps i = record { protos = ps; image = g.image o ps i; runs = g.runs ps }

pub leaf_does : {w w' : List ℕ} {p q : Scope} {s r : Step} {u : Cost} {op : Config → Run} → Leaf w p s w' q r u op → (o : List ℕ) → Does w o p s w' o q r u op
leaf_does g o = record { moves = g.moves; same = refl; does = leaf_after g o }

-- what the code reads from a step
abbrev pub seen_of : Step → Seen
seen_of s = record { code = s.pc; result = s.result }

known_by : (o : Outcome) (c : Config) (s : Seen) → s.code ≡ length c.code → s.result ≡ c.result → Known (run_by o c) s
known_by (Ok x) c s h k =
    record { size = λ d e. h ∙ ap (λ (y : Config). length y.code) (same d e); value = λ d e. k ∙ ap (λ (y : Config). y.result) (same d e) }
  where
    same : (d : Config) → going c ≡ going d → c ≡ d
    same d e = cc
known_by (Err why) c s h k = record { size = λ d e. absurd (apart d e); value = λ d e. absurd (apart d e) }
  where
    apart : (d : Config) → stopped why.cause why.place ≡ going d → ⊥
    apart d e = let z : ◌≡◌ {A = ℕ} 0 1 = cc in omega arith

pub known : (w : List ℕ) (p : Scope) (s : Step) (ps : List Proto) → Known (run w p s ps) (seen_of s)
unfolding run config_of
known w p s ps = known_by s.outcome (config_of w p s ps) (seen_of s) (sym (tab_length (inst_at w (top_of p)) s.pc)) refl

-- a leaf, and one that reads the step between them
pub leaf_read : {w w1 w2 : List ℕ} {p q t : Scope} {s s1 s2 : Step} {u v : Cost} (f : Config → Run) (g : Seen → Config → Run) → p.nodes ≡ q.nodes → p.depth ≤ q.depth → p.block ≤ q.block → Leaf w p s w1 q s1 u f → Leaf w1 q s1 w2 t s2 v (g (seen_of s1))
    → Leaf w p s w2 t s2 (both u v) (λ c. bind (f c) (λ d. g (seen d) d))
leaf_read {w} {w1} {w2} {p} {q} {t} {s} {s1} {s2} f g n d b x y =
    record {
      moves = moves_then n d b x.moves y.moves;
      runs = λ ps. chain (read f (λ z. finally (g z))) (λ c. bind (f c) (λ d. g (seen d) d)) (λ c. refl) (run w p s ps) (run w1 q s1 ps) (x.runs ps) (seen_of s1) (known w1 q s1 ps) (run w2 t s2 ps) (y.runs ps);
      image = λ o ps i. y.image o ps (x.image o ps i);
    }

-- ---- steps that no word shows

result_by_cases : (o : Outcome) (l : List Instruction) (r r' : ℕ) (t : State) → run_by o (config l r' t) ≡ bind (run_by o (config l r t)) (sure (give r'))
unfolding bind
result_by_cases (Ok x) l r r' t = refl
result_by_cases (Err why) l r r' t = refl

by_result : (w : List ℕ) (p : Scope) (s : Step) (r : ℕ) (ps : List Proto) → run w p (with_result s r) ps ≡ bind (run w p s ps) (sure (give r))
unfolding run config_of state_of
by_result w p s r ps = result_by_cases s.outcome (tab (inst_at w (top_of p)) s.pc) s.result r (state_of w p s ps)

-- settle: the result register
pub settled : {w : List ℕ} {p : Scope} (s : Step) (r : ℕ) → r < 255 → Fine w p s → Leaf w p s w p (with_result s r) nothing (sure (give r))
settled {w} {p} s r small h =
    record {
      moves =
          record {
            fine = fine_step (with_result s r) h h.nested (omega arith) h.constants h.globals refl (omega arith) (limit s.outcome);
            kept = kept_refl w p;
            back = λ g. g;
            used = promised s.outcome (λ g. record { words = omega arith; locals = omega arith; names = omega arith; registers = omega arith; visits = same_count refl });
            longer = omega arith;
            still = λ z. refl;
          };
      runs = λ ps. by_result w p s r ps;
      image = image_same p s (with_result s r) refl refl;
    }
  where
    limit : (o : Outcome) → r < result_limit o
    limit (Ok x) = omega arith
    limit (Err why) = small

-- refuse: at once, or before
refused_runs : (w : List ℕ) (p : Scope) (s : Step) (k : Cause) (n : ℕ) (ps : List Proto) → run w p (refused_step s k n) ps ≡ bind (run w p s ps) (λ c. stopped k n)
unfolding run bind
refused_runs w p s k n ps = cases s.outcome (config_of w p (refused_step s k n) ps) (config_of w p s ps)
  where
    cases : (o : Outcome) (c d : Config) → run_by (refused_by o k n) c ≡ bind (run_by o d) (λ c. stopped k n)
    cases (Ok x) c d = refl
    cases (Err why) c d = refl

pub refused_leaf : {w : List ℕ} {p : Scope} (s : Step) (k : Cause) (n : ℕ) (u : Cost) → Fine w p s → Leaf w p s w p (refused_step s k n) u (λ c. stopped k n)
refused_leaf {w} {p} s k n u h = record { moves = moves s.outcome refl; runs = refused_runs w p s k n; image = λ o ps i. image s.outcome refl o ps i }
  where
    moves : (o : Outcome) → s.outcome ≡ o → Moves w p s w p (refused_step s k n) u
    moves (Ok x) e = refused_moves s k n u h e
    moves (Err why) e = rw (← (refused_again s k n e)) (absorbed u h e)

    image : (x : Outcome) → s.outcome ≡ x → (o : List ℕ) (ps : List Proto) → Image p o s ps → Image p o (refused_step s k n) ps
    image (Ok x) e = image_none p s (refused_step s k n) (refused_outcome s k n e)
    image (Err why) e = image_same p s (refused_step s k n) (sym (ap (λ (z : Step). z.outcome) (refused_again s k n e))) refl

-- a question to the state, whose answer the words give
pub told_of : {A : Type 0} (w : List ℕ) (p : Scope) (s : Step) (f : State → A) (a : A) → ((ps : List Proto) → f (state_of w p s ps) ≡ a) → Tells w p s a (get f)
unfolding run config_of
told_of {A} w p s f a h ps = answers_get (run w p s ps) f a (λ c e. told s.outcome c e)
  where
    told : (o : Outcome) (c : Config) → run_by o (config_of w p s ps) ≡ going c → f c.state ≡ a
    told (Ok x) c e = let g : config_of w p s ps ≡ c = cc in sym (ap (λ (y : Config). f y.state) g) ∙ h ps
    told (Err why) c e = absurd (let z : ◌≡◌ {A = ℕ} 0 1 = cc in omega arith)

-- the number of open loops of the current function, which refusal 11 asks for
pub loops_told : (w : List ℕ) (p : Scope) (s : Step) → Tells w p s p.loops (get (λ t. t.current.loops))
unfolding state_of open_at
loops_told w p s = told_of w p s (λ t. t.current.loops) p.loops (λ ps. refl)
