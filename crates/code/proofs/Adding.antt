-- A function's code becomes a prototype: its bytes follow those of the earlier ones, where they fit, and are counted always. Assumes nothing.
use mathlib.Core.Path.{◌≡◌, refl, sym, ap, ◌∙◌, subst}
use mathlib.Core.List.{List, [], ◌∷◌, ◌++◌}
use Prim.Native.Nat.{ℕ, ◌+◌, ◌*◌, ◌-◌, ◌≤◌, ◌<◌}
use native.Mathlib.Omega.{arith}
use lib.ListN.{length, get_or, take, drop, length-append}
use borrow.Author.Tests.{lt-ltb, le-ltb, eq-eqb, ne_eqb}
use Rattle.store.specs.declared.Step.{Step}
use Rattle.store.specs.declared.Scope.{Scope}
use Rattle.store.specs.Table.{tab}
use Rattle.store.specs.Layout.{inst_at}
use Rattle.store.specs.Store.{top_of, depth_of, outcome_of, pc_of, functions_of, result_of, open_at, state_of, config_of, run, refused_step, prototype_more, code_tag, Written, image_by, written_by, Image, Fine}
use Rattle.store.specs.Promise.{nothing}
use Rattle.store.proofs.Tables.{tab_length, tab_take, tab_drop}
use Rattle.store.proofs.Regions.{below_256}
use Rattle.store.proofs.Runs.{goes, none_due, run_stopped, stays, image_none}
use Rattle.store.proofs.Refusals.{refused_outcome, refused_moves, refused_small, stopped_small, shallow}
use Rattle.meaning.specs.Images.{inst_size}
use Rattle.meaning.specs.Image.{proto_bytes}
use Rattle.meaning.specs.State.{State, Proto, refuse, if_then, add_prototype}
use Rattle.meaning.specs.declared.Cause.{Cause}
use Rattle.meaning.specs.declared.Cause.TheVariants.{Long, Prototypes}
use Rattle.meaning.specs.declared.Instruction.{Instruction}
use Rattle.std.specs.Prelude.{Ok, Err}
use Rattle.meaning.specs.Outcome.{Outcome, refusal}
use Rattle.forward.specs.Forward.{Config, config, Run, stopped, bind, on, fwd_by}
use Rattle.image.specs.Output.{Placed, proto_of}
use Rattle.code.specs.Cuts.{adding, Adds}
use Rattle.writers.proofs.Bytes.{protos_append}
use Rattle.image.proofs.Bytes.{short_inst, few_bytes, proto_size}
use Rattle.writers.proofs.Splicing.{spliced_take}

-- ---- what the definition does with the code from `first` on, of which there are k instructions

module _ (f : ℕ → Instruction) (first k node params r : ℕ) (t : State) where
  abbrev before : Config
  before = config (tab f (first + k)) r t

  size : length (drop first (tab f (first + k))) ≡ k
  size = ap length (tab_drop f first k) ∙ tab_length (λ i. f (first + i)) k

  pub too_long : 32766 < k → stopped Long node ≡ adding first node params before
  unfolding fwd_by add_prototype if_then refuse on
  too_long h = rw (size, lt-ltb 32767 (k + 1) (omega arith))

  pub too_many : k ≤ 32766 → length t.prototypes ≡ 256 → stopped Prototypes node ≡ adding first node params before
  unfolding fwd_by add_prototype if_then refuse on
  too_many h e = rw (size, le-ltb 32767 (k + 1) (omega arith), eq-eqb (length t.prototypes) 256 e)

-- what is written while nothing is refused
pub was_written : {x : ℕ} (p : Scope) (o : List ℕ) (s : Step) (ps : List Proto) → outcome_of s ≡ Ok x → Image p o s ps → Written (code_tag p) o x (functions_of s) ps
was_written {x} p o s ps e i = by (outcome_of s) e i
  where
    by : (y : Outcome) → y ≡ Ok x → image_by (code_tag p) y o (functions_of s) ps → Written (code_tag p) o x (functions_of s) ps
    by y k h = rw k at h

-- ---- the step, where a prototype is added

module _ {w : List ℕ} {p : Scope} {s : Step} {x : ℕ} (first node params : ℕ) (fine : Fine w p s) (on : outcome_of s ≡ Ok x) (le : first ≤ pc_of s) where
  abbrev count : ℕ
  count = pc_of s - first

  abbrev f : ℕ → Instruction
  f = inst_at w (top_of p)

  whole : first + (pc_of s - first) ≡ pc_of s
  whole = omega arith

  taken_code : take first (tab f (pc_of s)) ≡ tab f first
  taken_code = ap (λ k. take first (tab f k)) (sym whole) ∙ tab_take f first count

  dropped_code : drop first (tab f (pc_of s)) ≡ tab (λ i. f (first + i)) (pc_of s - first)
  dropped_code = ap (λ k. drop first (tab f k)) (sym whole) ∙ tab_drop f first count

  opened : (ps : List Proto) (op : Config → Run) → bind (run w p s ps) op ≡ op (config_of w p s ps)
  unfolding run bind
  opened ps op = rw on

  refused_runs : (cause : Cause) (ps : List Proto) → stopped cause node ≡ adding first node params (config_of w p s ps) → run w p (refused_step s cause node) ps ≡ bind (run w p s ps) (adding first node params)
  refused_runs cause ps h = run_stopped w p (refused_step s cause node) ps cause node (refused_outcome s cause node on) ∙ h ∙ sym (opened ps (adding first node params))

  pub long_runs : 32766 < pc_of s - first → (ps : List Proto) → run w p (refused_step s Long node) ps ≡ bind (run w p s ps) (adding first node params)
  unfolding config_of
  long_runs h ps = refused_runs Long ps (too_long f first count node params (result_of s) (state_of w p s ps) h ∙ ap (λ k. adding first node params (config (tab f k) (result_of s) (state_of w p s ps))) whole)

  pub many_runs : pc_of s - first ≤ 32766 → (ps : List Proto) → length ps ≡ 256 → run w p (refused_step s Prototypes node) ps ≡ bind (run w p s ps) (adding first node params)
  unfolding config_of state_of
  many_runs h ps e = refused_runs Prototypes ps (too_many f first count node params (result_of s) (state_of w p s ps) h e ∙ ap (λ k. adding first node params (config (tab f k) (result_of s) (state_of w p s ps))) whole)

  pub added_runs : (end : ℕ) → pc_of s - first ≤ 32766 → ¬ (functions_of s ≡ 256) → (ps : List Proto) → functions_of s ≡ length ps
      → run w p (prototype_more s first end) (ps ++ proto_of w (top_of p) (depth_of p) first (pc_of s - first) params ∷ []) ≡ bind (run w p s ps) (adding first node params)
  unfolding run config_of state_of open_at fwd_by add_prototype if_then on
  added_runs end h ne ps e =
      let n : length (tab (λ i. f (first + i)) (pc_of s - first)) ≡ pc_of s - first = tab_length (λ i. f (first + i)) (pc_of s - first) in
      sym (opened ps (adding first node params) ∙ rw (dropped_code, taken_code, n, le-ltb 32767 (pc_of s - first + 1) (omega arith), ne_eqb (length ps) 256 (rw e at ne), sym e))

  abbrev bytes : List ℕ
  bytes = proto_bytes (code_tag p) (proto_of w (top_of p) (depth_of p) first (pc_of s - first) params ∷ [])

  -- written where it fits
  pub added_image : {o o' : List ℕ} {end : ℕ} → Placed o x bytes o' end → (ps : List Proto) → Image p o s ps → Image p o' (prototype_more s first end) (ps ++ proto_of w (top_of p) (depth_of p) first (pc_of s - first) params ∷ [])
  added_image {o} {o'} {end} placed ps i = by_written (was_written p o s ps on i)
    where
      all : proto_bytes (code_tag p) (ps ++ proto_of w (top_of p) (depth_of p) first (pc_of s - first) params ∷ []) ≡ proto_bytes (code_tag p) ps ++ bytes
      all = protos_append (code_tag p) ps (proto_of w (top_of p) (depth_of p) first (pc_of s - first) params ∷ [])

      by_written : Written (code_tag p) o x (functions_of s) ps → Written (code_tag p) o' end (functions_of s + 1) (ps ++ proto_of w (top_of p) (depth_of p) first (pc_of s - first) params ∷ [])
      by_written h =
          record {
            counted = omega (arith, h.counted, length-append ps (proto_of w (top_of p) (depth_of p) first (pc_of s - first) params ∷ []));
            sized = omega (arith, placed.ends, h.sized, length-append (proto_bytes (code_tag p) ps) bytes) ∙ sym (ap length all);
            bytes = λ fits.
                let z = placed.fits (omega (arith, placed.same)) in
                ap (λ k. take k o') placed.ends ∙ spliced_take z ∙ ap (λ l. l ++ bytes) (h.bytes (omega (arith, z.fits))) ∙ sym all;
          }

  pub added_fine : {o o' : List ℕ} {end : ℕ} → Placed o x bytes o' end → pc_of s - first ≤ 32766 → ¬ (functions_of s ≡ 256) → Fine w p (prototype_more s first end)
  added_fine placed h ne =
      let wr : x ≤ 370000 * functions_of s = rw on at fine.written in
      let n = proto_size (code_tag p) w (top_of p) (depth_of p) first (pc_of s - first) params in
      let few = few_bytes (pc_of s - first + 1) (3 + inst_size (code_tag p)) (omega arith) (short_inst (code_tag p)) in
      let small = below_256 (get_or w (3074 + 8 * depth_of p) 0) in
      record {
        sound = fine.sound;
        nested = shallow s fine on;
        room = omega (arith, fine.room);
        constants = fine.constants;
        globals = fine.globals;
        functions = omega (arith, fine.functions);
        written = omega (arith, wr, n, few, small, placed.ends);
        result = omega (arith, fine.functions);
      }

pub written_few : {w : List ℕ} {p : Scope} (s : Step) {x : ℕ} → Fine w p s → outcome_of s ≡ Ok x → x ≤ 370000 * functions_of s
written_few s {x} fine e = by (outcome_of s) e fine.written
  where
    by : (y : Outcome) → y ≡ Ok x → written_by y ≤ 370000 * functions_of s → x ≤ 370000 * functions_of s
    by y k h = rw k at h

-- ---- the promise, in each case

pub adds_absorbed : {w o : List ℕ} {p : Scope} {s : Step} {cause : Cause} {place : ℕ} (first node params : ℕ) → Fine w p s → outcome_of s ≡ Err (refusal cause place) → Adds first w o p s o s node params
adds_absorbed {w} {o} {p} {s} {cause} {place} first node params fine off =
    record {
      fine = fine;
      same = refl;
      back = λ g. g;
      code = none_due _ off;
      longer = λ h. h;
      constants = refl;
      globals = refl;
      index = omega (arith, stopped_small s fine off);
      does = λ ps i. record { protos = ps; image = i; runs = stays w w p p s s (adding first node params) cause place off off ps };
    }

module _ {w o : List ℕ} {p : Scope} {s : Step} {x : ℕ} (first node params : ℕ) (fine : Fine w p s) (on : outcome_of s ≡ Ok x) (le : first ≤ pc_of s) where
  adds_refused : (cause : Cause) → ((ps : List Proto) → Image p o s ps → run w p (refused_step s cause node) ps ≡ bind (run w p s ps) (adding first node params)) → Adds first w o p s o (refused_step s cause node) node params
  adds_refused cause runs =
      let m = refused_moves {w = w} {p = p} s cause node nothing fine on in
      let off = refused_outcome s cause node on in
      record {
        fine = m.fine;
        same = refl;
        back = m.back;
        code = none_due _ off;
        longer = λ h. h;
        constants = refl;
        globals = refl;
        index = omega (arith, refused_small s cause node fine);
        does = λ ps i. record { protos = ps; image = image_none p s (refused_step s cause node) off o ps i; runs = runs ps i };
      }

  pub adds_long : 32766 < pc_of s - first → Adds first w o p s o (refused_step s Long node) node params
  adds_long h = adds_refused Long (λ ps i. long_runs first node params fine on le h ps)

  pub adds_many : pc_of s - first ≤ 32766 → functions_of s ≡ 256 → Adds first w o p s o (refused_step s Prototypes node) node params
  adds_many h e = adds_refused Prototypes (λ ps i. many_runs first node params fine on le h ps (sym (was_written p o s ps on i).counted ∙ e))

  pub adds_done : {o' : List ℕ} {end tag : ℕ} → pc_of s - first ≤ 32766 → ¬ (functions_of s ≡ 256) → tag ≡ code_tag p
      → Placed o x (proto_bytes tag (proto_of w (top_of p) (depth_of p) first (pc_of s - first) params ∷ [])) o' end → Adds first w o p s o' (prototype_more s first end) node params
  adds_done {o'} {end} h ne e placed-so =
      let placed = subst (λ t. Placed o x (proto_bytes t (proto_of w (top_of p) (depth_of p) first (pc_of s - first) params ∷ [])) o' end) e placed-so in
      record {
        fine = added_fine first node params fine on le placed h ne;
        same = placed.same;
        back = λ g. goes on;
        code = refl;
        longer = λ z. omega arith;
        constants = refl;
        globals = refl;
        index = omega (arith, fine.functions);
        does = λ ps i.
            record {
              protos = ps ++ proto_of w (top_of p) (depth_of p) first (pc_of s - first) params ∷ [];
              image = added_image first node params fine on le placed ps i;
              runs = added_runs first node params fine on le end h ne ps (was_written p o s ps on i).counted;
            };
      }
