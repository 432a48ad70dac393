-- A whole program: its statements, the prototype of main, the constants. The run that the words stand for at the end is the definition's `lower_program`.
use mathlib.Core.Path.{◌≡◌, refl, sym, ap, subst, ◌∙◌}
use mathlib.Core.Bool.{Bool}
use mathlib.Core.List.{List, []}
use Prim.Native.Nat.{ℕ, ◌+◌, ◌-◌, ◌<◌, ◌≤◌}
use native.Mathlib.Omega.{arith}
use lib.ListN.{length}
use Rattle.meaning.specs.Fields.{fields}
use Rattle.meaning.specs.Grammar.{wide_marks}
use Rattle.meaning.specs.Check.{checked}
use Rattle.meaning.specs.At.{extra, count_of, stmts_at}
use Rattle.meaning.specs.Read.{read_program}
use Rattle.meaning.specs.State.{Res, refused, done}
use Rattle.meaning.specs.Lower.{lower_stmts, lower_program}
use Rattle.meaning.specs.Answer.{Finished, imaged, stopped, lowered, finished_after, finished, outcome}
use Rattle.meaning.specs.Visits.{visits_stmts, visits_program}
use Rattle.meaning.proofs.Imaged.{finished_lowered}
use Rattle.meaning.proofs.VisitsMost.{program_exact}
use Rattle.meaning.specs.declared.Cause.{Cause}
use Rattle.std.specs.Prelude.{Ok, Err}
use Rattle.meaning.specs.Outcome.{Outcome, refusal}
use Rattle.forward.specs.Forward.{config, going, bind, on, fwd_row, end_program}
use Rattle.forward.proofs.Chains.{program_chain}
use Rattle.store.specs.declared.Step.{Step}
use Rattle.store.specs.Layout.{visited}
use Rattle.store.specs.Store.{outcome_of, is_wide, run, main_scope, first_step, goes_on}
use Rattle.store.specs.Promise.{After}
use Rattle.store.proofs.Runs.{due, run_stopped}
use Rattle.code.specs.Cuts.{EndsProgram}
use Rattle.image.specs.Finish.{ended, Ending, Finishes}
use Rattle.lower.specs.Open.{Opened}
use Rattle.lower.specs.Told.{Counted}
use Rattle.cycle.specs.Cycle.{LowersRow}
use Rattle.cycle.proofs.Way.{wide_is}
use Rattle.lower.proofs.Start.{program_is}

-- a refusal is no image
abbrev IsImaged : Finished → Type 0
IsImaged (imaged bytes) = Unit {0}
IsImaged (stopped c place) = ⊥

no_image : {c : Cause} {place : ℕ} {bytes : List ℕ} → stopped c place ≡ imaged bytes → ⊥
no_image e = subst IsImaged (sym e) tt

-- what a run ends with is what the definition's lowering ends with
ended_on : (wide : Bool) (room last : ℕ) (x : Res ℕ) → ended wide room last (on x (λ i t. going (config [] i t))) ≡ lowered wide room last x
unfolding on
ended_on wide room last (refused c k) = refl
ended_on wide room last (done i t) = refl

module _ (mode : ℕ) (t : List ℕ) (work n : ℕ) (e : checked mode t work ≡ Ok n) where
  finished_is : (room : ℕ) → finished mode t work room ≡ lowered (wide_marks (fields t)) room (n - 1) (lower_program mode (n - 1) (read_program (fields t)))
  unfolding finished
  finished_is room = ap (λ x. finished_after mode x t room) e

  -- the lowering, step by step, from the words that it starts from
  module _ {v : ℕ} (width : v ≡ extra (wide_marks (fields t))) {w w' o o1 o2 : List ℕ} {s1 s2 : Step} (begun : Opened t n w) (rows : LowersRow t (n - 1) 0 (count_of (fields t) (n - 1)) w o (main_scope mode v n) first_step w' o1 s1)
      (ends : EndsProgram w' o1 (main_scope mode v n) s1 o2 s2 (n - 1)) where
    -- after the statements, and after main's prototype
    a1 : After w' o1 (main_scope mode v n) s1 (bind (run w (main_scope mode v n) first_step []) (fwd_row (lower_stmts mode (stmts_at (fields t) (n - 1) 0 (count_of (fields t) (n - 1))))))
    a1 = rows.does.does [] (begun.image mode v o)

    a2 : After w' o2 (main_scope mode v n) s2 (bind (run w' (main_scope mode v n) s1 a1.protos) (end_program (n - 1)))
    a2 = ends.does a1.protos a1.image

    -- the scope's width is the tree's
    abbrev wide : Bool
    wide = is_wide (main_scope mode v n)

    same_width : wide ≡ wide_marks (fields t)
    same_width = wide_is (main_scope mode v n) (wide_marks (fields t)) width

    reached : ended wide (length o2) (n - 1) (run w' (main_scope mode v n) s2 a2.protos) ≡ finished mode t work (length o)
    reached =
        let ss = stmts_at (fields t) (n - 1) 0 (count_of (fields t) (n - 1)) in
        let e1 = a1.runs ∙ ap (λ x. bind x (fwd_row (lower_stmts mode ss))) (begun.runs mode v) in
        let same : length o2 ≡ length o = ends.same ∙ rows.does.same in
        ap (ended wide (length o2) (n - 1)) (program_chain mode (n - 1) ss (run w' (main_scope mode v n) s1 a1.protos) (run w' (main_scope mode v n) s2 a2.protos) e1 a2.runs)
        ∙ ended_on wide (length o2) (n - 1) (lower_program mode (n - 1) ss)
        ∙ ap (λ k. lowered wide k (n - 1) (lower_program mode (n - 1) ss)) same
        ∙ ap (λ x. lowered wide (length o) (n - 1) (lower_program mode (n - 1) x)) (sym (program_is mode t work n e))
        ∙ ap (λ b. lowered b (length o) (n - 1) (lower_program mode (n - 1) (read_program (fields t)))) same_width
        ∙ sym (finished_is (length o))

    -- a refused row ends in a refusal
    row_going : {bytes : List ℕ} → finished mode t work (length o) ≡ imaged bytes → (x : Outcome) → outcome_of s1 ≡ x → goes_on x
    unfolding bind
    row_going f (Ok k) q = tt
    row_going f (Err why) q =
        absurd (no_image (sym (ap (ended wide (length o2) (n - 1)) (a2.runs ∙ ap (λ r. bind r (end_program (n - 1))) (run_stopped w' (main_scope mode v n) s1 a1.protos why.cause why.place q))) ∙ reached ∙ f))

    -- THE COUNT: what the words hold is the definition's, and does not wrap
    exact : {bytes : List ℕ} → finished mode t work (length o) ≡ imaged bytes → visited w' ≡ visits_program (read_program (fields t))
    exact {bytes} f =
        let u = (due (outcome_of s1) rows.does.moves.used (row_going f (outcome_of s1) refl)).visits in
        let l = finished_lowered mode t work (length o) bytes f in
        let small = program_exact mode t work l.nodes l.main l.state l.accepted l.lowering in
        let less : 1 + visits_stmts (stmts_at (fields t) (n - 1) 0 (count_of (fields t) (n - 1))) < 4294967296 = rw (program_is mode t work n e) at small in
        rw (program_is mode t work n e) (omega (arith, u, begun.counts, less))

    long_enough : 3144 ≤ length w'
    long_enough = omega (arith, rows.does.moves.fine.sound.long)

    counted_by : (x : Finished) (r : Outcome) → finished mode t work (length o) ≡ x → r ≡ outcome x → Counted t w' r
    counted_by (imaged bytes) r f h = rw h (long_enough, exact f)
    counted_by (stopped c k) r f h = rw h tt

    pub whole : {o3 : List ℕ} {r : Outcome} → Finishes w' o2 s2 (n - 1) o3 r → Ending (finished mode t work (length o)) o3 r × Counted t w' r
    whole {o3} {r} fin =
        let z : Ending (finished mode t work (length o)) o3 r = subst (λ x. Ending x o3 r) reached (fin.ends (main_scope mode v n) a2.protos a2.image) in
        (z, counted_by (finished mode t work (length o)) r refl z.told)

-- a refusal of the check
pub not_begun : (mode : ℕ) (t o : List ℕ) (work room : ℕ) (r : Outcome) {c : Cause} {k : ℕ} → r ≡ checked mode t work → r ≡ Err (refusal c k) → Ending (finished mode t work room) o r
unfolding finished
not_begun mode t o work room r {c} {k} e f = subst (λ x. Ending (finished_after mode x t room) o r) (sym f ∙ e) (record { told = f; fits = rw f (omega arith); front = rw f refl })
