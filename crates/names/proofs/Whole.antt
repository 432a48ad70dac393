-- 02, E14: names do not steer. Of every file, in every mode, whatever the rooms: the renamed file ends as the file does, with the rule applied to prototype
-- names and text constants of an image; and is answered alike. It holds of every file of bytes, refused by 1 to 3 or not.
use mathlib.Core.Path.{◌≡◌, refl, sym, ap, ap₂, ◌∙◌}
use mathlib.Core.Bool.{Bool, true, false, cond}
use mathlib.Core.List.{List}
use Prim.Native.Nat.{ℕ, ◌+◌, ◌-◌}
use native.Mathlib.Nat.{le_refl}
use lib.ListN.{length}
use lib.Dec.{ltb}
use Rattle.meaning.specs.Fields.{fields}
use Rattle.meaning.specs.Grammar.{wide_marks}
use Rattle.meaning.specs.Check.{checked}
use Rattle.meaning.specs.Read.{read_program}
use Rattle.meaning.specs.State.{State, Res, refused, done}
use Rattle.meaning.specs.Lower.{lower_program}
use Rattle.meaning.specs.Image.{image}
use Rattle.meaning.specs.Visits.{visits_program}
use Rattle.meaning.specs.Answer.{Finished, imaged, stopped, fitted, lowered, finished_after, finished, reply}
use Rattle.meaning.specs.declared.Cause.TheVariants.{Room}
use Rattle.meaning.specs.declared.Reply.{Reply}
use Rattle.std.specs.Prelude.{Ok, Err}
use Rattle.meaning.specs.Outcome.{Outcome}
use Rattle.meaning.proofs.Accepted.{accepted}
use Rattle.meaning.proofs.Imaged.{finished_lowered}
use Rattle.meaning.proofs.Ranges.{Marked, lowering_ranged}
use Rattle.meaning.proofs.Images.Fielded.{Bytes, payloads}
use Rattle.names.specs.Rename.{Rule, renamed, renamed_image, renamed_finished}
use Rattle.names.proofs.Changed.{stmts_by, state_by, res_by}
use Rattle.names.proofs.Lowering.{program_follows, stmts_same}
use Rattle.names.proofs.Files.{fields_renamed}
use Rattle.names.proofs.Checks.{wide_same, checked_same}
use Rattle.names.proofs.Read.{program_read}
use Rattle.names.proofs.Images.{image_renamed, length_image}

module _ (f : ℕ → ℕ) (rule : Rule f) (mode : ℕ) (tree : List ℕ) (bytes : Bytes tree) (work room : ℕ) where
  width_same : wide_marks (fields (renamed f tree)) ≡ wide_marks (fields tree)
  width_same = rw (fields_renamed f tree bytes) (wide_same f rule (fields tree) (wide_marks (fields tree)) refl)

  module _ (n : ℕ) (e : checked mode tree work ≡ Ok n) where
    read_same : read_program (fields (renamed f tree)) ≡ stmts_by f (read_program (fields tree))
    read_same =
        let a = accepted mode tree work n e in
        rw (fields_renamed f tree bytes) (program_read f rule (fields tree) (wide_marks (fields tree)) refl (payloads (length tree) tree (le_refl _) bytes) a.shapes a.some)

    -- the image, if there is room
    fitted_same : (last : ℕ) (w : Bool) (i : ℕ) (s : State) → lower_program mode (n - 1) (read_program (fields tree)) ≡ done i s → w ≡ wide_marks (fields tree)
        → fitted room last (image w (state_by f s)) ≡ renamed_finished f (fitted room last (image w s))
    unfolding renamed_finished
    fitted_same last w i s l q =
        let r = lowering_ranged mode tree work n i s e l in
        let m = image_renamed f (Marked tree) w s r.prototypes r.constants in
        rw (length_image f w s) (go (ltb room (length (image w s))) m)
      where
        go : (b : Bool) → renamed_image f (image w s) ≡ image w (state_by f s) → cond b (stopped Room last) (imaged (image w (state_by f s))) ≡ renamed_finished f (cond b (stopped Room last) (imaged (image w s)))
        go true m = refl
        go false m = ap imaged (sym m)

    lowered_same : (r : Res ℕ) → lower_program mode (n - 1) (read_program (fields tree)) ≡ r → lowered (wide_marks (fields tree)) room (n - 1) (res_by f r) ≡ renamed_finished f (lowered (wide_marks (fields tree)) room (n - 1) r)
    unfolding renamed_finished
    lowered_same (refused c p) l = refl
    lowered_same (done i s) l = fitted_same (n - 1) (wide_marks (fields tree)) i s l refl

  finished_by : (o : Outcome) → checked mode tree work ≡ o → finished_after mode o (renamed f tree) room ≡ renamed_finished f (finished_after mode o tree room)
  unfolding renamed_finished
  finished_by (Err why) e = refl
  finished_by (Ok n) e =
      rw (width_same, read_same n e, program_follows f rule mode (n - 1) (read_program (fields tree))) (lowered_same n e (lower_program mode (n - 1) (read_program (fields tree))) refl)

  -- THE THEOREM
  pub names_do_not_steer : finished mode (renamed f tree) work room ≡ renamed_finished f (finished mode tree work room)
  unfolding finished
  names_do_not_steer = rw (checked_same f rule mode tree bytes work) (finished_by (checked mode tree work) refl)

  -- the visits (E6), of an accepted tree
  visits_same : (n : ℕ) → checked mode tree work ≡ Ok n → visits_program (read_program (fields (renamed f tree))) ≡ visits_program (read_program (fields tree))
  visits_same n e = rw (read_same n e) (ap (λ (k : ℕ). 1 + k) (stmts_same f (read_program (fields tree))))

  reply_by : (x : Finished) → ((bs : List ℕ) → x ≡ imaged bs → visits_program (read_program (fields (renamed f tree))) ≡ visits_program (read_program (fields tree))) → ((bs : List ℕ) → x ≡ imaged bs → length (renamed_image f bs) ≡ length bs)
      → reply (renamed f tree) (renamed_finished f x) ≡ reply tree x
  unfolding renamed_finished
  reply_by (imaged bs) v l = ap₂ (λ (k m : ℕ). (let r : Reply = record { number = 0; place = 0; length = k; visits = m } in r)) (l bs refl) (v bs refl)
  reply_by (stopped c p) v l = refl

  -- number, place, length and visits are the same
  pub answered_alike : reply (renamed f tree) (finished mode (renamed f tree) work room) ≡ reply tree (finished mode tree work room)
  answered_alike =
      rw names_do_not_steer
      (reply_by (finished mode tree work room)
      (λ bs e. let l = finished_lowered mode tree work room bs e in visits_same l.nodes l.accepted)
      (λ bs e.
      let l = finished_lowered mode tree work room bs e in
      let r = lowering_ranged mode tree work l.nodes l.main l.state l.accepted l.lowering in
      let w = wide_marks (fields tree) in
      rw l.image_of (ap length (image_renamed f (Marked tree) w l.state r.prototypes r.constants) ∙ length_image f w l.state)))
