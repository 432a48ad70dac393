-- Ranges of what is lowered: of every accepted tree, all that its lowering ends with fits the fields of an image (`Ranged`, in Fits).
-- The idea: every name, mark and constant of the syntax tree is a word that was lawful at its place (Tree), and one induction over the
-- lowering gives the rest (Program). What a mark must be is a parameter of both; here it is what the tree's width allows.
use Prim.Native.Nat.{ℕ, ◌-◌}
use mathlib.Core.Path.{◌≡◌, refl}
use mathlib.Core.Bool.{Bool, true, false, cond}
use mathlib.Core.List.{List}
use lib.Dec.{eqb}
use borrow.Author.Tests.{eqb-true}
use Rattle.meaning.specs.Fields.{Field, fields}
use Rattle.meaning.specs.Grammar.{mark, names, lawful, wide_marks, tags_of}
use Rattle.meaning.specs.Check.{checked}
use Rattle.meaning.specs.Read.{read_program}
use Rattle.meaning.specs.State.{State, done}
use Rattle.meaning.specs.Lower.{lower_program}
use Rattle.meaning.specs.Images.{inst_tag}
use Rattle.meaning.specs.Safety.{Lowered}
use Rattle.std.specs.Prelude.{Ok}
use Rattle.meaning.proofs.Payload.{none_lawful, due_by}
use Rattle.meaning.proofs.Spread.{Makes}
use Rattle.meaning.proofs.Unfold.{last_items}
use Rattle.meaning.proofs.Accepted.{accepted}
use Rattle.meaning.proofs.Ranges.Fits.{mark_fits, MarkIn, short_in, long_in, none_in, Ranged, StmtsFit}
use Rattle.meaning.proofs.Ranges.Tree.{any_below, tree_fits}
use Rattle.meaning.proofs.Ranges.Program.{program_ranged}
pub mod Fits
pub mod Steps
pub mod Code
pub mod Visitors
pub mod Program
pub mod Tree
pub mod Bytes

-- what is lawful as words are due, and a mark that instructions of the tree's width can have
module _ (fs : List Field) (i : ℕ) where
  abbrev in_words : (kind w : ℕ) → Bool
  in_words kind w = cond (eqb kind mark) (mark_fits (inst_tag (wide_marks fs)) w) (lawful (tags_of fs) i kind w)

  lawfully : (kind w : ℕ) → in_words kind w ≡ true → lawful (tags_of fs) i kind w ≡ true
  unfolding lawful names
  lawfully kind w = go (eqb kind mark) refl
    where
      go : (b : Bool) → eqb kind mark ≡ b → cond b (mark_fits (inst_tag (wide_marks fs)) w) (lawful (tags_of fs) i kind w) ≡ true → lawful (tags_of fs) i kind w ≡ true
      go true e h = rw (eqb-true kind mark e) refl
      go false e h = h

  made : Makes (wide_marks fs) (lawful (tags_of fs) i) in_words
  made = record {
    same = λ kind w e h. rw e h;
    short = λ v q h. rw q (short_in v (any_below (tags_of fs) i v h));
    long = λ v u q h k. rw q (long_in v u (any_below (tags_of fs) i v h) (any_below (tags_of fs) i u k));
  }

-- a mark of an accepted tree's image
abbrev pub Marked : (tree : List ℕ) → ℕ → Type 0
Marked tree = MarkIn (inst_tag (wide_marks (fields tree)))

-- the syntax tree of an accepted tree
pub accepted_fits : (mode : ℕ) (tree : List ℕ) (work n : ℕ) → checked mode tree work ≡ Ok n → StmtsFit (Marked tree) (read_program (fields tree))
accepted_fits mode tree work n e =
    let a = accepted mode tree work n e in
    let fs = fields tree in
    tree_fits (Marked tree) fs (in_words fs) (lawfully fs) (λ i w h. h)
    (λ i l. due_by fs i (a.shapes i l) (in_words fs i) (λ w h. none_lawful (tags_of fs) i w h) (made fs i)) a.some (last_items fs a.shapes a.some)

-- of a lowering that is done
pub lowering_ranged : (mode : ℕ) (tree : List ℕ) (work n main : ℕ) (s : State) → checked mode tree work ≡ Ok n → lower_program mode (n - 1) (read_program (fields tree)) ≡ done main s
    → Ranged (Marked tree) s
lowering_ranged mode tree work n main s e l = program_ranged (Marked tree) (none_in (wide_marks (fields tree))) mode (n - 1) (read_program (fields tree)) (accepted_fits mode tree work n e) main s l

-- the same of what `demand_3` hands out
pub lowered_ranged : (mode : ℕ) (tree : List ℕ) (work : ℕ) (bytes : List ℕ) (l : Lowered mode tree work bytes) → Ranged (Marked tree) l.state
lowered_ranged mode tree work bytes l = lowering_ranged mode tree work l.nodes l.main l.state l.accepted l.lowering
