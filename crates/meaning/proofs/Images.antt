-- Images read back (the definition stands in specs: Images, Image, Follow, Rules, Reader). What is taken is exactly what the rules allow; what was read is
-- written back as it was; what is taken has demand 3. That what the lowering writes is taken stands in Lowers.
-- The idea: an image is a list of fields, and fields in order are those of the image that they stand for.
use Prim.Native.Nat.{ℕ, ◌<◌}
use mathlib.Core.Path.{◌≡◌, subst}
use mathlib.Core.Bool.{false}
use mathlib.Core.Logic.{◌↔◌}
use mathlib.Core.Option.{Option}
use mathlib.Core.List.{List, ◌∷◌, ◌++◌}
use lib.ListN.{length}
use Rattle.meaning.specs.State.{Proto}
use Rattle.meaning.specs.Images.{Image}
use Rattle.meaning.specs.Image.{written}
use Rattle.meaning.specs.Steps.{inst_at, StepOf01, Amended, Walk}
use Rattle.meaning.specs.Safety.{All, Facts, Stands}
use Rattle.meaning.specs.Rules.{let_pass}
use Rattle.meaning.specs.Reader.{read_as, taken}
use Rattle.meaning.proofs.Safe.Walk.{stands_01}
use Rattle.meaning.proofs.Images.Fielded.{Bytes}
use Rattle.meaning.proofs.Images.Assembled.{Tagged, HeaderFits}
use Rattle.meaning.proofs.Images.Back.{taken_is, read_back}
use Rattle.meaning.proofs.Images.Written.{Good, exact, taken_good}
use Rattle.meaning.proofs.Images.Lawful.{lawful_facts}
use Rattle.meaning.proofs.Images.Walks.{all_at, each, stands}
pub mod Listed
pub mod Fielded
pub mod Assembled
pub mod Back
pub mod Written
pub mod Lawful
pub mod Walks
pub mod Lowers

module _ (tag : ℕ) (ok : Tagged tag) (bytes : List ℕ) (are : Bytes bytes) (im : Image) where
  -- theorem (a), both ways
  pub taken_exactly : (read_as tag bytes ≡ taken im) ↔ (Good tag im × (written tag im ≡ bytes))
  taken_exactly = (λ e. (taken_good tag ok bytes im are e, read_back tag bytes im ok are e), λ g. subst (λ (s : List ℕ). read_as tag s ≡ taken im) g.1 (exact tag im g.0))

  module _ (e : read_as tag bytes ≡ taken im) (before : List Proto) (p : Proto) (after : List Proto) (at : im.prototypes ≡ before ++ p ∷ after) where
    -- theorem (d): the facts at every instruction, reached or not, but for the Return that is let pass
    pub taken_facts : (i : ℕ) → i < length p.code → let_pass p i (inst_at p.code i) ≡ false → Facts im.constants before p i (inst_at p.code i)
    taken_facts i l spared = lawful_facts im.constants before p i (each im (taken_is tag bytes im e).facts before p after at i l) spared

    -- every walk of the amended steps stays inside, and meets the facts where it stands
    pub taken_stands : (o : Option ℕ) → Walk (Amended p.code) 0 o → Stands im.constants before p (Amended p.code) o
    taken_stands =
        let h = all_at (HeaderFits tag) before p after (subst (All (HeaderFits tag)) at (taken_good tag ok bytes im are e).numbers) in
        stands im (taken_is tag bytes im e).facts before p after at h.some

    -- and so does every walk of the steps of 01 alone
    pub taken_stands_01 : (o : Option ℕ) → Walk (StepOf01 p.code) 0 o → Stands im.constants before p (StepOf01 p.code) o
    taken_stands_01 = stands_01 im.constants before p taken_stands
