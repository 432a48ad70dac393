-- What the lowering starts from.
use Rattle.std.specs.Prelude.{ℕ, ◌≡◌, List, []}
use Rattle.meaning.specs.Lower.{start}
use Rattle.nodes.specs.Offsets.{Offsets}
use Rattle.forward.specs.Forward.{config, going}
use Rattle.store.specs.Layout.{visited}
use Rattle.store.specs.Store.{run, main_scope, first_step, Image, Fine}
use Rattle.store.specs.Promise.{Space}

-- the table of offsets is there, and the words stand for what the definition starts from, with room for every node
pub record Opened (t : List ℕ) (n : ℕ) (w : List ℕ) : Type 0 where
  pub offsets : Offsets t w
  pub fine : (mode wide : ℕ) → Fine w (main_scope mode wide n) first_step
  pub room : (mode wide : ℕ) → Space w (main_scope mode wide n) first_step n 0 0
  pub runs : (mode wide : ℕ) → run w (main_scope mode wide n) first_step [] ≡ going (config [] 0 start)
  pub image : (mode wide : ℕ) (o : List ℕ) → Image (main_scope mode wide n) o first_step []
  -- the program's visit
  pub counts : visited w ≡ 1
