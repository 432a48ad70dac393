-- Where the telling of a payload starts, as the code has it in src/starts.rt: the first row of its tag, and, where most payloads of the tag have one length,
-- their form: so many bytes, of which the first word is within bounds, the last ones are expressions, and those between are any. Only contracts of
-- inner functions cite this; proofs/Forms.antt proves that the forms say what the rows say.
use Rattle.std.specs.Prelude.{ℕ, zero, suc, ◌-◌, ◌+◌, ◌*◌, ◌/◌, ◌<◌, ◌≡◌, Bool, true, false, ◌&&◌, cond, List, [], ◌∷◌, ◌++◌, Option, None, Some, replicate, leb, ltb, eqb}
use Rattle.meaning.specs.Grammar.{any, expr, bound}
use Rattle.tree.specs.Rows.{row_at, kind_in, next_in, flow_in, ends_in}
use Rattle.tree.specs.declared.starts.Form.{Form}
use Rattle.tree.specs.declared.starts.Start.{Start}
use Rattle.tree.specs.declared.starts.TheConstants.{STARTS, WIDE_STARTS}

-- the starts by the width of marks
abbrev pub starts : (wide : Bool) → List Start
starts wide = cond wide WIDE_STARTS STARTS

-- of a number that is no tag
abbrev pub never : Start
never = record { row = 0; form = None }

-- ---- forms as rows

-- the rows from r on are of these kinds, one after the other, and then the payload may end
unfoldable pub like : (r : ℕ) → List ℕ → Bool
like r [] = ends_in (row_at r)
like r (k ∷ ks) = (eqb (kind_in (row_at r)) k && eqb (flow_in (row_at r)) 0) && like (next_in (row_at r)) ks

-- n words, the first one of a kind and the others any
unfoldable pub led : (kind n : ℕ) → List ℕ
led kind zero = []
led kind (suc n) = kind ∷ replicate n any

-- a word is within the bounds of a kind exactly where it is from `low` to `high`
unfoldable pub reaches : (kind low high : ℕ) → Bool
reaches kind low high = eqb (bound kind 0) low && cond (eqb (bound kind 2) 65536) (eqb (bound kind 1) high) (eqb (bound kind 1) (suc high) && eqb (bound kind 2) (suc high))

-- the kind of the first of n words before the expressions; where there is none, the first word is bounded by nothing here
abbrev pub lead : (r n : ℕ) → ℕ
lead r n = cond (eqb n 0) any (kind_in (row_at r))

-- a form says what the rows from r on say of a payload of its size
unfoldable pub says : (r size children low high : ℕ) → Bool
says r size children low high =
    let n = size / 2 - children in
    (like r (led (lead r n) n ++ replicate children expr) && reaches (lead r n) low high)
    && ((ltb (lead r n) expr && eqb size (2 * (n + children))) && (ltb 0 size && leb children 2))

-- that of a start
unfoldable pub formed : (r : ℕ) → Option Form → Bool
formed r None = true
formed r (Some f) = says r f.size f.children f.low f.high

-- a start that the code may go by
pub record Right (start : Start) : Type 0 where
  pub low : start.row < 122
  pub form : formed start.row start.form ≡ true
