-- A turn of the walk in numbers: o is the opcode where it stands, s whether a failure strikes at this step.
use Rattle.std.specs.Prelude.{ℕ, zero, suc, ◌+◌, ◌-◌, Bool, not, ◌&&◌, ◌||◌, cond, List, [], ◌∷◌, get_or, eqb, ltb, leb}
use Rattle.std.specs.declared.option.Option.{Option}
use Rattle.std.specs.declared.option.Option.TheVariants.{Some, None}
use Rattle.meaning.specs.Steps.{target}
use Rattle.meaning.specs.Paths.{landing}
use Rattle.meaning.specs.declared.Ending.{Ending}
use Rattle.meaning.specs.declared.Ending.TheVariants.{AtReturn, NoDecision, NoBudget, Failed, Handlers}

-- a decision is asked for, and none is left
abbrev pub undecided : (o : ℕ) → (s decided : Bool) → Bool
undecided o s decided = not s && (eqb o 4 && not decided)

-- the step does not end the walk, h handlers being registered: there is one to enter, and room for one that is to be registered
abbrev pub handled : (o : ℕ) → (s : Bool) → (h : ℕ) → Bool
handled o s h = (not s || ltb 0 h) && (s || (not (eqb o 48) || ltb h 256))

-- it goes on, `decided` being whether a decision is left, `within` whether budget is
abbrev pub goes_on : (o : ℕ) → (s decided within : Bool) → (h : ℕ) → Bool
goes_on o s decided within h = not (eqb o 20) && (not (undecided o s decided) && (within && handled o s h))

-- how it ends where it does not
abbrev pub ends_as : (o : ℕ) → (s decided within : Bool) → Ending
ends_as o s decided within =
    cond (eqb o 20) AtReturn
    (cond (undecided o s decided) NoDecision
    (cond (not within) NoBudget
    (cond s Failed Handlers)))

-- how it ends before the step, if it does
abbrev pub ending : (o : ℕ) → (s decided within : Bool) → (h : ℕ) → Option Ending
ending o s decided within h =
    cond (eqb o 20) (Some AtReturn)
    (cond (undecided o s decided) (Some NoDecision)
    (cond (not within) (Some NoBudget)
    (cond (s && eqb h 0) (Some Failed)
    (cond (not s && (eqb o 48 && leb 256 h)) (Some Handlers) None))))

-- where opcode o at index i goes on to, with w in b and c, and the decision d
abbrev pub onward : (o w i d : ℕ) → ℕ
onward o w i d = cond (eqb o 4) (i + 1 + d) (cond (eqb o 3) (landing (target i w)) (i + 1))

-- how many handlers are registered after the step
abbrev pub registered_after : (o : ℕ) → (s : Bool) → (h : ℕ) → ℕ
registered_after o s h = cond s h (cond (eqb o 48) (h + 1) (cond (eqb o 49) (h - 1) h))

-- the first h of an array, the last first
abbrev pub registered : List ℕ → (h : ℕ) → List ℕ
registered hs zero = []
registered hs (suc h) = get_or hs h 0 ∷ registered hs h
